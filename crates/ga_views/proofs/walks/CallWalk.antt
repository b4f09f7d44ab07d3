-- A call of whose parameters none but the first is had at the end: all of its walk but what it asks, what it gives and
-- its own steps. Assumes `Logic`.
--     Behind            a parameter behind the first.        told_by, number
--     Self              the first parameter.        by_ref
--     Call              such a call: its signature and its clauses
--     Walk, meets       its walk, which is given what it asks and how it ends, and its contract from that
--     meets_grown       the same with the lifetimes of type parameters
--     Linked, linked    what a walk may call
use Rattle.ga_views.proofs.walks.ClauseFacts.{AllFacts, facts, learns}
use Rattle.ga_views.proofs.walks.Names
use Names.{AllGo, AllOutlive, Are, Callee, Calls, Clauses, Closed, closing, Denots, done, emp, Ended, ent, fits_of}
use Names.{fjoin, flat, FmC, Fn, framed as all_framed, fsplit, Fun, Goes-dropped, has_of, id⊢, Is, Ises, Item, leaves}
use Names.{Lfts, List, Logic, Loops, Meets, Memory, Model, move, named, nothing, on_entry, Outlives, owns, plain, qed}
use Names.{RattleType, raw, refl, Routine, Running, sem, Shares, shr_vals, Slot, SProp, stay_dropped, Stays, subst, suc}
use Names.{suffices, sym, tables, toks, Triple, type_at, types_at, uint_Tells, uint_vals, Ura, use0, usize, Val, Vals}
use Names.{Valss, via, w64, walk_of, WpFn, yes, !, [], ‵, ℕ, ⋆, ◌$◌, ◌++◌, ◌<◌, ◌^◌, ◌∵◌, ◌∷◌, ◌≡◌}
use Rattle.std.proofs.raw_atomic.Walks.{proved_at}
use denote.Builtin.{One, RefOf}
use denote.Exit.{Kept, Last, Seen, see}
use denote.Laws.{Tells}
use denote.Ref.{shr_Tells}
use denote.Signature.{Signature}
use denote.Triple.Carry.{grown, spared}
use denote.Triple.End.{Fins, Kepts}
use denote.Triple.Table.{run_framed}
use denote.Triple.Walked.{Goes, Stay}

-- `Word` is what its machine values have besides
pub record Behind (n : ℕ) : Type 3 where
  pub row : RattleType
  pub kept : Kept
  pub Word : Type 0
  pub vals : row.Denot → Word → List Val
  pub Fine : row.Denot → Word → Type 0
  pub told : {M : Type 1} {𝓤 : Ura M} → Logic 𝓤 → (x : row.Denot) (vs : List Val) → Is row x vs
      → (w : Word) × (vs ≡ vals x w) × Fine x w
  pub ends : {M : Type 1} {𝓤 : Ura M} (𝓛 : Logic 𝓤)
      → Goes 𝓛 n (plain (λ _. row)) kept (stay_dropped (plain (λ _. row)) kept)

-- its value says how it is stored
abbrev pub told_by : {n : ℕ} (S : RattleType) (k : Kept) (vals : S.Denot → List Val) (Fine : S.Denot → Type 0)
    → ((x : S.Denot) (vs : List Val) → Is S x vs → (vs ≡ vals x) × Fine x)
    → ((M : Type 1) (𝓤 : Ura M) (𝓛 : Logic 𝓤) → Goes 𝓛 n (plain (λ _. S)) k (stay_dropped (plain (λ _. S)) k))
    → Behind n
told_by S k vals Fine told ends = record {
  row = S;
  kept = k;
  Word = Unit {0};
  vals = λ x _. vals x;
  Fine = λ x _. Fine x;
  told = λ 𝓛 x vs is. (tt, (told x vs is).0, (told x vs is).1);
  ends = λ {M} {𝓤} 𝓛. ends M 𝓤 𝓛;
}

abbrev pub number : {n : ℕ} → Kept → Behind n
number {n} k = told_by usize k (uint_vals w64) (λ m. m < 2 ^ 64) (λ m vs is. (uint_Tells w64 m vs is, is.1))
    (λ M 𝓤 𝓛. Goes-dropped 𝓛 n (plain (λ _. usize)) k (λ κs x f. refl))

-- a walk begins with what it owns, and ends with what is still had of it
pub record Self (n : ℕ) : Type 3 where
  pub slot : Slot n
  pub kept : Kept
  pub stay : Stay slot kept
  pub vals : (κs : Lfts n) → (slot.row κs).Denot → List Val
  pub tells : (κs : Lfts n) → Tells (slot.row κs) (Is (slot.row κs)) (vals κs)
  pub ends : {M : Type 1} {𝓤 : Ura M} (𝓛 : Logic 𝓤) → Goes 𝓛 n slot kept stay

-- a `&`
abbrev pub by_ref : {n : ℕ} (S : RattleType) → One S.mir → Self (suc n)
by_ref {n} S one = let s = RefOf {n = suc n} (0 ∷ []) tt (plain (λ _. S)) (λ _. one) in record {
  slot = s;
  kept = yes;
  stay = stay_dropped s yes;
  vals = λ _. shr_vals;
  tells = λ κs. shr_Tells (named 0) κs.0 S;
  ends = λ 𝓛. Goes-dropped 𝓛 (suc n) s yes (λ κs x f. refl);
}

module _ {n : ℕ} where
  abbrev slots : List (Behind n) → List (Slot n)
  slots [] = []
  slots (p ∷ ps) = plain (λ _. p.row) ∷ slots ps

  abbrev kepts : (ps : List (Behind n)) → Kepts (slots ps)
  kepts [] = tt
  kepts (p ∷ ps) = (p.kept, kepts ps)

  abbrev dropped : (ps : List (Behind n)) → Stays (slots ps) (kepts ps)
  dropped [] = tt
  dropped (p ∷ ps) = (stay_dropped (plain (λ _. p.row)) p.kept, dropped ps)

  abbrev pub Words : List (Behind n) → Type 0
  Words [] = Unit {0}
  Words (p ∷ ps) = p.Word × Words ps

  all_end : (ps : List (Behind n)) {M : Type 1} {𝓤 : Ura M} (𝓛 : Logic 𝓤)
      → AllGo 𝓛 n (slots ps) (kepts ps) (dropped ps)
  all_end [] 𝓛 = tt
  all_end (p ∷ ps) 𝓛 = (p.ends 𝓛, all_end ps 𝓛)

  module _ (κs : Lfts n) where
    abbrev rows : List (Behind n) → List RattleType
    rows ps = types_at (slots ps) κs

    abbrev pub Args : List (Behind n) → Type 0
    Args ps = Denots (rows ps)

    abbrev pub Lasts : (ps : List (Behind n)) → Args ps → Type 0
    Lasts ps = Fins κs (slots ps) (kepts ps)

    abbrev vals_of : (ps : List (Behind n)) → Args ps → Words ps → Valss (rows ps)
    vals_of [] a w = tt
    vals_of (p ∷ ps) a w = (p.vals a.0 w.0, vals_of ps a.1 w.1)

    abbrev pub flat_of : (ps : List (Behind n)) (a : Args ps) → Words ps → List Val
    flat_of ps a w = flat (rows ps) (vals_of ps a w)

    abbrev pub Fines : (ps : List (Behind n)) → Args ps → Words ps → Type 0
    Fines [] a w = Unit {0}
    Fines (p ∷ ps) a w = p.Fine a.0 w.0 × Fines ps a.1 w.1

    all_told : {M : Type 1} {𝓤 : Ura M} → Logic 𝓤 → (ps : List (Behind n)) (a : Args ps) (vss : Valss (rows ps))
        → Are (rows ps) (Ises (rows ps)) a vss → (w : Words ps) × (vss ≡ vals_of ps a w) × Fines ps a w
    all_told 𝓛 [] a vss are = (tt, refl, tt)
    all_told 𝓛 (p ∷ ps) a vss are =
        let one = p.told 𝓛 a.0 vss.0 are.0 in let others = all_told 𝓛 ps a.1 vss.1 are.1 in
        ((one.0, others.0), (λ i. (one.1 i, others.1 i)), (one.2, others.2))

    all_fit : (ps : List (Behind n)) (a : Args ps) (ws : Lasts ps a)
        → fits_of κs (slots ps) (kepts ps) (dropped ps) a ws
    all_fit [] a ws = tt
    all_fit (p ∷ ps) a ws = (tt, all_fit ps a.1 ws.1)

    none_had : {M : Type 1} {𝓤 : Ura M} (𝓛 : Logic 𝓤) (ps : List (Behind n)) (a : Args ps) (ws : Lasts ps a)
        (vss : Valss (rows ps)) → ent 𝓤 (emp 𝓤) (sem 𝓛 (has_of κs (slots ps) (kepts ps) (dropped ps) a ws vss))
    none_had {𝓤 = 𝓤} 𝓛 [] a ws vss = id⊢ 𝓤 (emp 𝓤)
    none_had 𝓛 (p ∷ ps) a ws vss =
        qed 𝓛 [] ∵ use0 𝓛 (‵ (has_of κs (slots ps) (kepts ps) (dropped ps) a.1 ws.1 vss.1))
        (none_had 𝓛 ps a.1 ws.1 vss.1) $ nothing ! $ fjoin ! $ done !

-- what is asked of the parameters, and what is promised of them, of the result and of the first as it is seen at last
pub record Call (n : ℕ) : Type 3 where
  pub outlives : List (Outlives n)
  pub me : Self n
  pub behind : List (Behind n)
  pub out : Slot n
  pub asks : (κs : Lfts n) → (me.slot.row κs).Denot → Args κs behind → List (Type 0)
  pub gives : (M : Type 1) (𝓤 : Ura M) → Logic 𝓤 → (κs : Lfts n) → (me.slot.row κs).Denot → Args κs behind
      → (type_at out κs).Denot → Seen ((me.slot.row κs).exit me.kept) → SProp 𝓤

-- in a walk the parameters' machine values are written out
pub at_values : {M : Type 1} {𝓤 : Ura M} (𝓛 : Logic 𝓤) (T : Ended) (hs : Stays T.signature.params T.kept)
    (c : Clauses 𝓤 T) (run : Fun 𝓤) (y : (walk_of 𝓛 T hs c).Ghost) (vss : Vals T.signature y.0.0) → y.0.4 ≡ vss
    → ent 𝓤 ((walk_of 𝓛 T hs c).pre ((y.0.0, y.0.1, y.0.2, y.0.3, vss), y.1))
    (run ((walk_of 𝓛 T hs c).args ((y.0.0, y.0.1, y.0.2, y.0.3, vss), y.1))
    ((walk_of 𝓛 T hs c).post ((y.0.0, y.0.1, y.0.2, y.0.3, vss), y.1)))
    → ent 𝓤 ((walk_of 𝓛 T hs c).pre y) (run ((walk_of 𝓛 T hs c).args y) ((walk_of 𝓛 T hs c).post y))
at_values {𝓤 = 𝓤} 𝓛 T hs c run y vss e =
    subst (λ (us : Vals T.signature y.0.0). let z : (walk_of 𝓛 T hs c).Ghost =
    ((y.0.0, y.0.1, y.0.2, y.0.3, us), y.1) in ent 𝓤 ((walk_of 𝓛 T hs c).pre z)
    (run ((walk_of 𝓛 T hs c).args z) ((walk_of 𝓛 T hs c).post z))) (sym e)

module _ {n : ℕ} (c : Call n) where
  abbrev signature : Signature
  signature = record { lifetimes = n; outlives = c.outlives; params = c.me.slot ∷ slots c.behind; result = c.out }

  abbrev pub ended : Ended
  ended = record { signature = signature; kept = (c.me.kept, kepts c.behind) }

  abbrev hs : Stays ended.signature.params ended.kept
  hs = (c.me.stay, dropped c.behind)

  module _ {M : Type 1} {𝓤 : Ura M} (𝓛 : Logic 𝓤) where
    open 𝓛 use {H}

    abbrev pub clauses : Clauses 𝓤 ended
    clauses κs a = record {
      ghost = Unit {0};
      requires = λ _. facts 𝓤 (c.asks κs a.0 a.1);
      ensures = λ _ r w. c.gives M 𝓤 𝓛 κs a.0 a.1 r w.0;
    }

    module _ (κs : Lfts n) (qs : Shares n) (x : (c.me.slot.row κs).Denot) (a : Args κs c.behind) where
      -- what there is at the start of a walk
      abbrev pub Had : Words c.behind → List (Item 𝓤)
      Had w = ‵ ((c.me.slot.row κs).own_val x (c.me.vals κs x)) ∷ raw (toks 𝓛 n κs qs)
          ∷ ‵ (owns (rows κs c.behind) a (vals_of κs c.behind a w)) ∷ []

      -- what there is to be at its end
      abbrev pub Left : Val → (type_at c.out κs).Denot → Last ((c.me.slot.row κs).exit c.me.kept) x → List (Item 𝓤)
      Left v r new = ‵ (c.me.stay.has κs x new (c.me.vals κs x)) ∷ raw (toks 𝓛 n κs qs)
          ∷ ‵ ((type_at c.out κs).own_val r (v ∷ []))
          ∷ raw (c.gives M 𝓤 𝓛 κs x a r (see ((c.me.slot.row κs).exit c.me.kept) x new)) ∷ []

      -- how it ends, where it is to end in Post
      abbrev Ends : (Val → SProp 𝓤) → Type 1
      Ends Post = (v : Val) (r : (type_at c.out κs).Denot) (new : Last ((c.me.slot.row κs).exit c.me.kept) x)
          → Lasts κs c.behind a → c.me.stay.fit κs x new → ent 𝓤 (⋆ 𝓛 (Left v r new)) (Post v)

    abbrev pub Walk : Calls 𝓤 H → Loops 𝓤 H → Fn → Type 2
    Walk C Λ e = (κs : Lfts n) (qs : Shares n) → AllOutlive n c.outlives κs → (x : (c.me.slot.row κs).Denot)
        (a : Args κs c.behind) (w : Words c.behind) (Post : Val → SProp 𝓤) → AllFacts (c.asks κs x a)
        → Fines κs c.behind a w → Ends κs qs x a Post → ent 𝓤 (⋆ 𝓛 (Had κs qs x a w))
        (WpFn 𝓤 H C Λ e (c.me.vals κs x ++ flat_of κs c.behind a w) Post)

    module _ (κs : Lfts n) (qs : Shares n) (bounds : AllOutlive n c.outlives κs) (x : (c.me.slot.row κs).Denot)
        (a : Args κs c.behind) (w : Words c.behind) where
      abbrev bound : (walk_of 𝓛 ended hs clauses).Ghost
      bound = ((κs, qs, bounds, (x, a), (c.me.vals κs x, vals_of κs c.behind a w)), tt)

      entry : ent 𝓤 (on_entry 𝓛 ended.signature κs qs bound.0.3 bound.0.4) (⋆ 𝓛 (Had κs qs x a w))
      entry = qed 𝓛 (raw (toks 𝓛 n κs qs) ∷ ‵ (owns (types_at ended.signature.params κs) bound.0.3 bound.0.4) ∷ []) ∵
          move ! (1 ∷ []) $ fsplit ! $ move ! (0 ∷ 2 ∷ []) $ done !

      exits : Ends κs qs x a ((walk_of 𝓛 ended hs clauses).post bound)
      exits v r new ws fit =
          qed 𝓛 (Left κs qs x a v r new) ∵
          suffices ! _ (leaves 𝓛 ended hs clauses bound v r (new, ws) (fit, all_fit κs c.behind a ws)) $
          use0 𝓛 (‵ (has_of κs (slots c.behind) (kepts c.behind) (dropped c.behind) a ws (vals_of κs c.behind a w)))
          (none_had κs 𝓛 c.behind a ws (vals_of κs c.behind a w)) $
          move ! (1 ∷ 0 ∷ []) $ fjoin ! $ move ! (1 ∷ []) $ done !

    -- the call's contract, from its walk
    pub meets : (𝓜 : Model 𝓤 H) (𝓡 : Running 𝓤 H 𝓜) (k : Callee) (e : Fn) → let 𝓣 = tables 𝓤 H 𝓜 𝓡 𝓡.env in
        Closed 𝓤 H 𝓣.C 𝓣.Λ k e → Walk 𝓣.C 𝓣.Λ e → Meets 𝓛 ended.signature (𝓣.C k) (closing 𝓛 ended clauses)
    meets 𝓜 𝓡 k e closed walk =
        let 𝓣 = tables 𝓤 H 𝓜 𝓡 𝓡.env in
        proved_at 𝓛 ended hs clauses 𝓜 𝓡 (c.me.ends 𝓛, all_end c.behind 𝓛) k e closed
        (λ y are. let κs = y.0.0 in let qs = y.0.1 in let bounds = y.0.2 in let x = y.0.3.0 in let a = y.0.3.1 in
        let vss = y.0.4 in
        let told = all_told κs 𝓛 c.behind a vss.1 are.1 in
        at_values 𝓛 ended hs clauses (WpFn 𝓤 H 𝓣.C 𝓣.Λ e) y (c.me.vals κs x, vals_of κs c.behind a told.0)
        (λ i. (c.me.tells κs x vss.0 are.0 i, told.1 i))
        (learns 𝓤 (c.asks κs x a) _ (λ asked. via 𝓤 _ (entry κs qs bounds x a told.0)
        (walk κs qs bounds x a told.0 _ asked told.2 (exits κs qs bounds x a told.0)))))

-- the same with the lifetimes ℓs of type parameters
pub meets_grown : {n : ℕ} (c : Call n) {M : Type 1} {𝓤 : Ura M} (𝓛 : Logic 𝓤) (𝓜 : Model 𝓤 𝓛.H) (𝓡 : Running 𝓤 𝓛.H 𝓜)
    (m : ℕ) (ℓs : Lfts m) (k : Callee) (e : Fn) → let 𝓣 = tables 𝓤 𝓛.H 𝓜 𝓡 𝓡.env in
    Closed 𝓤 𝓛.H 𝓣.C 𝓣.Λ k e → Walk c 𝓛 𝓣.C 𝓣.Λ e
    → Triple 𝓤 (𝓡.run (𝓡.env k)) (grown 𝓛 (ended c).signature m ℓs (closing 𝓛 (ended c) (clauses c 𝓛)))
meets_grown c 𝓛 𝓜 𝓡 m ℓs k e closed walk =
    spared 𝓛 (ended c).signature (𝓡.run (𝓡.env k)) (run_framed _ 𝓛.H 𝓜 𝓡 (𝓡.env k)) m ℓs
    (closing 𝓛 (ended c) (clauses c 𝓛)) (meets c 𝓛 𝓜 𝓡 k e closed walk)

-- what a walk may call, with what the callees' contracts speak of
pub record Linked {M : Type 1} {𝓤 : Ura M} (𝓛 : Logic 𝓤) : Type 2 where
  pub at_mem : Memory → SProp 𝓤
  pub run : Routine → Fun 𝓤
  pub C : Calls 𝓤 𝓛.H
  pub Λ : Loops 𝓤 𝓛.H
  pub framed : FmC 𝓤 𝓛.H 𝓛.laws C

abbrev pub linked : {M : Type 1} {𝓤 : Ura M} (𝓛 : Logic 𝓤) (𝓜 : Model 𝓤 𝓛.H) → Running 𝓤 𝓛.H 𝓜 → Linked 𝓛
linked {𝓤 = 𝓤} 𝓛 𝓜 𝓡 = let 𝓣 = tables 𝓤 𝓛.H 𝓜 𝓡 𝓡.env in
    record { at_mem = 𝓜.mem; run = 𝓡.returns; C = 𝓣.C; Λ = 𝓣.Λ; framed = all_framed 𝓤 𝓛.H 𝓜 𝓣 }
