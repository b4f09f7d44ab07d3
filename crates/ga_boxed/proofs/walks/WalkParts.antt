-- What the walks share: a value of one pointer, one of no bytes, a tuple of three, an item as a machine value and in
-- memory, and how a walk begins and ends. Assumes `Logic`.
use Rattle.ga_boxed.proofs.walks.Names
use Names.{ !, [], a_type, Al, align, ap, Args, Behind, bounded, capped, capped_is, dcons, Dict, dnil, done, El, el_x}
use Names.{elτ, emp, ent, fat, feq_i, fjoin, flft, fpack, ftrue, full_share, Ghosts, Goal, Goes-dropped, Good, id⊢, Is}
use Names.{Item, join, lawful, Laws, Lfts, List, Logic, move, no, nothing, one, param, part_at, part_out, peeks, pick}
use Names.{plain, Ptr, ptr_val, qed, R, RattleType, raw, RawPtr, rawptr_Tells, rawptr_vals, refl, sem, sep, Seq, Shape}
use Names.{shape, Shares, shows, size, some, split, Step, step, Struct, Struct-Tells, Tells, toks, Tuple, tuple_type}
use Names.{Ty, ty_array, type_size, Ura, use1, Val, Valss, vcons, vnil, vstruct, within, word, ‵, ℕ, ◌$◌, ◌*◌, ◌<◌, ◌^◌}
use Names.{◌∙◌, ◌∵◌, ◌∷◌, ◌≡◌, ◌⊛◌}
use denote.Shadow.{makes_shadow}
use mir.Raw.{raw as bare}
use prog.RawLaws.{size-raw, align-raw}
use denote.Struct.Declared as Declared
use Rattle.ga_boxed.specs.contracts.live_block.cells.Cells as C-type
use Rattle.ga_boxed.specs.contracts.live_block.cells.Base as B-type
use Rattle.ga_boxed.specs.contracts.live_block.cells.Deed as D-type

module _ (E : El) where
  -- the type that a block of n slots is asked for
  abbrev pub block_ty : ℕ → Ty
  block_ty n = bare (ty_array (elτ E) n)

  pub block_size : (n : ℕ) → n * type_size (R E) < 2 ^ 64 → capped (size (block_ty n)) ≡ n * type_size (R E)
  block_size n fits = ap capped (size-raw (ty_array (elτ E) n)) ∙ capped_is (n * type_size (R E)) fits

  pub block_align : (n : ℕ) → capped (align (block_ty n)) ≡ capped (align (elτ E))
  block_align n = ap capped (align-raw (ty_array (elτ E) n))

abbrev pub al_of : (W : RattleType) → Laws W → Ghosts W.Denot → Dict → Dict → Al
al_of W LW g d drops = record { row = W; laws = LW; g = g; d = d; drops = drops }

-- the type arguments of a function over an item and an allocator, and the second of them
module _ (E : El) (Z : Al) where
  abbrev pub alloc_args : Args
  alloc_args = bounded (a_type ∷ a_type ∷ []) (E.row, (Z.row, tt)) (dcons Z.d (dcons Z.drops dnil))

  abbrev pub P : RattleType
  P = param 1 Z.row

  abbrev pub Dd : RattleType
  Dd = D-type.the_row (R E) P Z.g

module _ (E : El) where
  abbrev pub Cr : RattleType
  Cr = C-type.the_row (R E)

  abbrev pub Bs : RattleType
  Bs = B-type.the_row (R E)

  -- the one field of `Cells`, which takes no bytes
  abbrev pub Mark : RattleType
  Mark = Struct (shape (C-type.the_type (R E)))

  abbrev pub sz : ℕ
  sz = type_size (R E)

abbrev one_field : Shape
one_field = record { name = []; args = []; types = []; fields = RawPtr ∷ [] }

abbrev Word : RattleType
Word = Struct one_field

-- a base is its pointer, as a machine value
abbrev pub base_vals : (E : El) → (Bs E).Denot → List Val
base_vals E c = word c.ptr ∷ []

pub base_Tells : (E : El) → Tells (Bs E) (Is (Bs E)) (base_vals E)
base_Tells E c = Struct-Tells one_field (rawptr_vals, tt) (rawptr_Tells, tt) (c.ptr, tt)

abbrev pub mark : Val
mark = vstruct (vcons (vstruct vnil) vnil)

pub mark_Tells : (E : El) → Tells (Mark E) (Is (Mark E)) (λ _. mark ∷ [])
mark_Tells E = Struct-Tells (shape (C-type.the_type (R E))) ((λ _. vstruct vnil ∷ []), tt) ((λ x vs p. p.1.0), tt)

pub mark_made : (E : El) {M : Type 1} {𝓤 : Ura M} (𝓛 : Logic 𝓤)
    → ent 𝓤 (emp 𝓤) (sem 𝓛 ((Mark E).own_val (tt, tt) (mark ∷ [])))
mark_made E 𝓛 = makes_shadow 𝓛 ((Mark E).own_val (tt, tt) (mark ∷ [])) (λ vss. (tt, ((λ uss. (tt, tt)), tt)))
    ((vstruct vnil ∷ [], tt), (refl, ((tt, (refl, tt)), tt)))

module _ {M : Type 1} {𝓤 : Ura M} {𝓛 : Logic 𝓤} {K : Type 0} {Γ : List (Item 𝓤)} {G : Goal 𝓤 𝓛.H} where
  pub word_made : K → (c : Ptr) → Step K 𝓛 (‵ (Word.own_val (c, tt) (word c ∷ [])) ∷ Γ) G Γ G
  word_made t c = step (λ s.
      nothing t $ feq_i t (List Val) (ptr_val c ∷ []) (ptr_val c ∷ []) refl $ fjoin t $ feq_i t (List Val) (word c ∷ [])
      (word c ∷ []) refl $ fjoin t $
      fpack t (Valss (RawPtr ∷ [])) (within one_field (c, tt) (word c ∷ [])) (ptr_val c ∷ [], tt) $ s)

abbrev pub three_val : Val → Val → Val → Val
three_val u v w = vstruct (vcons u (vcons v (vcons w vnil)))

pub three_of : {M : Type 1} {𝓤 : Ura M} (𝓛 : Logic 𝓤) (R S T : RattleType) (x : R.Denot) (y : S.Denot) (z : T.Denot)
    (u v w : Val)
    → ent 𝓤 (sep 𝓤 (sem 𝓛 (R.own_val x (u ∷ []))) (sep 𝓤 (sem 𝓛 (S.own_val y (v ∷ []))) (sem 𝓛 (T.own_val z (w ∷ [])))))
    (sem 𝓛 ((Tuple (R ∷ S ∷ T ∷ [])).own_val (x, y, z) (three_val u v w ∷ [])))
three_of 𝓛 R S T x y z u v w =
    qed 𝓛 (‵ (R.own_val x (u ∷ [])) ∷ ‵ (S.own_val y (v ∷ [])) ∷ ‵ (T.own_val z (w ∷ [])) ∷ []) ∵ nothing ! $ move !
    (3 ∷ 0 ∷ []) $ fjoin ! $ move ! (2 ∷ 0 ∷ []) $ fjoin ! $ move ! (1 ∷ 0 ∷ []) $ fjoin ! $
    feq_i ! (List Val) (three_val u v w ∷ []) (three_val u v w ∷ []) refl $ fjoin ! $
    fpack ! (Valss (R ∷ S ∷ T ∷ [])) (within (Declared.shape (tuple_type (R ∷ S ∷ T ∷ []))) (x, (y, (z, tt)))
    (three_val u v w ∷ [])) (u ∷ [], (v ∷ [], (w ∷ [], tt))) $ done !

-- an item in memory is its machine value there, and what that owns
module _ {M : Type 1} {𝓤 : Ura M} {𝓛 : Logic 𝓤} {K : Type 0} {Γ : List (Item 𝓤)} {G : Goal 𝓤 𝓛.H} where
  pub value_out : K → (E : El) (x : el_x E) (b o : ℕ)
      → ((v : Val) → Good (elτ E) v → Seq K 𝓛 (‵ (fat full_share (elτ E) b o v) ∷ ‵ (E.row.own_val x (v ∷ [])) ∷ Γ) G)
      → Seq K 𝓛 (‵ (part_at (R E) full_share x b o) ∷ Γ) G
  value_out t E x b o k =
      use1 𝓛 (some (λ (v : Val). ‵ (fat full_share (elτ E) b o v) ⊛ ‵ (E.row.own_val x (v ∷ []))))
      (part_out 𝓛 (R E) refl full_share x b o) $ pick t (λ v. split t $ move t (1 ∷ []) $
      peeks t (R E) (Is (R E)) (shows 𝓛 (R E)) x (v ∷ []) (λ p.
      move t (1 ∷ 0 ∷ []) $ k v ((lawful E 𝓛).typed x (v ∷ []) p).0))

-- what is owned of an item is one machine value, of its type
pub is_one : (E : El) {M : Type 1} {𝓤 : Ura M} (𝓛 : Logic 𝓤) (x : el_x E) (vs : List Val) → Is (R E) x vs
    → (v : Val) × (vs ≡ v ∷ []) × Good (elτ E) v
is_one E 𝓛 x vs is = one E vs ((lawful E 𝓛).typed x vs is)

abbrev pub an_item : {n : ℕ} → El → Behind n
an_item {n} E = record {
  row = R E;
  kept = no;
  Word = Val;
  vals = λ _ v. v ∷ [];
  Fine = λ _ v. Good (elτ E) v;
  told = is_one E;
  ends = λ 𝓛. Goes-dropped 𝓛 n (plain (λ _. R E)) no (λ κs x f. refl);
}

-- the tokens of the lifetimes of the two type parameters
abbrev pub others : {M : Type 1} {𝓤 : Ura M} → Lfts 3 → Shares 3 → Item 𝓤
others κs qs = ‵ (flft κs.1.0 qs.1.0) ⊛ ‵ (flft κs.1.1.0 qs.1.1.0) ⊛ ‵ ftrue

module _ {M : Type 1} {𝓤 : Ura M} {𝓛 : Logic 𝓤} {K : Type 0} {Γ : List (Item 𝓤)} {G : Goal 𝓤 𝓛.H} where
  pub tokens_out : K → (κs : Lfts 3) (qs : Shares 3)
      → Step K 𝓛 (‵ (flft κs.0 qs.0) ∷ others κs qs ∷ Γ) G (raw (toks 𝓛 3 κs qs) ∷ Γ) G
  tokens_out t κs qs = step (λ s. use1 𝓛 (‵ (flft κs.0 qs.0) ⊛ others κs qs) (id⊢ 𝓤 _) $ split t $ s)

  pub tokens_in : K → (κs : Lfts 3) (qs : Shares 3)
      → Step K 𝓛 (raw (toks 𝓛 3 κs qs) ∷ Γ) G (‵ (flft κs.0 qs.0) ∷ others κs qs ∷ Γ) G
  tokens_in t κs qs = step (λ s. join t $ use1 𝓛 (raw (toks 𝓛 3 κs qs)) (id⊢ 𝓤 _) $ s)
