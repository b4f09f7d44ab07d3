-- The inner reference of a `&κ mut (&κ' mut [T])` is opened and closed, and its items are lent on for all of κ. Assumes
-- `Logic`.
--     loan_of, slice_lent          what such a function asks and gives, as `LoanWalk` has it
--     opens_inner, closes_inner    the outer borrow is opened, which gives the cell of the inner reference, at the type
--                                  that the code names, and closed again
--     lends_inner                  the items are lent, and the inner reference ends at what they end as
use Rattle.ga_views.proofs.walks.Names
use Names.{a_type, Args, Arr, Array, at_last, await, Body, cell_at, closes, done, drop, ent, erased, fat, fauth, fbor}
use Names.{flft, Fml, fobor, fobs, follows, fsplit3, full_share, GName, Goal, group, Gv, Incl, Is, Item, later, layouts}
use Names.{lends_inner_slice, length, Lft, Lfts, List, Logic, mem, move, mut, mut_slice_vals, mut_vals, MutBor, MutRef}
use Names.{MutSlice, named, now, opens, param, peeks, pick, plain, pointee, qed, RattleType, raw, refl, renamed}
use Names.{rewrite, Room, SemTy, sep, Seq, Share, shows, slice_ty, slice_val, SliceRefMutOf, Slot, Soaks, some, split3}
use Names.{SProp, Step, step, Ty, ty_ref, updating, Ura, use1, use3, Val, !, [], ‵, ℕ, ◌$◌, ◌∵◌, ◌∷◌, ◌≡◌, ◌⊑◌, ◌⊛◌}
use Rattle.ga_views.proofs.walks.LoanWalk.{Loan, Words}
use Rattle.ga_views.proofs.walks.PartLoan.{Whole}
use Rattle.ga_views.specs.contracts.reborrow.RefMutSliceReborrowSlice.as_mut_slice as as_mut_slice

-- the type argument of such a function
abbrev pub args : RattleType → Args
args X = layouts (a_type ∷ []) (X, tt)

-- what is asked and given where items are lent, by a function that takes n numbers: a U is lent, the items end as
-- `written` of its last value, and `shown` is said of the result
module _ (X : RattleType) (n : ℕ) where
  abbrev R : RattleType
  R = param 0 X

  abbrev pub loan_of : (result : Slot 3) (U : RattleType) → ((κs : Lfts 3) → (result.row κs).Denot → GName)
      → ((κs : Lfts 3) → List X.Denot → Words 3 κs n → List (Type 0))
      → ((κs : Lfts 3) → List X.Denot → Words 3 κs n → U.Denot → List X.Denot)
      → ((κs : Lfts 3) → List X.Denot → Words 3 κs n → (result.row κs).Denot → Type 0) → Loan
  loan_of result U name asks written shown = record {
    more = 2;
    outlives = (as_mut_slice.signature X).outlives;
    lent = SliceRefMutOf (1 ∷ []) tt (plain (λ _. R)) (λ _. tt);
    result = result;
    numbers = n;
    asks = λ κs d ns. (κs.1.1.0 ⊑ X.lives) ∷ asks κs d.now ns;
    ties = λ κs x ns r. follows (MutSlice (named 1) κs.1.0 R) U x.ghost_name (name κs r)
        (λ w. at_last x.now (written κs x.now.now ns w));
    gives = λ κs d ns r. shown κs d.now ns r;
  }

  -- a slice is lent, which shows `part`
  abbrev pub slice_lent : ((κs : Lfts 3) → List X.Denot → Words 3 κs n → List (Type 0))
      → ((κs : Lfts 3) → List X.Denot → Words 3 κs n → List X.Denot → List X.Denot)
      → ((κs : Lfts 3) → List X.Denot → Words 3 κs n → List X.Denot) → Loan
  slice_lent asks written part = loan_of (SliceRefMutOf (0 ∷ []) tt (plain (λ _. R)) (λ _. tt)) (Array R 0)
      (λ κs r. r.ghost_name) asks written (λ κs items ns r. r.now ≡ part κs items ns)

-- the inner reference
abbrev pub Inner : RattleType → Lft → RattleType
Inner R κ' = MutSlice (named 1) κ' R

-- all the items of a slice in memory
abbrev pub Items : (R : RattleType) → MutBor (List R.Denot) → SemTy
Items R d = Arr (mem R) (length d.now)

abbrev pub items_at : (R : RattleType) → MutBor (List R.Denot) → List R.Denot → Fml
items_at R d ws = (Items R d).own_at ws d.ref_ptr.0 d.ref_ptr.1

-- the inner reference's type, as the code names it
abbrev pub in_code : RattleType → Ty
in_code R = slice_ty (ty_ref erased mut (pointee R.written))

module _ {M : Type 1} {𝓤 : Ura M} {𝓛 : Logic 𝓤} {K : Type 0} {Γ : List (Item 𝓤)} {G : Goal 𝓤 𝓛.H} where
  pub opens_inner : K → Soaks G → (R : RattleType) {κ κ' : Lft} {q : Share} (x : MutBor (MutBor (List R.Denot)))
      → (Room R (length x.now.now)
      → Seq K 𝓛 (‵ (fat full_share (in_code R) x.ref_ptr.0 x.ref_ptr.1 (slice_val x.now.ref_ptr (length x.now.now)))
      ∷ ‵ ((Inner R κ').own_val x.now (mut_slice_vals x.now))
      ∷ ‵ (fobor κ q (Body (mem (Inner R κ')) x.ref_ptr.0 x.ref_ptr.1 x.ghost_name))
      ∷ ‵ (fobs x.ghost_name ((Inner R κ').coded.code x.now)) ∷ ‵ (fauth x.ghost_name ((Inner R κ').coded.code x.now))
      ∷ Γ) G)
      → Seq K 𝓛 (‵ ((MutRef (named 0) κ (Inner R κ')).own_val x (mut_vals x)) ∷ ‵ (flft κ q) ∷ Γ) G
  opens_inner t z R {κ' = κ'} x k =
      let S = Inner R κ' in let d = x.now in let b = x.ref_ptr.0 in let o = x.ref_ptr.1 in let v =
      slice_val d.ref_ptr (length d.now) in
      fsplit3 t $ drop t $ opens t z S b o (λ vs. move t (1 ∷ []) $ peeks t S (Is S) (shows 𝓛 S) d vs (λ told.
      rewrite t 0 (λ (us : List Val). ‵ (S.own_val d us)) told.0.0 refl $
      rewrite t 1 (λ (us : List Val). ‵ (cell_at full_share S.mir us b o)) told.0.0 refl $ move t (1 ∷ []) $
      use1 𝓛 (‵ (fat full_share (in_code R) b o v)) (𝓛.laws.raw_at full_share (in_code R) b o v) $ k told.0.1))

  pub closes_inner : K → Soaks G → (R : RattleType) {κ κ' : Lft} {q : Share} {u w : Gv}
      (x : MutBor (MutBor (List R.Denot)))
      → Step K 𝓛 (‵ (fobs x.ghost_name ((Inner R κ').coded.code x.now))
      ∷ ‵ (fbor κ (Body (mem (Inner R κ')) x.ref_ptr.0 x.ref_ptr.1 x.ghost_name)) ∷ ‵ (flft κ q) ∷ Γ) G
      (‵ (fat full_share (in_code R) x.ref_ptr.0 x.ref_ptr.1 (slice_val x.now.ref_ptr (length x.now.now)))
      ∷ ‵ ((Inner R κ').own_val x.now (mut_slice_vals x.now))
      ∷ ‵ (fobor κ q (Body (mem (Inner R κ')) x.ref_ptr.0 x.ref_ptr.1 x.ghost_name)) ∷ ‵ (fobs x.ghost_name u)
      ∷ ‵ (fauth x.ghost_name w) ∷ Γ) G
  closes_inner t z R {κ' = κ'} x = step (λ s.
      let S = Inner R κ' in let b = x.ref_ptr.0 in let o = x.ref_ptr.1 in let v =
      slice_val x.now.ref_ptr (length x.now.now) in
      use1 𝓛 (‵ (cell_at full_share S.mir (v ∷ []) b o))
      (𝓛.laws.at_raw full_share (in_code R) b o v) $ closes t z S x.now (v ∷ []) b o $ s)

-- the last value of the outer reference x and its borrow, and the token
abbrev pub Open : {M : Type 1} {𝓤 : Ura M} (𝓛 : Logic 𝓤) (R : RattleType) → Lft → Lft → Share
    → MutBor (MutBor (List R.Denot)) → SProp 𝓤
Open {𝓤 = 𝓤} 𝓛 R κ κ' q x = sep 𝓤 (𝓛.A.obs x.ghost_name ((Inner R κ').coded.code x.now))
    (sep 𝓤 (𝓛.A.bor κ (Body (mem (Inner R κ')) x.ref_ptr.0 x.ref_ptr.1 x.ghost_name)) (𝓛.A.lft κ q))

-- what lends on a slice, whatever its name, lends on the inner one, which the outer reference follows
module _ {M : Type 1} {𝓤 : Ura M} (𝓛 : Logic 𝓤) (R : RattleType) (κ κ' : Lft) (q : Share)
    (x : MutBor (MutBor (List R.Denot))) where
  open 𝓛 use {H}

  pub lends_inner : Incl κ κ' → Room R (length x.now.now) → {P : SProp 𝓤}
      → ((δ : GName) → ent 𝓤 (Whole 𝓛 (Inner R κ') R (at_last x.now) κ q x.ghost_name (renamed x.now δ)) (H.⇛ P))
      → ent 𝓤 (Open 𝓛 R κ κ' q x) (H.⇛ P)
  lends_inner within room {P} then =
      qed 𝓛 (‵ (fobs x.ghost_name ((Inner R κ').coded.code x.now))
      ∷ ‵ (fbor κ (Body (mem (Inner R κ')) x.ref_ptr.0 x.ref_ptr.1 x.ghost_name)) ∷ ‵ (flft κ q) ∷ []) ∵ updating ! $
      use3 𝓛 (later (some (λ (δ : GName). ‵ ((MutSlice (named 0) κ R).own_val (renamed x.now δ) (mut_slice_vals x.now))
      ⊛ ‵ (flft κ q) ⊛ ‵ (follows (Inner R κ') (Array R 0) x.ghost_name δ (at_last x.now)))))
      (lends_inner_slice 𝓛 R (named 0) (named 1) κ κ' x within room q) $ await ! tt $ pick ! (λ δ. split3 ! $
      fsplit3 ! $ drop ! $ group ! 4 $ use1 𝓛 (later (raw P)) (then δ) $ await ! tt $ now ! $ done !)
