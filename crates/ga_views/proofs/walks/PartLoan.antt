-- A part of the items of a slice that is lent on. Assumes `Logic`.
--     part, place, written, Others     the items of the part, where they lie, the slice with others written over them,
--                                      and what the part leaves of it in memory
--     cut, keeps                       the slice's items in memory are the part and the others, and back
--     Whole                            a slice that was lent, with what lent it
--     lends_slice, lends_part          a part of it is lent for as long as it was, and what lent it follows the part: a
--                                      part wherever it lies, and one from a place on
use Rattle.ga_views.proofs.walks.Names
use Names.{ap, arith, Arr, Array, at, at_mul, await, Body, cells, coded_list, cut_app, done, drop, drop_list, ent, ex}
use Names.{fbor, feq_i, feq_l, fjoin, flft, Fml, fobs, follows, follows_then, fsplit, GName, group, heres, heres_id}
use Names.{Holey, Item, join_app, later, length, Lft, List, Logic, mem, move, MutBor, MutSlice, named, now, open_ref}
use Names.{pick, qed, RattleType, raw, refl, rewrite, Room, sem, SemTy, sep, Share, show, slice_of, slice_val, some}
use Names.{split, split3, SProp, subst, sym, take, takes_part, updating, Ura, use1, use2, !, [], ‵, ℕ, ◌$◌, ◌*◌, ◌++◌}
use Names.{◌+◌, ◌∙◌, ◌∵◌, ◌∷◌, ◌≡◌, ◌≤◌, ◌⊛◌}
use borrow.Rule.Slice.PartMut.{mid_of, post_of, put_mid, same_len_mid}
use lib.ListN.{take-append-drop}
use lib.Seq.{length-take-le}
use native.Mathlib.Nat.{lt_of_le_of_lt, mul-le-mul_right}
use Rattle.ga_views.proofs.walks.ItemLoan.{spot}
use Rattle.ga_views.proofs.PartLemmas.{part_filled, part_long}
use Rattle.ga_views.specs.Parts.{part_set}
use Rattle.std.specs.List.{refill}

-- the slice is d, and the part its `len` items from place `from` on
module _ {M : Type 1} {𝓤 : Ura M} (𝓛 : Logic 𝓤) (R : RattleType) (d : MutBor (List R.Denot)) (from len : ℕ) where
  abbrev pub part : List R.Denot
  part = mid_of from len d.now

  abbrev pub place : ℕ
  place = spot R d from

  abbrev pub written : List R.Denot → List R.Denot
  written ws = refill (length d.now) d.now (part_set from len d.now ws)

  abbrev pub Items : SemTy
  Items = Arr (mem R) (length d.now)

  abbrev pub Part : SemTy
  Part = Arr (mem R) (length part)

  -- the items before the part, and those behind it
  abbrev front : List R.Denot
  front = take from d.now

  abbrev back : List R.Denot
  back = post_of from len d.now

  abbrev Front : Fml
  Front = cells (mem R) front d.ref_ptr.0 d.ref_ptr.1

  abbrev Back : Fml
  Back = cells (mem R) back d.ref_ptr.0 (at place (mem R).size (length part))

  abbrev pub Others : SProp 𝓤
  Others = sep 𝓤 (sem 𝓛 Front) (sem 𝓛 Back)

  module _ (within : from + len ≤ length d.now) where
    -- the items before the part end where it begins
    begins : at d.ref_ptr.1 (mem R).size (length front) ≡ place
    begins =
        at_mul d.ref_ptr.1 (mem R).size (length front)
        ∙ ap (λ n. n * (mem R).size + d.ref_ptr.1) (length-take-le from d.now (omega arith))

    pub cut : ent 𝓤 (sem 𝓛 (Items.own_at d.now d.ref_ptr.0 d.ref_ptr.1))
        (sep 𝓤 (sem 𝓛 (Part.own_at part d.ref_ptr.0 place)) Others)
    cut =
        let block = d.ref_ptr.0 in
        let behind = drop_list from d.now in
        qed 𝓛 (‵ (Items.own_at d.now block d.ref_ptr.1) ∷ []) ∵ fsplit ! $ drop ! $
        rewrite ! 0 (λ (l : List R.Denot). ‵ (cells (mem R) l block d.ref_ptr.1))
        (sym (take-append-drop from d.now)) refl $
        use1 𝓛 (‵ Front ⊛ ‵ (cells (mem R) behind block (at d.ref_ptr.1 (mem R).size (length front))))
        (cut_app 𝓛 (mem R) front behind block d.ref_ptr.1) $
        split ! $ move ! (1 ∷ []) $
        rewrite ! 0 (λ (n : ℕ). ‵ (cells (mem R) behind block n)) begins refl $
        rewrite ! 0 (λ (l : List R.Denot). ‵ (cells (mem R) l block place)) (sym (take-append-drop len behind)) refl $
        use1 𝓛 (‵ (cells (mem R) part block place) ⊛ ‵ Back) (cut_app 𝓛 (mem R) part back block place) $ split ! $
        -- [the part's items; those behind; those before]
        feq_i ! ℕ (length part) (length part) refl $ fjoin ! $ move ! (0 ∷ 2 ∷ 1 ∷ []) $ done !

    pub keeps : (ws : List R.Denot) → ent 𝓤 (sep 𝓤 (sem 𝓛 (Part.own_at ws d.ref_ptr.0 place)) Others)
        (sem 𝓛 (Items.own_at (written ws) d.ref_ptr.0 d.ref_ptr.1))
    keeps ws =
        let block = d.ref_ptr.0 in
        qed 𝓛 (‵ (Part.own_at ws block place) ∷ ‵ Front ∷ ‵ Back ∷ []) ∵ fsplit ! $ feq_l ! (λ e.
        rewrite ! 2 (λ (n : ℕ). ‵ (cells (mem R) back block (at place (mem R).size n))) (sym e) refl $ move !
        (0 ∷ 2 ∷ []) $
        use2 𝓛 (‵ (cells (mem R) (ws ++ back) block place)) (join_app 𝓛 (mem R) ws back block place) $
        rewrite ! 0 (λ (n : ℕ). ‵ (cells (mem R) (ws ++ back) block n)) (sym begins) refl $ move ! (1 ∷ 0 ∷ []) $
        use2 𝓛 (‵ (cells (mem R) (put_mid from len d.now ws) block d.ref_ptr.1))
        (join_app 𝓛 (mem R) front (ws ++ back) block d.ref_ptr.1) $
        feq_i ! ℕ (length (put_mid from len d.now ws)) (length d.now) (same_len_mid from len d.now ws e) $ fjoin ! $
        rewrite ! 0 (λ (l : List R.Denot). ‵ (Items.own_at l block d.ref_ptr.1))
        (part_filled from len d.now ws within e) refl $ done !)

    -- the part's items are counted by a word, as the slice's are
    pub part_room : Room R (length d.now) → Room R (length part)
    part_room rm =
        let fewer : length part ≤ length d.now = omega (arith, part_long from len d.now within) in
        (lt_of_le_of_lt fewer rm.0, lt_of_le_of_lt (mul-le-mul_right (mem R).size fewer) rm.1)

-- the slice is s. What lent it, a `From` under the name γ, ends as `after` of the slice's items
module _ {M : Type 1} {𝓤 : Ura M} (𝓛 : Logic 𝓤) (From R : RattleType) (after : List R.Denot → From.Denot) (κ : Lft)
    (q : Share) (γ : GName) (s : MutBor (List R.Denot)) where
  open 𝓛 use {H, A}

  abbrev block : ℕ
  block = s.ref_ptr.0

  abbrev all : SemTy
  all = Arr (mem R) (length s.now)

  -- its last value and its borrow, the token, and what lent it
  abbrev pub Whole : SProp 𝓤
  Whole = sep 𝓤 (A.obs s.ghost_name ((coded_list R.coded).code (heres R s.now)))
      (sep 𝓤 (A.bor κ (Body (Arr (Holey (mem R)) (length s.now)) block s.ref_ptr.1 s.ghost_name))
      (sep 𝓤 (A.lft κ q) (sem 𝓛 (follows From (Array R 0) γ s.ghost_name after))))

  -- the part lies at `lies` and has these items; the slice's items are `over` of those that are then written there
  module _ (lies : ℕ) (items : List R.Denot) (over : List R.Denot → List R.Denot) where
    abbrev these : SemTy
    these = Arr (mem R) (length items)

    -- a reference to the part, by its name
    abbrev pub loan : GName → MutBor (List R.Denot)
    loan δ = record { ref_ptr = (block, lies); ghost_name = δ; now = items }

    -- it is to k items
    abbrev result : ℕ → GName → Fml
    result k δ = (MutSlice (named 0) κ R).own_val (loan δ) (slice_val (block, lies) k ∷ [])

    abbrev tied : GName → Fml
    tied δ = follows From (Array R 0) γ δ (λ ws. after (over ws))

    -- the reference, the token, and what lent the slice
    abbrev pub LentSlice : ℕ → GName → SProp 𝓤
    LentSlice k δ = sep 𝓤 (sem 𝓛 (result k δ)) (sep 𝓤 (A.lft κ q) (sem 𝓛 (tied δ)))

    abbrev pub lent_slice : ℕ → GName → Item 𝓤
    lent_slice k δ = ‵ (result k δ) ⊛ ‵ (flft κ q) ⊛ ‵ (tied δ)

    pub lends_slice : Room R (length items) → (Rest : SProp 𝓤)
        → ent 𝓤 (sem 𝓛 (all.own_at s.now block s.ref_ptr.1)) (sep 𝓤 (sem 𝓛 (these.own_at items block lies)) Rest)
        → ((ws : List R.Denot) → ent 𝓤 (sep 𝓤 (sem 𝓛 (these.own_at ws block lies)) Rest)
        (sem 𝓛 (all.own_at (over ws) block s.ref_ptr.1)))
        → ent 𝓤 Whole (H.⇛ (ex 𝓤 (LentSlice (length items))))
    lends_slice fits Rest cut back =
        let code = (coded_list R.coded).code in
        qed 𝓛 (‵ (fobs s.ghost_name (code (heres R s.now)))
        ∷ ‵ (fbor κ (Body (Arr (Holey (mem R)) (length s.now)) block s.ref_ptr.1 s.ghost_name)) ∷ ‵ (flft κ q)
        ∷ ‵ (follows From (Array R 0) γ s.ghost_name after) ∷ []) ∵
        updating ! $ rewrite ! 0 (λ (l : List R.Denot). ‵ (fobs s.ghost_name (code l))) (heres_id R s.now) refl $
        open_ref ! tt all $ use1 𝓛 (‵ (these.own_at items block lies) ⊛ raw Rest) cut $ split ! $
        -- [the part; the others; the open borrow, in three entries; what lent the slice follows it]
        move ! (2 ∷ 3 ∷ 4 ∷ 0 ∷ 1 ∷ []) $ group ! 5 $
        use1 𝓛 (later (some (λ (δ : GName). ‵ (fobs δ (code items)) ⊛ ‵ (fbor κ (Body these block lies δ)) ⊛
        ‵ (flft κ q) ⊛ ‵ (follows (Array R 0) (Array R 0) s.ghost_name δ over))))
        (takes_part 𝓛 all these over κ q block s.ref_ptr.1 block lies s.ghost_name Rest back (code s.now) (code s.now)
        items) $
        await ! tt $ pick ! (λ δ. split3 ! $ move ! (2 ∷ []) $ split ! $ move ! (4 ∷ 1 ∷ []) $
        use2 𝓛 (‵ (tied δ)) (follows_then 𝓛 From (Array R 0) (Array R 0) after over γ s.ghost_name δ) $
        -- [what lent the slice follows the part; the token; the part's last value; its borrow]
        move ! (2 ∷ 3 ∷ []) $ use2 𝓛 (‵ (result (length items) δ)) (slice_of 𝓛 R (named 0) κ block lies δ items fits) $
        now ! $ show ! (LentSlice (length items)) δ $ move ! (0 ∷ 2 ∷ 1 ∷ []) $ done !)

  -- the part is the `len` items from place `from` on
  module _ (from len : ℕ) where
    abbrev pub slice : GName → MutBor (List R.Denot)
    slice = loan (place 𝓛 R s from len) (part 𝓛 R s from len) (written 𝓛 R s from len)

    abbrev pub lent_part : ℕ → GName → Item 𝓤
    lent_part = lent_slice (place 𝓛 R s from len) (part 𝓛 R s from len) (written 𝓛 R s from len)

    abbrev pub LentPart : ℕ → GName → SProp 𝓤
    LentPart = LentSlice (place 𝓛 R s from len) (part 𝓛 R s from len) (written 𝓛 R s from len)

    pub lends_part : from + len ≤ length s.now → Room R (length s.now) → ent 𝓤 Whole (H.⇛ (ex 𝓤 (LentPart len)))
    lends_part within rm =
        subst (λ (k : ℕ). ent 𝓤 Whole (H.⇛ (ex 𝓤 (LentPart k)))) (part_long from len s.now within)
        (lends_slice (place 𝓛 R s from len) (part 𝓛 R s from len) (written 𝓛 R s from len)
        (part_room 𝓛 R s from len within rm) (Others 𝓛 R s from len) (cut 𝓛 R s from len within)
        (keeps 𝓛 R s from len within))
