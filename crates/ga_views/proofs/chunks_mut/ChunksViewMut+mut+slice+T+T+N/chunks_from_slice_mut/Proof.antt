-- `chunks_from_slice_mut` cuts the slice behind its whole rows, so the slice ends as what the rows' items and the
-- rest end as, one after the other. The borrow checker shows no clause on two parts where one of them is passed on to
-- a call that makes rows of it, so this proof walks the code by hand. Assumes `Logic`.
use Rattle.ga_views.proofs.walks.Names
use Names.{addr, agg, alloc_all, and_then, ap, arg, arg_laws, arith, Array, by, Dict, dnil, done, drop, drop_list, emp}
use Names.{ent, enter, fact, fact_i, feq_i, fjoin, fld, flft, follows_both, fpack, framed, free_all, from, fsplit}
use Names.{ftrue, get, get_in, GName, group, heard, hop, id⊢, impl_of, Is, lands_as, Laws, layout, length, Lft, List}
use Names.{Logic, look_at, look_in_at, move, mut_slice_vals, MutSlice, named, NamedLft, no, no_more, nothing, of_list}
use Names.{of_opd, only, owned, owns, param, param_laws, pass_all, peeks, qed, RattleType, raw, refl, returns, rewrite}
use Names.{sem, sep, sets, shows, slice_val, split, split3, stop, sub, sym, tables, take, tcons, tnil, Tuple}
use Names.{tuple_laws, tuple_type, ty_int, ty_ptr, ty_struct, uint_Makes, Ura, use0, use2, usize, Val, Valss, vint}
use Names.{vstruct, w64, whole, within, yes, !, [], ‵, ℕ, ⊑_meet, ⊑_refl, ⊑_trans, ◌$◌, ◌*◌, ◌++◌, ◌<◌, ◌∙◌, ◌∵◌, ◌∷◌}
use Names.{◌≡◌, ◌≤◌, ◌⊎◌, ◌⊑◌, ◌⊛◌}
use Rattle.std.proofs.Common.{◌/◌}
use denote.Param.NoDrop.{glues}
use denote.Struct.Declared.{shape}
use Rattle.ga_views.proofs.walks.CallStep.{asked, calls}
use Rattle.ga_views.proofs.walks.LengthCall.{calls_length}
use Rattle.ga_views.proofs.walks.SliceWalk.{gives_up}
use Rattle.ga_views.proofs.walks.SliceLaws.{Slice, slice_laws}
use Rattle.ga_views.proofs.walks.SplitWalk.{cuts}
use Rattle.ga_views.proofs.RowLemmas.{rows-of_whole, whole_by}
use Rattle.ga_views.proofs.chunks_mut.ChunksViewMut.TheLaws as rows_laws
use Rattle.ga_views.proofs.chunks_mut.ChunksViewMut.over.Met as made
use Rattle.ga_views.proofs.chunks_mut.ChunksViewMut+mut+slice+T+T+N.chunks_from_slice_mut.Code as code
use Rattle.ga_views.proofs.chunks_mut.ChunksViewMut+mut+slice+T+T+N.chunks_from_slice_mut.Statement.{statement}
use Rattle.ga_views.proofs.chunks_ref.len_of_rows.Met as counted
use Rattle.ga_views.proofs.reborrow.RefMutSliceReborrowSlice.TheImpl.Met as lent
use Rattle.ga_views.specs.Rows.{chunk_count, chunk_rest, rows}
use Rattle.ga_views.specs.contracts.chunks_mut.ChunksViewMut as rows_of
use Rattle.ga_views.specs.contracts.chunks_mut.ChunksViewMut.over as make_contract
use Rattle.ga_views.specs.contracts.chunks_mut.ChunksViewMut+mut+slice+T+T+N.chunks_from_slice_mut as F
use Rattle.ga_views.specs.contracts.chunks_ref.len_of_rows as count_contract
use Rattle.ga_views.specs.contracts.reborrow.RefMutSliceReborrowSlice.TheImpl as impl
use Rattle.ga_views.specs.declared.length.Unsigned as unsigned
use Rattle.std.proofs.Math.Nat.{div-mul-le_self}
use Rattle.std.proofs.slice.slice+T.split_at_mut.Met as cut

-- two values as a pair
module _ {M : Type 1} {𝓤 : Ura M} (𝓛 : Logic 𝓤) (R R' : RattleType) where
  both_of : (x : R.Denot) (y : R'.Denot) (v u : Val)
      → ent 𝓤 (sep 𝓤 (sem 𝓛 (R.own_val x (v ∷ []))) (sem 𝓛 (R'.own_val y (u ∷ []))))
      (sem 𝓛 ((Tuple (R ∷ R' ∷ [])).own_val (x, y) (vstruct (of_list (v ∷ u ∷ [])) ∷ [])))
  both_of x y v u =
      let out : List Val = vstruct (of_list (v ∷ u ∷ [])) ∷ [] in
      qed 𝓛 (‵ (R.own_val x (v ∷ [])) ∷ ‵ (R'.own_val y (u ∷ [])) ∷ []) ∵ nothing ! $ move !
      (2 ∷ 0 ∷ []) $ fjoin ! $ move ! (1 ∷ 0 ∷ []) $ fjoin ! $
      feq_i ! (List Val) out out refl $ fjoin ! $
      fpack ! (Valss (R ∷ R' ∷ [])) (within (shape (tuple_type (R ∷ R' ∷ []))) (x, (y, tt)) out)
      (v ∷ [], (u ∷ [], tt)) $ done !

module _ (X N : RattleType) (g : unsigned.Ghosts N.Denot) (d : Dict) where
  abbrev R : RattleType
  R = param 0 X

  -- the item and the length as `over` is given them, and the item as the slice's impl is
  abbrev Item : RattleType
  Item = arg (layout X) yes R

  abbrev Length : RattleType
  Length = arg (layout N) yes (param 1 N)

  abbrev Lent : RattleType
  Lent = arg (layout X) no R

  module _ (κ : Lft) where
    abbrev lasting : NamedLft
    lasting = record { mir = named 0; lft = κ }

    -- the slice as `over` is given it
    abbrev Part : RattleType
    Part = arg (ty_struct [] (tcons ty_ptr (tcons (ty_int w64) tnil))) no (Slice lasting 0 X)

    abbrev View : RattleType
    View = rows_of.the_row (Slice lasting 0 X) R (param 1 N) (impl.ghosts R) g

    module _ (LX : Laws X) where
      abbrev part_laws : Laws Part
      part_laws = arg_laws (ty_struct [] (tcons ty_ptr (tcons (ty_int w64) tnil))) no (Slice lasting 0 X)
          (slice_laws lasting 0 X LX) refl

      abbrev view_laws : Laws N → Laws View
      view_laws LN = rows_laws.the_row_laws (Slice lasting 0 X) R (param 1 N) (impl.ghosts R) g
          (slice_laws lasting 0 X LX) (param_laws 0 X LX) (param_laws 1 N LN)

-- `over` asks for the slice's drop, so that one's code is opened
pub chunks_from_slice_mut_spec : {M : Type 1} → statement M
unfolding Rattle.ga_views.proofs.Destruct++none.drop.Code.code
chunks_from_slice_mut_spec 𝓤 𝓛 𝓜 𝓡 wired X N LX LN g d bound =
    let 𝓣 = tables 𝓤 𝓛.H 𝓜 𝓡 𝓡.env in
    gives_up 2 X 𝓛 (F.clauses X N g d 𝓛 𝓜.mem 𝓡.returns) 𝓜 𝓡 _ _
    (code.unfolded 𝓤 𝓛.H 𝓜 𝓡 wired (X, (N, tt)) d) (λ κs qs bounds s gh fits Post leave.
    let n : ℕ = length s.now in let width : ℕ = g.USIZE in
    let κ : Lft = κs.0 in let κT : Lft = κs.1.0 in let κN : Lft = κs.1.1.0 in
    let tokens = ‵ (flft κ qs.0) ⊛ ‵ (flft κT qs.1.0) ⊛ ‵ (flft κN qs.1.1.0) ⊛ ‵ ftrue in
    let E : RattleType = param 0 X in let S : RattleType = MutSlice (named 0) κ E in
    let Rows : RattleType = View X N g d κ in let Answer : RattleType = Tuple (Rows ∷ S ∷ []) in
    qed 𝓛 ((tokens ⊛ ‵ (owns (S ∷ []) (s, tt) (mut_slice_vals s, tt)))
    ∷ raw (fact 𝓤 (κT ⊑ X.lives)) ∷ raw (fact 𝓤 (κN ⊑ N.lives)) ∷ raw (fact 𝓤 ((0 < width) ⊎ (n ≡ 0))) ∷ []) ∵
    move ! (1 ∷ []) $ heard ! _ (λ lT. move ! (1 ∷ []) $ heard ! _ (λ lN. move ! (1 ∷ []) $ drop ! $
    split ! $ split3 ! $
    enter ! _ _ _ _ _ $ alloc_all ! (λ l. pass_all ! refl ((tt, (tt, (record { fits = fits }, tt))), tt) $
    -- [the tokens, that of N last; the slice]
    sets ! (of_opd ! (get_in ! (fld ! refl (stop !)) (sub ! 1 refl (whole !)))) refl (tt, record { fits = fits }) $
    -- the rows' width
    move ! (2 ∷ []) $ calls_length N g d 𝓛 𝓜.mem 𝓡.returns ! (framed 𝓤 𝓛.H 𝓜 𝓣) bound.USIZE κN qs.1.1.0 lN
    (λ m is_width fm.
    -- [the width; the token of N; the tokens of κ, T; the slice]
    lands_as ! refl refl (tt, record { fits = fm }) $
    -- how many items lie in whole rows
    owned ! usize _ (uint_Makes 𝓛 w64) n _ (refl, fits) $
    nothing ! $ move ! (2 ∷ 0 ∷ []) $ fjoin ! $ move ! (1 ∷ 0 ∷ []) $ fjoin ! $ nothing ! $
    calls 𝓛 count_contract.ended (count_contract.clauses 𝓛 𝓜.mem 𝓡.returns) tt tt tt (n, (m, tt))
    (vint w64 n ∷ [], (vint w64 m ∷ [], tt)) tt
    (λ k. raw (fact 𝓤 (k ≡ n / m * m))) ! (framed 𝓤 𝓛.H 𝓜 𝓣)
    (counted.met 𝓤 𝓛 𝓜 𝓡 (code.calls-ga_views::chunks_ref::len_of_rows 𝓡.env wired)) (id⊢ 𝓤 _) (id⊢ 𝓤 _)
    (λ v. id⊢ 𝓤 _) (and_then ! (get ! refl) (and_then ! (get ! refl) (no_more !))) (λ v k.
    move ! (1 ∷ []) $ heard ! _ (λ is_count. move ! (1 ∷ []) $ drop ! $
    -- [the count; the tokens of N, κ, T; the slice]
    peeks ! usize (Is usize) (shows 𝓛 usize) k (v ∷ []) (λ word.
    lands_as ! (ap only word.0) refl (tt, record { fits = word.1 }) $
    rewrite ! 0 (λ (vs : List Val). ‵ (usize.own_val k vs)) word.0 refl $
    -- the slice is cut
    sets ! (addr ! (from ! (fld ! refl (hop ! (look_in_at ! 1 (sub ! 0 refl (whole !))) (stop !))))) refl (tt, tt) $
    sets ! (agg ! (and_then ! (get ! refl) (and_then ! (get_in ! (fld ! refl (stop !)) (sub ! 1 refl (whole !)))
    (no_more !)))) refl (tt, (tt, (record { fits = fits }, tt))) $
    let count : k ≡ chunk_count width s.now * width = is_count ∙ ap (λ (w : ℕ). n / w * w) is_width in
    let inside : k ≤ length s.now = omega (arith, is_count, div-mul-le_self n m) in
    move ! (4 ∷ []) $ fsplit ! $ move ! (1 ∷ []) $ drop ! $
    move ! (0 ∷ 1 ∷ 3 ∷ 4 ∷ []) $
    cuts X 𝓛 𝓜.mem 𝓡.returns κ κT qs.0 qs.1.0 bounds.0 s k ! (framed 𝓤 𝓛.H 𝓜 𝓣)
    (cut.met 𝓤 𝓛 𝓜 𝓡 (code.calls-core::slice::slice+T::split_at_mut 𝓡.env wired) X LX) lT inside
    (and_then ! (get ! refl) (and_then ! (get ! refl) (no_more !))) (λ first second parts.
    -- [the second part; the first part; what follows; the tokens of κ, T; the token of N]
    lands_as ! refl refl (
      tt,
      ((tt, (record { fits = parts.first_fits }, tt)), ((tt, (record { fits = parts.second_fits }, tt)), tt)),
    ) $
    sets ! (of_opd ! (get_in ! (fld ! refl (stop !)) (sub ! 0 refl (whole !)))) refl
    (tt, (tt, (record { fits = parts.first_fits }, tt))) $
    sets ! (of_opd ! (get_in ! (fld ! refl (stop !)) (sub ! 1 refl (whole !)))) refl
    (tt, (tt, (record { fits = parts.second_fits }, tt))) $
    sets ! (addr ! (from ! (fld ! refl (hop ! (look_in_at ! 3 (sub ! 0 refl (whole !))) (stop !))))) refl (tt, tt) $
    sets ! (agg ! (and_then ! (get ! refl) (and_then ! (get_in ! (fld ! refl (stop !)) (sub ! 1 refl (whole !)))
    (no_more !)))) refl (tt, (tt, (record { fits = parts.first_fits }, tt))) $
    -- rows are made of the first part
    let lκ : κ ⊑ X.lives = ⊑_trans κ κT X.lives bounds.0 lT in let lS : κ ⊑ κ ++ X.lives =
    ⊑_meet κ κ X.lives (⊑_refl κ) lκ in
    let P : RattleType = Part X N g d κ in let LP = part_laws X N g d κ LX in let I : RattleType = Item X N g d in
    let Z : RattleType = Length X N g d in
    let J : RattleType = Lent X N g d in let gP = impl.ghosts J in let dP : Dict = impl.dict J in
    let drops : Dict = impl_of ("ga_views::Destruct++none::drop" ∷ []) (tcons (layout P) tnil) dnil in
    let lends = lent.bound 𝓡.env (code.calls-ga_views::reborrow::RefMutSliceReborrowSlice::as_slice 𝓡.env wired)
    (code.calls-ga_views::reborrow::RefMutSliceReborrowSlice::as_mut_slice 𝓡.env wired)
    (code.calls-ga_views::reborrow::RefMutSliceReborrowSlice::item_mut 𝓡.env wired) κ J
    (arg_laws (layout X) no E (param_laws 0 X LX) refl) lκ _ 𝓤 𝓛 𝓜 𝓡 in
    let makes = made.met 𝓤 𝓛 𝓜 𝓡 (code.calls-ga_views::chunks_mut::ChunksViewMut::over 𝓡.env wired) P I Z
    LP (arg_laws (layout X) yes E (param_laws 0 X LX) refl)
    (arg_laws (layout N) yes (param 1 N) (param_laws 1 N LN) refl) gP dP g d drops
    (record { as_slice = lends.as_slice; as_mut_slice = lends.as_mut_slice; item_mut = lends.item_mut }) (record { USIZE = bound.USIZE })
    (glues "ga_views::Destruct++none::drop" 𝓡.env (code.calls-ga_views::Destruct++none::drop 𝓡.env wired) P LP _ 𝓤 𝓛
    𝓜 𝓡) in
    let whole_rows : length first.now ≡ chunk_count width first.now * width =
    whole_by (n / width) width (length first.now) (parts.first_len ∙ count) in
    nothing ! $ move ! (2 ∷ 0 ∷ []) $ fjoin ! $ move ! (3 ∷ []) $ split3 ! $ move ! (2 ∷ []) $ drop ! $
    move ! (0 ∷ 1 ∷ 5 ∷ 2 ∷ []) $ group ! 3 $
    calls 𝓛 (make_contract.ended P I Z gP dP g d drops) (make_contract.clauses P I Z gP dP g d drops 𝓛 𝓜.mem 𝓡.returns)
    (κ, (κT, (κN, tt))) (qs.0, (qs.1.0, (qs.1.1.0, tt))) tt (first, tt) (mut_slice_vals first, tt) tt
    (λ w. raw (fact 𝓤 (w.slice ≡ first))) ! (framed 𝓤 𝓛.H 𝓜 𝓣) makes
    (asked 𝓛 lS (asked 𝓛 lT (asked 𝓛 lN (fact_i 𝓤 _ (emp 𝓤) whole_rows)))) (id⊢ 𝓤 _) (λ u. id⊢ 𝓤 _)
    (and_then ! (get ! refl) (no_more !)) (λ u w. move ! (1 ∷ []) $ heard ! _ (λ this.
    -- [the rows; the tokens; the second part; what follows]
    peeks ! Rows (Is Rows) (shows 𝓛 Rows) w (u ∷ []) (λ is.
    lands_as ! refl refl (((view_laws X N g d κ LX LN).lawful 𝓛).typed w (u ∷ []) is).0 $
    sets ! (addr ! (from ! (fld ! refl (hop ! (look_in_at ! 4 (sub ! 0 refl (whole !))) (stop !))))) refl (tt, tt) $
    sets ! (agg ! (and_then ! (get ! refl) (and_then ! (get_in ! (fld ! refl (stop !)) (sub ! 1 refl (whole !)))
    (no_more !)))) refl (tt, (tt, (record { fits = parts.second_fits }, tt))) $
    let second_val : Val = slice_val second.ref_ptr (length second.now) in let out : Val =
    vstruct (of_list (u ∷ second_val ∷ [])) in
    move ! (0 ∷ 2 ∷ []) $ use2 𝓛 (‵ (Answer.own_val (w, second) (out ∷ []))) (both_of 𝓛 Rows S w second u second_val) $
    peeks ! Answer (Is Answer) (shows 𝓛 Answer) (w, second) (out ∷ []) (λ both.
    sets ! (agg ! (and_then ! (get ! refl) (and_then ! (get ! refl) (no_more !)))) refl
    (((tuple_laws (Rows ∷ S ∷ []) (view_laws X N g d κ LX LN, (slice_laws (lasting X N g d κ) 0 X LX, tt))).lawful
    𝓛).typed (w, second) (out ∷ []) both).0 $
    returns ! (look_at ! 0 refl) $ free_all ! refl $
    -- [the rows and the rest; the tokens; what follows]
    rewrite ! 2 (λ (name : GName). ‵ (follows_both (Array E 0) (Array E 0)
    (Array E 0) s.ghost_name name second.ghost_name ◌++◌)) (ap (λ (x : S.Denot). x.ghost_name) (sym this)) refl $
    let same : w.slice.now ≡ first.now = ap (λ (x : S.Denot). x.now) this in
    use0 𝓛 (raw (fact 𝓤 (w.slice.now ++ second.now ≡ s.now)))
    (fact_i 𝓤 _ (emp 𝓤) (ap (λ (items : List E.Denot). items ++ second.now) same ∙ sym parts.whole)) $
    use0 𝓛 (raw (fact 𝓤 (second.now ≡ chunk_rest width s.now)))
    (fact_i 𝓤 _ (emp 𝓤) (parts.second_is ∙ ap (λ (i : ℕ). drop_list i s.now) count)) $
    use0 𝓛 (raw (fact 𝓤 (rows width w.slice.now ≡ rows width s.now)))
    (fact_i 𝓤 _ (emp 𝓤) (ap (rows width) (same ∙ (parts.first_is ∙ ap (λ (i : ℕ). take i s.now) count))
    ∙ rows-of_whole width s.now)) $
    nothing ! $ nothing ! $ fjoin ! $ move ! (5 ∷ 0 ∷ 4 ∷ 6 ∷ []) $
    by ! (leave out (w, second)))))))))))))))
