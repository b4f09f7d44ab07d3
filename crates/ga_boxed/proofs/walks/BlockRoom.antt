-- A `Cells` that holds no item is made of nothing or of a block's room, and gives that room back. Assumes `Logic`.
use Rattle.ga_boxed.proofs.walks.Names
use Names.{ !, [], arith, as_raw, as_written, block_ptr, cells_own, check, done, drop as skip, El, elτ, emp, empty, ent}
use Names.{fjoin, flt_i, flt_l, froom, fsplit, guard, Logic, move, nothing, qed, R, refl, rewrite, sem, subst, ty_array}
use Names.{Ura, use0, use2, via, zero-mul, ‵, ℕ, ◌$◌, ◌*◌, ◌+◌, ◌<◌, ◌^◌, ◌∵◌, ◌∷◌, ◌≡◌}
use Rattle.ga_boxed.proofs.BlockLemmas.{none_fits}
use Rattle.ga_boxed.proofs.walks.WalkParts.{block_ty, sz}
use Rattle.std.proofs.ptr.Rows.{glued}

module _ (E : El) {M : Type 1} {𝓤 : Ura M} (𝓛 : Logic 𝓤) (b o : ℕ) where
  open 𝓛 use {H}

  abbrev s : ℕ
  s = sz E

  -- the room of no slots
  pub no_room : (at : ℕ) → ent 𝓤 (emp 𝓤) (sem 𝓛 (empty (R E) b at 0))
  no_room at = qed 𝓛 [] ∵ use0 𝓛 (‵ (froom (ty_array (elτ E) 0) b at)) (𝓛.laws.room_nil (elτ E) b at) $
      as_raw ! (ty_array (elτ E) 0) b at $ done !

  pub all_empty : (n : ℕ) → n * s < 2 ^ 63 → ent 𝓤 (H.room (block_ty E n) b o)
      (sem 𝓛 (cells_own (R E) (block_ptr b o) 0 [] n))
  all_empty n small =
      qed 𝓛 (‵ (empty (R E) b o n) ∷ []) ∵ rewrite ! 0 (λ (k : ℕ). ‵ (empty (R E) b k n)) {x = (0 + 0) * s + o}
      (omega (arith, zero-mul s)) refl $
      use0 𝓛 (‵ (empty (R E) b o 0)) (no_room o) $ fjoin ! $ nothing ! $ fjoin ! $
      flt_i ! ((0 + 0 + n) * s) (2 ^ 63) (let all : n ≡ 0 + 0 + n = omega arith in
      subst (λ k. k * s < 2 ^ 63) all small) $ fjoin ! $ done !

  pub none_empty : ent 𝓤 (emp 𝓤) (sem 𝓛 (cells_own (R E) (block_ptr b o) 0 [] 0))
  none_empty = via 𝓤 (sem 𝓛 (empty (R E) b o 0)) (no_room o) (all_empty 0 (none_fits 0 s refl))

  pub to_block : (m n len : ℕ) → m + n ≡ len → ent 𝓤 (sem 𝓛 (cells_own (R E) (block_ptr b o) m [] n))
      (guard 𝓤 (len * s < 2 ^ 63) (H.room (block_ty E len) b o))
  to_block m n len e =
      qed 𝓛 (‵ (cells_own (R E) (block_ptr b o) m [] n) ∷ []) ∵ fsplit ! $ flt_l ! (λ fit.
      let all : m + 0 + n ≡ len = omega arith in let behind : (m + 0) * s + o ≡ o + m * s = omega arith in
      check ! (subst (λ k. k * s < 2 ^ 63) all fit) $ fsplit ! $ skip ! $ fsplit ! $
      as_written ! (ty_array (elτ E) m) b o $ move ! (1 ∷ []) $
      as_written ! (ty_array (elτ E) n) b ((m + 0) * s + o) $
      rewrite ! 0 (λ (k : ℕ). ‵ (froom (ty_array (elτ E) n) b k)) behind refl $ move ! (1 ∷ 0 ∷ []) $
      use2 𝓛 (‵ (froom (ty_array (elτ E) len) b o)) (glued (record { row = E.row; laws = E.laws }) 𝓛 m n len b o e) $
      as_raw ! (ty_array (elτ E) len) b o $ done !)
