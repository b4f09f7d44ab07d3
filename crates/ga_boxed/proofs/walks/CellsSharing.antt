-- A `&` to the cells is made where one to an item is. Assumes `Logic`.
use Rattle.ga_boxed.proofs.walks.Names
use Names.{[], beside_shr_laws, block_ptr, cells, cells_lent, cells_own, elements_shared, elements_shr_laws, ffalse}
use Names.{fit, ftrue, Incl, Laws, Lends, Lends-both, Lends-false, Lends-first, Lends-nothing, Lends-said, length, Lft}
use Names.{List, Logic, mem, null_ptr, Ptr, RattleType, RowLaws, said_shr_laws, shared_of, type_size, Ura, ℕ, ◌*◌, ◌+◌}
use Names.{◌∷◌}
use denote.Shares.{Shares-less}
use denote.Sharing.{ShrLaws, said}

pub cells_lent_laws : (R : RattleType) → RowLaws R → (p : Ptr) (m : ℕ) (xs : List R.Denot) (n : ℕ)
    → ShrLaws (cells_lent R p m xs n)
cells_lent_laws R L (block_ptr b o) m xs n = beside_shr_laws _ _ (said_shr_laws (fit R (m + length xs + n)) tt)
    (elements_shr_laws R L xs b (m * type_size R + o))
cells_lent_laws R L null_ptr m xs n = said_shr_laws ffalse tt

module _ {M : Type 1} {𝓤 : Ura M} (𝓛 : Logic 𝓤) (l : Lft) (R : RattleType) (L : Laws R) (inc : Incl l R.lives) where
  Lends-items : (xs : List R.Denot) (b o : ℕ) → Lends 𝓛 (cells (mem R) xs b o) (elements_shared R xs b o) l
  Lends-items [] b o = Lends-nothing 𝓛 ftrue l
  Lends-items (x ∷ xs) b o =
      Lends-both 𝓛 _ (cells (mem R) xs b (o + type_size R)) (shared_of R x b o)
      (elements_shared R xs b (o + type_size R)) l (λ κ ts. Shares-less 𝓛 R R.lives l inc (L.shares 𝓛) x κ ts b o)
      (Lends-items xs b (o + type_size R))

  pub Lends-cells : (p : Ptr) (m : ℕ) (xs : List R.Denot) (n : ℕ)
      → Lends 𝓛 (cells_own R p m xs n) (cells_lent R p m xs n) l
  Lends-cells (block_ptr b o) m xs n =
      Lends-both 𝓛 (fit R (m + length xs + n)) _ (said (fit R (m + length xs + n)))
      (elements_shared R xs b (m * type_size R + o)) l (Lends-said 𝓛 (fit R (m + length xs + n)) tt l)
      (Lends-first 𝓛 (cells (mem R) xs b (m * type_size R + o)) _ (elements_shared R xs b (m * type_size R + o)) l
      (Lends-items xs b (m * type_size R + o)))
  Lends-cells null_ptr m xs n = Lends-false 𝓛 (said ffalse) l
