-- `take_first` moves the first item out, and its slot is one more that is passed. Assumes `Logic`.
use Rattle.ga_boxed.proofs.walks
use walks.{ !, [], ap, args, arith, cells, Cr, done, El, el_x, elτ, empty, empty_snoc, fjoin, Fml, froom, fsep, fsplit}
use walks.{fsplit3, full_share, Giving, Held, inst_fn, length, List, Logic, meets_taking, mem, move, part_at}
use walks.{place_after, Placing, qed, R, refl, rewrite, split_first, suc, sym, sz, Taken, Ura, use2, ‵, ℕ, ◌$◌, ◌*◌}
use walks.{◌+◌, ◌∵◌, ◌∷◌, ◌≡◌, ◌≢◌}
use Rattle.ga_boxed.proofs.live_block.cells.Cells.take_first.Code as code
use Rattle.ga_boxed.proofs.live_block.cells.Cells.take_first.Statement as stated
use Rattle.ga_boxed.specs.contracts.live_block.cells.Cells.take_first.Key.{name as #self}

module _ (E : El) where
  -- the place of the first item
  abbrev Stands : Placing E
  Stands d index = index ≡ d.passed

  -- what the call says: the item is the first, the others are left, and one more slot is passed
  abbrev Gives : Giving E
  Gives d r new = (new.at ≡ d.at) ∷ (new.passed ≡ d.passed + 1) ∷ (d.items ≡ r ∷ new.items) ∷ (new.room ≡ d.room) ∷ []

  -- the item's cell taken out of what is held (`out`), and the rest held again with its slot empty (`back`)
  taken : {M : Type 1} {𝓤 : Ura M} (𝓛 : Logic 𝓤) (d : (Cr E).Denot) (index : ℕ) → Stands d index → d.items ≢ []
      → Taken E 𝓛 Gives d index
  taken 𝓛 d index stands some =
      let s = sz E in let m = d.passed in let n = d.room in let cut = split_first d.items some in
      let x = cut.0 in let xs = cut.1.0 in
      let others : ℕ → ℕ → Fml = λ b o. fsep (cells (mem (R E)) xs b (m * s + o + s))
      (fsep (empty (R E) b o m) (empty (R E) b ((m + suc (length xs)) * s + o) n)) in
      let long : length d.items ≡ suc (length xs) = ap length cut.1.1 in
      record {
        item = x;
        new = record { mark = d.mark; at = d.at; passed = m + 1; items = xs; room = n };
        given = (refl, (refl, (cut.1.1, refl)));
        at = refl;
        within = omega arith;
        all = omega arith;
        Others = others;
        -- split the items at the first, whose cell stands at the place
        out = λ b o. qed 𝓛 (‵ (Held E 𝓛 b o m d.items n) ∷ []) ∵
            rewrite ! 0 (λ (l : List (el_x E)). ‵ (Held E 𝓛 b o m l n)) cut.1.1 refl $ fsplit ! $ fsplit ! $
            rewrite ! 0 (λ (k : ℕ). ‵ (part_at (R E) full_share x b (k * s + o))) (sym stands) refl $ move !
            (1 ∷ 2 ∷ []) $ fjoin ! $ move ! (1 ∷ 0 ∷ []) $ done !;
        -- add the slot to those that are passed, and join the others behind it
        back = λ b o. qed 𝓛 (‵ (froom (elτ E) b (index * s + o)) ∷ ‵ (others b o) ∷ []) ∵
            rewrite ! 0 (λ (k : ℕ). ‵ (froom (elτ E) b (k * s + o))) stands refl $ move ! (1 ∷ []) $ fsplit3 ! $ move !
            (3 ∷ 1 ∷ []) $ use2 𝓛 (‵ (empty (R E) b o (m + 1))) (empty_snoc E 𝓛 b m o) $ move ! (0 ∷ 2 ∷ []) $
            rewrite ! 1 (λ (k : ℕ). ‵ (empty (R E) b (k * s + o) n)) {x = m + 1 + length xs} (omega arith) refl $
            fjoin ! $ move !
            (1 ∷ []) $ rewrite ! 0 (λ (k : ℕ). ‵ (cells (mem (R E)) xs b k)) (place_after E m o) refl $ fjoin ! $
            done !;
      }

-- the walk over the code, which goes by these parts
pub take_first_spec : {M : Type 1} → stated.statement M
take_first_spec 𝓤 𝓛 𝓜 𝓡 wired X LX y =
    let E : El = record { row = X; laws = LX } in
    meets_taking E (Stands E) (Gives E) 𝓛 𝓜 𝓡 (#self (args E)) (inst_fn (args E) code.function) _
    (code.unfolded 𝓤 𝓛.H 𝓜 𝓡 wired (X, tt)) (taken E 𝓛) ((y.0.0, y.0.1, tt, y.0.3, y.0.4), y.1)
