-- `take_last` moves the last item out, and its slot is room. Assumes `Logic`.
use Rattle.ga_boxed.proofs.walks
use walks.{ !, [], ap, args, arith, Around, Cr, done, El, el_x, elτ, froom, full_share, Giving, Held, inst_fn, item_out}
use walks.{length, length-append, List, Logic, meets_taking, part_at, Placing, qed, R, refl, rewrite, room_in, split}
use walks.{split_last, sym, sz, Taken, Ura, use1, use2, ‵, ℕ, ◌$◌, ◌*◌, ◌++◌, ◌+◌, ◌∙◌, ◌∵◌, ◌∷◌, ◌≡◌, ◌≢◌, ◌⊛◌}
use Rattle.ga_boxed.specs.contracts.live_block.cells.Cells.take_last.Key.{name as #self}
use Rattle.ga_boxed.proofs.live_block.cells.Cells.take_last.Statement as stated
use Rattle.ga_boxed.proofs.live_block.cells.Cells.take_last.Code as code

module _ (E : El) where
  abbrev Stands : Placing E
  Stands d index = index + 1 ≡ d.passed + length d.items

  abbrev Gives : Giving E
  Gives d r new = (new.at ≡ d.at) ∷ (new.passed ≡ d.passed) ∷ (d.items ≡ new.items ++ r ∷ []) ∷ (new.room ≡ d.room + 1)
      ∷ []

  taken : {M : Type 1} {𝓤 : Ura M} (𝓛 : Logic 𝓤) (d : (Cr E).Denot) (index : ℕ) → Stands d index → d.items ≢ []
      → Taken E 𝓛 Gives d index
  taken 𝓛 d index stands some =
      let s = sz E in let m = d.passed in let xs = d.items in let n = d.room in let last = split_last xs some in
      let x = last.0 in let ys = last.1.0 in let cut : xs ≡ ys ++ x ∷ [] = last.1.1 in
      let less : length ys + 1 ≡ length xs = sym (ap length cut ∙ length-append ys (x ∷ [])) in
      let here : (o : ℕ) → (m + length ys) * s + o ≡ index * s + o = λ o.
      let behind : m + length ys ≡ index = omega (arith, stands, less) in ap (λ k. k * s + o) behind in
      record {
        item = x;
        new = record { mark = d.mark; at = d.at; passed = m; items = ys; room = n + 1 };
        given = (refl, (refl, (cut, refl)));
        at = refl;
        within = omega arith;
        all = omega arith;
        Others = λ b o. Around E 𝓛 b o m ys n;
        out = λ b o. qed 𝓛 (‵ (Held E 𝓛 b o m xs n) ∷ []) ∵
            rewrite ! 0 (λ (l : List (el_x E)). ‵ (Held E 𝓛 b o m l n)) cut refl $
            use1 𝓛 (‵ (part_at (R E) full_share x b ((m + length ys) * s + o)) ⊛ ‵ (Around E 𝓛 b o m ys n))
            (item_out E 𝓛 b o m ys x n) $ split ! $ rewrite ! 0
            (λ (k : ℕ). ‵ (part_at (R E) full_share x b k)) (here o) refl $ done !;
        back = λ b o. qed 𝓛 (‵ (froom (elτ E) b (index * s + o)) ∷ ‵ (Around E 𝓛 b o m ys n) ∷ []) ∵
            rewrite ! 0 (λ (k : ℕ). ‵ (froom (elτ E) b k)) (sym (here o)) refl $
            use2 𝓛 (‵ (Held E 𝓛 b o m ys (n + 1))) (room_in E 𝓛 b o m ys n) $ done !;
      }

pub take_last_spec : {M : Type 1} → stated.statement M
take_last_spec 𝓤 𝓛 𝓜 𝓡 wired X LX y =
    let E : El = record { row = X; laws = LX } in
    meets_taking E (Stands E) (Gives E) 𝓛 𝓜 𝓡 (#self (args E)) (inst_fn (args E) code.function) _
    (code.unfolded 𝓤 𝓛.H 𝓜 𝓡 wired (X, tt)) (taken E 𝓛) ((y.0.0, y.0.1, tt, y.0.3, y.0.4), y.1)
