-- The slot at either end of the items: it leaves the room and returns to it, and the item in it leaves the items.
-- Assumes `Logic`.
--     split_first, split_last      what is not empty has a first and a last item
--     place_after, empty_snoc      the place of the first item is one more that is empty
--     room_out, room_in            the first place of the room
--     item_out, item_in            the last item
use Rattle.ga_boxed.proofs.walks.Names
use Names.{ !, [], add_times, ap, arith, as_raw, as_written, at, at_mul, cells, cut_app, done, drop as skip, El, el_x}
use Names.{elτ, empty, ent, fjoin, Fml, froom, fsep, fsplit, full_share, join_app, length, length-append, List, Logic}
use Names.{mem, move, next, nothing, part_at, qed, R, refl, rewrite, room_snoc, sem, sep, split, suc, sym, ty_array}
use Names.{Ura, use1, use2, ‵, ℕ, ◌$◌, ◌*◌, ◌++◌, ◌+◌, ◌∙◌, ◌∵◌, ◌∷◌, ◌≡◌, ◌≢◌, ◌⊛◌}
use Rattle.ga_boxed.proofs.walks.WalkParts.{sz}

module _ {X : Type 0} where
  pub split_first : (xs : List X) → xs ≢ [] → (x : X) × ((ys : List X) × (xs ≡ x ∷ ys))
  split_first [] some = absurd (some refl)
  split_first (x ∷ xs) some = (x, (xs, refl))

  last_of : (x : X) (xs : List X) → (y : X) × ((ys : List X) × (x ∷ xs ≡ ys ++ y ∷ []))
  last_of x [] = (x, ([], refl))
  last_of x (z ∷ xs) = let last = last_of z xs in (last.0, (x ∷ last.1.0, ap (λ ys. x ∷ ys) last.1.1))

  pub split_last : (xs : List X) → xs ≢ [] → (y : X) × ((ys : List X) × (xs ≡ ys ++ y ∷ []))
  split_last [] some = absurd (some refl)
  split_last (x ∷ xs) some = last_of x xs

module _ (E : El) where
  abbrev s : ℕ
  s = sz E

  -- the slots behind the first item begin one size further
  pub place_after : (m o : ℕ) → m * s + o + s ≡ (m + 1) * s + o
  place_after m o = omega (arith, next m s)

  module _ {M : Type 1} {𝓤 : Ura M} (𝓛 : Logic 𝓤) (b : ℕ) where
    open 𝓛 use {H}

    -- the room of m slots, with the room of one behind it, is the room of m + 1
    pub empty_snoc : (m o : ℕ) → ent 𝓤 (sep 𝓤 (H.room (elτ E) b (m * s + o)) (sem 𝓛 (empty (R E) b o m)))
        (sem 𝓛 (empty (R E) b o (m + 1)))
    empty_snoc m o = qed 𝓛 (‵ (froom (elτ E) b (m * s + o)) ∷ ‵ (empty (R E) b o m) ∷ []) ∵ move ! (1 ∷ []) $
        as_written ! (ty_array (elτ E) m) b o $ use2 𝓛 (‵ (froom (ty_array (elτ E) (suc m)) b o))
        (room_snoc (record { row = E.row; laws = E.laws }) 𝓛 b o m) $ as_raw ! (ty_array (elτ E) (suc m)) b o $
        rewrite ! 0 (λ (k : ℕ). ‵ (empty (R E) b o k)) {x = m + 1} (omega arith) refl $ done !

    abbrev Row : List (el_x E) → ℕ → Fml
    Row xs o = cells (mem (R E)) xs b o

    abbrev Item : el_x E → ℕ → Fml
    Item x o = part_at (R E) full_share x b o

    abbrev Room : ℕ → ℕ → Fml
    Room o n = empty (R E) b o n

    module _ (o m : ℕ) where
      abbrev start : ℕ
      start = m * s + o

      -- where the slot behind the items begins
      abbrev pub End : List (el_x E) → ℕ
      End xs = (m + length xs) * s + o

      -- what `cells_own` has besides the bound
      abbrev pub Held : List (el_x E) → ℕ → Fml
      Held xs n = fsep (Row xs start) (fsep (Room o m) (Room (End xs) n))

      -- the same without the slot behind the items
      abbrev pub Around : List (el_x E) → ℕ → Fml
      Around xs n = fsep (Row xs start) (fsep (Room o m) (Room (End xs + s) n))

      end_is : (xs : List (el_x E)) → at start s (length xs) ≡ End xs
      end_is xs = let sum = add_times m (length xs) s in at_mul start s (length xs) ∙ omega arith

      next_end : (xs : List (el_x E)) (x : el_x E) → End xs + s ≡ End (xs ++ x ∷ [])
      next_end xs x =
          let long : m + length xs + 1 ≡ m + length (xs ++ x ∷ []) = omega (arith, length-append xs (x ∷ [])) in
          place_after (m + length xs) o ∙ ap (λ k. k * s + o) long

      pub room_out : (xs : List (el_x E)) (n k : ℕ) → k + 1 ≡ n
          → ent 𝓤 (sem 𝓛 (Held xs n)) (sep 𝓤 (H.room (elτ E) b (End xs)) (sem 𝓛 (Around xs k)))
      room_out xs n k e = qed 𝓛 (‵ (Held xs n) ∷ []) ∵ fsplit ! $ move ! (1 ∷ []) $ fsplit ! $ move ! (1 ∷ []) $
          rewrite ! 0 (λ (j : ℕ). ‵ (Room (End xs) j)) {x = suc k} (omega arith) refl $
          as_written ! (ty_array (elτ E) (suc k)) b (End xs) $
          use1 𝓛 (‵ (froom (elτ E) b (End xs)) ⊛ ‵ (froom (ty_array (elτ E) k) b (End xs + s)))
          (𝓛.laws.room_uncons (elτ E) k b (End xs)) $ split ! $ move ! (1 ∷ []) $
          as_raw ! (ty_array (elτ E) k) b (End xs + s) $ move ! (2 ∷ 0 ∷ []) $ fjoin ! $ move ! (2 ∷ 0 ∷ []) $ fjoin ! $
          move ! (1 ∷ 0 ∷ []) $ done !

      pub room_in : (xs : List (el_x E)) (n : ℕ) → ent 𝓤 (sep 𝓤 (H.room (elτ E) b (End xs)) (sem 𝓛 (Around xs n)))
          (sem 𝓛 (Held xs (n + 1)))
      room_in xs n = qed 𝓛 (‵ (froom (elτ E) b (End xs)) ∷ ‵ (Around xs n) ∷ []) ∵ move ! (1 ∷ []) $ fsplit ! $ move !
          (1 ∷ []) $ fsplit ! $ move ! (1 ∷ []) $ as_written ! (ty_array (elτ E) n) b (End xs + s) $ move !
          (3 ∷ 0 ∷ []) $
          use2 𝓛 (‵ (froom (ty_array (elτ E) (suc n)) b (End xs))) (𝓛.laws.room_cons (elτ E) n b (End xs)) $
          as_raw ! (ty_array (elτ E) (suc n)) b (End xs) $
          rewrite ! 0 (λ (j : ℕ). ‵ (Room (End xs) j)) {x = n + 1} (omega arith) refl $ move ! (1 ∷ 0 ∷ []) $ fjoin ! $
          move ! (1 ∷ 0 ∷ []) $ fjoin ! $ done !

      pub item_out : (xs : List (el_x E)) (x : el_x E) (n : ℕ)
          → ent 𝓤 (sem 𝓛 (Held (xs ++ x ∷ []) n)) (sep 𝓤 (sem 𝓛 (Item x (End xs))) (sem 𝓛 (Around xs n)))
      item_out xs x n = qed 𝓛 (‵ (Held (xs ++ x ∷ []) n) ∷ []) ∵ fsplit ! $
          use1 𝓛 (‵ (Row xs start) ⊛ ‵ (Row (x ∷ []) (at start s (length xs))))
          (cut_app 𝓛 (mem (R E)) xs (x ∷ []) b start) $ split ! $ move ! (2 ∷ []) $ fsplit ! $ move ! (1 ∷ []) $
          rewrite ! 0 (λ (k : ℕ). ‵ (Room k n)) (sym (next_end xs x)) refl $ move ! (1 ∷ 0 ∷ []) $ fjoin ! $ move !
          (1 ∷ 0 ∷ []) $ fjoin ! $ move ! (1 ∷ []) $ fsplit ! $
          rewrite ! 0 (λ (k : ℕ). ‵ (Item x k)) (end_is xs) refl $ move ! (1 ∷ []) $ skip ! $ done !

      pub item_in : (xs : List (el_x E)) (x : el_x E) (n : ℕ)
          → ent 𝓤 (sep 𝓤 (sem 𝓛 (Item x (End xs))) (sem 𝓛 (Around xs n))) (sem 𝓛 (Held (xs ++ x ∷ []) n))
      item_in xs x n = qed 𝓛 (‵ (Item x (End xs)) ∷ ‵ (Around xs n) ∷ []) ∵
          rewrite ! 0 (λ (k : ℕ). ‵ (Item x k)) (sym (end_is xs)) refl $ nothing ! $ move ! (1 ∷ 0 ∷ []) $ fjoin ! $
          move ! (1 ∷ []) $ fsplit ! $ move ! (0 ∷ 2 ∷ []) $
          use2 𝓛 (‵ (Row (xs ++ x ∷ []) start)) (join_app 𝓛 (mem (R E)) xs (x ∷ []) b start) $ move !
          (1 ∷ []) $ fsplit ! $ move ! (1 ∷ []) $
          rewrite ! 0 (λ (k : ℕ). ‵ (Room k n)) (next_end xs x) refl $ move ! (1 ∷ 0 ∷ []) $ fjoin ! $ move !
          (1 ∷ 0 ∷ []) $ fjoin ! $ done !
