-- What a build or a map wrote: a place of it looked up, and all of it read back by a map that may fail.
use Rattle.ga_core.specs.Tries.{try_map}
use Rattle.std.proofs.Common.{◌≡◌, ℕ, suc, ◌+◌, ◌<◌, ◌∙◌, List, [], ◌∷◌, Ok, Result, Some, arith, get_or}
use Rattle.std.proofs.Common.{length, map, refl, slice_get, sym}
use Rattle.std.proofs.lemmas.List.FromFn.{get_or-map-range_with_len}
use Rattle.std.proofs.lemmas.Option.{get_or_from_slice_get}
use Rattle.std.specs.List.{range_with_len}

-- an item of a table that was built
pub slice_get-built : {X : Type 0} (f : ℕ → X) (a n i : ℕ) (x : X) → i < n
    → slice_get (map f (range_with_len a n)) i ≡ Some x → x ≡ f (a + i)
slice_get-built f a n i x inside is = sym (get_or_from_slice_get (map f (range_with_len a n)) i x x is)
    ∙ get_or-map-range_with_len f a n i (a + i) x inside refl

-- what a map wrote, read back
pub tried_back : {T U E : Type 0} (f : T → Result U E) (g : U → T) (xs : List U) (ys : List T) → ys ≡ map g xs
    → ((i : ℕ) (d : U) → i < length xs → f (g (get_or xs i d)) ≡ Ok (get_or xs i d)) → try_map f ys ≡ Ok xs
tried_back f g [] ys is back = rw is refl
tried_back f g (x ∷ xs) ys is back =
    rw (is, back 0 x (omega arith), tried_back f g xs (map g xs) refl (λ i d inside. back (suc i) d (omega arith))) refl

pub ruleset tables = (get_or-map-range_with_len, slice_get-built, tried_back)
