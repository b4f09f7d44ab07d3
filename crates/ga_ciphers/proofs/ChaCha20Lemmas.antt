-- Words and their bytes.
use Rattle.ga_ciphers.specs.ChaCha20.{bytes_of_words}
use Rattle.std.proofs.Common.{◌≡◌, ℕ, List, [], ◌∷◌, ◌++◌, ap, map, refl, ◌∙◌, flat_map}
use Rattle.std.specs.Int.{to_le_bytes, w32}

-- rows that are made of words, joined
flat_map-map : {X Y : Type 0} (f : X → List Y) (xs : List X)
    → flat_map (λ row. row) (map (λ row. row) (map f xs)) ≡ flat_map f xs
flat_map-map f [] = refl
flat_map-map f (x ∷ xs) = ap (λ ys. f x ++ ys) (flat_map-map f xs)

-- rows that are the bytes of words are joined to the bytes of all
pub bytes-from_rows : (rows : List (List ℕ)) (words bytes : List ℕ) → rows ≡ map (to_le_bytes w32) words
    → bytes ≡ flat_map (λ row. row) (map (λ row. row) rows) → bytes ≡ bytes_of_words words
bytes-from_rows rows words bytes each joined = joined
    ∙ (ap (λ r. flat_map (λ row. row) (map (λ row. row) r)) each ∙ flat_map-map (to_le_bytes w32) words)
