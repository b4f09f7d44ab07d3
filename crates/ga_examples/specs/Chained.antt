-- Digests of digests.
use Rattle.std.specs.Prelude.{ℕ, zero, suc, List}

-- the digest of a message, digested again so many times
abbrev pub chained : (List ℕ → List ℕ) → List ℕ → ℕ → List ℕ
chained digest message zero = digest message
chained digest message (suc again) = digest (chained digest message again)
