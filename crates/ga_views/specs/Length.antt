-- Lengths of inline arrays.
use Rattle.ga_views.specs.declared.length.TheConstants.{MAX_INLINE}
use Rattle.std.specs.Prelude.{ℕ, ◌≤◌}

-- a length that an inline array may have
abbrev pub FitsInline : ℕ → Type 0
FitsInline n = n ≤ MAX_INLINE
