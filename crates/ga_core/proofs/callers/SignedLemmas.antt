-- Signed items: a value that is passed on keeps its value, by the bound that a call's result and an item carry.
use Rattle.std.proofs.Common.{◌≡◌, ◌<◌}
use Rattle.std.proofs.lemmas.Int.{of_z-to_z, to_z-of_z}
use Rattle.std.proofs.lemmas.Option.{slice_get-get_or}
use lib.IntN.{ℤ}
use lib.Signed.{mag}
use mir.Syntax.{w8, w16, w32, w64}
use mir.Val.{of_z, to_z}

pub kept_w8 : (z : ℤ) → mag z < 128 → to_z w8 (of_z w8 z) ≡ z
kept_w8 z small = to_z-of_z w8 z (record { sfits = small })

pub kept_w16 : (z : ℤ) → mag z < 32768 → to_z w16 (of_z w16 z) ≡ z
kept_w16 z small = to_z-of_z w16 z (record { sfits = small })

pub kept_w32 : (z : ℤ) → mag z < 2147483648 → to_z w32 (of_z w32 z) ≡ z
kept_w32 z small = to_z-of_z w32 z (record { sfits = small })

pub kept_w64 : (z : ℤ) → mag z < 9223372036854775808 → to_z w64 (of_z w64 z) ≡ z
kept_w64 z small = to_z-of_z w64 z (record { sfits = small })

-- signed values that are passed on, returned, read by index and computed with
pub ruleset kept = (kept_w8, kept_w16, kept_w32, kept_w64, to_z-of_z, of_z-to_z, slice_get-get_or)
