-- The words as the system lists them, with the program's name first.
use Rattle.ga_rows.specs.Arguments.{meaning_of_words}
use Rattle.ga_rows.specs.declared.arguments.Mode.{Mode}
use Rattle.ga_rows.specs.declared.arguments.Width.{Width}
use Rattle.std.specs.Iterator.Runs.{WholeRun}
use Rattle.std.specs.Prelude.{Option, Result, IsOkAnd, String, drop, map, string_bytes}
use Rattle.std.specs.declared.alloc.Global.{Global}

-- the words were listed to their end, and P holds of what all but the first mean
abbrev pub ListedAnd : {S E : Type 0} → (S → Option (String Global) → S → Type 0) → Result S E
    → (Option (Mode × Width) → Type 0) → Type 0
ListedAnd next_gives listed P = IsOkAnd listed (λ words. WholeRun next_gives words
    (λ run. P (meaning_of_words (map string_bytes (drop 1 run.items)))))
