-- What the program's ends are as exit statuses and as texts on standard error.
use Rattle.ga_rows.specs.declared.arguments.TheConstants.{USAGE}
use Rattle.ga_rows.specs.declared.status.Status.{Status}
use Rattle.ga_rows.specs.declared.status.Status.TheVariants.{Fault, Memory, Rest, Whole, Words}
use Rattle.std.specs.Prelude.{◌≡◌, ℕ, List, Option, None, Some, codes}

abbrev pub exit_status : Status → ℕ
exit_status Whole = 0
exit_status Rest = 1
exit_status Words = 2
exit_status Memory = 3
exit_status Fault = 4

-- an exit status is that of a status with P
abbrev pub ExitsAs : ℕ → (Status → Type 0) → Type 0
ExitsAs code P = (status : Status) × (code ≡ exit_status status) × P status

-- the text, without the end of its line
abbrev pub message_of : Status → Option (List ℕ)
message_of Whole = None
message_of Rest = None
message_of Words = Some USAGE.now
message_of Memory = Some (codes "ga_rows: out of memory")
message_of Fault = Some (codes "ga_rows: read or write fault")
