-- Messages as bytes and back.
use Rattle.ga_core_examples.specs.declared.messages.Message.{Message}
use Rattle.ga_core_examples.specs.declared.messages.Message.TheVariants.{Bye, Get, Ping, Put}
use Rattle.std.specs.Int.{from_be_bytes, to_be_bytes, w16}
use Rattle.std.specs.Prelude.{ℕ, ◌&&◌, List, [], ◌∷◌, ◌++◌, Option, None, Some, drop, if◌then◌else◌, length, nat_eq, slice_index, take}

-- a kind, and the fields in order
abbrev pub bytes_of : Message → List ℕ
bytes_of Ping = 0 ∷ []
bytes_of (Get key) = 1 ∷ key
bytes_of (Put key value) = 2 ∷ key ++ to_be_bytes w16 value
bytes_of (Bye reason) = 3 ∷ reason ∷ []

-- the message of these bytes, if they are one's
abbrev pub message_in : List ℕ → Option Message
message_in [] = None
message_in (kind ∷ fields) =
    if nat_eq kind 0 && nat_eq (length fields) 0 then Some Ping
    else (if nat_eq kind 1 && nat_eq (length fields) 4 then Some (Get fields)
    else (if nat_eq kind 2 && nat_eq (length fields) 6 then Some (Put (take 4 fields) (from_be_bytes w16 (drop 4 fields)))
    else (if nat_eq kind 3 && nat_eq (length fields) 1 then Some (Bye (slice_index fields 0)) else None)))
