-- A UDP datagram as a list of bytes: four fields of two bytes each, high byte first, and the payload.
use Rattle.std.specs.Prelude.{◌≡◌, ℕ, ◌+◌, ◌-◌, ◌*◌, ◌/◌, ◌%◌, ◌^◌, ◌≤◌, ◌==◌, List, [], ◌∷◌, ◌++◌, fold, if◌then◌else◌}
use Rattle.std.specs.Prelude.{length, slice_index}

-- the number that two bytes stand for, high byte first
abbrev pub number_of : List ℕ → ℕ
number_of field = slice_index field 0 * 2 ^ 8 + slice_index field 1

-- and the two bytes of a number
abbrev pub field_of : ℕ → List ℕ
field_of number = (number / 2 ^ 8) ∷ (number % 2 ^ 8) ∷ []

-- the four fields: ports, length and checksum
abbrev pub header_of : ℕ → ℕ → ℕ → ℕ → List ℕ
header_of source destination len checksum = field_of source ++ field_of destination ++ field_of len ++ field_of checksum

-- a header stands there, and its length field counts all bytes
abbrev pub IsDatagram : List ℕ → Type 0
IsDatagram bytes = (8 ≤ length bytes) × (slice_index bytes 4 * 2 ^ 8 + slice_index bytes 5 ≡ length bytes)

-- the words of 16 bits, high byte first; behind an odd last byte there is a 0
abbrev pub words : List ℕ → List ℕ
words [] = []
words (high ∷ []) = (high * 2 ^ 8) ∷ []
words (high ∷ low ∷ bytes) = (high * 2 ^ 8 + low) ∷ words bytes

-- a sum of one's complement: what is carried out of 16 bits is added at the low end
abbrev pub sum_with_carry : ℕ → ℕ → ℕ
sum_with_carry sum word = (sum + word) % 2 ^ 16 + (sum + word) / 2 ^ 16

abbrev pub ones_complement_sum : List ℕ → ℕ
ones_complement_sum bytes = fold sum_with_carry 0 (words bytes)

-- the complement of a sum, where 0 is sent as all ones
abbrev pub complement_of : ℕ → ℕ
complement_of sum = if 2 ^ 16 - 1 - sum == 0 then 2 ^ 16 - 1 else 2 ^ 16 - 1 - sum

abbrev pub checksum_of : List ℕ → ℕ
checksum_of bytes = complement_of (ones_complement_sum bytes)

-- what is summed: the pseudo header of both addresses, the protocol's number 17 and the length, then the header with
-- no checksum, and the payload
abbrev pub summed_bytes : List ℕ → List ℕ → ℕ → ℕ → List ℕ → List ℕ
summed_bytes source_address destination_address source destination payload =
    let len = 8 + length payload in
    source_address ++ (destination_address ++ (0 ∷ 17 ∷ field_of len
    ++ (header_of source destination len 0 ++ payload)))

-- the datagram as it is sent: the header with its length and checksum, and the payload
abbrev pub datagram_of : List ℕ → List ℕ → ℕ → ℕ → List ℕ → List ℕ
datagram_of source_address destination_address source destination payload =
    let checksum = checksum_of (summed_bytes source_address destination_address source destination payload) in
    header_of source destination (8 + length payload) checksum ++ payload
