-- HMAC (RFC 2104) over lists of bytes.
use Rattle.ga_hashes.specs.declared.hmac.Hmac.{Hmac}
use Rattle.std.specs.Int.Bits.{bit_xor}
use Rattle.std.specs.Prelude.{ℕ, ◌-◌, ◌++◌, List, if◌then◌else◌, length, map, nat_lt, replicate}

-- the key, or its digest where it is longer than a block
abbrev pub short_key : (List ℕ → List ℕ) → ℕ → List ℕ → List ℕ
short_key digest block key = if nat_lt block (length key) then digest key else key

-- that, followed by zeros to a block
abbrev pub key_block : (List ℕ → List ℕ) → ℕ → List ℕ → List ℕ
key_block digest block key =
    let short = short_key digest block key in short ++ replicate (block - length short) 0

-- each byte under a mask
abbrev pub with_mask : ℕ → List ℕ → List ℕ
with_mask mask bytes = map (λ b. bit_xor b mask) bytes

-- the tag of a message under a key, for a hash function of these digests and of blocks of this size
abbrev pub hmac_of : (List ℕ → List ℕ) → ℕ → List ℕ → List ℕ → List ℕ
hmac_of digest block key message =
    let padded = key_block digest block key in
    digest (with_mask 0x5c padded ++ digest (with_mask 0x36 padded ++ message))

-- the value for tags was fed the key and then the message: its inner and its outer hash function,
-- which hold what `holds` says, began with the key under the masks
abbrev pub Holds : {H B O BA OA : Type 0} → (H → List ℕ → Type 0) → (List ℕ → List ℕ) → ℕ → Hmac H B O BA OA → List ℕ
    → List ℕ → Type 0
Holds holds digest block hmac key message =
    let padded = key_block digest block key in
    holds hmac.inner (with_mask 0x36 padded ++ message) × holds hmac.outer (with_mask 0x5c padded)
