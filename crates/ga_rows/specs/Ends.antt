-- How the program ends: with which status, and what became of its reader and its writer.
use Rattle.ga_rows.specs.Text.{text_of}
use Rattle.ga_rows.specs.Arguments.{row_len}
use Rattle.ga_rows.specs.declared.arguments.Mode.{Mode}
use Rattle.ga_rows.specs.declared.arguments.Width.{Width}
use Rattle.ga_rows.specs.declared.status.Status.{Status}
use Rattle.ga_rows.specs.declared.status.Status.TheVariants.{Fault, Memory, Rest, Whole, Words}
use Rattle.generic_array.specs.Rows.{chunk_rest}
use Rattle.std.specs.Io.KnownBytes.{Appends, IsAtEnd}
use Rattle.std.specs.IoError.{error_kind}
use Rattle.std.specs.Prelude.{◌≡◌, ◌≢◌, ◌⊎◌, ◌↔◌, ℕ, List, [], Option, None, Result, IfErr, IfSome, IsSomeAnd, OnOk}
use Rattle.std.specs.declared.io.Error.{Error}
use Rattle.std.specs.declared.io.ErrorKind.TheVariants.{OutOfMemory}

-- all was read and written
abbrev pub EndsWell : Status → Type 0
EndsWell status = (status ≡ Whole) ⊎ (status ≡ Rest)

-- the words mean something, and P holds of that and of the input, where its bytes are known
abbrev pub OnInput : Option (Mode × Width) → Option (List ℕ) → (Mode → Width → List ℕ → Type 0) → Type 0
OnInput meaning input P = IsSomeAnd meaning (λ meant. IfSome input (λ bytes. P meant.0 meant.1 bytes))

module _ {R W : Type 0} (remaining : R → Option (List ℕ)) (contents : W → Option (List ℕ)) where
  -- told words of this meaning, the program ends with this status, and with its reader and its writer so
  pub record Ends (meaning : Option (Mode × Width)) (status : Status) (reader reader' : R) (writer writer' : W)
      : Type 0 where
    -- it ends with `Words` exactly where the words mean nothing
    pub words : (status ≡ Words) ↔ (meaning ≡ None)
    -- it then reads and writes nothing
    pub untouched : status ≡ Words → (reader' ≡ reader) × (writer' ≡ writer)
    -- it ends well only at the input's end
    pub end : EndsWell status → IsAtEnd (remaining reader')
    -- it ends well only with the input's text written
    pub text : EndsWell status → OnInput meaning (remaining reader)
        (λ mode width input. Appends (contents writer) (contents writer') (text_of mode width input))
    -- it ends with `Whole` only without a rest
    pub whole : status ≡ Whole → OnInput meaning (remaining reader)
        (λ _ width input. chunk_rest (row_len width) input ≡ [])
    -- it ends with `Rest` only with one
    pub rest : status ≡ Rest → OnInput meaning (remaining reader)
        (λ _ width input. chunk_rest (row_len width) input ≢ [])
    -- it ends with `Memory` only with nothing written
    pub memory : status ≡ Memory → writer' ≡ writer
    -- it ends with `Fault` only with nothing written, or at the input's end
    pub fault : status ≡ Fault → (writer' ≡ writer) ⊎ IsAtEnd (remaining reader')

-- without words, which could not be listed or kept, the program ends with this status
pub record EndsWithoutWords {S R W : Type 0} (listed : Result S Error) (status : Status) (reader reader' : R)
    (writer writer' : W) : Type 0 where
  -- it reads and writes nothing
  pub untouched : (reader' ≡ reader) × (writer' ≡ writer)
  -- where words are listed, there was no memory to keep them
  pub unkept : OnOk listed (status ≡ Memory)
  -- a fault of listing them is `Memory` exactly where its kind is `OutOfMemory`
  pub memory : IfErr listed (λ fault. (status ≡ Memory) ↔ (error_kind fault ≡ OutOfMemory))
  -- and `Fault` exactly where it is another
  pub fault : IfErr listed (λ fault. (status ≡ Fault) ↔ (error_kind fault ≢ OutOfMemory))
