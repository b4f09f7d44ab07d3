-- What the errors of a header print.
use Rattle.ga_uses.specs.declared.udp.HeaderError.{HeaderError}
use Rattle.ga_uses.specs.declared.udp.HeaderError.TheVariants.{OtherLength, TooShort}
use Rattle.std.specs.Prelude.{ℕ, List, codes}

abbrev pub error_text : HeaderError → List ℕ
error_text TooShort = codes "fewer bytes than a header of UDP has"
error_text OtherLength = codes "another number of bytes than the length field says"
