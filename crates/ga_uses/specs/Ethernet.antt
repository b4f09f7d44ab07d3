-- The header of an Ethernet frame.
use Rattle.ga_uses.specs.declared.ethernet.Header.{Header}
use Rattle.std.specs.Prelude.{ℕ, ◌++◌, List}

-- its fields, one after the other
abbrev pub header_bytes : Header → List ℕ
header_bytes header = header.destination ++ (header.source ++ header.kind)
