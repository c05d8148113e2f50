-- A text whose encoding isn't known, as its bytes.
use Rattle.std.specs.Prelude.{ℕ, List}
use Rattle.pdb_container.specs.declared.raw_string.RawString.{RawString}

-- the bytes of a raw text
abbrev pub raw_bytes : RawString → List ℕ
raw_bytes text = text.0.now
