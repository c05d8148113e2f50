use Rattle.std.proofs.Common.{◌≡◌, ◌++◌, drop, string_bytes}
use Rattle.pdb_symbol_files.specs.RecordTexts.{numbered_texts}
use Rattle.pdb_symbol_files.proofs.numbering.Numbering.append_records.Given as goal

abbrev pub invariant-loop-number : goal.invariant-loop-number
invariant-loop-number l =
    string_bytes l.output
    ++ numbered_texts l.word l.number (drop l.number l.self)
    ≡ string_bytes (l.initial).output ++ numbered_texts l.word 0 l.self
