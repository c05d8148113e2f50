-- The report on an input from a file.
use Rattle.std.specs.Prelude.{ℕ, List}
use Rattle.pdb_engine.specs.InputLines.{report}
use Rattle.pdb_report.specs.AddressText.{line_text}
use Rattle.pdb_report.specs.Answer.{answer}
use Rattle.pdb_symbols_modules.specs.Streams.{streams}

-- the report on lines of addresses from the file that has these bytes
abbrev pub report_by : List ℕ → List ℕ → List ℕ
report_by file input = report (line_text (answer (streams file))) input
