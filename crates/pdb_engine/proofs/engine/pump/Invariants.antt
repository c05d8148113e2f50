use Rattle.std.proofs.Common.{◌≡◌, ℕ, ◌+◌, ◌<◌, List, length}
use Rattle.std.specs.List.{flat_map}
use Rattle.std.specs.Io.KnownBytes.{Appends, Consumes}
use Rattle.pdb_engine.specs.Watched.{inner_of, IsQuiet}
use Rattle.pdb_engine.specs.InputLines.{kept_lines, kept_rest}
use Rattle.pdb_engine.proofs.engine.pump.Given as goal

-- the lines that end in what was read so far are answered
abbrev pub invariant-reads : goal.invariant-reads
invariant-reads g l =
    let contents = g.W.Write.contents in
    let remaining = g.R.Read.remaining in
    let text = g.A.Answers.text in
    let room = g.A.Start.LineStart.limit in
    let kept = g.A.Start.LineStart.kept in
    record {
      out : g.A.Answers.known l.answers → (taken : List ℕ) × Consumes (remaining (inner_of l.fn.reader)) (remaining (inner_of l.reader)) taken × (length taken + l.left ≡ l.limit)
          × Appends (contents (inner_of l.fn.writer)) (contents (inner_of l.writer)) (flat_map (text l.fn.answers) (kept_lines room (kept l.fn.buffers.start) taken)) × (kept l.buffers.start ≡ kept_rest room (kept l.fn.buffers.start) taken);
      room : 0 < length l.buffers.chunk.items;
      grows : g.A.Answers.known l.answers → g.A.Answers.known l.fn.answers;
      same : text l.answers ≡ text l.fn.answers;
      subject : g.A.Answers.subject l.answers ≡ g.A.Answers.subject l.fn.answers;
      quiet_reader : IsQuiet l.fn.reader l.reader;
      quiet_writer : IsQuiet l.fn.writer l.writer;
    }

abbrev pub decreases-reads : goal.decreases-reads
decreases-reads g l = l.left
