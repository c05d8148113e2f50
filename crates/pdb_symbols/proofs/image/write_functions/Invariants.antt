use Rattle.std.proofs.Common.{length, string_bytes}
use Rattle.pdb_symbols.proofs.WritingSteps.{IsOnTheWay}
use Rattle.pdb_symbols.specs.UnwindingText.{unwound_text}
use Rattle.pdb_symbols.proofs.image.write_functions.Given as goal

-- the records so far are out or kept
abbrev pub invariant-loop-text : goal.invariant-loop-text
invariant-loop-text g l =
    IsOnTheWay (g.W.Write.contents l.fn.output) (g.W.Write.contents l.output)
    (unwound_text l.fn.functions) (string_bytes l.text) (unwound_text l.functions)

abbrev pub decreases-loop-text : goal.decreases-loop-text
decreases-loop-text g l = length l.functions
