use Rattle.std.proofs.Common.{length}
use Rattle.pdb_type_printing.proofs.brackets.+emit_brackets.Given as goal

abbrev pub decreases-emit_brackets : goal.decreases-emit_brackets
decreases-emit_brackets l = length l.dimensions.now
