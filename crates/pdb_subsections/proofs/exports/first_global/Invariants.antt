-- What is found from the next pair on is what is found among all.
use Rattle.std.proofs.Common.{◌≡◌}
use Rattle.pdb_subsections.specs.Exports.{exports_by_eight, first_export}
use Rattle.pdb_subsections.proofs.ExportSteps.{first_from}
use Rattle.pdb_subsections.proofs.exports.first_global.Given as goal

abbrev pub invariant-loop-pair : goal.invariant-loop-pair
invariant-loop-pair l = first_from l.pairs l.pair-index l.local
    ≡ first_export (exports_by_eight l.pairs) l.local
