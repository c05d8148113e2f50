use Rattle.std.proofs.Common.{sym, ◌∙◌}
use Rattle.pdb_file_views.proofs.SourceSteps.{all_same}
use Rattle.pdb_file_views.proofs.view_source.are_same.Goals as goal

pub returns : goal.returns
returns c is = all_same c.args.slices.now c.args.others.now (sym c.eq.ensures ∙ is)
