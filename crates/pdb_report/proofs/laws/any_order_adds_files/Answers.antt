use Rattle.std.proofs.Common.{ap}
use Rattle.pdb_report.specs.Answer.{answer_by, answer_named, database_by, database_named, files_by, files_named, map_by, map_with}
use Rattle.pdb_report.proofs.AnyOrder.{faults_same, loads_same, none_for_order}
use Rattle.pdb_report.proofs.laws.any_order_adds_files.Goals as goal

pub returns-clause-loads : goal.returns-clause-loads
returns-clause-loads c = loads_same

pub returns-clause-frames : goal.returns-clause-frames
unfolding answer_named
returns-clause-frames c = λ s none. ap (answer_by 23 s) (loads_same s none)

pub returns-clause-places : goal.returns-clause-places
unfolding database_named
returns-clause-places c = λ s none. ap (database_by 23 s) (loads_same s none)

pub returns-clause-by_file : goal.returns-clause-by_file
unfolding files_named
returns-clause-by_file c = λ s none. ap (files_by 23 s) (loads_same s none)

pub returns-clause-map : goal.returns-clause-map
unfolding map_with
returns-clause-map c = λ s none. ap map_by (loads_same s none)

pub returns-clause-faults : goal.returns-clause-faults
returns-clause-faults c = faults_same

pub returns-clause-none : goal.returns-clause-none
returns-clause-none c = none_for_order
