use Rattle.pdb_report.proofs.IsolationLaw.{isolated, loads_alike}
use Rattle.pdb_report.proofs.laws.isolation.Goals as goal

pub returns-clause-loads : goal.returns-clause-loads
returns-clause-loads c = loads_alike

pub returns-clause-answers : goal.returns-clause-answers
returns-clause-answers c = isolated
