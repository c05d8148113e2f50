use Rattle.std.proofs.Common.{sym, arith}
use Rattle.std.proofs.lemmas.List.{take_all}
use Rattle.pdb_report.proofs.json.line_start.Goals as goal

-- a short line is its own first bytes
pub returns-then-line-lt4352 : goal.returns-then-line-lt4352
returns-then-line-lt4352 c = sym (take_all 4352 c.args.line.now (let lt = c.if-line-lt4352.true in omega arith))
