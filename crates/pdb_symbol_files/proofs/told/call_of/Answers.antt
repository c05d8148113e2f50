use Rattle.std.proofs.Common.{subst, sym, arith}
use Rattle.pdb_symbol_files.specs.Reading.{IsPlain}
use Rattle.pdb_symbol_files.proofs.PlainTexts.{plain_told}
use Rattle.pdb_symbol_files.proofs.told.call_of.Goals as goal

pub returns-clause-plain : goal.returns-clause-plain
returns-clause-plain c = (
  subst IsPlain (sym c.in_ok-file.ensures) (plain_told c.args.caller.now.file),
  omega (arith, c.unwrap_or.type_inv),
  subst IsPlain (sym c.in_ok-callee.ensures) (plain_told c.args.callee.now.function),
)
