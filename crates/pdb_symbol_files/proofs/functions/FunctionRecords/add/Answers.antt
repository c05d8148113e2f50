use Rattle.std.proofs.Common.{List}
use Rattle.pdb_symbol_files.specs.PieceRecords.{AreOf}
use Rattle.pdb_symbol_files.specs.Told.{Answer}
use Rattle.pdb_symbol_files.proofs.Adding.{are_more}
use Rattle.pdb_symbol_files.proofs.functions.FunctionRecords.add.Goals as goal

pub returns : goal.returns
returns c =
    λ (answers : List Answer) (are : AreOf c.args.self.now answers).
    are_more c.args.self.now c.add_piece.new.self c.args.piece answers c.in_ok-add_piece.ensures are
