use Rattle.pdb_pieces.proofs.search.Pieces.at.Goals as goal

pub returns-clause-one : goal.returns-clause-one
returns-clause-one c = rw (← c.self.view_is, ← c.place_number.ensures) c.find_piece.ensures.one
