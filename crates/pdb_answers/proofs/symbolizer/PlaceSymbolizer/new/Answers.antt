use Rattle.pdb_answers.proofs.symbolizer.PlaceSymbolizer.new.Goals as goal

-- nothing is cached yet, and nothing is known to fail
pub invariant_of-result : goal.invariant_of-result
invariant_of-result g c = (c.in_ok-cached.ensures, c.new-2.ensures _)
