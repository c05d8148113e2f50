use Rattle.pdb_contributions.proofs.OnePlace.{places_rise, given_stand}
use Rattle.pdb_contributions.proofs.laws.one_a_place.Goals as goal

pub returns-clause-rising : goal.returns-clause-rising
returns-clause-rising c = λ given. record { each = places_rise given }

pub returns-clause-named : goal.returns-clause-named
returns-clause-named c = given_stand
