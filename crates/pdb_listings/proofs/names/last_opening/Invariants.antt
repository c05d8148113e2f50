use Rattle.pdb_listings.proofs.Openings.{IsAfter}
use Rattle.pdb_listings.proofs.names.last_opening.Given as goal

-- what is known of the text from the place on
abbrev pub invariant-loop-place : goal.invariant-loop-place
invariant-loop-place l = IsAfter l.text l.place l.unopened

-- the bytes before it
abbrev pub decreases-loop-place : goal.decreases-loop-place
decreases-loop-place l = l.place
