use Rattle.pdb_resolving.proofs.KeptParts.{kept_part_stands, part_still_stands, no_other_part_stands}
use Rattle.pdb_resolving.proofs.laws.kept_parts_stand.Goals as goal

pub returns : goal.returns
returns c = record { kept = kept_part_stands; stay = part_still_stands; others = no_other_part_stands }
