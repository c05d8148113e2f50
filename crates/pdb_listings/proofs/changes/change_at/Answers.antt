use Rattle.std.proofs.Common.{sym, ◌∙◌}
use Rattle.pdb_listings.specs.Sizes.{name_exact}
use Rattle.pdb_listings.proofs.changes.change_at.Goals as goal

-- names that compare as equal are one
pub stayed-requires : goal.stayed-requires
stayed-requires c = name_exact _ _ (sym c.cmp.ensures ∙ c.in-Equal.is)
