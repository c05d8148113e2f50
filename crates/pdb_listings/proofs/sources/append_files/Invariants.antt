use Rattle.std.proofs.Common.{◌≡◌, ◌++◌, length, map}
use Rattle.std.specs.List.{flat_map}
use Rattle.pdb_listings.specs.Sources.{source_of, source_seen}
use Rattle.pdb_listings.proofs.sources.append_files.Given as goal

-- the sources so far, and those of the files that are left, are all
abbrev pub invariant-loop-file : goal.invariant-loop-file
invariant-loop-file l = map source_seen l.sources.items ++ flat_map (source_of l.names) l.files.items
    ≡ map source_seen l.fn.sources.items ++ flat_map (source_of l.names) l.fn.files.items

-- the files that are left
abbrev pub decreases-loop-file : goal.decreases-loop-file
decreases-loop-file l = length l.files.items
