use Rattle.std.proofs.Common.{◌≡◌, ◌<◌, drop, max}
use Rattle.pdb_image.specs.Rules.{last_offset}
use Rattle.pdb_image.proofs.records.last_offset.Given as goal

-- the last one so far and that of the codes that are left are the last of all
abbrev pub invariant-loop-code : goal.invariant-loop-code
invariant-loop-code l = record {
  so_far : max l.last (last_offset (drop l.code-index l.codes)) ≡ last_offset l.codes;
  small : l.last < 256;
}
