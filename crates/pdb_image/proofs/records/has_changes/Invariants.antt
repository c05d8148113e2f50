use Rattle.std.proofs.Common.{◌≡◌, [], take}
use Rattle.pdb_image.specs.Rules.{rule}
use Rattle.pdb_image.specs.Records.{changes_of}
use Rattle.pdb_image.proofs.records.has_changes.Given as goal

-- no rule before this one has changed
abbrev pub invariant-loop-name : goal.invariant-loop-name
invariant-loop-name l = changes_of (rule l.old) (rule l.new) (take l.name-index l.names) ≡ []
