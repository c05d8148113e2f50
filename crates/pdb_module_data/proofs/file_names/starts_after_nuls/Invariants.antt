use Rattle.std.proofs.Common.{◌≡◌, ◌++◌, drop}
use Rattle.pdb_module_data.specs.FileNames.{after_nuls}
use Rattle.pdb_module_data.proofs.file_names.starts_after_nuls.Given as goal

-- with what the bytes left add, the starts are what they must be
abbrev pub invariant-loop-place : goal.invariant-loop-place
invariant-loop-place l = l.starts.items ++ after_nuls l.place (drop l.place l.names) ≡ after_nuls 0 l.names
