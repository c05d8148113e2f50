use Rattle.std.specs.Prelude.{◌≡◌, take}
use Rattle.std.specs.List.{All}
use Rattle.pdb_loading.specs.FileModules.{kept_in, IsOfFile}
use Rattle.pdb_loading.specs.Held.{kept_infos}
use Rattle.pdb_symbols_modules.specs.Streams.{streams}
use Rattle.pdb_loading.proofs.file_modules.empty_slots.Given as goal

-- the modules so far have slots of the file
abbrev pub invariant-loop-entry : goal.invariant-loop-entry
invariant-loop-entry l = record {
  all : All (IsOfFile l.file) l.slots.items;
  kept : kept_in l.file l.slots.items ≡ kept_infos (streams l.file) (take l.entry-index l.entries);
}
