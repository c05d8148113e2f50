use Rattle.std.specs.Prelude.{◌≡◌, ◌≤◌, take}
use Rattle.pdb_container.specs.Fault.{HasRisen}
use Rattle.pdb_symbols_modules.specs.Streams.{streams}
use Rattle.pdb_loading.specs.Held.{kept_infos}
use Rattle.pdb_loading.specs.ModuleInfos.{KeepsInfos}
use Rattle.pdb_loading.specs.Sharing.{AreOfStreams}
use Rattle.pdb_loading.proofs.module_infos.read_infos.Given as goal

-- the modules so far are stored, and failures of the source since then
abbrev pub invariant-loop-entry : goal.invariant-loop-entry
invariant-loop-entry g l = record {
  same : g.S.Source.bytes l.pdb ≡ g.S.Source.bytes l.fn.pdb;
  counts : g.S.Source.failures l.fn.pdb ≤ g.S.Source.failures l.pdb;
  read : AreOfStreams (streams (g.S.Source.bytes l.fn.pdb)) (HasRisen (g.S.Source.failures l.fn.pdb) (g.S.Source.failures l.pdb)) l.read;
  kept : KeepsInfos (HasRisen (g.S.Source.failures l.fn.pdb) (g.S.Source.failures l.pdb)) l.infos.items (kept_infos (streams (g.S.Source.bytes l.fn.pdb)) (take l.entry-index l.entries));
}
