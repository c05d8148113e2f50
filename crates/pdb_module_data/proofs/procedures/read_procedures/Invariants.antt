use Rattle.std.specs.Prelude.{◌≡◌, length}
use Rattle.std.specs.BTreeSet.{contains}
use Rattle.pdb_addresses.specs.declared.internal_section_offset.PdbInternalSectionOffset.{PdbInternalSectionOffset}
use Rattle.pdb_symbol_records.specs.Iteration.{symbols_left}
use Rattle.pdb_module_data.specs.Procedures.{place_cmp, has_start, procedures_of}
use Rattle.pdb_module_data.proofs.ProcedureSteps.{procedures_left}
use Rattle.pdb_module_data.proofs.procedures.read_procedures.Given as goal

-- the procedures so far, with those of the symbols that are still to come, are all;
-- and the set has their starts
abbrev pub invariant-loop-procedures : goal.invariant-loop-procedures
invariant-loop-procedures l = record {
  so_far : procedures_left l.procedures.items l.last (symbols_left l.symbols) ≡ procedures_of (symbols_left l.fn.symbols);
  starts : (p : PdbInternalSectionOffset) → contains place_cmp l.starts (p.section, p.offset) ≡ has_start l.procedures.items p;
}

abbrev pub decreases-loop-procedures : goal.decreases-loop-procedures
decreases-loop-procedures l = length (symbols_left l.symbols).items
