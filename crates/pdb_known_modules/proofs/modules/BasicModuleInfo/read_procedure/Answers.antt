use Rattle.std.proofs.Common.{◌≡◌, ℕ, ap, sym, subst}
use Rattle.pdb_addresses.specs.declared.internal_section_offset.PdbInternalSectionOffset.{
  PdbInternalSectionOffset,
}
use Rattle.pdb_lines.specs.LinesSubsections.{Program}
use Rattle.pdb_lines.specs.LineRows.{subsection_numbered, subsections_for}
use Rattle.pdb_module_data.specs.Procedures.{Procedure}
use Rattle.pdb_known_modules.specs.KnownModules.{ModuleData}
use Rattle.pdb_known_modules.specs.ProcedureData.{IsOfStream}
use Rattle.pdb_known_modules.specs.Seen.{extended_seen}
use Rattle.pdb_known_modules.proofs.KeptProcedures.{of_held}
use Rattle.pdb_known_modules.proofs.modules.BasicModuleInfo.read_procedure.Goals as goal

abbrev HasNumber : Program → ℕ → PdbInternalSectionOffset → Type 0
HasNumber program number start =
    subsection_numbered program number ≡ subsections_for program start

pub returns-in-Ok : goal.returns-in-Ok
returns-in-Ok g c =
    let stream = c.args.self.now.stream in
    let program = (extended_seen c.in-Some.extended.now).program in
    let number = c.subsection_number-subsection.result in
    let q = c.in-Some-get.procedure.now in
    let start = ap (λ (p : Procedure). p.offset) c.procedure.view_is in
    let numbered = subst (HasNumber program number) start
    c.subsection_number-subsection.ensures.number in
    let same = ap (λ (m : ModuleData). m.stream) c.self.view_is in
    subst (IsOfStream stream) (sym c.in_ok-data-in-Ok.ensures.ok)
    (of_held _ stream (extended_seen c.in-Some.extended.now) q number c.in-Ok.ranges c.new.result
    same c.in-Some.ensures numbered c.in-Ok.ensures.sites c.in-Ok.ensures.stand
    c.new.ensures.key c.new.ensures.number c.new.ensures.ranges)
