use Rattle.std.proofs.Common.{◌≡◌, ℕ, ap, ◌∙◌, arith}
use Rattle.pdb_addresses.specs.declared.internal_section_offset.PdbInternalSectionOffset.{
  PdbInternalSectionOffset,
}
use Rattle.pdb_pieces.proofs.laws.places_have_own_numbers.Goals as goal

pub returns : goal.returns
returns c = λ p q fits_p fits_q same.
    let sections : p.section ≡ q.section = omega arith in
    let offsets : p.offset ≡ q.offset = omega arith in
    ap (λ (x : ℕ). let place : PdbInternalSectionOffset =
    record { offset = x; section = p.section } in place) offsets
    ∙ ap (λ (x : ℕ). let place : PdbInternalSectionOffset =
    record { offset = q.offset; section = x } in place) sections
