use Rattle.std.proofs.Common.{refl, sym, ◌∙◌}
use Rattle.std.proofs.lemmas.Str.{utf8_lossy-IsUtf8}
use Rattle.pdb_module_data.proofs.file_names.part_of_text.Goals as goal

pub returns-then-is_char_boundary-2 : goal.returns-then-is_char_boundary-2
returns-then-is_char_boundary-2 c = sym (utf8_lossy-IsUtf8 c.range.result.now c.range.utf8) ∙ rw c.range.ensures.value refl
