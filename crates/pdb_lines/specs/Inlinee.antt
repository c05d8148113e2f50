-- Inlined functions, as the code stores them.
use Rattle.pdb_lines.specs.Inlinees.{InlinedFunction}
use Rattle.pdb_lines.specs.declared.inlinee.Inlinee.{Inlinee}

-- the code's inlinee, as the definitions see it
abbrev pub inlined_function : Inlinee → InlinedFunction
inlined_function i = record { index = i.index; file = i.file; line = i.line }
