-- Pieces of places for the procedures of a module: at each place the number of the procedure over
-- it.
use Rattle.std.specs.Prelude.{◌≡◌, ℕ, ◌+◌, ◌^◌, ◌<◌, List, [], ◌∷◌, slice_get, option_and_then}
use Rattle.pdb_addresses.specs.declared.internal_section_offset.PdbInternalSectionOffset.{
  PdbInternalSectionOffset,
}
use Rattle.pdb_pieces.specs.declared.span.Span.{Span}
use Rattle.pdb_pieces.specs.Spans.{best, place_number}
use Rattle.pdb_module_data.specs.Procedures.{Procedure, over}

-- the span that a procedure covers, ranked by its start
abbrev pub procedure_span : ℕ → Procedure → Span
procedure_span number q = record {
  start = place_number q.offset;
  end = place_number q.offset + q.len;
  mark = record { rank = (q.offset).offset; value = number };
}

-- the spans that procedures cover, of which the first has this number
abbrev pub procedure_spans : ℕ → List Procedure → List Span
procedure_spans number [] = []
procedure_spans number (q ∷ others) = procedure_span number q ∷ procedure_spans (number + 1) others

-- start and length have 32 bits
abbrev pub IsShort : Procedure → Type 0
IsShort q = ((q.offset).offset < 2 ^ 32) × (q.len < 2 ^ 32)

-- start and length of each procedure have 32 bits
abbrev pub AreShort : List Procedure → Type 0
AreShort [] = Unit {0}
AreShort (q ∷ others) = IsShort q × AreShort others

-- at each place of a section stands the number of the procedure over it
pub record StandFor (pieces : List Span) (procedures : List Procedure) : Type 0 where
  pub each : (place : PdbInternalSectionOffset) → place.offset < 2 ^ 32
      → option_and_then (λ m. slice_get procedures m.value) (best pieces (place_number place))
      ≡ over procedures place
