-- The procedures of a module, and the one over a place.
-- The rules by which symbols count as procedures, and by which separated code goes by the procedure
-- before it, are the pdb-addr2line crate's.
use Rattle.std.specs.Prelude.{◌≡◌, ℕ, ◌+◌, ◌<◌, Bool, ◌&&◌, ◌||◌, List, [], ◌∷◌, ◌++◌, nat_lt, nat_le, ◌==◌}
use Rattle.std.specs.Prelude.{Option, None, Some, if◌then◌else◌, Result, Ok}
use Rattle.std.specs.BTreeSet.{BTreeSet, contains as has_element}
use Rattle.std.specs.List.{list_any, find, position_or_len}
use Rattle.std.specs.declared.cmp.Ordering.{Ordering}
use Rattle.std.specs.Ordering.{nat_cmp, ordering_then}
use Rattle.pdb_container.specs.Fault.{Fault, ◌>>=◌}
use Rattle.pdb_container.specs.Listing.{Listing, whole}
use Rattle.pdb_container.specs.declared.index.TypeIndex.{TypeIndex}
use Rattle.pdb_container.specs.declared.index_numbers.SymbolIndex.{SymbolIndex}
use Rattle.pdb_addresses.specs.declared.internal_section_offset.PdbInternalSectionOffset.{
  PdbInternalSectionOffset,
}
use Rattle.pdb_symbol_records.specs.declared.symbol_data.SeparatedCodeSymbol.{SeparatedCodeSymbol}
use Rattle.pdb_symbol_records.specs.Forms as forms
use Rattle.pdb_symbol_records.specs.Forms.{SymbolForm}
use Rattle.pdb_symbol_records.specs.Kinds.{is_procedure, is_thunk, is_separated_code}
use Rattle.pdb_symbol_records.specs.Records.{symbol_form_of}
use Rattle.pdb_symbol_records.specs.Symbols.{Symbol}
use Rattle.pdb_module_data.specs.Forest.{Site, SitesFault, sites_of}

-- a procedure of a module: its symbol and the symbol that ends it, the start of its code, the
-- number of bytes of code, the index of its type, and its name
pub record Procedure : Type 0 where
  pub symbol_index : SymbolIndex
  pub end_symbol_index : SymbolIndex
  pub offset : PdbInternalSectionOffset
  pub len : ℕ
  pub type_index : TypeIndex
  pub name : List ℕ

-- whether two places are the same
abbrev pub is_at : PdbInternalSectionOffset → PdbInternalSectionOffset → Bool
is_at a b = (a.section == b.section) && (a.offset == b.offset)

-- ---- the procedures that are taken

-- separated code by the procedure that was taken last: it has that procedure's name and type, if
-- the procedure begins at the place of the code's parent
abbrev pub separated_from : Option Procedure → ℕ → SeparatedCodeSymbol → Option Procedure
separated_from None index code = None
separated_from (Some q) index code =
    if is_at q.offset code.parent_offset
    then Some record {
      symbol_index = record { 0 = index };
      end_symbol_index = code.end;
      offset = code.offset;
      len = code.len;
      type_index = q.type_index;
      name = q.name;
    }
    else None

-- whether a symbol of a kind may be a procedure's
abbrev pub is_procedure_kind : ℕ → Bool
is_procedure_kind kind = is_procedure kind || is_thunk kind || is_separated_code kind

-- a symbol's form as a procedure, after the procedure that was taken last; a thunk has type 0
abbrev pub said_procedure : Option Procedure → ℕ → Result SymbolForm Fault → Option Procedure
said_procedure last index (Ok (forms.Procedure p)) =
    Some record {
      symbol_index = record { 0 = index };
      end_symbol_index = p.end;
      offset = p.offset;
      len = p.len;
      type_index = p.type_index;
      name = p.name;
    }
said_procedure last index (Ok (forms.Thunk t)) =
    Some record {
      symbol_index = record { 0 = index };
      end_symbol_index = t.end;
      offset = t.offset;
      len = t.len;
      type_index = record { 0 = 0 };
      name = t.name;
    }
said_procedure last index (Ok (forms.SeparatedCode code)) = separated_from last index code
said_procedure last index other = None

-- a symbol as a procedure, from its bytes
abbrev pub said_by : Option Procedure → Symbol → Option Procedure
said_by last s = said_procedure last s.index (symbol_form_of s)

-- a procedure that may be there, if it has code

abbrev pub with_code : Option Procedure → Option Procedure
with_code None = None
with_code (Some q) = if q.len == 0 then None else Some q

-- the procedure that is taken from a symbol, if one is
abbrev pub kept_of : Option Procedure → Symbol → Option Procedure
kept_of last s = with_code (said_by last s)

-- a procedure that may be taken, and the procedures after it, by the one that is then taken last
abbrev pub kept_before : Option Procedure → Option Procedure → (Option Procedure → List Procedure)
    → List Procedure
kept_before None last others = others last
kept_before (Some q) last others = q ∷ others (Some q)

-- the procedures that are taken from symbols in their order, after the one that was taken last
abbrev pub kept_behind : Option Procedure → List Symbol → List Procedure
kept_behind last [] = []
kept_behind last (s ∷ symbols) =
    kept_before (kept_of last s) last (λ kept. kept_behind kept symbols)

-- ---- the first procedure of each start

-- places by section and then by offset
abbrev pub place_cmp : ℕ × ℕ → ℕ × ℕ → Ordering
place_cmp a b = ordering_then (nat_cmp a.0 b.0) (nat_cmp a.1 b.1)

-- a procedure begins there
abbrev pub has_start : List Procedure → PdbInternalSectionOffset → Bool
has_start procedures p = list_any (λ q. is_at q.offset p) procedures

-- the set has the places at which procedures begin, and no other ones
abbrev pub AreStartsOf : BTreeSet (ℕ × ℕ) → List Procedure → Type 0
AreStartsOf starts procedures = (p : PdbInternalSectionOffset)
    → has_element place_cmp starts (p.section, p.offset) ≡ has_start procedures p

-- one more procedure, unless another one of its start is there

abbrev pub onto_new : List Procedure → Procedure → List Procedure
onto_new procedures q = if has_start procedures q.offset then procedures else procedures ++ q ∷ []

-- procedures, and those of others after them that begin where no procedure did before
abbrev pub firsts_onto : List Procedure → List Procedure → List Procedure
firsts_onto procedures [] = procedures
firsts_onto procedures (q ∷ others) = firsts_onto (onto_new procedures q) others

-- the number of the first procedure that begins there; the number of all procedures, if none does
abbrev pub first_number : List Procedure → PdbInternalSectionOffset → ℕ
first_number procedures p = position_or_len (λ q. is_at q.offset p) procedures

-- the first procedure that begins at a place
abbrev pub first_at : List Procedure → PdbInternalSectionOffset → Option Procedure
first_at procedures p = find (λ q. is_at q.offset p) procedures

-- the first procedure that begins where one does stands before the first one that begins where
-- another does
abbrev pub StandsBefore : List Procedure → Procedure → Procedure → Type 0
StandsBefore procedures a b =
    first_number procedures a.offset < first_number procedures b.offset

-- the procedures among symbols: those that are taken, the first of each start
abbrev pub procedures_among : List Symbol → List Procedure
procedures_among symbols = firsts_onto [] (kept_behind None symbols)

-- the procedures among symbols, which have to be there to their end
abbrev pub procedures_of : Listing Symbol → Result (List Procedure) Fault
procedures_of symbols = whole symbols >>= λ all. Ok (procedures_among all)

-- ---- the procedure over a place

-- the place lies in the procedure, whose end may lie past 32 bits
abbrev pub contains : Procedure → PdbInternalSectionOffset → Bool
contains q p =
    ((q.offset).section == p.section)
    && (nat_le (q.offset).offset p.offset && nat_lt p.offset ((q.offset).offset + q.len))

-- a procedure, if it contains the place
abbrev pub if_over : Procedure → PdbInternalSectionOffset → Option Procedure
if_over q p = if contains q p then Some q else None

-- the one with the greater start, of equals the first
abbrev pub later : Option Procedure → Option Procedure → Option Procedure
later None b = b
later (Some a) None = Some a
later (Some a) (Some b) = if nat_lt (a.offset).offset (b.offset).offset then Some b else Some a

-- the procedure with the greatest start among those that contain the place
abbrev pub over : List Procedure → PdbInternalSectionOffset → Option Procedure
over [] p = None
over (q ∷ others) p = later (if_over q p) (over others p)

-- ---- inline sites of a procedure

-- the inline sites of a procedure of a module with these symbols
abbrev pub sites_of_procedure : List ℕ → Procedure → Result (List Site) SitesFault
sites_of_procedure symbols q = sites_of symbols q.symbol_index.0 q.end_symbol_index.0
