-- Inlined calls over a place: the rows of a site, the deepest site with a row over the place, and
-- the sites that it lies in.
use Rattle.std.specs.Prelude.{◌≡◌, ℕ, zero, suc, ◌+◌, ◌<◌, ◌≤◌, Bool, true, List, [], ◌∷◌, nat_lt}
use Rattle.std.specs.Prelude.{◌==◌, unwrap_or, length, slice_get, Option, None, Some, option_map}
use Rattle.std.specs.Prelude.{option_and_then, if◌then◌else◌, Result, Ok}
use Rattle.std.specs.Option.{option_or}
use Rattle.std.specs.List.{list_any, find, flat_map}
use Rattle.pdb_container.specs.declared.index.IdIndex.{IdIndex}
use Rattle.pdb_addresses.specs.declared.internal_section_offset.PdbInternalSectionOffset.{
  PdbInternalSectionOffset,
}
use Rattle.pdb_subsections.specs.declared.line_info.LineInfo.{LineInfo}
use Rattle.pdb_symbol_records.specs.Forms.{InlineSiteForm}
use Rattle.pdb_lines.specs.Inlinees.{InlinedFunction}
use Rattle.pdb_lines.specs.Inlinee.{inlined_function}
use Rattle.pdb_module_data.specs.declared.inlinees.Inlinees.{Inlinees}
use Rattle.std.specs.BTreeMap.{get}
use Rattle.std.specs.Ordering.{nat_cmp}
use Rattle.pdb_container.specs.Fault.{Fault, ◌>>=◌}
use Rattle.pdb_container.specs.Listing.{Listing, whole}
use Rattle.pdb_module_data.specs.declared.inlined_calls.CodeSpan.{CodeSpan}
use Rattle.pdb_module_data.specs.declared.inlined_calls.InlinedCall.{InlinedCall}
use Rattle.pdb_lines.specs.InlinedRows.{inlined_rows, covers}
use Rattle.pdb_module_data.specs.Forest.{Site}

-- ---- rows

-- the rows of each call
abbrev pub RowsOfCalls : Type 0
RowsOfCalls = InlineSiteForm → List LineInfo

-- a function, if it has this id
abbrev pub if_called : InlinedFunction → ℕ → Option InlinedFunction
if_called function id = if (function.index).0 == id then Some function else None

-- the last inlined function of an id
abbrev pub last_inlinee : List InlinedFunction → ℕ → Option InlinedFunction
last_inlinee [] id = None
last_inlinee (function ∷ functions) id =
    option_or (last_inlinee functions id) (if_called function id)

-- the inlined functions of a module by their ids, of one id the last; they have to be there to
-- their end
abbrev pub inlinees_by_id : Listing InlinedFunction → Result (ℕ → Option InlinedFunction) Fault
inlinees_by_id functions = whole functions >>= λ all. Ok (last_inlinee all)

-- the stored inlined functions
abbrev pub given_by : Inlinees → ℕ → Option InlinedFunction
given_by inlinees id = option_map inlined_function (get nat_cmp inlinees.by_id id)

-- the rows of a call from its inlined function; no rows without one. Rows before an annotation that
-- can't be read count, but for the last of them.
abbrev pub rows_by : Option InlinedFunction → PdbInternalSectionOffset → InlineSiteForm
    → List LineInfo
rows_by None start call = []
rows_by (Some function) start call = (inlined_rows start function call.annotations).items

-- the rows of a call in the procedure that begins at a place, from the inlined functions by their
-- ids
abbrev pub call_rows : (ℕ → Option InlinedFunction) → PdbInternalSectionOffset → InlineSiteForm
    → List LineInfo
call_rows inlinee start call = rows_by (inlinee (call.inlinee).0) start call

-- the rows of calls in the procedure that begins at a place, from the stored inlined functions
abbrev pub stored_rows : Inlinees → PdbInternalSectionOffset → RowsOfCalls
stored_rows inlinees start = call_rows (given_by inlinees) start

-- ---- the deepest site over a place, by the rows of calls

-- a row of the site covers the place
abbrev pub is_over : (InlineSiteForm → List LineInfo) → PdbInternalSectionOffset → Site → Bool
is_over rows place site = list_any (λ row. covers row place) (rows site.call)

-- a site by its number and its depth, if it is over the place
abbrev pub if_site_over : (InlineSiteForm → List LineInfo) → PdbInternalSectionOffset → ℕ → Site
    → Option (ℕ × ℕ)
if_site_over rows place number site =
    if is_over rows place site then Some (number, site.depth)
    else None

-- the deeper one, of equals the first
abbrev pub deeper : Option (ℕ × ℕ) → Option (ℕ × ℕ) → Option (ℕ × ℕ)
deeper None b = b
deeper (Some a) None = Some a
deeper (Some a) (Some b) = if nat_lt a.1 b.1 then Some b else Some a

-- the deepest of the sites from a number on that are over the place, of equals the first
abbrev pub deepest_from : (InlineSiteForm → List LineInfo) → PdbInternalSectionOffset → ℕ
    → List Site → Option (ℕ × ℕ)
deepest_from rows place number [] = None
deepest_from rows place number (site ∷ sites) =
    deeper (if_site_over rows place number site) (deepest_from rows place (number + 1) sites)

-- the number of the deepest site over the place
abbrev pub deepest : (InlineSiteForm → List LineInfo) → List Site → PdbInternalSectionOffset
    → Option ℕ
deepest rows sites place = option_map (λ found. found.0) (deepest_from rows place 0 sites)

-- the depth of the deepest site over the place, 0 where there is none
abbrev pub depth_over : (InlineSiteForm → List LineInfo) → List Site → PdbInternalSectionOffset → ℕ
depth_over rows sites place =
    unwrap_or (option_map (λ found. found.1) (deepest_from rows place 0 sites)) 0

-- a site over the place than which none over it is deeper, and before which none is as deep
pub record IsDeepest (rows : InlineSiteForm → List LineInfo) (sites : List Site)
    (place : PdbInternalSectionOffset) (number : ℕ) : Type 0 where
  pub site : Site
  pub is : slice_get sites number ≡ Some site
  pub over : is_over rows place site ≡ true
  pub most : (k : ℕ) (other : Site) → slice_get sites k ≡ Some other
      → is_over rows place other ≡ true → other.depth ≤ site.depth
  pub first : (k : ℕ) (other : Site) → slice_get sites k ≡ Some other
      → is_over rows place other ≡ true → k < number → other.depth < site.depth

-- no site is over the place
abbrev pub NoneOver : RowsOfCalls → PdbInternalSectionOffset → List Site → Type 0
NoneOver rows place sites =
    (k : ℕ) (site : Site) → slice_get sites k ≡ Some site → is_over rows place site ≡ true → ⊥

-- the site that is found over the place is the deepest one
abbrev pub FindsDeepest : RowsOfCalls → List Site → PdbInternalSectionOffset → Type 0
FindsDeepest rows sites place =
    (number : ℕ) → deepest rows sites place ≡ Some number → IsDeepest rows sites place number

-- no site is over the place where none is found over it
abbrev pub MissesNone : RowsOfCalls → List Site → PdbInternalSectionOffset → Type 0
MissesNone rows sites place = deepest rows sites place ≡ None → NoneOver rows place sites

-- the depth over the place is that of the site that is found
abbrev pub IsDepthOfFound : RowsOfCalls → List Site → PdbInternalSectionOffset → Type 0
IsDepthOfFound rows sites place =
    (number : ℕ) (site : Site) → deepest rows sites place ≡ Some number
    → slice_get sites number ≡ Some site → depth_over rows sites place ≡ site.depth

-- ---- a site and the sites that it lies in

-- a site in no other has depth 1, another one lies one deeper than its parent, which comes before
-- it
abbrev pub FitsParent : List Site → ℕ → Option ℕ → ℕ → Type 0
FitsParent sites number None depth = depth ≡ 1
FitsParent sites number (Some parent) depth =
    (parent < number) × (s : Site) × (slice_get sites parent ≡ Some s) × (depth ≡ s.depth + 1)

-- each site fits its parent
pub record IsNested (sites : List Site) : Type 0 where
  pub each : (number : ℕ) (s : Site) → slice_get sites number ≡ Some s
      → FitsParent sites number s.parent s.depth

-- the site that a site lies in
abbrev pub parent_of : List Site → ℕ → Option ℕ
parent_of sites number = option_and_then (λ s. s.parent) (slice_get sites number)

-- a site that may be there and the sites that it lies in, innermost first, at most so many
abbrev pub chain_from : List Site → ℕ → Option ℕ → List ℕ
chain_from sites steps None = []
chain_from sites zero (Some number) = []
chain_from sites (suc steps) (Some number) =
    number ∷ chain_from sites steps (parent_of sites number)

-- a site and the sites that it lies in, innermost first; each has a lesser number than the one
-- before it, so that there are no more
abbrev pub chain : List Site → ℕ → List ℕ
chain sites number = chain_from sites (suc number) (Some number)

-- ---- calls

-- the row has a length other than 0
abbrev pub has_length : LineInfo → Bool
has_length row = nat_lt 0 (unwrap_or row.length 0)

-- the code of a row
abbrev pub code_of : LineInfo → CodeSpan
code_of row = record { offset = row.offset; length = unwrap_or row.length 0 }

-- a call by its first row over the place, or else by its first row that has a length
abbrev pub call_by : IdIndex → Option LineInfo → Option LineInfo → InlinedCall
call_by id (Some row) long = record {
  inlinee = id;
  file = Some row.file_index;
  line = Some row.line_start;
  row = Some (code_of row);
}
call_by id None long = record {
  inlinee = id;
  file = option_map (λ row. row.file_index) long;
  line = None;
  row = None;
}

-- a call over a place: file, line and code of its first row over the place; or else the file of its
-- first row that has a length, no line and no code
abbrev pub call_over : (InlineSiteForm → List LineInfo) → PdbInternalSectionOffset → InlineSiteForm
    → InlinedCall
call_over rows place call =
    call_by call.inlinee (find (λ row. covers row place) (rows call)) (find has_length (rows call))

-- the call of a site that may be there
abbrev pub calls_of : (InlineSiteForm → List LineInfo) → PdbInternalSectionOffset → Option Site
    → List InlinedCall
calls_of rows place None = []
calls_of rows place (Some site) = call_over rows place site.call ∷ []

-- a site's number that may be there, and the numbers of the sites that it lies in
abbrev pub chain_at : List Site → Option ℕ → List ℕ
chain_at sites None = []
chain_at sites (Some number) = chain sites number

-- the calls over a place, innermost first: the call of the deepest site over it, and the calls of
-- the sites that it lies in
abbrev pub calls_over : (InlineSiteForm → List LineInfo) → List Site → PdbInternalSectionOffset
    → List InlinedCall
calls_over rows sites place =
    flat_map (λ number. calls_of rows place (slice_get sites number))
    (chain_at sites (deepest rows sites place))

-- these are the calls of a site and of the sites that it lies in, if sites lie in sites before them
abbrev pub AreCallsFrom : List InlinedCall → PdbInternalSectionOffset → ℕ → RowsOfCalls → List Site
    → Type 0
AreCallsFrom calls place number rows sites =
    IsNested sites
    → calls ≡ flat_map (λ k. calls_of rows place (slice_get sites k)) (chain sites number)

-- there are as many calls over a place as the deepest site over it is deep
abbrev pub AreAsDeep : RowsOfCalls → List Site → PdbInternalSectionOffset → Type 0
AreAsDeep rows sites place = length (calls_over rows sites place) ≡ depth_over rows sites place
