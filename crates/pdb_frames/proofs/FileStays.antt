-- While the choice stays, the file of a place changes at starts of rows alone.
use Rattle.std.proofs.Common.{◌≡◌, ℕ, zero, suc, ◌+◌, ◌≤◌, Bool, cond, List, [], ◌∷◌, ◌++◌}
use Rattle.std.proofs.Common.{Result, Ok, Err, refl, sym, ap, ◌∙◌, subst, arith}
use Rattle.std.specs.Prelude.{Option, None, Some, map, ◌==◌, option_and_then}
use Rattle.std.specs.List.{list_any}
use Rattle.pdb_addresses.specs.declared.internal_section_offset.PdbInternalSectionOffset.{
  PdbInternalSectionOffset,
}
use Rattle.pdb_frames.specs.Choice.{Parts, Chosen, Proc, Public, start_of, start_address}
use Rattle.pdb_container.specs.Fault as container
use Rattle.pdb_container.specs.Fault.{◌>>=◌}
use Rattle.pdb_frames.proofs.RunLaw.{IsClear, on, left_false, right_false, differ, leb_step}
use Rattle.pdb_frames.specs.ChosenNames.{name_of}
use Rattle.pdb_frames.specs.Files.{file_or_none, last_file, file_of, starts_read}
use Rattle.pdb_frames.specs.Files.{starts_in_extended, starts_if_chosen}
use Rattle.pdb_frames.specs.FramesAt.{call_frame, function_frame, calls_in, row_and_calls}
use Rattle.pdb_frames.specs.FramesAt.{frames_in_data, found_frames, frames_of_chosen}
use Rattle.pdb_owners.specs.FileAnswers.{FileAnswer, Nothing, Unreadable, NoFile, File}
use Rattle.pdb_owners.specs.Frames.{Frame}
use Rattle.pdb_lines.specs.Inlinees.{InlinedFunction}
use Rattle.pdb_known_modules.specs.KnownModules.{ModuleData, ExtendedModule, extended_of}
use Rattle.pdb_known_modules.specs.KnownModules.{procedure_calls, sites_lifted}
use Rattle.pdb_lines.specs.LinesSubsections.{Program}
use Rattle.pdb_module_data.specs.Forest.{sites_of}
use Rattle.pdb_module_data.specs.InlinedCalls.{call_rows, calls_over}
use Rattle.pdb_module_data.specs.FunctionLine.{file_text, function_rows, later_row, if_begun}
use Rattle.pdb_module_data.specs.FunctionLine.{row_at, row_starts}
use Rattle.pdb_module_data.specs.declared.function_rows.LineRow.{LineRow}
use Rattle.pdb_module_data.specs.declared.inlined_calls.InlinedCall.{InlinedCall}
use Rattle.pdb_names.specs.Env.{Env}
use Rattle.pdb_resolving.specs.Fault.{Fault, lifted}
use Rattle.pdb_symbols_modules.specs.ModuleStream.{ModuleStream, iteration_in}

-- ---- rows

row_step : (rows : List LineRow) (x : ℕ) → IsClear (row_starts rows) (x + 1)
    → row_at rows (x + 1) ≡ row_at rows x
row_step [] x h = refl
row_step (row ∷ rows) x h =
    let others = list_any (λ start. x + 1 == start) (row_starts rows) in
    let other = differ (x + 1) row.start (left_false (x + 1 == row.start) others h) in
    let first = leb_step row.start x other in
    let rest = row_step rows x (right_false (x + 1 == row.start) others h) in
    ap (λ (b : Bool). later_row (cond b (Some row) None) (row_at rows (x + 1))) first
    ∙ ap (λ (o : Option LineRow). later_row (if_begun row x) o) rest

-- between starts of rows the row stays
pub row_stays : (rows : List LineRow) (x k : ℕ)
    → ((j : ℕ) → 1 ≤ j → j ≤ k → IsClear (row_starts rows) (x + j))
    → row_at rows (x + k) ≡ row_at rows x
row_stays rows x zero clear = let e : x + 0 ≡ x = omega arith in ap (row_at rows) e
row_stays rows x (suc k) clear =
    let e : x + suc k ≡ x + k + 1 = omega arith in
    let last = clear (suc k) (omega arith) (omega arith) in
    let here = subst (λ (y : ℕ). IsClear (row_starts rows) y) e last in
    ap (row_at rows) e ∙ row_step rows (x + k) here
    ∙ row_stays rows x k (λ j low high. clear j low (omega arith))

-- ---- readings

-- both were read, or neither could be
abbrev AreBothRead : {A F : Type 0} → Result A F → Result A F → Type 0
AreBothRead (Ok a) (Ok b) = Unit {0}
AreBothRead (Ok a) (Err b) = ⊥
AreBothRead (Err a) (Ok b) = ⊥
AreBothRead (Err a) (Err b) = Unit {0}

one_reading : {T C : Type 0} (read : Result T Fault) (f g : T → C)
    → AreBothRead (read >>= λ t. Ok (f t)) (read >>= λ t. Ok (g t))
one_reading (Ok t) f g = tt
one_reading (Err e) f g = tt

two_readings : {S T C : Type 0} (first : Result S Fault) (second : S → Result T Fault)
    (f g : T → C) → AreBothRead (first >>= λ s. second s >>= λ t. Ok (f t))
    (first >>= λ s. second s >>= λ t. Ok (g t))
two_readings (Ok s) second f g = one_reading (second s) f g
two_readings (Err e) second f g = tt

-- whether a chosen function's calls can be read doesn't depend on the place
calls_alike : (stream : ModuleStream) (inlinees : ℕ → Option InlinedFunction) (c : Chosen)
    (place other : PdbInternalSectionOffset)
    → AreBothRead (calls_in stream inlinees c other) (calls_in stream inlinees c place)
unfolding procedure_calls
calls_alike stream inlinees (Proc q) place other =
    let first = q.symbol_index in
    let last = q.end_symbol_index in
    two_readings (lifted (iteration_in stream 4))
    (λ symbols. sites_lifted (sites_of symbols.bytes first.0 last.0))
    (λ sites. calls_over (call_rows inlinees q.offset) sites other)
    (λ sites. calls_over (call_rows inlinees q.offset) sites place)
calls_alike stream inlinees (Public f) place other = tt

-- ---- the last of frames

-- the last of frames after others
pub last_after : (frames : List Frame) (f : Frame) → last_file (frames ++ f ∷ []) ≡ file_or_none f.file
last_after [] f = refl
last_after (g ∷ []) f = refl
last_after (g ∷ h ∷ frames) f = last_after (h ∷ frames) f

-- the file of what was found in a chosen function
abbrev shown : Parts → Chosen → Result (List Frame) Fault → FileAnswer
shown p c frames = file_of (frames >>= λ all. Ok (found_frames p c all (start_address p c)))

-- the file of a row
abbrev row_file : Parts → Program → Option LineRow → FileAnswer
row_file p program row =
    file_or_none (option_and_then (λ r. file_text program p.names (r.file_index).0) row)

-- ---- two places in a chosen function, by what is seen of their files
module _ (p : Parts) (env : Env) (c : Chosen) (place other : PdbInternalSectionOffset)
    (seen : FileAnswer → FileAnswer) where
  -- the files of their rows are seen as one, where rows can be read
  abbrev AreRowsAlike : Program → Result (List LineRow) container.Fault → Type 0
  AreRowsAlike program (Ok rows) =
      seen (row_file p program (row_at rows other.offset))
      ≡ seen (row_file p program (row_at rows place.offset))
  AreRowsAlike program (Err e) = Unit {0}

  -- the same by the module's line program
  abbrev AreAlikeIn : Result ExtendedModule container.Fault → Type 0
  AreAlikeIn (Ok x) = AreRowsAlike x.program (function_rows x.program (start_of c))
  AreAlikeIn (Err e) = Unit {0}

  -- the same by the module's data
  abbrev AreAlike : Option ModuleData → Type 0
  AreAlike None = Unit {0}
  AreAlike (Some known) = AreAlikeIn (extended_of known.stream)

  frames_alike : (a b : List Frame) → seen (last_file a) ≡ seen (last_file b)
      → seen (shown p c (Ok a)) ≡ seen (shown p c (Ok b))
  frames_alike a b h = by_start (start_address p c)
    where
      by_start : (start : Option ℕ) → seen (file_of (Ok (found_frames p c a start)))
          ≡ seen (file_of (Ok (found_frames p c b start)))
      by_start None = refl
      by_start (Some start) = h

  -- frames by a row and calls
  abbrev made : ExtendedModule → Option LineRow × List InlinedCall → List Frame
  made x found =
      map (call_frame p env x.program) found.1
      ++ function_frame p x.program (name_of p env c) (start_of c).section found.0 ∷ []

  by_row : (x : ExtendedModule) (a b : Option LineRow × List InlinedCall)
      → seen (row_file p x.program a.0) ≡ seen (row_file p x.program b.0)
      → seen (shown p c (Ok (made x a))) ≡ seen (shown p c (Ok (made x b)))
  by_row x a b h =
      let calls = map (call_frame p env x.program) in
      let last = function_frame p x.program (name_of p env c) (start_of c).section in
      frames_alike (made x a) (made x b)
      (ap seen (last_after (calls a.1) (last a.0)) ∙ h
      ∙ sym (ap seen (last_after (calls b.1) (last b.0))))

  by_calls : (x : ExtendedModule) (row row' : Option LineRow)
      (a b : Result (List InlinedCall) Fault) → AreBothRead a b
      → seen (row_file p x.program row) ≡ seen (row_file p x.program row')
      → seen (shown p c ((a >>= λ calls. Ok (row, calls)) >>= λ found. Ok (made x found)))
      ≡ seen (shown p c ((b >>= λ calls. Ok (row', calls)) >>= λ found. Ok (made x found)))
  by_calls x row row' (Ok a) (Ok b) both h = by_row x (row, a) (row', b) h
  by_calls x row row' (Ok a) (Err b) both h = absurd both
  by_calls x row row' (Err a) (Ok b) both h = absurd both
  by_calls x row row' (Err a) (Err b) both h = refl

  abbrev by_rows_at : ModuleStream → ExtendedModule → Result (List LineRow) container.Fault
      → PdbInternalSectionOffset → Result (List Frame) Fault
  by_rows_at stream x rows at =
      (lifted (rows >>= λ all. Ok (row_at all at.offset)) >>= λ row.
      calls_in stream x.inlinees c at >>= λ calls. Ok (row, calls)) >>= λ found. Ok (made x found)

  by_rows : (stream : ModuleStream) (x : ExtendedModule)
      (rows : Result (List LineRow) container.Fault) → AreRowsAlike x.program rows
      → seen (shown p c (by_rows_at stream x rows other))
      ≡ seen (shown p c (by_rows_at stream x rows place))
  by_rows stream x (Ok rows) h =
      by_calls x (row_at rows other.offset) (row_at rows place.offset)
      (calls_in stream x.inlinees c other) (calls_in stream x.inlinees c place)
      (calls_alike stream x.inlinees c place other) h
  by_rows stream x (Err e) h = refl

  abbrev by_extended_at : ModuleStream → Result ExtendedModule container.Fault
      → PdbInternalSectionOffset → Result (List Frame) Fault
  by_extended_at stream extended at =
      lifted extended >>= λ x. row_and_calls stream x c at >>= λ found. Ok (made x found)

  by_extended : (stream : ModuleStream) (extended : Result ExtendedModule container.Fault)
      → AreAlikeIn extended
      → seen (shown p c (by_extended_at stream extended other))
      ≡ seen (shown p c (by_extended_at stream extended place))
  unfolding row_and_calls
  by_extended stream (Ok x) h = by_rows stream x (function_rows x.program (start_of c)) h
  by_extended stream (Err e) h = refl

  -- where the files of rows are seen as one, so are those of frames
  alike_in_module : (known : Option ModuleData) → AreAlike known
      → seen (file_of (frames_of_chosen p env known other (Some c)))
      ≡ seen (file_of (frames_of_chosen p env known place (Some c)))
  unfolding frames_in_data
  alike_in_module None h = refl
  alike_in_module (Some known) h = by_extended known.stream (extended_of known.stream) h

-- ---- whether there are frames

-- a file without its name
abbrev pub unnamed : FileAnswer → FileAnswer
unnamed Nothing = Nothing
unnamed Unreadable = Unreadable
unnamed NoFile = NoFile
unnamed (File name) = NoFile

pub unnamed_file : (name : Option (List ℕ)) → unnamed (file_or_none name) ≡ NoFile
unnamed_file None = refl
unnamed_file (Some name) = refl

unnamed_rows : (p : Parts) (env : Env) (c : Chosen) (place other : PdbInternalSectionOffset)
    (program : Program) (rows : Result (List LineRow) container.Fault)
    → AreRowsAlike p env c place other unnamed program rows
unnamed_rows p env c place other program (Ok rows) = unnamed_file _ ∙ sym (unnamed_file _)
unnamed_rows p env c place other program (Err e) = tt

unnamed_in : (p : Parts) (env : Env) (c : Chosen) (place other : PdbInternalSectionOffset)
    (extended : Result ExtendedModule container.Fault)
    → AreAlikeIn p env c place other unnamed extended
unnamed_in p env c place other (Ok x) =
    unnamed_rows p env c place other x.program (function_rows x.program (start_of c))
unnamed_in p env c place other (Err e) = tt

-- whether frames are found at a place in a chosen function, or can't be read, doesn't depend on the
-- place
pub frames_stay : (p : Parts) (env : Env) (known : Option ModuleData)
    (place other : PdbInternalSectionOffset) (chosen : Option Chosen)
    → unnamed (file_of (frames_of_chosen p env known other chosen))
    ≡ unnamed (file_of (frames_of_chosen p env known place chosen))
frames_stay p env known place other None = refl
frames_stay p env None place other (Some c) = refl
frames_stay p env (Some known) place other (Some c) =
    alike_in_module p env c place other unnamed (Some known)
    (unnamed_in p env c place other (extended_of known.stream))

-- ---- the file between starts of rows

-- none of so many offsets past another one is among some starts
abbrev pub AreClear : List ℕ → ℕ → ℕ → Type 0
AreClear starts x k = (j : ℕ) → 1 ≤ j → j ≤ k → IsClear starts (x + j)

same_rows : (p : Parts) (env : Env) (c : Chosen) (place : PdbInternalSectionOffset) (k : ℕ)
    (program : Program) (rows : Result (List LineRow) container.Fault)
    → AreClear (starts_read rows) place.offset k
    → AreRowsAlike p env c place (on place k) (λ a. a) program rows
same_rows p env c place k program (Ok rows) clear =
    ap (row_file p program) (row_stays rows place.offset k clear)
same_rows p env c place k program (Err e) clear = tt

same_in : (p : Parts) (env : Env) (c : Chosen) (place : PdbInternalSectionOffset) (k : ℕ)
    (extended : Result ExtendedModule container.Fault)
    → AreClear (starts_in_extended c extended) place.offset k
    → AreAlikeIn p env c place (on place k) (λ a. a) extended
same_in p env c place k (Ok x) clear =
    same_rows p env c place k x.program (function_rows x.program (start_of c)) clear
same_in p env c place k (Err e) clear = tt

-- between starts of rows the file of a place in a chosen function stays
pub file_stays : (p : Parts) (env : Env) (known : Option ModuleData)
    (place : PdbInternalSectionOffset) (k : ℕ) (chosen : Option Chosen)
    → AreClear (starts_if_chosen known chosen) place.offset k
    → file_of (frames_of_chosen p env known (on place k) chosen)
    ≡ file_of (frames_of_chosen p env known place chosen)
file_stays p env known place k None clear = refl
file_stays p env None place k (Some c) clear = refl
file_stays p env (Some known) place k (Some c) clear =
    alike_in_module p env c place (on place k) (λ a. a) (Some known)
    (same_in p env c place k (extended_of known.stream) clear)
