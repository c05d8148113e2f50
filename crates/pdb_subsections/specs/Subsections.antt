-- Debug subsections (DEBUG_S_*) of C13 line data, one after another. The kinds are
-- DEBUG_S_SUBSECTION_TYPE of microsoft-pdb's cvinfo.h; LLVM's The Module Information Stream places
-- them.
use Rattle.std.specs.Prelude.{ℕ, List, [], ◌∷◌, drop, ◌==◌, if◌then◌else◌, Option, Some, None}
use Rattle.std.specs.Prelude.{Result, Ok, Err}
use Rattle.std.specs.Borrow.{Bor}
use Rattle.std.specs.Int.{w32}
use Rattle.pdb_container.specs.Fault.{Fault, ◌>>=◌}
use Rattle.pdb_container.specs.Fields.{Reader, number_at, bytes_of, padding}
use Rattle.pdb_container.specs.Listing.{Listing, listing}
use Rattle.pdb_subsections.specs.declared.subsection.DebugSubsection.{DebugSubsection}

-- a subsection's kind, and its bytes
pub record Subsection : Type 0 where
  pub kind : ℕ
  pub bytes : List ℕ

-- ---- the kinds that are read

-- lines of code (DEBUG_S_LINES)
abbrev pub lines_kind : ℕ
lines_kind = 0xf2

-- checksums of source files (DEBUG_S_FILECHKSMS)
abbrev pub files_kind : ℕ
files_kind = 0xf4

-- inlined functions (DEBUG_S_INLINEELINES)
abbrev pub inlinees_kind : ℕ
inlinees_kind = 0xf6

-- cross-module imports (DEBUG_S_CROSSSCOPEIMPORTS)
abbrev pub imports_kind : ℕ
imports_kind = 0xf7

-- cross-module exports (DEBUG_S_CROSSSCOPEEXPORTS)
abbrev pub exports_kind : ℕ
exports_kind = 0xf8

-- ---- the list of subsections

-- A kind, a length and that many bytes. The next subsection begins at the next multiple of 4, as
-- this one does, or there is none.
unfoldable pub subsection_at : Reader Subsection
subsection_at bytes = do
  kind ← number_at w32 bytes
  size ← number_at w32 kind.1
  content ← bytes_of size.0 size.1
  Ok (record { kind = kind.0; bytes = content.0 }, drop (padding size.0) content.1)

-- the subsections of line data
abbrev pub subsections_of : List ℕ → Listing Subsection
subsections_of bytes = listing subsection_at bytes

-- the bytes of the first of a kind among these, before they end
abbrev pub first_among : ℕ → List Subsection → Option Fault → Result (Option (List ℕ)) Fault
first_among kind [] None = Ok None
first_among kind [] (Some e) = Err e
first_among kind (s ∷ others) end =
    if s.kind == kind then Ok (Some s.bytes)
    else first_among kind others end

-- The bytes of the first subsection of a kind. A fault after it isn't met.
abbrev pub first_of : ℕ → Listing Subsection → Result (Option (List ℕ)) Fault
first_of kind l = first_among kind l.items l.fault

-- a subsection as it is returned
abbrev pub subsection_seen : DebugSubsection → Subsection
subsection_seen s = record { kind = s.kind; bytes = s.bytes.now }

-- a subsection and the bytes after it, as they are returned
abbrev pub split_seen : DebugSubsection × Bor (List ℕ) → Subsection × List ℕ
split_seen x = (subsection_seen x.0, x.1.now)

-- bytes that may be returned
abbrev pub bytes_seen : Option (Bor (List ℕ)) → Option (List ℕ)
bytes_seen (Some bytes) = Some bytes.now
bytes_seen None = None
