-- Spans: consecutive addresses of which something is the same.
use Rattle.std.specs.Prelude.{ℕ, ◌+◌, ◌&&◌, ◌==◌, suc, Bool, List, [], ◌∷◌, take}
use Rattle.std.specs.Prelude.{if◌then◌else◌, Option, None, Some, codes, slice_get}
use Rattle.std.specs.List.{flat_map}
use Rattle.std.specs.Option.{option_eq}
use Rattle.std.specs.Str.{bytes_eq}
use Rattle.pdb_symbol_files.specs.Told.{Answer, Call, Told, same_call, same_path}
use Rattle.pdb_symbol_files.specs.Stretches.{stretches, size_of}

-- addresses of which a key is the same: the first one, the one after the last one, and the key
pub record Span (K : Type 0) : Type 0 where
  pub start : ℕ
  pub end : ℕ
  pub key : K

-- an address is the next one
abbrev pub is_next : Answer → Answer → Bool
is_next a b = suc a.address == b.address

-- addresses side by side, of which the same is known, or of both nothing
abbrev pub same_known : {K : Type 0} → (K → K → Bool) → (Told → Option K) → Answer → Answer → Bool
same_known same known a b = is_next a b && option_eq same (known a.told) (known b.told)

-- addresses, so many from one on, if something is known of them
abbrev pub span_if : {K : Type 0} → ℕ → ℕ → Option K → List (Span K)
span_if start size None = []
span_if start size (Some key) =
    record { start = start; end = start + size; key = key } ∷ []

-- The spans of addresses: the longest stretches of consecutive ones of which the same is known,
-- where anything is known.
abbrev pub spans_of : {K : Type 0} → (K → K → Bool) → (Told → Option K) → List Answer
    → List (Span K)
spans_of same known answers =
    flat_map (λ s. span_if (s.first).address (size_of s) (known (s.first).told))
    (stretches (same_known same known) answers)

-- ---- places

-- a file and a line in it
pub record SourcePlace : Type 0 where
  pub file : List ℕ
  pub line : ℕ

abbrev pub same_place : SourcePlace → SourcePlace → Bool
same_place a b = a.line == b.line && bytes_eq a.file b.file

-- the place of the innermost frame, if anything is known of it
abbrev pub place_of : Told → Option SourcePlace
place_of t =
    if t.line == 0 && bytes_eq t.file (codes "??") then None
    else Some (record { file = t.file; line = t.line })

-- ---- paths

-- a call, and the calls around it, the outermost one first
pub record Path : Type 0 where
  pub outer : List Call
  pub call : Call

abbrev pub same_calls : Path → Path → Bool
same_calls a b = same_call a.call b.call && same_path a.outer b.outer

-- the path to the call at a level, if there is one
abbrev pub path_to : List Call → Option Call → Option Path
path_to outer None = None
path_to outer (Some call) = Some (record { outer = outer; call = call })

abbrev pub path_of : ℕ → List Call → Option Path
path_of level calls = path_to (take level calls) (slice_get calls level)

abbrev pub path_at : ℕ → Told → Option Path
path_at level t = path_of level t.calls
