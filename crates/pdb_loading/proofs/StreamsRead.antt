-- What was read of a file has the streams of the whole file.
use Rattle.std.proofs.Common.{◌≡◌, ℕ, ◌≤◌, List, ◌++◌, length, Err, refl, sym, ap, ◌∙◌, inl, inr, arith}
use mathlib.Core.Path.{fun_ext}
use Rattle.std.specs.Prelude.{nat_lt, nat_eq, false, None, Option}
use Rattle.std.specs.List.{starts_with}
use Rattle.std.proofs.lemmas.Bool.{cases_Bool}
use Rattle.std.proofs.lemmas.List.{take-take, take-append-le}
use Rattle.pdb_container.specs.Fault.{Fault, UnrecognizedFileFormat}
use Rattle.pdb_container.specs.Container.{magic, layout_of, front_in, header_in, stream}
use Rattle.pdb_container.proofs.Tails.{same_layout, same_streams}
use Rattle.pdb_loading.specs.FileRead.{IsRead}
use Rattle.pdb_loading.specs.FileRead.IsRead.{all, front, pages}
use Rattle.pdb_symbols_modules.specs.Streams.{Bytes, Streams, streams, fault_in}

-- files that don't begin as a container does are not recognised
pub other_front : (file : List ℕ) → starts_with nat_eq file magic ≡ false → layout_of file ≡ Err UnrecognizedFileFormat
unfolding layout_of front_in header_in
other_front file other = elim (cases_Bool (nat_lt (length file) 4096)) [
  | inl short ↦ rw short refl
  | inr long ↦ rw (long, take-take 32 4096 file (omega arith), other) refl
]

-- what stands after the prefix doesn't make one
pub front_tells : (bytes rest : List ℕ) → 32 ≤ length bytes → starts_with nat_eq bytes magic ≡ false → starts_with nat_eq (bytes ++ rest) magic ≡ false
front_tells bytes rest long other = rw (take-append-le 32 bytes rest long) other

abbrev the_streams : Option Fault → (ℕ → Bytes) → Streams
the_streams fault at = record { open_fault = fault; at = at }

-- one file's streams, and another's
both_streams : (a b : List ℕ) → fault_in (layout_of a) ≡ fault_in (layout_of b) → ((n : ℕ) → stream a n None ≡ stream b n None) → streams a ≡ streams b
unfolding streams
both_streams a b opens reads =
    ap (λ (fault : Option Fault). the_streams fault (λ n. stream a n None)) opens ∙ ap (the_streams (fault_in (layout_of b))) (fun_ext reads)

not_opened : (a b : List ℕ) → layout_of a ≡ Err UnrecognizedFileFormat → layout_of b ≡ Err UnrecognizedFileFormat → (n : ℕ) → stream a n None ≡ stream b n None
unfolding stream
not_opened a b refused both n = rw (refused, both) refl

streams_of : (bytes file : List ℕ) (other : List ℕ) → file ≡ other → streams bytes ≡ streams other → streams bytes ≡ streams file
streams_of bytes file other is same = same ∙ sym (ap streams is)

-- what was read has the file's streams
pub streams_read : (file bytes : List ℕ) → IsRead file bytes → streams bytes ≡ streams file
streams_read file bytes (all same) = ap streams same
streams_read file bytes (front rest is long other) =
    let refused = other_front bytes other in
    let both = other_front (bytes ++ rest) (front_tells bytes rest long other) in
    streams_of bytes file (bytes ++ rest) is (both_streams bytes (bytes ++ rest) (rw (refused, both) refl) (not_opened bytes (bytes ++ rest) refused both))
streams_read file bytes (pages tail is long reach) =
    streams_of bytes file (bytes ++ tail) is
    (both_streams bytes (bytes ++ tail) (sym (ap fault_in (same_layout bytes tail long))) (λ n. sym (same_streams bytes tail n None long reach)))
