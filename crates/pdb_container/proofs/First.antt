-- One slice from a file's beginning on.
use Rattle.std.proofs.Common.{◌≡◌, ◌≢◌, ℕ, ◌<◌, ◌≤◌, inl, inr, List, [], ◌∷◌, length, take, Ok, Err, sym, ap, ◌∙◌, arith}
use Rattle.std.specs.declared.io.ErrorKind.{ErrorKind}
use Rattle.std.specs.declared.io.ErrorKind.TheVariants as kinds
use Rattle.std.proofs.lemmas.Bool.{cases_lt}
use Rattle.std.proofs.lemmas.List.{append-nil, length-take}
use Rattle.pdb_container.specs.Fault.{Fault}
use Rattle.pdb_container.specs.Fault.{IoError}
use Rattle.pdb_container.specs.declared.source.SourceSlice.{SourceSlice}
use Rattle.pdb_container.specs.Fault.{error_of_kind, error_of, fault_of, IsOutside}
use Rattle.std.specs.declared.io.Error as io
use Rattle.std.specs.Prelude.{Result, IfErr}
use Rattle.pdb_container.specs.declared.error.Error.{Error}
use Rattle.std.specs.Prelude.{◌⊎◌}
use Rattle.pdb_container.specs.Places.{places_of, bytes_at}
use Rattle.pdb_container.proofs.Bytes.{bytes_at_range, bytes_at_past}
use Rattle.std.specs.List.{range_with_len}

abbrev first : ℕ → List SourceSlice
first size = record { offset = 0; size = size } ∷ []

place : (file : List ℕ) (size : ℕ) → bytes_at file (places_of (first size)) ≡ bytes_at file (range_with_len 0 size)
place file size = ap (bytes_at file) (append-nil (range_with_len 0 size))

-- the bytes at the first places of a file are its first bytes
pub first_is : (file v : List ℕ) (size : ℕ) → 0 < size → bytes_at file (places_of (first size)) ≡ Ok v → (size ≤ length file) × (v ≡ take size file)
first_is file v size pos e =
    elim (cases_lt (length file) size) [
      | inl h ↦ let wrong = bytes_at_past file 0 size pos (omega arith) in let same = sym e ∙ place file size ∙ wrong in absurd cc
      | inr h ↦ let right = bytes_at_range file 0 size (omega arith) in let same = sym e ∙ place file size ∙ right in (h, cc)
    ]

pub first_fault : (file : List ℕ) (size : ℕ) (e : Fault) → 0 < size → bytes_at file (places_of (first size)) ≡ Err e → (length file < size) × (e ≡ IoError kinds.UnexpectedEof)
first_fault file size e pos h =
    elim (cases_lt (length file) size) [
      | inl lt ↦ let right = bytes_at_past file 0 size pos (omega arith) in let same = sym h ∙ place file size ∙ right in (lt, cc)
      | inr le ↦ let wrong = bytes_at_range file 0 size (omega arith) in let same = sym h ∙ place file size ∙ wrong in absurd cc
    ]

-- a fault of another kind than the end is none of the end
pub not_past : (kind : ErrorKind) → (kind ≢ kinds.UnexpectedEof) → fault_of (error_of_kind kind) ≡ IoError kinds.UnexpectedEof → ⊥
not_past kinds.OutOfMemory ne e = cc
not_past kind ne e = ne cc

-- so many first places have so many bytes
pub first_len : (file v : List ℕ) (size : ℕ) → 0 < size → bytes_at file (places_of (first size)) ≡ Ok v → length v ≡ size
first_len file v size pos e = let h = first_is file v size pos e in rw (h.1) (omega (arith, length-take size file, h.0))

pub first_err : (file : List ℕ) (size : ℕ) (e : Error) (failed : Type 0) → 0 < size
    → (IsOutside e failed ⊎ (bytes_at file (places_of (first size)) ≡ Err (fault_of e)))
    → (IsOutside e failed ⊎ ((length file < size) × (fault_of e ≡ IoError kinds.UnexpectedEof)))
first_err file size e failed pos (inl h) = inl h
first_err file size e failed pos (inr h) = inr (first_fault file size (fault_of e) pos h)

-- a view of a file's first bytes fails by what is outside, or since the file is shorter
pub first_on : {X : Type 0} (file : List ℕ) (size : ℕ) (failed : Type 0) (r : Result X io.Error) → 0 < size
    → IfErr r (λ e. IsOutside (error_of e) failed ⊎ (bytes_at file (places_of (first size)) ≡ Err (fault_of (error_of e))))
    → IfErr r (λ e. IsOutside (error_of e) failed ⊎ ((length file < size) × (fault_of (error_of e) ≡ IoError kinds.UnexpectedEof)))
first_on file size failed (Ok x) pos h = tt
first_on file size failed (Err e) pos h = first_err file size (error_of e) failed pos h
