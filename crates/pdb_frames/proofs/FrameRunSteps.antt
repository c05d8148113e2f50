-- How far frames go on, by what was read.
use Rattle.std.proofs.Common.{◌≡◌, ◌≢◌, ℕ, List, [], ◌∷◌, ◌++◌, Result, Ok, Err, refl, sym, ap, ◌∙◌}
use Rattle.std.specs.Prelude.{◌⊎◌, Option, None, Some}
use Rattle.pdb_addresses.specs.SectionRun.{nearer, up_to_next}
use Rattle.pdb_addresses.specs.declared.internal_section_offset.PdbInternalSectionOffset.{
  PdbInternalSectionOffset,
}
use Rattle.pdb_frames.specs.Choice.{Chosen}
use Rattle.pdb_container.specs.Fault as container_fault
use Rattle.pdb_container.specs.Fault.{◌>>=◌, IsOutside}
use Rattle.pdb_container.specs.declared.error.Error as container
use Rattle.pdb_container.specs.declared.error.Error.TheVariants as causes
use Rattle.pdb_frames.specs.FrameRuns.{count_if_read, count_in, cuts_in, cuts_in_stream, cuts_read}
use Rattle.pdb_known_modules.specs.KnownModules.{ModuleData}
use Rattle.pdb_resolving.proofs.Lifting.{fails_on, given_fails_on}
use Rattle.pdb_resolving.specs.Fault.{Fault, Fails, error_of, lifted}
use Rattle.pdb_resolving.specs.declared.error.Error.{Error}
use Rattle.pdb_resolving.specs.declared.error.Error.TheVariants as errors

-- the next of two lists of numbers
pub next_of_both : (first second : List ℕ) (x far : ℕ)
    → up_to_next (first ++ second) x far ≡ up_to_next first x (up_to_next second x far)
next_of_both [] second x far = refl
next_of_both (n ∷ first) second x far = ap (nearer x n) (next_of_both first second x far)

-- where what they are found by can't be read, neither can the next one
pub count_fails : {A : Type 0} (e : container.Error) (read : Result A container_fault.Fault)
    (f : A → Result (List ℕ) Fault) (x far : ℕ)
    → (IsOutside e ⊥ ⊎ (read ≡ Err (container_fault.fault_of e)))
    → Fails (error_of e) (count_if_read (lifted read >>= f) x far)
count_fails e read f x far h =
    fails_on (error_of e) (lifted read >>= f) (λ cuts. Ok (up_to_next cuts x far))
    (given_fails_on e read f h)

-- the number, or another one where it couldn't be read
abbrev count_or : ℕ → Result ℕ Fault → ℕ
count_or far (Ok n) = n
count_or far (Err e) = far

read_or_far : (cuts : Result (List ℕ) Fault) (x far : ℕ)
    → count_or far (count_if_read cuts x far) ≡ up_to_next (cuts_read cuts) x far
read_or_far (Ok cuts) x far = refl
read_or_far (Err e) x far = refl

count_is : (known : Option ModuleData) (c : Chosen) (place : PdbInternalSectionOffset) (far : ℕ)
    → count_or far (count_in known c place far) ≡ up_to_next (cuts_in known c) place.offset far
count_is None c place far = refl
count_is (Some known) c place far = read_or_far (cuts_in_stream known.stream c) place.offset far

-- a count that was read
pub count_read : (known : Option ModuleData) (c : Chosen) (place : PdbInternalSectionOffset)
    (far n : ℕ) → count_in known c place far ≡ Ok n
    → n ≡ up_to_next (cuts_in known c) place.offset far
count_read known c place far n h = sym (ap (count_or far) h) ∙ count_is known c place far

-- a number
abbrev number : ℕ → Result ℕ Fault
number n = Ok n

of_number : (far n : ℕ) (e : Error) → e ≢ errors.OutOfMemory → Fails e (number n) → far ≡ n
of_number far n errors.OutOfMemory other h = absurd (other refl)
of_number far n (errors.PdbError causes.OutOfMemory) other h = absurd h
of_number far n (errors.FormatError cause) other h = absurd h
of_number far n e other h = cc

no_count : (far : ℕ) (e : Error) (read : Result ℕ Fault) → e ≢ errors.OutOfMemory → Fails e read
    → far ≡ count_or far read
no_count far e (Ok n) other h = of_number far n e other h
no_count far e (Err fault) other h = refl

-- where nothing could be read, it is all
pub count_unread : (known : Option ModuleData) (c : Chosen) (place : PdbInternalSectionOffset)
    (far : ℕ) (e : Error) → e ≢ errors.OutOfMemory → Fails e (count_in known c place far)
    → far ≡ up_to_next (cuts_in known c) place.offset far
count_unread known c place far e other h =
    no_count far e (count_in known c place far) other h ∙ count_is known c place far
