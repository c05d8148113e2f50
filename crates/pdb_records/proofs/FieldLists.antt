-- The members in a list, as a loop reads them.
use Rattle.std.proofs.Common.{◌≡◌, ◌≢◌, ◌⊎◌, inl, inr, ℕ, suc, ◌-◌, ◌+◌, ◌≤◌, ◌<◌, List, [], ◌∷◌}
use Rattle.std.proofs.Common.{Option, None, Result, Ok, Err, refl, sym, ◌∙◌, arith, length}
use Rattle.pdb_container.specs.declared.error.Error.{Error}
use Rattle.pdb_container.specs.Fault.{Fault, ◌>>=◌, IsOutside, fault_of}
use Rattle.pdb_container.specs.declared.index.TypeIndex.{TypeIndex}
use Rattle.pdb_records.specs.Forms as forms
use Rattle.pdb_records.specs.Forms.{PlainForm, TypeForm}
use Rattle.pdb_records.specs.TypeLeaves.{FieldForm, field_at, fields_within, with_field}
use Rattle.pdb_records.specs.TypeLeaves.{with_continuation}

-- no member known of all
pub fields_start : (count : ℕ) (bytes : List ℕ)
    → fields_within (count - 0) [] None bytes ≡ fields_within count [] None bytes
fields_start count bytes =
    let k : count - 0 ≡ count = omega arith in
    rw k refl

-- one more entry, where a byte is left
step : (n : ℕ) (fields : List PlainForm) (continuation : Option TypeIndex) (bytes : List ℕ)
    → length bytes ≢ 0
    → fields_within (suc n) fields continuation bytes
    ≡ (field_at bytes >>= λ next. fields_within n (with_field next.0 fields)
    (with_continuation next.0 continuation) next.1)
unfolding fields_within
step n fields continuation [] some = absurd (some refl)
step n fields continuation (b ∷ bytes) some = refl

-- one entry of a list of members more
pub fields_more : (fields : List PlainForm) (continuation : Option TypeIndex) (count i : ℕ)
    (bytes rest : List ℕ) (next : FieldForm) (total : Result TypeForm Fault) → i < count
    → length bytes ≢ 0
    → field_at bytes ≡ Ok (next, rest) → fields_within (count - i) fields continuation bytes ≡ total
    → fields_within (count - (i + 1)) (with_field next fields) (with_continuation next continuation)
    rest ≡ total
fields_more fields continuation count i bytes rest next total lt some read so_far =
    let k : count - i ≡ suc (count - (i + 1)) = omega arith in
    let now : fields_within (count - i) fields continuation bytes
    ≡ fields_within (count - (i + 1)) (with_field next fields)
    (with_continuation next continuation) rest =
    rw (k, step (count - (i + 1)) fields continuation bytes some, read) refl in
    sym now ∙ so_far

-- an entry that is refused refuses the list
pub fields_fail : (fields : List PlainForm) (continuation : Option TypeIndex) (count i : ℕ)
    (bytes : List ℕ) (e : Fault) (total : Result TypeForm Fault) → i < count → length bytes ≢ 0
    → field_at bytes ≡ Err e → fields_within (count - i) fields continuation bytes ≡ total
    → total ≡ Err e
fields_fail fields continuation count i bytes e total lt some read so_far =
    let k : count - i ≡ suc (count - (i + 1)) = omega arith in
    let now : fields_within (count - i) fields continuation bytes ≡ Err e =
    rw (k, step (count - (i + 1)) fields continuation bytes some, read) refl in
    sym so_far ∙ now

-- an entry that the code refused refuses the list
pub fields_refused : (fields : List PlainForm) (continuation : Option TypeIndex) (count i : ℕ)
    (bytes : List ℕ) (e : Error) (total : Result TypeForm Fault) → i < count → length bytes ≢ 0
    → (IsOutside e ⊥ ⊎ (field_at bytes ≡ Err (fault_of e)))
    → fields_within (count - i) fields continuation bytes ≡ total
    → IsOutside e ⊥ ⊎ (total ≡ Err (fault_of e))
fields_refused fields continuation count i bytes e total lt some (inl outside) so_far = inl outside
fields_refused fields continuation count i bytes e total lt some (inr read) so_far =
    inr (fields_fail fields continuation count i bytes (fault_of e) total lt some read so_far)

nothing_left : (n : ℕ) (fields : List PlainForm) (continuation : Option TypeIndex) (bytes : List ℕ)
    → length bytes ≡ 0 → fields_within n fields continuation bytes
    ≡ Ok (forms.FieldList fields continuation)
unfolding fields_within
nothing_left n fields continuation [] none = refl
nothing_left n fields continuation (b ∷ bytes) none = absurd (omega arith)

no_step_left : (fields : List PlainForm) (continuation : Option TypeIndex) (bytes : List ℕ)
    → fields_within 0 fields continuation bytes ≡ Ok (forms.FieldList fields continuation)
unfolding fields_within
no_step_left fields continuation [] = refl
no_step_left fields continuation (b ∷ bytes) = refl

-- no byte left: the members known are all
pub fields_end : (fields : List PlainForm) (continuation : Option TypeIndex) (n : ℕ)
    (bytes : List ℕ) (total : Result TypeForm Fault) → length bytes ≡ 0
    → fields_within n fields continuation bytes ≡ total
    → total ≡ Ok (forms.FieldList fields continuation)
fields_end fields continuation n bytes total none so_far =
    sym so_far ∙ nothing_left n fields continuation bytes none

-- no step left: the members known are all
pub fields_done : (fields : List PlainForm) (continuation : Option TypeIndex) (count i : ℕ)
    (bytes : List ℕ) (total : Result TypeForm Fault) → count ≤ i
    → fields_within (count - i) fields continuation bytes ≡ total
    → total ≡ Ok (forms.FieldList fields continuation)
fields_done fields continuation count i bytes total past so_far =
    let k : count - i ≡ 0 = omega arith in
    let now : fields_within (count - i) fields continuation bytes
    ≡ Ok (forms.FieldList fields continuation) =
    rw k (no_step_left fields continuation bytes) in
    sym so_far ∙ now
