-- How a table's codes are followed by those of its parents.
use Rattle.std.proofs.Common.{◌≡◌, ℕ, ◌+◌, ◌-◌, ◌<◌, ◌≤◌, List, [], ◌++◌, Bool, false, zero, suc, refl, sym, ap, ◌∙◌, arith}
use Rattle.std.specs.Prelude.{Option, None, Some, Result, Ok, Err, not, ◌||◌}
use Rattle.pdb_container.specs.Fault.{◌>>=◌}
use Rattle.pdb_image.specs.Image.{Image}
use Rattle.pdb_image.specs.Codes.{Table, behind, chain, is_pointer, table_at, table_behind}
use Rattle.pdb_image.specs.Codes.{with_parent}
use Rattle.pdb_image.specs.declared.code.UnwindCode.{UnwindCode}
use Rattle.pdb_image.specs.declared.fault.UnwindFault.{UnwindFault}
use Rattle.pdb_image.specs.declared.fault.UnwindFault.TheVariants as faults
use Rattle.pdb_image.proofs.Slots.{behind_behind}

none_before : (r : Result (List UnwindCode) UnwindFault) → behind [] r ≡ r
none_before (Ok xs) = refl
none_before (Err e) = refl

-- codes before a table's own, with those of its parent
parent_behind : (old codes : List UnwindCode) (parent : Option ℕ)
    (of : ℕ → Result (List UnwindCode) UnwindFault)
    → behind old (with_parent codes parent of) ≡ with_parent (old ++ codes) parent of
parent_behind old codes None of = refl
parent_behind old codes (Some p) of = behind_behind old codes (of p)

codes_read : Result Table UnwindFault → List UnwindCode
codes_read (Ok table) = table.codes
codes_read (Err e) = []

parent_read : Result Table UnwindFault → Option ℕ
parent_read (Ok table) = table.parent
parent_read (Err e) = None

-- a table that was read
table_read : (old new : List UnwindCode) (parent : Option ℕ)
    (of : ℕ → Result (List UnwindCode) UnwindFault) (table : Result Table UnwindFault)
    → table_behind old table ≡ Ok (record { codes = new; parent = parent })
    → behind old (table >>= λ t. with_parent t.codes t.parent of)
    ≡ with_parent new parent of
unfolding codes_read parent_read
table_read old new parent of (Ok t) e =
    let codes : old ++ t.codes ≡ new = ap codes_read e in
    let same : t.parent ≡ parent = ap parent_read e in
    parent_behind old t.codes t.parent of
    ∙ ap (λ (xs : List UnwindCode). with_parent xs t.parent of) codes
    ∙ ap (λ (x : Option ℕ). with_parent new x of) same
table_read old new parent of (Err x) e = cc

pub chain_read : (image : Image) (left : ℕ) (p : Bool) (info : ℕ) (old new : List UnwindCode)
    (parent : Option ℕ) → 0 < left
    → table_behind old (table_at image p info) ≡ Ok (record { codes = new; parent = parent })
    → behind old (chain image left p info)
    ≡ with_parent new parent (chain image (left - 1) (p || not (is_pointer info)))
unfolding chain
chain_read image zero p info old new parent some e = absurd (omega arith)
chain_read image (suc left) p info old new parent some e =
    let one : suc left - 1 ≡ left = omega arith in
    rw one (table_read old new parent (chain image left (p || not (is_pointer info))) (table_at image p info) e)

fault_read : (old : List UnwindCode) (of : ℕ → Result (List UnwindCode) UnwindFault)
    (table : Result Table UnwindFault) (x : UnwindFault)
    → table_behind old table ≡ Err x
    → behind old (table >>= λ t. with_parent t.codes t.parent of) ≡ Err x
fault_read old of (Ok t) x e = cc
fault_read old of (Err y) x e = cc

pub chain_fault : (image : Image) (left : ℕ) (p : Bool) (info : ℕ) (old : List UnwindCode)
    (x : UnwindFault) → 0 < left → table_behind old (table_at image p info) ≡ Err x
    → behind old (chain image left p info) ≡ Err x
unfolding chain
chain_fault image zero p info old x some e = absurd (omega arith)
chain_fault image (suc left) p info old x some e =
    fault_read old (chain image left (p || not (is_pointer info))) (table_at image p info) x e

chain_over : (image : Image) (p : Bool) (info : ℕ) (old : List UnwindCode)
    → behind old (chain image 0 p info) ≡ Err faults.TooManyParents
unfolding chain
chain_over image p info old = refl

-- ---- a loop over the tables: from this one on they are still to come

pub chain_starts : (image : Image) (info : ℕ) (codes : List UnwindCode) → codes ≡ []
    → behind codes (chain image 33 false info) ≡ chain image 33 false info
chain_starts image info codes e =
    ap (λ (xs : List UnwindCode). behind xs (chain image 33 false info)) e
    ∙ none_before (chain image 33 false info)

pub chain_on : (image : Image) (i : ℕ) (p : Bool) (info q : ℕ) (old new : List UnwindCode)
    (total : Result (List UnwindCode) UnwindFault) → i < 33
    → table_behind old (table_at image p info) ≡ Ok (record { codes = new; parent = Some q })
    → behind old (chain image (33 - i) p info) ≡ total
    → behind new (chain image (33 - (i + 1)) (p || not (is_pointer info)) q) ≡ total
chain_on image i p info q old new total lt e so_far =
    let one : 33 - (i + 1) ≡ 33 - i - 1 = omega arith in
    rw one (sym (chain_read image (33 - i) p info old new (Some q) (omega arith) e) ∙ so_far)

pub chain_ends : (image : Image) (i : ℕ) (p : Bool) (info : ℕ) (old new : List UnwindCode)
    (total : Result (List UnwindCode) UnwindFault) → i < 33
    → table_behind old (table_at image p info) ≡ Ok (record { codes = new; parent = None })
    → behind old (chain image (33 - i) p info) ≡ total → total ≡ Ok new
chain_ends image i p info old new total lt e so_far =
    sym so_far ∙ chain_read image (33 - i) p info old new None (omega arith) e

pub chain_fails : (image : Image) (i : ℕ) (p : Bool) (info : ℕ) (old : List UnwindCode)
    (x : UnwindFault) (total : Result (List UnwindCode) UnwindFault) → i < 33
    → table_behind old (table_at image p info) ≡ Err x
    → behind old (chain image (33 - i) p info) ≡ total → total ≡ Err x
chain_fails image i p info old x total lt e so_far =
    sym so_far ∙ chain_fault image (33 - i) p info old x (omega arith) e

pub chain_too_long : (image : Image) (i : ℕ) (p : Bool) (info : ℕ) (old : List UnwindCode)
    (total : Result (List UnwindCode) UnwindFault) → 33 ≤ i
    → behind old (chain image (33 - i) p info) ≡ total → total ≡ Err faults.TooManyParents
chain_too_long image i p info old total past so_far =
    let none : 33 - i ≡ 0 = omega arith in
    sym so_far ∙ ap (λ (n : ℕ). behind old (chain image n p info)) none
    ∙ chain_over image p info old
