-- How codes are read one after the other.
use Rattle.std.proofs.Common.{◌≡◌, ℕ, ◌+◌, ◌-◌, ◌*◌, ◌<◌, ◌≤◌, List, [], ◌∷◌, ◌++◌, Bool, zero, suc}
use Rattle.std.proofs.Common.{length, get_or, drop, refl, sym, ap, ◌∙◌, arith}
use Rattle.std.specs.Prelude.{Option, None, Some, Result, Ok, Err, ◌%◌, ◌/◌, if◌then◌else◌}
use Rattle.std.proofs.lemmas.List.{append_assoc, append-nil, drop-drop, drop_all}
use Rattle.pdb_image.specs.Codes.{codes_in, code_at, operation_of, slots_of, behind}
use Rattle.pdb_image.specs.declared.code.UnwindCode.{UnwindCode}
use Rattle.pdb_image.specs.declared.code.UnwindOperation.{UnwindOperation}
use Rattle.pdb_image.specs.declared.fault.UnwindFault.{UnwindFault}
use Rattle.pdb_image.specs.declared.fault.UnwindFault.TheVariants as faults

-- operands that aren't all there: the code is cut
pub cut_operands : (p : Bool) (f left : ℕ) (bytes : List ℕ) → length bytes < 2 * left
    → codes_in p f left bytes ≡ Err faults.CutCode
unfolding codes_in
cut_operands p f zero bytes lt = absurd (omega arith)
cut_operands p f (suc left) [] lt = refl
cut_operands p f (suc left) (b ∷ []) lt = refl
cut_operands p f (suc left) (b ∷ c ∷ bytes) lt = cut_operands p f left bytes (omega arith)

-- operands that are there: the codes go on after them
pub skip_operands : (p : Bool) (f left : ℕ) (bytes : List ℕ) → 2 * left ≤ length bytes
    → codes_in p f left bytes ≡ codes_in p f 0 (drop (2 * left) bytes)
unfolding codes_in
skip_operands p f zero bytes le = refl
skip_operands p f (suc left) [] le = absurd (omega arith)
skip_operands p f (suc left) (b ∷ []) le = absurd (omega arith)
skip_operands p f (suc left) (b ∷ c ∷ bytes) le =
    let two : 2 * suc left ≡ suc (suc (2 * left)) = omega arith in
    skip_operands p f left bytes (omega arith)
    ∙ ap (λ (n : ℕ). codes_in p f 0 (drop n (b ∷ c ∷ bytes))) (sym two)

pub behind_behind : (xs ys : List UnwindCode) (r : Result (List UnwindCode) UnwindFault)
    → behind xs (behind ys r) ≡ behind (xs ++ ys) r
behind_behind xs ys (Ok zs) = ap Ok (sym (append_assoc xs ys zs))
behind_behind xs ys (Err e) = refl

pub behind_end : (xs : List UnwindCode) → behind xs (Ok []) ≡ Ok xs
behind_end xs = ap Ok (append-nil xs)

-- the code that bytes begin with, and those after it
pub first_code : (p : Bool) (f k : ℕ) (bytes : List ℕ) → 1 ≤ k → 2 * k ≤ length bytes
    → slots_of (get_or bytes 1 0 % 16) (get_or bytes 1 0 / 16) ≡ Some k
    → codes_in p f 0 bytes
    ≡ behind (code_at (if p then 0 else get_or bytes 0 0) (operation_of f (get_or bytes 1 0) k (drop 2 bytes)))
    (codes_in p f 0 (drop (2 * k) bytes))
unfolding codes_in
first_code p f k [] one le e = absurd (omega arith)
first_code p f k (b ∷ []) one le e = absurd (omega arith)
first_code p f k (b ∷ c ∷ bytes) one le e =
    let two : 2 * k ≡ suc (suc (2 * (k - 1))) = omega arith in
    let code = code_at (if p then 0 else b) (operation_of f c k bytes) in
    rw e (ap (behind code) (skip_operands p f (k - 1) bytes (omega arith)
    ∙ ap (λ (n : ℕ). codes_in p f 0 (drop n (b ∷ c ∷ bytes))) (sym two)))

pub first_cut : (p : Bool) (f k : ℕ) (bytes : List ℕ) → 1 ≤ k → 2 ≤ length bytes
    → length bytes < 2 * k
    → slots_of (get_or bytes 1 0 % 16) (get_or bytes 1 0 / 16) ≡ Some k
    → codes_in p f 0 bytes ≡ Err faults.CutCode
unfolding codes_in
first_cut p f k [] one two lt e = absurd (omega arith)
first_cut p f k (b ∷ []) one two lt e = absurd (omega arith)
first_cut p f k (b ∷ c ∷ bytes) one two lt e =
    let code = code_at (if p then 0 else b) (operation_of f c k bytes) in
    rw e (ap (behind code) (cut_operands p f (k - 1) bytes (omega arith)))

pub first_unknown : (p : Bool) (f : ℕ) (bytes : List ℕ) → 2 ≤ length bytes
    → slots_of (get_or bytes 1 0 % 16) (get_or bytes 1 0 / 16) ≡ None
    → codes_in p f 0 bytes ≡ Err (faults.UnknownCode (get_or bytes 1 0))
unfolding codes_in
first_unknown p f [] two e = absurd (omega arith)
first_unknown p f (b ∷ []) two e = absurd (omega arith)
first_unknown p f (b ∷ c ∷ bytes) two e = rw e refl

-- fewer bytes than a slot: the code is cut
pub first_short : (p : Bool) (f : ℕ) (bytes : List ℕ) → 1 ≤ length bytes → length bytes < 2
    → codes_in p f 0 bytes ≡ Err faults.CutCode
unfolding codes_in
first_short p f [] some lt = absurd (omega arith)
first_short p f (b ∷ []) some lt = refl
first_short p f (b ∷ c ∷ bytes) some lt = absurd (omega arith)

-- the code is appended to others, and those after it are still to come
pub code_pushed : (p : Bool) (f k offset : ℕ) (bytes : List ℕ) (step : Option UnwindOperation)
    (old new : List UnwindCode) → 1 ≤ k → 2 * k ≤ length bytes
    → Some k ≡ slots_of (get_or bytes 1 0 % 16) (get_or bytes 1 0 / 16)
    → offset ≡ (if p then 0 else get_or bytes 0 0)
    → step ≡ operation_of f (get_or bytes 1 0) k (drop 2 bytes)
    → new ≡ old ++ code_at offset step
    → behind new (codes_in p f 0 (drop (2 * k) bytes)) ≡ behind old (codes_in p f 0 bytes)
code_pushed p f k offset bytes step old new one le e at is pushed =
    let rest = codes_in p f 0 (drop (2 * k) bytes) in
    let code : ℕ → Option UnwindOperation → List UnwindCode
    = λ (o : ℕ) (s : Option UnwindOperation). code_at o s in
    ap (λ (xs : List UnwindCode). behind xs rest) pushed
    ∙ ap (λ (o : ℕ). behind (old ++ code o step) rest) at
    ∙ ap (λ (s : Option UnwindOperation). behind (old ++ code (if p then 0 else get_or bytes 0 0) s) rest) is
    ∙ sym (behind_behind old (code (if p then 0 else get_or bytes 0 0) (operation_of f (get_or bytes 1 0) k (drop 2 bytes))) rest)
    ∙ ap (behind old) (sym (first_code p f k bytes one le (sym e)))

codes_end : (p : Bool) (f : ℕ) (old : List UnwindCode) → behind old (codes_in p f 0 []) ≡ Ok old
unfolding codes_in
codes_end p f old = behind_end old

-- ---- a loop over the codes: from this place on they are still to come

pub codes_more : (p : Bool) (f place size next : ℕ) (bytes : List ℕ) (old new : List UnwindCode)
    (total : Result (List UnwindCode) UnwindFault) → place + size ≡ next
    → behind new (codes_in p f 0 (drop size (drop place bytes)))
    ≡ behind old (codes_in p f 0 (drop place bytes))
    → behind old (codes_in p f 0 (drop place bytes)) ≡ total
    → behind new (codes_in p f 0 (drop next bytes)) ≡ total
codes_more p f place size next bytes old new total sum step so_far =
    ap (λ (n : ℕ). behind new (codes_in p f 0 (drop n bytes))) (sym sum)
    ∙ ap (λ (xs : List ℕ). behind new (codes_in p f 0 xs)) (sym (drop-drop size place bytes))
    ∙ step ∙ so_far

pub codes_done : (p : Bool) (f place : ℕ) (bytes : List ℕ) (codes : List UnwindCode)
    (total : Result (List UnwindCode) UnwindFault) → length bytes ≤ place
    → behind codes (codes_in p f 0 (drop place bytes)) ≡ total → total ≡ Ok codes
codes_done p f place bytes codes total past so_far =
    sym so_far
    ∙ ap (λ (xs : List ℕ). behind codes (codes_in p f 0 xs)) (drop_all place bytes past)
    ∙ codes_end p f codes

pub codes_failed : (p : Bool) (f place : ℕ) (bytes : List ℕ) (codes : List UnwindCode)
    (e : UnwindFault) (total : Result (List UnwindCode) UnwindFault)
    → codes_in p f 0 (drop place bytes) ≡ Err e
    → behind codes (codes_in p f 0 (drop place bytes)) ≡ total → total ≡ Err e
codes_failed p f place bytes codes e total failed so_far =
    sym so_far ∙ ap (behind codes) failed
