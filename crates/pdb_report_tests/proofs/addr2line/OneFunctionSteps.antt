-- Runs of the database with one function.
use Rattle.std.proofs.Common.{◌≡◌, ◌≢◌, ℕ, ◌+◌, ◌-◌, ◌<◌, ◌≤◌, min, Bool, true, false, cond, ◌&&◌, ◌||◌, refl, sym, ap, ◌∙◌, arith}
use Rattle.std.specs.Prelude.{None, Some, ◌==◌, nat_le, nat_lt}
use Rattle.std.proofs.Math.Bool.{or-true}
use Rattle.std.proofs.lemmas.Bool.{lt-ltb, le-ltb, eq-eqb, ne_eqb, le-leb, lt-leb}
use Rattle.pdb_addresses.specs.Places.{Place}
use Rattle.pdb_owners.specs.Databases.{IsOneRun}
use Rattle.pdb_report_tests.specs.OneFunction.{one_function, function_f}

-- in another section, or after the function
pub elsewhere : (p : Place) (limit : ℕ) → 1 ≤ limit → p.section ≢ 1 → IsOneRun one_function p limit limit
elsewhere p limit some other = record {
  some = some;
  within = omega arith;
  alike = λ k lt. rw (ne_eqb p.section 1 other) refl;
  clear = λ k one lt. rw (ne_eqb p.section 1 other) refl;
  ends = λ lt. absurd (omega arith);
}

none_of : (a b : Bool) → cond (a && (b && false)) (Some function_f) None ≡ None
none_of true true = refl
none_of true false = refl
none_of false b = refl

and_none : (a : Bool) → (a && (false || false)) ≡ false
and_none true = refl
and_none false = refl

pub past : (p : Place) (limit : ℕ) → 1 ≤ limit → 48 ≤ p.offset → IsOneRun one_function p limit limit
past p limit some far = record {
  some = some;
  within = omega arith;
  alike = λ k lt.
      let there = ap (λ (b : Bool). cond ((p.section == 1) && (nat_le 16 (p.offset + k) && b)) (Some function_f) None) (le-ltb (p.offset + k) 48 (omega arith)) in
      let here = ap (λ (b : Bool). cond ((p.section == 1) && (nat_le 16 p.offset && b)) (Some function_f) None) (le-ltb p.offset 48 far) in
      there ∙ none_of (p.section == 1) (nat_le 16 (p.offset + k)) ∙ sym (here ∙ none_of (p.section == 1) (nat_le 16 p.offset));
  clear = λ k one lt.
      let first = ap (λ (b : Bool). (p.section == 1) && (b || (p.offset + k == 48))) (ne_eqb (p.offset + k) 16 (omega arith)) in
      let second = ap (λ (b : Bool). (p.section == 1) && (false || b)) (ne_eqb (p.offset + k) 48 (omega arith)) in
      first ∙ second ∙ and_none (p.section == 1);
  ends = λ lt. absurd (omega arith);
}

none_before : (a c : Bool) → cond (a && (false && c)) (Some function_f) None ≡ None
none_before true c = refl
none_before false c = refl

pub before : (p : Place) (limit n : ℕ) → 1 ≤ limit → p.section ≡ 1 → p.offset < 16 → n ≡ min limit (16 - p.offset) → IsOneRun one_function p limit n
before p limit n some first low at = record {
  some = omega arith;
  within = omega arith;
  alike = λ k lt.
      let there = ap (λ (b : Bool). cond ((p.section == 1) && (b && nat_lt (p.offset + k) 48)) (Some function_f) None) (lt-leb 16 (p.offset + k) (omega arith)) in
      let here = ap (λ (b : Bool). cond ((p.section == 1) && (b && nat_lt p.offset 48)) (Some function_f) None) (lt-leb 16 p.offset low) in
      there ∙ none_before (p.section == 1) (nat_lt (p.offset + k) 48) ∙ sym (here ∙ none_before (p.section == 1) (nat_lt p.offset 48));
  clear = λ k one lt.
      let a = ap (λ (b : Bool). (p.section == 1) && (b || (p.offset + k == 48))) (ne_eqb (p.offset + k) 16 (omega arith)) in
      let b = ap (λ (b : Bool). (p.section == 1) && (false || b)) (ne_eqb (p.offset + k) 48 (omega arith)) in
      a ∙ b ∙ and_none (p.section == 1);
  ends = λ lt.
      let a = ap (λ (b : Bool). (p.section == 1) && (b || (p.offset + n == 48))) (eq-eqb (p.offset + n) 16 (omega arith)) in
      let b = ap (λ (b : Bool). b && true) (eq-eqb p.section 1 first) in
      a ∙ b;
}

pub inside : (p : Place) (limit n : ℕ) → 1 ≤ limit → p.section ≡ 1 → 16 ≤ p.offset → p.offset < 48 → n ≡ min limit (48 - p.offset) → IsOneRun one_function p limit n
inside p limit n some first high low at = record {
  some = omega arith;
  within = omega arith;
  alike = λ k lt.
      let a = ap (λ (b : Bool). cond ((p.section == 1) && (b && nat_lt (p.offset + k) 48)) (Some function_f) None) (le-leb 16 (p.offset + k) (omega arith)) in
      let b = ap (λ (b : Bool). cond ((p.section == 1) && (true && b)) (Some function_f) None) (lt-ltb (p.offset + k) 48 (omega arith)) in
      let c = ap (λ (b : Bool). cond ((p.section == 1) && (b && nat_lt p.offset 48)) (Some function_f) None) (le-leb 16 p.offset high) in
      let d = ap (λ (b : Bool). cond ((p.section == 1) && (true && b)) (Some function_f) None) (lt-ltb p.offset 48 low) in
      a ∙ b ∙ sym (c ∙ d);
  clear = λ k one lt.
      let a = ap (λ (b : Bool). (p.section == 1) && (b || (p.offset + k == 48))) (ne_eqb (p.offset + k) 16 (omega arith)) in
      let b = ap (λ (b : Bool). (p.section == 1) && (false || b)) (ne_eqb (p.offset + k) 48 (omega arith)) in
      a ∙ b ∙ and_none (p.section == 1);
  ends = λ lt.
      let a = ap (λ (b : Bool). (p.section == 1) && ((p.offset + n == 16) || b)) (eq-eqb (p.offset + n) 48 (omega arith)) in
      let b = ap (λ (b : Bool). (p.section == 1) && b) (or-true (p.offset + n == 16)) in
      let c = ap (λ (b : Bool). b && true) (eq-eqb p.section 1 first) in
      a ∙ b ∙ c;
}
