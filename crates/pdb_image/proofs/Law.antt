-- Records of a function, read in their order, give the rules at each address.
use Rattle.std.proofs.Common.{◌≡◌, ℕ, ◌+◌, ◌-◌, ◌<◌, ◌≤◌, List, [], ◌∷◌, ◌++◌, Bool, true, false}
use Rattle.std.proofs.Common.{cond, leb, ltb, refl, ap, ◌∙◌, arith, zero, suc, inl, inr}
use Rattle.std.specs.Prelude.{ℤ, pos, negsuc, Option, None, Some, ◌&&◌, ◌||◌}
use Rattle.std.specs.Option.{option_or}
use Rattle.std.specs.List.{flat_map, list_any, range_with_len}
use Rattle.std.proofs.lemmas.Bool.{le-leb, lt-leb, lt-ltb, eqb-true, and_parts, and_from}
use Rattle.std.proofs.lemmas.Bool.{cases_lt}
use Rattle.pdb_image.specs.Entries.{UnwoundFunction}
use Rattle.pdb_image.specs.Rules.{rule, rules_at}
use Rattle.pdb_image.specs.Records.{Rule, Change, records_of, registers, is_named}
use Rattle.pdb_image.specs.Records.{same_register, same_number, same_bool, same_expression}
use Rattle.pdb_image.specs.Records.{changed, rule_of, changes_of, change_at, change_of}
use Rattle.pdb_image.specs.Reading.{named, read_changes, read_records, IsUnwound}
use Rattle.pdb_image.specs.declared.rules.Register.{Register}
use Rattle.pdb_image.specs.declared.rules.Register.TheVariants.{Cfa, ReturnAddress, General}
use Rattle.pdb_image.specs.declared.rules.Expression.{Expression}
use Rattle.pdb_image.proofs.Kept.{rule_kept}

-- ---- what is the same is equal

pub register_equal : (a b : Register) → same_register a b ≡ true → a ≡ b
register_equal Cfa Cfa e = refl
register_equal Cfa ReturnAddress e = cc
register_equal Cfa (General m) e = cc
register_equal ReturnAddress Cfa e = cc
register_equal ReturnAddress ReturnAddress e = refl
register_equal ReturnAddress (General m) e = cc
register_equal (General n) Cfa e = cc
register_equal (General n) ReturnAddress e = cc
register_equal (General n) (General m) e = ap General (eqb-true n m e)

number_equal : (a b : ℤ) → same_number a b ≡ true → a ≡ b
number_equal (pos n) (pos m) e = ap pos (eqb-true n m e)
number_equal (pos n) (negsuc m) e = cc
number_equal (negsuc n) (pos m) e = cc
number_equal (negsuc n) (negsuc m) e = ap negsuc (eqb-true n m e)

bool_equal : (a b : Bool) → same_bool a b ≡ true → a ≡ b
bool_equal true true e = refl
bool_equal true false e = cc
bool_equal false true e = cc
bool_equal false false e = refl

made : Register → ℤ → Bool → Expression
made base offset is_read = record { base = base; offset = offset; is_read = is_read }

parts_equal : (a b : Expression) → a.base ≡ b.base → a.offset ≡ b.offset
    → a.is_read ≡ b.is_read → a ≡ b
unfolding made
parts_equal a b p q r =
    let first : made a.base a.offset a.is_read ≡ made b.base a.offset a.is_read
    = ap (λ (x : Register). made x a.offset a.is_read) p in
    let second : made b.base a.offset a.is_read ≡ made b.base b.offset a.is_read
    = ap (λ (x : ℤ). made b.base x a.is_read) q in
    let third : made b.base b.offset a.is_read ≡ made b.base b.offset b.is_read
    = ap (λ (x : Bool). made b.base b.offset x) r in
    first ∙ second ∙ third

pub expression_equal : (a b : Expression) → same_expression a b ≡ true → a ≡ b
expression_equal a b e =
    let both = and_parts (same_register a.base b.base && same_number a.offset b.offset)
    (same_bool a.is_read b.is_read) e in
    let two = and_parts (same_register a.base b.base) (same_number a.offset b.offset) both.0 in
    parts_equal a b (register_equal a.base b.base two.0) (number_equal a.offset b.offset two.1)
    (bool_equal a.is_read b.is_read both.1)

-- ---- a change leads from the old rule to the new one

change_by : (a b : Expression) (same : Bool) → (same ≡ true → a ≡ b)
    → option_or (cond same None (Some b)) (Some a) ≡ Some b
change_by a b true h = ap Some (h refl)
change_by a b false h = refl

after_change : (old new : Option Expression) → (new ≡ None → old ≡ None)
    → option_or (changed old new) old ≡ new
after_change None None h = refl
after_change None (Some b) h = refl
after_change (Some a) None h = h refl
after_change (Some a) (Some b) h = change_by a b (same_expression a b) (expression_equal a b)

from_none : (new : Option Expression) → changed None new ≡ new
from_none None = refl
from_none (Some b) = refl

-- ---- what a record names

-- the rule of one register before others, by whether it is the register that is asked for
named_here : (r n : Register) (e : Option Expression) (same : Bool) (others : List Rule)
    → same_register n r ≡ same
    → named r (rule_of n e ++ others) ≡ cond same (option_or e (named r others)) (named r others)
named_here r n None true others s = refl
named_here r n None false others s = refl
named_here r n (Some e) true others s = ap (λ b. cond b (Some e) (named r others)) s
named_here r n (Some e) false others s = ap (λ b. cond b (Some e) (named r others)) s

or_default : (b : Bool) (e : Option Expression) → option_or e (cond b e None) ≡ e
or_default b (Some x) = refl
or_default true None = refl
or_default false None = refl

-- the same, once it is known of the others
named_by : (old new : Register → Option Expression) (r n : Register) (same rest : Bool)
    (others : List Rule) → same_register n r ≡ same
    → named r others ≡ cond rest (changed (old r) (new r)) None
    → named r (rule_of n (changed (old n) (new n)) ++ others)
    ≡ cond (same || rest) (changed (old r) (new r)) None
named_by old new r n true rest others s h =
    let e = register_equal n r s in
    named_here r n (changed (old n) (new n)) true others s
    ∙ ap (λ (x : Register). option_or (changed (old x) (new x)) (named r others)) e
    ∙ ap (option_or (changed (old r) (new r))) h
    ∙ or_default rest (changed (old r) (new r))
named_by old new r n false rest others s h =
    named_here r n (changed (old n) (new n)) false others s ∙ h

named_changes : (old new : Register → Option Expression) (r : Register) (names : List Register)
    → named r (changes_of old new names)
    ≡ cond (list_any (λ n. same_register n r) names) (changed (old r) (new r)) None
named_changes old new r [] = refl
named_changes old new r (n ∷ names) =
    named_by old new r n (same_register n r) (list_any (λ m. same_register m r) names)
    (changes_of old new names) refl (named_changes old new r names)

named_change : (old new : Register → Option Expression) (r : Register) → is_named r ≡ true
    → named r (changes_of old new registers) ≡ changed (old r) (new r)
named_change old new r e =
    named_changes old new r registers ∙ ap (λ b. cond b (changed (old r) (new r)) None) e

-- ---- changes, one after the other

read_one : (a address : ℕ) (r : Register) (before : Option Expression) (rules : List Rule)
    (rest : List Change) → leb address a ≡ true
    → read_changes a r before (change_at address rules ++ rest)
    ≡ read_changes a r (option_or (named r rules) before) rest
read_one a address r before [] rest e = refl
read_one a address r before (x ∷ rules) rest e =
    ap (λ b. read_changes a r (cond b (option_or (named r (x ∷ rules)) before) before) rest) e

read_none : (a address : ℕ) (r : Register) (before : Option Expression) (rules : List Rule)
    (rest : List Change) → leb address a ≡ false
    → read_changes a r before (change_at address rules ++ rest) ≡ read_changes a r before rest
read_none a address r before [] rest e = refl
read_none a address r before (x ∷ rules) rest e =
    ap (λ b. read_changes a r (cond b (option_or (named r (x ∷ rules)) before) before) rest) e

-- the changes that a record at an offset says
says : UnwoundFunction → ℕ → List Rule
says f o = changes_of (rule (rules_at f.codes (o - 1))) (rule (rules_at f.codes o)) registers

-- changes after the address are not read
read_none_behind : (f : UnwoundFunction) (a : ℕ) (r : Register) (before : Option Expression)
    (n k : ℕ) → a < f.begin + k
    → read_changes a r before (flat_map (change_of f) (range_with_len k n)) ≡ before
unfolding says
read_none_behind f a r before zero k lt = refl
read_none_behind f a r before (suc n) k lt =
    read_none a (f.begin + k) r before (says f k)
    (flat_map (change_of f) (range_with_len (k + 1) n)) (lt-leb (f.begin + k) a lt)
    ∙ read_none_behind f a r before n (k + 1) (omega arith)

-- the next change leads to the rule at its offset
next_rule : (f : UnwoundFunction) (r : Register) (k : ℕ) → is_named r ≡ true
    → option_or (named r (says f (k + 1))) (rule (rules_at f.codes k) r)
    ≡ rule (rules_at f.codes (k + 1)) r
unfolding says
next_rule f r k e =
    let here : k + 1 - 1 ≡ k = omega arith in
    let old = rule (rules_at f.codes k) in
    let new = rule (rules_at f.codes (k + 1)) in
    ap (λ (j : ℕ). option_or (named r (changes_of (rule (rules_at f.codes j)) new registers)) (old r)) here
    ∙ ap (λ (x : Option Expression). option_or x (old r)) (named_change old new r e)
    ∙ after_change (old r) (new r) (rule_kept f.codes k (k + 1) (omega arith) r)

-- from the rule at an offset on, changes lead to that at the address
read_all : (f : UnwoundFunction) (a : ℕ) (r : Register) → is_named r ≡ true
    → (n k : ℕ) → f.begin + k ≤ a → a ≤ f.begin + k + n
    → read_changes a r (rule (rules_at f.codes k) r)
    (flat_map (change_of f) (range_with_len (k + 1) n))
    ≡ rule (rules_at f.codes (a - f.begin)) r
unfolding says
read_all f a r e zero k low high =
    let here : k ≡ a - f.begin = omega arith in
    ap (λ (j : ℕ). rule (rules_at f.codes j) r) here
read_all f a r e (suc n) k low high =
    let rest = flat_map (change_of f) (range_with_len (k + 1 + 1) n) in
    let now = rule (rules_at f.codes k) r in
    let here : a < f.begin + (k + 1) → read_changes a r now (change_at (f.begin + (k + 1)) (says f (k + 1)) ++ rest) ≡ rule (rules_at f.codes (a - f.begin)) r
    = λ (lt : a < f.begin + (k + 1)).
    read_none a (f.begin + (k + 1)) r now (says f (k + 1)) rest (lt-leb (f.begin + (k + 1)) a lt)
    ∙ read_none_behind f a r now n (k + 1 + 1) (omega arith)
    ∙ ap (λ (j : ℕ). rule (rules_at f.codes j) r) (omega arith) in
    let on : f.begin + (k + 1) ≤ a → read_changes a r now (change_at (f.begin + (k + 1)) (says f (k + 1)) ++ rest) ≡ rule (rules_at f.codes (a - f.begin)) r
    = λ (le : f.begin + (k + 1) ≤ a).
    read_one a (f.begin + (k + 1)) r now (says f (k + 1)) rest (le-leb (f.begin + (k + 1)) a le)
    ∙ ap (λ (x : Option Expression). read_changes a r x rest) (next_rule f r k e)
    ∙ read_all f a r e n (k + 1) le (omega arith) in
    elim (cases_lt a (f.begin + (k + 1))) [ inl lt ↦ here lt | inr le ↦ on le ]

-- ---- the law

pub is_unwound : (f : UnwoundFunction) → IsUnwound f
unfolding records_of read_records
is_unwound f a r low high e =
    let inside : leb f.begin a && ltb a (f.begin + (f.end - f.begin)) ≡ true
    = and_from (leb f.begin a) (ltb a (f.begin + (f.end - f.begin)))
    (le-leb f.begin a low) (lt-ltb a (f.begin + (f.end - f.begin)) (omega arith)) in
    let first = rule (rules_at f.codes 0) in
    let changes = flat_map (change_of f) (range_with_len 1 (f.end - f.begin - 1)) in
    let start : named r (changes_of (λ (x : Register). None) first registers) ≡ first r
    = named_change (λ (x : Register). None) first r e ∙ from_none (first r) in
    ap (λ (b : Bool). cond b (read_changes a r (named r (changes_of (λ (x : Register). None) first registers)) changes) None) inside
    ∙ ap (λ (x : Option Expression). read_changes a r x changes) start
    ∙ read_all f a r e (f.end - f.begin - 1) 0 (omega arith) (omega arith)
