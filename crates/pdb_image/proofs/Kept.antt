-- A rule that some steps give, these and further ones give, too.
use Rattle.std.proofs.Common.{◌≡◌, ℕ, ◌<◌, ◌≤◌, List, [], ◌∷◌, Bool, true, false, cond, leb, eqb}
use Rattle.std.proofs.Common.{map, refl, sym, ap, ◌∙◌, arith, inl, inr}
use Rattle.std.specs.Prelude.{Option, None, Some}
use Rattle.std.specs.Option.{option_map}
use Rattle.std.specs.List.{range_with_len}
use Rattle.std.proofs.lemmas.Bool.{leb-true, le-leb, cases_lt}
use Rattle.std.proofs.lemmas.List.{get_or_past}
use Rattle.std.proofs.lemmas.List.FromFn.{get_or-map-range_with_len, length-map-range_with_len}
use Rattle.pdb_image.specs.Rules.{done, saved, saved_after, register_rule, rules_after, rules_at}
use Rattle.pdb_image.specs.Rules.{rule, depth, saved_rule, frame, has_machine_frame}
use Rattle.pdb_image.specs.declared.code.UnwindCode.{UnwindCode}
use Rattle.pdb_image.specs.declared.code.UnwindOperation.{UnwindOperation}
use Rattle.pdb_image.specs.declared.code.UnwindOperation.TheVariants.{Push, Allocate, SetFrame}
use Rattle.pdb_image.specs.declared.code.UnwindOperation.TheVariants.{Save, MachineFrame}
use Rattle.pdb_image.specs.declared.frame.Saved.{Saved}
use Rattle.pdb_image.specs.declared.frame.Saved.TheVariants.{Below, Above}
use Rattle.pdb_image.specs.declared.rules.Register.{Register}
use Rattle.pdb_image.specs.declared.rules.Register.TheVariants.{Cfa, ReturnAddress, General}

-- what a choice gives is nothing: so is what it gives of another value, and of nothing
choice_kept : (b : Bool) (s t : Saved) (x y : Option Saved) → cond b (Some s) x ≡ None
    → (x ≡ None → y ≡ None) → cond b (Some t) y ≡ None
choice_kept true s t x y e h = cc
choice_kept false s t x y e h = h e

-- a step after which a register isn't saved leaves it so whatever was done before
step_kept : (r : ℕ) (op : UnwindOperation) (d e : ℕ) (x y : Option Saved)
    → saved_after r op d x ≡ None → (x ≡ None → y ≡ None) → saved_after r op e y ≡ None
step_kept r (Push other) d e x y n h = choice_kept (eqb other r) (Below d) (Below e) x y n h
step_kept r (Save other o) d e x y n h = choice_kept (eqb other r) (Above o) (Above o) x y n h
step_kept r (Allocate size) d e x y n h = h n
step_kept r (SetFrame other o) d e x y n h = h n
step_kept r (MachineFrame b) d e x y n h = h n

-- a step after which a register isn't saved: it wasn't before
step_before : (r : ℕ) (op : UnwindOperation) (d : ℕ) (x : Option Saved)
    → saved_after r op d x ≡ None → x ≡ None
step_before r (Push other) d x n = elim (eqb other r) as (λ b. cond b (Some (Below d)) x ≡ None → x ≡ None) [ true ↦ λ (e : Some (Below d) ≡ None). cc | false ↦ λ (e : x ≡ None). e ] n
step_before r (Save other o) d x n = elim (eqb other r) as (λ b. cond b (Some (Above o)) x ≡ None → x ≡ None) [ true ↦ λ (e : Some (Above o) ≡ None). cc | false ↦ λ (e : x ≡ None). e ] n
step_before r (Allocate size) d x n = n
step_before r (SetFrame other o) d x n = n
step_before r (MachineFrame b) d x n = n

-- one code more, by whether it counts at the earlier and at the later offset
more_kept : (r : ℕ) (c : UnwindCode) (early late : Bool) (xs ys : List UnwindCode)
    → (early ≡ true → late ≡ true) → (saved r ys ≡ None → saved r xs ≡ None)
    → saved r (cond late (c ∷ ys) ys) ≡ None → saved r (cond early (c ∷ xs) xs) ≡ None
more_kept r c true true xs ys both h n = step_kept r c.operation (depth (c ∷ ys)) (depth (c ∷ xs)) (saved r ys) (saved r xs) n h
more_kept r c true false xs ys both h n = let bad : false ≡ true = both refl in cc
more_kept r c false true xs ys both h n = h (step_before r c.operation (depth (c ∷ ys)) (saved r ys) n)
more_kept r c false false xs ys both h n = h n

-- a register that isn't saved at an offset isn't at an earlier one
saved_kept : (r a b : ℕ) → a ≤ b → (codes : List UnwindCode)
    → saved r (done b codes) ≡ None → saved r (done a codes) ≡ None
saved_kept r a b le [] n = n
saved_kept r a b le (c ∷ codes) n =
    more_kept r c (leb c.offset a) (leb c.offset b) (done a codes) (done b codes)
    (λ (e : leb c.offset a ≡ true). le-leb c.offset b (omega (arith, leb-true c.offset a e)))
    (saved_kept r a b le codes) n

none_mapped : {X Y : Type 0} (f : X → Y) (x : Option X) → option_map f x ≡ None → x ≡ None
none_mapped f None e = refl
none_mapped f (Some x) e = cc

register_kept : (r a b : ℕ) → a ≤ b → (codes : List UnwindCode)
    → register_rule (done b codes) r ≡ None → register_rule (done a codes) r ≡ None
register_kept r a b le codes n =
    ap (option_map (saved_rule (has_machine_frame (done a codes)) (frame (done a codes))))
    (saved_kept r a b le codes (none_mapped (saved_rule (has_machine_frame (done b codes)) (frame (done b codes))) (saved r (done b codes)) n))

-- the rule of a general register, by its number
general_rule : (steps : List UnwindCode) (n : ℕ) → n < 16
    → rule (rules_after steps) (General n) ≡ register_rule steps n
unfolding rules_after
general_rule steps n lt = get_or-map-range_with_len (register_rule steps) 0 16 n n None lt (omega arith)

no_rule : (steps : List UnwindCode) (n : ℕ) → 16 ≤ n → rule (rules_after steps) (General n) ≡ None
unfolding rules_after
no_rule steps n past = get_or_past (map (register_rule steps) (range_with_len 0 16)) n None (rw (length-map-range_with_len (register_rule steps) 0 16) past)

-- a rule that isn't given at an offset isn't at an earlier one
pub rule_kept : (codes : List UnwindCode) (a b : ℕ) → a ≤ b → (r : Register)
    → rule (rules_at codes b) r ≡ None → rule (rules_at codes a) r ≡ None
rule_kept codes a b le Cfa n = cc
rule_kept codes a b le ReturnAddress n = cc
rule_kept codes a b le (General k) n =
    let small : k < 16 → rule (rules_at codes a) (General k) ≡ None
    = λ (lt : k < 16). general_rule (done a codes) k lt ∙ register_kept k a b le codes (sym (general_rule (done b codes) k lt) ∙ n) in
    let large : 16 ≤ k → rule (rules_at codes a) (General k) ≡ None = no_rule (done a codes) k in
    elim (cases_lt k 16) [ inl lt ↦ small lt | inr past ↦ large past ]
