-- The records of a symbol file that say how a function is unwound: STACK CFI INIT and STACK CFI.
use Rattle.std.specs.Prelude.{ℕ, ◌+◌, ◌-◌, ◌&&◌, ℤ, pos, negsuc, Bool, true, false, List, [], ◌∷◌}
use Rattle.std.specs.Prelude.{map, ◌==◌, if◌then◌else◌, Option, None, Some}
use Rattle.std.specs.List.{flat_map, list_any, range_with_len}
use Rattle.pdb_image.specs.Entries.{UnwoundFunction}
use Rattle.pdb_image.specs.Rules.{rules_at, rule}
use Rattle.pdb_image.specs.declared.rules.Register.{Register}
use Rattle.pdb_image.specs.declared.rules.Register.TheVariants.{Cfa, ReturnAddress, General}
use Rattle.pdb_image.specs.declared.rules.Expression.{Expression}

-- ---- whether rules are the same

abbrev pub same_register : Register → Register → Bool
same_register Cfa Cfa = true
same_register ReturnAddress ReturnAddress = true
same_register (General a) (General b) = a == b
same_register a b = false

abbrev pub same_number : ℤ → ℤ → Bool
same_number (pos a) (pos b) = a == b
same_number (negsuc a) (negsuc b) = a == b
same_number a b = false

abbrev pub same_bool : Bool → Bool → Bool
same_bool true b = b
same_bool false true = false
same_bool false false = true

abbrev pub same_expression : Expression → Expression → Bool
same_expression a b =
    same_register a.base b.base && same_number a.offset b.offset && same_bool a.is_read b.is_read

abbrev pub same_rule : Option Expression → Option Expression → Bool
same_rule None None = true
same_rule (Some a) (Some b) = same_expression a b
same_rule a b = false

-- ---- records

-- the rule of a register, in a record
pub record Rule : Type 0 where
  pub register : Register
  pub expression : Expression

-- a record STACK CFI: from this address on the rules that it names hold
pub record Change : Type 0 where
  pub address : ℕ
  pub rules : List Rule

-- The records of a function. STACK CFI INIT has its range and the rules at its begin; the changes
-- follow, in the order of their addresses.
pub record Records : Type 0 where
  pub begin : ℕ
  pub size : ℕ
  pub initial : List Rule
  pub changes : List Change

-- the registers that records name, in their order: the caller's stack pointer, the return address,
-- and the general registers but the stack pointer (4) by their numbers
unfoldable pub registers : List Register
registers = Cfa ∷ ReturnAddress ∷ map General
    (0 ∷ 1 ∷ 2 ∷ 3 ∷ 5 ∷ 6 ∷ 7 ∷ 8 ∷ 9 ∷ 10 ∷ 11 ∷ 12 ∷ 13 ∷ 14 ∷ 15 ∷ [])

-- records name a register
abbrev pub is_named : Register → Bool
is_named register = list_any (λ r. same_register r register) registers

-- a rule that isn't what it was
abbrev pub changed : Option Expression → Option Expression → Option Expression
changed old new = if same_rule old new then None else new

-- a register's rule, if there is one
abbrev pub rule_of : Register → Option Expression → List Rule
rule_of register None = []
rule_of register (Some e) = record { register = register; expression = e } ∷ []

-- the rules of these registers that aren't what they were
abbrev pub changes_of : (Register → Option Expression) → (Register → Option Expression)
    → List Register → List Rule
changes_of old new names = flat_map (λ r. rule_of r (changed (old r) (new r))) names

-- there is a rule
abbrev pub is_some_rule : List Rule → Bool
is_some_rule [] = false
is_some_rule (r ∷ rules) = true

-- a record for these rules, if there are any
abbrev pub change_at : ℕ → List Rule → List Change
change_at address [] = []
change_at address (r ∷ rules) = record { address = address; rules = r ∷ rules } ∷ []

-- the record at an offset, if some rule isn't what it is one byte before
abbrev pub change_of : UnwoundFunction → ℕ → List Change
change_of f offset = change_at (f.begin + offset)
    (changes_of (rule (rules_at f.codes (offset - 1))) (rule (rules_at f.codes offset)) registers)

-- the records of a function
unfoldable pub records_of : UnwoundFunction → Records
records_of f = record {
  begin = f.begin;
  size = f.end - f.begin;
  initial = changes_of (λ r. None) (rule (rules_at f.codes 0)) registers;
  changes = flat_map (change_of f) (range_with_len 1 (f.end - f.begin - 1));
}
