-- The reading of a function's records by a consumer of a symbol file, and the law of unwinding.
use Rattle.std.specs.Prelude.{◌≡◌, ℕ, ◌+◌, ◌-◌, ◌<◌, ◌≤◌, ◌&&◌, List, [], ◌∷◌, nat_lt, nat_le}
use Rattle.std.specs.Prelude.{if◌then◌else◌, Option, None, Some, IsTrue}
use Rattle.std.specs.Option.{option_or}
use Rattle.pdb_image.specs.Entries.{UnwoundFunction}
use Rattle.pdb_image.specs.Rules.{rules_at, rule}
use Rattle.pdb_image.specs.Records.{Records, Rule, Change, records_of, is_named, same_register}
use Rattle.pdb_image.specs.declared.rules.Register.{Register}
use Rattle.pdb_image.specs.declared.rules.Expression.{Expression}

-- the expression that rules name for a register
abbrev pub named : Register → List Rule → Option Expression
named register [] = None
named register (r ∷ rules) =
    if same_register r.register register then Some r.expression else named register rules

-- a register's expression at an address, from changes in order: each change at or before the
-- address replaces the expressions of the registers that it names, and leaves others as they were
abbrev pub read_changes : ℕ → Register → Option Expression → List Change → Option Expression
read_changes address register before [] = before
read_changes address register before (c ∷ changes) =
    read_changes address register
    (if nat_le c.address address then option_or (named register c.rules) before else before)
    changes

-- a register's expression at an address, from the function's records; none outside of its range
unfoldable pub read_records : Records → ℕ → Register → Option Expression
read_records r address register =
    if nat_le r.begin address && nat_lt address (r.begin + r.size)
    then read_changes address register (named register r.initial) r.changes
    else None

-- The law of unwinding: at each address of a function its records, read as a consumer does, give of
-- each register that records name the rule that the steps done by then give.
abbrev pub IsUnwound : UnwoundFunction → Type 0
IsUnwound f = (address : ℕ) (register : Register)
    → f.begin ≤ address → address < f.end → IsTrue (is_named register)
    → read_records (records_of f) address register
    ≡ rule (rules_at f.codes (address - f.begin)) register
