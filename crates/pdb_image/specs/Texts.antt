-- The text of a function's records in a symbol file.
use Rattle.std.specs.Prelude.{◌≡◌, ℕ, ◌++◌, ℤ, pos, negsuc, suc, false, List, [], ◌∷◌, nat_lt}
use Rattle.std.specs.Prelude.{◌==◌, if◌then◌else◌, codes, String, string_bytes, Option}
use Rattle.std.specs.declared.alloc.Global.{Global}
use Rattle.std.specs.Fmt.{decimal, digits}
use Rattle.std.specs.List.{flat_map, range_with_len}
use Rattle.pdb_image.specs.Entries.{UnwoundFunction}
use Rattle.pdb_image.specs.Records.{Records, Rule, Change, change_of, changes_of}
use Rattle.pdb_image.specs.declared.rules.Register.{Register}
use Rattle.pdb_image.specs.declared.rules.Register.TheVariants.{Cfa, ReturnAddress, General}
use Rattle.pdb_image.specs.declared.rules.Expression.{Expression}

-- this was appended to a text
abbrev pub Appends : String Global → String Global → List ℕ → Type 0
Appends old new added = string_bytes new ≡ string_bytes old ++ added

-- a number in lower-case hexadecimal digits, without zeros before them
abbrev pub hexadecimal : ℕ → List ℕ
hexadecimal n = digits 16 false n

-- the start of the name of a general register of x64, by its number; the first eight are whole
abbrev pub first_name : ℕ → List ℕ
first_name n =
    if n == 0 then codes "$rax" else if n == 1 then codes "$rcx"
    else if n == 2 then codes "$rdx" else if n == 3 then codes "$rbx"
    else if n == 4 then codes "$rsp" else if n == 5 then codes "$rbp"
    else if n == 6 then codes "$rsi" else if n == 7 then codes "$rdi" else codes "$r"

-- the name of a general register; from the ninth one on it has the number
abbrev pub general_name : ℕ → List ℕ
general_name n = first_name n ++ (if nat_lt n 8 then [] else decimal n)

-- the name of a register
abbrev pub register_name : Register → List ℕ
register_name Cfa = codes ".cfa"
register_name ReturnAddress = codes ".ra"
register_name (General n) = general_name n

-- a number that is added, or its amount that is subtracted, after what it is added to; nothing for
-- 0
abbrev pub added_text : ℤ → List ℕ
added_text (pos n) = if n == 0 then [] else codes " " ++ decimal n ++ codes " +"
added_text (negsuc n) = codes " " ++ decimal (suc n) ++ codes " -"

-- an expression, postfix
abbrev pub expression_text : Expression → List ℕ
expression_text e =
    register_name e.base ++ added_text e.offset ++ (if e.is_read then codes " ^" else [])

-- a rule, with a blank before it
abbrev pub rule_text : Rule → List ℕ
rule_text r =
    codes " " ++ register_name r.register ++ codes ": " ++ expression_text r.expression

-- rules, each with a blank before it, and the end of the line
abbrev pub rules_text : List Rule → List ℕ
rules_text rules = flat_map rule_text rules ++ 10 ∷ []

-- the text of the rules of these registers that aren't what they were
abbrev pub changed_text : (Register → Option Expression) → (Register → Option Expression)
    → List Register → List ℕ
changed_text old new names = rules_text (changes_of old new names)

-- the line of a change

abbrev pub change_text : Change → List ℕ
change_text c = codes "STACK CFI " ++ hexadecimal c.address ++ rules_text c.rules

-- the lines of a function's changes at so many offsets, from 1 on
abbrev pub changes_text : UnwoundFunction → ℕ → List ℕ
changes_text f n = flat_map change_text (flat_map (change_of f) (range_with_len 1 n))

-- the lines of a function's records
unfoldable pub records_text : Records → List ℕ
records_text r =
    codes "STACK CFI INIT " ++ hexadecimal r.begin ++ codes " " ++ hexadecimal r.size
    ++ rules_text r.initial ++ flat_map change_text r.changes
