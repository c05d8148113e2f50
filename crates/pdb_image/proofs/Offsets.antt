-- Where no step is done, no rule changes.
use Rattle.std.proofs.Common.{◌≡◌, ℕ, ◌+◌, ◌-◌, ◌<◌, ◌≤◌, List, [], ◌∷◌, ◌++◌, Bool, true, false, ◌||◌}
use Rattle.std.proofs.Common.{cond, leb, eqb, length, take, get_or, refl, sym, ap, ◌∙◌, arith, zero, suc}
use Rattle.std.proofs.Common.{inl, inr, drop, codes, max, min}
use Rattle.std.specs.Prelude.{Option, None, Some, is_some}
use Rattle.std.specs.List.{flat_map, list_any, range_with_len}
use Rattle.std.proofs.lemmas.Bool.{le-leb, lt-leb, eq-eqb, ne_eqb, cases_lt}
use Rattle.std.proofs.lemmas.Bool.{false_from_ne_true, or_from, or_parts}
use Rattle.std.proofs.lemmas.List.{append_assoc, append-nil, drop_all, drop_more, take_all, take_more}
use Rattle.std.proofs.lemmas.List.{take-append-drop}
use Rattle.std.proofs.lemmas.List.Concat.{flat_map-append}
use Rattle.std.proofs.lemmas.List.Folds.{list_any-append}
use Rattle.std.proofs.Math.Bool.{or-false}
use Rattle.pdb_image.specs.Entries.{UnwoundFunction}
use Rattle.pdb_image.specs.Rules.{done, last_offset, rule, rules_after, rules_at}
use Rattle.pdb_image.specs.Records.{Rule, Change, changed, change_at, change_of, changes_of}
use Rattle.pdb_image.specs.Records.{is_some_rule, records_of, registers, rule_of, same_bool, same_expression}
use Rattle.pdb_image.specs.Records.{same_number}
use Rattle.pdb_image.specs.Records.{same_register, same_rule}
use Rattle.pdb_image.specs.Texts.{change_text, changes_text, hexadecimal, rule_text}
use Rattle.pdb_image.specs.Texts.{records_text, rules_text}
use Rattle.std.specs.Prelude.{ℤ, pos, negsuc}
use Rattle.pdb_image.specs.declared.code.UnwindCode.{UnwindCode}
use Rattle.pdb_image.specs.declared.rules.Register.{Register}
use Rattle.pdb_image.specs.declared.rules.Register.TheVariants.{Cfa, ReturnAddress, General}
use Rattle.pdb_image.specs.declared.rules.Expression.{Expression}
use Rattle.pdb_image.specs.declared.rules.Rules.{Rules}
use Rattle.pdb_image.proofs.Law.{expression_equal}

-- ---- what is equal is the same

same_registers : (a : Register) → same_register a a ≡ true
same_registers Cfa = refl
same_registers ReturnAddress = refl
same_registers (General n) = eq-eqb n n refl

same_numbers : (a : ℤ) → same_number a a ≡ true
same_numbers (pos n) = eq-eqb n n refl
same_numbers (negsuc n) = eq-eqb n n refl

same_bools : (a : Bool) → same_bool a a ≡ true
same_bools true = refl
same_bools false = refl

pub same_expressions : (a : Expression) → same_expression a a ≡ true
same_expressions a =
    rw (same_registers a.base, same_numbers a.offset) (same_bools a.is_read)

pub unchanged : (a : Option Expression) → changed a a ≡ None
unchanged None = refl
unchanged (Some a) = ap (λ (b : Bool). cond b None (Some a)) (same_expressions a)

-- rules that are what they were have no changes
pub no_changes : (g : Register → Option Expression) (names : List Register) → changes_of g g names ≡ []
no_changes g [] = refl
no_changes g (r ∷ names) =
    ap (λ (x : Option Expression). rule_of r x ++ changes_of g g names) (unchanged (g r))
    ∙ no_changes g names

-- ---- offsets without steps

-- a code that counts at an offset counts before it, but for one that is done there
counts_before : (o n : ℕ) → eqb o (suc n) ≡ false → leb o (suc n) ≡ leb o n
counts_before o n other = elim (cases_lt n o) [
  | inl above ↦ elim (cases_lt (suc n) o) [
    | inl far ↦ lt-leb o (suc n) far ∙ sym (lt-leb o n above)
    | inr near ↦
        let here : o ≡ suc n = omega arith in
        let bad : true ≡ false = sym (eq-eqb o (suc n) here) ∙ other in
        cc
  ]
  | inr below ↦ le-leb o (suc n) (omega arith) ∙ sym (le-leb o n below)
]

done_before : (n : ℕ) (codes : List UnwindCode)
    → list_any (λ c. eqb c.offset (suc n)) codes ≡ false → done (suc n) codes ≡ done n codes
done_before n [] e = refl
done_before n (c ∷ codes) e =
    let both = or_parts (eqb c.offset (suc n)) (list_any (λ (x : UnwindCode). eqb x.offset (suc n)) codes) e in
    ap (λ (b : Bool). cond b (c ∷ done (suc n) codes) (done (suc n) codes)) (counts_before c.offset n both.0)
    ∙ ap (λ (xs : List UnwindCode). cond (leb c.offset n) (c ∷ xs) xs) (done_before n codes both.1)

-- no step is done at an offset: the rules are those before it
pub rules_before : (o : ℕ) (codes : List UnwindCode) → 0 < o
    → list_any (λ c. eqb c.offset o) codes ≡ false → rules_at codes o ≡ rules_at codes (o - 1)
rules_before zero codes some e = absurd (omega arith)
rules_before (suc n) codes some e =
    let one : n ≡ suc n - 1 = omega arith in
    ap rules_after (done_before n codes e) ∙ ap (rules_at codes) one

pub no_change : (f : UnwoundFunction) (o : ℕ) → 0 < o
    → list_any (λ c. eqb c.offset o) f.codes ≡ false → change_of f o ≡ []
no_change f o some e =
    let g = rule (rules_at f.codes (o - 1)) in
    ap (λ r. change_at (f.begin + o) (changes_of g (rule r) registers)) (rules_before o f.codes some e)
    ∙ ap (change_at (f.begin + o)) (no_changes g registers)

-- ---- offsets one after the other

range_append : (a m n : ℕ)
    → range_with_len a (m + n) ≡ range_with_len a m ++ range_with_len (a + m) n
range_append a zero n =
    let e : zero + n ≡ n = omega arith in
    let f : a + zero ≡ a = omega arith in
    rw (e, f) refl
range_append a (suc m) n =
    let e : suc m + n ≡ suc (m + n) = omega arith in
    let f : a + suc m ≡ (a + 1) + m = omega arith in
    rw (e, f) (ap (λ (xs : List ℕ). a ∷ xs) (range_append (a + 1) m n))

changes_split : (f : UnwoundFunction) (m n : ℕ)
    → changes_text f (m + n) ≡ changes_text f m
    ++ flat_map change_text (flat_map (change_of f) (range_with_len (1 + m) n))
changes_split f m n =
    let front = range_with_len 1 m in
    let back = range_with_len (1 + m) n in
    ap (λ (xs : List ℕ). flat_map change_text (flat_map (change_of f) xs)) (range_append 1 m n)
    ∙ ap (flat_map change_text) (flat_map-append (change_of f) front back)
    ∙ flat_map-append change_text (flat_map (change_of f) front) (flat_map (change_of f) back)

-- one offset more
pub changes_more : (f : UnwoundFunction) (n o : ℕ) → 1 + n ≡ o
    → changes_text f (n + 1) ≡ changes_text f n ++ flat_map change_text (change_of f o)
changes_more f n o e =
    changes_split f n 1
    ∙ ap (λ (k : ℕ). changes_text f n ++ flat_map change_text (change_of f k ++ [])) e
    ∙ ap (λ (xs : List Change). changes_text f n ++ flat_map change_text xs) (append-nil (change_of f o))

-- one offset more, at which no step is done
pub changes_same : (f : UnwoundFunction) (n o : ℕ) → 1 + n ≡ o
    → list_any (λ c. eqb c.offset o) f.codes ≡ false → changes_text f (n + 1) ≡ changes_text f n
changes_same f n o e none =
    changes_more f n o e
    ∙ ap (λ (xs : List Change). changes_text f n ++ flat_map change_text xs)
    (no_change f o (omega arith) none)
    ∙ append-nil (changes_text f n)

-- after the last step nothing changes
none_behind : (o : ℕ) (codes : List UnwindCode) → last_offset codes < o
    → list_any (λ c. eqb c.offset o) codes ≡ false
none_behind o [] lt = refl
none_behind o (c ∷ codes) lt =
    or_from (eqb c.offset o) (list_any (λ (x : UnwindCode). eqb x.offset o) codes)
    (ne_eqb c.offset o (λ (e : c.offset ≡ o). absurd (omega arith)))
    (none_behind o codes (omega arith))

-- above 0 no step of the tail is done
pub any_above : (o n : ℕ) (codes : List UnwindCode) → 0 < o → last_offset (drop n codes) ≡ 0
    → list_any (λ c. eqb c.offset o) (take n codes) ≡ list_any (λ c. eqb c.offset o) codes
any_above o n codes above zeros =
    let p = λ (c : UnwindCode). eqb c.offset o in
    sym (ap (list_any p) (sym (take-append-drop n codes))
    ∙ list_any-append p (take n codes) (drop n codes)
    ∙ ap (λ (b : Bool). list_any p (take n codes) || b) (none_behind o (drop n codes) (omega arith))
    ∙ or-false (list_any p (take n codes)))

no_changes_behind : (f : UnwoundFunction) (n k : ℕ) → last_offset f.codes < k
    → flat_map (change_of f) (range_with_len k n) ≡ []
no_changes_behind f zero k lt = refl
no_changes_behind f (suc n) k lt =
    ap (λ (xs : List Change). xs ++ flat_map (change_of f) (range_with_len (k + 1) n))
    (no_change f k (omega arith) (none_behind k f.codes lt))
    ∙ no_changes_behind f n (k + 1) (omega arith)

-- all changes, once those to the last step are there
changes_all : (f : UnwoundFunction) (m n : ℕ) → last_offset f.codes ≤ m → m ≤ n
    → changes_text f n ≡ changes_text f m
changes_all f m n le more =
    let sum : n ≡ m + (n - m) = omega arith in
    ap (changes_text f) sum ∙ changes_split f m (n - m)
    ∙ ap (λ (xs : List Change). changes_text f m ++ flat_map change_text xs)
    (no_changes_behind f (n - m) (1 + m) (omega arith))
    ∙ append-nil (changes_text f m)

-- ---- the last offset, one code after the other

pub last_more : (codes : List UnwindCode) (i last next total : ℕ) (c : UnwindCode)
    → i < length codes → c ≡ get_or codes i c → next ≡ max c.offset last
    → max last (last_offset (drop i codes)) ≡ total
    → max next (last_offset (drop (i + 1) codes)) ≡ total
last_more codes i last next total c lt e more so_far =
    let rest = last_offset (drop (i + 1) codes) in
    let here : last_offset (drop i codes) ≡ max c.offset rest
    = ap last_offset (drop_more codes i c lt)
    ∙ ap (λ (x : UnwindCode). max x.offset rest) (sym e) in
    omega arith

pub last_found : (codes : List UnwindCode) (i last total : ℕ) → length codes ≤ i
    → max last (last_offset (drop i codes)) ≡ total → last ≡ total
last_found codes i last total past so_far =
    let none : last_offset (drop i codes) ≡ 0 = ap last_offset (drop_all i codes past) in
    omega arith

-- ---- the registers of a record, one after the other

pub changes_push : (old new : Register → Option Expression) (names : List Register) (i : ℕ)
    (r : Register) → i < length names → r ≡ get_or names i r
    → changes_of old new (take (i + 1) names)
    ≡ changes_of old new (take i names) ++ rule_of r (changed (old r) (new r))
changes_push old new names i r lt e =
    let one : Register → List Rule = λ (n : Register). rule_of n (changed (old n) (new n)) in
    ap (flat_map one) (take_more names i r lt)
    ∙ flat_map-append one (take i names) (get_or names i r ∷ [])
    ∙ ap (λ (n : Register). flat_map one (take i names) ++ (one n ++ [])) (sym e)
    ∙ ap (λ (xs : List Rule). flat_map one (take i names) ++ xs) (append-nil (one r))

-- the text of one more register's rule
pub rules_more : (old new : Register → Option Expression) (names : List Register) (i : ℕ)
    (r : Register) (before now : List ℕ) → i < length names → r ≡ get_or names i r
    → now ≡ before ++ flat_map rule_text (changes_of old new (take i names))
    → now ++ flat_map rule_text (rule_of r (changed (old r) (new r)))
    ≡ before ++ flat_map rule_text (changes_of old new (take (i + 1) names))
rules_more old new names i r before now lt e so_far =
    let front = changes_of old new (take i names) in
    let back = rule_of r (changed (old r) (new r)) in
    ap (λ (xs : List ℕ). xs ++ flat_map rule_text back) so_far
    ∙ append_assoc before (flat_map rule_text front) (flat_map rule_text back)
    ∙ ap (λ (xs : List ℕ). before ++ xs) (sym (flat_map-append rule_text front back))
    ∙ ap (λ (xs : List Rule). before ++ flat_map rule_text xs)
    (sym (changes_push old new names i r lt e))

-- one register more whose rule has changed, and the text of that
pub rule_appended : (old new : Register → Option Expression) (names : List Register) (i : ℕ)
    (r : Register) (e : Expression) (before now next : List ℕ) → i < length names
    → r ≡ get_or names i r → Some e ≡ changed (old r) (new r)
    → now ≡ before ++ flat_map rule_text (changes_of old new (take i names))
    → next ≡ now ++ rule_text (record { register = r; expression = e })
    → next ≡ before ++ flat_map rule_text (changes_of old new (take (i + 1) names))
rule_appended old new names i r e before now next lt is some so_far more =
    more
    ∙ ap (λ (xs : List ℕ). now ++ xs) (sym (append-nil (rule_text (record { register = r; expression = e }))))
    ∙ ap (λ (x : Option Expression). now ++ flat_map rule_text (rule_of r x)) some
    ∙ rules_more old new names i r before now lt is so_far

-- one register more whose rule hasn't
pub rule_left : (old new : Register → Option Expression) (names : List Register) (i : ℕ)
    (r : Register) (before now : List ℕ) → i < length names
    → r ≡ get_or names i r → None ≡ changed (old r) (new r)
    → now ≡ before ++ flat_map rule_text (changes_of old new (take i names))
    → now ≡ before ++ flat_map rule_text (changes_of old new (take (i + 1) names))
rule_left old new names i r before now lt is none so_far =
    sym (append-nil now)
    ∙ ap (λ (x : Option Expression). now ++ flat_map rule_text (rule_of r x)) none
    ∙ rules_more old new names i r before now lt is so_far

-- no register is left: the line ends
pub rules_end : (old new : Register → Option Expression) (names : List Register) (i : ℕ)
    (before now next : List ℕ) → length names ≤ i
    → now ≡ before ++ flat_map rule_text (changes_of old new (take i names))
    → next ≡ now ++ 10 ∷ [] → next ≡ before ++ rules_text (changes_of old new names)
rules_end old new names i before now next past so_far more =
    let rules = flat_map rule_text (changes_of old new (take i names)) in
    more
    ∙ ap (λ (xs : List ℕ). xs ++ 10 ∷ []) so_far
    ∙ append_assoc before rules (10 ∷ [])
    ∙ ap (λ (xs : List Register). before ++ rules_text (changes_of old new xs)) (take_all i names past)

-- ---- whether some rule has changed

none_of : (x : Option Expression) → is_some x ≡ false → None ≡ x
none_of None e = refl
none_of (Some x) e = cc

pub nothing_more : (old new : Register → Option Expression) (names : List Register) (i : ℕ)
    (r : Register) → i < length names → r ≡ get_or names i r
    → is_some (changed (old r) (new r)) ≡ false → changes_of old new (take i names) ≡ []
    → changes_of old new (take (i + 1) names) ≡ []
nothing_more old new names i r lt is none so_far =
    changes_push old new names i r lt is
    ∙ ap (λ (xs : List Rule). xs ++ rule_of r (changed (old r) (new r))) so_far
    ∙ ap (rule_of r) (sym (none_of (changed (old r) (new r)) none))

get_or_any : (names : List Register) (i : ℕ) (r s : Register) → i < length names
    → get_or names i r ≡ get_or names i s
get_or_any [] i r s lt = absurd (omega arith)
get_or_any (x ∷ names) zero r s lt = refl
get_or_any (x ∷ names) (suc i) r s lt = get_or_any names i r s (omega arith)

first_rule : (r : Register) (x : Option Expression) (rules : List Rule) → is_some x ≡ true
    → is_some_rule (rule_of r x ++ rules) ≡ true
first_rule r None rules e = cc
first_rule r (Some x) rules e = refl

some_change : (old new : Register → Option Expression) (names : List Register) (i : ℕ)
    (r : Register) → i < length names → r ≡ get_or names i r
    → is_some (changed (old r) (new r)) ≡ true → changes_of old new (take i names) ≡ []
    → true ≡ is_some_rule (changes_of old new names)
some_change old new names i r lt is some so_far =
    let rest = drop (i + 1) names in
    let front : changes_of old new (take i names ++ drop i names) ≡ changes_of old new names
    = ap (changes_of old new) (take-append-drop i names) in
    let here : changes_of old new (drop i names) ≡ rule_of r (changed (old r) (new r)) ++ changes_of old new rest
    = ap (changes_of old new) (drop_more names i r lt)
    ∙ ap (λ (x : Register). changes_of old new (x ∷ rest)) (sym is) in
    let all : changes_of old new names ≡ rule_of r (changed (old r) (new r)) ++ changes_of old new rest
    = sym front
    ∙ flat_map-append (λ (n : Register). rule_of n (changed (old n) (new n))) (take i names) (drop i names)
    ∙ ap (λ (xs : List Rule). xs ++ changes_of old new (drop i names)) so_far
    ∙ here in
    sym (ap is_some_rule all ∙ first_rule r (changed (old r) (new r)) (changes_of old new rest) some)

pub some_rule_changed : (old new : Register → Option Expression) (names : List Register) (i : ℕ)
    (r : Register) (a b x : Option Expression) → i < length names → a ≡ old (get_or names i r)
    → b ≡ new (get_or names i r) → x ≡ changed a b → is_some x ≡ true
    → changes_of old new (take i names) ≡ [] → true ≡ is_some_rule (changes_of old new names)
some_rule_changed old new names i r a b x lt ea eb ex some so_far =
    let here = get_or names i r in
    let last : is_some (changed (old here) (new here)) ≡ true
    = sym (ap is_some (ex ∙ ap (λ (y : Option Expression). changed y b) ea ∙ ap (changed (old here)) eb))
    ∙ some in
    some_change old new names i here lt (get_or_any names i r here lt) last so_far

pub nothing_changed : (old new : Register → Option Expression) (names : List Register) (i : ℕ)
    → length names ≤ i → changes_of old new (take i names) ≡ []
    → false ≡ is_some_rule (changes_of old new names)
nothing_changed old new names i past so_far =
    ap is_some_rule (sym so_far ∙ ap (changes_of old new) (take_all i names past))

-- ---- the line of a change

no_rules : (rules : List Rule) → is_some_rule rules ≡ false → rules ≡ []
no_rules [] e = refl
no_rules (r ∷ rules) e = cc

pub no_change_text : (address : ℕ) (rules : List Rule) (text : List ℕ)
    → false ≡ is_some_rule rules → text ≡ text ++ flat_map change_text (change_at address rules)
no_change_text address rules text e =
    sym (ap (λ (xs : List Rule). text ++ flat_map change_text (change_at address xs)) (no_rules rules (sym e))
    ∙ append-nil text)

pub change_line : (address : ℕ) (rules : List Rule) (old now next : List ℕ)
    → true ≡ is_some_rule rules → now ≡ old ++ (codes "STACK CFI " ++ hexadecimal address)
    → next ≡ now ++ rules_text rules
    → next ≡ old ++ flat_map change_text (change_at address rules)
change_line address [] old now next e h more = cc
change_line address (r ∷ rules) old now next e h more =
    let head = codes "STACK CFI " ++ hexadecimal address in
    more
    ∙ ap (λ (xs : List ℕ). xs ++ rules_text (r ∷ rules)) h
    ∙ append_assoc old head (rules_text (r ∷ rules))
    ∙ ap (λ (xs : List ℕ). old ++ xs) (sym (append-nil (head ++ rules_text (r ∷ rules))))

-- ---- the line of the first rules, and all lines

pub records_appended : (f : UnwoundFunction) (begin size : ℕ) (rules : Rules)
    (old one two three : List ℕ) → begin ≡ f.begin → size ≡ f.end - f.begin
    → rules ≡ rules_at f.codes 0
    → one ≡ old ++ (codes "STACK CFI INIT " ++ (hexadecimal begin ++ (codes " " ++ hexadecimal size)))
    → two ≡ one ++ rules_text (changes_of (λ r. None) (rule rules) registers)
    → three ≡ two ++ changes_text f (f.end - f.begin - 1)
    → three ≡ old ++ records_text (records_of f)
unfolding records_of records_text
records_appended f begin size rules old one two three at long is first second third =
    let line : ℕ → ℕ → List ℕ
    = λ (a : ℕ) (b : ℕ). codes "STACK CFI INIT " ++ hexadecimal a ++ codes " " ++ hexadecimal b in
    let named : Rules → List ℕ
    = λ (x : Rules). rules_text (changes_of (λ r. None) (rule x) registers) in
    let rest = changes_text f (f.end - f.begin - 1) in
    let first_rules = named (rules_at f.codes 0) in
    let words = codes "STACK CFI INIT " in
    let whole : words ++ (hexadecimal begin ++ (codes " " ++ hexadecimal size)) ≡ line begin size
    = sym (append_assoc words (hexadecimal begin) (codes " " ++ hexadecimal size))
    ∙ sym (append_assoc (words ++ hexadecimal begin) (codes " ") (hexadecimal size)) in
    third
    ∙ ap (λ (xs : List ℕ). xs ++ rest)
    (second ∙ ap (λ (xs : List ℕ). xs ++ named rules) (first ∙ ap (λ (xs : List ℕ). old ++ xs) whole)
    ∙ ap (λ (x : Rules). (old ++ line begin size) ++ named x) is
    ∙ append_assoc old (line begin size) first_rules)
    ∙ append_assoc old (line begin size ++ first_rules) rest
    ∙ ap (λ (n : ℕ). old ++ (line n size ++ first_rules ++ rest)) at
    ∙ ap (λ (n : ℕ). old ++ (line f.begin n ++ first_rules ++ rest)) long

-- ---- a loop over the offsets: those before this one are done

pub offset_changed : (f : UnwoundFunction) (o address : ℕ) (old new : Rules)
    (before now next : List ℕ) → 1 ≤ o → address ≡ f.begin + o
    → old ≡ rules_at f.codes (o - 1) → new ≡ rules_at f.codes o
    → now ≡ before ++ changes_text f (o - 1)
    → next ≡ now ++ flat_map change_text (change_at address (changes_of (rule old) (rule new) registers))
    → next ≡ before ++ changes_text f (o + 1 - 1)
offset_changed f o address old new before now next some at was is so_far more =
    let front = changes_text f (o - 1) in
    let one : (o - 1) + 1 ≡ o + 1 - 1 = omega arith in
    let here : ℕ → Rules → Rules → List ℕ = λ (a : ℕ) (x : Rules) (y : Rules). flat_map change_text (change_at a (changes_of (rule x) (rule y) registers)) in
    more
    ∙ ap (λ (xs : List ℕ). xs ++ here address old new) so_far
    ∙ append_assoc before front (here address old new)
    ∙ ap (λ (a : ℕ). before ++ (front ++ here a old new)) at
    ∙ ap (λ (x : Rules). before ++ (front ++ here (f.begin + o) x new)) was
    ∙ ap (λ (x : Rules). before ++ (front ++ here (f.begin + o) (rules_at f.codes (o - 1)) x)) is
    ∙ ap (λ (xs : List ℕ). before ++ xs) (sym (changes_more f (o - 1) o (omega arith)))
    ∙ ap (λ (n : ℕ). before ++ changes_text f n) one

pub offset_same : (f : UnwoundFunction) (o : ℕ) (before now : List ℕ) → 1 ≤ o
    → false ≡ list_any (λ c. eqb c.offset o) f.codes → now ≡ before ++ changes_text f (o - 1)
    → now ≡ before ++ changes_text f (o + 1 - 1)
offset_same f o before now some none so_far =
    let one : (o - 1) + 1 ≡ o + 1 - 1 = omega arith in
    so_far
    ∙ ap (λ (xs : List ℕ). before ++ xs) (sym (changes_same f (o - 1) o (omega arith) (sym none)))
    ∙ ap (λ (n : ℕ). before ++ changes_text f n) one

pub rules_same : (f : UnwoundFunction) (o : ℕ) (rules : Rules) → 1 ≤ o
    → false ≡ list_any (λ c. eqb c.offset o) f.codes → rules ≡ rules_at f.codes (o - 1)
    → rules ≡ rules_at f.codes (o + 1 - 1)
rules_same f o rules some none so_far =
    let one : o ≡ o + 1 - 1 = omega arith in
    so_far ∙ sym (rules_before o f.codes (omega arith) (sym none)) ∙ ap (rules_at f.codes) one

pub offsets_end : (f : UnwoundFunction) (last i size : ℕ) (before now : List ℕ)
    → last ≡ last_offset f.codes → 1 ≤ i → i ≤ size → min size (last + 1) ≤ i
    → now ≡ before ++ changes_text f (i - 1) → now ≡ before ++ changes_text f (size - 1)
offsets_end f last i size before now e some le behind so_far =
    elim (cases_lt last i) [
      | inl far ↦ so_far ∙ ap (λ (xs : List ℕ). before ++ xs)
          (sym (changes_all f (i - 1) (size - 1) (omega arith) (omega arith)))
      | inr near ↦
          let whole : i ≡ size = omega arith in
          so_far ∙ ap (λ (n : ℕ). before ++ changes_text f (n - 1)) whole
    ]

-- ---- whether a rule has changed

pub changed_same : (old new : Option Expression) → old ≡ new → None ≡ changed old new
changed_same old new e = sym (ap (changed old) (sym e) ∙ unchanged old)

other_by : (b : Bool) (new : Option Expression) → b ≡ false → new ≡ cond b None new
other_by true new e = cc
other_by false new e = refl

rule_equal : (old new : Option Expression) → same_rule old new ≡ true → old ≡ new
rule_equal None None e = refl
rule_equal None (Some b) e = cc
rule_equal (Some a) None e = cc
rule_equal (Some a) (Some b) e = ap Some (expression_equal a b e)

pub changed_other : (old new : Option Expression) → (old ≡ new → ⊥) → new ≡ changed old new
changed_other old new ne =
    other_by (same_rule old new) new
    (false_from_ne_true (same_rule old new) (λ (e : same_rule old new ≡ true). ne (rule_equal old new e)))
