-- What is told along addresses is plain.
use Rattle.std.proofs.Common.{◌≡◌, ◌∙◌, ℕ, ◌+◌, ◌-◌, ◌<◌, ◌≤◌, ◌^◌, List, [], ◌∷◌, ◌++◌, Bool}
use Rattle.std.proofs.Common.{true, false, cond, refl, sym, ap, arith, zero, suc, length}
use Rattle.std.proofs.Common.{length-append, subst, min, inl, inr, ◌||◌}
use Rattle.std.specs.Prelude.{Option, None, Some, IfSome, nat_le, nat_lt}
use Rattle.std.proofs.lemmas.Bool.{and_right, cases_lt, eq-eqb, le-ltb, ne_eqb}
use Rattle.pdb_addresses.specs.declared.sections.ImageSectionHeader.{ImageSectionHeader}
use Rattle.pdb_addresses.specs.Sections.{may_execute}
use Rattle.pdb_symbol_files.specs.Code.{answer_if, answers_along, answers_among, answers_of_code}
use Rattle.pdb_symbol_files.specs.Code.{is_code, is_in}
use Rattle.pdb_symbol_files.specs.CodeRoads.{HasCodeRoads, records_of_code, shown_at, shown_if}
use Rattle.pdb_symbol_files.specs.Lookup.{IsAscending, shown, told_at}
use Rattle.pdb_symbol_files.specs.PlainAnswers.{ArePlainAnswers, AreCountable}
use Rattle.pdb_symbol_files.specs.PlainAnswers.{IsPlainAnswer, IsPlainTold}
use Rattle.pdb_symbol_files.specs.Reading.{ReadsBack}
use Rattle.pdb_symbol_files.specs.Records.{symbol_records}
use Rattle.pdb_symbol_files.specs.Told.{Answer, Told}
use Rattle.pdb_symbol_files.proofs.PlainRecords.{all_both, plain_records, text_roads}
use Rattle.pdb_symbol_files.proofs.ReadBack.{reads_back}
use Rattle.pdb_symbol_files.proofs.SameGroups.{two_roads}

-- ---- the same told of each

plain_if : (a : ℕ) (told : Option Told) → a < 2 ^ 32 → IfSome told IsPlainTold
    → ArePlainAnswers (answer_if a told)
plain_if a None lt p = tt
plain_if a (Some told) lt p = ((lt, p), tt)

pub plain_along : (told : ℕ → Option Told) (one : Option Told) (count a : ℕ)
    → a + count ≤ 2 ^ 32 → ((x : ℕ) → a ≤ x → x < a + count → told x ≡ one)
    → IfSome one IsPlainTold → ArePlainAnswers (answers_along told a count)
plain_along told one zero a le same p = tt
plain_along told one (suc count) a le same p =
    let P : Option Told → Type 0 = λ (t : Option Told). IfSome t IsPlainTold in
    let here : told a ≡ one = same a (omega arith) (omega arith) in
    all_both IsPlainAnswer (answer_if a (told a)) (answers_along told (suc a) count)
    (plain_if a (told a) (omega arith) (subst P (sym here) p))
    (plain_along told one count (suc a) (omega arith)
    (λ (x : ℕ) (from : suc a ≤ x) (below : x < suc a + count).
    same x (omega arith) (omega arith)) p)

-- ---- ascending, and not more than the addresses

weaken : (a b : ℕ) (answers : List Answer) → a ≤ b → IsAscending b answers
    → IsAscending a answers
weaken a b [] le is = tt
weaken a b (x ∷ answers) le is = let from : b ≤ x.address = is.0 in (omega arith, is.1)

ascending_if : (a : ℕ) (told : Option Told) (rest : List Answer) → IsAscending (suc a) rest
    → IsAscending a (answer_if a told ++ rest)
ascending_if a None rest is = weaken a (suc a) rest (omega arith) is
ascending_if a (Some told) rest is = (omega arith, is)

ascending_by : (b : Bool) (a : ℕ) (told : Option Told) (rest : List Answer)
    → IsAscending (suc a) rest → IsAscending a (cond b (answer_if a told) [] ++ rest)
ascending_by true a told rest is = ascending_if a told rest is
ascending_by false a told rest is = weaken a (suc a) rest (omega arith) is

among_ascending : (t : ℕ → Bool) (told : ℕ → Option Told) (count a : ℕ)
    → IsAscending a (answers_among t told a count)
among_ascending t told zero a = tt
among_ascending t told (suc count) a =
    ascending_by (t a) a (told a) (answers_among t told (suc a) count)
    (among_ascending t told count (suc a))

one_at_most : (a : ℕ) (told : Option Told) → length (answer_if a told) ≤ 1
one_at_most a None = omega arith
one_at_most a (Some told) = omega arith

one_by : (b : Bool) (a : ℕ) (told : Option Told) → length (cond b (answer_if a told) []) ≤ 1
one_by true a told = one_at_most a told
one_by false a told = omega arith

among_few : (t : ℕ → Bool) (told : ℕ → Option Told) (count a : ℕ)
    → length (answers_among t told a count) ≤ count
among_few t told zero a = omega arith
among_few t told (suc count) a =
    omega (
      arith,
      one_by (t a) a (told a),
      among_few t told count (suc a),
      length-append (cond (t a) (answer_if a (told a)) []) (answers_among t told (suc a) count),
    )

pub code_ascending : (sections : List ImageSectionHeader) (told : ℕ → Option Told)
    → IsAscending 0 (answers_of_code sections told)
unfolding answers_of_code
code_ascending sections told = among_ascending (is_code sections) told (2 ^ 32 - 1) 0

few_among : (t : ℕ → Bool) (told : ℕ → Option Told) (count a : ℕ) → count < 2 ^ 64
    → length (answers_among t told a count) < 2 ^ 64
few_among t told count a lt = omega (arith, among_few t told count a)

code_few : (sections : List ImageSectionHeader) (told : ℕ → Option Told)
    → length (answers_of_code sections told) < 2 ^ 64
unfolding answers_of_code
code_few sections told = few_among (is_code sections) told (2 ^ 32 - 1) 0 (omega arith)

-- ---- what is told of one of them

-- nothing is told of an address before all
before_all : (answers : List Answer) (from x : ℕ) → IsAscending from answers → x < from
    → told_at answers x ≡ []
before_all [] from x is lt = refl
before_all (a ∷ answers) from x is lt =
    let le : from ≤ a.address = is.0 in
    ap (λ (b : Bool). cond b (shown a.told) (told_at answers x))
    (ne_eqb a.address x (λ (e : a.address ≡ x). absurd (omega arith)))
    ∙ before_all answers (suc a.address) x is.1 (omega arith)

first_at : (a : ℕ) (told : Option Told) (rest : List Answer) → IsAscending (suc a) rest
    → told_at (answer_if a told ++ rest) a ≡ shown_if told
first_at a None rest is = before_all rest (suc a) a is (omega arith)
first_at a (Some told) rest is =
    ap (λ (b : Bool). cond b (shown told) (told_at rest a)) (eq-eqb a a refl)

first_by : (b : Bool) (a : ℕ) (told : Option Told) (rest : List Answer) → IsAscending (suc a) rest
    → told_at (cond b (answer_if a told) [] ++ rest) a ≡ cond b (shown_if told) []
first_by true a told rest is = first_at a told rest is
first_by false a told rest is = before_all rest (suc a) a is (omega arith)

later_at : (a x : ℕ) (told : Option Told) (rest : List Answer) → a < x
    → told_at (answer_if a told ++ rest) x ≡ told_at rest x
later_at a x None rest lt = refl
later_at a x (Some told) rest lt =
    ap (λ (b : Bool). cond b (shown told) (told_at rest x))
    (ne_eqb a x (λ (e : a ≡ x). absurd (omega arith)))

later_by : (b : Bool) (a x : ℕ) (told : Option Told) (rest : List Answer) → a < x
    → told_at (cond b (answer_if a told) [] ++ rest) x ≡ told_at rest x
later_by true a x told rest lt = later_at a x told rest lt
later_by false a x told rest lt = refl

-- what is told of an address among others that pass a test
among_at : (t : ℕ → Bool) (told : ℕ → Option Told) (count a x : ℕ) → a ≤ x → x < a + count
    → told_at (answers_among t told a count) x ≡ cond (t x) (shown_if (told x)) []
among_at t told zero a x le lt = absurd (omega arith)
among_at t told (suc count) a x le lt =
    let rest = answers_among t told (suc a) count in
    let P : ℕ → Type 0 = λ (y : ℕ). told_at (answers_among t told a (suc count)) y
    ≡ cond (t y) (shown_if (told y)) [] in
    elim (cases_lt a x) [
      | inl more ↦ later_by (t a) a x (told a) rest more
          ∙ among_at t told count (suc a) x (omega arith) (omega arith)
      | inr same ↦
          let is : a ≡ x = omega arith in
          subst P is (first_by (t a) a (told a) rest (among_ascending t told count (suc a)))
    ]

-- and nothing of an address after all
after_all : (t : ℕ → Bool) (told : ℕ → Option Told) (count a x : ℕ) → a + count ≤ x
    → told_at (answers_among t told a count) x ≡ []
after_all t told zero a x le = refl
after_all t told (suc count) a x le =
    later_by (t a) a x (told a) (answers_among t told (suc a) count) (omega arith)
    ∙ after_all t told count (suc a) x (omega arith)

-- ---- no code runs at the last address

in_none : (s : ImageSectionHeader) (x : ℕ) → 2 ^ 32 - 1 ≤ x → is_in s x ≡ false
in_none s x le =
    and_right (nat_le s.virtual_address x)
    (nat_lt x (min (s.virtual_address + s.virtual_size) (2 ^ 32 - 1)))
    (le-ltb x (min (s.virtual_address + s.virtual_size) (2 ^ 32 - 1)) (omega arith))

no_code : (sections : List ImageSectionHeader) (x : ℕ) → 2 ^ 32 - 1 ≤ x
    → is_code sections x ≡ false
no_code [] x le = refl
no_code (s ∷ sections) x le =
    ap (λ (b : Bool). b || is_code sections x)
    (and_right (may_execute s.characteristics) (is_in s x) (in_none s x le))
    ∙ no_code sections x le

code_at : (sections : List ImageSectionHeader) (told : ℕ → Option Told) (x : ℕ)
    → told_at (answers_of_code sections told) x ≡ shown_at sections told x
unfolding answers_of_code
code_at sections told x =
    elim (cases_lt x (2 ^ 32 - 1)) [
      | inl lt ↦ among_at (is_code sections) told (2 ^ 32 - 1) 0 x (omega arith) (omega arith)
      | inr le ↦ after_all (is_code sections) told (2 ^ 32 - 1) 0 x (omega arith)
          ∙ sym (ap (λ (b : Bool). cond b (shown_if (told x)) []) (no_code sections x le))
    ]

-- ---- the laws, by the text

pub code_back : (sections : List ImageSectionHeader) (told : ℕ → Option Told)
    → ArePlainAnswers (answers_of_code sections told)
    → AreCountable (symbol_records (answers_of_code sections told))
    → ReadsBack (symbol_records (answers_of_code sections told))
code_back sections told plain countable =
    let answers = answers_of_code sections told in
    reads_back (symbol_records answers) (plain_records answers
    (record { plain = plain; few = code_few sections told; countable = countable }))

pub code_roads : (sections : List ImageSectionHeader) (told : ℕ → Option Told)
    → ReadsBack (records_of_code sections told) → HasCodeRoads sections told
code_roads sections told back address =
    let answers = answers_of_code sections told in
    text_roads answers (two_roads answers (code_ascending sections told)) back address
    ∙ code_at sections told address
