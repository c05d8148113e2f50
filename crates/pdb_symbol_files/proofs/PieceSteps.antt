-- How many pieces the addresses of ranges have.
use Rattle.std.proofs.Common.{◌≡◌, ℕ, ◌+◌, ◌-◌, ◌*◌, ◌^◌, ◌<◌, ◌≤◌, ◌||◌, Bool, true, false}
use Rattle.std.proofs.Common.{List, [], ◌∷◌, eqb, get_or, length, take, refl, sym, ap, ◌∙◌, subst, arith}
use Rattle.std.proofs.lemmas.Bool.{and_from, eq-eqb, eqb-true}
use Rattle.std.proofs.lemmas.List.Elements.{All-head, All-tail}
use Rattle.std.proofs.lemmas.List.{take_more}
use Rattle.std.proofs.lemmas.List.Sums.{sum_by-cons, sum_by_push}
use Rattle.std.proofs.Math.Bool.{or-true}
use Rattle.pdb_addresses.specs.declared.sections.ImageSectionHeader.{ImageSectionHeader}
use Rattle.pdb_owners.specs.Counts.{how_many, is_section_bound}
use Rattle.pdb_owners.proofs.HowMany.{how_many-first, how_many-le, how_many-split}
use Rattle.pdb_symbol_files.specs.Code.{AreAscending, BeginAt, begins_piece, in_ranges, is_code}
use Rattle.pdb_symbol_files.specs.Code.{is_within, pieces_of_code}
use Rattle.pdb_symbol_files.specs.ToldRanges.{begins_in, pieces_of_range, pieces_of_ranges}
use Rattle.pdb_symbol_files.specs.declared.addresses.AddressRange.{AddressRange}
use Rattle.pdb_symbol_files.proofs.CodeRanges.{code_below, within_there}

-- ---- along a range

pub first_begins : (begins : ℕ → Bool) (r : AddressRange) → begins_in begins r r.start ≡ true
first_begins begins r = ap (λ (b : Bool). b || begins r.start) (eq-eqb r.start r.start refl)

pub passing_begins : (begins : ℕ → Bool) (r : AddressRange) (a : ℕ) → begins a ≡ true
    → begins_in begins r a ≡ true
passing_begins begins r a passes =
    ap (λ (b : Bool). eqb a r.start || b) passes ∙ or-true (eqb a r.start)

-- two lookups more for one piece more
pub few_more : (test : ℕ → Bool) (start x count old now new : ℕ) → start ≤ x → 1 ≤ count
    → test x ≡ true → now ≤ old + 2 * how_many test start (x - start) → new ≤ now + 2
    → new ≤ old + 2 * how_many test start (x + count - start)
few_more test start x count old now new low some passes so_far two =
    let parts = how_many-split test start x (x + count) low (omega arith) in
    let one = how_many-first test (x + count - x) x (omega arith) passes in
    omega (arith, parts, one, so_far, two)

-- ---- along ranges

-- those of one range more
pub few_ranges : (begins same : ℕ → Bool) (ranges : List AddressRange) (i : ℕ) (d : AddressRange)
    (old now new : ℕ) → i < length ranges → same ≡ begins
    → now ≤ old + 2 * pieces_of_ranges begins (take i ranges)
    → new ≤ now + 2 * pieces_of_range same (get_or ranges i d)
    → new ≤ old + 2 * pieces_of_ranges begins (take (i + 1) ranges)
few_ranges begins same ranges i d old now new lt is so_far few =
    let r = get_or ranges i d in
    let one : pieces_of_range same r ≡ pieces_of_range begins r
    = ap (λ (f : ℕ → Bool). pieces_of_range f r) is in
    let all : pieces_of_ranges begins (take (i + 1) ranges)
    ≡ pieces_of_ranges begins (take i ranges) + pieces_of_range begins r
    = ap (pieces_of_ranges begins) (take_more ranges i d lt)
    ∙ sum_by_push (λ (q : AddressRange). pieces_of_range begins q) (take i ranges) r in
    omega (arith, one, all, so_far, few)

-- ---- ranges of code

either : (b c d : Bool) → (b ≡ true → c ≡ true) → (b || d) ≡ true → (c || d) ≡ true
either true c d first h = ap (λ (x : Bool). x || d) (first refl)
either false c d first h = ap (λ (x : Bool). c || x) h ∙ or-true c

-- where a range begins where a section begins or ends, its pieces are those of code
range_pieces : (sections : List ImageSectionHeader) (begins : ℕ → Bool) (r : AddressRange)
    → is_section_bound sections r.start ≡ true
    → ((x : ℕ) → r.start ≤ x → x < r.end → is_code sections x ≡ true)
    → pieces_of_range begins r
    ≤ how_many (begins_piece sections begins) r.start (r.end - r.start)
range_pieces sections begins r bound code =
    how_many-le (begins_in begins r) (begins_piece sections begins) (r.end - r.start) r.start r.start
    (λ k lt passes.
    let x = r.start + k in
    and_from (is_code sections x) (is_section_bound sections x || begins x)
    (code x (omega arith) (omega (arith, lt)))
    (either (eqb x r.start) (is_section_bound sections x) (begins x)
    (λ same. subst (λ (y : ℕ). is_section_bound sections y ≡ true)
    (sym (eqb-true x r.start same)) bound) passes))

-- ranges in ascending order have no more pieces than the addresses that they lie in
ranges_pieces : (sections : List ImageSectionHeader) (begins : ℕ → Bool)
    (ranges : List AddressRange) (from top : ℕ) → AreAscending from ranges
    → BeginAt (is_section_bound sections) ranges
    → ((x : ℕ) → in_ranges ranges x ≡ true → is_code sections x ≡ true)
    → ((x : ℕ) → is_code sections x ≡ true → x < top)
    → pieces_of_ranges begins ranges ≤ how_many (begins_piece sections begins) from (top - from)
ranges_pieces sections begins [] from top are bounds code below = omega arith
ranges_pieces sections begins (r ∷ ranges) from top (low, some, rest) bounds code below =
    let at : AddressRange → Type 0 = λ (q : AddressRange). is_section_bound sections q.start ≡ true in
    let test = begins_piece sections begins in
    let here : (x : ℕ) → r.start ≤ x → x < r.end → is_code sections x ≡ true
    = λ x le lt. code x (ap (λ (b : Bool). b || in_ranges ranges x) (within_there r x le lt)) in
    let last : r.end - 1 < top = below (r.end - 1) (here (r.end - 1) (omega arith) (omega arith)) in
    let one = range_pieces sections begins r (All-head at r ranges bounds) here in
    let others = ranges_pieces sections begins ranges r.end top rest (All-tail at r ranges bounds)
    (λ x h. code x (ap (λ (b : Bool). is_within x r || b) h ∙ or-true (is_within x r))) below in
    let before = how_many-split test from r.start top low (omega (arith, last)) in
    let after = how_many-split test r.start r.end top (omega arith) (omega (arith, last)) in
    let all = sum_by-cons (λ (q : AddressRange). pieces_of_range begins q) r ranges in
    omega (arith, one, others, before, after, all)

-- ranges that hold the addresses at which code may run have no more pieces than these
pub code_pieces : (sections : List ImageSectionHeader) (begins : ℕ → Bool)
    (ranges : List AddressRange) → AreAscending 0 ranges
    → BeginAt (is_section_bound sections) ranges
    → ((x : ℕ) → in_ranges ranges x ≡ is_code sections x)
    → pieces_of_ranges begins ranges ≤ pieces_of_code sections begins
unfolding pieces_of_code
code_pieces sections begins ranges are bounds holds =
    ranges_pieces sections begins ranges 0 (2 ^ 32 - 1) are bounds
    (λ x h. sym (holds x) ∙ h) (λ x h. code_below sections x h)

-- and so many lookups
pub few_pieces : (sections : List ImageSectionHeader) (begins same : ℕ → Bool)
    (ranges seen : List AddressRange) (old now new : ℕ) → same ≡ begins → seen ≡ ranges
    → AreAscending 0 ranges → BeginAt (is_section_bound sections) ranges
    → ((x : ℕ) → in_ranges ranges x ≡ is_code sections x) → now ≡ old
    → new ≤ now + 2 * pieces_of_ranges same seen
    → new ≤ old + 2 * pieces_of_code sections begins
few_pieces sections begins same ranges seen old now new is these are bounds holds from few =
    let pieces : pieces_of_ranges same seen ≡ pieces_of_ranges begins ranges
    = ap (λ (f : ℕ → Bool). pieces_of_ranges f seen) is ∙ ap (pieces_of_ranges begins) these in
    let most = code_pieces sections begins ranges are bounds holds in
    omega (arith, pieces, most, from, few)
