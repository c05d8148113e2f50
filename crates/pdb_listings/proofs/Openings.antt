-- Parentheses of a text, from its end on.
use Rattle.std.proofs.Common.{◌≡◌, ℕ, zero, suc, ◌+◌, ◌-◌, ◌<◌, ◌≤◌, List, [], ◌∷◌, length, drop, get_or, sym, ap, ◌∙◌, subst, arith, refl}
use Rattle.std.specs.Prelude.{Bool, true, false, ◌==◌, ◌&&◌, Option, None, Some, if◌then◌else◌}
use Rattle.std.proofs.lemmas.List.{drop_all, drop_more}
use Rattle.pdb_listings.specs.Names.{later_or_here, last_opening, unopened, unopened_by}

-- the last opening of an end of a text is that of the text
opening_in : (xs : List ℕ) (i n : ℕ) → last_opening (drop i xs) ≡ Some n → last_opening xs ≡ Some (i + n)
opening_in [] i n h =
    let none : None ≡ Some n = subst (λ (l : List ℕ). last_opening l ≡ Some n) (drop_all i [] (omega arith)) h in
    absurd (cc)
opening_in (x ∷ xs) zero n h = let e : 0 + n ≡ n = omega arith in rw e h
opening_in (x ∷ xs) (suc i) n h =
    let e : suc i + n ≡ suc (i + n) = omega arith in
    rw e (ap (λ o. later_or_here o ((x == 40) && (unopened xs == 1))) (opening_in xs i n h))

-- of the end of a text from a place on: how many of its closing parentheses have no opening one
-- in it, and that nothing in it is the last opening
pub record IsAfter (text : List ℕ) (place n : ℕ) : Type 0 where
  pub within : place ≤ length text
  pub few : n + place ≤ length text
  pub is : n ≡ unopened (drop place text)
  pub none : last_opening (drop place text) ≡ None

-- at the text's end
pub nothing_after : (text : List ℕ) → IsAfter text (length text) 0
nothing_after text = record {
  within = omega arith;
  few = omega arith;
  is = sym (ap unopened (drop_all (length text) text (omega arith)));
  none = ap last_opening (drop_all (length text) text (omega arith));
}

few_by_open : (o : Bool) (n : ℕ) → (if o then n - 1 else n) ≤ n + 1
few_by_open true n = omega arith
few_by_open false n = omega arith

few_by_close : (c o : Bool) (n : ℕ) → (if c then n + 1 else (if o then n - 1 else n)) ≤ n + 1
few_by_close true o n = omega arith
few_by_close false o n = few_by_open o n

few_by : (b n : ℕ) → unopened_by b n ≤ n + 1
few_by b n = few_by_close (b == 41) (b == 40) n

-- no last opening at a place after which there is none
none_here : (o : Option ℕ) (here : Bool) → o ≡ None → here ≡ false → later_or_here o here ≡ None
none_here o here none false_is = rw (none, false_is) refl

-- one place before
pub one_before : (text : List ℕ) (place n d : ℕ) → place < length text → IsAfter text (place + 1) n
    → ((get_or text place d == 40) && (n == 1)) ≡ false → IsAfter text place (unopened_by (get_or text place d) n)
one_before text place n d lt after not_here =
    let left = drop_more text place d lt in
    let few = few_by (get_or text place d) n in
    let here : ((get_or text place d == 40) && (unopened (drop (place + 1) text) == 1)) ≡ false =
    subst (λ (m : ℕ). ((get_or text place d == 40) && (m == 1)) ≡ false) after.is not_here in
    record {
      within = omega arith;
      few = omega (arith, after.few, few);
      is = ap (unopened_by (get_or text place d)) after.is ∙ sym (ap unopened left);
      none = ap last_opening left ∙ none_here (last_opening (drop (place + 1) text)) _ after.none here;
    }

opens_first : (o : Option ℕ) (b n : ℕ) → o ≡ None → b ≡ 40 → 1 ≡ n → later_or_here o ((b == 40) && (n == 1)) ≡ Some 0
opens_first o b n none opens one = rw (none, opens, sym one) refl

-- the last opening
pub opens_at : (text : List ℕ) (place n d : ℕ) → place < length text → IsAfter text (place + 1) n
    → get_or text place d ≡ 40 → n ≡ 1 → Some place ≡ last_opening text
opens_at text place n d lt after opens one =
    let zeroth : place + 0 ≡ place = omega arith in
    sym (subst (λ (k : ℕ). last_opening text ≡ Some k) zeroth
    (opening_in text place 0 (ap last_opening (drop_more text place d lt) ∙ opens_first (last_opening (drop (place + 1) text)) (get_or text place d) _ after.none opens (sym one ∙ after.is))))
