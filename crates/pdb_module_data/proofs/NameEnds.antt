-- Where the name at an offset ends, by where the names after NULs begin.
use Rattle.std.proofs.Common.{◌≡◌, ℕ, zero, suc, ◌+◌, ◌-◌, ◌<◌, ◌≤◌, ◌==◌, true, false, Bool, cond, List, [], ◌∷◌, length, drop, Option, None, Some, Ok, Err, inl, inr, refl, sym, ap, subst, ◌∙◌, arith, length-drop}
use Rattle.std.specs.Prelude.{map, nat_lt, position, slice_get, slice_range}
use Rattle.std.specs.List.{position_or_len}
use Rattle.std.specs.Option.{option_map}
use Rattle.std.proofs.lemmas.Bool.{cases_lt, lt-ltb, le-ltb}
use Rattle.std.proofs.lemmas.List.{map-id}
use Rattle.std.proofs.lemmas.List.Quantifiers.{position-Some}
use Rattle.std.proofs.lemmas.Option.{slice_get_past}
use Rattle.pdb_container.specs.Fault.{UnexpectedEof, ◌>>=◌}
use Rattle.pdb_container.specs.Fields.{c_string_at, cut_at}
use Rattle.pdb_container.specs.StringTable.{name_in}
use Rattle.pdb_pieces.specs.Halving.{Ascend, IsSplit}
use Rattle.pdb_module_data.specs.FileNames.{after_nuls}

-- ---- the starts ascend

one_ascends : (b : Bool) (low at : ℕ) (rest : List ℕ) → low ≤ at + 1 → ((low : ℕ) → low ≤ at + 2 → Ascend low rest) → Ascend low (cond b ((at + 1) ∷ rest) rest)
one_ascends true low at rest le each = (le, each (at + 1) (omega arith))
one_ascends false low at rest le each = each low (omega arith)

ascends : (low at : ℕ) (bytes : List ℕ) → low ≤ at + 1 → Ascend low (after_nuls at bytes)
ascends low at [] le = tt
ascends low at (byte ∷ bytes) le = one_ascends (byte == 0) low at (after_nuls (at + 1) bytes) le (λ low le. ascends low (at + 1) bytes (omega arith))

pub starts_ascend : (names starts : List ℕ) → starts ≡ after_nuls 0 names → Ascend 0 (map (λ n. n) starts)
starts_ascend names starts are = rw (map-id starts, are) (ascends 0 0 names (omega arith))

-- ---- one of them, by the bytes from an offset on

-- past an offset none begins there or before
none_begun : (starts : List ℕ) (offset count : ℕ) → Ascend (offset + 1) starts → IsSplit starts offset count → count ≡ 0
none_begun starts offset zero h s = refl
none_begun [] offset (suc n) h s = absurd (omega (arith, s.bound))
none_begun (start ∷ starts) offset (suc n) h s = let le = s.before 0 start (omega arith) refl in absurd (omega (arith, h.0, le))

shifted : (at : ℕ) (end : Option ℕ) → option_map (λ p. (at + 1) + p + 1) end ≡ option_map (λ p. at + p + 1) (option_map suc end)
shifted at None = refl
shifted at (Some p) = ap (λ (n : ℕ). Some n) (omega arith)

numbered : (n m : ℕ) → cond (nat_lt (1 + n) (suc m)) (Some (1 + n)) None ≡ option_map suc (cond (nat_lt n m) (Some n) None)
numbered n m =
    elim (cases_lt n m) [
      | inl h ↦ rw (lt-ltb n m h, lt-ltb (1 + n) (suc m) (omega arith)) (ap (λ (k : ℕ). Some k) (omega arith))
      | inr h ↦ rw (le-ltb n m h, le-ltb (1 + n) (suc m) (omega arith)) refl
    ]

after_other : (byte : ℕ) (bytes : List ℕ) → (byte == 0) ≡ false → position (λ b. b == 0) (byte ∷ bytes) ≡ option_map suc (position (λ b. b == 0) bytes)
after_other byte bytes e = rw e (numbered (position_or_len (λ b. b == 0) bytes) (length bytes))

after_nul : (byte : ℕ) (bytes : List ℕ) → (byte == 0) ≡ true → position (λ b. b == 0) (byte ∷ bytes) ≡ Some 0
after_nul byte bytes e = rw (e, lt-ltb 0 (suc (length bytes)) (omega arith)) refl

first_one : (b : Bool) (at byte : ℕ) (bytes starts : List ℕ) → (byte == 0) ≡ b → slice_get starts 0 ≡ option_map (λ p. (at + 1) + p + 1) (position (λ b. b == 0) bytes)
    → slice_get (cond b ((at + 1) ∷ starts) starts) 0 ≡ option_map (λ p. at + p + 1) (position (λ b. b == 0) (byte ∷ bytes))
first_one true at byte bytes starts e rest = rw (after_nul byte bytes e) (ap (λ (n : ℕ). Some n) (omega arith))
first_one false at byte bytes starts e rest = rw (after_other byte bytes e) (rest ∙ shifted at (position (λ b. b == 0) bytes))

-- the first start is that after the first NUL
first : (at : ℕ) (bytes : List ℕ) → slice_get (after_nuls at bytes) 0 ≡ option_map (λ p. at + p + 1) (position (λ b. b == 0) bytes)
first at [] = refl
first at (byte ∷ bytes) = first_one (byte == 0) at byte bytes (after_nuls (at + 1) bytes) refl (first (at + 1) bytes)

one_more : (b : Bool) (at offset count : ℕ) (rest : List ℕ) (found : Option ℕ) → at + 1 ≤ offset → ((n : ℕ) → IsSplit rest offset n → slice_get rest n ≡ found)
    → IsSplit (cond b ((at + 1) ∷ rest) rest) offset count → slice_get (cond b ((at + 1) ∷ rest) rest) count ≡ found
one_more false at offset count rest found le each s = each count s
one_more true at offset zero rest found le each s = let past = s.after 0 (at + 1) (omega arith) refl in absurd (omega (arith, past))
one_more true at offset (suc n) rest found le each s = each n record {
  bound = omega (arith, s.bound);
  before = λ i m l e. s.before (suc i) m (omega arith) e;
  after = λ i m l e. s.after (suc i) m (omega arith) e;
}

-- the first start past an offset is that after the first NUL from the offset on
found : (k at offset count : ℕ) (bytes : List ℕ) → offset ≡ at + k → IsSplit (after_nuls at bytes) offset count
    → slice_get (after_nuls at bytes) count ≡ option_map (λ p. offset + p + 1) (position (λ b. b == 0) (drop k bytes))
found zero at offset count bytes e s =
    let same : at ≡ offset = omega arith in
    let none = none_begun (after_nuls at bytes) offset count (ascends (offset + 1) at bytes (omega arith)) s in
    rw (none, sym same) (first at bytes)
found (suc k) at offset count [] e s = slice_get_past [] count (omega arith)
found (suc k) at offset count (byte ∷ bytes) e s =
    one_more (byte == 0) at offset count (after_nuls (at + 1) bytes) _ (omega arith) (λ n split. found k (at + 1) offset n bytes (omega arith) split) s

-- ---- the name at an offset

in_names : (names : List ℕ) (offset : ℕ) → name_in names offset ≡ (cut_at (drop offset names) (position (λ b. b == 0) (drop offset names)) >>= λ name. Ok name.0)
unfolding name_in c_string_at
in_names names offset = refl

-- A name ends before the first start past its offset; with no such start, no NUL ends it.
pub record EndsBefore (names : List ℕ) (offset next : ℕ) : Type 0 where
  pub from : offset < next
  pub within : next ≤ length names
  pub name : name_in names offset ≡ Ok (slice_range names offset (next - 1))

ends : (names : List ℕ) (offset next : ℕ) (end : Option ℕ) → position (λ b. b == 0) (drop offset names) ≡ end → Some next ≡ option_map (λ p. offset + p + 1) end → EndsBefore names offset next
ends names offset next None is e = cc
ends names offset next (Some p) is e =
    let next_is : next ≡ offset + p + 1 = cc in
    let at = position-Some (λ b. b == 0) (drop offset names) p 0 is in
    let length' = length-drop offset names in
    let size : next - 1 - offset ≡ p = omega arith in
    record { from = omega arith; within = omega (arith, at.0); name = in_names names offset ∙ rw (is, size) refl }

no_end : (names : List ℕ) (offset : ℕ) (end : Option ℕ) → position (λ b. b == 0) (drop offset names) ≡ end → None ≡ option_map (λ p. offset + p + 1) end → name_in names offset ≡ Err UnexpectedEof
no_end names offset None is e = in_names names offset ∙ rw is refl
no_end names offset (Some p) is e = cc

at_count : (names starts : List ℕ) (offset count : ℕ) → starts ≡ after_nuls 0 names → IsSplit (map (λ n. n) starts) offset count
    → slice_get starts count ≡ option_map (λ p. offset + p + 1) (position (λ b. b == 0) (drop offset names))
at_count names starts offset count are s =
    let split : IsSplit (after_nuls 0 names) offset count = subst (λ (xs : List ℕ). IsSplit xs offset count) (map-id starts ∙ are) s in
    rw are (found offset 0 offset count names (omega arith) split)

pub name_ends : (names starts : List ℕ) (offset count next : ℕ) → starts ≡ after_nuls 0 names → IsSplit (map (λ n. n) starts) offset count → slice_get starts count ≡ Some next → EndsBefore names offset next
name_ends names starts offset count next are s is = ends names offset next _ refl (sym is ∙ at_count names starts offset count are s)

pub name_endless : (names starts : List ℕ) (offset count : ℕ) → starts ≡ after_nuls 0 names → IsSplit (map (λ n. n) starts) offset count → slice_get starts count ≡ None → name_in names offset ≡ Err UnexpectedEof
name_endless names starts offset count are s is = no_end names offset _ refl (sym is ∙ at_count names starts offset count are s)
