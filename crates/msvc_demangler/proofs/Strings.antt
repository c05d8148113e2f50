-- String literals that are read and written a character at a time.
use Rattle.std.proofs.Common.{◌≡◌, ℕ, zero, suc, ◌-◌, ◌<◌, List, [], ◌∷◌, ◌++◌, length, take, drop, Bool, true, false, Option, None, Some, refl, sym, ap, ◌∙◌, append_assoc, append-nil, arith}
use Rattle.std.specs.Prelude.{option_map, if◌then◌else◌, ◌*◌, ◌/◌, ◌%◌, ◌==◌, ◌&&◌, nat_le, nat_lt, count_by}
use Rattle.std.specs.List.{flat_map, suffix_len}
use Rattle.std.proofs.lemmas.Option.{cond_some}
use Rattle.std.specs.Int.{from_le_bytes, w32}
use Rattle.msvc_demangler.specs.Bytes.{begins}
use Rattle.msvc_demangler.specs.Characters.{character_size, size_by}
use Rattle.msvc_demangler.specs.Literals.{characters_of, ended, joined}

-- what was read before, and what is read then
abbrev pub after_front : List ℕ → List ℕ × List ℕ → List ℕ × List ℕ
after_front front r = (front ++ r.0, r.1)

-- before the first
pub none_read : (o : Option (List ℕ × List ℕ)) → o ≡ option_map (after_front []) o
none_read None = refl
none_read (Some r) = refl

begins-none : (b : Bool) (t : List ℕ) → (if b then Some t else None) ≡ None → b ≡ false
begins-none true t e = cc
begins-none false t e = refl

not_ended : (rest : List ℕ) → ended rest ≡ None → begins 64 rest ≡ false
unfolding ended
not_ended rest e = begins-none (begins 64 rest) (drop 1 rest) e

end_read : (one : List ℕ → Option (ℕ × List ℕ)) (left : ℕ) (rest after : List ℕ) → 0 < left
    → ended rest ≡ Some after → characters_of one left rest ≡ Some ([], after)
unfolding characters_of ended
end_read one zero rest after h e = absurd (omega arith)
end_read one (suc more) rest after h e =
    let at = cond_some (begins 64 rest) (drop 1 rest) after e in
    rw at.0 (ap (λ t. Some ([], t)) at.1)

-- at the end
pub all_read : (one : List ℕ → Option (ℕ × List ℕ)) (left : ℕ) (rest after front : List ℕ)
    (whole : Option (List ℕ × List ℕ)) → 0 < left → ended rest ≡ Some after
    → whole ≡ option_map (after_front front) (characters_of one left rest)
    → Some (front, after) ≡ whole
all_read one left rest after front whole h e so_far =
    ap (λ t. Some (t, after)) (sym (append-nil front))
    ∙ sym (so_far ∙ ap (option_map (after_front front)) (end_read one left rest after h e))

-- a character that isn't one
pub not_read : (one : List ℕ → Option (ℕ × List ℕ)) (left : ℕ) (rest : List ℕ)
    → ended rest ≡ None → one rest ≡ None → characters_of one left rest ≡ None
unfolding characters_of
not_read one zero rest e n = refl
not_read one (suc more) rest e n = rw (not_ended rest e) (rw n refl)

-- too many characters
pub too_many : (one : List ℕ → Option (ℕ × List ℕ)) (left : ℕ) (rest : List ℕ) → left ≡ 0
    → characters_of one left rest ≡ None
unfolding characters_of
too_many one zero rest e = refl
too_many one (suc more) rest e = absurd (omega arith)

front_more : (front : List ℕ) (c : ℕ) (o : Option (List ℕ × List ℕ))
    → option_map (after_front front) (option_map (λ cs. (c ∷ cs.0, cs.1)) o)
    ≡ option_map (after_front (front ++ c ∷ [])) o
front_more front c None = refl
front_more front c (Some r) =
    ap (λ t. Some (t, r.1)) (sym (append_assoc front (c ∷ []) r.0))

read_at : (one : List ℕ → Option (ℕ × List ℕ)) (more : ℕ) (rest after : List ℕ) (c : ℕ)
    → ended rest ≡ None → one rest ≡ Some (c, after)
    → characters_of one (suc more) rest
    ≡ option_map (λ cs. (c ∷ cs.0, cs.1)) (characters_of one more after)
unfolding characters_of
read_at one more rest after c e is = rw (not_ended rest e) (rw is refl)

-- one character more
pub one_read : (one : List ℕ → Option (ℕ × List ℕ)) (left : ℕ) (rest after front : List ℕ) (c : ℕ)
    (whole : Option (List ℕ × List ℕ)) → 0 < left → ended rest ≡ None
    → one rest ≡ Some (c, after) → whole ≡ option_map (after_front front) (characters_of one left rest)
    → whole ≡ option_map (after_front (front ++ c ∷ [])) (characters_of one (left - 1) after)
one_read one left rest after front c whole h e is so_far =
    let s : left ≡ suc (left - 1) = omega arith in
    so_far ∙ ap (λ n. option_map (after_front front) (characters_of one n rest)) s
    ∙ ap (option_map (after_front front)) (read_at one (left - 1) rest after c e is)
    ∙ front_more front c (characters_of one (left - 1) after)

-- a string that is read a character at a time
pub ruleset reading = (none_read, one_read, all_read, not_read, too_many)

joined_at : (size more : ℕ) (bytes : List ℕ) → joined size (suc more) bytes
    ≡ from_le_bytes w32 (take size bytes) ∷ joined size more (drop size bytes)
unfolding joined
joined_at size more bytes = refl

-- one character more
pub one_joined : (f : ℕ → List ℕ) (size left : ℕ) (rest text : List ℕ) (c : ℕ) (whole : List ℕ)
    → 0 < left → c ≡ from_le_bytes w32 (take size rest)
    → whole ≡ text ++ flat_map f (joined size left rest)
    → whole ≡ (text ++ f c) ++ flat_map f (joined size (left - 1) (drop size rest))
one_joined f size left rest text c whole h is so_far =
    let s : left ≡ suc (left - 1) = omega arith in
    so_far ∙ ap (λ n. text ++ flat_map f (joined size n rest)) s
    ∙ ap (λ cs. text ++ flat_map f cs) (joined_at size (left - 1) rest)
    ∙ ap (λ d. text ++ (f d ++ flat_map f (joined size (left - 1) (drop size rest)))) (sym is)
    ∙ sym (append_assoc text (f c) (flat_map f (joined size (left - 1) (drop size rest))))

-- after all characters
pub none_joined : (f : ℕ → List ℕ) (size left : ℕ) (rest text whole : List ℕ) → left ≡ 0
    → whole ≡ text ++ flat_map f (joined size left rest) → text ≡ whole
unfolding joined
none_joined f size zero rest text whole e so_far = sym (so_far ∙ append-nil text)
none_joined f size (suc more) rest text whole e so_far = absurd (omega arith)

either_some : (b : Bool) (m n : ℕ) → 0 < m → 0 < n → 0 < (if b then m else n)
either_some true m n h k = h
either_some false m n h k = k

size_by_some : (zeros for_four for_two size : ℕ) → 0 < size_by zeros for_four for_two size
size_by_some zeros for_four for_two size =
    either_some (nat_le for_four zeros && (size % 4 == 0)) 4
    (if nat_le for_two zeros then 2 else 1) (omega arith)
    (either_some (nat_le for_two zeros) 2 1 (omega arith) (omega arith))

-- a character has a byte
pub character_size_some : (bytes : List ℕ) (size : ℕ) → 0 < character_size bytes size
unfolding character_size
character_size_some bytes size =
    let ends = size_by_some (suffix_len (λ b. b == 0) bytes) 4 2 size in
    let all = size_by_some (count_by (λ b. b == 0) bytes) (2 * length bytes / 3)
    (length bytes / 3) size in
    either_some (size % 2 == 1) 1 _ (omega arith) (either_some (nat_lt size 32) _ _ ends all)
