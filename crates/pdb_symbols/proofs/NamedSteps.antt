-- Lines of a text, one at a time, with the names in them undecorated.
use Rattle.std.proofs.Common.{◌≡◌, ◌∙◌, ℕ, zero, suc, ◌+◌, ◌-◌, ◌<◌, ◌≤◌, List, [], ◌∷◌, ◌++◌, true}
use Rattle.std.proofs.Common.{false, refl, sym, ap, subst, arith, append_assoc, append-nil, length}
use Rattle.std.proofs.Common.{length-append, length-drop, take, drop, get_or, take-append-drop, take_all}
use Rattle.std.proofs.Common.{cond, inl, inr}
use Rattle.std.specs.Prelude.{◌==◌, not, Bool, Option, Result, Ok, Err, OnErr, OnOk, codes}
use Rattle.std.specs.List.{All, prefix_len}
use Rattle.std.specs.Io.KnownBytes.{Appends}
use Rattle.std.proofs.KnownBytes.{Appends-nil, Appends-trans}
use Rattle.std.proofs.lemmas.Bool.{cases_eq, eqb-true}
use Rattle.std.proofs.lemmas.Bool.{ne_eqb}
use Rattle.std.proofs.lemmas.Grind.{flat_map-append}
use Rattle.std.proofs.lemmas.List.{drop_all, drop_more, get_or-take}
use Rattle.std.proofs.lemmas.List.Elements.{All-append, All-nil}
use Rattle.std.proofs.lemmas.List.Folds.{length-prefix_len}
use Rattle.std.proofs.lemmas.List.Sums.{prefix_len_passes, prefix_len_stops}
use Rattle.pdb_symbol_files.specs.Output.{AppendsFront}
use Rattle.pdb_symbol_files.specs.Reading.{after_blank, after_fields, before_blank, is_word}
use Rattle.pdb_symbols.specs.NamedLines.{IsLineOf, IsNamed, IsNameText, IsRenamed, IsUnbroken, Line}
use Rattle.pdb_symbols.specs.NamedLines.{NamesLines, SplitsLine, is_in_line, is_in_word, name_of_line}
use Rattle.pdb_symbols.specs.NamedLines.{named_lines, stored_lines}
use Rattle.pdb_symbols.specs.SymbolsText.{IsNamedInParts, IsNamedText}
use Rattle.pdb_symbols.specs.UnwindingText.{IsPassedOn}

-- ---- lines

-- before the first newline there is none
unbroken_front : (text : List ℕ) → IsUnbroken (take (prefix_len is_in_line text) text)
unbroken_front text k d h =
    let within : k < prefix_len is_in_line text
    = subst (λ (n : ℕ). k < n) (length-prefix_len is_in_line text) h in
    ap is_in_line (get_or-take (prefix_len is_in_line text) text k d within)
    ∙ prefix_len_passes is_in_line text k d within

-- a text in which no newline stands
pub line_whole : (text : List ℕ) (count : ℕ) → count ≡ prefix_len is_in_line text
    → length text ≤ count → IsUnbroken text
line_whole text count is past k d h =
    prefix_len_passes is_in_line text k d (omega (arith, is))

newline_is : (b : ℕ) (is_ten : Bool) → (b == 10) ≡ is_ten → not is_ten ≡ false → b ≡ 10
newline_is b true is h = eqb-true b 10 is
newline_is b false is h = cc

-- a text is the line before its first newline, that newline and the rest
pub line_split : (text : List ℕ) (count : ℕ) → count ≡ prefix_len is_in_line text
    → count < length text
    → SplitsLine text (take count text) (take (length text - (count + 1)) (drop (count + 1) text))
line_split text count is within =
    let stops : is_in_line (get_or text count 0) ≡ false
    = subst (λ (n : ℕ). is_in_line (get_or text n 0) ≡ false) (sym is)
    (prefix_len_stops is_in_line text 0 (subst (λ (n : ℕ). n < length text) is within)) in
    let newline : get_or text count 0 ≡ 10
    = newline_is (get_or text count 0) (get_or text count 0 == 10) refl stops in
    let rest : take (length text - (count + 1)) (drop (count + 1) text) ≡ drop (count + 1) text
    = take_all _ _ (omega (arith, length-drop (count + 1) text)) in record {
      unbroken = subst (λ (n : ℕ). IsUnbroken (take n text)) (sym is) (unbroken_front text);
      whole = sym (take-append-drop count text)
          ∙ ap (λ l. take count text ++ l) (drop_more text count 0 within
          ∙ ap (λ b. b ∷ drop (count + 1) text) newline
          ∙ ap (λ l. 10 ∷ l) (sym rest));
    }

-- what comes after a line is shorter
pub shorter : (text line after : List ℕ) → SplitsLine text line after → length after < length text
shorter text line after split =
    omega (arith, ap length split.whole, length-append line (10 ∷ after))

-- ---- fields

one_add : (n : ℕ) → 1 + n ≡ suc n
one_add n = omega arith

before_by : (b : Bool) (x : ℕ) (xs more : List ℕ) (n : ℕ) → take n xs ≡ more
    → take (cond (not b) (1 + n) 0) (x ∷ xs) ≡ cond b [] (x ∷ more)
before_by true x xs more n e = refl
before_by false x xs more n e =
    ap (λ (k : ℕ). take k (x ∷ xs)) (one_add n) ∙ ap (λ (l : List ℕ). x ∷ l) e

before_front : (xs : List ℕ) → take (prefix_len is_in_word xs) xs ≡ before_blank xs
before_front [] = refl
before_front (x ∷ xs) =
    before_by (x == 32) x xs (before_blank xs) (prefix_len is_in_word xs) (before_front xs)

pub before_it : (line : List ℕ) (n : ℕ) → n ≡ prefix_len is_in_word line
    → take n line ≡ before_blank line
before_it line n is = ap (λ (k : ℕ). take k line) is ∙ before_front line

after_by : (b : Bool) (x : ℕ) (xs more : List ℕ) (n : ℕ) → drop (suc n) xs ≡ more
    → drop (suc (cond (not b) (1 + n) 0)) (x ∷ xs) ≡ cond b xs more
after_by true x xs more n e = refl
after_by false x xs more n e = ap (λ (k : ℕ). drop k xs) (one_add n) ∙ e

after_front : (xs : List ℕ) → drop (suc (prefix_len is_in_word xs)) xs ≡ after_blank xs
after_front [] = refl
after_front (x ∷ xs) =
    after_by (x == 32) x xs (after_blank xs) (prefix_len is_in_word xs) (after_front xs)

pub after_it : (line : List ℕ) (n : ℕ) → n ≡ prefix_len is_in_word line
    → take (length line - (n + 1)) (drop (n + 1) line) ≡ after_blank line
after_it line n is =
    let far : n + 1 ≡ suc (prefix_len is_in_word line) = omega (arith, is) in
    take_all (length line - (n + 1)) (drop (n + 1) line) (omega (arith, length-drop (n + 1) line))
    ∙ ap (λ (k : ℕ). drop k line) far
    ∙ after_front line

pub after_none : (line : List ℕ) (n : ℕ) → n ≡ prefix_len is_in_word line → length line ≤ n
    → take (length line - n) (drop n line) ≡ after_blank line
after_none line n is le =
    let none : take (length line - n) (drop n line) ≡ []
    = ap (take (length line - n)) (drop_all n line le) ∙ take_all (length line - n) [] (omega arith) in
    let past : drop (suc (prefix_len is_in_word line)) line ≡ []
    = drop_all (suc (prefix_len is_in_word line)) line (omega (arith, is)) in
    none ∙ sym past ∙ after_front line

pub fields_more : (count i : ℕ) (rest next all : List ℕ) → i < count → next ≡ after_blank rest
    → after_fields (count - i) rest ≡ all → after_fields (count - (i + 1)) next ≡ all
fields_more count i rest next all lt e so_far =
    let left : count - i ≡ suc (count - (i + 1)) = omega arith in
    ap (after_fields (count - (i + 1))) e
    ∙ sym (ap (λ (n : ℕ). after_fields n rest) left)
    ∙ so_far

pub fields_end : (count i : ℕ) (rest all : List ℕ) → count ≤ i
    → after_fields (count - i) rest ≡ all → rest ≡ all
fields_end count i rest all le so_far =
    let none : count - i ≡ 0 = omega arith in
    sym (ap (λ (n : ℕ). after_fields n rest) none) ∙ so_far

-- a line ends with what stands after its first blank, and so with each field's rest
pub record IsSuffix (line rest : List ℕ) : Type 0 where
  pub before : List ℕ
  pub is : line ≡ before ++ rest

suffix_self : (line : List ℕ) → IsSuffix line line
suffix_self line = record { before = []; is = refl }

suffix_none : (line : List ℕ) → IsSuffix line []
suffix_none line = record { before = line; is = sym (append-nil line) }

suffix_on : (a b c : List ℕ) → IsSuffix a b → IsSuffix b c → IsSuffix a c
suffix_on a b c x y = record {
  before = x.before ++ y.before;
  is = x.is ∙ ap (λ l. x.before ++ l) y.is ∙ sym (append_assoc x.before y.before c);
}

suffix_if : (b : Bool) (line x y : List ℕ) → IsSuffix line x → IsSuffix line y
    → IsSuffix line (cond b x y)
suffix_if true line x y p q = p
suffix_if false line x y p q = q

one_before : (b : ℕ) (line rest : List ℕ) → IsSuffix line rest → IsSuffix (b ∷ line) rest
one_before b line rest s = record { before = b ∷ s.before; is = ap (λ l. b ∷ l) s.is }

suffix_blank : (line : List ℕ) → IsSuffix line (after_blank line)
suffix_blank [] = suffix_self []
suffix_blank (b ∷ line) =
    suffix_if (b == 32) (b ∷ line) line (after_blank line)
    (one_before b line line (suffix_self line))
    (one_before b line (after_blank line) (suffix_blank line))

suffix_fields : (n : ℕ) (line : List ℕ) → IsSuffix line (after_fields n line)
suffix_fields zero line = suffix_self line
suffix_fields (suc n) line =
    suffix_on line (after_blank line) (after_fields n (after_blank line)) (suffix_blank line)
    (suffix_fields n (after_blank line))

pub suffix_name : (line : List ℕ) → IsSuffix line (name_of_line line)
unfolding name_of_line
suffix_name line =
    suffix_if (is_word line (codes "FUNC")) line (after_fields 4 line) _ (suffix_fields 4 line)
    (suffix_if (is_word line (codes "INLINE_ORIGIN")) line (after_fields 2 line) []
    (suffix_fields 2 line) (suffix_none line))

take_front : (xs ys : List ℕ) → take (length xs) (xs ++ ys) ≡ xs
take_front [] ys = refl
take_front (x ∷ xs) ys = ap (λ l. x ∷ l) (take_front xs ys)

-- what stands before it, by their lengths
before_suffix : (line rest : List ℕ) → IsSuffix line rest
    → line ≡ take (length line - length rest) line ++ rest
before_suffix line rest s =
    let size : length line - length rest ≡ length s.before
    = omega (arith, ap length s.is, length-append s.before rest) in
    s.is ∙ ap (λ (b : List ℕ). b ++ rest) (sym (ap (λ (n : ℕ). take n line) size
    ∙ ap (take (length s.before)) s.is ∙ take_front s.before rest))

-- a line is written with another text for its name
pub named_line : (line name : List ℕ) (start : ℕ) (out out1 out2 out3 : List ℕ)
    → name ≡ name_of_line line → start ≡ length line - length name
    → out1 ≡ out ++ take start line
    → ((text : List ℕ) × IsNameText name text × (out2 ≡ out1 ++ text))
    → out3 ≡ out2 ++ 10 ∷ []
    → (named : List ℕ) × IsNamed line named × (out3 ≡ out ++ (named ++ 10 ∷ []))
named_line line name start out out1 out2 out3 en es e1 (text, is, e2) e3 =
    let before = take start line in (
      before ++ text,
      record {
        before = before;
        text = text;
        line_is = before_suffix line (name_of_line line) (suffix_name line)
            ∙ sym (ap (λ (n : ℕ). take n line ++ name_of_line line)
            (es ∙ ap (λ (l : List ℕ). length line - length l) en));
        named_is = refl;
        name = subst (λ (n : List ℕ). IsNameText n text) en is;
      },
      e3 ∙ ap (λ l. l ++ 10 ∷ []) (e2 ∙ ap (λ l. l ++ text) e1 ∙ append_assoc out before text)
          ∙ append_assoc out (before ++ text) (10 ∷ []),
    )

-- a line as it stands
pub stays : (line : List ℕ) → IsNamed line line
stays line =
    let s = suffix_name line in record {
      before = s.before;
      text = name_of_line line;
      line_is = s.is;
      named_is = s.is;
      name = inl refl;
    }

all_one : (P : Line → Type 0) (x : Line) → P x → All P (x ∷ [])
all_one P x h zero d within = h
all_one P x h (suc k) d within = absurd (omega arith)

-- ---- a text, line by line

pub none_yet : (text : List ℕ) → NamesLines text text []
none_yet text =
    record { lines = []; each = All-nil IsLineOf; stored = refl; written = refl }

-- one line more is written
pub one_more : (text rest line after named given : List ℕ) → NamesLines text rest named
    → SplitsLine rest line after → IsNamed line given
    → NamesLines text after (named ++ (given ++ 10 ∷ []))
one_more text rest line after named given u split is =
    let before : Line → List ℕ = λ l. l.0 ++ 10 ∷ [] in
    let written : Line → List ℕ = λ l. l.1 ++ 10 ∷ [] in
    let pair : Line = (line, given) in record {
      lines = u.lines ++ pair ∷ [];
      each = All-append IsLineOf u.lines (pair ∷ []) u.each
          (all_one IsLineOf pair (split.unbroken, is));
      stored = u.stored
          ∙ ap (λ r. stored_lines u.lines ++ r)
          (split.whole ∙ sym (append_assoc line (10 ∷ []) after))
          ∙ sym (append_assoc (stored_lines u.lines) (line ++ 10 ∷ []) after)
          ∙ ap (λ l. l ++ after)
          (ap (λ l. stored_lines u.lines ++ l) (sym (append-nil (line ++ 10 ∷ [])))
          ∙ sym (flat_map-append before u.lines (pair ∷ [])));
      written = ap (λ l. l ++ (given ++ 10 ∷ [])) u.written
          ∙ ap (λ l. named_lines u.lines ++ l) (sym (append-nil (given ++ 10 ∷ [])))
          ∙ sym (flat_map-append written u.lines (pair ∷ []));
    }

-- ---- what of it is out

-- some of the lines before a rest is out, and the rest of them is kept
pub record IsHalfNamed (old new : Option (List ℕ)) (text rest kept : List ℕ) : Type 0 where
  pub named : List ℕ
  pub lines : NamesLines text rest named
  pub front : List ℕ
  pub appends : Appends old new front
  pub whole : named ≡ front ++ kept

pub nothing_out : (old : Option (List ℕ)) (text kept : List ℕ) → kept ≡ []
    → IsHalfNamed old old text text kept
nothing_out old text kept none = record {
  named = [];
  lines = none_yet text;
  front = [];
  appends = Appends-nil old;
  whole = sym none;
}

-- a line more is kept
pub line_kept : (old new : Option (List ℕ)) (text rest line after kept made : List ℕ)
    → IsHalfNamed old new text rest kept → SplitsLine rest line after
    → ((given : List ℕ) × IsNamed line given × (made ≡ kept ++ (given ++ 10 ∷ [])))
    → IsHalfNamed old new text after made
line_kept old new text rest line after kept made h split (given, is, e) = record {
  named = h.named ++ (given ++ 10 ∷ []);
  lines = one_more text rest line after h.named given h.lines split is;
  front = h.front;
  appends = h.appends;
  whole = ap (λ (l : List ℕ). l ++ (given ++ 10 ∷ [])) h.whole
      ∙ append_assoc h.front kept (given ++ 10 ∷ [])
      ∙ ap (λ (l : List ℕ). h.front ++ l) (sym e);
}

-- what is kept is passed on
pub kept_out : {E : Type 0} (old mid new : Option (List ℕ)) (text rest kept left : List ℕ)
    (r : Result (Unit {0}) E) (done : Unit {0}) → r ≡ Ok done
    → IsHalfNamed old mid text rest kept → IsPassedOn mid new kept left r
    → IsHalfNamed old new text rest left
kept_out {E} old mid new text rest kept left r done is h p =
    let out : IsPassedOn {E = E} mid new kept left (Ok done)
    = subst (λ (x : Result (Unit {0}) E). IsPassedOn mid new kept left x) is p in record {
      named = h.named;
      lines = h.lines;
      front = h.front ++ out.0;
      appends = Appends-trans old mid new h.front out.0 h.appends out.1;
      whole = h.whole ∙ ap (λ (l : List ℕ). h.front ++ l) out.2
          ∙ sym (append_assoc h.front out.0 left);
    }

-- ---- the rest stays

-- a text is lines and what no newline ends, each as it is
pub record IsSplit (text : List ℕ) : Type 0 where
  pub rest : List ℕ
  pub front : List ℕ
  pub unbroken : IsUnbroken rest
  pub lines : NamesLines text rest front
  pub same : text ≡ front ++ rest

all_none : IsUnbroken []
all_none k d h = absurd (omega arith)

one_unbroken : (b : ℕ) → not (b == 10) ≡ true → IsUnbroken (b ∷ [])
one_unbroken b is zero d within = is
one_unbroken b is (suc k) d within = absurd (omega arith)

unbroken_more : (begun : List ℕ) (b : ℕ) → IsUnbroken begun → not (b == 10) ≡ true
    → IsUnbroken (begun ++ b ∷ [])
unbroken_more begun b u is =
    All-append (λ (c : ℕ). is_in_line c ≡ true) begun (b ∷ []) u (one_unbroken b is)

split_from : (begun text front whole : List ℕ) → IsUnbroken begun
    → NamesLines whole (begun ++ text) front → whole ≡ front ++ (begun ++ text) → IsSplit whole
split_from begun [] front whole u lines e = record {
  rest = begun;
  front = front;
  unbroken = u;
  lines = subst (λ (r : List ℕ). NamesLines whole r front) (append-nil begun) lines;
  same = e ∙ ap (λ (r : List ℕ). front ++ r) (append-nil begun);
}
split_from begun (b ∷ text) front whole u lines e = elim (cases_eq b 10) [
  | inl is ↦
      let ended : begun ++ b ∷ text ≡ begun ++ 10 ∷ text
      = ap (λ (c : ℕ). begun ++ c ∷ text) is in
      let split : SplitsLine (begun ++ b ∷ text) begun text
      = record { unbroken = u; whole = ended } in
      split_from [] text (front ++ (begun ++ 10 ∷ [])) whole all_none
      (one_more whole (begun ++ b ∷ text) begun text front begun lines split (stays begun))
      (e ∙ ap (λ (r : List ℕ). front ++ r) (ended ∙ sym (append_assoc begun (10 ∷ []) text))
      ∙ sym (append_assoc front (begun ++ 10 ∷ []) text))
  | inr ne ↦
      let longer : begun ++ b ∷ text ≡ (begun ++ b ∷ []) ++ text
      = sym (append_assoc begun (b ∷ []) text) in
      split_from (begun ++ b ∷ []) text front whole
      (unbroken_more begun b u (ap not (ne_eqb b 10 ne)))
      (subst (λ (r : List ℕ). NamesLines whole r front) longer lines)
      (e ∙ ap (λ (r : List ℕ). front ++ r) longer)
]

-- the lines of a rest come after those before it
joined : (text rest named : List ℕ) → NamesLines text rest named → IsSplit rest
    → IsRenamed text (named ++ rest)
joined text rest named u v =
    let before : Line → List ℕ = λ l. l.0 ++ 10 ∷ [] in
    let written : Line → List ℕ = λ l. l.1 ++ 10 ∷ [] in
    let w = v.lines in record {
      rest = v.rest;
      front = named ++ v.front;
      unbroken = v.unbroken;
      lines = record {
        lines = u.lines ++ w.lines;
        each = All-append IsLineOf u.lines w.lines u.each w.each;
        stored = u.stored ∙ ap (λ (r : List ℕ). stored_lines u.lines ++ r) w.stored
            ∙ sym (append_assoc (stored_lines u.lines) (stored_lines w.lines) v.rest)
            ∙ ap (λ (l : List ℕ). l ++ v.rest) (sym (flat_map-append before u.lines w.lines));
        written = ap (λ (l : List ℕ). l ++ v.front) u.written
            ∙ ap (λ (l : List ℕ). named_lines u.lines ++ l) w.written
            ∙ sym (flat_map-append written u.lines w.lines);
      };
      whole = ap (λ (r : List ℕ). named ++ r) v.same ∙ sym (append_assoc named v.front v.rest);
    }

-- a text of which the lines before a rest were named, and the rest stays
all_renamed : (text rest named : List ℕ) → NamesLines text rest named
    → IsRenamed text (named ++ rest)
all_renamed text rest named u =
    joined text rest named u (split_from [] rest [] rest all_none (none_yet rest) refl)

-- what is out where it ends early
pub out_early : {T E : Type 0} (r : Result T E) (old new : Option (List ℕ))
    (text rest kept : List ℕ) → IsHalfNamed old new text rest kept
    → OnErr r ((named : List ℕ) × IsRenamed text named × AppendsFront old new named)
out_early (Ok x) old new text rest kept h = tt
out_early (Err e) old new text rest kept h = (
  h.named ++ rest,
  all_renamed text rest h.named h.lines,
  record {
    front = h.front;
    rest = kept ++ rest;
    appends = h.appends;
    whole = ap (λ (l : List ℕ). l ++ rest) h.whole ∙ append_assoc h.front kept rest;
  },
)

-- what is out where writing what is kept fails
part_out : (old mid new : Option (List ℕ)) (text rest kept : List ℕ)
    → IsHalfNamed old mid text rest kept → AppendsFront mid new kept
    → (named : List ℕ) × IsRenamed text named × AppendsFront old new named
part_out old mid new text rest kept h p = (
  h.named ++ rest,
  all_renamed text rest h.named h.lines,
  record {
    front = h.front ++ p.front;
    rest = p.rest ++ rest;
    appends = Appends-trans old mid new h.front p.front h.appends p.appends;
    whole = ap (λ (l : List ℕ). l ++ rest) (h.whole
        ∙ ap (λ (l : List ℕ). h.front ++ l) p.whole
        ∙ sym (append_assoc h.front p.front p.rest))
        ∙ append_assoc (h.front ++ p.front) p.rest rest;
  },
)

pub written_early : {T E F : Type 0} (q : Result T F) (old mid new : Option (List ℕ))
    (text rest kept left : List ℕ) (r : Result (Unit {0}) E) (e : E) → r ≡ Err e
    → IsHalfNamed old mid text rest kept → IsPassedOn mid new kept left r
    → OnErr q ((named : List ℕ) × IsRenamed text named × AppendsFront old new named)
written_early {E = E} (Ok x) old mid new text rest kept left r e is h p = tt
written_early {E = E} (Err f) old mid new text rest kept left r e is h p =
    part_out old mid new text rest kept h
    (subst (λ (x : Result (Unit {0}) E). IsPassedOn mid new kept left x) is p)

-- the rest of it is written
pub all_out : {T E : Type 0} (r : Result T E) (old mid new : Option (List ℕ))
    (text rest kept made : List ℕ) → IsHalfNamed old mid text rest kept → made ≡ kept ++ rest
    → OnOk r (Appends mid new made)
    → OnOk r ((named : List ℕ) × IsRenamed text named × Appends old new named)
all_out (Err e) old mid new text rest kept made h is out = tt
all_out (Ok x) old mid new text rest kept made h is out = (
  h.named ++ rest,
  all_renamed text rest h.named h.lines,
  subst (λ (l : List ℕ). Appends old new l)
      (ap (λ (l : List ℕ). h.front ++ l) is ∙ sym (append_assoc h.front kept rest)
      ∙ ap (λ (l : List ℕ). l ++ rest) (sym h.whole))
      (Appends-trans old mid new h.front made h.appends out),
)

pub last_early : {T E : Type 0} (r : Result T E) (old mid new : Option (List ℕ))
    (text rest kept made : List ℕ) → IsHalfNamed old mid text rest kept → made ≡ kept ++ rest
    → OnErr r (AppendsFront mid new made)
    → OnErr r ((named : List ℕ) × IsRenamed text named × AppendsFront old new named)
last_early (Ok x) old mid new text rest kept made h is out = tt
last_early (Err e) old mid new text rest kept made h is out = (
  h.named ++ rest,
  all_renamed text rest h.named h.lines,
  record {
    front = h.front ++ out.front;
    rest = out.rest;
    appends = Appends-trans old mid new h.front out.front h.appends out.appends;
    whole = ap (λ (l : List ℕ). l ++ rest) h.whole ∙ append_assoc h.front kept rest
        ∙ ap (λ (l : List ℕ). h.front ++ l) (sym is ∙ out.whole)
        ∙ sym (append_assoc h.front out.front out.rest);
  },
)

-- ---- a text as it is, or with other names

-- any text can stay
pub stays_text : (demangle : Bool) (text : List ℕ) → IsNamedText demangle text text
stays_text false text = refl
stays_text true text = all_renamed text text [] (none_yet text)

pub plain_ok : {T E : Type 0} (r : Result T E) (demangle : Bool) (old new : Option (List ℕ))
    (text : List ℕ) → OnOk r (Appends old new text)
    → OnOk r ((named : List ℕ) × IsNamedText demangle text named × Appends old new named)
plain_ok (Ok x) demangle old new text a = (text, stays_text demangle text, a)
plain_ok (Err e) demangle old new text a = tt

pub plain_err : {T E : Type 0} (r : Result T E) (demangle : Bool) (old new : Option (List ℕ))
    (text : List ℕ) → OnErr r (AppendsFront old new text)
    → OnErr r ((named : List ℕ) × IsNamedText demangle text named × AppendsFront old new named)
plain_err (Ok x) demangle old new text a = tt
plain_err (Err e) demangle old new text a = (text, stays_text demangle text, a)

-- ---- two parts, and what comes after them

pub all_written : {T E : Type 0} (r : Result T E) (demangle : Bool) (a b c d : Option (List ℕ))
    (head functions last : List ℕ)
    → ((named : List ℕ) × IsNamedText demangle head named × Appends a b named)
    → ((named : List ℕ) × IsNamedText demangle functions named × Appends b c named)
    → OnOk r (Appends c d last)
    → OnOk r ((named : List ℕ) × IsNamedInParts demangle head functions named
    × Appends a d (named ++ last))
all_written (Err e) demangle a b c d head functions last x y z = tt
all_written (Ok k) demangle a b c d head functions last (x, xs, xa) (y, ys, ya) z = (
  x ++ y,
  record { first = x; second = y; first_is = xs; second_is = ys; whole = refl },
  Appends-trans a c d (x ++ y) last (Appends-trans a b c x y xa ya) z,
)

pub first_early : {T E : Type 0} (r : Result T E) (demangle : Bool) (a b : Option (List ℕ))
    (head functions last : List ℕ)
    → ((named : List ℕ) × IsNamedText demangle head named × AppendsFront a b named)
    → OnErr r ((named : List ℕ) × IsNamedInParts demangle head functions named
    × AppendsFront a b (named ++ last))
first_early (Ok k) demangle a b head functions last x = tt
first_early (Err e) demangle a b head functions last (x, xs, xa) = (
  x ++ functions,
  record {
    first = x;
    second = functions;
    first_is = xs;
    second_is = stays_text demangle functions;
    whole = refl;
  },
  record {
    front = xa.front;
    rest = xa.rest ++ (functions ++ last);
    appends = xa.appends;
    whole = append_assoc x functions last
        ∙ ap (λ (l : List ℕ). l ++ (functions ++ last)) xa.whole
        ∙ append_assoc xa.front xa.rest (functions ++ last);
  },
)

pub second_early : {T E : Type 0} (r : Result T E) (demangle : Bool) (a b c : Option (List ℕ))
    (head functions last : List ℕ)
    → ((named : List ℕ) × IsNamedText demangle head named × Appends a b named)
    → ((named : List ℕ) × IsNamedText demangle functions named × AppendsFront b c named)
    → OnErr r ((named : List ℕ) × IsNamedInParts demangle head functions named
    × AppendsFront a c (named ++ last))
second_early (Ok k) demangle a b c head functions last x y = tt
second_early (Err e) demangle a b c head functions last (x, xs, xa) (y, ys, ya) = (
  x ++ y,
  record { first = x; second = y; first_is = xs; second_is = ys; whole = refl },
  record {
    front = x ++ ya.front;
    rest = ya.rest ++ last;
    appends = Appends-trans a b c x ya.front xa ya.appends;
    whole = append_assoc x y last
        ∙ ap (λ (l : List ℕ). x ++ (l ++ last)) ya.whole
        ∙ ap (λ (l : List ℕ). x ++ l) (append_assoc ya.front ya.rest last)
        ∙ sym (append_assoc x ya.front (ya.rest ++ last));
  },
)

pub last_part_early : {T E : Type 0} (r : Result T E) (demangle : Bool)
    (a b c d : Option (List ℕ)) (head functions last : List ℕ)
    → ((named : List ℕ) × IsNamedText demangle head named × Appends a b named)
    → ((named : List ℕ) × IsNamedText demangle functions named × Appends b c named)
    → OnErr r (AppendsFront c d last)
    → OnErr r ((named : List ℕ) × IsNamedInParts demangle head functions named
    × AppendsFront a d (named ++ last))
last_part_early (Ok k) demangle a b c d head functions last x y z = tt
last_part_early (Err e) demangle a b c d head functions last (x, xs, xa) (y, ys, ya) z = (
  x ++ y,
  record { first = x; second = y; first_is = xs; second_is = ys; whole = refl },
  record {
    front = (x ++ y) ++ z.front;
    rest = z.rest;
    appends = Appends-trans a c d (x ++ y) z.front (Appends-trans a b c x y xa ya) z.appends;
    whole = ap (λ (l : List ℕ). (x ++ y) ++ l) z.whole
        ∙ sym (append_assoc (x ++ y) z.front z.rest);
  },
)

-- a text that is another one was written
pub said : (demangle : Bool) (a b : Option (List ℕ)) (text other : List ℕ) → text ≡ other
    → ((named : List ℕ) × IsNamedText demangle text named × Appends a b named)
    → (named : List ℕ) × IsNamedText demangle other named × Appends a b named
said demangle a b text other e x =
    subst (λ (t : List ℕ). (named : List ℕ) × IsNamedText demangle t named × Appends a b named)
    e x

pub said_early : (demangle : Bool) (a b : Option (List ℕ)) (text other : List ℕ) → text ≡ other
    → ((named : List ℕ) × IsNamedText demangle text named × AppendsFront a b named)
    → (named : List ℕ) × IsNamedText demangle other named × AppendsFront a b named
said_early demangle a b text other e x =
    subst (λ (t : List ℕ). (named : List ℕ) × IsNamedText demangle t named
    × AppendsFront a b named) e x
