-- Paths of calls of neighbouring pieces, by how many calls these have in common.
use Rattle.std.proofs.Common.{◌≡◌, ℕ, ◌+◌, ◌<◌, ◌≤◌, List, [], ◌∷◌, Bool, true, false, length, drop}
use Rattle.std.proofs.Common.{get_or, refl, sym, ◌∙◌, ap, add-one, suc, drop-cons, cond, ltb, zero}
use Rattle.std.proofs.Common.{arith}
use Rattle.std.specs.Prelude.{◌&&◌, IfSome, Option, None, Some, option_map, take, slice_get}
use Rattle.std.specs.Option.{option_or}
use Rattle.std.proofs.lemmas.Bool.Decides.{nat_tests}
use Rattle.std.proofs.lemmas.List.{drop_all, drop_more}
use Rattle.pdb_symbol_files.specs.CommonCalls.{common_calls, common_with_last}
use Rattle.pdb_symbol_files.specs.PieceRecords.{begun, is_key, longer, path_in}
use Rattle.pdb_symbol_files.specs.Spans.{Path, Span, path_of, path_to, same_calls}
use Rattle.pdb_symbol_files.specs.Told.{Call, Piece, end_of, same_call, same_path}
use Rattle.pdb_symbol_files.proofs.Finding.{calls_equal}

-- the calls from an index on are compared by the first one and those after it
common_here : (a b : List Call) (i : ℕ) (x y : Call) → i < length a → i < length b
    → x ≡ get_or a i x → y ≡ get_or b i y
    → common_calls (drop i a) (drop i b)
    ≡ cond (same_call x y) (suc (common_calls (drop (i + 1) a) (drop (i + 1) b))) 0
common_here a b i x y la lb ea eb =
    let da : drop i a ≡ x ∷ drop (i + 1) a
    = rw (add-one, drop-cons a i x) (ap (λ (z : Call). z ∷ drop (suc i) a) (sym ea)) in
    let db : drop i b ≡ y ∷ drop (i + 1) b
    = rw (add-one, drop-cons b i y) (ap (λ (z : Call). z ∷ drop (suc i) b) (sym eb)) in
    rw (da, db) refl

add_suc : (i n : ℕ) → (i + 1) + n ≡ i + suc n
add_suc i n = omega arith

pub one_more : (a b : List Call) (i all : ℕ) (x y : Call) → i < length a → i < length b
    → x ≡ get_or a i x → y ≡ get_or b i y → same_call x y ≡ true
    → i + common_calls (drop i a) (drop i b) ≡ all
    → (i + 1) + common_calls (drop (i + 1) a) (drop (i + 1) b) ≡ all
one_more a b i all x y la lb ea eb e so_far =
    let more = common_calls (drop (i + 1) a) (drop (i + 1) b) in
    add_suc i more
    ∙ sym (ap (λ (n : ℕ). i + n) (common_here a b i x y la lb ea eb
    ∙ ap (λ (c : Bool). cond c (suc more) 0) e))
    ∙ so_far

plus_none : (i : ℕ) → i ≡ i + 0
plus_none i = omega arith

pub differs : (a b : List Call) (i all : ℕ) (x y : Call) → i < length a → i < length b
    → x ≡ get_or a i x → y ≡ get_or b i y → same_call x y ≡ false
    → i + common_calls (drop i a) (drop i b) ≡ all → i ≡ all
differs a b i all x y la lb ea eb e so_far =
    let more = common_calls (drop (i + 1) a) (drop (i + 1) b) in
    plus_none i
    ∙ sym (ap (λ (n : ℕ). i + n) (common_here a b i x y la lb ea eb
    ∙ ap (λ (c : Bool). cond c (suc more) 0) e))
    ∙ so_far

common_none : (xs : List Call) → common_calls xs [] ≡ 0
common_none [] = refl
common_none (a ∷ xs) = refl

pub first_ends : (a b : List Call) (i all : ℕ) → length a ≤ i
    → i + common_calls (drop i a) (drop i b) ≡ all → i ≡ all
first_ends a b i all le so_far =
    plus_none i
    ∙ sym (ap (λ (xs : List Call). i + common_calls xs (drop i b)) (drop_all i a le))
    ∙ so_far

pub second_ends : (a b : List Call) (i all : ℕ) → length b ≤ i
    → i + common_calls (drop i a) (drop i b) ≡ all → i ≡ all
second_ends a b i all le so_far =
    plus_none i
    ∙ sym (ap (λ (n : ℕ). i + n) (common_none (drop i a)))
    ∙ sym (ap (λ (xs : List Call). i + common_calls (drop i a) xs) (drop_all i b le))
    ∙ so_far

-- ---- the path to a level, by that

same_first : (c : Bool) (level n : ℕ) → ltb (suc level) (cond c (suc n) 0) ≡ (c && ltb level n)
same_first true level n = grind (arith, nat_tests)
same_first false level n = grind (arith, nat_tests)

-- a call and a path, where the first calls are compared last
turned : (c : Bool) (d e : Bool) → (d && (c && e)) ≡ (c && (d && e))
turned true d e = refl
turned false true e = refl
turned false false e = refl

above_none : (c : Bool) (n : ℕ) → ltb 0 (cond c (suc n) 0) ≡ (c && true)
above_none true n = grind (arith, nat_tests)
above_none false n = refl

-- the calls of two paths are the same
abbrev both : Option Call → List Call → Option Call → List Call → Bool
both None xs d ys = false
both (Some c) xs None ys = false
both (Some c) xs (Some d) ys = same_call c d && same_path xs ys

and_none : (c : Bool) → (c && false) ≡ false
and_none true = refl
and_none false = refl

both_more : (a b : Call) (c : Option Call) (xs : List Call) (d : Option Call) (ys : List Call)
    → both c (a ∷ xs) d (b ∷ ys) ≡ (same_call a b && both c xs d ys)
both_more a b None xs d ys = sym (and_none (same_call a b))
both_more a b (Some c) xs None ys = sym (and_none (same_call a b))
both_more a b (Some c) xs (Some d) ys =
    turned (same_call a b) (same_call c d) (same_path xs ys)

both_none : (c : Option Call) (xs ys : List Call) → both c xs None ys ≡ false
both_none None xs ys = refl
both_none (Some c) xs ys = refl

none_below : (level : ℕ) → false ≡ ltb level 0
none_below level = grind (arith, nat_tests)

key_same : (level : ℕ) (xs ys : List Call)
    → both (slice_get xs level) (take level xs) (slice_get ys level) (take level ys)
    ≡ ltb level (common_calls xs ys)
key_same level [] ys = none_below level
key_same level (a ∷ xs) [] =
    both_none (slice_get (a ∷ xs) level) (take level (a ∷ xs)) (take level [])
    ∙ none_below level
key_same zero (a ∷ xs) (b ∷ ys) = sym (above_none (same_call a b) (common_calls xs ys))
key_same (suc level) (a ∷ xs) (b ∷ ys) =
    both_more a b (slice_get xs level) (take level xs) (slice_get ys level) (take level ys)
    ∙ ap (λ (c : Bool). same_call a b && c) (key_same level xs ys)
    ∙ sym (same_first (same_call a b) level (common_calls xs ys))

key_by : (c d : Option Call) (xs ys : List Call) (p : Path) → path_to xs c ≡ Some p
    → is_key same_calls p (path_to ys d) ≡ both c xs d ys
key_by None d xs ys p e = let bad : ⊥ = cc in absurd bad
key_by (Some c) None xs ys p e = refl
key_by (Some c) (Some d) xs ys p e =
    let same : record { outer = xs; call = c } ≡ p = cc in
    ap (λ (q : Path). same_calls q (record { outer = ys; call = d })) (sym same)

-- a span goes on where the level is below what the pieces have in common
pub goes_on : (level : ℕ) (xs ys : List Call) (p : Path) → path_of level xs ≡ Some p
    → is_key same_calls p (path_of level ys) ≡ ltb level (common_calls xs ys)
goes_on level xs ys p e =
    key_by (slice_get xs level) (slice_get ys level) (take level xs) (take level ys) p e
    ∙ key_same level xs ys

-- a span that runs has the path to a level of the calls of the last piece, and the numbers to come
-- are those of the pieces to come
pub record IsAfter (level : ℕ) (running : Option (Span Path)) (pieces : List Piece)
    (commons : List ℕ) : Type 0 where
  pub last : List Call
  pub key : option_map (λ (s : Span Path). s.key) running ≡ path_of level last
  pub common : commons ≡ common_with_last last pieces

first_of : (n m : ℕ) (ns ms : List ℕ) → (n ∷ ns) ≡ (m ∷ ms) → n ≡ m
first_of n m ns ms e = cc

rest_of : (n m : ℕ) (ns ms : List ℕ) → (n ∷ ns) ≡ (m ∷ ms) → ns ≡ ms
rest_of n m ns ms e = cc

-- the number of a piece, and those to come
numbers_here : (pieces : List Piece) (commons : List ℕ) (i : ℕ) (p : Piece)
    (last : List Call) → i < length pieces → p ≡ get_or pieces i p → i < length commons
    → drop i commons ≡ common_with_last last (drop i pieces)
    → (get_or commons i 0 ∷ drop (i + 1) commons) ≡ (common_calls last (p.told).calls
    ∷ common_with_last (p.told).calls (drop (i + 1) pieces))
numbers_here pieces commons i p last lp ep lc e =
    let of_pieces : drop i pieces ≡ p ∷ drop (i + 1) pieces
    = drop_more pieces i p lp ∙ ap (λ (x : Piece). x ∷ drop (i + 1) pieces) (sym ep) in
    sym (drop_more commons i 0 lc) ∙ e ∙ ap (λ (xs : List Piece). common_with_last last xs) of_pieces

some_path : (s : Span Path) (o : Option Path) → option_map (λ (t : Span Path). t.key) (Some s) ≡ o
    → o ≡ Some s.key
some_path s o e = sym e

-- a span that runs goes on with a piece where the level is below what that has in common with the
-- one before it
pub runs_on : (level : ℕ) (pieces : List Piece) (commons : List ℕ) (i : ℕ) (p : Piece)
    (running : Option (Span Path)) → i < length pieces → p ≡ get_or pieces i p
    → i < length commons
    → IsAfter level running (drop i pieces) (drop i commons)
    → IfSome running (λ (s : Span Path). ltb level (get_or commons i 0) ≡ is_key same_calls s.key (path_in level p))
runs_on level pieces commons i p None lp ep lc after = tt
runs_on level pieces commons i p (Some s) lp ep lc after =
    let is : get_or commons i 0 ≡ common_calls after.last (p.told).calls
    = first_of (get_or commons i 0) (common_calls after.last (p.told).calls) (drop (i + 1) commons)
    (common_with_last (p.told).calls (drop (i + 1) pieces))
    (numbers_here pieces commons i p after.last lp ep lc after.common) in
    ap (λ (n : ℕ). ltb level n) is
    ∙ sym (goes_on level after.last (p.told).calls s.key
    (some_path s (path_of level after.last) after.key))

key_begun : (p : Piece) (known : Option Path)
    → option_map (λ (s : Span Path). s.key) (begun p known) ≡ known
key_begun p None = refl
key_begun p (Some path) = refl

-- the span that runs after a piece has its path
key_next : (running : Option (Span Path)) (p : Piece) (known : Option Path)
    → option_map (λ (s : Span Path). s.key)
    (option_or (longer same_calls running p known) (begun p known)) ≡ known
key_next None p known = key_begun p known
key_next (Some s) p None = refl
key_next (Some s) p (Some path) =
    let long : Option (Span Path)
    = Some (record { start = s.start; end = end_of p; key = s.key }) in
    let by : (b : Bool) → same_calls s.key path ≡ b
    → option_map (λ (t : Span Path). t.key)
    (option_or (cond b long None) (begun p (Some path))) ≡ Some path
    = λ (b : Bool). elim b as (λ (x : Bool). same_calls s.key path ≡ x
    → option_map (λ (t : Span Path). t.key)
    (option_or (cond x long None) (begun p (Some path))) ≡ Some path) [
      | true ↦ λ (e : same_calls s.key path ≡ true).
          ap (λ (k : Path). Some k) (calls_equal s.key path e)
      | false ↦ λ (e : same_calls s.key path ≡ false). refl
    ] in
    by (same_calls s.key path) refl

pub after_more : (level : ℕ) (pieces : List Piece) (commons : List ℕ) (i : ℕ) (p : Piece)
    (running next : Option (Span Path)) → i < length pieces → p ≡ get_or pieces i p
    → i < length commons
    → next ≡ option_or (longer same_calls running p (path_in level p)) (begun p (path_in level p))
    → IsAfter level running (drop i pieces) (drop i commons)
    → IsAfter level next (drop (i + 1) pieces) (drop (i + 1) commons)
after_more level pieces commons i p running next lp ep lc n after = record {
  last = (p.told).calls;
  key = ap (option_map (λ (s : Span Path). s.key)) n ∙ key_next running p (path_in level p);
  common = rest_of (get_or commons i 0) (common_calls after.last (p.told).calls) (drop (i + 1) commons)
      (common_with_last (p.told).calls (drop (i + 1) pieces))
      (numbers_here pieces commons i p after.last lp ep lc after.common);
}

none_path : (level : ℕ) → None ≡ path_of level []
none_path level = refl

-- before the first piece nothing runs
pub after_none : (level : ℕ) (pieces : List Piece) (commons : List ℕ)
    → commons ≡ common_with_last [] pieces → IsAfter level None pieces commons
after_none level pieces commons e = record { last = []; key = none_path level; common = e }

pub numbers_of_all : (last : List Call) (pieces : List Piece)
    → length (common_with_last last pieces) ≡ length pieces
numbers_of_all last [] = refl
numbers_of_all last (p ∷ pieces) = ap suc (numbers_of_all (p.told).calls pieces)
