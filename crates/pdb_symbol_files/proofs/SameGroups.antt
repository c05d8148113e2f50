-- The functions of pieces are those of their addresses, and so are the records.
use Rattle.std.proofs.Common.{◌≡◌, ℕ, ◌+◌, ◌<◌, ◌≤◌, List, [], ◌∷◌, ◌++◌, Bool, true, false, cond}
use Rattle.std.proofs.Common.{◌≢◌, subst}
use Rattle.std.proofs.Common.{eqb, refl, sym, ◌∙◌, ap, arith, zero, suc, map, inl, inr}
use Rattle.std.specs.Prelude.{◌&&◌}
use Rattle.std.specs.List.{flat_map}
use Rattle.std.proofs.lemmas.Bool.{and_from, eq-eqb, ne_eqb, cases_lt, cases_eq}
use Rattle.std.proofs.lemmas.Grind.{flat_map-append}
use Rattle.std.proofs.lemmas.List.{append_assoc, append-nil}
use Rattle.pdb_symbol_files.specs.Lookup.{Shown, shown, holds, told_at, lookup, HasTwoRoads}
use Rattle.pdb_symbol_files.specs.Lookup.{IsAscending}
use Rattle.pdb_symbol_files.specs.Told.{Answer, Told, Piece, end_of, answers_from, answers_of}
use Rattle.pdb_symbol_files.specs.Told.{answers_in, continues, same_function}
use Rattle.pdb_symbol_files.specs.Stretches.{Stretch, stretches, with_first, members}
use Rattle.pdb_symbol_files.specs.Records.{Numbers, FunctionRecord, function_record, one_function}
use Rattle.pdb_symbol_files.specs.Records.{files_in, origins_in, records_of, SymbolRecords}
use Rattle.pdb_symbol_files.specs.Records.{symbol_records}
use Rattle.pdb_symbol_files.specs.PieceRecords.{all_numbers, function_records, groups}
use Rattle.pdb_symbol_files.specs.PieceRecords.{last_of, no_numbers, numbers_after_function}
use Rattle.pdb_symbol_files.specs.PieceRecords.{AllSome, piece_records}
use Rattle.pdb_symbol_files.proofs.Finding.{IsChain, in_range, below_range, after_range}
use Rattle.pdb_symbol_files.proofs.Levels.{Extends, extends_itself, extends_on}
use Rattle.pdb_symbol_files.proofs.TwoRoads.{extends_all, chain_more, goes_on, last_more, IsFrom}
use Rattle.pdb_symbol_files.proofs.TwoRoads.{told_by, piece_roads}
use Rattle.pdb_symbol_files.proofs.SameRecords.{first_of, group_same, group_stretch, others}
use Rattle.pdb_symbol_files.proofs.SameRecords.{function_uses, after_append, after_uses}
use Rattle.pdb_symbol_files.proofs.SameRecords.{function_same}

-- ---- linked addresses before others

abbrev pub Linked : Answer → List Answer → Type 0
Linked x [] = Unit {0}
Linked x (y ∷ ys) = (one_function x y ≡ true) × Linked y ys

abbrev pub last_answer : Answer → List Answer → Answer
last_answer x [] = x
last_answer x (y ∷ ys) = last_answer y ys

abbrev pub run : Answer → List Answer → Stretch Answer
run x xs = record { first = x; more = xs }

abbrev pub block : Answer → List Answer → List (Stretch Answer) → List (Stretch Answer)
block x xs [] = run x xs ∷ []
block x xs (s ∷ rest) =
    cond (one_function (last_answer x xs) s.first) (run x (xs ++ members s) ∷ rest)
    (run x xs ∷ s ∷ rest)

block_none : (x : Answer) (rest : List (Stretch Answer))
    → with_first one_function x rest ≡ block x [] rest
block_none x [] = refl
block_none x (s ∷ rest) = refl

with_both : (x y : Answer) (ys : List Answer) (s : Stretch Answer) (rest : List (Stretch Answer))
    (c : Bool)
    → with_first one_function x (cond c (run y (ys ++ members s) ∷ rest) (run y ys ∷ s ∷ rest))
    ≡ cond (one_function x y)
    (cond c (run x (y ∷ (ys ++ members s)) ∷ rest) (run x (y ∷ ys) ∷ s ∷ rest))
    (run x [] ∷ cond c (run y (ys ++ members s) ∷ rest) (run y ys ∷ s ∷ rest))
with_both x y ys s rest true = refl
with_both x y ys s rest false = refl

block_on : (x y : Answer) (ys : List Answer) (rest : List (Stretch Answer))
    → one_function x y ≡ true
    → with_first one_function x (block y ys rest) ≡ block x (y ∷ ys) rest
block_on x y ys [] e =
    ap (λ (b : Bool). cond b (run x (y ∷ ys) ∷ []) (run x [] ∷ run y ys ∷ [])) e
block_on x y ys (s ∷ rest) e =
    let c = one_function (last_answer y ys) s.first in
    with_both x y ys s rest c
    ∙ ap (λ (b : Bool). cond b
    (cond c (run x (y ∷ (ys ++ members s)) ∷ rest) (run x (y ∷ ys) ∷ s ∷ rest))
    (run x [] ∷ cond c (run y (ys ++ members s) ∷ rest) (run y ys ∷ s ∷ rest))) e

block_before : (x : Answer) (xs ys : List Answer) → Linked x xs
    → stretches one_function (x ∷ (xs ++ ys)) ≡ block x xs (stretches one_function ys)
block_before x [] ys l = block_none x (stretches one_function ys)
block_before x (y ∷ xs) ys l =
    ap (with_first one_function x) (block_before y xs ys l.1)
    ∙ block_on x y xs (stretches one_function ys) l.0

cut_both : (x y : Answer) (xs : List Answer) (s : Stretch Answer) (rest : List (Stretch Answer))
    (c : Bool)
    → block x xs (cond c (run y (members s) ∷ rest) (run y [] ∷ s ∷ rest))
    ≡ cond (one_function (last_answer x xs) y)
    (cond c (run x (xs ++ y ∷ members s) ∷ rest) (run x (xs ++ y ∷ []) ∷ s ∷ rest))
    (run x xs ∷ cond c (run y (members s) ∷ rest) (run y [] ∷ s ∷ rest))
cut_both x y xs s rest true = refl
cut_both x y xs s rest false = refl

cut : (x y : Answer) (xs : List Answer) (rest : List (Stretch Answer))
    → one_function (last_answer x xs) y ≡ false
    → block x xs (with_first one_function y rest) ≡ run x xs ∷ with_first one_function y rest
cut x y xs [] e =
    ap (λ (b : Bool). cond b (run x (xs ++ y ∷ []) ∷ []) (run x xs ∷ run y [] ∷ [])) e
cut x y xs (s ∷ rest) e =
    let c = one_function y s.first in
    cut_both x y xs s rest c
    ∙ ap (λ (b : Bool). cond b
    (cond c (run x (xs ++ y ∷ members s) ∷ rest) (run x (xs ++ y ∷ []) ∷ s ∷ rest))
    (run x xs ∷ cond c (run y (members s) ∷ rest) (run y [] ∷ s ∷ rest))) e

-- ---- linked addresses with those of another piece

linked_more : (x : Answer) (xs ys : List Answer) (y : Answer) → Linked x xs
    → one_function (last_answer x xs) y ≡ true → Linked y ys → Linked x (xs ++ y ∷ ys)
linked_more x [] ys y l e m = (e, m)
linked_more x (z ∷ xs) ys y l e m = (l.0, linked_more z xs ys y l.1 e m)

last_more_of : (x y : Answer) (xs ys : List Answer)
    → last_answer x (xs ++ y ∷ ys) ≡ last_answer y ys
last_more_of x y [] ys = refl
last_more_of x y (z ∷ xs) ys = last_more_of z y xs ys

linked_block : (t : Told) (n a : ℕ)
    → Linked (record { address = a; told = t }) (answers_from (suc a) n t)
linked_block t zero a = tt
linked_block t (suc n) a = (
  and_from (eqb (suc a) (suc a)) (same_function t t) (eq-eqb (suc a) (suc a) refl) (function_same t),
  linked_block t n (suc a),
)

answer_made : ℕ → Told → Answer
answer_made address told = record { address = address; told = told }

plus_none : (a : ℕ) → a ≡ a + 0
plus_none a = omega arith

step_end : (a n : ℕ) → suc a + n ≡ a + suc n
step_end a n = omega arith

last_block : (t : Told) (n a : ℕ)
    → last_answer (record { address = a; told = t }) (answers_from (suc a) n t)
    ≡ record { address = a + n; told = t }
unfolding answer_made
last_block t zero a = ap (λ (e : ℕ). answer_made e t) (plus_none a)
last_block t (suc n) a =
    last_block t n (suc a) ∙ ap (λ (e : ℕ). answer_made e t) (step_end a n)

-- ---- a function's pieces, and those after them

-- the first of a piece's addresses, and the others
abbrev pub others_of : Piece → List Answer
others_of p = others (answers_of p)

of_block : (t : Told) (a n : ℕ) → 0 < n
    → answers_from a n t ≡ record { address = a; told = t } ∷ others (answers_from a n t)
of_block t a zero some = absurd (omega arith)
of_block t a (suc n) some = refl

of_piece : (p : Piece) → 0 < p.size → answers_of p ≡ first_of p ∷ others_of p
of_piece p some = of_block p.told p.address p.size some

others_block : (t : Told) (a n : ℕ) (answers : List Answer) → 0 < n
    → others (answers_from a n t ++ answers) ≡ others (answers_from a n t) ++ answers
others_block t a zero answers some = absurd (omega arith)
others_block t a (suc n) answers some = refl

linked_piece : (t : Told) (a n : ℕ) → 0 < n
    → Linked (record { address = a; told = t }) (others (answers_from a n t))
linked_piece t a zero some = absurd (omega arith)
linked_piece t a (suc n) some = linked_block t n a

last_end : (a n : ℕ) → suc (a + n) ≡ a + suc n
last_end a n = omega arith

-- addresses end with a piece
pub record Ends (x : Answer) (xs : List Answer) (p : Piece) : Type 0 where
  pub told : (last_answer x xs).told ≡ p.told
  pub next : suc (last_answer x xs).address ≡ end_of p

ends_block : (t : Told) (a n : ℕ) → 0 < n
    → Ends (record { address = a; told = t }) (others (answers_from a n t))
    (record { address = a; size = n; told = t })
ends_block t a zero some = absurd (omega arith)
ends_block t a (suc n) some = record {
  told = ap (λ (x : Answer). x.told) (last_block t n a);
  next = ap (λ (x : Answer). suc x.address) (last_block t n a) ∙ last_end a n;
}

-- the addresses of a function's pieces
pub record IsGroup (q : Piece) (pieces : List Piece) (xs : List Answer) : Type 0 where
  pub are : xs ≡ others (answers_in (q ∷ pieces))
  pub chain : IsChain q.address (q ∷ pieces)
  pub linked : Linked (first_of q) xs
  pub ends : Ends (first_of q) xs (last_of q pieces)

group_alone : (q : Piece) → 0 < q.size → IsGroup q [] (others_of q)
group_alone q some = record {
  are = ap (λ (xs : List Answer). others xs) (sym (append-nil (answers_of q)));
  chain = (refl, some, tt);
  linked = linked_piece q.told q.address q.size some;
  ends = ends_block q.told q.address q.size some;
}

-- the last address and the next one are of one function where their pieces are
joined : (x : Answer) (xs : List Answer) (l p : Piece) → Ends x xs l
    → one_function (last_answer x xs) (first_of p) ≡ continues l p
joined x xs l p e =
    ap (λ (n : ℕ). eqb n p.address && same_function (last_answer x xs).told p.told) e.next
    ∙ ap (λ (t : Told). eqb (end_of l) p.address && same_function t p.told) e.told

in_one : (q p : Piece) (pieces : List Piece) → 0 < q.size
    → others (answers_in (q ∷ pieces)) ++ answers_of p
    ≡ others (answers_in (q ∷ (pieces ++ p ∷ [])))
in_one q p pieces some =
    let a = answers_in pieces in
    ap (λ (xs : List Answer). xs ++ answers_of p)
    (others_block q.told q.address q.size a some)
    ∙ append_assoc (others_of q) a (answers_of p)
    ∙ sym (ap (λ (xs : List Answer). others_of q ++ (a ++ xs)) (append-nil (answers_of p)))
    ∙ sym (ap (λ (xs : List Answer). others_of q ++ xs) (flat_map-append answers_of pieces (p ∷ [])))
    ∙ sym (others_block q.told q.address q.size (answers_in (pieces ++ p ∷ [])) some)

group_more : (q p : Piece) (pieces : List Piece) (xs : List Answer) → IsGroup q pieces xs
    → 0 < p.size → continues (last_of q pieces) p ≡ true
    → IsGroup q (pieces ++ p ∷ []) (xs ++ answers_of p)
group_more q p pieces xs g some e =
    let x = first_of q in
    let y = first_of p in
    let ys = others_of p in
    let is : answers_of p ≡ y ∷ ys = of_piece p some in
    let link : one_function (last_answer x xs) y ≡ true
    = joined x xs (last_of q pieces) p g.ends ∙ e in
    let P : List Answer → Type 0 = λ (zs : List Answer). Linked x (xs ++ zs) in
    let mine : Ends y ys p = ends_block p.told p.address p.size some in
    let last : last_answer x (xs ++ answers_of p) ≡ last_answer y ys
    = ap (λ (zs : List Answer). last_answer x (xs ++ zs)) is ∙ last_more_of x y xs ys in
    record {
      are = ap (λ (zs : List Answer). zs ++ answers_of p) g.are ∙ in_one q p pieces (g.chain).1;
      chain = chain_more q.address q p pieces g.chain (sym (goes_on (last_of q pieces) p e).0) some;
      linked = subst P (sym is) (linked_more x xs ys y g.linked link
          (linked_piece p.told p.address p.size some));
      ends = record {
        told = ap (λ (z : Answer). z.told) last ∙ mine.told
            ∙ sym (ap (λ (z : Piece). z.told) (last_more q p pieces));
        next = ap (λ (z : Answer). suc z.address) last ∙ mine.next
            ∙ sym (ap (λ (z : Piece). end_of z) (last_more q p pieces));
      };
    }

-- the stretches of groups
abbrev pub group_stretches : List (List Piece) → List (Stretch Answer)
group_stretches [] = []
group_stretches ([] ∷ rest) = group_stretches rest
group_stretches ((q ∷ pieces) ∷ rest) = group_stretch q pieces ∷ group_stretches rest

abbrev pub AllChains : List (List Piece) → Type 0
AllChains [] = Unit {0}
AllChains ([] ∷ rest) = AllChains rest
AllChains ((q ∷ pieces) ∷ rest) = IsChain q.address (q ∷ pieces) × AllChains rest

-- the functions of a group and of the pieces after it
pub record AreGroups (answers : List Answer) (found : List (List Piece)) : Type 0 where
  pub same : stretches one_function answers ≡ group_stretches found
  pub chains : AllChains found

groups_same : (pieces : List Piece) (q : Piece) (ps : List Piece) (xs : List Answer)
    → IsGroup q ps xs → AllSome pieces
    → AreGroups (first_of q ∷ (xs ++ answers_in pieces)) (groups (q ∷ ps) pieces)
groups_same [] q ps xs g some = record {
  same = block_before (first_of q) xs [] g.linked
      ∙ ap (λ (zs : List Answer). run (first_of q) zs ∷ []) g.are;
  chains = (g.chain, tt);
}
groups_same (p ∷ pieces) q ps xs g some =
    let x = first_of q in
    let y = first_of p in
    let answers = x ∷ (xs ++ (answers_of p ++ answers_in pieces)) in
    let by : (b : Bool) → continues (last_of q ps) p ≡ b
    → AreGroups answers
    (cond b (groups (q ∷ (ps ++ p ∷ [])) pieces) ((q ∷ ps) ∷ groups (p ∷ []) pieces))
    = λ (b : Bool). elim b as (λ (z : Bool). continues (last_of q ps) p ≡ z
    → AreGroups answers
    (cond z (groups (q ∷ (ps ++ p ∷ [])) pieces) ((q ∷ ps) ∷ groups (p ∷ []) pieces))) [
      | true ↦ λ (e : continues (last_of q ps) p ≡ true).
          let on = groups_same pieces q (ps ++ p ∷ []) (xs ++ answers_of p)
          (group_more q p ps xs g some.0 e) some.1 in
          record {
            same = sym (ap (λ (zs : List Answer). stretches one_function (x ∷ zs))
                (append_assoc xs (answers_of p) (answers_in pieces))) ∙ on.same;
            chains = on.chains;
          }
      | false ↦ λ (e : continues (last_of q ps) p ≡ false).
          let on = groups_same pieces p [] (others_of p) (group_alone p some.0) some.1 in
          let apart : one_function (last_answer x xs) y ≡ false
          = joined x xs (last_of q ps) p g.ends ∙ e in
          let next : answers_of p ++ answers_in pieces ≡ y ∷ (others_of p ++ answers_in pieces)
          = ap (λ (zs : List Answer). zs ++ answers_in pieces) (of_piece p some.0) in
          record {
            same = block_before x xs (answers_of p ++ answers_in pieces) g.linked
                ∙ ap (λ (zs : List Answer). block x xs (stretches one_function zs)) next
                ∙ cut x y xs (stretches one_function (others_of p ++ answers_in pieces)) apart
                ∙ ap (λ (zs : List (Stretch Answer)). run x xs ∷ zs) on.same
                ∙ ap (λ (zs : List Answer).
                run x zs ∷ group_stretches (groups (p ∷ []) pieces)) g.are;
            chains = (g.chain, on.chains);
          }
    ] in
    by (continues (last_of q ps) p) refl

-- ---- the records of groups

records_same : (all n : Numbers) (found : List (List Piece)) → AllChains found
    → Extends all (all_numbers n found)
    → function_records n found ≡ map (function_record all) (group_stretches found)
records_same all n [] c x = refl
records_same all n ([] ∷ rest) c x = records_same all (numbers_after_function n []) rest c x
records_same all n ((q ∷ pieces) ∷ rest) c x =
    let next = numbers_after_function n (q ∷ pieces) in
    ap (λ (r : FunctionRecord). r ∷ function_records next rest)
    (group_same all n q pieces c.0
    (extends_on all (all_numbers next rest) next x (extends_all next rest)))
    ∙ ap (λ (rs : List FunctionRecord). function_record all (group_stretch q pieces) ∷ rs)
    (records_same all next rest c.1 x)

uses_same : (n : Numbers) (found : List (List Piece)) → AllChains found
    → all_numbers n found
    ≡ after_uses n (flat_map files_in (group_stretches found))
    (flat_map origins_in (group_stretches found))
uses_same n [] c = refl
uses_same n ([] ∷ rest) c = uses_same n rest c
uses_same n ((q ∷ pieces) ∷ rest) c =
    let s = group_stretch q pieces in
    let more = group_stretches rest in
    uses_same (numbers_after_function n (q ∷ pieces)) rest c.1
    ∙ ap (λ (m : Numbers). after_uses m (flat_map files_in more) (flat_map origins_in more))
    (function_uses n q pieces c.0)
    ∙ after_append n (files_in s) (flat_map files_in more) (origins_in s)
    (flat_map origins_in more)

records_made : Numbers → List FunctionRecord → SymbolRecords
records_made numbers functions = record { numbers = numbers; functions = functions }

groups_of : (pieces : List Piece) → AllSome pieces
    → AreGroups (answers_in pieces) (groups [] pieces)
groups_of [] some = record { same = refl; chains = tt }
groups_of (p ∷ pieces) some =
    let on = groups_same pieces p [] (others_of p) (group_alone p some.0) some.1 in
    record {
      same = ap (λ (zs : List Answer). stretches one_function (zs ++ answers_in pieces))
          (of_piece p some.0) ∙ on.same;
      chains = on.chains;
    }

-- the records of pieces that have addresses are those of the addresses
pub same_records : (pieces : List Piece) → AllSome pieces
    → piece_records pieces ≡ symbol_records (answers_in pieces)
unfolding records_made piece_records symbol_records
same_records pieces some =
    let found = groups [] pieces in
    let all = all_numbers no_numbers found in
    let are = groups_of pieces some in
    ap (records_made all) (records_same all no_numbers found are.chains (extends_itself all))
    ∙ ap (λ (n : Numbers). records_made n (map (function_record n) (group_stretches found)))
    (uses_same no_numbers found are.chains)
    ∙ sym (ap (λ (fs : List (Stretch Answer)). records_of fs) are.same)

-- ---- the law, by pieces of one address

abbrev pub single : Answer → Piece
single a = record { address = a.address; size = suc zero; told = a.told }

singles : (answers : List Answer) → answers_in (map single answers) ≡ answers
singles [] = refl
singles (a ∷ answers) = ap (λ (xs : List Answer). a ∷ xs) (singles answers)

some_single : (answers : List Answer) → AllSome (map single answers)
some_single [] = tt
some_single (a ∷ answers) = (omega arith, some_single answers)

one_end : (a : ℕ) → a + suc zero ≡ suc a
one_end a = omega arith

le_at : (e s a : ℕ) → e ≡ s → s ≤ a → e ≤ a
le_at e s a h le = omega arith

from_single : (answers : List Answer) (s e : ℕ) → e ≡ s → IsAscending s answers
    → IsFrom e (map single answers)
from_single [] s e h asc = tt
from_single (a ∷ answers) s e h asc = (
  le_at e s a.address h asc.0,
  omega arith,
  from_single answers (suc a.address) (a.address + suc zero) (one_end a.address) asc.1,
)

past_one : (s a : ℕ) → s ≢ a → s ≤ a → s + suc zero ≤ a
past_one s a ne le = omega arith

holds_one : (s a : ℕ) → holds s (suc zero) a ≡ eqb s a
holds_one s a = elim (cases_eq s a) [
  | inl e ↦ in_range s (s + suc zero) a (omega arith) (omega arith) ∙ sym (eq-eqb s a e)
  | inr ne ↦ elim (cases_lt a s) [
    | inl low ↦ below_range s (s + suc zero) a low ∙ sym (ne_eqb s a ne)
    | inr low ↦ after_range s (s + suc zero) a (past_one s a ne low) ∙ sym (ne_eqb s a ne)
  ]
]

told_single : (answers : List Answer) (a : ℕ)
    → told_by (map single answers) a ≡ told_at answers a
told_single [] a = refl
told_single (x ∷ answers) a =
    ap (λ (b : Bool). cond b (shown x.told) (told_by (map single answers) a))
    (holds_one x.address a)
    ∙ ap (λ (xs : List Shown). cond (eqb x.address a) (shown x.told) xs) (told_single answers a)

pub two_roads : (answers : List Answer) → IsAscending 0 answers → HasTwoRoads answers
two_roads answers asc a =
    let pieces = map single answers in
    sym (ap (λ (xs : List Answer). lookup (symbol_records xs) a) (singles answers))
    ∙ sym (ap (λ (r : SymbolRecords). lookup r a) (same_records pieces (some_single answers)))
    ∙ piece_roads pieces (from_single answers 0 0 refl asc) a
    ∙ told_single answers a
