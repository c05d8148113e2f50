-- Bytes that reads took from a reader.
use Rattle.std.proofs.Common.{◌≡◌, ℕ, ◌+◌, ◌-◌, ◌*◌, ◌<◌, ◌≤◌, List, [], ◌++◌, max, length, Some, None, refl, sym, ap, ◌∙◌, inl, inr, take, subst, arith}
use Rattle.std.specs.Prelude.{Option, Result, Ok, Err, IfSome, OnOk, nat_eq, true, false}
use Rattle.std.specs.List.{starts_with}
use Rattle.std.specs.Io.{StartsWith, appended_bytes}
use lib.Pointwise.{bytes_decides}
use Rattle.std.proofs.lemmas.Bool.{cases_lt}
use Rattle.std.proofs.lemmas.List.{length-take, take-take, append-nil, append_assoc}
use Rattle.std.specs.Io.KnownBytes.{Consumes, IsAtEnd, Keeps}
use Rattle.std.proofs.KnownBytes.{starts_with_rest}
use Rattle.pdb_container.specs.Container.{magic, pages_end, word_at}
use Rattle.pdb_container.proofs.Tails.{word_before}
use Rattle.pdb_loading.specs.FileRead.{IsRead}
use Rattle.pdb_loading.specs.FileRead.IsRead.{all, front, pages}

-- nothing happened yet
pub still_none : (known : Option (List ℕ)) → Keeps known known
still_none None = tt
still_none (Some xs) = refl

-- and nothing again
pub still : (a b c : Option (List ℕ)) → Keeps a b → Keeps b c → Keeps a c
still None b c h k = tt
still (Some xs) None c h k = absurd h
still (Some xs) (Some ys) None h k = absurd k
still (Some xs) (Some ys) (Some zs) h k = k ∙ h

-- what a read took, where nothing happened before
pub after_still : (a b c : Option (List ℕ)) (bs : List ℕ) → Keeps a b → Consumes b c bs → Consumes a c bs
after_still None b c bs h k = tt
after_still (Some xs) None c bs h k = absurd h
after_still (Some xs) (Some ys) None bs h k = absurd k
after_still (Some xs) (Some ys) (Some zs) bs h k = sym h ∙ k

-- no byte was taken yet
pub none_yet : (known : Option (List ℕ)) → Consumes known known []
none_yet None = tt
none_yet (Some xs) = refl

-- and then some more
pub one_more : (a b c : Option (List ℕ)) (bs cs : List ℕ) → Consumes a b bs → Consumes b c cs → Consumes a c (bs ++ cs)
one_more None b c bs cs h k = tt
one_more (Some xs) None c bs cs h k = absurd h
one_more (Some xs) (Some ys) None bs cs h k = absurd k
one_more (Some xs) (Some ys) (Some zs) bs cs h k = h ∙ ap (λ ws. bs ++ ws) k ∙ sym (append_assoc bs cs zs)

-- where fewer bytes than asked for were there, they are all
pub short_read : (known after : Option (List ℕ)) (bytes : List ℕ) → Consumes known after bytes → IsAtEnd after → IfSome known (λ file. IsRead file bytes)
short_read None after bytes h end = tt
short_read (Some file) None bytes h end = absurd h
short_read (Some file) (Some rest) bytes h end = all (sym (h ∙ ap (λ ws. bytes ++ ws) end ∙ append-nil bytes))

-- a prefix that is no container's
pub front_read : (known after : Option (List ℕ)) (bytes : List ℕ) → Consumes known after bytes → (length bytes < 32 → IsAtEnd after) → starts_with nat_eq bytes magic ≡ false → IfSome known (λ file. IsRead file bytes)
front_read None after bytes h end other = tt
front_read (Some file) None bytes h end other = absurd h
front_read (Some file) (Some rest) bytes h end other = elim (cases_lt (length bytes) 32) [
  | inl lt ↦ short_read (Some file) (Some rest) bytes h (end lt)
  | inr le ↦ front rest h le other
]

-- what was taken after a prefix stands after it
pub rest_taken : (a b c : Option (List ℕ)) (begun whole : List ℕ) → StartsWith whole begun → Consumes a b begun → Consumes b c (appended_bytes begun whole) → Consumes a c whole
rest_taken a b c begun whole more h k = subst (Consumes a c) (sym (starts_with_rest whole begun more)) (one_more a b c begun _ h k)

-- a container's header and its pages, or all where there are fewer bytes
pub pages_read : (known after : Option (List ℕ)) (bytes : List ℕ) → Consumes known after bytes → (length bytes < max 4096 (pages_end bytes) → IsAtEnd after) → IfSome known (λ file. IsRead file bytes)
pages_read None after bytes h end = tt
pages_read (Some file) None bytes h end = absurd h
pages_read (Some file) (Some rest) bytes h end = elim (cases_lt (length bytes) (max 4096 (pages_end bytes))) [
  | inl lt ↦ short_read (Some file) (Some rest) bytes h (end lt)
  | inr le ↦ pages rest h (omega (arith, le)) (omega (arith, le))
]

-- what is said of a call that succeeds
pub on_ok : {A E : Type 0} (r : Result A E) (P Q : Type 0) → OnOk r P → (P → Q) → OnOk r Q
on_ok (Ok x) P Q h f = f h
on_ok (Err e) P Q h f = tt

-- what was taken where nothing stood before
pub first_taken : (a b : Option (List ℕ)) (old new : List ℕ) → old ≡ [] → Consumes a b (appended_bytes old new) → Consumes a b new
first_taken a b old new none h = subst (λ xs. Consumes a b (appended_bytes xs new)) none h

same_word : (begun whole : List ℕ) (at : ℕ) → StartsWith whole begun → at + 4 ≤ length begun → word_at whole at ≡ word_at begun at
same_word begun whole at more long =
    let k : at + (length begun - at) ≡ length begun = omega (arith, long) in
    sym (word_before whole at (length begun - at) (omega (arith, long))) ∙ ap (λ n. word_at (take n whole) at) k ∙ ap (λ xs. word_at xs at) more

-- a header counts the same pages when more is read after it
pub same_end : (begun whole : List ℕ) → StartsWith whole begun → 4096 ≤ length begun → pages_end whole ≡ pages_end begun
same_end begun whole more long =
    ap (λ n. (n + 1) * word_at whole 32) (same_word begun whole 40 more (omega (arith, long))) ∙ ap (λ n. (word_at begun 40 + 1) * n) (same_word begun whole 32 more (omega (arith, long)))

-- past a header there are fewer bytes than the pages need exactly where their end isn't reached
pub before_end : (count header end whole_end : ℕ) → 4096 ≤ header → header ≤ count → whole_end ≡ end → count < max 4096 whole_end → count < end
before_end count header end whole_end long more same lt = omega arith

pub at_most_end : (count header end whole_end : ℕ) → header ≤ 4096 → whole_end ≡ end → count ≤ max end header → count ≤ max 4096 whole_end
at_most_end count header end whole_end short same le = omega arith

-- what begins as a container goes on to do so
pub still_begins : (whole begun : List ℕ) → StartsWith whole begun → starts_with nat_eq begun magic ≡ true → starts_with nat_eq whole magic ≡ true
still_begins whole begun more h =
    let e = (bytes_decides magic (take 32 begun)).0 h in
    let long : 32 ≤ length begun = omega (arith, length-take 32 begun, ap (λ xs. length xs) e) in
    let same : take 32 begun ≡ take 32 whole = sym (ap (take 32) more) ∙ take-take 32 (length begun) whole long in
    (bytes_decides magic (take 32 whole)).1 (e ∙ same)
