-- Counts of symbols, kind by kind.
use Rattle.std.proofs.Common.{◌≡◌, ℕ, ◌+◌, ◌-◌, ◌^◌, ◌<◌, List, [], ◌∷◌, map, min, ap, sym, ◌∙◌, arith}
use Rattle.std.specs.Prelude.{Bool, Option, if◌then◌else◌}
use Rattle.std.proofs.lemmas.List.Sums.{sum_by-cons}
use Rattle.pdb_container.specs.Fault.{Fault}
use Rattle.pdb_container.specs.Listing.{Listing, before, ending}
use Rattle.pdb_symbol_records.specs.Symbols.{Symbol, kind_of}
use Rattle.pdb_listings.specs.Symbols.{how_many}

-- one kind before others
pub kinds_more : (left others : Listing Symbol) (s : Symbol) (kind : ℕ) → left ≡ before s others → kind ≡ kind_of s
    → map kind_of left.items ≡ kind ∷ map kind_of others.items
kinds_more left others s kind step is =
    ap (λ (l : Listing Symbol). map kind_of l.items) step ∙ ap (λ (k : ℕ). k ∷ map kind_of others.items) (sym is)

-- no kind is left
pub kinds_ended : (left : Listing Symbol) (fault : Option Fault) → left ≡ ending fault → map kind_of left.items ≡ []
kinds_ended left fault ended = ap (λ (l : Listing Symbol). map kind_of l.items) ended

-- one kind more was counted
pub counted_more : (test : ℕ → Bool) (left others : List ℕ) (kind old new total : ℕ)
    → left ≡ kind ∷ others → new ≡ min (old + (if test kind then 1 else 0)) (2 ^ 64 - 1)
    → min (2 ^ 64 - 1) (old + how_many test left) ≡ total → min (2 ^ 64 - 1) (new + how_many test others) ≡ total
counted_more test left others kind old new total step counted so_far =
    let one : how_many test left ≡ (if test kind then 1 else 0) + how_many test others =
    ap (how_many test) step ∙ sum_by-cons (λ k. if test k then 1 else 0) kind others in
    omega (arith, one, counted, so_far)

-- all kinds were counted
pub counted_all : (test : ℕ → Bool) (left : List ℕ) (n total : ℕ)
    → left ≡ [] → n < 2 ^ 64 → min (2 ^ 64 - 1) (n + how_many test left) ≡ total → n ≡ total
counted_all test left n total none few so_far =
    let zeroth : how_many test left ≡ 0 = ap (how_many test) none in
    omega (arith, zeroth, few, so_far)
