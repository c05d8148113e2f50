-- Items, one after another, as they are read.
use Rattle.std.proofs.Common.{◌≡◌, ◌≢◌, ℕ, suc, ◌+◌, ◌-◌, ◌^◌, ◌<◌, ◌≤◌, List, [], ◌∷◌, length}
use Rattle.std.proofs.Common.{Some, None, Result, Ok, Err, refl, ap, ◌∙◌, arith, length-drop}
use Rattle.std.specs.Prelude.{codes, nat_lt}
use Rattle.std.specs.Int.{w16}
use Rattle.pdb_container.specs.Fault.{Fault, InvalidTypeInformationHeader, TypeTooShort, ◌>>=◌}
use Rattle.pdb_container.specs.Fault.{refuse}
use Rattle.pdb_container.specs.Fields.{number_at, bytes_of}
use Rattle.pdb_container.specs.Listing.{before, ending}
use Rattle.pdb_container_types.specs.Items.{piece_at, followed, items_within, items_from}

-- no byte has no item
pub items_end : (index : ℕ) (bytes : List ℕ) → length bytes ≡ 0
    → items_from index bytes ≡ ending None
unfolding items_from items_within
items_end index [] none = refl
items_end index (b ∷ bytes) none = absurd (omega arith)

-- bytes left where no index is left end the list badly
pub items_full : (index : ℕ) (bytes : List ℕ) → length bytes ≢ 0 → index ≡ 2 ^ 32 - 1
    → items_from index bytes ≡ ending (Some (InvalidTypeInformationHeader (codes "maximum")))
unfolding items_from items_within
items_full index [] some full = absurd (some refl)
items_full index (b ∷ bytes) some full =
    let none : 2 ^ 32 - 1 - index ≡ 0 = omega arith in
    rw none refl

within_step : (room : ℕ) (bytes : List ℕ) → length bytes ≢ 0
    → items_within (suc room) bytes ≡ followed (items_within room) (piece_at bytes)
unfolding items_within
within_step room [] some = absurd (some refl)
within_step room (b ∷ bytes) some = refl

from_step : (index : ℕ) (bytes : List ℕ) → length bytes ≢ 0 → index + 1 < 2 ^ 32
    → items_from index bytes ≡ followed (items_from (index + 1)) (piece_at bytes)
unfolding items_from
from_step index bytes some free =
    let room : 2 ^ 32 - 1 - index ≡ suc (2 ^ 32 - 1 - (index + 1)) = omega arith in
    rw room (within_step (2 ^ 32 - 1 - (index + 1)) bytes some)

-- an item that was read stands before those after it
pub items_next : (index : ℕ) (bytes left item : List ℕ) → length bytes ≢ 0 → index + 1 < 2 ^ 32
    → piece_at bytes ≡ Ok (item, left) → items_from index bytes
    ≡ before item (items_from (index + 1) left)
items_next index bytes left item some free read =
    from_step index bytes some free ∙ ap (followed (items_from (index + 1))) read

-- an item that is refused ends the list with its fault
pub items_fail : (index : ℕ) (bytes : List ℕ) (e : Fault) → length bytes ≢ 0 → index + 1 < 2 ^ 32
    → piece_at bytes ≡ Err e → items_from index bytes ≡ ending (Some e)
items_fail index bytes e some free read = from_step index bytes some free
    ∙ ap (followed (items_from (index + 1))) read

-- ---- an item takes four bytes at least

number_takes : (bytes left : List ℕ) (n : ℕ) → number_at w16 bytes ≡ Ok (n, left)
    → 2 + length left ≤ length bytes
number_takes bytes left n read = grind (arith, length-drop {A = ℕ})

bytes_take : (n : ℕ) (bytes left item : List ℕ) → bytes_of n bytes ≡ Ok (item, left)
    → n + length left ≤ length bytes
bytes_take n bytes left item read = grind (arith, length-drop {A = ℕ})

long_enough : (bytes left item : List ℕ) (n : ℕ)
    → (refuse (nat_lt n 2) TypeTooShort >>= λ long. bytes_of n bytes) ≡ Ok (item, left)
    → (2 ≤ n) × (bytes_of n bytes ≡ Ok (item, left))
long_enough bytes left item n read = grind arith

in_full : (bytes left item : List ℕ) (n : ℕ) (others : List ℕ)
    → number_at w16 bytes ≡ Ok (n, others)
    → (refuse (nat_lt n 2) TypeTooShort >>= λ long. bytes_of n others) ≡ Ok (item, left)
    → 4 + length left ≤ length bytes
in_full bytes left item n others read more =
    let e = long_enough others left item n more in
    omega (arith, number_takes bytes others n read, bytes_take n others left item e.1, e.0)

-- an item takes four bytes at least
pub piece_takes : (bytes left item : List ℕ) → piece_at bytes ≡ Ok (item, left)
    → 4 + length left ≤ length bytes
unfolding piece_at
piece_takes bytes left item =
    elim (number_at w16 bytes)
    as (λ (r : Result (ℕ × List ℕ) Fault). number_at w16 bytes ≡ r
    → (r >>= λ size. refuse (nat_lt size.0 2) TypeTooShort >>= λ long. bytes_of size.0 size.1)
    ≡ Ok (item, left) → 4 + length left ≤ length bytes) [
      | Ok size ↦ λ read more. in_full bytes left item size.0 size.1 read more
      | Err e ↦ λ read more. absurd (cc)
    ] refl
