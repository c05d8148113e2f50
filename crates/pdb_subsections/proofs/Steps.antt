-- One step of an iterator over what stands one after another.
use Rattle.std.proofs.Common.{◌≡◌, ◌≢◌, ℕ, ◌<◌, List, length, None, Some, Ok, Err, sym, ap, ◌∙◌}
use Rattle.pdb_container.specs.Fault.{Fault}
use Rattle.pdb_container.specs.Fields.{Reader}
use Rattle.pdb_container.specs.Listing.{Listing, ending, before, listing}
use Rattle.pdb_container.proofs.Listings.{listing_next, listing_fault}

-- where a value or a fault is read, it isn't the end
pub not_ended_here : {A : Type 0} (one : Reader A) (bytes left : List ℕ) (x : A)
    → one bytes ≡ Ok (x, left) → length left < length bytes → listing one bytes ≡ ending None → ⊥
not_ended_here {A} one bytes left x read lt end =
    let e : before x (listing one left) ≡ ending None =
    sym (listing_next one bytes left x read lt) ∙ end in
    let n = ap (λ (l : Listing A). l.items) e in
    absurd cc

-- a listing that has ended well meets no fault
pub not_ended_badly : {A : Type 0} (one : Reader A) (bytes : List ℕ) (e : Fault) → length bytes ≢ 0
    → one bytes ≡ Err e → listing one bytes ≡ ending None → ⊥
not_ended_badly {A} one bytes e some read end =
    let wrong : ending {A = A} (Some e) ≡ ending None =
    sym (listing_fault one bytes e some read) ∙ end in
    let fault = ap (λ (l : Listing A). l.fault) wrong in
    absurd cc
