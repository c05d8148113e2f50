-- The steps of the loop over a module's inlined functions.
use Rattle.std.proofs.Common.{◌≡◌, ℕ, List, ◌∷◌, Result, Ok, Err, refl, sym, ap, ◌∙◌}
use Rattle.std.specs.Prelude.{Option, None, Some}
use Rattle.std.specs.Option.{option_or}
use mathlib.Core.Path.{fun_ext}
use Rattle.pdb_container.specs.Fault.{Fault, ◌>>=◌}
use Rattle.pdb_container.specs.Listing.{Listing, ending, before, whole}
use Rattle.pdb_lines.specs.Inlinees.{InlinedFunction}
use Rattle.pdb_module_data.specs.InlinedCalls.{if_called, last_inlinee, inlinees_by_id}

-- a function that is given for each id, unless one is still to come
abbrev pub given_left : (ℕ → Option InlinedFunction) → Listing InlinedFunction → Result (ℕ → Option InlinedFunction) Fault
given_left given left = whole left >>= λ all. Ok (λ id. option_or (last_inlinee all id) (given id))

or_none : (a : Option InlinedFunction) → option_or a None ≡ a
or_none None = refl
or_none (Some a) = refl

or_assoc : (a b c : Option InlinedFunction) → option_or (option_or a b) c ≡ option_or a (option_or b c)
or_assoc None b c = refl
or_assoc (Some a) b c = refl

start_with : (given : ℕ → Option InlinedFunction) (all : List InlinedFunction) (fault : Option Fault) → ((id : ℕ) → given id ≡ None)
    → given_left given (record { items = all; fault = fault }) ≡ inlinees_by_id (record { items = all; fault = fault })
start_with given all None none = ap (λ (f : ℕ → Option InlinedFunction). Ok f) (fun_ext λ id. ap (option_or (last_inlinee all id)) (none id) ∙ or_none (last_inlinee all id))
start_with given all (Some e) none = refl

-- none is given yet
pub inlinees_start : (given : ℕ → Option InlinedFunction) (left : Listing InlinedFunction) → ((id : ℕ) → given id ≡ None) → given_left given left ≡ inlinees_by_id left
inlinees_start given left none = start_with given left.items left.fault none

more_with : (given new : ℕ → Option InlinedFunction) (x : InlinedFunction) (others : List InlinedFunction) (fault : Option Fault) → ((id : ℕ) → new id ≡ option_or (if_called x id) (given id))
    → given_left given (record { items = x ∷ others; fault = fault }) ≡ given_left new (record { items = others; fault = fault })
more_with given new x others None is =
    ap (λ (f : ℕ → Option InlinedFunction). Ok f) (fun_ext λ id. or_assoc (last_inlinee others id) (if_called x id) (given id) ∙ ap (option_or (last_inlinee others id)) (sym (is id)))
more_with given new x others (Some e) is = refl

-- a function more, which is given from now on for its id
pub inlinees_more : (given new : ℕ → Option InlinedFunction) (x : InlinedFunction) (left others : Listing InlinedFunction) (total : Result (ℕ → Option InlinedFunction) Fault)
    → left ≡ before x others → ((id : ℕ) → new id ≡ option_or (if_called x id) (given id)) → given_left given left ≡ total → given_left new others ≡ total
inlinees_more given new x left others total step is so_far = sym (more_with given new x others.items others.fault is) ∙ sym (ap (given_left given) step) ∙ so_far

-- functions that ended well
pub inlinees_end : (given : ℕ → Option InlinedFunction) (left : Listing InlinedFunction) (total : Result (ℕ → Option InlinedFunction) Fault) → left ≡ ending None → given_left given left ≡ total → total ≡ Ok given
inlinees_end given left total end so_far = sym so_far ∙ ap (given_left given) end

-- functions that ended with a fault
pub inlinees_fault : (given : ℕ → Option InlinedFunction) (left : Listing InlinedFunction) (total : Result (ℕ → Option InlinedFunction) Fault) (e : Fault) → left ≡ ending (Some e) → given_left given left ≡ total → total ≡ Err e
inlinees_fault given left total e end so_far = sym so_far ∙ ap (given_left given) end
