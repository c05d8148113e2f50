-- What a file holds of a module, by the list of modules; it depends on stream 3 and the module's
-- own stream.
use Rattle.std.proofs.Common.{◌≡◌, ℕ, inl, inr, List, Result, Ok, Err, refl, ap, ◌∙◌}
use Rattle.std.specs.Prelude.{None, Some, nat_lt, slice_get}
use Rattle.std.proofs.lemmas.Bool.{cases_Bool}
use Rattle.pdb_container.specs.Fault.{Fault, ◌>>=◌}
use Rattle.pdb_container.specs.Listing.{whole}
use Rattle.pdb_symbols_modules.specs.Dbi.{Dbi}
use Rattle.pdb_symbols_modules.specs.Modules.{Module, modules_of}
use Rattle.pdb_symbols_modules.specs.DatabaseCalls.{debug_information, module_info}
use Rattle.pdb_symbols_modules.specs.Shared.{named, number, module_of_number, module_number}
use Rattle.pdb_symbols_modules.specs.Shared.{module_bytes, info_in, info_from, provider, shared}
use Rattle.pdb_symbols_modules.specs.Streams.{Streams, if_named}

-- an entry of the list
pub module_listed : (s : Streams) (d : Dbi) (modules : List Module) (k : ℕ)
    → debug_information (shared s) ≡ Ok d → whole (modules_of d.modules) ≡ Ok modules
    → module_of_number (s.at 3) k ≡ Ok (slice_get modules k)
unfolding module_of_number debug_information shared
module_listed s d modules k read listed = rw (read, listed) refl

-- past the list of modules a provider holds nothing
pub past_the_list : (s : Streams) (k : ℕ) → module_of_number (s.at 3) k ≡ Ok None
    → provider s k ≡ Ok None
unfolding provider info_from
past_the_list s k h = rw h refl

-- a number that names a stream leads to it, and another to none
led : (s : Streams) (n : ℕ) → if_named n (number n >>= s.at) ≡ if_named n (s.at n)
unfolding if_named
led s n = elim (cases_Bool (nat_lt n 65535)) [ inl e ↦ rw e refl | inr e ↦ rw e refl ]

-- of a listed module a provider holds what its stream holds
pub provided : (s : Streams) (k : ℕ) (m : Module) → module_of_number (s.at 3) k ≡ Ok (Some m)
    → provider s k ≡ module_info s m
unfolding provider info_from module_bytes module_number named module_info info_in
provided s k m h = rw (h, led s m.stream) refl

-- ---- on what it depends

bind_alike : {A B : Type 0} (r : Result A Fault) (f g : A → Result B Fault)
    → ((x : A) → r ≡ Ok x → f x ≡ g x) → (r >>= f) ≡ (r >>= g)
bind_alike (Ok x) f g same = same x refl
bind_alike (Err e) f g same = refl

-- two files with one DBI stream and one stream of a module hold the same of that module
pub one_module : (s t : Streams) (k : ℕ) → s.at 3 ≡ t.at 3
    → ((n : ℕ) → module_number (s.at 3) k ≡ Ok n → s.at n ≡ t.at n) → provider s k ≡ provider t k
unfolding provider module_bytes
one_module s t k same own =
    ap (info_from (s.at 3) k) (bind_alike (module_number (s.at 3) k) s.at t.at own)
    ∙ ap (λ dbi. info_from dbi k (module_number dbi k >>= t.at)) same
