-- What no free stream changes: the streams that belong to no module, and those of related modules.
use Rattle.std.proofs.Common.{◌≡◌, ℕ, ◌<◌, ◌^◌, Bool, true, false, cond, ltb, List, Result, Ok, Err, refl, sym, ap, ◌∙◌, arith}
use Rattle.std.specs.Prelude.{None, IsOk}
use Rattle.std.proofs.lemmas.Bool.{ltb-true}
use Rattle.pdb_loading.specs.Held.{given}
use Rattle.pdb_loading.specs.ModuleInfos.{answered, kept_info}
use Rattle.pdb_container.specs.Alike.{OpenAlike, both_refused, both_open, ReadAlike}
use Rattle.pdb_container.specs.Container.{layout_of}
use Rattle.pdb_container.specs.Fault as container
use Rattle.pdb_container.specs.Fault.{StreamNotFound, ◌>>=◌}
use Rattle.pdb_symbols_modules.specs.OptionalHeader.{to_source_place, from_source_place, sections_place, original_sections_place}
use Rattle.pdb_symbols_modules.specs.Shared.{number, named, named_number, names_number, symbols_number, optional_number, module_number, shared}
use Rattle.pdb_symbols_modules.specs.Streams.{Streams, streams, Bytes, fault_in}
use Rattle.pdb_container.proofs.Alike.{same_stream}
use Rattle.pdb_symbols_modules.proofs.Provided.{one_module}
use Rattle.pdb_resolving.proofs.ResolveAlike.{bind_alike, bind_cases}
use Rattle.pdb_report.specs.Isolation.{AreAlikeFor, IsNeeded, IsRelated}
use Rattle.pdb_report.specs.Isolation.IsNeeded.{Fixed, Names, Symbols, Optional, OfModule}

-- ---- streams

none_if_ok : {A : Type 0} (r : Result A container.Fault) → IsOk r → fault_in r ≡ None
none_if_ok (Ok x) h = refl
none_if_ok (Err e) h = absurd cc

-- two files open with one fault or none, and each stream that is needed is the same
pub record NeedsAlike (m : ℕ) (a b : Streams) : Type 0 where
  pub opened : a.open_fault ≡ b.open_fault
  pub reads : (n : ℕ) → n < 2 ^ 32 → IsNeeded a m n → a.at n ≡ b.at n

opened_alike : (a b : List ℕ) → OpenAlike a b → (streams a).open_fault ≡ (streams b).open_fault
unfolding streams
opened_alike a b (both_refused fault x y) = ap fault_in x ∙ sym (ap fault_in y)
opened_alike a b (both_open x y) = none_if_ok (layout_of a) x ∙ sym (none_if_ok (layout_of b) y)

read_alike : (a b : List ℕ) (n : ℕ) → ReadAlike a b n → (streams a).at n ≡ (streams b).at n
unfolding streams
read_alike a b n h = (same_stream a b n h).whole

-- what isn't free is all that is needed
pub needs_alike : (a b : List ℕ) (m : ℕ) → AreAlikeFor m a b → NeedsAlike m (streams a) (streams b)
needs_alike a b m h = record {
  opened = opened_alike a b h.opens;
  reads = λ n below needed. read_alike a b n (h.reads n below (λ free. free.not_needed needed));
}

-- files that read alike everywhere
pub all_needs : (a b : List ℕ) → OpenAlike a b → ((n : ℕ) → n < 2 ^ 32 → ReadAlike a b n) → (m : ℕ) → NeedsAlike m (streams a) (streams b)
all_needs a b opens reads m = record { opened = opened_alike a b opens; reads = λ n below needed. read_alike a b n (reads n below) }

chosen : {A : Type 0} (b : Bool) (d : container.Fault) (x y : A) → cond b (Ok x) (Err d) ≡ Ok y → (b ≡ true) × (x ≡ y)
chosen true d x y e = (refl, cc)
chosen false d x y e = absurd cc

-- a stream that is named has a number below 65535
named_small : (read : Result ℕ container.Fault) (n : ℕ) → named read ≡ Ok n → n < 65535
unfolding named
named_small read n e = bind_cases read number e λ k is at_k.
    let test = chosen (ltb k 65535) (StreamNotFound 65535) k n at_k in
    let low : k < 65535 = ltb-true k 65535 test.0 in
    let same : k ≡ n = test.1 in
    omega arith

-- a needed stream, read by its number
gathered : (a b : Streams) (m : ℕ) (read : Result ℕ container.Fault) → NeedsAlike m a b → ((n : ℕ) → named read ≡ Ok n → IsNeeded a m n) → (named read >>= a.at) ≡ (named read >>= b.at)
gathered a b m read h needed = bind_alike (named read) a.at b.at λ n e. let low = named_small read n e in h.reads n (omega arith) (needed n e)

pub fixed_alike : (a b : Streams) (m n : ℕ) → NeedsAlike m a b → 0 < n → n < 5 → a.at n ≡ b.at n
fixed_alike a b m n h above below = h.reads n (omega arith) (Fixed above below)

names_alike : (a b : Streams) (m : ℕ) → NeedsAlike m a b → (names_number (a.at 1) >>= a.at) ≡ (names_number (b.at 1) >>= b.at)
unfolding named_number
names_alike a b m h = gathered a b m _ h (λ n e. Names e) ∙ ap (λ information. names_number information >>= b.at) (fixed_alike a b m 1 h (omega arith) (omega arith))

symbols_alike : (a b : Streams) (m : ℕ) → NeedsAlike m a b → (symbols_number (a.at 3) >>= a.at) ≡ (symbols_number (b.at 3) >>= b.at)
unfolding symbols_number
symbols_alike a b m h = gathered a b m _ h (λ n e. Symbols e) ∙ ap (λ dbi. symbols_number dbi >>= b.at) (fixed_alike a b m 3 h (omega arith) (omega arith))

optional_alike : (a b : Streams) (m place : ℕ) → NeedsAlike m a b → (optional_number place (a.at 3) >>= a.at) ≡ (optional_number place (b.at 3) >>= b.at)
unfolding optional_number
optional_alike a b m place h = gathered a b m _ h (λ n e. Optional place e) ∙ ap (λ dbi. optional_number place dbi >>= b.at) (fixed_alike a b m 3 h (omega arith) (omega arith))

pub shared_alike : (a b : Streams) (m : ℕ) → NeedsAlike m a b → shared a ≡ shared b
unfolding shared
shared_alike a b m h =
    let at = fixed_alike a b m in
    λ i. record {
      open_fault = h.opened i;
      information = at 1 h (omega arith) (omega arith) i;
      types = at 2 h (omega arith) (omega arith) i;
      dbi = at 3 h (omega arith) (omega arith) i;
      ids = at 4 h (omega arith) (omega arith) i;
      names = names_alike a b m h i;
      symbols = symbols_alike a b m h i;
      to_source = optional_alike a b m to_source_place h i;
      from_source = optional_alike a b m from_source_place h i;
      section_headers = optional_alike a b m sections_place h i;
      original_sections = optional_alike a b m original_sections_place h i;
    }

-- ---- modules

module_small : (dbi : Bytes) (k n : ℕ) → module_number dbi k ≡ Ok n → n < 65535
unfolding module_number
module_small dbi k n e = named_small _ n e

-- a related module is the same
pub given_alike : (a b : Streams) (m k : ℕ) → NeedsAlike m a b → IsRelated a m k → given a k ≡ given b k
given_alike a b m k h related =
    ap (λ read. answered (kept_info read))
    (one_module a b k (fixed_alike a b m 3 h (omega arith) (omega arith)) (λ n e. let low = module_small (a.at 3) k n e in h.reads n (omega arith) (OfModule k related e)))
