-- A module's answers depend on no stream that unrelated modules alone name.
use Rattle.std.specs.Prelude.{◌≡◌, ◌==◌, if◌then◌else◌, ℕ, ◌<◌, ◌^◌, List, [], Option, None, Some}
use Rattle.std.specs.Prelude.{option_map, Result, Ok, Err}
use Rattle.pdb_addr2line.specs.Choice.{held_at, place_of}
use Rattle.pdb_loading.specs.declared.order.ContributionOrder.{ContributionOrder}
use Rattle.pdb_loading.specs.declared.order.ContributionOrder.TheVariants.{InOrder}
use Rattle.pdb_loading.specs.Held.{names_in}
use Rattle.pdb_engine.specs.Address.{address_of}
use Rattle.pdb_container.specs.Alike.{OpenAlike, ReadAlike}
use Rattle.pdb_container.specs.Fault as container
use Rattle.pdb_report.specs.Answer.{answer_with, function_with, given_in}
use Rattle.pdb_loading.specs.Loading.{Loaded, loaded_with, LoadingFault}
use Rattle.pdb_report.specs.AddressText.{line_text, AddressAnswers}
use Rattle.pdb_resolving.specs.Reaches.{Reaches}
use Rattle.pdb_resolving.specs.Resolving.{Modules, none_failed}
use Rattle.pdb_symbols_modules.specs.DatabaseCalls.{debug_information}
use Rattle.pdb_symbols_modules.specs.Dbi.{Dbi}
use Rattle.pdb_symbols_modules.specs.Modules.{Module, modules_of}
use Rattle.pdb_symbols_modules.specs.Shared.{shared, names_number, symbols_number, optional_number}
use Rattle.pdb_symbols_modules.specs.Shared.{module_number}
use Rattle.pdb_symbols_modules.specs.Streams.{Streams, streams}

-- ---- related modules

-- the modules' entries in order, from what was read of stream 3
abbrev pub entries_read : Result Dbi container.Fault → List Module
entries_read (Err e) = []
entries_read (Ok dbi) = (modules_of dbi.modules).items

-- a file's modules; none of their tables stands as failed
abbrev pub modules_in : Streams → Modules
modules_in s = record {
  entries = entries_read (debug_information (shared s));
  provided = given_in s;
  names = names_in s;
  failed = none_failed;
}

-- Module k is related to module m: it is m, or a name in m's import table reaches it.
pub data IsRelated (s : Streams) (m k : ℕ) : Type 0 where
  Itself : k ≡ m → IsRelated s m k
  Reached : Reaches (modules_in s) m k → IsRelated s m k

-- ---- free streams

-- Stream n is needed in module m: it is 1, 2, 3 or 4, or is named as `/names`, as symbol records,
-- by the optional header or by a related module.
pub data IsNeeded (s : Streams) (m n : ℕ) : Type 0 where
  Fixed : 0 < n → n < 5 → IsNeeded s m n
  Names : names_number (s.at 1) ≡ Ok n → IsNeeded s m n
  Symbols : symbols_number (s.at 3) ≡ Ok n → IsNeeded s m n
  Optional : (place : ℕ) → optional_number place (s.at 3) ≡ Ok n → IsNeeded s m n
  OfModule : (k : ℕ) → IsRelated s m k → module_number (s.at 3) k ≡ Ok n → IsNeeded s m n

-- Stream n is free for module m: some unrelated module names it, and it isn't needed.
pub record IsFree (s : Streams) (m n : ℕ) : Type 0 where
  pub owner : ℕ
  pub unrelated : ¬ IsRelated s m owner
  pub named : module_number (s.at 3) owner ≡ Ok n
  pub not_needed : ¬ IsNeeded s m n

-- Two files open alike, and read alike at every number that isn't free for module m in the first.
pub record AreAlikeFor (m : ℕ) (a b : List ℕ) : Type 0 where
  pub opens : OpenAlike a b
  pub reads : (n : ℕ) → n < 2 ^ 32 → ¬ IsFree (streams a) m n → ReadAlike a b n

-- ---- the law

-- the number of the module that holds an address, from what was loaded
abbrev pub holder_by : Result Loaded LoadingFault → ℕ → Option ℕ
holder_by (Err e) a = None
holder_by (Ok l) a =
    option_map (λ held. (held.0).module_index) (held_at l.parts (place_of l.parts a))

-- the number of the module that holds an address of the image
unfoldable pub holder_with : ContributionOrder → Streams → ℕ → Option ℕ
holder_with order s = holder_by (loaded_with order (shared s))

-- Two files answer an address alike, where section contributions have to stand in this order: by
-- frames, by function, and by the text that is written for each line that is the address.
pub record AnswersAlike (order : ContributionOrder) (a b : Streams) (x : ℕ) : Type 0 where
  pub frames : answer_with order a x ≡ answer_with order b x
  pub functions : function_with order a x ≡ function_with order b x
  pub lines : (line : List ℕ) → address_of line ≡ Some x
      → line_text (answer_with order a) line ≡ line_text (answer_with order b) line

-- Every file that is alike for module m answers alike each address that m holds in this one,
-- whatever order section contributions have to stand in.
abbrev pub IsIsolated : List ℕ → Type 0
IsIsolated a = (order : ContributionOrder) (b : List ℕ) (m x : ℕ) → AreAlikeFor m a b
    → holder_with order (streams a) x ≡ Some m → AnswersAlike order (streams a) (streams b) x

-- ---- exchanged answers

-- another answer where the holder is module m
abbrev pub exchanged_if : {A : Type 0} → ℕ → Option ℕ → A → A → A
exchanged_if m None own other = own
exchanged_if m (Some k) own other = if k == m then other else own

-- the answers of a file, with another one's at the addresses that module m holds in the first
abbrev pub exchanged_with : ContributionOrder → ℕ → Streams → Streams → AddressAnswers
exchanged_with order m a b x =
    exchanged_if m (holder_with order a x) (answer_with order a x) (answer_with order b x)

abbrev pub exchanged : ℕ → Streams → Streams → AddressAnswers
exchanged m a b x = exchanged_with InOrder m a b x
