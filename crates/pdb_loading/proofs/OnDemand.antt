-- A source over what was read of a file.
use Rattle.std.proofs.Common.{◌≡◌, ℕ, Bool, true, cond, List, Result, Ok, Err, refl, sym, ap, subst, ◌∙◌}
use Rattle.std.specs.Prelude.{not, Option, None, Some}
use Rattle.std.proofs.lemmas.Bool.{and_parts}
use Rattle.std.proofs.lemmas.Slice.Eq.{bytes_eq-Decides}
use Rattle.pdb_addresses.specs.Addresses.{is_ordered}
use Rattle.pdb_loading.specs.declared.order.ContributionOrder.{ContributionOrder}
use Rattle.pdb_container.specs.Fault.{Fault, ◌>>=◌, refuse}
use Rattle.pdb_loading.specs.Held.{Held, given, kept_infos}
use Rattle.pdb_loading.specs.LoadedFile.{IsLoadedWith}
use Rattle.pdb_loading.specs.Loading.{AddressTableDecreases, Loaded, LoadingFault, lifted, listed, loaded_with, none_or, parts_in, tables}
use Rattle.pdb_loading.specs.ModuleInfos.{KeptInfo, answered_at}
use Rattle.pdb_loading.proofs.HeldSteps.{list_ends, modules_given}
use Rattle.pdb_symbols_modules.specs.DatabaseCalls.{debug_information}
use Rattle.pdb_symbols_modules.specs.Dbi.{Dbi}
use Rattle.pdb_symbols_modules.specs.Modules.{modules_of}
use Rattle.pdb_symbols_modules.specs.Shared.{Shared, shared}
use Rattle.pdb_symbols_modules.specs.Streams.{streams}
use Rattle.pdb_file_views.specs.Views.{Views, agrees, is_whole, source_bytes, whole_or}

whole_is : (whole : Option (List ℕ)) (contents : List ℕ) → is_whole whole contents ≡ true → whole_or whole contents ≡ contents
whole_is None contents h = refl
whole_is (Some bytes) contents h = sym ((bytes_eq-Decides contents bytes).0 h)

-- a source's bytes are those that are asked about, where these agree with what was read
pub bytes_agree : (read : Views) (contents : List ℕ) → agrees read contents ≡ true → source_bytes read contents ≡ contents
bytes_agree read contents h =
    ap (λ (b : Bool). whole_or read.whole (cond b contents read.witness)) h ∙ whole_is read.whole contents (and_parts _ _ h).1

-- ---- modules that are stored anew

bound : {F A B : Type 0} (r : Result A F) (f : A → Result B F) (y : B) → (r >>= f) ≡ Ok y → (x : A) × (r ≡ Ok x) × (f x ≡ Ok y)
bound (Ok x) f y h = (x, refl, h)
bound (Err e) f y h = absurd cc

not_lifted : {A : Type 0} (r : Result A Fault) (x : A) → lifted r ≡ Ok x → r ≡ Ok x
not_lifted (Ok y) x h = cc
not_lifted (Err e) x h = absurd cc

abbrev dbi_or : Loaded → Result Loaded LoadingFault → Dbi
dbi_or l (Ok x) = x.debug_information
dbi_or l (Err e) = l.debug_information

-- stream 3 of a file that loads, and its module list
dbi_of_loaded : (order : ContributionOrder) (c : Shared) (l : Loaded) → loaded_with order c ≡ Ok l → (debug_information c ≡ Ok l.debug_information) × (listed l.debug_information ≡ Ok tt)
unfolding loaded_with
dbi_of_loaded order c l h =
    let opened = bound (lifted (none_or c.open_fault)) _ l h in
    let dbi = bound (lifted (debug_information c)) _ l opened.2 in
    let read = bound (lifted (tables c dbi.0)) _ l dbi.2 in
    let ordered = bound (refuse (not (is_ordered read.0.map)) AddressTableDecreases) _ l read.2 in
    let modules = bound (lifted (listed dbi.0)) _ l ordered.2 in
    let parts = bound (parts_in order c dbi.0 read.0) _ l modules.2 in
    let same : dbi.0 ≡ l.debug_information = ap (λ (r : Result Loaded LoadingFault). dbi_or l r) parts.2 in (
      not_lifted (debug_information c) dbi.0 dbi.1 ∙ ap (λ (d : Dbi). let r : Result Dbi Fault = Ok d in r) same,
      subst (λ (d : Dbi). listed d ≡ Ok tt) same (not_lifted (listed dbi.0) tt modules.1),
    )

-- modules that are what a loaded file has are what it gives
pub modules_of_loaded : (order : ContributionOrder) (file : List ℕ) (h : Held) (infos : List KeptInfo) → IsLoadedWith order file h → infos ≡ kept_infos (streams file) (modules_of h.debug_information.modules).items
    → (number : ℕ) → answered_at infos number ≡ given (streams file) number
modules_of_loaded order file h infos is same number =
    let there = dbi_of_loaded order (shared (streams file)) (record { debug_information = h.debug_information; tables = h.tables; parts = is.parts }) is.loaded_is in
    ap (λ (xs : List KeptInfo). answered_at xs number) same
    ∙ modules_given (streams file) h.debug_information number there.0 (list_ends h.debug_information tt there.1)
