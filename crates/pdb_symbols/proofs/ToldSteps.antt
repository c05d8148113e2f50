-- What is told of places.
use Rattle.std.proofs.Common.{◌≡◌, ℕ, ◌+◌, ◌-◌, ◌<◌, ◌≤◌, Bool, true, List, refl, sym, ap}
use Rattle.std.proofs.Common.{◌∙◌, ◌^◌, ◌||◌, inl, inr, min, subst, arith}
use Rattle.std.proofs.lemmas.Bool.{cases_lt}
use Rattle.std.proofs.Math.Bool.{or-true}
use Rattle.std.specs.Prelude.{Option, None, Some, option_and_then, option_map, Result, Ok, Err, IfOk, OnOk}
use Rattle.pdb_addresses.specs.Addresses.{Map, inner_place}
use Rattle.pdb_addresses.specs.PlaceRun.{breaks}
use Rattle.pdb_addresses.specs.Places.{Place}
use Rattle.pdb_addresses.specs.SectionRun.{place_on}
use Rattle.pdb_addresses.specs.declared.internal_section_offset.PdbInternalSectionOffset.{PdbInternalSectionOffset}
use Rattle.pdb_addr2line.specs.FileFrames.{found_by}
use Rattle.pdb_frames.specs.FrameRuns.{if_answered, readable}
use Rattle.pdb_owners.specs.Databases.{Database, IsOneRun, on, place_of}
use Rattle.pdb_owners.specs.Frames.{FunctionFrames}
use Rattle.pdb_owners.specs.FunctionOrder.{Function}
use Rattle.pdb_resolving.specs.Fault.{Fault}
use Rattle.pdb_symbol_files.specs.Told.{Told}
use Rattle.std.specs.Prelude.{not}
use Rattle.pdb_addresses.specs.Addresses.{is_ordered}
use Rattle.pdb_addresses.specs.declared.sections.ImageSectionHeader.{ImageSectionHeader}
use Rattle.pdb_frames.specs.Choice.{Parts}
use Rattle.pdb_frames.specs.Parts.{parts_in_any_order, parts_of}
use Rattle.pdb_container.specs.Fault.{◌>>=◌, refuse}
use Rattle.pdb_contributions.specs.MergedContributions.{held_of}
use Rattle.pdb_contributions.specs.Publics.{entries_read}
use Rattle.pdb_contributions.specs.UnmergedContributions.{held_in_any_order}
use Rattle.pdb_loading.specs.declared.order.ContributionOrder.{ContributionOrder}
use Rattle.pdb_loading.specs.declared.order.ContributionOrder.TheVariants.{InOrder, Any}
use Rattle.pdb_loading.specs.Loading as loading
use Rattle.pdb_loading.specs.Loading.{AddressTableDecreases, Loaded, in_loading, listed, loaded_with}
use Rattle.pdb_loading.specs.Loading.{LoadingFault, none_or, parts_in, tables}
use Rattle.pdb_addr2line.specs.Context.{Context, lasting, uncounted}
use Rattle.pdb_addresses.specs.Places.{internal_place}
use Rattle.pdb_frames.specs.Choice.{held_at}
use Rattle.pdb_addr2line.specs.Answer.{AnswersNamed, answer_by, answer_named, answered_in}
use Rattle.pdb_addr2line.specs.Answer.{database_by, database_in, database_named, frames_by}
use Rattle.pdb_addr2line.specs.Answer.{frames_in, frames_named, function_by, function_named}
use Rattle.pdb_addr2line.specs.Answer.{map_by, map_with, scope_named}
use Rattle.pdb_addr2line.specs.FileAnswers.{FileAnswers, IsKnown}
use Rattle.pdb_file_views.specs.Views.{Grows, agrees}
use Rattle.pdb_frames.specs.FrameRuns.{frames_here}
use Rattle.pdb_frames.specs.FramesAt.{frames, frames_if_held, function, function_at}
use Rattle.pdb_loading.specs.ModuleInfos.{KeptInfo, if_read}
use Rattle.pdb_symbols.specs.Told.{told_named}
use Rattle.pdb_symbols_modules.specs.Streams.{Streams}
use Rattle.pdb_loading.specs.Orders.{parts_with}
use Rattle.pdb_resolving.specs.Fault.{lifted}
use Rattle.pdb_symbol_records.specs.Symbols.{symbols_from}
use Rattle.pdb_symbols_modules.specs.DatabaseCalls.{debug_information, names}
use Rattle.pdb_symbols_modules.specs.Shared.{Shared, shared}
use Rattle.pdb_owners.specs.Counts.{is_bound_in}
use Rattle.pdb_symbols.specs.Lookups.{EndsAtBound, begins_by, begins_if, begins_named, is_bound_for}
use Rattle.pdb_symbols.specs.Lookups.{is_bound_of, rise}
use Rattle.pdb_symbols.specs.Told.{TellsPlaces, start_of, told_found, told_place}
use Rattle.pdb_symbol_files.specs.declared.told_runs.ToldRun.{ToldRun}

-- ---- at a place

found_readable : (r : Result (Option FunctionFrames) Fault) → readable r ≡ found_by (if_answered r)
found_readable (Ok None) = refl
found_readable (Ok (Some frames)) = refl
found_readable (Err e) = refl

-- the same is told over the lesser of two runs
pub alike : (inlines : Bool) (functions : Database Function)
    (frames : Database (Option FunctionFrames)) (p : Place) (limit n m : ℕ)
    → IsOneRun functions p limit n → IsOneRun frames p limit m → (k : ℕ) → k < n → k < m
    → told_place inlines functions frames (on p k) ≡ told_place inlines functions frames p
alike inlines functions frames p limit n m a b k lt less =
    ap (λ (f : Option Function).
    told_found inlines (start_of f) (found_by (frames.answer (on p k)))) (a.alike k lt)
    ∙ ap (λ (f : Option (Option FunctionFrames)).
    told_found inlines (start_of (functions.answer p)) (found_by f)) (b.alike k less)

-- ---- an address, by its place

step : {A B F : Type 0} (r : Result A F) (next : A → Result B F) (y : B) → (r >>= next) ≡ Ok y
    → (x : A) × (r ≡ Ok x) × (next x ≡ Ok y)
step (Ok x) next y h = (x, refl, h)
step (Err e) next y h = let bad : ⊥ = cc in absurd bad

in_order_map : (sections : List ImageSectionHeader) (m : Map) (records contributions : List ℕ)
    (names : Option (List ℕ)) (p : Parts)
    → parts_of sections m records contributions names ≡ Ok p → p.map ≡ m
unfolding parts_of
in_order_map sections m records contributions names p h =
    let functions = step (lifted (entries_read sections (symbols_from records 0))) _ p h in
    let held = step (held_of sections contributions) _ p functions.2 in
    let same = held.2 in cc

any_order_map : (sections : List ImageSectionHeader) (m : Map) (records contributions : List ℕ)
    (names : Option (List ℕ)) (p : Parts)
    → parts_in_any_order sections m records contributions names ≡ Ok p → p.map ≡ m
unfolding parts_in_any_order
any_order_map sections m records contributions names p h =
    let functions = step (lifted (entries_read sections (symbols_from records 0))) _ p h in
    let held = step (held_in_any_order sections contributions) _ p functions.2 in
    let same = held.2 in cc

parts_map : (order : ContributionOrder) (sections : List ImageSectionHeader) (m : Map)
    (records contributions : List ℕ) (names : Option (List ℕ)) (p : Parts)
    → parts_with order sections m records contributions names ≡ Ok p → p.map ≡ m
parts_map InOrder = in_order_map
parts_map Any = any_order_map

same_loaded : (k l : Loaded) → (let r : Result Loaded LoadingFault = Ok k in r) ≡ Ok l → k ≡ l
same_loaded k l e = cc

lowered : (r : Result Parts Fault) (p : Parts) → in_loading r ≡ Ok p → r ≡ Ok p
lowered (Ok q) p h = cc
lowered (Err e) p h = let bad : ⊥ = cc in absurd bad

loaded_map : (order : ContributionOrder) (c : Shared) (l : Loaded)
    → loaded_with order c ≡ Ok l → (l.parts).map ≡ (l.tables).map
unfolding loaded_with
loaded_map order c l h =
    let opened = step (loading.lifted (none_or c.open_fault)) _ l h in
    let dbi = step (loading.lifted (debug_information c)) _ l opened.2 in
    let read = step (loading.lifted (tables c dbi.0)) _ l dbi.2 in
    let ordered = step (refuse (not (is_ordered (read.0).map)) AddressTableDecreases) _ l read.2 in
    let modules = step (loading.lifted (listed dbi.0)) _ l ordered.2 in
    let parts = step (parts_in order c dbi.0 read.0) _ l modules.2 in
    let here : (parts.0).map ≡ (read.0).map =
    parts_map order ((read.0).map).image (read.0).map (read.0).symbol_records (dbi.0).contributions
    (if_read (names c)) parts.0 (lowered _ parts.0 parts.1) in
    let made : record { debug_information = dbi.0; tables = read.0; parts = parts.0 } ≡ l =
    same_loaded _ l parts.2 in
    sym (ap (λ (k : Loaded). (k.parts).map) made) ∙ here
    ∙ ap (λ (k : Loaded). (k.tables).map) made

-- what is told of an address by the place that it has, if it has one
abbrev told_if_placed : Bool → ℕ → ContributionOrder → Streams → Option Place → Option Told
told_if_placed inlines flags order s None = None
told_if_placed inlines flags order s (Some p) =
    told_place inlines (database_named flags order s) (frames_named flags order s) p

-- the same by what was loaded
abbrev told_by : Bool → ℕ → Streams → Result Loaded LoadingFault → Option Place → Option Told
told_by inlines flags s r None = None
told_by inlines flags s r (Some p) =
    told_place inlines (database_by flags s r) (frames_by flags s r) p

placed : (inlines : Bool) (flags : ℕ) (s : Streams) (l : Loaded) (o : Option Place)
    → told_found inlines
    (start_of (option_and_then (λ held. function_at l.parts
    ((scope_named flags s l) (held.0).module_index) held.0 held.1)
    (held_at l.parts (option_map internal_place o))))
    (readable (frames_if_held l.parts (scope_named flags s l)
    (held_at l.parts (option_map internal_place o))))
    ≡ told_by inlines flags s (Ok l) o
placed inlines flags s l None = refl
placed inlines flags s l (Some p) =
    ap (told_found inlines
    (start_of ((database_by flags s (Ok l)).answer p)))
    (found_readable (frames_here l.parts (scope_named flags s l) (internal_place p)))

loaded_told : (inlines : Bool) (flags : ℕ) (s : Streams) (m : Map) (a : ℕ)
    (r : Result Loaded LoadingFault) → ((l : Loaded) → r ≡ Ok l → (l.parts).map ≡ (l.tables).map)
    → map_by r ≡ Some m
    → told_found inlines (start_of (function_by flags s r a)) (readable (answer_by flags s r a))
    ≡ told_by inlines flags s r (inner_place m a)
unfolding function frames
loaded_told inlines flags s m a (Err e) maps is = let bad : ⊥ = cc in absurd bad
loaded_told inlines flags s m a (Ok l) maps is =
    let same : (l.tables).map ≡ m = cc in
    let map_is : (l.parts).map ≡ m = maps l refl ∙ same in
    placed inlines flags s l (inner_place (l.parts).map a)
    ∙ ap (λ (n : Map). told_by inlines flags s (Ok l) (inner_place n a)) map_is

by_place : (inlines : Bool) (flags : ℕ) (order : ContributionOrder) (s : Streams)
    (o : Option Place) → told_by inlines flags s (loaded_with order (shared s)) o
    ≡ told_if_placed inlines flags order s o
unfolding database_named frames_named
by_place inlines flags order s None = refl
by_place inlines flags order s (Some p) = refl

-- what is told of an address is what is told of its place
named_told : (inlines : Bool) (flags : ℕ) (order : ContributionOrder) (s : Streams) (m : Map)
    (a : ℕ) → map_with order s ≡ Some m
    → told_named inlines flags order s a
    ≡ told_if_placed inlines flags order s (inner_place m a)
unfolding map_with answer_named function_named database_named frames_named
named_told inlines flags order s m a is =
    loaded_told inlines flags s m a (loaded_with order (shared s))
    (λ l e. loaded_map order (shared s) l e) is
    ∙ by_place inlines flags order s (inner_place m a)

-- ---- runs of addresses

away : (address a : ℕ) → address ≤ a → a ≡ address + (a - address)
away address a le = omega arith

-- a place that was found
found_none : (o : Option Place) (found : Option PdbInternalSectionOffset)
    → found ≡ option_map internal_place o → found ≡ None → o ≡ None
found_none None found is none = refl
found_none (Some p) found is none = let bad : ⊥ = cc in absurd bad

found_some : (o : Option Place) (found : Option PdbInternalSectionOffset)
    (place : PdbInternalSectionOffset) → found ≡ option_map internal_place o → found ≡ Some place
    → o ≡ Some (place_of place)
found_some None found place is some = let bad : ⊥ = cc in absurd bad
found_some (Some p) found place is some =
    let same : internal_place p ≡ place = cc in
    ap (λ (q : PdbInternalSectionOffset). let r : Option Place = Some (place_of q) in r) same

-- a run of addresses that have no place
pub none_told : (inlines : Bool) (flags : ℕ) (order : ContributionOrder) (s : Streams) (m : Map)
    (address n : ℕ) (found : Option PdbInternalSectionOffset) → map_with order s ≡ Some m
    → found ≡ option_map internal_place (inner_place m address) → found ≡ None
    → ((k : ℕ) → k < n → inner_place m (address + k) ≡ place_on k (inner_place m address))
    → (a : ℕ) → address ≤ a → a < address + n → told_named inlines flags order s a ≡ None
none_told inlines flags order s m address n found is here none along a le lt =
    named_told inlines flags order s m a is
    ∙ ap (λ (b : ℕ). told_if_placed inlines flags order s (inner_place m b)) (away address a le)
    ∙ ap (told_if_placed inlines flags order s) (along (a - address) (omega arith))
    ∙ ap (λ (o : Option Place). told_if_placed inlines flags order s (place_on (a - address) o))
    (found_none (inner_place m address) found here none)

-- a run of addresses whose places follow one another
pub run_told : (inlines : Bool) (flags : ℕ) (order : ContributionOrder) (s : Streams) (m : Map)
    (address n count : ℕ) (found : Option PdbInternalSectionOffset)
    (place : PdbInternalSectionOffset) (told : Option Told) → map_with order s ≡ Some m
    → found ≡ option_map internal_place (inner_place m address) → found ≡ Some place
    → ((k : ℕ) → k < n → inner_place m (address + k) ≡ place_on k (inner_place m address))
    → count ≤ n
    → ((k : ℕ) → k < count → told_place inlines (database_named flags order s)
    (frames_named flags order s) (on (place_of place) k) ≡ told)
    → (a : ℕ) → address ≤ a → a < address + count → told_named inlines flags order s a ≡ told
run_told inlines flags order s m address n count found place told is here some along few same a le lt =
    named_told inlines flags order s m a is
    ∙ ap (λ (b : ℕ). told_if_placed inlines flags order s (inner_place m b)) (away address a le)
    ∙ ap (told_if_placed inlines flags order s) (along (a - address) (omega arith))
    ∙ ap (λ (o : Option Place). told_if_placed inlines flags order s (place_on (a - address) o))
    (found_some (inner_place m address) found place here some)
    ∙ same (a - address) (omega arith)

-- the same of a run that was returned
pub if_told : {E : Type 0} (r : Result ToldRun E) (inlines : Bool) (flags : ℕ)
    (order : ContributionOrder) (s : Streams) (m : Map) (address n : ℕ)
    (found : Option PdbInternalSectionOffset) (place : PdbInternalSectionOffset)
    → map_with order s ≡ Some m → found ≡ option_map internal_place (inner_place m address)
    → found ≡ Some place
    → ((k : ℕ) → k < n → inner_place m (address + k) ≡ place_on k (inner_place m address))
    → IfOk r (λ run. run.count ≤ n)
    → IfOk r (TellsPlaces (told_place inlines (database_named flags order s)
    (frames_named flags order s)) (place_of place))
    → IfOk r (λ run. (a : ℕ) → address ≤ a → a < address + run.count
    → told_named inlines flags order s a ≡ run.told)
if_told (Err e) inlines flags order s m address n found place is here some along few same = tt
if_told (Ok run) inlines flags order s m address n found place is here some along few same =
    run_told inlines flags order s m address n run.count found place run.told is here some along few
    same

-- what is known once more was read was known before
pub known_before : (f h : FileAnswers) → h.contents ≡ f.contents → Grows f.views h.views
    → IsKnown h → IsKnown f
known_before f h same grows known =
    grows f.contents (subst (λ (bytes : List ℕ). agrees h.views bytes ≡ true) same known)

-- ---- a context of a file

-- what a context tells of places is what the file does
pub context_told : (inlines : Bool) (flags : ℕ) (order : ContributionOrder) (s : Streams)
    (c : Context (List KeptInfo)) (p : Place) (told : Option Told)
    → AnswersNamed flags order answered_in s c
    → told_place inlines (database_in answered_in c) (frames_in answered_in c) p ≡ told
    → told_place inlines (database_named flags order s) (frames_named flags order s) p ≡ told
context_told inlines flags order s c p told is same =
    sym (ap (λ (db : Database Function).
    told_place inlines db (frames_in answered_in c) p) is.places
    ∙ ap (λ (db : Database (Option FunctionFrames)).
    told_place inlines (database_named flags order s) db p) is.by_frames) ∙ same

-- one that was asked still answers as the file
pub answers_on : (flags : ℕ) (order : ContributionOrder) (s : Streams)
    (c d : Context (List KeptInfo)) → lasting d ≡ lasting c
    → AnswersNamed flags order answered_in s c → AnswersNamed flags order answered_in s d
answers_on flags order s c d same h =
    let at_last : AnswersNamed flags order answered_in s (lasting c) = record {
      frames = h.frames;
      functions = h.functions;
      places = h.places;
      by_frames = h.by_frames;
      by_file = h.by_file;
      list = h.list;
    } in
    let now : AnswersNamed flags order answered_in s (lasting d) =
    subst (AnswersNamed flags order answered_in s) (sym same) at_last in
    record {
      frames = now.frames;
      functions = now.functions;
      places = now.places;
      by_frames = now.by_frames;
      by_file = now.by_file;
      list = now.list;
    }

-- ---- where runs end

-- the lesser of two runs ends at a bound of one of them
pub ends_at_bound : (functions : Database Function) (frames : Database (Option FunctionFrames))
    (p : Place) (limit n m count : ℕ) → IsOneRun functions p limit n → IsOneRun frames p limit m
    → count ≡ min m n → count < limit → is_bound_of functions frames (on p count) ≡ true
ends_at_bound functions frames p limit n m count a b is lt = elim (cases_lt m n) [
  | inl less ↦
      let same : m ≡ count = omega (arith, is, less) in
      ap (λ (x : Bool). functions.is_bound (on p count) || x)
      (subst (λ (k : ℕ). frames.is_bound (on p k) ≡ true) same (b.ends (omega (arith, same, lt))))
      ∙ or-true (functions.is_bound (on p count))
  | inr more ↦
      let same : n ≡ count = omega (arith, is, more) in
      ap (λ (x : Bool). x || frames.is_bound (on p count))
      (subst (λ (k : ℕ). functions.is_bound (on p k) ≡ true) same (a.ends (omega (arith, same, lt))))
]

-- by a context that was asked since
pub frames_run : (c d : Context (List KeptInfo)) (p : Place) (limit n : ℕ)
    → uncounted d ≡ uncounted c → IsOneRun (frames_in answered_in d) p limit n
    → IsOneRun (frames_in answered_in c) p limit n
frames_run c d p limit n same run =
    subst (λ (x : Context (List KeptInfo)). IsOneRun (frames_in answered_in x) p limit n) same run

-- by how much its count rose
pub counted_by : {A E : Type 0} (r : Result A E) (a b : Option (Context (List KeptInfo)))
    (c d : Context (List KeptInfo)) (old new : ℕ) → a ≡ Some c → b ≡ Some d
    → OnOk r (new ≡ min (old + (d.lookups - c.lookups)) (2 ^ 64 - 1))
    → OnOk r (new ≡ min (old + rise a b) (2 ^ 64 - 1))
counted_by (Err e) a b c d old new first last sum = tt
counted_by (Ok x) a b c d old new first last sum =
    let rose : rise a b ≡ d.lookups - c.lookups
    = ap (λ (o : Option (Context (List KeptInfo))). rise o b) first
    ∙ ap (λ (o : Option (Context (List KeptInfo))). rise (Some c) o) last in
    omega (arith, rose, sum)

-- a piece begins at an address of a file that is loaded
begins_with : (flags : ℕ) (order : ContributionOrder) (s : Streams) (m : Map) (a : ℕ)
    → map_with order s ≡ Some m
    → begins_by m (database_named flags order s) (frames_named flags order s) a ≡ true
    → begins_named flags order s a ≡ true
unfolding begins_named
begins_with flags order s m a is h =
    ap (λ (o : Option Map).
    begins_if o (database_named flags order s) (frames_named flags order s) a) is ∙ h

-- where places no longer follow one another
pub breaks_begin : (flags : ℕ) (order : ContributionOrder) (s : Streams) (m : Map) (a : ℕ)
    → map_with order s ≡ Some m → breaks m a ≡ true → begins_named flags order s a ≡ true
breaks_begin flags order s m a is h =
    begins_with flags order s m a is
    (ap (λ (b : Bool). b || (is_bound_in (database_named flags order s) (inner_place m a)
    || is_bound_in (frames_named flags order s) (inner_place m a))) h)

bounds_begin : (flags : ℕ) (order : ContributionOrder) (s : Streams) (m : Map) (a : ℕ) (p : Place)
    → map_with order s ≡ Some m → inner_place m a ≡ Some p
    → is_bound_of (database_named flags order s) (frames_named flags order s) p ≡ true
    → begins_named flags order s a ≡ true
bounds_begin flags order s m a p is there h =
    begins_with flags order s m a is
    (ap (λ (o : Option Place). breaks m a || (is_bound_in (database_named flags order s) o
    || is_bound_in (frames_named flags order s) o)) there
    ∙ ap (λ (b : Bool). breaks m a || b) h ∙ or-true (breaks m a))

-- a run of addresses ends where its places do, or what is told of them
pub run_ends : (flags : ℕ) (order : ContributionOrder) (s : Streams) (m : Map)
    (address end n count : ℕ) (found : Option PdbInternalSectionOffset)
    (place : PdbInternalSectionOffset) → map_with order s ≡ Some m
    → found ≡ option_map internal_place (inner_place m address) → found ≡ Some place
    → ((k : ℕ) → k < n → inner_place m (address + k) ≡ place_on k (inner_place m address))
    → (address + n < end → breaks m (address + n) ≡ true) → count ≤ n
    → (count < n → is_bound_of (database_named flags order s) (frames_named flags order s)
    (on (place_of place) count) ≡ true)
    → address + count < end → begins_named flags order s (address + count) ≡ true
run_ends flags order s m address end n count found place is here some along ends few bound lt =
    elim (cases_lt count n) [
      | inl less ↦
          bounds_begin flags order s m (address + count) (on (place_of place) count) is
          (along count less
          ∙ ap (place_on count) (found_some (inner_place m address) found place here some))
          (bound less)
      | inr all ↦
          let same : n ≡ count = omega (arith, few, all) in
          breaks_begin flags order s m (address + count) is
          (subst (λ (k : ℕ). breaks m (address + k) ≡ true) same
          (ends (omega (arith, same, lt))))
    ]

-- the same of a run that was returned
pub if_ends : {E : Type 0} (r : Result ToldRun E) (flags : ℕ) (order : ContributionOrder)
    (s : Streams) (m : Map) (address end n : ℕ) (found : Option PdbInternalSectionOffset)
    (place : PdbInternalSectionOffset) → map_with order s ≡ Some m
    → found ≡ option_map internal_place (inner_place m address) → found ≡ Some place
    → ((k : ℕ) → k < n → inner_place m (address + k) ≡ place_on k (inner_place m address))
    → (address + n < end → breaks m (address + n) ≡ true) → IfOk r (λ run. run.count ≤ n)
    → IfOk r (EndsAtBound (is_bound_of (database_named flags order s)
    (frames_named flags order s)) (place_of place) n)
    → IfOk r (λ run. address + run.count < end
    → begins_named flags order s (address + run.count) ≡ true)
if_ends (Err e) flags order s m address end n found place is here some along ends few bound = tt
if_ends (Ok run) flags order s m address end n found place is here some along ends few bound =
    run_ends flags order s m address end n run.count found place is here some along ends few bound

-- by a context of the file
pub context_bound : (flags : ℕ) (order : ContributionOrder) (s : Streams)
    (c : Context (List KeptInfo)) (p : Place) → AnswersNamed flags order answered_in s c
    → is_bound_for c p ≡ true
    → is_bound_of (database_named flags order s) (frames_named flags order s) p ≡ true
context_bound flags order s c p is h =
    sym (ap (λ (db : Database Function). is_bound_of db (frames_in answered_in c) p) is.places
    ∙ ap (λ (db : Database (Option FunctionFrames)).
    is_bound_of (database_named flags order s) db p) is.by_frames) ∙ h
