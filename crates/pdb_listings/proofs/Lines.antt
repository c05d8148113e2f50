-- The line at an address, by its place.
use Rattle.std.proofs.Common.{◌≡◌, ℕ, ◌+◌, ◌<◌, Bool, true, false, refl, sym, ap, ◌∙◌, subst, arith}
use Rattle.std.specs.Prelude.{Option, None, Some, Result, Ok, Err, option_map, if◌then◌else◌}
use Rattle.pdb_addresses.specs.Addresses.{Map, inner, inner_place}
use Rattle.pdb_addresses.specs.Places.{Place, internal_place}
use Rattle.pdb_addresses.specs.SectionRun.{place_on}
use Rattle.pdb_addresses.specs.declared.internal_section_offset.PdbInternalSectionOffset.{PdbInternalSectionOffset}
use Rattle.pdb_addr2line.specs.Context.{Context, scope_in}
use Rattle.pdb_frames.specs.Choice.{Parts, held_at}
use Rattle.pdb_frames.specs.FrameRuns.{frames_here, frames_of_places, if_answered, readable}
use Rattle.pdb_frames.specs.FramesAt.{frames, frames_if_held}
use Rattle.pdb_frames.specs.Scopes.{Scope}
use Rattle.pdb_owners.specs.Counts.{is_last}
use Rattle.pdb_owners.specs.Databases.{IsOneRun, on, place_of}
use Rattle.pdb_owners.specs.Frames.{FunctionFrames}
use Rattle.pdb_resolving.specs.Fault.{Fault}
use Rattle.pdb_resolving.specs.Resolving.{Provided}
use Rattle.pdb_listings.specs.Runs.{Line, counted_line, counted_place, line_in, line_seen}
use Rattle.pdb_listings.specs.declared.line_runs.Line.{Line as LineFound}

-- frames that are counted alike are read alike
readable_same : (x y : Result (Option FunctionFrames) Fault) → if_answered x ≡ if_answered y → readable x ≡ readable y
readable_same (Err e) (Err f) h = refl
readable_same (Err e) (Ok None) h = (cc)
readable_same (Err e) (Ok (Some g)) h = (cc)
readable_same (Ok None) (Err f) h = (cc)
readable_same (Ok None) (Ok None) h = refl
readable_same (Ok None) (Ok (Some g)) h = (cc)
readable_same (Ok (Some g)) (Err f) h = (cc)
readable_same (Ok (Some g)) (Ok None) h = (cc)
readable_same (Ok (Some g)) (Ok (Some i)) h = (cc)

-- the line at what may be a place
abbrev line_there : Parts → (ℕ → Scope) → Option Place → Option Line
line_there p scope o = line_in (readable (frames_if_held p scope (held_at p (option_map internal_place o))))

by_frames : (p : Parts) (scope : ℕ → Scope) (a : ℕ) → line_in (readable (frames p scope a)) ≡ line_there p scope (inner_place p.map a)
unfolding frames
by_frames p scope a = refl

by_last : (p : Parts) (scope : ℕ → Scope) (b : Bool) (o : Option Place)
    → ◌≡◌ {A = Option Line} (if b then None else line_there p scope o) (line_there p scope (if b then None else o))
by_last p scope true o = refl
by_last p scope false o = refl

-- the line at an address is that at its place
by_place : {P : Type 0} (provided : P → Provided) (c : Context P) (a : ℕ)
    → counted_line provided c a ≡ line_there c.parts (scope_in provided c) (counted_place (c.parts).map a)
by_place provided c a =
    ap (λ (l : Option Line). if is_last (inner (c.parts).map a) then None else l) (by_frames c.parts (scope_in provided c) a)
    ∙ by_last c.parts (scope_in provided c) (is_last (inner (c.parts).map a)) (inner_place (c.parts).map a)

-- addresses without a place have no line
pub no_line : {P : Type 0} (provided : P → Provided) (c : Context P) (m : Map) (a n : ℕ) → m ≡ (c.parts).map
    → ((k : ℕ) → k < n → counted_place m (a + k) ≡ None) → (k : ℕ) → k < n → counted_line provided c (a + k) ≡ None
no_line provided c m a n same along k lt =
    by_place provided c (a + k)
    ∙ ap (line_there c.parts (scope_in provided c)) (subst (λ (n : Map). counted_place n (a + k) ≡ None) same (along k lt))

-- addresses with places of one run have the line of the first
pub run_line : {P : Type 0} (provided : P → Provided) (c : Context P) (m : Map) (a limit n : ℕ) (place : PdbInternalSectionOffset)
    (found : Option FunctionFrames) (line : Option LineFound) → m ≡ (c.parts).map
    → ((k : ℕ) → k < limit → counted_place m (a + k) ≡ place_on k (Some (place_of place)))
    → IsOneRun (frames_of_places c.parts (scope_in provided c)) (place_of place) limit n
    → ◌≡◌ {A = Result (Option FunctionFrames) Fault} (Ok (readable (frames_here c.parts (scope_in provided c) place))) (Ok found)
    → option_map line_seen line ≡ line_in found
    → (k : ℕ) → k < n → counted_line provided c (a + k) ≡ option_map line_seen line
run_line provided c m a limit n place found line same along run first seen k lt =
    let scope = scope_in provided c in
    let p = place_of place in
    let within = run.within in
    let read : readable (frames_here c.parts scope place) ≡ found = (cc) in
    by_place provided c (a + k)
    ∙ ap (line_there c.parts scope) (subst (λ (n : Map). counted_place n (a + k) ≡ place_on k (Some p)) same (along k (omega (arith, within, lt))))
    ∙ ap line_in (readable_same (frames_here c.parts scope (internal_place (on p k))) (frames_here c.parts scope (internal_place p)) (run.alike k lt) ∙ read)
    ∙ sym seen
