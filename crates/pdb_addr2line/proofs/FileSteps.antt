-- A symbolizer of a file that is read on demand.
use Rattle.std.proofs.Common.{◌≡◌, ℕ, true, List, Result, Ok, Err, refl, sym, ap, subst, ◌∙◌}
use Rattle.std.specs.Prelude.{Option, None, Some, IfOk, IfSome}
use Rattle.pdb_addr2line.specs.Choice.{Parts}
use Rattle.pdb_loading.specs.declared.order.ContributionOrder.{ContributionOrder}
use Rattle.pdb_addr2line.specs.Context.{Context, lasting, scope_in}
use Rattle.pdb_frames.specs.FrameRuns.{frames_here, frames_of_places, if_answered, readable}
use Rattle.pdb_owners.specs.Databases.{Database, IsOneRun, place_of}
use Rattle.pdb_addresses.specs.declared.internal_section_offset.PdbInternalSectionOffset.{PdbInternalSectionOffset}
use Rattle.pdb_addr2line.specs.Formatters.{context_with, formatting_of, with_modules}
use Rattle.pdb_addr2line.specs.Printing.{Formatting}
use Rattle.pdb_addr2line.proofs.HeldModules.{parts_last, parts_of_context}
use Rattle.pdb_file_views.specs.Views.{Grows, Views, agrees}
use Rattle.pdb_loading.specs.Held.{Held, kept_infos}
use Rattle.pdb_loading.specs.LoadFaults.{Refuses, load_fault_in_context}
use Rattle.pdb_loading.specs.LoadedFile.{IsHeld, IsLoadedWith}
use Rattle.pdb_loading.specs.Loading.{load_fault_with}
use Rattle.pdb_loading.proofs.LoadingSteps.{kept_loads, parts_load, parts_refuse}
use Rattle.pdb_loading.specs.ModuleInfos.{KeptInfo}
use Rattle.pdb_loading.proofs.OnDemand.{modules_of_loaded}
use Rattle.pdb_symbols_modules.specs.Modules.{modules_of}
use Rattle.pdb_symbols_modules.specs.Streams.{Streams, streams}
use Rattle.pdb_addr2line.specs.FailingParts.{Failures, no_failures, told}
use Rattle.pdb_container.specs.declared.error.Error.TheVariants as causes
use Rattle.pdb_owners.specs.Frames.{FunctionFrames}
use Rattle.pdb_resolving.specs.declared.error.Error.{Error}
use Rattle.pdb_resolving.specs.declared.error.Error.TheVariants as errors
use Rattle.pdb_resolving.specs.Fault.{Answers, Fails, Fault}
use Rattle.pdb_addr2line.specs.FileFrames.{FindsHeldFrames, found_by}
use Rattle.pdb_addr2line.specs.Answer.{AnswersNamed, map_with, answer_named, answer_of, answered_in, frames_named}
use Rattle.pdb_addr2line.specs.FileAnswers.{FileAnswers, IsContextOf, IsKnown, IsOfContents, with_context}
use Rattle.pdb_addr2line.proofs.OpeningSteps.{context_answers, map_kept}

-- a file that is held, and its first context
pub opened : (order : ContributionOrder) (flags : ℕ) (views : Views) (contents : List ℕ) (file : List ℕ) (h : Held) (c : Context (List KeptInfo)) → (agrees views contents ≡ true → file ≡ contents) → IsHeld file h
    → context_with order h flags ≡ Ok c → IsOfContents (record { views = views; contents = contents; order = order; flags = flags; held = h; context = Some c })
opened order flags views contents file h c same is_held made =
    let parts_are = parts_of_context order h flags c c.parts made refl in
    let is = parts_load order file h c.parts is_held parts_are in
    record {
      ordered = is.ordered;
      held_is = λ known. subst (λ (f : List ℕ). IsLoadedWith order f h) (same known) is;
      context_is = record {
        parts = parts_are;
        answers = λ known. context_answers flags order contents h c (subst (λ (f : List ℕ). IsLoadedWith order f h) (same known) is) made;
      };
    }

-- the fault of its parts is the file's
pub parts_refused : (order : ContributionOrder) (flags : ℕ) (views : Views) (contents : List ℕ) (file : List ℕ) (h : Held) (e : Error) → (agrees views contents ≡ true → file ≡ contents) → IsHeld file h
    → Fails e (context_with order h flags) → agrees views contents ≡ true → Refuses (load_fault_in_context e) (load_fault_with order (streams contents))
parts_refused order flags views contents file h e same is_held failed known =
    subst (λ (f : List ℕ). Refuses (load_fault_in_context e) (load_fault_with order (streams f))) (same known)
    (parts_refuse order file h (λ parts. record { provider = h.infos; parts = parts; formatting = formatting_of h flags; lookups = 0; failed = no_failures }) e is_held failed)

-- a file that was opened has no loading fault
pub known_loads : (f : FileAnswers) → IsOfContents f → IsKnown f → load_fault_with f.order (streams f.contents) ≡ None
known_loads f is known = kept_loads f.order f.contents f.held (is.held_is known)

context_grown : (f : FileAnswers) (views : Views) (context : Option (Context (List KeptInfo))) → Grows f.views views → IfSome context (IsContextOf f) → IfSome context (IsContextOf (record { views = views; contents = f.contents; order = f.order; flags = f.flags; held = f.held; context = context }))
context_grown f views None grows is = tt
context_grown f views (Some c) grows is = record { parts = is.parts; answers = λ known. is.answers (grows f.contents known) }

-- more was read
pub grown : (f : FileAnswers) (views : Views) → IsOfContents f → Grows f.views views → IsOfContents (record { views = views; contents = f.contents; order = f.order; flags = f.flags; held = f.held; context = f.context })
grown f views is grows = record {
  ordered = is.ordered;
  held_is = λ known. is.held_is (grows f.contents known);
  context_is = context_grown f views f.context grows is.context_is;
}

-- the context was let go
pub without_context : (f : FileAnswers) → IsOfContents f → IsOfContents (with_context f None)
without_context f is = record { ordered = is.ordered; held_is = is.held_is; context_is = tt }

-- a context was put back
pub context_put : (f : FileAnswers) (c : Context (List KeptInfo)) → IsOfContents f → IsContextOf f c → IsOfContents (with_context f (Some c))
context_put f c is of = record { ordered = is.ordered; held_is = is.held_is; context_is = record { parts = of.parts; answers = of.answers } }

abbrev loaded_over : (order : ContributionOrder) (file : List ℕ) (h : Held) (infos : List KeptInfo) → IsLoadedWith order file h → infos ≡ kept_infos (streams file) (modules_of h.debug_information.modules).items → IsLoadedWith order file (with_modules h infos)
loaded_over order file h infos is same = record {
  parts = is.parts;
  loaded_is = is.loaded_is;
  parts_are = is.parts_are;
  ordered = is.ordered;
  names_are = is.names_are;
  modules_are = modules_of_loaded order file h infos is same;
}

-- a context over new modules
pub renewed : (f : FileAnswers) (infos : List KeptInfo) (c : Context (List KeptInfo)) → IsOfContents f
    → (agrees f.views f.contents ≡ true → infos ≡ kept_infos (streams f.contents) (modules_of f.held.debug_information.modules).items)
    → context_with f.order (with_modules f.held infos) f.flags ≡ Ok c → IsOfContents (with_context f (Some c))
renewed f infos c is same made = record {
  ordered = is.ordered;
  held_is = is.held_is;
  context_is = record {
    parts = parts_of_context f.order (with_modules f.held infos) f.flags c c.parts made refl;
    answers = λ known. context_answers f.flags f.order f.contents (with_modules f.held infos) c (loaded_over f.order f.contents f.held infos (is.held_is known) (same known)) made;
  };
}

-- a formatter over new modules is one of the file
pub formatter_known : (f : FileAnswers) (infos : List KeptInfo) (flags : ℕ) (formatter : Formatting (List KeptInfo)) → IsOfContents f
    → (agrees f.views f.contents ≡ true → infos ≡ kept_infos (streams f.contents) (modules_of f.held.debug_information.modules).items)
    → formatter ≡ formatting_of (with_modules f.held infos) flags → IsKnown f
    → (h : Held) × IsLoadedWith f.order f.contents h × (formatter ≡ formatting_of h flags)
formatter_known f infos flags formatter is same made known =
    (with_modules f.held infos, loaded_over f.order f.contents f.held infos (is.held_is known) (same known), made)

-- ---- a context that was asked

answers_last : (flags : ℕ) (order : ContributionOrder) (s : Streams) (c d : Context (List KeptInfo)) → lasting d ≡ lasting c → AnswersNamed flags order answered_in s c → AnswersNamed flags order answered_in s d
answers_last flags order s c d same h =
    let at_last : AnswersNamed flags order answered_in s (lasting c) = record { frames = h.frames; functions = h.functions; places = h.places; by_frames = h.by_frames; by_file = h.by_file; list = h.list } in
    let now : AnswersNamed flags order answered_in s (lasting d) = subst (AnswersNamed flags order answered_in s) (sym same) at_last in
    record { frames = now.frames; functions = now.functions; places = now.places; by_frames = now.by_frames; by_file = now.by_file; list = now.list }

-- asking leaves a context one of the file
pub context_asked : (f : FileAnswers) (c d : Context (List KeptInfo)) → lasting d ≡ lasting c → IsContextOf f c → IsContextOf f d
context_asked f c d same is = record {
  parts = is.parts ∙ ap (λ (p : Parts). let r : Result Parts Fault = Ok p in r) (sym (parts_last d c same));
  answers = λ known. answers_last f.flags f.order (streams f.contents) c d same (is.answers known);
}

-- the context that is there is one of the file
pub context_there : (f : FileAnswers) (c : Context (List KeptInfo)) → f.context ≡ Some c → IsOfContents f → IsContextOf f c
context_there f c there is = subst (λ (x : Option (Context (List KeptInfo))). IfSome x (IsContextOf f)) there is.context_is

-- asking it leaves what is held and answered that of the file
pub asked : (f : FileAnswers) (c d : Context (List KeptInfo)) → f.context ≡ Some c → lasting d ≡ lasting c → IsOfContents f → IsOfContents (with_context f (Some d))
asked f c d there same is = context_put f d is (context_asked f c d same (context_there f c there is))

-- the address map that is held is the file's
pub map_known : (f : FileAnswers) → IsOfContents f → IsKnown f → map_with f.order (streams f.contents) ≡ Some f.held.tables.map
map_known f is known = map_kept f.order f.contents f.held (is.held_is known)

-- ---- frames

-- a part that stands as failed has another fault, and is a fault
pub told_found : (r : Result (Option FunctionFrames) Error) (failures : Failures) (part : Option _) (answered : Result (Option FunctionFrames) Fault) → Answers (λ x. x) r (told failures part answered) → FindsHeldFrames r answered
told_found (Ok found) failures part (Ok x) h = h
told_found (Ok found) failures part (Err e) h = absurd cc
told_found (Err errors.OutOfMemory) failures part answered h = tt
told_found (Err (errors.PdbError causes.OutOfMemory)) failures part answered h = absurd h
told_found (Err (errors.FormatError e)) failures part answered h = absurd h
told_found (Err e) failures part (Ok x) h = absurd cc
told_found (Err e) failures part (Err x) h = refl

-- the frames that a context finds are the file's
pub frames_found : (f : FileAnswers) (c : Context (List KeptInfo)) (probe : ℕ) (r : Result (Option FunctionFrames) Error) (failures : Failures) (part : Option _) → f.context ≡ Some c → IsOfContents f → IsKnown f
    → Answers (λ x. x) r (told failures part (answer_of answered_in c probe)) → FindsHeldFrames r (answer_named f.flags f.order (streams f.contents) probe)
frames_found f c probe r failures part there is known answered =
    told_found r failures part (answer_named f.flags f.order (streams f.contents) probe)
    (subst (λ (a : ℕ → Result (Option FunctionFrames) Fault). Answers (λ x. x) r (told failures part (a probe))) ((context_there f c there is).answers known).frames answered)

-- ---- runs of frames

found_here : (r : Result (Option FunctionFrames) Fault) → readable r ≡ found_by (if_answered r)
found_here (Ok None) = refl
found_here (Ok (Some frames)) = refl
found_here (Err e) = refl

same_found : (x y : Option FunctionFrames) → (let r : Result (Option FunctionFrames) Fault = Ok x in r) ≡ Ok y → x ≡ y
same_found x y is = cc

ran : (run : Result (Option FunctionFrames × ℕ) Error) (answered : Result (Option FunctionFrames) Fault) → Answers (λ r. r.0) run (Ok (readable answered)) → IfOk run (λ r. r.0 ≡ found_by (if_answered answered))
ran (Ok r) answered is = sym (same_found (readable answered) r.0 is) ∙ found_here answered
ran (Err e) answered is = tt

-- the frames that a context finds at a place are the file's
pub run_found : (f : FileAnswers) (c : Context (List KeptInfo)) (place : PdbInternalSectionOffset) (run : Result (Option FunctionFrames × ℕ) Error) → f.context ≡ Some c → IsOfContents f → IsKnown f
    → Answers (λ r. r.0) run (Ok (readable (frames_here c.parts (scope_in answered_in c) place))) → IfOk run (λ r. r.0 ≡ found_by ((frames_named f.flags f.order (streams f.contents)).answer (place_of place)))
run_found f c place run there is known answered =
    subst (λ (db : Database (Option FunctionFrames)). IfOk run (λ r. r.0 ≡ found_by (db.answer (place_of place)))) ((context_there f c there is).answers known).by_frames
    (ran run (frames_here c.parts (scope_in answered_in c) place) answered)

-- and so is how far they go on
pub run_counted : (f : FileAnswers) (c : Context (List KeptInfo)) (place : PdbInternalSectionOffset) (limit : ℕ) (run : Result (Option FunctionFrames × ℕ) Error) → f.context ≡ Some c → IsOfContents f → IsKnown f
    → IfOk run (λ r. IsOneRun (frames_of_places c.parts (scope_in answered_in c)) (place_of place) limit r.1) → IfOk run (λ r. IsOneRun (frames_named f.flags f.order (streams f.contents)) (place_of place) limit r.1)
run_counted f c place limit run there is known counted =
    subst (λ (db : Database (Option FunctionFrames)). IfOk run (λ r. IsOneRun db (place_of place) limit r.1)) ((context_there f c there is).answers known).by_frames counted
