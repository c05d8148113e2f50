-- What is cached of modules and what is known to fail stay right while more is read.
use Rattle.std.proofs.Common.{◌≡◌, ℕ, List, Option, sym, ap, subst, ◌∙◌}
use Rattle.pdb_resolving.specs.Resolving.{Provided}
use Rattle.pdb_known_modules.specs.CachedModules.{AreKept, known_in}
use Rattle.pdb_known_modules.specs.KnownModules.{ModuleData}
use Rattle.pdb_frames.specs.Choice.{Parts}
use Rattle.pdb_frames.specs.FailingParts.{Failures}
use Rattle.pdb_frames.specs.Printing.{Formatting}
use Rattle.pdb_answers.specs.KnownFailures.{AreFailuresOf, data_among, data_of_modules}
use Rattle.pdb_answers.specs.PlaceAnswers.{StayFailuresOf}
use Rattle.pdb_answers.specs.Symbolizers.{Symbolizer}
use Rattle.pdb_answers.specs.declared.known_failures.KnownFailures.{KnownFailures}

-- what is cached of the module that holds a place are its data
pub data_known : {P : Type 0} (provided : P → Provided) (provider : P) (f : Formatting P)
    (cached : List (Option (Option ModuleData))) {held m number : ℕ} {known : Option ModuleData}
    → known_in cached held ≡ data_among provided provider f held → m ≡ held → number ≡ m
    → known ≡ known_in cached number → data_of_modules provided provider f m ≡ known
unfolding data_of_modules
data_known provided provider f cached own here same found =
    sym (found ∙ ap (λ (n : ℕ). known_in cached n) (same ∙ here) ∙ own
    ∙ ap (λ (n : ℕ). data_among provided provider f n) (sym here))

-- After calls that leave provider and namer, and one that may know of more that fails, what is
-- cached is still the modules' own, and what is known to fail does.
pub stay_right : {P : Type 0} (provided : P → Provided) (namer : Formatting P) (m : ℕ)
    {old new : P} {after : Formatting P} {known : Option ModuleData}
    {cached : List (Option (Option ModuleData))} {first last : KnownFailures}
    → new ≡ old → after ≡ namer → data_of_modules provided old namer m ≡ known
    → StayFailuresOf m known first last
    → AreKept (λ n. data_among provided old namer n) cached
    → AreFailuresOf (data_of_modules provided old namer) first
    → AreKept (λ n. data_among provided new after n) cached
    × AreFailuresOf (data_of_modules provided new after) last
stay_right provided namer m {old} {new} {after} {cached = cached} {last = last} same stays own
    stay kept are = (
      subst (λ p. AreKept (λ n. data_among provided p after n) cached) (sym same)
          (subst (λ f. AreKept (λ n. data_among provided old f n) cached) (sym stays) kept),
      subst (λ p. AreFailuresOf (data_of_modules provided p after) last) (sym same)
          (subst (λ f. AreFailuresOf (data_of_modules provided old f) last) (sym stays)
          (stay (data_of_modules provided old namer) own are)),
    )

-- a symbolizer is seen alike by parts that stayed
pub seen_by : {P : Type 0} {provider : P} {formatting : Formatting P} {parts after : Parts}
    {failed : Failures} {s : Symbolizer P} → after ≡ parts
    → record {
      provider = provider;
      parts = parts;
      formatting = formatting;
      failed = failed;
    } ≡ s → record {
      provider = provider;
      parts = after;
      formatting = formatting;
      failed = failed;
    } ≡ s
seen_by same is = rw same is
