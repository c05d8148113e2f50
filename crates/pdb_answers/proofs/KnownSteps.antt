-- What is known of functions whose frames can't be read stays right.
use Rattle.std.proofs.Common.{◌≡◌, ◌≢◌, ℕ, Option, None, Some, Result, Ok, Err, false, refl, sym, ap, subst, ◌∙◌, inl, inr, arith}
use Rattle.std.specs.BTreeMap.{Updates, IsUnchanged, get, is_at}
use Rattle.std.specs.Ordering.{nat_cmp}
use Rattle.std.proofs.lemmas.Bool.Decides.{eqb_tells, nat_tests}
use Rattle.pdb_container.specs.Fault as container
use Rattle.pdb_symbols_modules.specs.ModuleStream.{ModuleStream}
use Rattle.pdb_module_data.specs.Procedures.{Procedure}
use Rattle.pdb_module_data.specs.FunctionLine.{function_rows}
use Rattle.pdb_known_modules.specs.KnownModules.{ModuleData, ExtendedModule, extended_of, procedure_sites}
use Rattle.pdb_frames.specs.Choice.{Chosen, Proc, Public, start_of}
use Rattle.pdb_frames.specs.FailingParts.{failing_first, failing_sites, failing_procedure, failing_by, failing_in}
use Rattle.pdb_frames.specs.Failing.{Part, ExtendedModule as Extended, ProcedureLines, ProcedureInlineRanges}
use Rattle.pdb_answers.specs.declared.known_failures.KnownFailure.{KnownFailure}
use Rattle.pdb_answers.specs.declared.known_failures.KnownFailures.{KnownFailures}
use Rattle.pdb_answers.specs.KnownFailures.{IsAbout, those_like, those_failing, IsFailureOf, AreFailuresOf}

-- ---- line program and inlinees that fail, fail for each function of their module

lines_are_no_module : (m n : ℕ) {start : _} → Some (ProcedureLines m start) ≡ Some (Extended n) → ⊥
lines_are_no_module m n h = cc

sites_are_no_module : (m n : ℕ) {start : _} → Some (ProcedureInlineRanges m start) ≡ Some (Extended n) → ⊥
sites_are_no_module m n h = cc

none_is_no_part : (part : Part) → None ≡ Some part → ⊥
none_is_no_part part h = cc

first_is_no_module : {A E : Type 0} (r : Result A E) (part : Part) (others : Option Part) (n : ℕ) → (Some part ≡ Some (Extended n) → ⊥) → (others ≡ Some (Extended n) → ⊥) → failing_first r part others ≡ Some (Extended n) → ⊥
first_is_no_module (Ok x) part others n this those h = those h
first_is_no_module (Err e) part others n this those h = this h

sites_fail_alone : (m n : ℕ) (stream : ModuleStream) (c : Chosen) → failing_sites m stream c ≡ Some (Extended n) → ⊥
sites_fail_alone m n stream (Proc q) h = first_is_no_module (procedure_sites stream q) (ProcedureInlineRanges m q.offset) None n (sites_are_no_module m n) (none_is_no_part (Extended n)) h
sites_fail_alone m n stream (Public f) h = none_is_no_part (Extended n) h

procedure_fails_alone : (m n : ℕ) (stream : ModuleStream) (extended : ExtendedModule) (c : Chosen) → failing_procedure m stream extended c ≡ Some (Extended n) → ⊥
procedure_fails_alone m n stream extended c h =
    first_is_no_module (function_rows extended.program (start_of c)) (ProcedureLines m (start_of c)) (failing_sites m stream c) n (lines_are_no_module m n) (sites_fail_alone m n stream c) h

by_module : (m n : ℕ) (stream : ModuleStream) (c other : Chosen) (read : Result ExtendedModule container.Fault) → failing_by m stream c read ≡ Some (Extended n) → failing_by m stream other read ≡ Some (Extended n)
by_module m n stream c other (Ok extended) h = absurd (procedure_fails_alone m n stream extended c h)
by_module m n stream c other (Err e) h = h

in_module : (m n : ℕ) (known : Option ModuleData) (c other : Chosen) → failing_in m known c ≡ Some (Extended n) → failing_in m known other ≡ Some (Extended n)
in_module m n None c other h = absurd (none_is_no_part (Extended n) h)
in_module m n (Some held) c other h = by_module m n held.stream c other (extended_of held.stream) h

-- ---- what fails first depends on start and symbols

by_procedure : (m : ℕ) (stream : ModuleStream) (a b : Procedure) (read : Result ExtendedModule container.Fault) → a.offset ≡ b.offset → a.symbol_index ≡ b.symbol_index → a.end_symbol_index ≡ b.end_symbol_index
    → failing_by m stream (Proc a) read ≡ failing_by m stream (Proc b) read
by_procedure m stream a b (Ok extended) start symbol end = rw (start, symbol, end) refl
by_procedure m stream a b (Err e) start symbol end = refl

by_public : (m : ℕ) (stream : ModuleStream) (a b : _) (read : Result ExtendedModule container.Fault) → start_of (Public a) ≡ start_of (Public b)
    → failing_by m stream (Public a) read ≡ failing_by m stream (Public b) read
by_public m stream a b (Ok extended) start = rw start refl
by_public m stream a b (Err e) start = refl

alike : (m : ℕ) (known : Option ModuleData) (c other : Chosen) → IsAbout (those_like c) other → failing_in m known other ≡ failing_in m known c
alike m None c other about = refl
alike m (Some held) (Proc q) (Proc p) about = by_procedure m held.stream p q (extended_of held.stream) about.start about.symbol about.end
alike m (Some held) (Proc q) (Public f) about = absurd about
alike m (Some held) (Public f) (Proc q) about = absurd about
alike m (Some held) (Public f) (Public e) about = by_public m held.stream e f (extended_of held.stream) about

fails_alike : (m : ℕ) (known : Option ModuleData) (c : Chosen) (part : Part) → failing_in m known c ≡ Some part → (other : Chosen) → IsAbout (those_failing c part) other → failing_in m known other ≡ Some part
fails_alike m known c (Extended n) h other about = in_module m n known c other h
fails_alike m known c (ProcedureLines n start) h other about = alike m known c other about ∙ h
fails_alike m known c (ProcedureInlineRanges n start) h other about = alike m known c other about ∙ h

-- ---- what is stored

apart_is_not_at : (k q : ℕ) → q ≢ k → is_at (nat_cmp k) q ≡ false
apart_is_not_at k q apart = grind (arith, nat_tests)

failure_of : (own : ℕ → Option ModuleData) (m : ℕ) (c : Chosen) (part : Part) (one : KnownFailure) → one ≡ record { module_index = m; asked = those_failing c part; part = part }
    → failing_in m (own m) c ≡ Some part → IsFailureOf own one
failure_of own m c part one is h = rw is record { each = λ other about. fails_alike m (own m) c part h other about }

each_now : (own : ℕ → Option ModuleData) (old new : KnownFailures) (n : ℕ) (one : KnownFailure) → Updates nat_cmp old.by_number new.by_number n (Some one) → IsFailureOf own one → AreFailuresOf own old
    → (k : ℕ) (found : KnownFailure) → get nat_cmp new.by_number k ≡ Some found → IsFailureOf own found
each_now own old new n one updates is known k found at = elim (eqb_tells k n) [
  | inl same ↦
      let now : get nat_cmp new.by_number k ≡ Some one = ap (get nat_cmp new.by_number) (same.1) ∙ updates.1 in
      let same_one : found ≡ one = cc in
      rw same_one is
  | inr apart ↦ known.each k found (sym (updates.2 k (apart_is_not_at n k (apart.1))) ∙ at)
]

-- with a part that can't be read, all that is known is still right
pub known_now : (own : ℕ → Option ModuleData) (old new : KnownFailures) (n m : ℕ) (c : Chosen) (part : Part) (one : KnownFailure) → Updates nat_cmp old.by_number new.by_number n (Some one)
    → one ≡ record { module_index = m; asked = those_failing c part; part = part } → failing_in m (own m) c ≡ Some part → AreFailuresOf own old → AreFailuresOf own new
known_now own old new n m c part one updates is h known = record { each = each_now own old new n one updates (failure_of own m c part one is h) known }

-- and where nothing changed
pub known_before : (own : ℕ → Option ModuleData) (old new : KnownFailures) → IsUnchanged old.by_number new.by_number → AreFailuresOf own old → AreFailuresOf own new
known_before own old new same known = record { each = λ k found at. known.each k found (rw (← same) at) }

-- what is found that is about a function is the part that fails in it
pub known_part : (own : ℕ → Option ModuleData) (known : KnownFailures) (n m : ℕ) (c : Chosen) (one : KnownFailure) → AreFailuresOf own known → get nat_cmp known.by_number n ≡ Some one → one.module_index ≡ m
    → IsAbout one.asked c → failing_in m (own m) c ≡ Some one.part
known_part own known n m c one are at same about = subst (λ k. failing_in k (own k) c ≡ Some one.part) same ((are.each n one at).each c about)
