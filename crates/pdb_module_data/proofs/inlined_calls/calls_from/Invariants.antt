use Rattle.std.proofs.Common.{◌≡◌, ℕ, ◌<◌, ◌++◌, Some, length}
use Rattle.std.specs.Prelude.{slice_get}
use Rattle.std.specs.List.{flat_map}
use Rattle.pdb_module_data.specs.BriefSites.{IfKept}
use Rattle.pdb_module_data.specs.InlinedCalls.{calls_of, chain, chain_at, IsNested}
use Rattle.pdb_module_data.proofs.ChainSteps.{steps_of}
use Rattle.pdb_module_data.proofs.inlined_calls.calls_from.Given as goal

-- the calls so far, and those of the site that is next and of the ones that it lies in
abbrev pub invariant-loop-next : goal.invariant-loop-next
invariant-loop-next l =
    record {
      in_range : (k : ℕ) → l.next ≡ Some k → k < length l.sites;
      rest : IfKept l.sites l.of_sites (λ lines whole. IsNested whole
          → l.calls.items ++ flat_map (λ k. calls_of lines l.place (slice_get whole k)) (chain_at whole l.next) ≡ flat_map (λ k. calls_of lines l.place (slice_get whole k)) (chain whole l.number));
    }

abbrev pub decreases-loop-next : goal.decreases-loop-next
decreases-loop-next l = steps_of l.next
