use Rattle.std.proofs.Common.{◌≡◌}
use Rattle.recorded_cases.specs.Streams.{AreFirst}
use Rattle.recorded_cases.proofs.streams.all_streams.Given as goal

abbrev pub invariant-loop-number : goal.invariant-loop-number
invariant-loop-number l = (l.container.items ≡ l.initial.container.items) × AreFirst l.container.items l.number l.streams.items
