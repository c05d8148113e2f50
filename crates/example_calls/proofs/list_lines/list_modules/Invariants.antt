use Rattle.std.specs.Prelude.{length}
use Rattle.example_calls.proofs.list_lines.list_modules.Given as goal

-- each step gives one of the modules that are still to come
abbrev pub decreases-loop-module : goal.decreases-loop-module
decreases-loop-module g l = length l.modules.items
