-- The texts of a tree, and the node that was handed on last.
use Rattle.std.specs.Prelude.{◌≡◌, ℕ, ◌-◌, List, Option, take, drop, option_and_then}
use Rattle.std.specs.List.{slice_get}
use Rattle.std.specs.Vec.{vec_len}
use Rattle.msvc_demangler.specs.declared.parser.Parser.{Parser}
use Rattle.msvc_demangler.specs.declared.tree.Node.{Node}
use Rattle.msvc_demangler.specs.declared.tree.Span.{Span}
use Rattle.msvc_demangler.specs.Words.{Text}

-- the bytes of a span
abbrev pub text_at : List ℕ → Span → Text
text_at texts span = take span.count (drop span.start texts)

-- the index of the node that was handed on last
abbrev pub last_value : Parser → Option ℕ
last_value p = slice_get p.values.items (vec_len p.values - 1)

-- the node that was handed on last
abbrev pub handed : Parser → Option Node
handed p = option_and_then (slice_get p.tree.nodes.items) (last_value p)

-- the tasks that are to be done stay
abbrev pub SameTasks : Parser → Parser → Type 0
SameTasks p q = (q.tasks.items ≡ p.tasks.items) × (q.planned.items ≡ p.planned.items)
