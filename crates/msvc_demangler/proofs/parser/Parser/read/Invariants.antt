use Rattle.std.proofs.Common.{◌≡◌, ◌≤◌, [], ◌⊎◌, ◌∷◌, IsSome}
use Rattle.msvc_demangler.specs.declared.tasks.Task.TheVariants.{Symbol}
use Rattle.msvc_demangler.specs.Literals.{IsUnreadLiteral, handed_literal, literal_name}
use Rattle.msvc_demangler.proofs.parser.Parser.read.Given as goal

-- a task is counted each time; a string literal is to be read, or was read and is all
abbrev pub invariant-loop-number : goal.invariant-loop-number
invariant-loop-number l = record {
  few : l.tasks ≤ l.number;
  literal : IsUnreadLiteral l.fn.self
      → (((l.self.tasks.items ≡ Symbol ∷ []) × (l.self.planned.items ≡ [])
      × (l.self.rest.now ≡ l.fn.self.rest.now))
      ⊎ ((l.self.tasks.items ≡ []) × (l.self.planned.items ≡ [])
      × (handed_literal l.self ≡ literal_name l.fn.self.rest.now)
      × IsSome (literal_name l.fn.self.rest.now)));
}
