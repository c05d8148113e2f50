use Rattle.std.proofs.Common.{◌≡◌, ◌≤◌, ℕ, List, [], Some}
use Rattle.msvc_demangler.specs.Pieces.{whole_text}
use Rattle.msvc_demangler.proofs.printer.Printer.print.Given as goal

-- a piece is counted each time; what is printed in all stays
abbrev pub invariant-loop-step : goal.invariant-loop-step
invariant-loop-step l = record {
  few : l.pieces ≤ l.step;
  text : (text : List ℕ) → l.fn.self.planned.items ≡ [] → whole_text l.fn.self ≡ Some text
      → (whole_text l.self ≡ Some text) × (l.self.planned.items ≡ []);
}
