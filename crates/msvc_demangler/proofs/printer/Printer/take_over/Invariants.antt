use Rattle.std.proofs.Common.{◌≡◌, vec_len}
use Rattle.msvc_demangler.specs.Pieces.{before, in_order, last_first}
use Rattle.msvc_demangler.proofs.printer.Printer.take_over.Given as goal

-- what is printed in all stays
abbrev pub invariant-loop-piece : goal.invariant-loop-piece
invariant-loop-piece l = record {
  text : l.self.text.items ≡ l.fn.self.text.items;
  tree : l.self.tree.now ≡ l.fn.self.tree.now;
  pieces : before (last_first l.fn.self.tree.now l.fn.self.pieces.items)
      (in_order l.fn.self.tree.now l.fn.self.planned.items)
      ≡ before (last_first l.self.tree.now l.self.pieces.items)
      (in_order l.self.tree.now l.self.planned.items);
}

abbrev pub decreases-loop-piece : goal.decreases-loop-piece
decreases-loop-piece l = vec_len l.self.planned
