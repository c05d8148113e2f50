use Rattle.std.proofs.Common.{◌≡◌, ℕ, take}
use Rattle.pdb_pieces.specs.Spans.{best, AreWide}
use Rattle.pdb_pieces.proofs.cut.joined.Given as goal

-- what stands so far stands with the best of the spans so far
abbrev pub invariant-loop-span : goal.invariant-loop-span
invariant-loop-span l = record {
  wide : AreWide l.wide.items;
  law : (p : ℕ) → best l.wide.items p ≡ best (take l.span-index l.spans) p;
}
