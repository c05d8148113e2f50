use Rattle.std.proofs.Common.{◌≡◌, ◌++◌, drop}
use Rattle.pdb_pieces.specs.ShortSpans.{whole_spans}
use Rattle.pdb_pieces.proofs.short_spans.short_spans.Given as goal

-- the short spans so far stand for the first ones, and with those that are left these are all
abbrev pub invariant-loop-span : goal.invariant-loop-span
invariant-loop-span l = whole_spans l.short.items ++ drop l.span-index l.spans ≡ l.spans
