use Rattle.std.proofs.Common.{◌≡◌, drop, map}
use Rattle.msvc_demangler.specs.References.{is_among}
use Rattle.msvc_demangler.specs.Texts.{text_at}
use Rattle.msvc_demangler.proofs.references.is_remembered.Given as goal

-- the name is among all exactly if it is among those that are left
abbrev pub invariant-loop-other : goal.invariant-loop-other
invariant-loop-other l = is_among l.name (map (text_at l.tree.texts.items) l.known)
    ≡ is_among l.name (map (text_at l.tree.texts.items) (drop l.other-index l.known))
