use Rattle.std.proofs.Common.{ap, ◌∙◌, arith}
use Rattle.std.proofs.lemmas.List.{length-map}
use Rattle.pdb_addresses.specs.SectionRun.{nearer}
use Rattle.pdb_pieces.proofs.Halving.{number_read}
use Rattle.pdb_pieces.proofs.Next.{first_past, none_past}
use Rattle.pdb_pieces.proofs.ascending.to_next.Goals as goal

pub returns-then-passed-items : goal.returns-then-passed-items
returns-then-passed-items g c =
    let read = number_read g.T.Begins.beginning c.args.items.now c.count_begun-passed.result.0
    c.index-items-passed.result c.if-passed-items.true c.index-items-passed.is in
    c.nearer.ensures ∙ ap (λ n. nearer c.args.place n c.args.far) c.begins_at.ensures
    ∙ first_past 0 _ c.args.place c.args.far _ _ c.requires c.count_begun-passed.ensures.begun read

pub returns-else-passed-items : goal.returns-else-passed-items
returns-else-passed-items g c =
    none_past _ c.args.place c.args.far _ c.count_begun-passed.ensures.begun
    (simp length-map (omega arith))
