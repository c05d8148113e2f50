use Rattle.std.proofs.Common.{Vec, Global, List, ap, sym, subst}
use Rattle.std.specs.Arc.{arc_value}
use Rattle.pdb_file_views.specs.Views.{Views}
use Rattle.pdb_file_views.specs.declared.file_views.FileView.{FileView}
use Rattle.pdb_file_views.proofs.SourceSteps.{Follow, made}
use Rattle.pdb_file_views.proofs.view_source.ViewSource.new.Goals as goal

pub invariant_of-result : goal.invariant_of-result
invariant_of-result c =
    let read : Views = record { size = c.views.inside.size; views = c.views.inside.views.items; whole = c.views.inside.whole; witness = c.views.inside.witness.numbers } in
    made c.args.views.now read c.views.inside.marks.items c.args.contents.now.numbers c.of.result.numbers c.in_ok-shares.shares.items (arc_value c.in_ok-new.field-0).items
    (sym c.views.view_is) c.views.invariant c.of.ensures
    (subst (λ (xs : List FileView). Follow xs c.in_ok-shares.shares.items) c.as_slice.ensures.value c.in_ok-shares.ensures) (ap (λ (v : Vec FileView Global). v.items) c.in_ok-new.ensures.ok)
