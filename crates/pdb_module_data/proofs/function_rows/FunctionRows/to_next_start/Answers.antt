use Rattle.std.proofs.Common.{◌≡◌, ℕ, List, map, sym, ap, subst, ◌∙◌}
use Rattle.pdb_addresses.specs.SectionRun.{up_to_next}
use Rattle.pdb_pieces.specs.Halving.{Ascend}
use Rattle.pdb_pieces.proofs.Next.{sorted_ascend}
use Rattle.pdb_module_data.specs.FunctionLine.{row_starts}
use Rattle.pdb_module_data.specs.RowPieces.{AreAscending, AreSearchable}
use Rattle.pdb_module_data.proofs.AscendingRows.{starts_ascend, next_of_ascending}
use Rattle.pdb_module_data.proofs.function_rows.FunctionRows.to_next_start.Goals as goal

pub to_next-requires : goal.to_next-requires
to_next-requires c =
    let known = subst (AreSearchable c.self.inside.rows.items) c.in-None.is c.self.invariant in
    starts_ascend 0 c.as_slice.result.now
    (subst (AreAscending 0) (sym c.as_slice.ensures.value) known)

pub to_next-requires-in-Some : goal.to_next-requires-in-Some
to_next-requires-in-Some c =
    let known = subst (AreSearchable c.self.inside.rows.items) c.in-Some.is c.self.invariant in
    let starts : c.as_slice-in-Some.result.now ≡ c.in-Some.unordered.value.starts =
    c.as_slice-in-Some.ensures.value
    ∙ ap (λ u. u.starts) (c.behind-unordered.view_is ∙ c.deref.ensures) in
    subst (λ (ns : List ℕ). Ascend 0 (map (λ n. n) ns)) (sym starts)
    (sorted_ascend c.in-Some.unordered.value.starts known.1.rise)

pub returns-in-Some : goal.returns-in-Some
returns-in-Some c =
    let known = subst (AreSearchable c.self.inside.rows.items) c.in-Some.is c.self.invariant in
    let starts : c.as_slice-in-Some.result.now ≡ c.in-Some.unordered.value.starts =
    c.as_slice-in-Some.ensures.value
    ∙ ap (λ u. u.starts) (c.behind-unordered.view_is ∙ c.deref.ensures) in
    c.to_next-in-Some.ensures
    ∙ ap (λ x. up_to_next (map (λ n. n) c.as_slice-in-Some.result.now) x c.args.far)
    c.from-in-Some.ensures
    ∙ ap (λ (ns : List ℕ). up_to_next (map (λ n. n) ns) c.args.offset c.args.far) starts
    ∙ next_of_ascending (row_starts c.self.inside.rows.items) c.in-Some.unordered.value.starts
    c.args.offset c.args.far known.1
    ∙ ap (λ rows. up_to_next (row_starts rows) c.args.offset c.args.far) c.self.view_is
