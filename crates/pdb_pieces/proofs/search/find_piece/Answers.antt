use Rattle.std.proofs.Common.{◌-◌, get_or, subst, arith}
use Rattle.std.proofs.lemmas.Option.{slice_get-get_or}
use Rattle.pdb_pieces.specs.ShortSpans.{stored_spans}
use Rattle.pdb_pieces.proofs.Halving.{no_span, HasBegun, begun_by, best_nowhere}
use Rattle.pdb_pieces.proofs.Halving.{found_one, found_best, found_none, last_begun, IsBeyond-begun}
use Rattle.pdb_pieces.proofs.Halving.{IsPast-last, IsPast-none}
use Rattle.pdb_pieces.proofs.search.find_piece.Goals as goal

pub returns-then-count-eq0-clause-one : goal.returns-then-count-eq0-clause-one
returns-then-count-eq0-clause-one c =
    let xs = stored_spans c.args.stored.now in
    let h = begun_by xs c.count_stored-count.result.0 c.args.place
    c.count_stored-count.ensures.begun in
    let none = subst (λ n. HasBegun xs n c.args.place) c.if-count-eq0.true h in
    found_none _ 0 _ (IsPast-none _ _) (IsBeyond-begun _ 0 _ none)

pub returns-then-count-eq0-clause-best : goal.returns-then-count-eq0-clause-best
returns-then-count-eq0-clause-best c =
    let xs = stored_spans c.args.stored.now in
    let h = begun_by xs c.count_stored-count.result.0 c.args.place
    c.count_stored-count.ensures.begun in
    let none = subst (λ n. HasBegun xs n c.args.place) c.if-count-eq0.true h in
    best_nowhere _ 0 0 _ (IsPast-none _ _) (IsBeyond-begun _ 0 _ none) (omega arith)

pub returns-then-place-end-clause-one : goal.returns-then-place-end-clause-one
returns-then-place-end-clause-one c =
    let xs = stored_spans c.args.stored.now in
    let count = c.count_stored-count.result.0 in
    let h = begun_by xs count c.args.place c.count_stored-count.ensures.begun in
    let b = h.bound in
    let last = get_or xs (count - 1) no_span in
    let is = slice_get-get_or xs (count - 1) no_span (omega (arith, c.if-count-eq0.false)) in
    let begins = last_begun xs count c.args.place last h (omega (arith, c.if-count-eq0.false)) is in
    found_one _ _ _ _ (count - 1) last c.requires is begins
    (omega (arith, c.end_numbered-end.ensures last is, c.if-place-end.true))

pub returns-then-place-end-clause-best : goal.returns-then-place-end-clause-best
returns-then-place-end-clause-best c =
    let xs = stored_spans c.args.stored.now in
    let count = c.count_stored-count.result.0 in
    let h = begun_by xs count c.args.place c.count_stored-count.ensures.begun in
    let b = h.bound in
    let last = get_or xs (count - 1) no_span in
    let is = slice_get-get_or xs (count - 1) no_span (omega (arith, c.if-count-eq0.false)) in
    let begins = last_begun xs count c.args.place last h (omega (arith, c.if-count-eq0.false)) is in
    found_best _ _ _ _ (count - 1) last c.requires is begins
    (omega (arith, c.end_numbered-end.ensures last is, c.if-place-end.true))

pub returns-else-place-end-clause-one : goal.returns-else-place-end-clause-one
returns-else-place-end-clause-one c =
    let xs = stored_spans c.args.stored.now in
    let count = c.count_stored-count.result.0 in
    let h = begun_by xs count c.args.place c.count_stored-count.ensures.begun in
    let b = h.bound in
    let last = get_or xs (count - 1) no_span in
    let is = slice_get-get_or xs (count - 1) no_span (omega (arith, c.if-count-eq0.false)) in
    let past = IsPast-last _ _ xs count c.args.place last c.requires
    (omega (arith, c.if-count-eq0.false)) is
    (omega (arith, c.end_numbered-end.ensures last is, c.if-place-end.false)) in
    found_none _ count _ past (IsBeyond-begun _ count _ h)

pub returns-else-place-end-clause-best : goal.returns-else-place-end-clause-best
returns-else-place-end-clause-best c =
    let xs = stored_spans c.args.stored.now in
    let count = c.count_stored-count.result.0 in
    let h = begun_by xs count c.args.place c.count_stored-count.ensures.begun in
    let b = h.bound in
    let last = get_or xs (count - 1) no_span in
    let is = slice_get-get_or xs (count - 1) no_span (omega (arith, c.if-count-eq0.false)) in
    let past = IsPast-last _ _ xs count c.args.place last c.requires
    (omega (arith, c.if-count-eq0.false)) is
    (omega (arith, c.end_numbered-end.ensures last is, c.if-place-end.false)) in
    best_nowhere _ count count _ past (IsBeyond-begun _ count _ h) (omega arith)
