use Rattle.std.proofs.Common.{◌≡◌, ℕ, List}
use Rattle.std.proofs.lemmas.Result.{on_ok_weaker}
use Rattle.std.specs.Option.{option_or}
use Rattle.pdb_module_items.specs.Definitions.{aggregate_size_of, gathered}
use Rattle.pdb_module_items.proofs.GatherSteps.{aggregate_gathered, end_passed, other_passed}
use Rattle.pdb_module_items.proofs.GatherSteps.{reference_gathered}
use Rattle.pdb_module_items.proofs.references.keep_type.Goals as goal

pub returns-in_default-clause-definitions : goal.returns-in_default-clause-definitions
returns-in_default-clause-definitions c = end_passed c.args.types.now c.args.index _
    c.args.definitions.now c.requires.low c.in_default.ensures.item.1 c.requires.definitions

pub returns-in-None-clause-definitions : goal.returns-in-None-clause-definitions
returns-in-None-clause-definitions c =
    let read = rw c.in-None.is at c.in_ok-aggregate.ensures in
    other_passed c.args.types.now c.args.index c.in-Ok.item.index _ c.args.definitions.now
    c.requires.low c.in-Ok.ensures.item c.in-Ok.ensures.index read c.requires.definitions

pub returns-in-Some-clause-definitions : goal.returns-in-Some-clause-definitions
returns-in-Some-clause-definitions c =
    let read = rw c.in-Some.is at c.in_ok-aggregate.ensures in
    on_ok_weaker c.keep_aggregate.result
    (λ (more : (wanted : List ℕ) → gathered c.keep_aggregate.new.definitions wanted
    ≡ option_or (aggregate_size_of wanted c.in-Some.aggregate)
    (gathered c.args.definitions.now wanted)).
    aggregate_gathered c.args.types.now c.args.index c.in-Ok.item.index _ c.in-Some.aggregate
    c.args.definitions.now c.keep_aggregate.new.definitions
    c.requires.low c.in-Ok.ensures.item c.in-Ok.ensures.index read more c.requires.definitions)
    c.keep_aggregate.ensures.definitions

pub returns-in-Some-clause-sizes : goal.returns-in-Some-clause-sizes
returns-in-Some-clause-sizes c =
    let read = rw c.in-Some.is at c.in_ok-aggregate.ensures in
    c.keep_aggregate.ensures.sizes c.args.types.now
    (reference_gathered c.args.types.now c.args.index c.in-Ok.item.index _ c.in-Some.aggregate
    c.args.definitions.now c.requires.low c.in-Ok.ensures.item c.in-Ok.ensures.index read
    c.requires.definitions)
    c.requires.sizes
