use Rattle.std.proofs.Common.{◌∙◌, ap}
use Rattle.pdb_addresses.specs.Addresses.{is_in_order}
use Rattle.pdb_addresses.proofs.Ordered.{first_decides, second_decides}
use Rattle.pdb_addresses.proofs.address_map.AddressMap.is_ordered.Goals as goal

pub returns-then-is_in_order-clause-meaning : goal.returns-then-is_in_order-clause-meaning
returns-then-is_in_order-clause-meaning c =
    let first = c.is_in_order.ensures ∙ ap is_in_order c.to_internal.ensures in
    let second = c.is_in_order-then-is_in_order.ensures ∙ ap is_in_order c.to_image.ensures in
    second_decides c.args.self.now c.is_in_order.result c.is_in_order-then-is_in_order.result first
    c.if-is_in_order.true second

pub returns-else-is_in_order-clause-meaning : goal.returns-else-is_in_order-clause-meaning
returns-else-is_in_order-clause-meaning c =
    let first = c.is_in_order.ensures ∙ ap is_in_order c.to_internal.ensures in
    first_decides c.args.self.now c.is_in_order.result first c.if-is_in_order.false
