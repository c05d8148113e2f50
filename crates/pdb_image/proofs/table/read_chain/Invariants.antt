use Rattle.std.proofs.Common.{◌≡◌, ◌-◌, ◌*◌, ◌≤◌, false, vec_len}
use Rattle.pdb_image.specs.Codes.{behind, chain}
use Rattle.pdb_image.proofs.table.read_chain.Given as goal

-- the codes that were read, and those of the tables that may follow, are the chain's
abbrev pub invariant-loop : goal.invariant-loop
invariant-loop l = record {
  so_far : behind l.codes.items (chain l.image (33 - l.counter) l.of_parent l.info)
      ≡ chain l.image 33 false l.fn.info;
  count : vec_len l.codes ≤ 256 * l.counter;
}
