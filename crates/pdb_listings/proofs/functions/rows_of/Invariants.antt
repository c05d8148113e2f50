use Rattle.std.proofs.Common.{◌≡◌, ◌++◌, map}
use Rattle.std.specs.Vec.Iter.{into_iter_items}
use Rattle.pdb_addr2line.specs.Context.{lasting}
use Rattle.pdb_listings.specs.Functions.{row_in, row_seen}
use Rattle.pdb_listings.proofs.functions.rows_of.Given as goal

-- the rows so far, and those of the functions that are left, are all
abbrev pub invariant-loop-function : goal.invariant-loop-function
invariant-loop-function g l =
    let row = row_in g.P.ModuleProvider.provided l.fn.context in
    record {
      same : lasting l.context ≡ lasting l.fn.context;
      rows : map row_seen l.rows.items ++ map row (into_iter_items l.function-iterator)
          ≡ map row l.fn.functions.items;
    }
