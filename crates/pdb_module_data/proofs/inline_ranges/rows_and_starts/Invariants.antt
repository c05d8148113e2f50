use Rattle.std.proofs.Common.{◌≡◌, ◌++◌, length, drop}
use Rattle.pdb_module_data.specs.InlinedCalls.{given_by, call_rows}
use Rattle.pdb_module_data.specs.InlinePieces.{rows_of_sites, starts_of_sites}
use Rattle.pdb_module_data.proofs.inline_ranges.rows_and_starts.Given as goal

-- with what the sites left add, rows and starts are what they must be
abbrev pub invariant-loop-site : goal.invariant-loop-site
invariant-loop-site l =
    let rows = call_rows (given_by l.inlinees) l.start in
    record {
      kept : l.rows.items ++ rows_of_sites rows (drop l.site-index l.sites) ≡ rows_of_sites rows l.sites;
      starts : l.starts.items ++ starts_of_sites rows (length l.rows.items) (drop l.site-index l.sites) ≡ starts_of_sites rows 0 l.sites;
    }
