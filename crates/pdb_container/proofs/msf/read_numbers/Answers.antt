use Rattle.std.proofs.Common.{◌∙◌, arith}
use Rattle.pdb_container.specs.Header.{layout}
use Rattle.pdb_container.proofs.DirectorySteps.{directory_goes_on, directory_stops}
use Rattle.pdb_container.proofs.Outside.{gives_later}
use Rattle.pdb_container.proofs.msf.read_numbers.Goals as goal

pub returns-in-Ok : goal.returns-in-Ok
returns-in-Ok g c =
    let pages = c.in-Ok.ensures.answer in
    let numbers = c.read_paged.ensures.answer in
    record {
      answer = record {
        same = numbers.same ∙ pages.same;
        counts = omega (arith, pages.counts, numbers.counts);
        exact = rw (directory_goes_on (layout c.args.header.now) (g.S.Source.bytes c.args.source.now) c.in-Ok.pages.items pages.exact)
            (gives_later _ _ _ _ _ _ pages.counts (rw (pages.same, c.as_slice.ensures.value) at numbers.exact));
      };
    }

pub returns-in-Err : goal.returns-in-Err
returns-in-Err g c =
    let pages = c.in-Err.ensures.answer in
    record {
      answer = record {
        same = pages.same;
        counts = pages.counts;
        exact = directory_stops (layout c.args.header.now) (g.S.Source.bytes c.args.source.now) c.in-Err.fault _ pages.exact;
      };
    }
