use Rattle.pdb_container.proofs.PagedNumbers.{read_there, read_refused}
use Rattle.pdb_container.proofs.msf.read_paged.Goals as goal

pub new-requires : goal.new-requires
new-requires g c =
    let pages = c.in_ok-read.read in
    read_there c.args.page_size c.args.size c.args.pages.now pages.pages.items pages.places.items c.in-Ok.bytes pages.size c.in_ok-read.ensures.pages c.requires.page_size.0 c.requires.by_four c.requires.few c.requires.enough c.in-Ok.ensures.len

pub returns-in-Err : goal.returns-in-Err
returns-in-Err g c =
    let pages = c.in_ok-read.read in
    let answer = c.in-Err.ensures.answer in
    record {
      answer = record {
        same = answer.same;
        counts = answer.counts;
        exact = read_refused (g.S.Source.bytes c.args.source.now) c.args.page_size c.args.size c.args.pages.now pages.pages.items pages.places.items pages.size c.in-Err.fault _ c.in_ok-read.ensures.pages c.requires.page_size.0
            (rw c.as_slice.ensures.value at answer.exact);
      };
    }
