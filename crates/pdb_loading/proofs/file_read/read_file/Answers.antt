use Rattle.std.proofs.Common.{◌≡◌, rules, arith}
use Rattle.std.specs.Prelude.{nat_eq, false}
use Rattle.std.specs.List.{starts_with}
use Rattle.pdb_container.specs.Container.{magic}
use Rattle.pdb_loading.proofs.Consumed.{front_read, pages_read, first_taken, rest_taken}
use Rattle.pdb_loading.proofs.file_read.read_file.Goals as goal

pub returns-then-not-may_be_container-clause-read : goal.returns-then-not-may_be_container-clause-read
returns-then-not-may_be_container-clause-read g c =
    let other : starts_with nat_eq c.read_on.new.bytes.items magic ≡ false = search rules in
    let taken = first_taken (g.R.Read.remaining c.args.file.now) (g.R.Read.remaining c.read_on.new.file) c.new-bytes.result.items c.read_on.new.bytes.items c.new-bytes.ensures.items c.in_ok-read_on.ensures.taken in
    front_read (g.R.Read.remaining c.args.file.now) (g.R.Read.remaining c.read_on.new.file) c.read_on.new.bytes.items taken (λ lt. c.in_ok-read_on.ensures.end (omega (arith, lt, c.read_on.new.bytes.ok.0))) other

pub returns-clause-read : goal.returns-clause-read
returns-clause-read g c =
    let taken = first_taken (g.R.Read.remaining c.args.file.now) (g.R.Read.remaining c.read_on.new.file) c.new-bytes.result.items c.read_on.new.bytes.items c.new-bytes.ensures.items c.in_ok-read_on.ensures.taken in
    let all = rest_taken (g.R.Read.remaining c.args.file.now) (g.R.Read.remaining c.read_on.new.file) (g.R.Read.remaining c.read_container.new.file) c.read_on.new.bytes.items c.read_container.new.bytes.items c.read_container.ensures.begun taken c.in_ok-read_container.ensures.taken in
    pages_read (g.R.Read.remaining c.args.file.now) (g.R.Read.remaining c.read_container.new.file) c.read_container.new.bytes.items all (λ lt. c.in_ok-read_container.ensures.end (omega (arith, lt, c.read_container.new.bytes.ok.0)))
