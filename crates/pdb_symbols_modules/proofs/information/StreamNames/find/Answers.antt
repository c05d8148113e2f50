use Rattle.std.proofs.Common.{sym, ◌∙◌, ap}
use Rattle.std.specs.Prelude.{map}
use Rattle.pdb_symbols_modules.specs.Information.{number_of}
use Rattle.pdb_symbols_modules.specs.NameBlock.{stream_name_seen}
use Rattle.pdb_symbols_modules.proofs.NameLemmas.{none_named, some_named}
use Rattle.pdb_symbols_modules.proofs.information.StreamNames.find.Goals as goal

pub returns-in-None-clause-number : goal.returns-in-None-clause-number
returns-in-None-clause-number c = (
  tt,
  ap (number_of c.args.name.now) (sym c.self.view_is
      ∙ sym (ap (map stream_name_seen) c.as_slice.ensures.value))
      ∙ none_named c.args.name.now c.as_slice.result.now (sym c.in-None.ensures),
)

pub returns-in-Some-clause-number : goal.returns-in-Some-clause-number
returns-in-Some-clause-number c =
    rw
    (ap (number_of c.args.name.now) (sym c.self.view_is
    ∙ sym (ap (map stream_name_seen) c.as_slice.ensures.value))
    ∙ some_named c.args.name.now c.as_slice.result.now c.in-Some.entry.now
    (sym c.in-Some.ensures)) c.named.ensures.number
