use Rattle.std.proofs.Common.{◌∙◌, ap}
use Rattle.std.specs.Prelude.{option_and_then}
use Rattle.pdb_engine.specs.Address.{address_of}
use Rattle.pdb_arguments.proofs.reading.address_in.Goals as goal

pub returns-in-Some : goal.returns-in-Some
returns-in-Some c = c.parse_address.ensures ∙ ap address_of c.as_bytes.ensures.value
    ∙ ap (option_and_then address_of) c.in-Some.ensures

pub returns-in-None : goal.returns-in-None
returns-in-None c = ap (option_and_then address_of) c.in-None.ensures
