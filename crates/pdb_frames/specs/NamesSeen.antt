-- The names of the functions that the code chose.
use Rattle.std.specs.Prelude.{◌≡◌, Option, option_map}
use Rattle.std.specs.Arc.{arc_str_bytes}
use Rattle.std.specs.declared.sync.ArcStr.{ArcStr}
use Rattle.pdb_frames.specs.Choice.{Parts}
use Rattle.pdb_frames.specs.ChosenNames.{name_of, procedure_name}
use Rattle.pdb_frames.specs.ChosenSeen.{chosen_seen}
use Rattle.pdb_frames.specs.declared.choice.Chosen.{Chosen}
use Rattle.pdb_module_data.specs.Procedures.{Procedure}
use Rattle.pdb_names.specs.Env.{Env}

-- a text is a procedure's name, if it has one
abbrev pub NamesProcedure : {Z : Type 0} → Parts → Env → Procedure → Option (ArcStr Z) → Type 0
NamesProcedure p env q text = option_map arc_str_bytes text ≡ procedure_name p env q

-- a text is the name of the function that was chosen, if it has one
abbrev pub NamesChosen : {Z : Type 0} → Parts → Env → Chosen → Option (ArcStr Z) → Type 0
NamesChosen p env c text = option_map arc_str_bytes text ≡ name_of p env (chosen_seen c)
