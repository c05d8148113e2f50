-- The function that the code chose, as the definitions see it.
use Rattle.std.specs.Prelude.{ℕ, Option, None, Some, option_map}
use Rattle.pdb_container.specs.RawString.{raw_bytes}
use Rattle.pdb_frames.specs.Choice as choice
use Rattle.pdb_frames.specs.declared.choice.Chosen.{Chosen}
use Rattle.pdb_frames.specs.declared.choice.Chosen.TheVariants as chosen
use Rattle.pdb_frames.specs.declared.choice.FunctionEnd.{FunctionEnd}
use Rattle.pdb_frames.specs.declared.choice.FunctionEnd.TheVariants as ends

-- the function that was chosen
abbrev pub chosen_seen : Chosen → choice.Chosen
chosen_seen (chosen.Procedure number q) = choice.Proc q.now
chosen_seen (chosen.Public start name) =
    choice.Public (record { start_offset = start; name = option_map raw_bytes name })

-- the end of what was chosen as a function, if it is one
abbrev pub end_seen : FunctionEnd → Option (Option ℕ)
end_seen (ends.At end) = Some (Some end)
end_seen ends.Unknown = Some None
end_seen ends.NoFunction = None
