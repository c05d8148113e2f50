use Rattle.std.proofs.Common.{◌≡◌, ◌++◌, take}
use Rattle.std.specs.List.{flat_map}
use Rattle.pdb_listings.specs.Rows.{later_text}
use Rattle.pdb_listings.proofs.rows.append_later_fields.Given as goal

-- the texts so far stand after the output
abbrev pub invariant-loop-field : goal.invariant-loop-field
invariant-loop-field l =
    l.output.items ≡ l.fn.output.items ++ flat_map (later_text l.format) (take l.field-index l.fields)
