-- Rows and headers, as texts.
use Rattle.std.specs.Prelude.{ℕ, ◌++◌, List, [], ◌∷◌, codes, map}
use Rattle.std.specs.List.{flat_map}
use Rattle.pdb_listings.specs.declared.rows.Format.{Format}
use Rattle.pdb_listings.specs.declared.rows.Format.TheVariants as formats
use Rattle.pdb_listings.specs.declared.value.Column.{Column}
use Rattle.pdb_listings.specs.declared.value.Field.{Field}
use Rattle.pdb_listings.specs.declared.value.Value.TheVariants as values
use Rattle.pdb_listings.specs.Values.{csv_field, json_field, plain_field}

-- a field
abbrev pub field_text : Format → Field → List ℕ
field_text formats.Text field = plain_field field
field_text formats.Csv field = csv_field field
field_text formats.Json field = json_field field

-- the text before a field after the first: a comma, but for people nothing
abbrev pub separator_text : Format → List ℕ
separator_text formats.Text = []
separator_text formats.Csv = codes ","
separator_text formats.Json = codes ","

-- a field after the first
abbrev pub later_text : Format → Field → List ℕ
later_text format field = separator_text format ++ field_text format field

-- fields
abbrev pub fields_text : Format → List Field → List ℕ
fields_text format [] = []
fields_text format (field ∷ fields) = field_text format field ++ flat_map (later_text format) fields

-- the text before the fields of a row
abbrev pub opening_text : Format → List ℕ
opening_text formats.Text = []
opening_text formats.Csv = []
opening_text formats.Json = codes "{"

-- the text after the fields of a row
abbrev pub closing_text : Format → List ℕ
closing_text formats.Text = codes "\n"
closing_text formats.Csv = codes "\n"
closing_text formats.Json = codes "}\n"

-- a row
abbrev pub row_text : Format → List Field → List ℕ
row_text format fields = opening_text format ++ fields_text format fields ++ closing_text format

-- a column's name, as a field of a row
abbrev pub name_field : Column → Field
name_field c = record { column = c; value = values.Text c.name }

-- the line of the columns' names: a row of them; JSON Lines have none
abbrev pub header_text : Format → List Column → List ℕ
header_text formats.Text columns = row_text formats.Text (map name_field columns)
header_text formats.Csv columns = row_text formats.Csv (map name_field columns)
header_text formats.Json columns = []
