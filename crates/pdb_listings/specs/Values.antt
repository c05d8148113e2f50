-- The texts of values: for people, in CSV, and in JSON.
use Rattle.std.specs.Prelude.{ℕ, Bool, true, false, ◌-◌, ◌/◌, ◌%◌, ◌==◌, ◌||◌, ◌++◌, List, []}
use Rattle.std.specs.Prelude.{◌∷◌, codes, length, if◌then◌else◌}
use Rattle.std.specs.Fmt.{decimal}
use Rattle.std.specs.List.{flat_map, list_any, repeat}
use Rattle.pdb_owners.specs.Texts.{eight_digits}
use Rattle.json_strings.specs.Json.{string_text}
use Rattle.pdb_listings.specs.declared.value.Field.{Field}
use Rattle.pdb_listings.specs.declared.value.Value.{Value}
use Rattle.pdb_listings.specs.declared.value.Value.TheVariants as values

-- tenths of a whole number, as a decimal fraction
abbrev pub tenths_text : ℕ → List ℕ
tenths_text n = decimal (n / 10) ++ codes "." ++ decimal (n % 10)

-- an address, as it is printed
abbrev pub address_text : ℕ → List ℕ
address_text a = codes "0x" ++ eight_digits a

-- the sign of a change in a line for people
abbrev pub sign_text : Bool → List ℕ
sign_text true = codes "+"
sign_text false = codes "-"

-- a value in a line for people
abbrev pub plain_value : Value → List ℕ
plain_value values.Unknown = codes "??"
plain_value (values.Number n) = decimal n
plain_value (values.Address a) = address_text a
plain_value (values.Change rose n) = sign_text rose ++ decimal n
plain_value (values.Share n) = tenths_text n ++ codes "%"
plain_value (values.Text text) = text.now

-- a text with blanks before it, up to a width
abbrev pub padded : ℕ → List ℕ → List ℕ
padded width text = repeat (width - length text) (codes " ") ++ text

-- a text in a field, after the text before it
abbrev pub plain_text : List ℕ → ℕ → List ℕ → List ℕ
plain_text before width text = before ++ padded width text

-- a byte for which a text of CSV is quoted: a quote, a comma, a newline, a carriage return
abbrev pub is_special : ℕ → Bool
is_special b = (b == 34) || ((b == 44) || ((b == 10) || (b == 13)))

-- the text of a byte between quotes: a quote is doubled
abbrev pub doubled : ℕ → List ℕ
doubled b = if b == 34 then 34 ∷ 34 ∷ [] else b ∷ []

-- a text in CSV
unfoldable pub csv_text : List ℕ → List ℕ
csv_text text =
    if list_any is_special text then 34 ∷ flat_map doubled text ++ 34 ∷ [] else text

-- the sign of a change in CSV and JSON
abbrev pub minus_text : Bool → List ℕ
minus_text true = []
minus_text false = codes "-"

-- a value without quotes: nothing where it isn't known
abbrev pub bare_value : Value → List ℕ
bare_value values.Unknown = []
bare_value (values.Number n) = decimal n
bare_value (values.Address a) = address_text a
bare_value (values.Change rose n) = minus_text rose ++ decimal n
bare_value (values.Share n) = tenths_text n
bare_value (values.Text text) = text.now

-- a value in CSV
abbrev pub csv_value : Value → List ℕ
csv_value (values.Text text) = csv_text text.now
csv_value value = bare_value value

-- a value in JSON
abbrev pub json_value : Value → List ℕ
json_value values.Unknown = codes "null"
json_value (values.Address a) = string_text (address_text a)
json_value (values.Text text) = string_text text.now
json_value value = bare_value value

-- a field in a line for people
abbrev pub plain_field : Field → List ℕ
plain_field f = plain_text f.column.before.now f.column.width (plain_value f.value)

-- a field in CSV
abbrev pub csv_field : Field → List ℕ
csv_field f = csv_value f.value

-- a member of an object
abbrev pub json_field : Field → List ℕ
json_field f = string_text f.column.name.now ++ codes ":" ++ json_value f.value
