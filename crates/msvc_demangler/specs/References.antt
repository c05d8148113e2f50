-- Back references: the names, and the types of parameters, that a digit stands for.
use Rattle.std.specs.Prelude.{ℕ, ◌-◌, ◌||◌, nat_le, nat_lt, Bool, if◌then◌else◌, List, [], ◌∷◌, ◌++◌}
use Rattle.std.specs.Prelude.{option_and_then, slice_index}
use Rattle.std.specs.Prelude.{◌==◌, Option, None, Some, length, take, drop, map, not}
use Rattle.std.specs.List.{list_any, prefix_len, slice_get}
use Rattle.std.specs.Str.{bytes_eq}
use Rattle.msvc_demangler.specs.declared.parser.Parser.{Parser}
use Rattle.msvc_demangler.specs.declared.tree.Identifier.TheVariants.{Named}
use Rattle.msvc_demangler.specs.declared.tree.Node.{Node}
use Rattle.msvc_demangler.specs.declared.tree.Node.TheVariants.{Identifier}
use Rattle.msvc_demangler.specs.declared.tree.Span.{Span}
use Rattle.msvc_demangler.specs.Texts.{handed, text_at}
use Rattle.msvc_demangler.specs.Words.{Text}

-- whether a name is among others
abbrev pub is_among : Text → List Text → Bool
is_among name names = list_any (λ n. bytes_eq n name) names

-- a byte that isn't @
abbrev pub is_plain : ℕ → Bool
is_plain b = not (b == 64)

-- the names that are remembered after one more: it comes last, unless ten are, or it is among them
unfoldable pub remember : List Text → Text → List Text
remember names name =
    if nat_le 10 (length names) || is_among name names then names else names ++ name ∷ []

-- the types that are remembered after one more, by their nodes: it comes last, unless ten are
unfoldable pub remember_type : List ℕ → ℕ → List ℕ
remember_type types node = if nat_le 10 (length types) then types else types ++ node ∷ []

-- the names that no earlier one equals, nor one of others
abbrev pub new_among : List Text → List Text → List Text
new_among others [] = []
new_among others (name ∷ names) =
    if is_among name others then new_among others names
    else name ∷ new_among (others ++ name ∷ []) names

-- the names that 0 to 9 stand for after some names: the first ten distinct ones
abbrev pub remembered_names : List Text → List Text
remembered_names names = take 10 (new_among [] names)

-- the text of a part of the name
abbrev pub part_text : Parser → Span → Text
part_text p = text_at p.tree.texts.items

-- the names that a digit may stand for at a place of a name
abbrev pub names_of : Parser → List Text
names_of p = map (part_text p) (drop p.first_name p.names.items)

-- the parameters' types that a digit may stand for at a place of a name, by their nodes
abbrev pub types_of : Parser → List ℕ
types_of p = drop p.first_parameter p.parameters.items

-- the part of a name from where its reading stands to the next @
abbrev pub next_part : Parser → Span
next_part p = record {
  start = p.length - length p.rest.now;
  count = prefix_len is_plain p.rest.now;
}

-- the names that may be referred to after the next part is one of them
abbrev pub with_next : Parser → List Text
with_next p = remember (names_of p) (part_text p (next_part p))

-- the types that may be referred to after one that began where so many bytes were left: a letter is
-- as short as a digit
abbrev pub with_type : Parser → ℕ → ℕ → List ℕ
with_type p left node =
    if nat_lt 1 (left - length p.rest.now) then remember_type (types_of p) node else types_of p

-- the name or type that a digit stands for, of which the first is 0
abbrev pub referred : {X : Type 0} → List X → ℕ → Option X
referred xs digit = slice_get xs (digit - 48)

-- the name of an identifier, if it has no template arguments
abbrev pub name_in : List ℕ → Node → Option Text
name_in texts (Identifier (Named span) None) = Some (text_at texts span)
name_in texts _ = None

-- the name that was handed on last, in the same way
abbrev pub handed_name : Parser → Option Text
handed_name p = option_and_then (name_in p.tree.texts.items) (handed p)

-- the byte that is read next
abbrev pub next_byte : Parser → ℕ
next_byte p = slice_index p.rest.now 0

-- the name that a digit stands for which is read next
abbrev pub next_name : Parser → Option Text
next_name p = referred (names_of p) (next_byte p)

-- the parameter's type that a digit stands for which is read next
abbrev pub next_type : Parser → Option ℕ
next_type p = referred (types_of p) (next_byte p)
