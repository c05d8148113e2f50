-- String literals: what stands after ??_C, and the text that it stands for.
use Rattle.std.specs.Prelude.{IfOk, IsSome, IsTrue, OnOk, Result}
use Rattle.std.specs.Prelude.{◌≡◌, ℕ, zero, suc, ◌+◌, ◌-◌, ◌*◌, ◌/◌, ◌%◌, ◌==◌, ◌&&◌, ◌||◌}
use Rattle.std.specs.Prelude.{Bool, if◌then◌else◌, List, [], ◌∷◌, ◌++◌, Option, None, Some}
use Rattle.std.specs.Prelude.{codes, length, nat_le, nat_lt}
use Rattle.std.specs.Prelude.{take, drop, not, position, slice_index, option_map, option_and_then}
use Rattle.std.specs.Borrow.{Bor}
use Rattle.std.specs.Global.{Vec}
use Rattle.std.specs.List.{flat_map, remove, slice_get}
use Rattle.std.specs.Int.{from_le_bytes, w32}
use Rattle.msvc_demangler.specs.declared.literals.Quotes.{Quotes}
use Rattle.msvc_demangler.specs.declared.numbers.Number.{Number}
use Rattle.msvc_demangler.specs.declared.tree.Node.{Node}
use Rattle.msvc_demangler.specs.declared.tree.Span.{Span}
use Rattle.msvc_demangler.specs.declared.tree.Tree.{Tree}
use Rattle.msvc_demangler.specs.declared.tree.Node.TheVariants.{Symbol}
use Rattle.msvc_demangler.specs.declared.tree.Symbol.TheVariants.{Text as Quoted}
use Rattle.msvc_demangler.specs.Bytes.{begins}
use Rattle.msvc_demangler.specs.Characters.{character_of, character_size, written}
use Rattle.msvc_demangler.specs.Numbers.{number_of}
use Rattle.msvc_demangler.specs.declared.parser.Parser.{Parser}
use Rattle.msvc_demangler.specs.Texts.{SameTasks, handed, text_at}
use Rattle.msvc_demangler.specs.Words.{Text}

-- the rest after the first @
unfoldable pub after_at : List ℕ → Option (List ℕ)
after_at text = option_map (λ place. drop (place + 1) text) (position (λ b. b == 64) text)

-- a size, which has no minus sign, and what comes after the checksum that follows it
abbrev pub sized : Number × List ℕ → Option (ℕ × List ℕ)
sized n = if n.0.is_negative then None
    else option_map (λ after. (n.0.magnitude, after)) (after_at n.1)

-- a literal's size in bytes after @_ and the digit of its kind, and what comes after its checksum
unfoldable pub sized_of : List ℕ → Option (ℕ × List ℕ)
sized_of text = option_and_then sized (number_of text)

-- the rest after the @ that a text begins with
unfoldable pub ended : List ℕ → Option (List ℕ)
ended text = if begins 64 text then Some (drop 1 text) else None

-- characters that are written one after another before @, fewer than so many, and what comes after
-- the @
unfoldable pub characters_of : (List ℕ → Option (ℕ × List ℕ)) → ℕ → List ℕ
    → Option (List ℕ × List ℕ)
characters_of one zero text = None
characters_of one (suc more) text =
    if begins 64 text then Some ([], drop 1 text)
    else option_and_then
    (λ c. option_map (λ cs. (c.0 ∷ cs.0, cs.1)) (characters_of one more c.1)) (one text)

-- a character of two bytes, the higher first, and what comes after
unfoldable pub wide_character_of : List ℕ → Option (ℕ × List ℕ)
wide_character_of text =
    option_and_then (λ h. option_map (λ l. (h.0 * 256 + l.0, l.1)) (character_of h.1))
    (character_of text)

-- so many characters of that many bytes each, the lowest byte first
unfoldable pub joined : ℕ → ℕ → List ℕ → List ℕ
joined size zero bytes = []
joined size (suc count) bytes =
    from_le_bytes w32 (take size bytes) ∷ joined size count (drop size bytes)

-- the number of characters of that many bytes that are printed: all if the string is cut off,
-- otherwise all but the last, which ends it
abbrev pub printed : ℕ → List ℕ → Bool → ℕ
printed size bytes is_cut =
    if is_cut then length bytes / size else length bytes / size - 1

-- the text before a string of characters of that many bytes
abbrev pub prefix : ℕ → Text
prefix size =
    if size == 1 then codes "\"" else if size == 2 then codes "u\"" else codes "U\""

-- the text after a string
abbrev pub suffix : Bool → Text
suffix is_cut = if is_cut then codes "\"..." else codes "\""

-- the text of a string, from its first bytes, of characters of one size, and its size in bytes: it
-- is cut off if it has more
unfoldable pub narrow_text : ℕ → List ℕ → Text
narrow_text size bytes =
    let width = character_size bytes size in
    let is_cut = nat_lt (length bytes) size in
    (prefix width ++ flat_map written (joined width (printed width bytes is_cut) bytes))
    ++ suffix is_cut

-- the characters of a string of wchar_t but for the one that ends it, at the end of its bytes; all
-- if the string is cut off, or its size isn't even
abbrev pub but_end : ℕ → List ℕ → List ℕ
but_end size characters =
    if nat_lt 64 size || (size % 2 == 1) then characters else remove characters (size / 2 - 1)

-- the text of a string of wchar_t, from its first characters, and its size in bytes: it is cut off
-- if it has more than 64
unfoldable pub wide_text : ℕ → List ℕ → Text
wide_text size characters =
    (codes "L\"" ++ flat_map written (but_end size characters)) ++ suffix (nat_lt 64 size)

-- a string of at most 128 bytes, each as it is or after ?, before @; and what comes after
unfoldable pub narrow_of : ℕ → List ℕ → Option (Text × List ℕ)
narrow_of size text =
    option_map (λ r. (narrow_text size r.0, r.1)) (characters_of character_of 129 text)

-- a string of wchar_t before @, and what comes after
unfoldable pub wide_of : ℕ → List ℕ → Option (Text × List ℕ)
wide_of size text =
    option_map (λ r. (wide_text size r.0, r.1)) (characters_of wide_character_of (length text) text)

-- a string of a kind, 0 for one that has a byte at least, and 1 for one of wchar_t
abbrev pub string_of : ℕ → ℕ × List ℕ → Option (Text × List ℕ)
string_of kind sized =
    if (kind == 48) && nat_le 1 sized.0 then narrow_of sized.0 sized.1
    else (if (kind == 49) && nat_le 2 sized.0 then wide_of sized.0 sized.1 else None)

-- a string literal after ??_C, and what comes after it: @_, the digit of its kind, its size in
-- bytes, its checksum before @, and its first bytes before @
unfoldable pub literal_of : List ℕ → Option (Text × List ℕ)
literal_of text =
    if nat_lt (length text) 3 || not ((slice_index text 0 == 64) && (slice_index text 1 == 95))
    then None
    else option_and_then (string_of (slice_index text 2)) (sized_of (drop 3 text))

-- the text of the string literal that stands after ??_C
abbrev pub literal_text : List ℕ → Option Text
literal_text text = option_map (λ l. l.0) (literal_of text)

-- characters that were read, and what comes after
abbrev pub read_characters : {X : Type 0} → Option (Vec X × Bor (List ℕ)) → Option (List X × List ℕ)
read_characters o = option_map (λ r. (r.0.items, r.1.now)) o

-- the text of a literal: the text before, the characters, and the text after
abbrev pub quoted : Quotes → Text → Text
quoted quotes text = (quotes.before.now ++ text) ++ quotes.after.now

-- characters are appended to an empty text; with the texts around them they are a string
abbrev pub AppendsQuoted : {E : Type 0} → Text → Vec ℕ → Vec ℕ → Result Quotes E → Type 0
AppendsQuoted string old new result =
    old.items ≡ [] → IfOk result (λ quotes. quoted quotes new.items ≡ string)

-- a string at the head of a text is appended in this way, and the rest after it is returned
abbrev pub SplitsString : {E : Type 0} → Option (Text × List ℕ) → Vec ℕ → Vec ℕ
    → Result (Option (Quotes × Bor (List ℕ))) E → Type 0
SplitsString string old new result =
    old.items ≡ []
    → IfOk result (λ o. option_map (λ r. (quoted r.0 new.items, r.1.now)) o ≡ string)

-- a text of a tree, with the texts before and after it
abbrev pub enclosed : List ℕ → Bor (List ℕ) → Span → Bor (List ℕ) → Text
enclosed texts before span after = (before.now ++ text_at texts span) ++ after.now

-- the text of a symbol that is a string literal
abbrev pub literal_in : List ℕ → Node → Option Text
literal_in texts (Symbol (Quoted before span after) None) = Some (enclosed texts before span after)
literal_in texts _ = None

-- the text of the string literal at a place of a tree
abbrev pub literal_at : Tree → ℕ → Option Text
literal_at tree index =
    option_and_then (literal_in tree.texts.items) (slice_get tree.nodes.items index)

-- the text of the string literal that was handed on last
abbrev pub handed_literal : Parser → Option Text
handed_literal p = option_and_then (literal_in p.tree.texts.items) (handed p)

-- a name that is a string literal
abbrev pub is_literal : List ℕ → Bool
is_literal name = (slice_index name 0 == 63) && ((slice_index name 1 == 63)
    && ((slice_index name 2 == 95) && (slice_index name 3 == 67)))

-- the text of a name that is a string literal
unfoldable pub literal_name : List ℕ → Option Text
literal_name name = literal_text (drop 4 name)

-- the name of a string literal without its first ?
abbrev pub is_marked_literal : List ℕ → Bool
is_marked_literal text = (slice_index text 0 == 63)
    && ((slice_index text 1 == 95) && (slice_index text 2 == 67))

-- the text of such a name
abbrev pub marked_literal : List ℕ → Option Text
marked_literal text = literal_text (drop 3 text)

-- a symbol with a text was handed on, and nothing more is to be read for it
abbrev pub HandsOn : Option Text → Parser → Parser → Type 0
HandsOn text p q = (handed_literal q ≡ text) × SameTasks p q × IsSome text

-- the rest is of a kind, and is read: the text that it stands for is handed on
abbrev pub ReadsAs : {A E : Type 0} → (List ℕ → Bool) → (List ℕ → Option Text) → Parser → Parser
    → Result A E → Type 0
ReadsAs is_kind text_of p q result =
    IsTrue (is_kind p.rest.now) → OnOk result (HandsOn (text_of p.rest.now) p q)

-- a string literal of which nothing was read
abbrev pub IsUnreadLiteral : Parser → Type 0
IsUnreadLiteral p = IsTrue (is_literal p.rest.now) × (p.tasks.items ≡ []) × (p.planned.items ≡ [])

-- the symbol at a place of a tree is the string literal that a name is
abbrev pub IsLiteralAt : List ℕ → Tree → ℕ → Type 0
IsLiteralAt name tree index =
    (literal_at tree index ≡ literal_name name) × IsSome (literal_name name)
