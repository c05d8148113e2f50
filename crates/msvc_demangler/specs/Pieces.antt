-- The texts that pieces print: words, texts, and symbols that are string literals.
use Rattle.std.specs.Prelude.{◌≡◌, ℕ, List, [], ◌∷◌, ◌++◌, Option, None, Some, option_and_then}
use Rattle.std.specs.Prelude.{OnOk, Result, option_map}
use Rattle.std.specs.List.{fold}
use Rattle.std.specs.Option.{ForSome}
use Rattle.msvc_demangler.specs.declared.printer.Piece.{Piece}
use Rattle.msvc_demangler.specs.declared.printer.Piece.TheVariants.{Text as Printed, Whole, Word}
use Rattle.msvc_demangler.specs.declared.printer.Printer.{Printer}
use Rattle.msvc_demangler.specs.declared.tree.Tree.{Tree}
use Rattle.msvc_demangler.specs.Literals.{literal_at}
use Rattle.msvc_demangler.specs.Texts.{text_at}
use Rattle.msvc_demangler.specs.Words.{Text}

-- the text that a piece prints; none for a piece of another kind
abbrev pub piece_text : Tree → Piece → Option Text
piece_text tree (Word word) = Some word.now
piece_text tree (Printed span) = Some (text_at tree.texts.items span)
piece_text tree (Whole index flags) = literal_at tree index
piece_text tree _ = None

-- a text, and another one before it
abbrev pub before : Option Text → Option Text → Option Text
before after front = option_and_then (λ f. option_map (λ a. f ++ a) after) front

-- the text that pieces print of which the last is the first
unfoldable pub last_first : Tree → List Piece → Option Text
last_first tree pieces = fold (λ after piece. before after (piece_text tree piece)) (Some []) pieces

-- the text that pieces print in their order
unfoldable pub in_order : Tree → List Piece → Option Text
in_order tree [] = Some []
in_order tree (piece ∷ pieces) = before (in_order tree pieces) (piece_text tree piece)

-- the texts in which a printer's spans lie
abbrev pub texts_of : Printer → List ℕ
texts_of p = p.tree.now.texts.items

-- the text that is to be printed after the piece at hand
abbrev pub rest_text : Printer → Option Text
rest_text p = last_first p.tree.now p.pieces.items

-- the text that the piece at hand has planned
abbrev pub planned_text : Printer → Option Text
planned_text p = in_order p.tree.now p.planned.items

-- the text that is printed in all: the text so far, and what the pieces print
abbrev pub whole_text : Printer → Option Text
whole_text p = option_map (λ rest. p.text.items ++ rest) (rest_text p)

-- all is printed, where nothing is planned yet
abbrev pub PrintsAll : {A E : Type 0} → Printer → Printer → Result A E → Type 0
PrintsAll p q result =
    (text : Text) → p.planned.items ≡ [] → whole_text p ≡ Some text
    → OnOk result (q.text.items ≡ text)

-- the printed text stays, and the pieces after the piece at hand
abbrev pub SamePrinted : Printer → Printer → Type 0
SamePrinted p q = (q.text.items ≡ p.text.items) × (q.pieces.items ≡ p.pieces.items)
    × (q.tree.now ≡ p.tree.now)

-- the pieces that are to be printed stay, and the planned ones
abbrev pub SamePieces : Printer → Printer → Type 0
SamePieces p q = (q.planned.items ≡ p.planned.items) × (q.pieces.items ≡ p.pieces.items)
    × (q.tree.now ≡ p.tree.now)

-- a piece's text is printed or planned
abbrev pub Prints : Text → Printer → Printer → Type 0
Prints text p q =
    (option_map (λ rest. q.text.items ++ rest) (planned_text q) ≡ Some (p.text.items ++ text))
    × (q.pieces.items ≡ p.pieces.items) × (q.tree.now ≡ p.tree.now)

-- ..where nothing is planned yet
abbrev pub PrintsFirst : {A E : Type 0} → Text → Printer → Printer → Result A E → Type 0
PrintsFirst text p q result = p.planned.items ≡ [] → OnOk result (Prints text p q)

-- ..and the text is known
abbrev pub PrintsKnown : {A E : Type 0} → Option Text → Printer → Printer → Result A E → Type 0
PrintsKnown known p q result = ForSome known (λ text. PrintsFirst text p q result)
