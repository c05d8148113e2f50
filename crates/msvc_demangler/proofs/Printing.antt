-- Pieces that are printed one after another.
use Rattle.std.proofs.Common.{◌≡◌, ℕ, Bor, List, [], ◌∷◌, ◌++◌, Option, None, Some, Result, Ok, Err, OnOk, IfOk, IsSome, refl, sym, ap, ◌∙◌, append_assoc, append-nil}
use Rattle.std.specs.Prelude.{option_map}
use Rattle.std.proofs.lemmas.List.Sums.{fold_push}
use Rattle.std.proofs.lemmas.Option.{none-some, same_Some}
use Rattle.msvc_demangler.specs.declared.tree.Span.{Span}
use Rattle.msvc_demangler.specs.Texts.{text_at}
use Rattle.msvc_demangler.specs.declared.printer.Piece.{Piece}
use Rattle.msvc_demangler.specs.declared.printer.Piece.TheVariants.{Text as Printed, Word}
use Rattle.msvc_demangler.specs.declared.printer.Printer.{Printer}
use Rattle.msvc_demangler.specs.declared.tree.Tree.{Tree}
use Rattle.msvc_demangler.specs.Pieces.{Prints, SamePieces, piece_text, before, last_first, in_order}
use Rattle.msvc_demangler.specs.Literals.{enclosed}
use Rattle.msvc_demangler.specs.Words.{Text}

before_assoc : (a b c : Option Text) → before (before a b) c ≡ before a (before b c)
before_assoc a b None = refl
before_assoc a None (Some c) = refl
before_assoc None (Some b) (Some c) = refl
before_assoc (Some a) (Some b) (Some c) = ap Some (sym (append_assoc c b a))

before_none : (o : Option Text) → before (Some []) o ≡ o
before_none None = refl
before_none (Some t) = ap Some (append-nil t)

none_before : (o : Option Text) → before o (Some []) ≡ o
none_before None = refl
none_before (Some t) = refl

module _ (tree : Tree) where
  -- one piece more, which comes first
  pub first_more : (pieces : List Piece) (piece : Piece)
      → last_first tree (pieces ++ piece ∷ []) ≡ before (last_first tree pieces) (piece_text tree piece)
  unfolding last_first
  first_more pieces piece =
      fold_push (λ after p. before after (piece_text tree p)) (Some []) pieces piece

  -- one piece more, which comes last
  last_more : (after : Option Text) (planned : List Piece) (piece : Piece)
      → before after (in_order tree (planned ++ piece ∷ []))
      ≡ before (before after (piece_text tree piece)) (in_order tree planned)
  unfolding in_order
  last_more after [] piece =
      ap (before after) (before_none (piece_text tree piece))
      ∙ sym (none_before (before after (piece_text tree piece)))
  last_more after (p ∷ ps) piece =
      sym (before_assoc after (in_order tree (ps ++ piece ∷ [])) (piece_text tree p))
      ∙ ap (λ o. before o (piece_text tree p)) (last_more after ps piece)
      ∙ before_assoc (before after (piece_text tree piece)) (in_order tree ps) (piece_text tree p)

  -- the last piece that was planned goes before the others
  pub one_moved : (pieces planned left : List Piece) (piece : Piece) (whole : Option Text)
      → planned ≡ left ++ piece ∷ []
      → whole ≡ before (last_first tree pieces) (in_order tree planned)
      → whole ≡ before (last_first tree (pieces ++ piece ∷ [])) (in_order tree left)
  one_moved pieces planned left piece whole e so_far =
      so_far ∙ ap (λ l. before (last_first tree pieces) (in_order tree l)) e
      ∙ last_more (last_first tree pieces) left piece
      ∙ ap (λ o. before o (in_order tree left)) (sym (first_more pieces piece))

  -- all pieces that were planned
  pub all_moved : (pieces planned : List Piece) (whole : Option Text) → planned ≡ []
      → whole ≡ before (last_first tree pieces) (in_order tree planned)
      → last_first tree pieces ≡ whole
  unfolding in_order
  all_moved pieces planned whole e so_far =
      sym (so_far ∙ ap (λ l. before (last_first tree pieces) (in_order tree l)) e
      ∙ none_before (last_first tree pieces))

  -- three pieces that are planned
  pub three_in_order : (b a : Bor (List ℕ)) (span : Span) (planned : List Piece)
      → planned ≡ Word b ∷ Printed span ∷ Word a ∷ []
      → in_order tree planned ≡ Some (enclosed tree.texts.items b span a)
  unfolding in_order
  three_in_order b a span planned e =
      ap (in_order tree) e
      ∙ ap Some (ap (λ t. b.now ++ (text_at tree.texts.items span ++ t)) (append-nil a.now)
      ∙ sym (append_assoc b.now (text_at tree.texts.items span) a.now))

  -- one piece alone
  pub one_piece : (piece : Piece) (text : Text) (pieces : List Piece) → pieces ≡ piece ∷ []
      → piece_text tree piece ≡ Some text → last_first tree pieces ≡ Some text
  unfolding last_first
  one_piece piece text pieces e is =
      ap (last_first tree) e ∙ ap (before (Some [])) is ∙ ap Some (append-nil text)

  -- no piece
  pub no_piece : (pieces : List Piece) → pieces ≡ [] → last_first tree pieces ≡ Some []
  unfolding last_first
  no_piece pieces e = ap (last_first tree) e

  -- nothing planned
  pub none_planned : (planned : List Piece) → planned ≡ [] → in_order tree planned ≡ Some []
  unfolding in_order
  none_planned planned e = ap (in_order tree) e

-- pieces that are moved
pub ruleset moving = (one_moved, all_moved)

printed_after : (text text' whole t r q : Text) → ◌≡◌ {A = Option Text} (Some (text ++ (t ++ r))) (Some whole)
    → ◌≡◌ {A = Option Text} (Some (text' ++ q)) (Some (text ++ t))
    → ◌≡◌ {A = Option Text} (Some (text' ++ (q ++ r))) (Some whole)
printed_after text text' whole t r q is e =
    ap Some (sym (append_assoc text' q r) ∙ ap (λ x. x ++ r) (same_Some _ _ e)
    ∙ append_assoc text t r) ∙ is

-- a piece that is printed, or whose parts are planned
pub one_printed : (text text' whole : Text) (after front planned pieces : Option Text)
    → option_map (λ r. text ++ r) (before after front) ≡ Some whole
    → ((t : Text) → front ≡ Some t → option_map (λ r. text' ++ r) planned ≡ Some (text ++ t))
    → pieces ≡ before after planned
    → option_map (λ r. text' ++ r) pieces ≡ Some whole
one_printed text text' whole after None planned pieces is printed over = absurd (none-some whole is)
one_printed text text' whole None (Some t) planned pieces is printed over =
    absurd (none-some whole is)
one_printed text text' whole (Some r) (Some t) None pieces is printed over =
    absurd (none-some (text ++ t) (printed t refl))
one_printed text text' whole (Some r) (Some t) (Some q) pieces is printed over =
    ap (option_map (λ r. text' ++ r)) over
    ∙ printed_after text text' whole t r q is (printed t refl)

-- a piece that is printed has a text
pub piece_has_text : (text whole : Text) (after front : Option Text)
    → option_map (λ r. text ++ r) (before after front) ≡ Some whole
    → (t : Text) × (front ≡ Some t)
piece_has_text text whole after None is = absurd (none-some whole is)
piece_has_text text whole after (Some t) is = (t, refl)

-- bytes that are printed where nothing is planned
pub pushed : (p q : Printer) (bytes text : Text) → p.planned.items ≡ []
    → q.text.items ≡ p.text.items ++ bytes
    → SamePieces p q → bytes ≡ text → Prints text p q
pushed p q bytes text empty e same is = (
  ap (option_map (λ rest. q.text.items ++ rest))
      (none_planned q.tree.now q.planned.items (same.0 ∙ empty))
      ∙ ap Some (append-nil q.text.items ∙ e ∙ ap (λ b. p.text.items ++ b) is),
  same.1,
  same.2,
)

-- what follows on success
pub on_ok : {A E : Type 0} (r : Result A E) (P Q : Type 0) → (P → Q) → OnOk r P → OnOk r Q
on_ok (Ok x) P Q f h = f h
on_ok (Err e) P Q f h = h

-- what follows for a value on success
pub if_ok : {A E : Type 0} (r : Result A E) (P Q : A → Type 0) → ((x : A) → P x → Q x) → IfOk r P
    → IfOk r Q
if_ok (Ok x) P Q f h = f x h
if_ok (Err e) P Q f h = h

-- a text that is there
pub some_text : (o : Option Text) → IsSome o → (t : Text) × (o ≡ Some t)
some_text None h = cc
some_text (Some t) h = (t, refl)
