-- The line records of stretches, one after the other.
use Rattle.std.proofs.Common.{◌≡◌, ℕ, ◌+◌, ◌<◌, ◌≤◌, List, [], ◌∷◌, ◌++◌, length, drop, get_or}
use Rattle.std.proofs.Common.{sym, ◌∙◌, ap}
use Rattle.std.specs.List.{flat_map}
use Rattle.std.proofs.lemmas.List.{append_assoc, append-nil, drop_all, drop_more}
use Rattle.pdb_symbol_files.specs.PieceRecords.{files_after, line_records}
use Rattle.pdb_symbol_files.specs.RecordTexts.{line_text}
use Rattle.pdb_symbol_files.specs.Records.{line_record}
use Rattle.pdb_symbol_files.specs.Spans.{SourcePlace, Span}

here : (items : List (Span SourcePlace)) (i : ℕ) (s : Span SourcePlace) → i < length items
    → s ≡ get_or items i s → drop i items ≡ s ∷ drop (i + 1) items
here items i s lt is =
    drop_more items i s lt ∙ ap (λ (x : Span SourcePlace). x ∷ drop (i + 1) items) (sym is)

pub files_more : (items : List (Span SourcePlace)) (i : ℕ) (s : Span SourcePlace)
    (files next all : List (List ℕ)) → i < length items → s ≡ get_or items i s
    → next ≡ files_after files (s ∷ []) → files_after files (drop i items) ≡ all
    → files_after next (drop (i + 1) items) ≡ all
files_more items i s files next all lt is n so_far =
    ap (λ (x : List (List ℕ)). files_after x (drop (i + 1) items)) n
    ∙ sym (ap (files_after files) (here items i s lt is))
    ∙ so_far

pub text_more : (items : List (Span SourcePlace)) (i : ℕ) (s : Span SourcePlace)
    (files next : List (List ℕ)) (out more all : List ℕ) → i < length items
    → s ≡ get_or items i s → next ≡ files_after files (s ∷ [])
    → more ≡ out ++ line_text (line_record files s)
    → out ++ flat_map line_text (line_records files (drop i items)) ≡ all
    → more ++ flat_map line_text (line_records next (drop (i + 1) items)) ≡ all
text_more items i s files next out more all lt is n m so_far =
    let rest = drop (i + 1) items in
    ap (λ (xs : List ℕ). xs ++ flat_map line_text (line_records next rest)) m
    ∙ append_assoc out (line_text (line_record files s)) (flat_map line_text (line_records next rest))
    ∙ ap (λ (x : List (List ℕ)). out ++ (line_text (line_record files s) ++ flat_map line_text (line_records x rest))) n
    ∙ sym (ap (λ (xs : List (Span SourcePlace)). out ++ flat_map line_text (line_records files xs)) (here items i s lt is))
    ∙ so_far

pub files_end : (items : List (Span SourcePlace)) (i : ℕ) (files all : List (List ℕ))
    → length items ≤ i → files_after files (drop i items) ≡ all → files ≡ all
files_end items i files all past so_far =
    sym (ap (files_after files) (drop_all i items past)) ∙ so_far

pub text_end : (items : List (Span SourcePlace)) (i : ℕ) (files : List (List ℕ))
    (out all : List ℕ) → length items ≤ i
    → out ++ flat_map line_text (line_records files (drop i items)) ≡ all → out ≡ all
text_end items i files out all past so_far =
    sym (append-nil out)
    ∙ sym (ap (λ (xs : List (Span SourcePlace)). out ++ flat_map line_text (line_records files xs)) (drop_all i items past))
    ∙ so_far
