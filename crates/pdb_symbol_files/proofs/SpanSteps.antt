-- Stretches, piece by piece.
use Rattle.std.proofs.Common.{◌≡◌, ℕ, ◌+◌, ◌<◌, ◌≤◌, List, ◌∷◌, ◌++◌, Bool, length, drop, get_or}
use Rattle.std.proofs.Common.{sym, ◌∙◌, ap}
use Rattle.std.specs.Prelude.{Option}
use Rattle.std.specs.Option.{option_or, option_to_list}
use Rattle.std.proofs.lemmas.List.{append_assoc, drop_all, drop_more}
use Rattle.pdb_symbol_files.specs.PieceRecords.{begun, ended, longer, path_in, place_in, spans}
use Rattle.pdb_symbol_files.specs.Spans.{Path, same_calls, same_place, SourcePlace, Span}
use Rattle.pdb_symbol_files.specs.Told.{Piece}

step : {K : Type 0} (same : K → K → Bool) (known : Piece → Option K) (pieces : List Piece) (i : ℕ)
    (p : Piece) (running one next : Option (Span K)) (done more all : List (Span K))
    → i < length pieces → p ≡ get_or pieces i p
    → option_to_list one ≡ ended running (longer same running p (known p))
    → next ≡ option_or (longer same running p (known p)) (begun p (known p))
    → more ≡ done ++ option_to_list one
    → done ++ spans same known running (drop i pieces) ≡ all
    → more ++ spans same known next (drop (i + 1) pieces) ≡ all
step {K} same known pieces i p running one next done more all lt is e n m so_far =
    let rest = drop (i + 1) pieces in
    let far = longer same running p (known p) in
    let here : drop i pieces ≡ p ∷ rest
    = drop_more pieces i p lt ∙ ap (λ (x : Piece). x ∷ rest) (sym is) in
    ap (λ (xs : List (Span K)). xs ++ spans same known next rest) m
    ∙ append_assoc done (option_to_list one) (spans same known next rest)
    ∙ ap (λ (xs : List (Span K)). done ++ (xs ++ spans same known next rest)) e
    ∙ ap (λ (x : Option (Span K)). done ++ (ended running far ++ spans same known x rest)) n
    ∙ sym (ap (λ (xs : List Piece). done ++ spans same known running xs) here)
    ∙ so_far

stop : {K : Type 0} (same : K → K → Bool) (known : Piece → Option K) (pieces : List Piece) (i : ℕ)
    (running : Option (Span K)) (done last all : List (Span K))
    → length pieces ≤ i → last ≡ done ++ option_to_list running
    → done ++ spans same known running (drop i pieces) ≡ all → last ≡ all
stop {K} same known pieces i running done last all past e so_far =
    e
    ∙ sym (ap (λ (xs : List Piece). done ++ spans same known running xs) (drop_all i pieces past))
    ∙ so_far

pub line_step : (pieces : List Piece) (i : ℕ) (p : Piece)
    (running one next : Option (Span SourcePlace)) (done more all : List (Span SourcePlace))
    → i < length pieces → p ≡ get_or pieces i p
    → option_to_list one ≡ ended running (longer same_place running p (place_in p))
    → next ≡ option_or (longer same_place running p (place_in p)) (begun p (place_in p))
    → more ≡ done ++ option_to_list one
    → done ++ spans same_place place_in running (drop i pieces) ≡ all
    → more ++ spans same_place place_in next (drop (i + 1) pieces) ≡ all
line_step pieces i p running one next done more all lt is e n m so_far =
    step same_place place_in pieces i p running one next done more all lt is e n m so_far

pub line_end : (pieces : List Piece) (i : ℕ) (running : Option (Span SourcePlace))
    (done last all : List (Span SourcePlace))
    → length pieces ≤ i → last ≡ done ++ option_to_list running
    → done ++ spans same_place place_in running (drop i pieces) ≡ all → last ≡ all
line_end pieces i running done last all past e so_far =
    stop same_place place_in pieces i running done last all past e so_far

pub call_step : (level : ℕ) (pieces : List Piece) (i : ℕ) (p : Piece)
    (running one next : Option (Span Path)) (done more all : List (Span Path))
    → i < length pieces → p ≡ get_or pieces i p
    → option_to_list one ≡ ended running (longer same_calls running p (path_in level p))
    → next ≡ option_or (longer same_calls running p (path_in level p)) (begun p (path_in level p))
    → more ≡ done ++ option_to_list one
    → done ++ spans same_calls (path_in level) running (drop i pieces) ≡ all
    → more ++ spans same_calls (path_in level) next (drop (i + 1) pieces) ≡ all
call_step level pieces i p running one next done more all lt is e n m so_far =
    step same_calls (path_in level) pieces i p running one next done more all lt is e n m so_far

pub call_end : (level : ℕ) (pieces : List Piece) (i : ℕ) (running : Option (Span Path))
    (done last all : List (Span Path))
    → length pieces ≤ i → last ≡ done ++ option_to_list running
    → done ++ spans same_calls (path_in level) running (drop i pieces) ≡ all → last ≡ all
call_end level pieces i running done last all past e so_far =
    stop same_calls (path_in level) pieces i running done last all past e so_far
