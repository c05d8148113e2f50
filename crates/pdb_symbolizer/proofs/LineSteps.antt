-- Lines of a text, one at a time.
use Rattle.std.proofs.Common.{◌≡◌, ◌∙◌, ℕ, zero, suc, ◌+◌, ◌-◌, ◌<◌, ◌≤◌, List, [], ◌∷◌, ◌++◌, false, refl, sym, ap, subst, arith, append_assoc, append-nil, length, length-append, length-drop, take, drop, get_or, take-append-drop, take_all}
use Rattle.std.specs.List.{All, prefix_len}
use Rattle.std.proofs.lemmas.Grind.{flat_map-append}
use Rattle.std.proofs.lemmas.List.{drop_more, get_or-take}
use Rattle.std.proofs.lemmas.List.Elements.{All-append, All-nil}
use Rattle.std.proofs.lemmas.List.Folds.{length-prefix_len}
use Rattle.std.proofs.lemmas.List.Sums.{prefix_len_passes, prefix_len_stops}
use Rattle.pdb_symbolizer.specs.declared.undecorated.lines.ReportKind.{ReportKind}
use Rattle.pdb_symbolizer.specs.UndecoratedLines.{IsLineOf, IsNamed, IsTextIn, IsUnbroken, Line, SplitsLine}
use Rattle.pdb_symbolizer.specs.UndecoratedLines.{Undecorates, is_in_line, is_in_name, name_end, name_in}
use Rattle.pdb_symbolizer.specs.UndecoratedLines.{name_start, named_lines, stored_lines}

-- before the first byte that ends a line there is none
unbroken_front : (kind : ReportKind) (text : List ℕ) → IsUnbroken kind (take (prefix_len (is_in_line kind) text) text)
unbroken_front kind text k d h =
    let within : k < prefix_len (is_in_line kind) text = subst (λ (n : ℕ). k < n) (length-prefix_len (is_in_line kind) text) h in
    ap (is_in_line kind) (get_or-take (prefix_len (is_in_line kind) text) text k d within) ∙ prefix_len_passes (is_in_line kind) text k d within

-- a text in which no line ends
pub line_whole : (kind : ReportKind) (text : List ℕ) (count : ℕ) → count ≡ prefix_len (is_in_line kind) text → length text ≤ count → IsUnbroken kind text
line_whole kind text count is past k d h = prefix_len_passes (is_in_line kind) text k d (omega (arith, is))

-- a text is its first line, the byte that ends it and the rest
pub line_split : (kind : ReportKind) (text : List ℕ) (count : ℕ) → count ≡ prefix_len (is_in_line kind) text → count < length text
    → SplitsLine kind text (take count text) (get_or text count 0) (take (length text - (count + 1)) (drop (count + 1) text))
line_split kind text count is within =
    let stops : is_in_line kind (get_or text count 0) ≡ false =
    subst (λ (n : ℕ). is_in_line kind (get_or text n 0) ≡ false) (sym is) (prefix_len_stops (is_in_line kind) text 0 (subst (λ (n : ℕ). n < length text) is within)) in
    let rest : take (length text - (count + 1)) (drop (count + 1) text) ≡ drop (count + 1) text =
    take_all _ _ (omega (arith, length-drop (count + 1) text)) in record {
      unbroken = subst (λ (n : ℕ). IsUnbroken kind (take n text)) (sym is) (unbroken_front kind text);
      ends = stops;
      whole = sym (take-append-drop count text)
          ∙ ap (λ l. take count text ++ l) (drop_more text count 0 within ∙ ap (λ l. get_or text count 0 ∷ l) (sym rest));
    }

-- what comes after a line is shorter
pub shorter : (kind : ReportKind) (text line : List ℕ) (end : ℕ) (after : List ℕ) → SplitsLine kind text line end after → length after < length text
shorter kind text line end after split = omega (arith, ap length split.whole, length-append line (end ∷ after))

-- a line by its parts
named_by_parts : (kind : ReportKind) (end : ℕ) (before' name' after' before name after out out1 out2 out3 out4 : List ℕ) → before' ≡ before → name' ≡ name → after' ≡ after
    → out1 ≡ out ++ before' → ((text : List ℕ) × IsTextIn kind name' text × (out2 ≡ out1 ++ text)) → out3 ≡ out2 ++ after' → out4 ≡ out3 ++ end ∷ []
    → (named : List ℕ) × ((text : List ℕ) × IsTextIn kind name text × (named ≡ before ++ text ++ after)) × (out4 ≡ out ++ (named ++ end ∷ []))
named_by_parts kind end before' name' after' before name after out out1 out2 out3 out4 eb en ea e1 (text, is, e2) e3 e4 = (
  before ++ text ++ after,
  (text, subst (λ (n : List ℕ). IsTextIn kind n text) en is, refl),
  e4 ∙ ap (λ l. l ++ end ∷ []) (e3 ∙ ap (λ l. l ++ after') (e2 ∙ ap (λ l. l ++ text) (e1 ∙ ap (λ l. out ++ l) eb))
      ∙ ap (λ l. ((out ++ before) ++ text) ++ l) ea
      ∙ ap (λ l. l ++ after) (append_assoc out before text) ∙ append_assoc out (before ++ text) after)
      ∙ append_assoc out ((before ++ text) ++ after) (end ∷ []),
)

-- a line is written with another text for its name
pub named_line : (kind : ReportKind) (line : List ℕ) (end start count : ℕ) (out out1 out2 out3 out4 : List ℕ) → start ≡ name_start kind line → start ≤ length line
    → count ≡ prefix_len (is_in_name kind) (take (length line - start) (drop start line))
    → out1 ≡ out ++ take start line
    → ((text : List ℕ) × IsTextIn kind (take (start + count - start) (drop start line)) text × (out2 ≡ out1 ++ text))
    → out3 ≡ out2 ++ take (length line - (start + count)) (drop (start + count) line) → out4 ≡ out3 ++ end ∷ []
    → (named : List ℕ) × IsNamed kind line named × (out4 ≡ out ++ (named ++ end ∷ []))
named_line kind line end start count out out1 out2 out3 out4 es within ec e1 e2 e3 e4 =
    let count_is : count ≡ prefix_len (is_in_name kind) (drop start line) =
    ec ∙ ap (prefix_len (is_in_name kind)) (take_all (length line - start) (drop start line) (omega (arith, length-drop start line))) in
    let end_is : start + count ≡ name_end kind line =
    ap (λ n. start + n) count_is ∙ ap (λ s. s + prefix_len (is_in_name kind) (drop s line)) es in
    let less : start + count - start ≡ count = omega arith in
    let name_is : take (start + count - start) (drop start line) ≡ name_in kind line =
    ap (λ n. take n (drop start line)) (less ∙ count_is) ∙ ap (λ s. take (prefix_len (is_in_name kind) (drop s line)) (drop s line)) es in
    let after_is : take (length line - (start + count)) (drop (start + count) line) ≡ drop (name_end kind line) line =
    take_all (length line - (start + count)) (drop (start + count) line) (omega (arith, length-drop (start + count) line)) ∙ ap (λ n. drop n line) end_is in
    named_by_parts kind end _ _ _ (take (name_start kind line) line) (name_in kind line) (drop (name_end kind line) line) out out1 out2 out3 out4
    (ap (λ s. take s line) es) name_is after_is e1 e2 e3 e4

all_one : (P : Line → Type 0) (x : Line) → P x → All P (x ∷ [])
all_one P x h zero d within = h
all_one P x h (suc k) d within = absurd (omega arith)

-- nothing was written yet
pub none_yet : (kind : ReportKind) (text out : List ℕ) → (named : List ℕ) × Undecorates kind text text named × (out ≡ out ++ named)
none_yet kind text out = (
  [],
  record { lines = []; each = All-nil (IsLineOf kind); stored = refl; written = refl },
  sym (append-nil out),
)

-- one line more is written
pub one_more : (kind : ReportKind) (text rest line : List ℕ) (end : ℕ) (after out0 out out' : List ℕ) → ((named : List ℕ) × Undecorates kind text rest named × (out ≡ out0 ++ named))
    → SplitsLine kind rest line end after → ((given : List ℕ) × IsNamed kind line given × (out' ≡ out ++ (given ++ end ∷ [])))
    → (named : List ℕ) × Undecorates kind text after named × (out' ≡ out0 ++ named)
one_more kind text rest line end after out0 out out' (named, u, e) split (given, is, e') =
    let before : Line → List ℕ = λ l. l.stored ++ l.end ∷ [] in
    let written : Line → List ℕ = λ l. l.named ++ l.end ∷ [] in
    let one : Line = record { stored = line; named = given; end = end } in
    let one_is : IsLineOf kind one = record { unbroken = split.unbroken; is_named = is; ends = split.ends } in (
      named ++ (given ++ end ∷ []),
      record {
        lines = u.lines ++ one ∷ [];
        each = All-append (IsLineOf kind) u.lines (one ∷ []) u.each (all_one (IsLineOf kind) one one_is);
        stored = u.stored ∙ ap (λ r. stored_lines u.lines ++ r) (split.whole ∙ sym (append_assoc line (end ∷ []) after))
            ∙ sym (append_assoc (stored_lines u.lines) (line ++ end ∷ []) after)
            ∙ ap (λ l. l ++ after) (ap (λ l. stored_lines u.lines ++ l) (sym (append-nil (line ++ end ∷ [])))
            ∙ sym (flat_map-append before u.lines (one ∷ [])));
        written = ap (λ l. l ++ (given ++ end ∷ [])) u.written
            ∙ ap (λ l. named_lines u.lines ++ l) (sym (append-nil (given ++ end ∷ [])))
            ∙ sym (flat_map-append written u.lines (one ∷ []));
      },
      e' ∙ ap (λ l. l ++ (given ++ end ∷ [])) e ∙ append_assoc out0 named (given ++ end ∷ []),
    )
