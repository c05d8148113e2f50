-- What a run has written, from what was read.
use Rattle.std.proofs.Common.{◌≡◌, ◌≢◌, ℕ, ◌≤◌, ◌<◌, List, [], ◌∷◌, ◌++◌, refl, sym, ap, subst, ◌∙◌, append_assoc, append-nil, length, take, arith, length-append}
use Rattle.std.specs.Prelude.{Option, None, Some, IfSome}
use Rattle.std.specs.List.{flat_map}
use Rattle.std.specs.Io.KnownBytes.{Appends, Consumes, IsAtEnd}
use Rattle.std.proofs.KnownBytes.{Appends-trans}
use Rattle.std.proofs.lemmas.List.{take-append-le}
use Rattle.std.proofs.lemmas.Grind.{flat_map-append}
use Rattle.pdb_engine.specs.declared.fault.InputFault.{InputFault}
use Rattle.pdb_engine.specs.declared.fault.InputFault.TheVariants.{Read, Write, InputTooLong, OutOfMemory}
use Rattle.pdb_engine.specs.InputFaults.{OnRead, OnTooLong}
use Rattle.pdb_engine.specs.InputLines.{kept_lines, kept_rest, report, report_of_ended, Begins}
use Rattle.pdb_engine.proofs.LineLemmas.{last_line, kept_lines-append, report_is, report_of_ended_is}

module _ (room : ℕ) (some_room : 0 < room) (text : List ℕ → List ℕ) (short : (line : List ℕ) → text (take room line) ≡ text line) where
  from_nil : (s bs : List ℕ) → s ≡ [] → flat_map text (kept_lines room s bs) ≡ report_of_ended text bs
  from_nil s bs e = ap (λ k. flat_map text (kept_lines room k bs)) e ∙ report_of_ended_is room text short bs

  pub run_read_out : (fault : InputFault) (ra rb wa wb : Option (List ℕ)) (s : List ℕ) → s ≡ [] → OnRead fault (λ _. (taken : List ℕ) × Consumes ra rb taken × Appends wa wb (flat_map text (kept_lines room s taken)))
      → OnRead fault (λ _. (taken : List ℕ) × Consumes ra rb taken × Appends wa wb (report_of_ended text taken))
  run_read_out (Read kind) ra rb wa wb s e (taken, consumed, out) = (taken, consumed, subst (λ (l : List ℕ). Appends wa wb l) (from_nil s taken e) out)
  run_read_out (Write kind) ra rb wa wb s e h = tt
  run_read_out InputTooLong ra rb wa wb s e h = tt
  run_read_out OutOfMemory ra rb wa wb s e h = tt

  cut_known : (ra rb wa wb : Option (List ℕ)) (s taken : List ℕ) (limit : ℕ) → s ≡ [] → Consumes ra rb taken → limit < length taken → Appends wa wb (flat_map text (kept_lines room s (take limit taken)))
      → IfSome ra (λ input. (limit < length input) × Appends wa wb (report_of_ended text (take limit input)))
  cut_known None rb wa wb s taken limit e consumed past out = tt
  cut_known (Some input) None wa wb s taken limit e consumed past out = absurd consumed
  cut_known (Some input) (Some rest) wa wb s taken limit e consumed past out =
      let same : take limit input ≡ take limit taken = ap (take limit) consumed ∙ take-append-le limit taken rest (omega arith) in
      (omega (arith, ap length consumed, length-append taken rest), subst (λ (l : List ℕ). Appends wa wb l) (from_nil s (take limit taken) e ∙ ap (report_of_ended text) (sym same)) out)

  pub run_too_long : (fault : InputFault) (ra rb wa wb : Option (List ℕ)) (s : List ℕ) (limit : ℕ) → s ≡ []
      → OnTooLong fault ((taken : List ℕ) × Consumes ra rb taken × (limit < length taken) × Appends wa wb (flat_map text (kept_lines room s (take limit taken))))
      → OnTooLong fault (IfSome ra (λ input. (limit < length input) × Appends wa wb (report_of_ended text (take limit input))))
  run_too_long InputTooLong ra rb wa wb s limit e (taken, consumed, past, out) = cut_known ra rb wa wb s taken limit e consumed past out
  run_too_long (Read kind) ra rb wa wb s limit e h = tt
  run_too_long (Write kind) ra rb wa wb s limit e h = tt
  run_too_long OutOfMemory ra rb wa wb s limit e h = tt

  -- the report of what was read, and more, begins with the answers to its ended lines
  report_begins : (taken rest : List ℕ) → (more : List ℕ) × (report text (taken ++ rest) ≡ flat_map text (kept_lines room [] taken) ++ more)
  report_begins taken rest =
      let later = flat_map text (kept_lines room (kept_rest room [] taken) rest) in
      let last = flat_map text (last_line (kept_rest room [] (taken ++ rest))) in (
        later ++ last,
        report_is room some_room text short (taken ++ rest)
            ∙ ap (λ l. l ++ last) (ap (flat_map text) (kept_lines-append room [] taken rest) ∙ flat_map-append text (kept_lines room [] taken) (kept_lines room (kept_rest room [] taken) rest))
            ∙ append_assoc (flat_map text (kept_lines room [] taken)) later last,
      )

  pub run_part : (ra rb wa wb : Option (List ℕ)) (s : List ℕ) → s ≡ [] → ((taken : List ℕ) × Consumes ra rb taken × ((out : List ℕ) × Appends wa wb out × Begins out (flat_map text (kept_lines room s taken))))
      → IfSome ra (λ input. (out : List ℕ) × Appends wa wb out × Begins out (report text input))
  run_part None rb wa wb s e h = tt
  run_part (Some input) None wa wb s e h = absurd h.1
  run_part (Some input) (Some rest) wa wb s e (taken, consumed, (out, written, (more, begins))) =
      let later = report_begins taken rest in (
        out,
        written,
        (
          more ++ later.0,
          ap (report text) consumed ∙ later.1 ∙ ap (λ l. l ++ later.0) (ap (λ k. flat_map text (kept_lines room k taken)) (sym e) ∙ begins) ∙ append_assoc out more later.0,
        ),
      )

  abbrev pub Whole : Option (List ℕ) → Option (List ℕ) → Option (List ℕ) → Option (List ℕ) → ℕ → List ℕ → List ℕ → Type 0
  Whole ra rb wa wb limit s line =
      (taken : List ℕ) × Consumes ra rb taken × IsAtEnd rb × (length taken ≤ limit) × Appends wa wb (flat_map text (kept_lines room s taken)) × (line ≡ kept_rest room s taken)

  pub run_ended : (ra rb wa wb : Option (List ℕ)) (limit : ℕ) (s line : List ℕ) → s ≡ [] → line ≡ [] → Whole ra rb wa wb limit s line → IfSome ra (λ input. (length input ≤ limit) × Appends wa wb (report text input))
  run_ended None rb wa wb limit s line e none h = tt
  run_ended (Some input) None wa wb limit s line e none h = absurd h.1
  run_ended (Some input) (Some rest) wa wb limit s line e none (taken, consumed, end, within, out, is) =
      let all : input ≡ taken = consumed ∙ ap (λ l. taken ++ l) end ∙ append-nil taken in
      let nothing : kept_rest room [] taken ≡ [] = ap (λ k. kept_rest room k taken) (sym e) ∙ sym is ∙ none in
      let whole : report text input ≡ flat_map text (kept_lines room s taken) =
      ap (report text) all ∙ report_is room some_room text short taken ∙ ap (λ l. flat_map text (kept_lines room [] taken) ++ flat_map text (last_line l)) nothing
      ∙ append-nil (flat_map text (kept_lines room [] taken)) ∙ ap (λ k. flat_map text (kept_lines room k taken)) (sym e) in
      (omega (arith, ap length all), subst (λ (l : List ℕ). Appends wa wb l) (sym whole) out)

  last_answer : (line : List ℕ) → line ≢ [] → flat_map text (last_line line) ≡ text line
  last_answer [] h = absurd (h refl)
  last_answer (b ∷ bs) h = append-nil (text (b ∷ bs))

  -- the report where a line without a newline is last
  report_last : (input taken rest s line : List ℕ) → s ≡ [] → line ≢ [] → input ≡ taken ++ rest → rest ≡ [] → line ≡ kept_rest room s taken → (report text input ≡ flat_map text (kept_lines room s taken) ++ text line) × (input ≡ taken)
  report_last input taken rest s line e some consumed end is =
      let all : input ≡ taken = consumed ∙ ap (λ l. taken ++ l) end ∙ append-nil taken in
      let same : kept_rest room [] taken ≡ line = ap (λ k. kept_rest room k taken) (sym e) ∙ sym is in (
        ap (report text) all ∙ report_is room some_room text short taken
            ∙ ap (λ l. flat_map text (kept_lines room [] taken) ++ flat_map text (last_line l)) same
            ∙ ap (λ k. flat_map text (kept_lines room k taken) ++ flat_map text (last_line line)) (sym e)
            ∙ ap (λ l. flat_map text (kept_lines room s taken) ++ l) (last_answer line some),
        all,
      )

  pub run_last : (text' : List ℕ → List ℕ) (ra rb wa wb wc : Option (List ℕ)) (limit : ℕ) (s line : List ℕ) → text' ≡ text → s ≡ [] → line ≢ [] → Whole ra rb wa wb limit s line → Appends wb wc (text' line)
      → IfSome ra (λ input. (length input ≤ limit) × Appends wa wc (report text input))
  run_last text' None rb wa wb wc limit s line et e some h q = tt
  run_last text' (Some input) None wa wb wc limit s line et e some h q = absurd h.1
  run_last text' (Some input) (Some rest) wa wb wc limit s line et e some (taken, consumed, end, within, out, is) q =
      let p = report_last input taken rest s line e some consumed end is in
      let now : Appends wb wc (text line) = subst (λ (t : List ℕ → List ℕ). Appends wb wc (t line)) et q in
      (omega (arith, ap length p.1), subst (λ (l : List ℕ). Appends wa wc l) (sym p.0) (Appends-trans wa wb wc _ _ out now))

  pub run_last_part : (text' : List ℕ → List ℕ) (ra rb wa wb wc : Option (List ℕ)) (limit : ℕ) (s line : List ℕ) → text' ≡ text → s ≡ [] → line ≢ [] → Whole ra rb wa wb limit s line
      → ((out : List ℕ) × Appends wb wc out × Begins out (text' line))
      → IfSome ra (λ input. (out : List ℕ) × Appends wa wc out × Begins out (report text input))
  run_last_part text' None rb wa wb wc limit s line et e some h q = tt
  run_last_part text' (Some input) None wa wb wc limit s line et e some h q = absurd h.1
  run_last_part text' (Some input) (Some rest) wa wb wc limit s line et e some (taken, consumed, end, within, done, is) (out, written, (more, begins)) =
      let p = report_last input taken rest s line e some consumed end is in
      let now : text line ≡ out ++ more = ap (λ (t : List ℕ → List ℕ). t line) (sym et) ∙ begins in (
        flat_map text (kept_lines room s taken) ++ out,
        Appends-trans wa wb wc _ out done written,
        (more, p.0 ∙ ap (λ l. flat_map text (kept_lines room s taken) ++ l) now ∙ sym (append_assoc _ out more)),
      )
