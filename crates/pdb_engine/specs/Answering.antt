-- The bytes that a call that answers the lines of an input takes, writes and stores.
use Rattle.std.specs.Prelude.{◌≡◌, ℕ, ◌<◌, ◌≤◌, List, length, take, Option, IfSome, Result, IfErr}
use Rattle.std.specs.List.{flat_map}
use Rattle.std.specs.Io.KnownBytes.{IsAtEnd}
use Rattle.pdb_engine.specs.declared.fault.InputFault.{InputFault}
use Rattle.pdb_engine.specs.declared.line_start.LineStart.{Ghosts as StartOf}
use Rattle.pdb_engine.specs.declared.watched.Watched.{Watched}
use Rattle.pdb_engine.specs.InputFaults.{OnRead, OnTooLong}
use Rattle.pdb_engine.specs.InputLines.{kept_lines, kept_rest, report, report_of_ended}
use Rattle.pdb_engine.specs.Watched.{inner_of, Takes, Writes, WritesFront}

-- the first bytes of a line, as many as are stored of it, decide its answer
abbrev pub DecideAnswers : ℕ → (List ℕ → List ℕ) → Type 0
DecideAnswers limit text = (line : List ℕ) → text (take limit line) ≡ text line

-- where the fault is a failed read, this is said
abbrev pub IfReadFails : {X : Type 0} → Result X InputFault → Type 0 → Type 0
IfReadFails result P = IfErr result (λ fault. OnRead fault (λ _. P))

-- where the fault is that the input is too long, this is said
abbrev pub IfTooLong : {X : Type 0} → Result X InputFault → Type 0 → Type 0
IfTooLong result P = IfErr result (λ fault. OnTooLong fault P)

-- ---- a whole input

-- the input has at most so many bytes, and the report on it was written
abbrev pub Reports : {R W : Type 0} → (R → Option (List ℕ)) → (W → Option (List ℕ)) → Watched R
    → Watched W → Watched W → ℕ → (List ℕ → List ℕ) → Type 0
Reports remaining contents reader writer writer' limit text =
    IfSome (remaining (inner_of reader))
    (λ input. (length input ≤ limit) × Writes contents writer writer' (report text input))

-- the input has more than so many bytes, and the lines that the first of them end were answered
abbrev pub ReportsFirst : {R W : Type 0} → (R → Option (List ℕ)) → (W → Option (List ℕ))
    → Watched R → Watched W → Watched W → ℕ → (List ℕ → List ℕ) → Type 0
ReportsFirst remaining contents reader writer writer' limit text =
    IfSome (remaining (inner_of reader)) (λ input. (limit < length input)
    × Writes contents writer writer' (report_of_ended text (take limit input)))

-- a prefix of the report on the input was written
abbrev pub ReportsFront : {R W : Type 0} → (R → Option (List ℕ)) → (W → Option (List ℕ))
    → Watched R → Watched W → Watched W → (List ℕ → List ℕ) → Type 0
ReportsFront remaining contents reader writer writer' text =
    IfSome (remaining (inner_of reader))
    (λ input. WritesFront contents writer writer' (report text input))

-- ---- bytes of an input, of which a line's start may be stored

-- the answers to the lines that bytes end, of which the first begins with what is stored
abbrev pub ended_answers : {L : Type 0} → StartOf L → (List ℕ → List ℕ) → L → List ℕ → List ℕ
ended_answers s text start bytes = flat_map text (kept_lines s.limit (s.kept start) bytes)

-- the start of a line after the last newline of the bytes is stored
abbrev pub StoresRest : {L : Type 0} → StartOf L → L → L → List ℕ → Type 0
StoresRest s start start' bytes = s.kept start' ≡ kept_rest s.limit (s.kept start) bytes

-- bytes were taken from a reader, and the answers to them were written
abbrev pub AnswersTaken : {R W : Type 0} → (R → Option (List ℕ)) → (W → Option (List ℕ))
    → Watched R → Watched R → Watched W → Watched W → (List ℕ → List ℕ) → Type 0
AnswersTaken remaining contents reader reader' writer writer' answers =
    (taken : List ℕ) × Takes remaining reader reader' taken
    × Writes contents writer writer' (answers taken)

-- ..more than so many bytes, and the answers to the first of them were written
abbrev pub AnswersFirst : {R W : Type 0} → (R → Option (List ℕ)) → (W → Option (List ℕ)) → ℕ
    → Watched R → Watched R → Watched W → Watched W → (List ℕ → List ℕ) → Type 0
AnswersFirst remaining contents limit reader reader' writer writer' answers =
    (taken : List ℕ) × Takes remaining reader reader' taken × (limit < length taken)
    × Writes contents writer writer' (answers (take limit taken))

-- ..and a prefix of the answers to them was written
abbrev pub AnswersFront : {R W : Type 0} → (R → Option (List ℕ)) → (W → Option (List ℕ))
    → Watched R → Watched R → Watched W → Watched W → (List ℕ → List ℕ) → Type 0
AnswersFront remaining contents reader reader' writer writer' answers =
    (taken : List ℕ) × Takes remaining reader reader' taken
    × WritesFront contents writer writer' (answers taken)

-- all bytes, at most so many, were taken from a reader, the lines that they end were answered, and
-- the rest is stored
abbrev pub AnswersAll : {L R W : Type 0} → StartOf L → (R → Option (List ℕ))
    → (W → Option (List ℕ)) → (List ℕ → List ℕ) → ℕ → Watched R → Watched R
    → Watched W → Watched W → L → L → Type 0
AnswersAll s remaining contents text limit reader reader' writer writer' start start' =
    (taken : List ℕ) × Takes remaining reader reader' taken
    × IsAtEnd (remaining (inner_of reader')) × (length taken ≤ limit)
    × Writes contents writer writer' (ended_answers s text start taken)
    × StoresRest s start start' taken

-- so many bytes, at most as many as are left, were taken from a reader, the lines that they end
-- were answered, and the rest is stored
abbrev pub AnswersRead : {L R W : Type 0} → StartOf L → (R → Option (List ℕ))
    → (W → Option (List ℕ)) → (List ℕ → List ℕ) → ℕ → Watched R → Watched R
    → Watched W → Watched W → L → L → ℕ → Type 0
AnswersRead s remaining contents text left reader reader' writer writer' start start' count =
    (taken : List ℕ) × Takes remaining reader reader' taken × (length taken ≡ count)
    × (count ≤ left) × Writes contents writer writer' (ended_answers s text start taken)
    × StoresRest s start start' taken
