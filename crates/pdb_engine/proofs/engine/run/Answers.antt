use Rattle.std.proofs.Common.{rules, arith, ◌∙◌, ◌≡◌, ◌≢◌, [], ◌∷◌, List, ℕ, sym, ap, subst, length, refl, inl, inr}
use Rattle.std.specs.Io.KnownBytes.{Appends}
use Rattle.pdb_engine.specs.InputLines.{Begins}
use Rattle.pdb_engine.proofs.Runs.{run_read_out, run_too_long, run_part, run_ended, run_last, run_last_part}
use Rattle.pdb_engine.proofs.Faults.{ended_at_read, ended_at_write, run_ended_at_write, writing_later}
use Rattle.pdb_engine.proofs.engine.run.Goals as goal

empty_is : (xs : List ℕ) → length xs ≡ 0 → xs ≡ []
empty_is [] h = refl
empty_is (x ∷ xs) h = absurd (omega arith)

some_is : (xs ys : List ℕ) → xs ≡ ys → length xs ≢ 0 → ys ≢ []
some_is xs ys e h n = h (ap length (e ∙ n))

pub returns-in-Err-clause-read_out : goal.returns-in-Err-clause-read_out
returns-in-Err-clause-read_out g c = λ known. run_read_out _ g.met.A.Start.LineStart.holds_one _ (c.requires (c.pump.ensures.grows known)) c.in-Err.fault _ _ _ _ _ c.new-start.ensures (c.in-Err.ensures.read_out known)

pub returns-in-Err-clause-too_long : goal.returns-in-Err-clause-too_long
returns-in-Err-clause-too_long g c = λ known. run_too_long _ g.met.A.Start.LineStart.holds_one _ (c.requires (c.pump.ensures.grows known)) c.in-Err.fault _ (g.R.Read.remaining c.pump.new.reader.inner) _ _ _ c.args.limit c.new-start.ensures (c.in-Err.ensures.too_long known)

pub returns-in-Err-clause-part : goal.returns-in-Err-clause-part
returns-in-Err-clause-part g c = λ known. run_part _ g.met.A.Start.LineStart.holds_one _ (c.requires (c.pump.ensures.grows known)) _ (g.R.Read.remaining c.pump.new.reader.inner) _ _ _ c.new-start.ensures (c.in-Err.ensures.part known)

pub returns-then-is_empty-clause-ok : goal.returns-then-is_empty-clause-ok
returns-then-is_empty-clause-ok g c = λ known.
    let none : g.A.Start.LineStart.kept c.pump.new.buffers.start ≡ [] = sym c.bytes.ensures ∙ empty_is _ (search rules) in
    run_ended _ g.met.A.Start.LineStart.holds_one _ (c.requires (c.pump.ensures.grows known)) _ (g.R.Read.remaining c.pump.new.reader.inner) _ _ c.args.limit _ (g.A.Start.LineStart.kept c.pump.new.buffers.start) c.new-start.ensures none (c.in-Ok-pump.ensures.ok known)

pub returns-clause-ok : goal.returns-clause-ok
returns-clause-ok g c = λ known.
    let some : g.A.Start.LineStart.kept c.pump.new.buffers.start ≢ [] = some_is _ _ c.bytes.ensures (search rules) in
    run_last _ g.met.A.Start.LineStart.holds_one _ (c.requires (c.pump.ensures.grows (c.answer_line.ensures.grows known))) _ _ (g.R.Read.remaining c.pump.new.reader.inner) _ _ _ c.args.limit _ (g.A.Start.LineStart.kept c.pump.new.buffers.start) c.pump.ensures.same c.new-start.ensures some (c.in-Ok-pump.ensures.ok (c.answer_line.ensures.grows known)) (subst (λ (l : List ℕ). Appends (g.W.Write.contents c.pump.new.writer.inner) (g.W.Write.contents c.answer_line.new.writer.inner) (g.A.Answers.text c.pump.new.answers l)) c.bytes-2.ensures (c.in-Ok-answer_line.ensures.ok known))

pub returns-in-Err-answer_line-clause-part : goal.returns-in-Err-answer_line-clause-part
returns-in-Err-answer_line-clause-part g c = λ known.
    let some : g.A.Start.LineStart.kept c.pump.new.buffers.start ≢ [] = some_is _ _ c.bytes.ensures (search rules) in
    run_last_part _ g.met.A.Start.LineStart.holds_one _ (c.requires (c.pump.ensures.grows (c.answer_line.ensures.grows known))) _ _ (g.R.Read.remaining c.pump.new.reader.inner) _ _ _ c.args.limit _ (g.A.Start.LineStart.kept c.pump.new.buffers.start) c.pump.ensures.same c.new-start.ensures some (c.in-Ok-pump.ensures.ok (c.answer_line.ensures.grows known)) (subst (λ (l : List ℕ). (out : List ℕ) × Appends (g.W.Write.contents c.pump.new.writer.inner) (g.W.Write.contents c.answer_line.new.writer.inner) out × Begins out (g.A.Answers.text c.pump.new.answers l)) c.bytes-2.ensures (c.in-Err-answer_line.ensures.part known))

pub returns-in-Err-clause-read_fails : goal.returns-in-Err-clause-read_fails
returns-in-Err-clause-read_fails g c = ended_at_read _ _ _ _ _ c.in-Err.ensures.ends

pub returns-in-Err-clause-write_fails : goal.returns-in-Err-clause-write_fails
returns-in-Err-clause-write_fails g c = run_ended_at_write _ _ _ _ _ c.in-Err.ensures.ends

pub returns-in-Err-answer_line-clause-write_fails : goal.returns-in-Err-answer_line-clause-write_fails
returns-in-Err-answer_line-clause-write_fails g c = ended_at_write _ _ _ (writing_later _ _ _ _ c.in-Ok-pump.ensures.quiet.1 c.in-Err-answer_line.ensures.ends)

pub returns-in-Err-answer_line-clause-ends : goal.returns-in-Err-answer_line-clause-ends
returns-in-Err-answer_line-clause-ends g c = inr (inl (c.in-Ok-pump.ensures.quiet.0, writing_later _ _ _ _ c.in-Ok-pump.ensures.quiet.1 c.in-Err-answer_line.ensures.ends))
