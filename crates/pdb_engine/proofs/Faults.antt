-- What is known of a fault by the call that failed.
use Rattle.std.proofs.Common.{◌≡◌, sym, subst, ◌∙◌, ap, inl, inr, refl}
use Rattle.std.specs.Prelude.{◌+◌, ◌-◌, ◌^◌, min, Result, Ok, Err, OnOk, IfErr}
use Rattle.std.specs.declared.io.ErrorKind.{ErrorKind}
use Rattle.std.specs.declared.io.ErrorKind.TheVariants as kinds
use Rattle.pdb_engine.specs.declared.fault.InputFault.{InputFault}
use Rattle.pdb_engine.specs.declared.fault.InputFault.TheVariants.{Read, Write, InputTooLong, OutOfMemory}
use Rattle.pdb_engine.specs.declared.watched.Watched.{Watched}
use Rattle.pdb_engine.specs.InputFaults.{OnRead, OnWrite, OnTooLong, IsOfWriting, IsOfRunning, read_fault_of, write_fault_of}
use Rattle.pdb_engine.specs.InputFaults.{EndsAtWrite, EndsWriting, EndsRunning}
use Rattle.pdb_engine.specs.Watched.{CountsFailure, IsQuiet}

-- a fault of writing is a fault of running
pub of_running : (fault : InputFault) → IsOfWriting fault → IsOfRunning fault
of_running (Write kind) h = h
of_running OutOfMemory h = tt
of_running (Read kind) h = absurd h
of_running InputTooLong h = absurd h

-- it is no fault of reading
pub no_read : (P : ErrorKind → Type 0) (fault : InputFault) → IsOfWriting fault → OnRead fault P
no_read P (Write kind) h = tt
no_read P OutOfMemory h = tt
no_read P (Read kind) h = absurd h
no_read P InputTooLong h = tt

-- nor says it that the input is too long
pub no_length : (P : Type 0) (fault : InputFault) → IsOfWriting fault → OnTooLong fault P
no_length P (Write kind) h = tt
no_length P OutOfMemory h = tt
no_length P (Read kind) h = tt
no_length P InputTooLong h = absurd h

-- a call failed after calls of which none failed
counted_later : {T : Type 0} (a b c : Watched T) (kind : ErrorKind) → IsQuiet a b → CountsFailure b c kind → CountsFailure a c kind
counted_later a b c kind quiet failed = record { rose = failed.rose ∙ ap (λ n. min (n + 1) (2 ^ 64 - 1)) quiet.same_failures; kind_kept = failed.kind_kept }

-- none failed, neither before nor after
quiet_later : {T : Type 0} (a b c : Watched T) → IsQuiet a b → IsQuiet b c → IsQuiet a c
quiet_later a b c first last = record { same_failures = last.same_failures ∙ first.same_failures; same_kind = last.same_kind ∙ first.same_kind }

-- where none is made, none fails
pub quiet_same : {T : Type 0} (a : Watched T) → IsQuiet a a
quiet_same a = record { same_failures = refl; same_kind = refl }

-- writing ends so after writes of which none failed
pub writing_later : {T : Type 0} (fault : InputFault) (a b c : Watched T) → IsQuiet a b → EndsWriting fault b c → EndsWriting fault a c
writing_later fault a b c quiet (inl (kind, e, failed)) = inl (kind, e, counted_later a b c kind quiet failed)
writing_later fault a b c quiet (inr (e, last)) = inr (e, quiet_later a b c quiet last)

-- running ends so after calls of which none failed
pub running_later : {R W : Type 0} (fault : InputFault) (a b c : Watched R) (u v w : Watched W) → IsQuiet a b → IsQuiet u v → EndsRunning fault b c v w → EndsRunning fault a c u w
running_later fault a b c u v w quiet quiet' (inl ((kind, e, failed), last)) = inl ((kind, e, counted_later a b c kind quiet failed), quiet_later u v w quiet' last)
running_later fault a b c u v w quiet quiet' (inr (inl (last, ends))) = inr (inl (quiet_later a b c quiet last, writing_later fault u v w quiet' ends))
running_later fault a b c u v w quiet quiet' (inr (inr (e, last, last'))) = inr (inr (e, quiet_later a b c quiet last, quiet_later u v w quiet' last'))

-- a read that failed so
pub read_failed : (P : ErrorKind → Type 0) (fault : InputFault) (kind : ErrorKind) → fault ≡ read_fault_of kind → P kind → OnRead fault P
read_failed P fault kind e h = subst (λ (f : InputFault). OnRead f P) (sym e) (said kind h)
  where
    said : (kind : ErrorKind) → P kind → OnRead (read_fault_of kind) P
    said kinds.OutOfMemory h = tt
    said kind h = h

-- a write that failed so
pub write_failed : (P : ErrorKind → Type 0) (fault : InputFault) (kind : ErrorKind) → fault ≡ write_fault_of kind → P kind → OnWrite fault P
write_failed P fault kind e h = subst (λ (f : InputFault). OnWrite f P) (sym e) (said kind h)
  where
    said : (kind : ErrorKind) → P kind → OnWrite (write_fault_of kind) P
    said kinds.OutOfMemory h = tt
    said kind h = h

-- a failed read is no failed write
pub no_write : (P : ErrorKind → Type 0) (fault : InputFault) (kind : ErrorKind) → fault ≡ read_fault_of kind → OnWrite fault P
no_write P fault kind e = subst (λ (f : InputFault). OnWrite f P) (sym e) (said kind)
  where
    said : (kind : ErrorKind) → OnWrite (read_fault_of kind) P
    said kinds.OutOfMemory = tt
    said kind = tt

-- nor says it that the input is too long
pub no_read_length : (P : Type 0) (fault : InputFault) (kind : ErrorKind) → fault ≡ read_fault_of kind → OnTooLong fault P
no_read_length P fault kind e = subst (λ (f : InputFault). OnTooLong f P) (sym e) (said kind)
  where
    said : (kind : ErrorKind) → OnTooLong (read_fault_of kind) P
    said kinds.OutOfMemory = tt
    said kind = tt

-- a failed write is no failed read
no_read_at_write : (P : ErrorKind → Type 0) (fault : InputFault) (kind : ErrorKind) → fault ≡ write_fault_of kind → OnRead fault P
no_read_at_write P fault kind e = subst (λ (f : InputFault). OnRead f P) (sym e) (said kind)
  where
    said : (kind : ErrorKind) → OnRead (write_fault_of kind) P
    said kinds.OutOfMemory = tt
    said kind = tt

-- where running ended at a failed read, that read counts
pub ended_at_read : {R W : Type 0} (fault : InputFault) (a b : Watched R) (v w : Watched W) → EndsRunning fault a b v w → OnRead fault (λ kind. CountsFailure a b kind)
ended_at_read fault a b v w (inl ((kind, e, failed), quiet)) = read_failed (λ kind. CountsFailure a b kind) fault kind e failed
ended_at_read fault a b v w (inr (inl (quiet, inl (kind, e, failed)))) = no_read_at_write (λ kind. CountsFailure a b kind) fault kind e
ended_at_read fault a b v w (inr (inl (quiet, inr (e, quiet')))) = subst (λ (f : InputFault). OnRead f (λ kind. CountsFailure a b kind)) (sym e) tt
ended_at_read fault a b v w (inr (inr (e, quiet, quiet'))) = subst (λ (f : InputFault). OnRead f (λ kind. CountsFailure a b kind)) (sym e) tt

-- where writing ended at a failed write, that write counts
pub ended_at_write : {W : Type 0} (fault : InputFault) (v w : Watched W) → EndsWriting fault v w → OnWrite fault (λ kind. CountsFailure v w kind)
ended_at_write fault v w (inl (kind, e, failed)) = write_failed (λ kind. CountsFailure v w kind) fault kind e failed
ended_at_write fault v w (inr (e, quiet)) = subst (λ (f : InputFault). OnWrite f (λ kind. CountsFailure v w kind)) (sym e) tt

-- ..and so where running did
pub run_ended_at_write : {R W : Type 0} (fault : InputFault) (a b : Watched R) (v w : Watched W) → EndsRunning fault a b v w → OnWrite fault (λ kind. CountsFailure v w kind)
run_ended_at_write fault a b v w (inl ((kind, e, failed), quiet)) = no_write (λ kind. CountsFailure v w kind) fault kind e
run_ended_at_write fault a b v w (inr (inl (quiet, ends))) = ended_at_write fault v w ends
run_ended_at_write fault a b v w (inr (inr (e, quiet, quiet'))) = subst (λ (f : InputFault). OnWrite f (λ kind. CountsFailure v w kind)) (sym e) tt

-- the last of several writes, after those of which none failed
pub write_end : {T : Type 0} (r : Result (Unit {0}) InputFault) (a b c : Watched T) → IsQuiet a b → IfErr r (λ fault. EndsAtWrite fault b c) → IfErr r (λ fault. EndsWriting fault a c)
write_end (Ok done) a b c quiet failed = tt
write_end (Err fault) a b c quiet (kind, e, failed) = inl (kind, e, counted_later a b c kind quiet failed)

-- where it did not fail either, none did
pub quiet_end : {T : Type 0} (r : Result (Unit {0}) InputFault) (a b c : Watched T) → IsQuiet a b → OnOk r (IsQuiet b c) → OnOk r (IsQuiet a c)
quiet_end (Err fault) a b c quiet last = tt
quiet_end (Ok done) a b c quiet last = quiet_later a b c quiet last
