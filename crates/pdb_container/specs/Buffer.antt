-- Bytes that are read in order, and the results and effects of a call on them.
use Rattle.std.specs.Prelude.{◌≡◌, ℕ, ◌-◌, ◌||◌, List, length, take, drop, nat_lt, if◌then◌else◌}
use Rattle.std.specs.Prelude.{Result, Ok, Err}
use Rattle.std.specs.Int.{next_multiple_of}
use Rattle.pdb_container.specs.declared.error.Error.{Error}
use Rattle.pdb_container.specs.Fault.{Fault, UnexpectedEof, fault_of, IsOfBytes, ◌>>=◌}
use Rattle.pdb_container.specs.Fields.{Reader}

-- the bytes, and the place of the next one
pub record Buffer : Type 0 where
  pub bytes : List ℕ
  pub pos : ℕ

-- the bytes that are left
unfoldable pub rest : Buffer → List ℕ
rest b = drop b.pos b.bytes

-- the same bytes, with these left
abbrev pub behind : Buffer → List ℕ → Buffer
behind b left = record { bytes = b.bytes; pos = length b.bytes - length left }

-- A call returned the reading's value of the bytes that are left and advanced past it; or it
-- returned the reading's fault and stayed.
abbrev pub Reads : {X Y : Type 0} → (X → Y) → Result X Error → Buffer → Buffer → Reader Y → Type 0
Reads view (Ok x) old new read =
    (read (rest old) ≡ Ok (view x, rest new)) × (new ≡ behind old (rest new))
Reads view (Err e) old new read = IsOfBytes e × (read (rest old) ≡ Err (fault_of e)) × (new ≡ old)

-- As `Reads`, of several calls in a row: where one of them is refused, the calls before it have
-- advanced.
abbrev pub ReadsInSteps : {X Y : Type 0} → (X → Y) → Result X Error → Buffer → Buffer → Reader Y
    → Type 0
ReadsInSteps view (Ok x) old new read =
    (read (rest old) ≡ Ok (view x, rest new)) × (new ≡ behind old (rest new))
ReadsInSteps view (Err e) old new read =
    IsOfBytes e × (read (rest old) ≡ Err (fault_of e)) × (new.bytes ≡ old.bytes)

-- As `ReadsInSteps`, of the bytes that are left alone.
abbrev pub ParsesFront : {X Y : Type 0} → (X → Y) → Result X Error → List ℕ
    → Result (Y × List ℕ) Fault → Type 0
ParsesFront view (Ok x) new read = read ≡ Ok (view x, new)
ParsesFront view (Err e) new read = IsOfBytes e × (read ≡ Err (fault_of e))

-- A call left the buffer as stated; or it returned the fault and changed nothing.
abbrev pub Moves : {X : Type 0} → Result X Error → Buffer → Buffer → Result Buffer Fault → Type 0
Moves (Ok x) old new moved = moved ≡ Ok new
Moves (Err e) old new moved = IsOfBytes e × (moved ≡ Err (fault_of e)) × (new ≡ old)

-- a value that is read, with nothing after it taken
abbrev pub peeked : {A : Type 0} → Reader A → List ℕ → Result A Fault
peeked read bytes = read bytes >>= λ x. Ok x.0

-- the first n bytes alone, where all of them are there and the place lies past none of them
unfoldable pub truncated : ℕ → Buffer → Result Buffer Fault
truncated n b =
    if nat_lt n b.pos || nat_lt (length b.bytes) n then Err UnexpectedEof else Ok record {
      bytes = take n b.bytes;
      pos = b.pos;
    }

-- the least multiple of n at or past the place, where the bytes reach to it
unfoldable pub aligned : ℕ → Buffer → Result Buffer Fault
aligned n b =
    if nat_lt (length b.bytes) (next_multiple_of b.pos n) then Err UnexpectedEof else Ok record {
      bytes = b.bytes;
      pos = next_multiple_of b.pos n;
    }
