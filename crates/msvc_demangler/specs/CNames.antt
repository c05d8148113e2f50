-- Names of C functions on 32-bit x86, which their calling conventions decorate.
use Rattle.std.specs.Prelude.{ℕ, ◌-◌, ◌==◌, ◌&&◌, ◌||◌, nat_lt, if◌then◌else◌, List, Bool}
use Rattle.std.specs.Prelude.{Option, None, Some, length, take, drop, slice_index}
use Rattle.std.specs.List.{suffix_len}
use Rattle.msvc_demangler.specs.Bytes.{begins, is_digit}

-- a text that ends with @
abbrev pub ends_with_at : List ℕ → Bool
ends_with_at text = nat_lt 0 (length text) && (slice_index text (length text - 1) == 64)

-- a text but for its last byte
abbrev pub but_last : List ℕ → List ℕ
but_last text = take (length text - 1) text

-- the part before an @ after which only digits stand, if there is one
unfoldable pub before_size : List ℕ → Option (List ℕ)
before_size name =
    let front = take (length name - suffix_len is_digit name) name in
    if ends_with_at front then Some (but_last front) else None

-- a name without the _ or @ that it begins with
unfoldable pub after_mark : List ℕ → List ℕ
after_mark name = if begins 95 name || begins 64 name then drop 1 name else name

-- a name before its size: without one more @ at its end, or without a mark at its head
unfoldable pub before_convention : List ℕ → List ℕ
before_convention front = if ends_with_at front then but_last front else after_mark front

-- a name with a size, or with none
abbrev pub by_size : Option (List ℕ) → List ℕ → List ℕ
by_size None name = after_mark name
by_size (Some front) name = before_convention front

-- the name of a C function: one that begins with ? is no such name
unfoldable pub c_name : List ℕ → List ℕ
c_name name = if begins 63 name then name else by_size (before_size name) name
