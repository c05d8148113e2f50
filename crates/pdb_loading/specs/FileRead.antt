-- The bytes of a file that are read.
use Rattle.std.specs.Prelude.{◌≡◌, ℕ, ◌≤◌, List, ◌++◌, length, nat_eq, false, Option}
use Rattle.std.specs.Global.{Vec}
use Rattle.std.specs.Io.{appended_bytes}
use Rattle.std.specs.Io.KnownBytes.{Consumes}
use Rattle.std.specs.List.{starts_with}
use Rattle.pdb_container.specs.Container.{magic, pages_end}

-- All of the file was read; or the first bytes, as many as a container's magic has, which aren't
-- the magic; or a prefix that has the header's 4096 bytes and all pages up to the last that the
-- header allows.
pub data IsRead (file bytes : List ℕ) : Type 0 where
  all : bytes ≡ file → IsRead file bytes
  front : (rest : List ℕ) → file ≡ bytes ++ rest → 32 ≤ length bytes
      → starts_with nat_eq bytes magic ≡ false → IsRead file bytes
  pages : (tail : List ℕ) → file ≡ bytes ++ tail → 4096 ≤ length bytes
      → pages_end bytes ≤ length bytes → IsRead file bytes

-- bytes that a reader lost, of the bytes known of it, were appended to other bytes
abbrev pub Appends : Option (List ℕ) → Option (List ℕ) → Vec ℕ → Vec ℕ → Type 0
Appends known left old new = Consumes known left (appended_bytes old.items new.items)
