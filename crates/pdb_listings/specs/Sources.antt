-- Source files of a module, and bytes that have their stored checksums.
use Rattle.std.specs.Prelude.{◌≡◌, ◌++◌, ℕ, List, [], ◌∷◌, Option, None, Some, Result, Ok, Err}
use Rattle.std.specs.Prelude.{map, string_bytes}
use Rattle.std.specs.Global.{Vec}
use Rattle.std.specs.List.{flat_map}
use Rattle.std.specs.Str.Lossy.{utf8_lossy}
use Rattle.md5.specs.Md5.{md5 as digest_by_md5}
use Rattle.sha1.specs.Sha1.{sha1}
use Rattle.sha2.specs.Sha256.{sha256}
use Rattle.pdb_container.specs.Fault.{Fault}
use Rattle.pdb_container.specs.StringTable.{name_in}
use Rattle.pdb_lines.specs.Checksums.{Checksum, File, files_of, md5, no_sum, sha_1, sha_256}
use Rattle.pdb_lines.specs.LinesSubsections.{Program}
use Rattle.pdb_listings.specs.declared.sources.SourceFile.{SourceFile}
use Rattle.pdb_listings.specs.declared.sources.StoredSum.{StoredSum}
use Rattle.pdb_listings.specs.declared.sources.StoredSum.TheVariants as sums

-- bytes have the stored checksum: it is their digest
abbrev pub HasSum : StoredSum → List ℕ → Type 0
HasSum sums.None bytes = ⊥
HasSum (sums.Md5 stored) bytes = stored.items ≡ digest_by_md5 bytes
HasSum (sums.Sha1 stored) bytes = stored.items ≡ sha1 bytes
HasSum (sums.Sha256 stored) bytes = stored.items ≡ sha256 bytes

-- a checksum as a module has it
abbrev pub sum_seen : StoredSum → Checksum
sum_seen sums.None = no_sum
sum_seen (sums.Md5 stored) = md5 stored.items
sum_seen (sums.Sha1 stored) = sha_1 stored.items
sum_seen (sums.Sha256 stored) = sha_256 stored.items

-- a path, and a checksum
pub record Source : Type 0 where
  pub path : List ℕ
  pub sum : Checksum

-- a source file as it is returned
abbrev pub source_seen : SourceFile → Source
source_seen s = record { path = string_bytes s.path; sum = sum_seen s.sum }

-- Sources were appended to source files.
abbrev pub AddsSources : Vec SourceFile → List Source → Vec SourceFile → Type 0
AddsSources old added new = map source_seen new.items ≡ map source_seen old.items ++ added

-- a source file that may be missing
abbrev pub source_list : Option SourceFile → List Source
source_list None = []
source_list (Some s) = source_seen s ∷ []

-- the source of a file, from its path; none where the path can't be read
abbrev pub source_by : File → Result (List ℕ) Fault → List Source
source_by f (Ok name) = record { path = utf8_lossy name; sum = f.checksum } ∷ []
source_by f (Err e) = []

-- the source of a file of a module's list, from the names of the string table
abbrev pub source_of : List ℕ → File → List Source
source_of names f = source_by f (name_in names f.name)

-- the sources of files
abbrev pub sources_by : List ℕ → List File → List Source
sources_by names files = flat_map (source_of names) files

-- the sources of a module, from its line program; none where the line program can't be read
abbrev pub sources_of : List ℕ → Result Program Fault → List Source
sources_of names (Ok program) = sources_by names (files_of program.files).items
sources_of names (Err e) = []
