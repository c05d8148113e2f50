-- The section contributions of the DBI stream (3): parts of sections, each with its module.
-- The layout is that of the Section Contribution Substream of LLVM's The PDB DBI Stream.
use Rattle.std.specs.Prelude.{ℕ, ◌+◌, List, [], ◌∷◌, ◌==◌, None, if◌then◌else◌, Result, Ok, Err}
use Rattle.std.specs.Prelude.{codes}
use Rattle.std.specs.Int.{w32}
use Rattle.pdb_container.specs.Container.{half_at, word_at}
use Rattle.pdb_container.specs.Fault.{Fault, UnimplementedFeature, ◌>>=◌}
use Rattle.pdb_container.specs.Fields.{Reader, bytes_of, number_at}
use Rattle.pdb_container.specs.Listing.{Listing, ending, listing}
use Rattle.pdb_symbols_modules.specs.declared.contributions.DBISectionContribution.{
  DBISectionContribution,
}
use Rattle.pdb_symbols_modules.specs.declared.contributions.Version.{Version}
use Rattle.pdb_symbols_modules.specs.declared.contributions.Version.TheVariants as versions

-- an entry, by the places of its numbers
abbrev pub contribution_in : List ℕ → DBISectionContribution
contribution_in bytes = record {
  offset = record { section = half_at bytes 0; offset = word_at bytes 4 };
  size = word_at bytes 8;
  characteristics = record { 0 = word_at bytes 12 };
  «module» = half_at bytes 16;
  data_crc = word_at bytes 20;
  reloc_crc = word_at bytes 24;
}

-- an entry, 28 bytes
unfoldable pub contribution_at : Reader DBISectionContribution
contribution_at bytes = do
  entry ← bytes_of 28 bytes
  Ok (contribution_in entry.0, entry.1)

-- an entry of the second version, 4 bytes more
unfoldable pub long_contribution_at : Reader DBISectionContribution
long_contribution_at bytes = do
  entry ← contribution_at bytes
  more ← number_at w32 entry.1
  Ok (entry.0, more.1)

-- an entry, by the version of its substream
abbrev pub contribution_for : Version → Reader DBISectionContribution
contribution_for versions.Ver60 = contribution_at
contribution_for versions.V2 = long_contribution_at

-- the version with that number
abbrev pub version_of : ℕ → Result Version Fault
version_of n =
    if n == 0xeffe0000 + 19970605 then Ok versions.Ver60
    else (if n == 0xeffe0000 + 20140516 then Ok versions.V2
    else Err (UnimplementedFeature (codes "section contribution version")))

-- the entries after their version, and the end of their list; an empty substream has none
unfoldable pub contributions_of : List ℕ → Result (Listing DBISectionContribution) Fault
contributions_of [] = Ok (ending None)
contributions_of (b ∷ bytes) = do
  number ← number_at w32 (b ∷ bytes)
  version ← version_of number.0
  Ok (listing (contribution_for version) number.1)
