-- What loading goes over is what the calls of an open database read, where stream 3 was read.
use Rattle.std.proofs.Common.{◌≡◌, ℕ, inl, inr, List, Result, Ok, Err, refl}
use Rattle.std.specs.Prelude.{Option, None, Some, nat_lt}
use Rattle.std.proofs.lemmas.Bool.{cases_Bool}
use Rattle.pdb_container.specs.Fault.{Fault, ◌>>=◌}
use Rattle.pdb_addresses.specs.declared.sections.ImageSectionHeader.{ImageSectionHeader}
use Rattle.pdb_symbols_modules.specs.AddressTables.{Found, sections_by, original_sections_by}
use Rattle.pdb_symbols_modules.specs.AddressTables.{map_behind, map_with, or_none, address_map_by}
use Rattle.pdb_symbols_modules.specs.Dbi.{Dbi}
use Rattle.pdb_symbols_modules.specs.DatabaseCalls.{debug_information, global_symbols_by}
use Rattle.pdb_symbols_modules.specs.DatabaseCalls.{global_symbols, sections, address_map}
use Rattle.pdb_symbols_modules.specs.OptionalHeader.{optional_at, optional_stream, to_source_place}
use Rattle.pdb_symbols_modules.specs.OptionalHeader.{from_source_place, sections_place}
use Rattle.pdb_symbols_modules.specs.OptionalHeader.{original_sections_place}
use Rattle.pdb_symbols_modules.specs.Shared.{number, named, symbols_number, optional_number, shared}
use Rattle.pdb_symbols_modules.specs.Shared.{optional_bytes, optional_in}
use Rattle.pdb_symbols_modules.specs.Streams.{Streams, if_named}

-- ---- the symbol records

symbols_numbered : (s : Streams) (d : Dbi) → debug_information (shared s) ≡ Ok d
    → symbols_number (s.at 3) ≡ number d.symbol_records_stream
unfolding symbols_number named debug_information shared
symbols_numbered s d read = rw read refl

-- the symbol records among what is shared are the stream's
pub symbols_alike : (s : Streams) (d : Dbi) → debug_information (shared s) ≡ Ok d
    → global_symbols_by d.symbol_records_stream (shared s).symbols
    ≡ global_symbols_by d.symbol_records_stream (s.at d.symbol_records_stream)
unfolding global_symbols_by shared
symbols_alike s d read = elim (cases_Bool (nat_lt d.symbol_records_stream 65535)) [
  | inl e ↦ rw (symbols_numbered s d read, e) refl
  | inr e ↦ rw e refl
]

-- the symbol records are read of their stream
pub symbols_read : (s : Streams) (d : Dbi) → debug_information (shared s) ≡ Ok d
    → global_symbols (shared s) ≡ global_symbols_by d.symbol_records_stream
    (s.at d.symbol_records_stream)
unfolding global_symbols
symbols_read s d read = rw read (symbols_alike s d read)

-- ---- the places of the optional header

-- a number that names a stream leads to it, and another to none
led : (s : Streams) (r : Result ℕ Fault) → (r >>= λ n. if_named n (s.at n))
    ≡ (r >>= λ n. if_named n ((r >>= number) >>= s.at))
unfolding if_named
led s (Err e) = refl
led s (Ok n) = elim (cases_Bool (nat_lt n 65535)) [ inl e ↦ rw e refl | inr e ↦ rw e refl ]

numbered : (s : Streams) (d : Dbi) (place : ℕ) → debug_information (shared s) ≡ Ok d
    → optional_number place (s.at 3) ≡ (optional_at place d.optional_header >>= number)
unfolding optional_number named debug_information shared
numbered s d place read = rw read refl

-- where the streams that are shared have one for the place
alike_at : (s : Streams) (d : Dbi) (place : ℕ) → debug_information (shared s) ≡ Ok d
    → optional_bytes (shared s) place ≡ (optional_number place (s.at 3) >>= s.at)
    → optional_in (shared s) d place ≡ optional_stream s d place
unfolding optional_stream optional_in
alike_at s d place read same =
    rw (same, numbered s d place read, led s (optional_at place d.optional_header)) refl

pub to_source_alike : (s : Streams) (d : Dbi) → debug_information (shared s) ≡ Ok d
    → optional_in (shared s) d to_source_place ≡ optional_stream s d to_source_place
unfolding shared
to_source_alike s d read = alike_at s d to_source_place read refl

pub from_source_alike : (s : Streams) (d : Dbi) → debug_information (shared s) ≡ Ok d
    → optional_in (shared s) d from_source_place ≡ optional_stream s d from_source_place
unfolding shared
from_source_alike s d read = alike_at s d from_source_place read refl

pub section_headers_alike : (s : Streams) (d : Dbi) → debug_information (shared s) ≡ Ok d
    → optional_in (shared s) d sections_place ≡ optional_stream s d sections_place
unfolding shared
section_headers_alike s d read = alike_at s d sections_place read refl

pub original_headers_alike : (s : Streams) (d : Dbi) → debug_information (shared s) ≡ Ok d
    → optional_in (shared s) d original_sections_place ≡ optional_stream s d original_sections_place
unfolding shared
original_headers_alike s d read = alike_at s d original_sections_place read refl

-- ---- the address tables

pub sections_alike : (s : Streams) (d : Dbi) → debug_information (shared s) ≡ Ok d
    → sections_by (optional_in (shared s) d) ≡ sections_by (optional_stream s d)
unfolding sections_by
sections_alike s d read = rw (section_headers_alike s d read) refl

pub original_sections_alike : (s : Streams) (d : Dbi) → debug_information (shared s) ≡ Ok d
    → original_sections_by (optional_in (shared s) d) ≡ original_sections_by (optional_stream s d)
unfolding original_sections_by
original_sections_alike s d read = rw (original_headers_alike s d read) refl

mapped_alike : (f g : Found) (image : List ImageSectionHeader)
    (original : Option (List ImageSectionHeader)) → f to_source_place ≡ g to_source_place
    → f from_source_place ≡ g from_source_place
    → map_with f image original ≡ map_with g image original
unfolding map_behind
mapped_alike f g image None to from = refl
mapped_alike f g image (Some original) to from = rw (to, from) refl

tables_alike : (f g : Found) (image original : Result (Option (List ImageSectionHeader)) Fault)
    → f to_source_place ≡ g to_source_place → f from_source_place ≡ g from_source_place
    → (image >>= λ i. original >>= λ o. map_with f (or_none i) o)
    ≡ (image >>= λ i. original >>= λ o. map_with g (or_none i) o)
tables_alike f g (Err e) original to from = refl
tables_alike f g (Ok i) (Err e) to from = refl
tables_alike f g (Ok i) (Ok o) to from = mapped_alike f g (or_none i) o to from

-- the address map by what is shared is the one by the streams
pub address_map_alike : (s : Streams) (d : Dbi) → debug_information (shared s) ≡ Ok d
    → address_map_by (optional_in (shared s) d) ≡ address_map_by (optional_stream s d)
unfolding address_map_by
address_map_alike s d read =
    rw (sections_alike s d read, original_sections_alike s d read)
    (tables_alike (optional_in (shared s) d) (optional_stream s d)
    (sections_by (optional_stream s d)) (original_sections_by (optional_stream s d))
    (to_source_alike s d read) (from_source_alike s d read))

-- the section headers are read of their stream
pub sections_read : (s : Streams) (d : Dbi) → debug_information (shared s) ≡ Ok d
    → sections (shared s) ≡ sections_by (optional_stream s d)
unfolding sections
sections_read s d read = rw read (sections_alike s d read)

-- the address map is read of its streams
pub address_map_read : (s : Streams) (d : Dbi) → debug_information (shared s) ≡ Ok d
    → address_map (shared s) ≡ address_map_by (optional_stream s d)
unfolding address_map
address_map_read s d read = rw read (address_map_alike s d read)
