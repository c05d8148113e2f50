-- The symbol file of a database and its image, and its refusal.
use Rattle.std.specs.Prelude.{◌≡◌, ◌⊎◌, ℕ, ◌-◌, ◌^◌, ◌++◌, ◌&&◌, ◌==◌, Bool, true, false, IsTrue, List, []}
use Rattle.std.specs.Prelude.{drop, if◌then◌else◌, Option, None, Some, Result, Ok, Err}
use Rattle.std.specs.Fmt.{digits, format_spec, padded_integral}
use Rattle.std.specs.Io.KnownBytes.{Appends}
use Rattle.std.specs.List.{flat_map}
use Rattle.std.specs.Str.{bytes_eq}
use Rattle.pdb_container.specs.Container.{half_at, word_at}
use Rattle.pdb_container.specs.Fault.{◌>>=◌}
use Rattle.pdb_addr2line.specs.Identity.{identity_in}
use Rattle.pdb_image.specs.CodeView.{CodeView, code_view_of}
use Rattle.pdb_image.specs.Image.{Image, image_of}
use Rattle.pdb_image.specs.declared.error.ImageError.{ImageError}
use Rattle.pdb_image.specs.declared.identity.PdbIdentity.{PdbIdentity}
use Rattle.pdb_loading.specs.LoadFaults.{FailsLoading, Refuses}
use Rattle.pdb_loading.specs.Loading.{Loaded, LoadingFault, load_fault_with, loaded_with}
use Rattle.pdb_loading.specs.declared.load_fault.LoadFault.{LoadFault}
use Rattle.pdb_loading.specs.declared.order.ContributionOrder.TheVariants.{Any}
use Rattle.pdb_symbol_files.specs.Code.{answers_of_code}
use Rattle.pdb_symbol_files.specs.Heads.{code_id_text, module_text}
use Rattle.pdb_symbol_files.specs.Output.{AppendsFront}
use Rattle.pdb_symbol_files.specs.Reading.{ReadsBack}
use Rattle.pdb_symbol_files.specs.RecordTexts.{hexadecimal}
use Rattle.pdb_symbol_files.specs.Records.{SymbolRecords, symbol_records}
use Rattle.pdb_symbols.specs.declared.fault.SymbolsFault.{SymbolsFault}
use Rattle.pdb_symbols.specs.declared.fault.SymbolsFault.TheVariants as ends
use Rattle.pdb_symbols.specs.Ends.{FailsToWrite}
use Rattle.pdb_symbols.specs.SymbolsText.{HasRecords, IsNamedText, records_text}
use Rattle.pdb_symbols.specs.Told.{told_named}
use Rattle.pdb_symbols.specs.UnwindingText.{text_of_image}
use Rattle.pdb_symbols_modules.specs.Shared.{shared}
use Rattle.pdb_symbols_modules.specs.Streams.{Streams}

-- ---- the first records

-- a number in upper-case hexadecimal digits, so many at least
abbrev pub padded : ℕ → ℕ → List ℕ
padded width n = padded_integral (format_spec 32 0 4 width (2 ^ 64 - 1)) false [] (digits 16 true n)

-- the numbers that a GUID begins with
abbrev pub guid_numbers : List ℕ → List ℕ
guid_numbers guid =
    padded 8 (word_at guid 0) ++ padded 4 (half_at guid 4) ++ padded 4 (half_at guid 6)

-- a GUID, as symbol servers name it: three numbers, and eight bytes
unfoldable pub guid_name : List ℕ → List ℕ
guid_name guid = guid_numbers guid ++ flat_map (λ byte. padded 2 byte) (drop 8 guid)

-- an identity: the GUID, and the age
abbrev pub identity_name : PdbIdentity → List ℕ
identity_name i = guid_name i.guid ++ hexadecimal i.age

-- the paths of a database and of its image, and whether inlined calls are asked for
pub record Asked : Type 0 where
  pub path : List ℕ
  pub image_path : Option (List ℕ)
  pub inlines : Bool

-- the record of an image, if there is one
abbrev pub image_record : Option Image → Option (List ℕ) → List ℕ
image_record None path = []
image_record (Some image) None = []
image_record (Some image) (Some path) =
    code_id_text image.time_stamp image.size_of_image path

-- the records that identify a symbol file's database and its image
abbrev pub first_records : Asked → ℕ → PdbIdentity → Option Image → List ℕ
first_records asked machine i image =
    module_text machine (identity_name i) asked.path ++ image_record image asked.image_path

-- ---- a symbol file

-- the refusal of a symbol file
pub data Refusal : Type 0 where
  Load : LoadingFault → Refusal
  ImageFault : ImageError → Refusal
  ImageNamesNoPdb : Refusal
  OtherBuild : Refusal

abbrev pub in_loading : {A : Type 0} → Result A LoadingFault → Result A Refusal
in_loading (Ok x) = Ok x
in_loading (Err e) = Err (Load e)

abbrev pub in_image : {A : Type 0} → Result A ImageError → Result A Refusal
in_image (Ok x) = Ok x
in_image (Err e) = Err (ImageFault e)

abbrev pub same_identity : PdbIdentity → PdbIdentity → Bool
same_identity a b = bytes_eq a.guid b.guid && a.age == b.age

-- an image is of the build of an identity, by its CodeView record
abbrev pub named_build : PdbIdentity → Option CodeView → Result (Unit {0}) Refusal
named_build i None = Err ImageNamesNoPdb
named_build i (Some r) = if same_identity r.identity i then Ok tt else Err OtherBuild

unfoldable pub build_of : PdbIdentity → Image → Result (Unit {0}) Refusal
build_of i image = do
  r ← in_image (code_view_of image)
  named_build i r

-- the image in bytes, which is of the build of an identity
unfoldable pub image_in : PdbIdentity → List ℕ → Result (Option Image) Refusal
image_in i bytes = do
  image ← in_image (image_of bytes)
  ours ← build_of i image
  Ok (Some image)

-- the same where bytes are given
abbrev pub image_if : PdbIdentity → Option (List ℕ) → Result (Option Image) Refusal
image_if i None = Ok None
image_if i (Some bytes) = image_in i bytes

-- a symbol file: the records that identify its database and its image, the records of its
-- functions, and how these are unwound
pub record SymbolFile : Type 0 where
  pub first : List ℕ
  pub records : SymbolRecords
  pub unwinding : List ℕ

-- the symbol file of a database that was loaded: its functions are told from its frames at the
-- addresses at which code may run
abbrev pub file_of : Asked → Streams → Loaded → PdbIdentity → Option Image → SymbolFile
file_of asked s l i image = record {
  first = first_records asked (l.debug_information).machine i image;
  records = symbol_records
      (answers_of_code l.tables.map.image (told_named asked.inlines 23 Any s));
  unwinding = text_of_image image;
}

-- The symbol file of a database from its streams, and from the bytes of an image if there are any.
-- The database is loaded, then come its identity and the image.
unfoldable pub symbol_file : Asked → Option (List ℕ) → Streams → Result SymbolFile Refusal
symbol_file asked bytes s = do
  l ← in_loading (loaded_with Any (shared s))
  i ← in_loading (identity_in s)
  image ← image_if i bytes
  Ok (file_of asked s l i image)

-- the text of a symbol file, but for how functions are unwound
abbrev pub text_of : SymbolFile → List ℕ
text_of f = f.first ++ records_text f.records

-- the parts of a symbol file's text, and its image
pub record IsMade (f : SymbolFile) (head functions : List ℕ) (image : Option Image) : Type 0 where
  pub records : HasRecords head functions f.first f.records
  pub unwinding : text_of_image image ≡ f.unwinding

-- ---- the end of a call

-- The fault is loading's; or the identity's, where the file loads.
abbrev pub FailsToLoad : LoadFault → Streams → Type 0
FailsToLoad e s = Refuses e (load_fault_with Any s)
    ⊎ ((load_fault_with Any s ≡ None) × FailsLoading e (identity_in s))

-- A file that is made fails so; reads says that its database is read on demand, so that this may
-- fail.
abbrev pub FailsToMake : Bool → Result SymbolFile Refusal → Streams → SymbolsFault → Type 0
FailsToMake reads file s (ends.Load e) = FailsToLoad e s
FailsToMake reads file s (ends.File kind) = IsTrue reads
FailsToMake reads file s ends.ReadFile = ⊥
FailsToMake reads file s (ends.ImageFile kind) = ⊥
FailsToMake reads file s (ends.Image e) = file ≡ Err (ImageFault e)
FailsToMake reads file s ends.ImageNamesNoPdb = file ≡ Err ImageNamesNoPdb
FailsToMake reads file s ends.OtherBuild = file ≡ Err OtherBuild
FailsToMake reads file s (ends.Write kind) = ⊥
FailsToMake reads file s ends.OutputIsRead = ⊥

-- A symbol file was written, its names undecorated or not. A consumer reads its text back as its
-- records.
pub record IsWritten (demangle : Bool) (f : SymbolFile) (old new : Option (List ℕ)) : Type 0 where
  pub named : List ℕ
  pub is : IsNamedText demangle (text_of f) named
  pub back : ReadsBack f.records
  pub appends : Appends old new (named ++ f.unwinding)

-- A prefix of a symbol file was written.
pub record IsPartWritten (demangle : Bool) (f : SymbolFile) (old new : Option (List ℕ))
    : Type 0 where
  pub named : List ℕ
  pub is : IsNamedText demangle (text_of f) named
  pub appends : AppendsFront old new (named ++ f.unwinding)

-- The effect of a call that writes the symbol file of a database: the file; or nothing, with the
-- fault that it has; or a prefix, where writing fails.
abbrev pub WritesSymbols : Bool → Bool → Result SymbolFile Refusal → Streams → Option (List ℕ)
    → Option (List ℕ) → Result (Unit {0}) SymbolsFault → Type 0
WritesSymbols reads demangle file s old new (Ok done) =
    (f : SymbolFile) × (file ≡ Ok f) × IsWritten demangle f old new
WritesSymbols reads demangle file s old new (Err e) =
    (FailsToMake reads file s e × Appends old new [])
    ⊎ (FailsToWrite e × ((f : SymbolFile) × (file ≡ Ok f) × IsPartWritten demangle f old new))
