-- The printed text of a fault.
use Rattle.std.specs.Prelude.{ℕ, List, ◌++◌, codes}
use Rattle.std.specs.Fmt.{decimal}
use Rattle.std.specs.declared.io.ErrorKind.{ErrorKind}
use Rattle.std.specs.declared.io.ErrorKind.TheVariants as kinds
use Rattle.pdb_container.specs.declared.error.Error.{Error}
use Rattle.pdb_container.specs.declared.error.Error.TheVariants as errors
use Rattle.pdb_container.specs.declared.error.ModuleFault.{ModuleFault}
use Rattle.pdb_container.specs.declared.error.ModuleFault.TheVariants as kept

-- the printed text of the kind of an input or output error: its name
abbrev pub kind_text : ErrorKind → List ℕ
kind_text kinds.NotFound = codes "NotFound"
kind_text kinds.PermissionDenied = codes "PermissionDenied"
kind_text kinds.Interrupted = codes "Interrupted"
kind_text kinds.UnexpectedEof = codes "UnexpectedEof"
kind_text kinds.WriteZero = codes "WriteZero"
kind_text kinds.BrokenPipe = codes "BrokenPipe"
kind_text kind = codes "Other"

-- the printed text of the stored fault of a module's stream: its name, and its values in
-- parentheses
abbrev pub module_fault_text : ModuleFault → List ℕ
module_fault_text (kept.StreamNotFound value) =
    codes "StreamNotFound(" ++ decimal value ++ codes ")"
module_fault_text (kept.PageReferenceOutOfRange value) =
    codes "PageReferenceOutOfRange(" ++ decimal value ++ codes ")"
module_fault_text (kept.IoError kind) = codes "IoError(" ++ kind_text kind ++ codes ")"
module_fault_text kept.UnexpectedEof = codes "UnexpectedEof"

-- a variant's name, and its values in parentheses
abbrev pub error_text : Error → List ℕ
error_text errors.UnrecognizedFileFormat = codes "UnrecognizedFileFormat"
error_text (errors.InvalidPageSize value) = codes "InvalidPageSize(" ++ decimal value ++ codes ")"
error_text (errors.PageReferenceOutOfRange value) =
    codes "PageReferenceOutOfRange(" ++ decimal value ++ codes ")"
error_text (errors.StreamNotFound value) = codes "StreamNotFound(" ++ decimal value ++ codes ")"
error_text errors.StreamNameNotFound = codes "StreamNameNotFound"
error_text (errors.InvalidStreamLength text) = codes "InvalidStreamLength(" ++ text.now ++ codes ")"
error_text (errors.IoError kind) = codes "IoError(" ++ kind_text kind ++ codes ")"
error_text errors.UnexpectedEof = codes "UnexpectedEof"
error_text (errors.UnimplementedFeature text) =
    codes "UnimplementedFeature(" ++ text.now ++ codes ")"
error_text errors.GlobalSymbolsNotFound = codes "GlobalSymbolsNotFound"
error_text errors.SymbolTooShort = codes "SymbolTooShort"
error_text (errors.UnimplementedSymbolKind value) =
    codes "UnimplementedSymbolKind(" ++ decimal value ++ codes ")"
error_text (errors.InvalidTypeInformationHeader text) =
    codes "InvalidTypeInformationHeader(" ++ text.now ++ codes ")"
error_text errors.TypeTooShort = codes "TypeTooShort"
error_text (errors.TypeNotFound value) = codes "TypeNotFound(" ++ decimal value ++ codes ")"
error_text (errors.TypeNotIndexed index first) =
    codes "TypeNotIndexed(" ++ decimal index ++ codes ", " ++ decimal first ++ codes ")"
error_text (errors.UnexpectedNumericPrefix value) =
    codes "UnexpectedNumericPrefix(" ++ decimal value ++ codes ")"
error_text (errors.UnimplementedTypeKind value) =
    codes "UnimplementedTypeKind(" ++ decimal value ++ codes ")"
error_text (errors.UnimplementedFileChecksumKind value) =
    codes "UnimplementedFileChecksumKind(" ++ decimal value ++ codes ")"
error_text (errors.InvalidFileChecksumOffset value) =
    codes "InvalidFileChecksumOffset(" ++ decimal value ++ codes ")"
error_text errors.InvalidCompressedAnnotation = codes "InvalidCompressedAnnotation"
error_text (errors.UnknownBinaryAnnotation value) =
    codes "UnknownBinaryAnnotation(" ++ decimal value ++ codes ")"
error_text (errors.NotACrossModuleRef value) =
    codes "NotACrossModuleRef(" ++ decimal value ++ codes ")"
error_text (errors.CrossModuleRefNotFound value) =
    codes "CrossModuleRefNotFound(" ++ decimal value ++ codes ")"
error_text (errors.Kept fault) = codes "Kept(" ++ module_fault_text fault ++ codes ")"
error_text errors.OutOfMemory = codes "OutOfMemory"
