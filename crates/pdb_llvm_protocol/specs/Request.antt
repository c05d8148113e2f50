-- The request of a line, as llvm-symbolizer reads it.
use Rattle.std.specs.Prelude.{◌≡◌, ℕ, ◌+◌, ◌==◌, nat_eq, nat_lt, ◌||◌, if◌then◌else◌, Bool, List}
use Rattle.std.specs.Prelude.{[], ◌∷◌}
use Rattle.std.specs.Prelude.{codes, length, take, drop, slice_index, position, Option, None, Some}
use Rattle.std.specs.Prelude.{false, ok_or, true, unwrap_or, Result, Ok, Err}
use Rattle.std.specs.List.{list_all, starts_with}
use Rattle.pdb_llvm_protocol.specs.Number.{hexadecimal_of, is_digit, number_of}
use Rattle.pdb_llvm_protocol.specs.Words.{after_blanks, are_hexadecimal, trimmed, word_end}
use Rattle.pdb_llvm_protocol.specs.declared.request.Command.{Command}
use Rattle.pdb_llvm_protocol.specs.declared.request.Command.TheVariants.{Code, Data, Frame}
use Rattle.pdb_llvm_protocol.specs.declared.request.FileAndRest.{FileAndRest}
use Rattle.pdb_llvm_protocol.specs.declared.request.LineForm.{LineForm}
use Rattle.pdb_llvm_protocol.specs.declared.request.LineRequest.{LineRequest}
use Rattle.pdb_llvm_protocol.specs.declared.request.Prefix.{Prefix}
use Rattle.pdb_llvm_protocol.specs.declared.request.Prefix.TheVariants as prefixes
use Rattle.pdb_llvm_protocol.specs.declared.request.RequestedFile.{RequestedFile}
use Rattle.pdb_llvm_protocol.specs.declared.request.RequestedFile.TheVariants as requested
use Rattle.pdb_llvm_protocol.specs.declared.request.RequestFault.{RequestFault}
use Rattle.pdb_llvm_protocol.specs.declared.request.RequestFault.TheVariants as faults

-- the file of a request
pub data AskedFile : Type 0 where
  Given : AskedFile
  Named : List ℕ → AskedFile
  BuildId : List ℕ → AskedFile

-- the request of a line: a command, a file, and an address
pub record Request : Type 0 where
  pub command : Command
  pub file : AskedFile
  pub address : ℕ

-- a file that code returns, as one of lists
abbrev pub seen_file : RequestedFile → AskedFile
seen_file requested.Given = Given
seen_file (requested.Named name) = Named name.now
seen_file (requested.BuildId hash) = BuildId hash.now

-- a request that code returns, as one of lists
abbrev pub seen : LineRequest → Request
seen r = record { command = r.command; file = seen_file r.file; address = r.address }

-- A call returned the request of a reading, or exactly its fault.
abbrev pub Returns : Result LineRequest RequestFault → Result Request RequestFault → Type 0
Returns (Ok r) reading = reading ≡ Ok (seen r)
Returns (Err fault) reading = reading ≡ Err fault

-- the command that a line begins with before one space, and the text after it
unfoldable pub command_of : List ℕ → Command × List ℕ
command_of line =
    if starts_with nat_eq line (codes "CODE ") then (Code, drop 5 line)
    else (if starts_with nat_eq line (codes "DATA ") then (Data, drop 5 line)
    else (if starts_with nat_eq line (codes "FRAME ") then (Frame, drop 6 line)
    else (Code, line)))

-- the parts of a text before and after the byte at a place; no first part where there is no place
abbrev pub parted_at : List ℕ → Option ℕ → List ℕ × List ℕ
parted_at text None = ([], text)
parted_at text (Some end) = (take end text, drop (end + 1) text)

-- the name before a quote, and the text after it
unfoldable pub quoted_of : ℕ → List ℕ → List ℕ × List ℕ
quoted_of quote text = parted_at text (position (λ b. b == quote) text)

-- the name of a file, after a quote (" or ') or else a word, and the text after it
unfoldable pub file_of : List ℕ → List ℕ × List ℕ
file_of text =
    let first = slice_index text 0 in
    if (first == 34) || (first == 39) then quoted_of first (drop 1 text)
    else (take (word_end text) text, drop (word_end text) text)

-- the prefix before the file of a request: FILE:, BUILDID: or nothing, and the text after it
unfoldable pub prefix_of : List ℕ → Prefix × List ℕ
prefix_of text =
    if starts_with nat_eq text (codes "FILE:") then (prefixes.File, drop 5 text)
    else (if starts_with nat_eq text (codes "BUILDID:") then (prefixes.BuildId, drop 8 text)
    else (prefixes.Bare, text))

-- A call returned the file of a reading and the text after it, or exactly its fault.
abbrev pub Names : Result FileAndRest RequestFault → Result (AskedFile × List ℕ) RequestFault
    → Type 0
Names (Ok named) reading = reading ≡ Ok (seen_file named.file, named.rest.now)
Names (Err fault) reading = reading ≡ Err fault

-- the fault where nothing follows a prefix
abbrev pub empty_prefix_of : Prefix → RequestFault
empty_prefix_of prefixes.BuildId = faults.EmptyHashPrefix
empty_prefix_of prefixes.File = faults.EmptyFilePrefix
empty_prefix_of prefixes.Bare = faults.EmptyFilePrefix

-- a name that isn't empty, and the text after it; otherwise a fault
abbrev pub named_or : RequestFault → List ℕ × List ℕ → Result (AskedFile × List ℕ) RequestFault
named_or fault named = if length named.0 == 0 then Err fault else Ok (Named named.0, named.1)

-- the same of a build ID
abbrev pub hash_or : RequestFault → List ℕ × List ℕ → Result (AskedFile × List ℕ) RequestFault
hash_or fault named =
    if length named.0 == 0 then Err fault
    else (if are_hexadecimal named.0 then Ok (BuildId named.0, named.1) else Err faults.NotAHash)

abbrev pub after_prefix : Prefix → List ℕ → Result (AskedFile × List ℕ) RequestFault
after_prefix prefixes.BuildId text = hash_or faults.UnclosedQuotes (file_of text)
after_prefix prefixes.File text = named_or faults.UnclosedQuotes (file_of text)
after_prefix prefixes.Bare text = named_or faults.UnclosedQuotes (file_of text)

-- the file after a prefix, and the text after it
unfoldable pub prefixed_file_of : Prefix → List ℕ → Bool → Result (AskedFile × List ℕ) RequestFault
prefixed_file_of prefix text file_given =
    if length text == 0 then Err (empty_prefix_of prefix)
    else (if file_given then Err faults.FileGiven else after_prefix prefix text)

-- the file where there is no prefix
unfoldable pub bare_file_of : List ℕ → Bool → Result (AskedFile × List ℕ) RequestFault
bare_file_of text file_given =
    if file_given then Ok (Given, text) else named_or faults.NoFile (file_of text)

abbrev pub is_bare : Prefix → Bool
is_bare prefixes.Bare = true
is_bare prefixes.File = false
is_bare prefixes.BuildId = false

-- the file of a request, and the text after it
unfoldable pub given_file_of : List ℕ → Bool → Result (AskedFile × List ℕ) RequestFault
given_file_of text file_given =
    let p = prefix_of (after_blanks text) in
    let rest = after_blanks p.1 in
    if is_bare p.0 then bare_file_of p.1 file_given
    else (if is_bare (prefix_of rest).0 then prefixed_file_of p.0 rest file_given
    else Err faults.RepeatedPrefix)

-- the number of a word: in hexadecimal, or as its prefix says
abbrev pub number_by : Bool → List ℕ → Option ℕ
number_by hexadecimal word = if hexadecimal then hexadecimal_of word else number_of word

-- the address that the first word of a text stands for, if it has one
abbrev pub address_in : Bool → List ℕ → Result ℕ RequestFault
address_in hexadecimal [] = Err faults.NoAddress
address_in hexadecimal (b ∷ bs) =
    ok_or (number_by hexadecimal (take (word_end (b ∷ bs)) (b ∷ bs)))
    (if is_digit b then faults.NotANumber else faults.SymbolName)

-- ..blanks before and after it aside
unfoldable pub address_of : Bool → List ℕ → Result ℕ RequestFault
address_of hexadecimal text = address_in hexadecimal (trimmed text)

-- the request of an address
abbrev pub asked : Command → AskedFile → Result ℕ RequestFault → Result Request RequestFault
asked command file (Err fault) = Err fault
asked command file (Ok address) =
    Ok record { command = command; file = file; address = address }

-- the request of a file, and of the address after it
abbrev pub asked_of : Command → Bool → Result (AskedFile × List ℕ) RequestFault
    → Result Request RequestFault
asked_of command hexadecimal (Err fault) = Err fault
asked_of command hexadecimal (Ok named) =
    asked command named.0 (address_of hexadecimal named.1)

-- the bytes of a line before its first NUL
unfoldable pub until_nul : List ℕ → List ℕ
until_nul line = take (unwrap_or (position (λ b. b == 0) line) (length line)) line

-- the request of a line of any length: a command, a file, and an address
unfoldable pub short_request_of : List ℕ → LineForm → Result Request RequestFault
short_request_of line form =
    let c = command_of line in
    if list_all (λ b. b == 13) line then Err faults.EmptyLine
    else asked_of c.0 form.hexadecimal (given_file_of c.1 form.file_given)

-- the request of a line, which has at most 4,351 bytes
unfoldable pub request_of : List ℕ → LineForm → Result Request RequestFault
request_of line form =
    if nat_lt 4351 (length line) then Err faults.LongLine
    else short_request_of (until_nul line) form
