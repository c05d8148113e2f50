-- Symbol files that are made, and how that fails.
use Rattle.std.proofs.Common.{◌≡◌, ◌∙◌, ℕ, List, [], ◌∷◌, ◌++◌, refl, sym, ap, subst, inl, inr, Bool}
use Rattle.std.proofs.Common.{true, false, append_assoc, append-nil, ◌+◌, ◌*◌, ◌<◌, ◌≤◌, suc, arith, length, get_or}
use Rattle.std.proofs.Common.{length-append, get_or-append-add}
use Rattle.std.specs.Fmt.{decimal}
use Rattle.std.specs.Prelude.{codes, ◌⊎◌}
use Rattle.std.proofs.lemmas.Grind.{flat_map-append}
use Rattle.std.proofs.lemmas.List.Elements.{All-append}
use Rattle.pdb_container.specs.Fault.{◌>>=◌}
use Rattle.std.specs.Prelude.{Option, None, Some, Result, Ok, Err, IfErr, IfOk, OnErr, OnOk}
use Rattle.std.specs.Io.KnownBytes.{Appends}
use Rattle.std.proofs.KnownBytes.{Appends-nil}
use Rattle.pdb_addresses.specs.Addresses.{Map}
use Rattle.pdb_addresses.specs.declared.sections.ImageSectionHeader.{ImageSectionHeader}
use Rattle.pdb_addr2line.specs.Identity.{identity_in}
use Rattle.pdb_image.specs.Image.{Image}
use Rattle.pdb_image.specs.declared.identity.PdbIdentity.{PdbIdentity}
use Rattle.pdb_loading.specs.Held.{Held}
use Rattle.pdb_loading.specs.LoadFaults.{FailsLoading, Refuses}
use Rattle.pdb_loading.specs.LoadedFile.{IsLoadedWith}
use Rattle.pdb_loading.specs.Loading.{Loaded, LoadingFault, load_fault_with, loaded_with}
use Rattle.pdb_loading.specs.declared.load_fault.LoadFault.{LoadFault}
use Rattle.pdb_loading.specs.declared.load_fault.LoadFault.TheVariants as faults
use Rattle.pdb_loading.specs.declared.order.ContributionOrder.{ContributionOrder}
use Rattle.pdb_loading.specs.declared.order.ContributionOrder.TheVariants.{Any}
use Rattle.pdb_symbol_files.specs.Code.{answers_of_code, pieces_of_code}
use Rattle.pdb_symbol_files.specs.Output.{AppendsFront}
use Rattle.pdb_symbol_files.specs.Heads.{eight_digits, file_name, identity_text, machine_name, machine_text}
use Rattle.pdb_symbol_files.specs.Heads.{module_text}
use Rattle.pdb_symbol_files.specs.RecordTexts.{hexadecimal, numbered_text, numbered_texts}
use Rattle.pdb_symbol_files.specs.RecordTexts.{numbers_text}
use Rattle.pdb_symbol_files.specs.Texts.{told_text}
use Rattle.pdb_symbol_files.specs.Records.{SymbolRecords, symbol_records}
use Rattle.pdb_symbols.specs.Lookups.{AreFewLookups, begins_named, pieces_by, pieces_in}
use Rattle.pdb_symbols.specs.NamedLines.{IsLineOf, IsRenamed, IsUnbroken, Line, is_in_line}
use Rattle.pdb_symbols.specs.NamedLines.{named_lines, stored_lines}
use Rattle.pdb_symbols.specs.UnwindingText.{text_of_image}
use Rattle.pdb_symbols.specs.declared.fault.SymbolsFault.{SymbolsFault}
use Rattle.pdb_symbols.specs.declared.fault.SymbolsFault.TheVariants as ends
use Rattle.pdb_symbols.specs.Described.{RefusesImage}
use Rattle.pdb_symbols.specs.Ends.{FailsToWrite, IsFaultOfFile, IsReadFault}
use Rattle.pdb_loading.specs.FileFaults.{OnLoadFault}
use Rattle.pdb_loading.specs.declared.on_demand.FileFault.{FileFault}
use Rattle.pdb_loading.specs.declared.on_demand.FileFault.TheVariants as files
use Rattle.pdb_symbols.specs.SymbolFile.{Asked, FailsToMake, IsMade, Refusal, SymbolFile}
use Rattle.pdb_symbols.specs.SymbolFile.{WritesSymbols, file_of, first_records, identity_name}
use Rattle.pdb_symbols.specs.SymbolFile.{image_if, image_record, in_loading, symbol_file, text_of}
use Rattle.pdb_symbols.specs.SymbolsText.{HasRecords, IsNamedInParts, IsNamedText}
use Rattle.pdb_symbols.specs.Told.{told_named}
use Rattle.pdb_symbols.proofs.NamedSteps.{stays_text}
use Rattle.pdb_symbols_modules.specs.Dbi.{Dbi}
use Rattle.pdb_symbols_modules.specs.Shared.{shared}
use Rattle.pdb_symbols_modules.specs.Streams.{Streams, fault_in, streams}

-- ---- made

made_of : (asked : Asked) (bytes : Option (List ℕ)) (s : Streams) (l : Loaded) (i : PdbIdentity)
    (image : Option Image) → loaded_with Any (shared s) ≡ Ok l → identity_in s ≡ Ok i
    → image_if i bytes ≡ Ok image → symbol_file asked bytes s ≡ Ok (file_of asked s l i image)
unfolding symbol_file
made_of asked bytes s l i image a b c = rw (a, b, c) refl

refused_by : (asked : Asked) (bytes : Option (List ℕ)) (s : Streams) (l : Loaded)
    (i : PdbIdentity) (e : Refusal) → loaded_with Any (shared s) ≡ Ok l → identity_in s ≡ Ok i
    → image_if i bytes ≡ Err e → symbol_file asked bytes s ≡ Err e
unfolding symbol_file
refused_by asked bytes s l i e a b c = rw (a, b, c) refl

-- what was loaded
abbrev loaded_of : (order : ContributionOrder) (file : List ℕ) (h : Held)
    → IsLoadedWith order file h → Loaded
loaded_of order file h x =
    record { debug_information = h.debug_information; tables = h.tables; parts = x.parts }

loaded_in : (order : ContributionOrder) (file : List ℕ) (h : Held) (is : order ≡ Any)
    (x : IsLoadedWith order file h) → loaded_with Any (shared (streams file)) ≡ Ok (loaded_of order file h x)
loaded_in order file h is x =
    subst (λ (o : ContributionOrder). loaded_with o (shared (streams file))
    ≡ Ok (loaded_of order file h x)) is x.loaded_is

-- the symbol file of a database that was loaded
pub made_ok : (asked : Asked) (bytes : Option (List ℕ)) (order : ContributionOrder)
    (file : List ℕ) (h : Held) (i : PdbIdentity) (image : Option Image) (dbi : Dbi)
    (inlines : Bool) (first head functions : List ℕ) (map : Map)
    (sections : List ImageSectionHeader) → order ≡ Any
    → IsLoadedWith order file h → identity_in (streams file) ≡ Ok i → dbi ≡ h.debug_information
    → image_if i bytes ≡ Ok image → first ≡ first_records asked dbi.machine i image
    → map ≡ h.tables.map → sections ≡ map.image → inlines ≡ asked.inlines
    → HasRecords head functions first (symbol_records
    (answers_of_code sections (told_named inlines 23 order (streams file))))
    → (f : SymbolFile) × (symbol_file asked bytes (streams file) ≡ Ok f)
    × IsMade f head functions image
made_ok asked bytes order file h i image dbi inlines first head functions map sections is x named here given begun there held shown records =
    let s = streams file in
    let l = loaded_of order file h x in
    let begin = first_records asked (h.debug_information).machine i image in
    let told : Bool → ContributionOrder → List ImageSectionHeader → List ℕ → Type 0
    = λ (b : Bool) (o : ContributionOrder) (headers : List ImageSectionHeader) (f : List ℕ).
    HasRecords head functions f (symbol_records
    (answers_of_code headers (told_named b 23 o s))) in
    let begins : first ≡ begin
    = begun ∙ ap (λ (d : Dbi). first_records asked d.machine i image) here in
    let all : sections ≡ h.tables.map.image = held ∙ ap (λ (m : Map). m.image) there in (
      file_of asked s l i image,
      made_of asked bytes s l i image (loaded_in order file h is x) named given,
      record {
        records = subst (λ (o : ContributionOrder). told asked.inlines o h.tables.map.image begin) is
            (subst (λ (b : Bool). told b order h.tables.map.image begin) shown
            (subst (λ (hs : List ImageSectionHeader). told inlines order hs begin) all
            (subst (λ (f : List ℕ). told inlines order sections f) begins records)));
        unwinding = refl;
      },
    )

-- the same of a database that is read on demand, whose bytes and flags are known
pub made_on_demand : (asked : Asked) (bytes : Option (List ℕ)) (order : ContributionOrder)
    (flags : ℕ) (contents file : List ℕ) (h : Held) (i : PdbIdentity) (image : Option Image)
    (dbi : Dbi) (inlines : Bool) (first head functions : List ℕ) (map : Map)
    (sections : List ImageSectionHeader) → order ≡ Any → flags ≡ 23 → contents ≡ file
    → IsLoadedWith order contents h → identity_in (streams file) ≡ Ok i
    → dbi ≡ h.debug_information → image_if i bytes ≡ Ok image
    → first ≡ first_records asked dbi.machine i image → map ≡ h.tables.map
    → sections ≡ map.image → inlines ≡ asked.inlines
    → HasRecords head functions first (symbol_records
    (answers_of_code sections (told_named inlines flags order (streams contents))))
    → (f : SymbolFile) × (symbol_file asked bytes (streams file) ≡ Ok f)
    × IsMade f head functions image
made_on_demand asked bytes order flags contents file h i image dbi inlines first head functions map sections is all same x named here given begun there held shown records =
    let told : ℕ → List ℕ → Type 0
    = λ (n : ℕ) (x : List ℕ). HasRecords head functions first (symbol_records
    (answers_of_code sections (told_named inlines n order (streams x)))) in
    made_ok asked bytes order file h i image dbi inlines first head functions map sections is
    (subst (λ (b : List ℕ). IsLoadedWith order b h) same x) named here given begun there held shown
    (subst (λ (b : List ℕ). told 23 b) same (subst (λ (n : ℕ). told n contents) all records))

-- ---- lookups

-- those by what is held of a file are few
pub few_lookups : (order : ContributionOrder) (file : List ℕ) (h : Held) (map : Map)
    (sections : List ImageSectionHeader) (before now lookups : ℕ) → order ≡ Any
    → IsLoadedWith order file h → map ≡ h.tables.map → sections ≡ map.image → before ≡ 0
    → lookups ≡ now
    → now ≤ before + 2 * pieces_of_code sections (begins_named 23 order (streams file))
    → AreFewLookups file lookups
unfolding pieces_in
few_lookups order file h map sections before now lookups is x there held none same few =
    let s = streams file in
    let all : sections ≡ h.tables.map.image = held ∙ ap (λ (m : Map). m.image) there in
    let pieces : pieces_of_code sections (begins_named 23 order s) ≡ pieces_in s
    = ap (λ (hs : List ImageSectionHeader). pieces_of_code hs (begins_named 23 order s)) all
    ∙ ap (λ (o : ContributionOrder). pieces_of_code h.tables.map.image (begins_named 23 o s)) is
    ∙ sym (ap (pieces_by s) (loaded_in order file h is x)) in
    omega (arith, pieces, none, same, few)

-- the same of a database that is read on demand, whose bytes and flags are known
pub few_on_demand : (order : ContributionOrder) (flags : ℕ) (contents file : List ℕ) (h : Held)
    (map : Map) (sections : List ImageSectionHeader) (before lookups : ℕ) → order ≡ Any
    → flags ≡ 23 → contents ≡ file → IsLoadedWith order contents h → map ≡ h.tables.map
    → sections ≡ map.image → before ≡ 0
    → lookups ≤ before + 2 * pieces_of_code sections (begins_named flags order (streams contents))
    → AreFewLookups file lookups
few_on_demand order flags contents file h map sections before lookups is all same x there held none few =
    let most : ℕ → List ℕ → Type 0
    = λ (n : ℕ) (b : List ℕ).
    lookups ≤ before + 2 * pieces_of_code sections (begins_named n order (streams b)) in
    few_lookups order file h map sections before lookups lookups is
    (subst (λ (b : List ℕ). IsLoadedWith order b h) same x) there held none refl
    (subst (λ (b : List ℕ). most 23 b) same (subst (λ (n : ℕ). most n contents) all few))

-- ---- not made

loads : (order : ContributionOrder) (file : List ℕ) (h : Held) → order ≡ Any
    → IsLoadedWith order file h → load_fault_with Any (streams file) ≡ None
loads order file h is x =
    ap (λ (r : Result Loaded LoadingFault). fault_in r) (loaded_in order file h is x)

pub memory_fails : (reads : Bool) (file : Result SymbolFile Refusal) (s : Streams)
    (e : SymbolsFault) → e ≡ ends.Load faults.OutOfMemory → FailsToMake reads file s e
memory_fails reads file s e is =
    subst (λ (x : SymbolsFault). FailsToMake reads file s x) (sym is) (inl tt)

-- a file that isn't loaded
pub open_fails : (reads : Bool) (file : Result SymbolFile Refusal) (s : Streams) (e : SymbolsFault)
    (cause : LoadFault) → e ≡ ends.Load cause → Refuses cause (load_fault_with Any s)
    → FailsToMake reads file s e
open_fails reads file s e cause is refused =
    subst (λ (x : SymbolsFault). FailsToMake reads file s x) (sym is) (inl refused)

-- one whose identity can't be read
pub identity_fails : (reads : Bool) (asked : Asked) (bytes : Option (List ℕ))
    (order : ContributionOrder) (file : List ℕ) (h : Held) (e : SymbolsFault) (cause : LoadFault)
    → order ≡ Any → IsLoadedWith order file h → e ≡ ends.Load cause
    → FailsLoading cause (identity_in (streams file))
    → FailsToMake reads (symbol_file asked bytes (streams file)) (streams file) e
identity_fails reads asked bytes order file h e cause is x same failed =
    subst (λ (y : SymbolsFault). FailsToMake reads (symbol_file asked bytes (streams file))
    (streams file) y) (sym same) (inr (loads order file h is x, failed))

-- an image that is refused
image_fails_by : (reads : Bool) (asked : Asked) (bytes : Option (List ℕ)) (s : Streams)
    (l : Loaded) (i : PdbIdentity) (e : SymbolsFault) → loaded_with Any (shared s) ≡ Ok l
    → identity_in s ≡ Ok i → RefusesImage e (image_if i bytes)
    → FailsToMake reads (symbol_file asked bytes s) s e
image_fails_by reads asked bytes s l i (ends.Load faults.OutOfMemory) a b r = inl tt
image_fails_by reads asked bytes s l i (ends.Load (faults.Pdb e)) a b r = absurd r
image_fails_by reads asked bytes s l i (ends.Load faults.AddressTableDecreases) a b r = absurd r
image_fails_by reads asked bytes s l i (ends.File kind) a b r = absurd r
image_fails_by reads asked bytes s l i ends.ReadFile a b r = absurd r
image_fails_by reads asked bytes s l i (ends.ImageFile kind) a b r = absurd r
image_fails_by reads asked bytes s l i (ends.Image e) a b r = refused_by asked bytes s l i _ a b r
image_fails_by reads asked bytes s l i ends.ImageNamesNoPdb a b r =
    refused_by asked bytes s l i _ a b r
image_fails_by reads asked bytes s l i ends.OtherBuild a b r = refused_by asked bytes s l i _ a b r
image_fails_by reads asked bytes s l i (ends.Write kind) a b r = absurd r
image_fails_by reads asked bytes s l i ends.OutputIsRead a b r = absurd r

pub image_fails : (reads : Bool) (asked : Asked) (bytes : Option (List ℕ))
    (order : ContributionOrder) (file : List ℕ) (h : Held) (i : PdbIdentity) (e : SymbolsFault)
    → order ≡ Any → IsLoadedWith order file h → identity_in (streams file) ≡ Ok i
    → RefusesImage e (image_if i bytes)
    → FailsToMake reads (symbol_file asked bytes (streams file)) (streams file) e
image_fails reads asked bytes order file h i e is x named refused =
    image_fails_by reads asked bytes (streams file) (loaded_of order file h x) i e
    (loaded_in order file h is x) named refused

-- ---- written

-- nothing is out yet
pub unopened : {T E : Type 0} (r : Result T E) (demangle : Bool) (old new : Option (List ℕ))
    (head functions last : List ℕ) → new ≡ old
    → OnErr r ((named : List ℕ) × IsNamedInParts demangle head functions named
    × AppendsFront old new (named ++ last))
unopened (Ok x) demangle old new head functions last same = tt
unopened (Err e) demangle old new head functions last same = (
  head ++ functions,
  record {
    first = head;
    second = functions;
    first_is = stays_text demangle head;
    second_is = stays_text demangle functions;
    whole = refl;
  },
  record {
    front = [];
    rest = (head ++ functions) ++ last;
    appends = subst (λ (x : Option (List ℕ)). Appends old x []) (sym same) (Appends-nil old);
    whole = refl;
  },
)

-- ---- texts that a newline ends

-- the last byte is a newline
abbrev pub Ends : List ℕ → Type 0
Ends text = (front : List ℕ) × (text ≡ front ++ 10 ∷ [])

abbrev pub IsEnded : List ℕ → Type 0
IsEnded text = (text ≡ []) ⊎ Ends text

pub ends_line : (xs : List ℕ) → Ends (xs ++ 10 ∷ [])
ends_line xs = (xs, refl)

pub ends_after : (xs ys : List ℕ) → Ends ys → Ends (xs ++ ys)
ends_after xs ys (front, e) =
    (xs ++ front, ap (λ (l : List ℕ). xs ++ l) e ∙ sym (append_assoc xs front (10 ∷ [])))

pub ended_both : (xs ys : List ℕ) → IsEnded xs → IsEnded ys → IsEnded (xs ++ ys)
ended_both xs ys x (inl none) =
    subst IsEnded (sym (ap (λ (l : List ℕ). xs ++ l) none ∙ append-nil xs)) x
ended_both xs ys x (inr y) = inr (ends_after xs ys y)

numbered_ended : (word : List ℕ) (n : ℕ) (texts : List (List ℕ))
    → IsEnded (numbered_texts word n texts)
numbered_ended word n [] = inl refl
numbered_ended word n (t ∷ texts) =
    ended_both (numbered_text word n t) (numbered_texts word (n + 1) texts)
    (inr (ends_line (word ++ codes " " ++ decimal n ++ codes " " ++ t)))
    (numbered_ended word (n + 1) texts)

pub numbers_ended : (r : SymbolRecords) → IsEnded (numbers_text r)
unfolding numbers_text
numbers_ended r =
    ended_both (numbered_texts (codes "FILE") 0 (r.numbers).files)
    (numbered_texts (codes "INLINE_ORIGIN") 0 (r.numbers).origins)
    (numbered_ended (codes "FILE") 0 (r.numbers).files)
    (numbered_ended (codes "INLINE_ORIGIN") 0 (r.numbers).origins)

image_ended : (image : Option Image) (path : Option (List ℕ)) → IsEnded (image_record image path)
image_ended None path = inl refl
image_ended (Some image) None = inl refl
image_ended (Some image) (Some path) =
    inr (ends_line (codes "INFO CODE_ID " ++ eight_digits image.time_stamp
    ++ hexadecimal image.size_of_image ++ codes " " ++ told_text (Some (file_name path))))

pub first_ended : (asked : Asked) (machine : ℕ) (i : PdbIdentity) (image : Option Image)
    → IsEnded (first_records asked machine i image)
first_ended asked machine i image =
    ended_both (module_text machine (identity_name i) asked.path)
    (image_record image asked.image_path)
    (inr (ends_after (machine_text (machine_name machine))
    (identity_text (identity_name i) (told_text (Some (file_name asked.path))))
    (ends_line (identity_name i ++ codes " " ++ told_text (Some (file_name asked.path))))))
    (image_ended image asked.image_path)

pub step : {A B F : Type 0} (r : Result A F) (next : A → Result B F) (y : B) → (r >>= next) ≡ Ok y
    → (x : A) × (r ≡ Ok x) × (next x ≡ Ok y)
step (Ok x) next y h = (x, refl, h)
step (Err e) next y h = let bad : ⊥ = cc in absurd bad

pub same_file : (f g : SymbolFile) → (let r : Result SymbolFile Refusal = Ok f in r) ≡ Ok g → f ≡ g
same_file f g e = cc

-- a symbol file's first records are lines
file_ended : (asked : Asked) (bytes : Option (List ℕ)) (s : Streams) (f : SymbolFile)
    → symbol_file asked bytes s ≡ Ok f → IsEnded f.first
unfolding symbol_file
file_ended asked bytes s f h =
    let l = step (in_loading (loaded_with Any (shared s))) _ f h in
    let i = step (in_loading (identity_in s)) _ f l.2 in
    let image = step (image_if i.0 bytes) _ f i.2 in
    subst (λ (g : SymbolFile). IsEnded g.first) (same_file _ f image.2)
    (first_ended asked ((l.0).debug_information).machine i.0 image.0)

-- ---- the parts of a text

few : (n : ℕ) → n < suc n
few n = omega arith

-- what comes after the last newline of an ended text is nothing
pub rest_none : (text x rest : List ℕ) → text ≡ x ++ rest → IsEnded text → IsUnbroken rest → rest ≡ []
rest_none text x [] e ended u = refl
rest_none text x (r ∷ rs) e (inl none) u =
    absurd (omega (arith, ap length (sym e ∙ none), length-append x (r ∷ rs)))
rest_none text x (r ∷ rs) e (inr (front, is)) u =
    let n = length rs in
    let size : length x + n ≡ length front + 0
    = omega (arith, ap length (sym e ∙ is), length-append x (r ∷ rs), length-append front (10 ∷ [])) in
    let last : get_or (r ∷ rs) n 0 ≡ 10
    = sym (get_or-append-add x (r ∷ rs) n 0)
    ∙ ap (λ (l : List ℕ). get_or l (length x + n) 0) (sym e ∙ is)
    ∙ ap (λ (k : ℕ). get_or (front ++ 10 ∷ []) k 0) size
    ∙ get_or-append-add front (10 ∷ []) 0 0 in
    let bad : is_in_line 10 ≡ true = sym (ap is_in_line last) ∙ u n 0 (few n) in
    let worse : ⊥ = cc in absurd worse

renamed_both : (head functions first second : List ℕ) → IsEnded head → IsRenamed head first
    → IsRenamed functions second → IsRenamed (head ++ functions) (first ++ second)
renamed_both head functions first second ended a b =
    let before : Line → List ℕ = λ l. l.0 ++ 10 ∷ [] in
    let written : Line → List ℕ = λ l. l.1 ++ 10 ∷ [] in
    let x = a.lines in
    let y = b.lines in
    let none : a.rest ≡ [] = rest_none head (stored_lines x.lines) a.rest x.stored ended a.unbroken in
    let head_is : head ≡ stored_lines x.lines
    = x.stored ∙ ap (λ (l : List ℕ). stored_lines x.lines ++ l) none
    ∙ append-nil (stored_lines x.lines) in
    let first_is : first ≡ a.front
    = a.whole ∙ ap (λ (l : List ℕ). a.front ++ l) none ∙ append-nil a.front in record {
      rest = b.rest;
      front = a.front ++ b.front;
      unbroken = b.unbroken;
      lines = record {
        lines = x.lines ++ y.lines;
        each = All-append IsLineOf x.lines y.lines x.each y.each;
        stored = ap (λ (l : List ℕ). l ++ functions) head_is
            ∙ ap (λ (l : List ℕ). stored_lines x.lines ++ l) y.stored
            ∙ sym (append_assoc (stored_lines x.lines) (stored_lines y.lines) b.rest)
            ∙ ap (λ (l : List ℕ). l ++ b.rest) (sym (flat_map-append before x.lines y.lines));
        written = ap (λ (l : List ℕ). l ++ b.front) x.written
            ∙ ap (λ (l : List ℕ). named_lines x.lines ++ l) y.written
            ∙ sym (flat_map-append written x.lines y.lines);
      };
      whole = ap (λ (l : List ℕ). l ++ second) first_is
          ∙ ap (λ (l : List ℕ). a.front ++ l) b.whole
          ∙ sym (append_assoc a.front b.front b.rest);
    }

named_both : (demangle : Bool) (head functions first second : List ℕ) → IsEnded head
    → IsNamedText demangle head first → IsNamedText demangle functions second
    → IsNamedText demangle (head ++ functions) (first ++ second)
named_both false head functions first second ended a b =
    ap (λ (l : List ℕ). l ++ second) a ∙ ap (λ (l : List ℕ). head ++ l) b
named_both true head functions first second ended a b =
    renamed_both head functions first second ended a b

-- the parts of a symbol file's text are written as the whole is
parts_named : (demangle : Bool) (f : SymbolFile) (head functions named : List ℕ)
    → HasRecords head functions f.first f.records → IsEnded f.first
    → IsNamedInParts demangle head functions named → IsNamedText demangle (text_of f) named
parts_named demangle f head functions named has ended parts =
    let text : head ++ functions ≡ text_of f
    = ap (λ (l : List ℕ). l ++ functions) has.numbers
    ∙ append_assoc f.first (numbers_text f.records) functions
    ∙ ap (λ (l : List ℕ). f.first ++ (numbers_text f.records ++ l)) has.functions_are in
    let all_ended : IsEnded head
    = subst IsEnded (sym has.numbers)
    (ended_both f.first (numbers_text f.records) ended (numbers_ended f.records)) in
    let both : IsNamedText demangle (head ++ functions) (parts.first ++ parts.second)
    = named_both demangle head functions parts.first parts.second all_ended parts.first_is
    parts.second_is in
    subst (λ (t : List ℕ). IsNamedText demangle t named) text
    (subst (λ (n : List ℕ). IsNamedText demangle (head ++ functions) n) (sym parts.whole) both)

-- ---- how a call ends

-- a symbol file that was made is written, or a part of it is
pub ends_as : (reads demangle : Bool) (asked : Asked) (bytes : Option (List ℕ)) (s : Streams)
    (head functions : List ℕ) (image : Option Image) (old new : Option (List ℕ))
    (r : Result (Unit {0}) SymbolsFault)
    → ((f : SymbolFile) × (symbol_file asked bytes s ≡ Ok f) × IsMade f head functions image)
    → OnOk r ((named : List ℕ) × IsNamedInParts demangle head functions named
    × Appends old new (named ++ text_of_image image))
    → OnErr r ((named : List ℕ) × IsNamedInParts demangle head functions named
    × AppendsFront old new (named ++ text_of_image image))
    → IfErr r FailsToWrite
    → WritesSymbols reads demangle (symbol_file asked bytes s) s old new r
ends_as reads demangle asked bytes s head functions image old new (Ok done) (f, is, made) (named, parts, out) part fails = (
  f,
  is,
  record {
    named = named;
    is = parts_named demangle f head functions named made.records (file_ended asked bytes s f is) parts;
    back = made.records.back;
    appends = subst (λ (l : List ℕ). Appends old new (named ++ l)) made.unwinding out;
  },
)
ends_as reads demangle asked bytes s head functions image old new (Err e) (f, is, made) ok (named, parts, out) fails = inr (
  fails,
  (
    f,
    is,
    record {
      named = named;
      is = parts_named demangle f head functions named made.records (file_ended asked bytes s f is) parts;
      appends = subst (λ (l : List ℕ). AppendsFront old new (named ++ l)) made.unwinding out;
    },
  ),
)

-- nothing is written of one that isn't made
pub not_made : (reads demangle : Bool) (file : Result SymbolFile Refusal) (s : Streams)
    (old : Option (List ℕ)) (r : Result (Unit {0}) SymbolsFault) (e : SymbolsFault) → r ≡ Err e
    → FailsToMake reads file s e → WritesSymbols reads demangle file s old old r
not_made reads demangle file s old r e is fails =
    subst (λ (x : Result (Unit {0}) SymbolsFault). WritesSymbols reads demangle file s old old x)
    (sym is) (inl (fails, Appends-nil old))

-- ---- a file that is read on demand

-- a fault of reading, or want of memory
read_fails : (file : Result SymbolFile Refusal) (s : Streams) (e : SymbolsFault) → IsReadFault e
    → FailsToMake true file s e
read_fails file s (ends.Load faults.OutOfMemory) r = inl tt
read_fails file s (ends.Load (faults.Pdb e)) r = absurd r
read_fails file s (ends.Load faults.AddressTableDecreases) r = absurd r
read_fails file s (ends.File kind) r = refl
read_fails file s ends.ReadFile r = absurd r
read_fails file s (ends.ImageFile kind) r = absurd r
read_fails file s (ends.Image e) r = absurd r
read_fails file s ends.ImageNamesNoPdb r = absurd r
read_fails file s ends.OtherBuild r = absurd r
read_fails file s (ends.Write kind) r = absurd r
read_fails file s ends.OutputIsRead r = absurd r

pub read_fault : {A : Type 0} (r : Result A SymbolsFault) (file : Result SymbolFile Refusal)
    (s : Streams) → IfErr r IsReadFault → IfErr r (λ e. FailsToMake true file s e)
read_fault (Ok x) file s h = tt
read_fault (Err e) file s h = read_fails file s e h

-- a file that isn't loaded, or isn't read
pub unopened_fails : (file : Result SymbolFile Refusal) (s : Streams) (cause : FileFault)
    (e : SymbolsFault) → IsFaultOfFile cause e
    → OnLoadFault cause (λ fault. Refuses fault (load_fault_with Any s))
    → FailsToMake true file s e
unopened_fails file s (files.Load fault) e is refused = open_fails true file s e fault is refused
unopened_fails file s (files.File kind) e is refused = read_fails file s e is

-- one whose identity can't be read
pub unnamed_fails : (file : Result SymbolFile Refusal) (s : Streams) (cause : FileFault)
    (e : SymbolsFault) → load_fault_with Any s ≡ None → IsFaultOfFile cause e
    → OnLoadFault cause (λ fault. FailsLoading fault (identity_in s))
    → FailsToMake true file s e
unnamed_fails file s (files.Load fault) e none is failed =
    subst (λ (x : SymbolsFault). FailsToMake true file s x) (sym is) (inr (none, failed))
unnamed_fails file s (files.File kind) e none is failed = read_fails file s e is

-- ---- an outcome that is known

pub ok_in : {A E : Type 0} (P : A → Type 0) (r : Result A E) (x : A) → r ≡ Ok x → IfOk r P → P x
ok_in {A = A} {E = E} P r x is h = subst (λ (q : Result A E). IfOk q P) is h

pub err_in : {A E : Type 0} (P : E → Type 0) (r : Result A E) (e : E) → r ≡ Err e → IfErr r P
    → P e
err_in {A = A} {E = E} P r e is h = subst (λ (q : Result A E). IfErr q P) is h
