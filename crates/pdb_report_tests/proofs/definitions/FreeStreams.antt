-- Which streams are free in a file whose first module imports from the third: what is read, by
-- computing the definitions on the file's bytes, and what follows.
use Rattle.std.proofs.Common.{◌≡◌, ℕ, ◌*◌, ◌<◌, ◌≤◌, zero, suc, inl, inr, ◌⊎◌, List, [], ◌∷◌, length, drop, Result, Ok, Err, refl, sym, ap, ◌∙◌, subst, ◌+◌, arith}
use Rattle.std.specs.Prelude.{◌++◌, replicate, Option, None, Some, option_map, codes}
use Rattle.std.specs.Int.{w16}
use Rattle.std.specs.Int.RustNames.{count_ones}
use Rattle.std.specs.List.{Contains}
use Rattle.std.specs.Str.{is_utf8, chars}
use Rattle.std.specs.Str.Lossy.{utf8_valid_len, utf8_lossy}
use Rattle.std.proofs.lemmas.List.{drop_all}
use Rattle.pdb_container.specs.Container.{front_in, first_words, behind_header, header_in, layout_of, directory_of, stream_pages_in, stream_in, stream}
use Rattle.pdb_container.specs.Fault.{Fault, ◌>>=◌}
use Rattle.pdb_container.specs.Fields.{entries_within, c_string_at, number_at}
use Rattle.pdb_container.specs.Listing.{listing_within}
use Rattle.pdb_container.specs.Places.{bytes_at, page_places}
use Rattle.pdb_container.specs.StringTable.{names_of, name_in, text_in}
use Rattle.pdb_container.specs.RecordFields.{many_at}
use Rattle.pdb_subsections.specs.Subsections.{subsection_at}
use Rattle.pdb_symbols_modules.specs.DatabaseCalls.{debug_information, names}
use Rattle.pdb_symbols_modules.specs.Dbi.{Dbi, header_of, dbi_of}
use Rattle.pdb_symbols_modules.specs.Information.{information_of, stream_name_at, stream_names_of, number_of}
use Rattle.pdb_symbols_modules.specs.ModuleStream.{line_data_in, subsection_in, imports_in}
use Rattle.pdb_symbols_modules.specs.Modules.{module_at}
use Rattle.pdb_symbols_modules.specs.OptionalHeader.{optional_at, value_or}
use Rattle.pdb_symbols_modules.specs.Shared.{number, named, named_number, names_number, symbols_number, optional_number, shared, module_of_number, info_in, info_from, module_number, module_bytes, provider}
use Rattle.pdb_symbols_modules.specs.Streams.{Streams, if_named, streams}
use Rattle.pdb_subsections.specs.Imports.{Import, import_at}
use Rattle.pdb_resolving.specs.Reaches.{Reaches}
use Rattle.pdb_resolving.specs.Resolving.{Modules, module_numbered, imports_read, imports_of, last_place, last_named}
use Rattle.pdb_report.specs.Isolation.{IsFree, IsNeeded, IsRelated, modules_in}
use Rattle.pdb_report.specs.Isolation.IsNeeded.{Fixed, Names, Symbols, Optional, OfModule}
use Rattle.pdb_report.specs.Isolation.IsRelated.{Itself, Reached}
use Rattle.pdb_report_tests.specs.Samples as samples

-- ---- what is read

abbrev file : Streams
file = streams samples.imports

-- the import of the first module
abbrev imported : Import
imported = record { name = 5; locals = 0x80001000 ∷ [] }

-- the names: an empty one, `a.c` and `c.obj`
abbrev names_there : List ℕ
names_there = 0 ∷ codes "a.c" ++ 0 ∷ codes "c.obj" ++ 0 ∷ []

-- the optional header: eleven numbers, of which the sixth names a stream
abbrev header : List ℕ
header = replicate 10 255 ++ 6 ∷ 0 ∷ replicate 10 255

names_are : (modules_in file).names ≡ Some names_there
unfolding samples.imports count_ones header_of dbi_of debug_information entries_within front_in first_words behind_header header_in layout_of bytes_at page_places directory_of stream_pages_in stream_in stream if_named listing_within c_string_at module_at names_of names name_in named information_of many_at stream_name_at stream_names_of number_of named_number symbols_number optional_number shared streams
names_are = refl

imports_are : imports_of (modules_in file) 0 ≡ Ok (imported ∷ [])
unfolding samples.imports count_ones header_of dbi_of debug_information entries_within front_in first_words behind_header header_in layout_of bytes_at page_places directory_of stream_pages_in stream_in stream if_named listing_within c_string_at module_at names_of names name_in named information_of many_at stream_name_at stream_names_of number_of named_number symbols_number optional_number shared streams module_of_number info_in info_from module_number module_bytes provider module_numbered imports_read imports_in subsection_in line_data_in subsection_at import_at
imports_are = refl

name_is : text_in names_there 5 ≡ Ok (codes "c.obj")
unfolding name_in c_string_at utf8_lossy utf8_valid_len is_utf8 chars lib.Utf8.encode
name_is = refl

target_is : last_named (codes "c.obj") (modules_in file).entries ≡ Some 2
unfolding samples.imports count_ones header_of dbi_of debug_information entries_within front_in first_words behind_header header_in layout_of bytes_at page_places directory_of stream_pages_in stream_in stream if_named listing_within c_string_at module_at names_of names name_in named information_of many_at stream_name_at stream_names_of number_of named_number symbols_number optional_number shared streams last_place utf8_lossy utf8_valid_len is_utf8 chars lib.Utf8.encode
target_is = refl

names_stream : names_number (file.at 1) ≡ Ok 8
unfolding samples.imports count_ones header_of dbi_of debug_information entries_within front_in first_words behind_header header_in layout_of bytes_at page_places directory_of stream_pages_in stream_in stream if_named listing_within c_string_at module_at names_of names name_in named information_of many_at stream_name_at stream_names_of number_of named_number symbols_number optional_number shared streams
names_stream = refl

symbols_stream : symbols_number (file.at 3) ≡ Ok 5
unfolding samples.imports count_ones header_of dbi_of debug_information entries_within front_in first_words behind_header header_in layout_of bytes_at page_places directory_of stream_pages_in stream_in stream if_named listing_within c_string_at module_at names_of names name_in named information_of many_at stream_name_at stream_names_of number_of named_number symbols_number optional_number shared streams
symbols_stream = refl

header_is : (file.at 3 >>= dbi_of >>= λ d. Ok d.optional_header) ≡ Ok header
unfolding samples.imports count_ones header_of dbi_of debug_information entries_within front_in first_words behind_header header_in layout_of bytes_at page_places directory_of stream_pages_in stream_in stream if_named listing_within c_string_at module_at names_of names name_in named information_of many_at stream_name_at stream_names_of number_of named_number symbols_number optional_number shared streams
header_is = refl

first_stream : module_number (file.at 3) 0 ≡ Ok 7
unfolding samples.imports count_ones header_of dbi_of debug_information entries_within front_in first_words behind_header header_in layout_of bytes_at page_places directory_of stream_pages_in stream_in stream if_named listing_within c_string_at module_at names_of names name_in named information_of many_at stream_name_at stream_names_of number_of named_number symbols_number optional_number shared streams module_of_number info_in info_from module_number module_bytes provider
first_stream = refl

second_stream : module_number (file.at 3) 1 ≡ Ok 9
unfolding samples.imports count_ones header_of dbi_of debug_information entries_within front_in first_words behind_header header_in layout_of bytes_at page_places directory_of stream_pages_in stream_in stream if_named listing_within c_string_at module_at names_of names name_in named information_of many_at stream_name_at stream_names_of number_of named_number symbols_number optional_number shared streams module_of_number info_in info_from module_number module_bytes provider
second_stream = refl

third_stream : module_number (file.at 3) 2 ≡ Ok 10
unfolding samples.imports count_ones header_of dbi_of debug_information entries_within front_in first_words behind_header header_in layout_of bytes_at page_places directory_of stream_pages_in stream_in stream if_named listing_within c_string_at module_at names_of names name_in named information_of many_at stream_name_at stream_names_of number_of named_number symbols_number optional_number shared streams module_of_number info_in info_from module_number module_bytes provider
third_stream = refl

-- ---- steps

one_value : {A F : Type 0} (r : Result A F) (x y : A) → r ≡ Ok x → r ≡ Ok y → x ≡ y
one_value (Ok z) x y e f = cc
one_value (Err z) x y e f = absurd cc

one_there : {A : Type 0} (o : Option A) (x y : A) → o ≡ Some x → o ≡ Some y → x ≡ y
one_there (Some z) x y e f = cc
one_there None x y e f = absurd cc

only_one : (x y : Import) → Contains (x ∷ []) y → y ≡ x
only_one x y (zero, low, e) = sym e
only_one x y (suc k, low, e) = absurd (omega arith)

-- ---- related modules: the first and the third

reached_third : (k : ℕ) → Reaches (modules_in file) 0 k → k ≡ 2
reached_third k r =
    let names_same = one_there (modules_in file).names r.names names_there r.names_are names_are in
    let imports_same = one_value (imports_of (modules_in file) 0) r.imports (imported ∷ []) r.imports_are imports_are in
    let import_same = only_one imported r.import (subst (λ (imports : List Import). Contains imports r.import) imports_same r.imported) in
    let read : text_in names_there 5 ≡ Ok r.name = subst (λ (i : Import). text_in names_there i.name ≡ Ok r.name) import_same (subst (λ (names : List ℕ). text_in names r.import.name ≡ Ok r.name) names_same r.name_is) in
    let name_same = one_value (text_in names_there 5) r.name (codes "c.obj") read name_is in
    one_there (last_named (codes "c.obj") (modules_in file).entries) k 2 (subst (λ (name : List ℕ). last_named name (modules_in file).entries ≡ Some k) name_same r.target_is) target_is

third_reached : Reaches (modules_in file) 0 2
third_reached = record {
  names = names_there;
  imports = imported ∷ [];
  import = imported;
  name = codes "c.obj";
  names_are = names_are;
  imports_are = imports_are;
  imported = (0, omega arith, refl);
  name_is = name_is;
  target_is = target_is;
}

-- ---- the optional header

-- the number at a place
abbrev value_at : ℕ → ℕ
value_at place = value_or 65535 (number_at w16 (drop (2 * place) header))

header_length : length header ≡ 22
header_length = refl

behind : (place : ℕ) → 11 ≤ place → value_at place ≡ 65535
behind place past =
    let long : length header ≤ 2 * place = omega (arith, header_length, past) in
    ap (λ bytes. value_or 65535 (number_at w16 bytes)) (drop_all (2 * place) header long)

value_is : (place : ℕ) → (value_at place ≡ 65535) ⊎ (value_at place ≡ 6)
value_is zero = inl refl
value_is (suc zero) = inl refl
value_is (suc (suc zero)) = inl refl
value_is (suc (suc (suc zero))) = inl refl
value_is (suc (suc (suc (suc zero)))) = inl refl
value_is (suc (suc (suc (suc (suc zero))))) = inr refl
value_is (suc (suc (suc (suc (suc (suc zero)))))) = inl refl
value_is (suc (suc (suc (suc (suc (suc (suc zero))))))) = inl refl
value_is (suc (suc (suc (suc (suc (suc (suc (suc zero)))))))) = inl refl
value_is (suc (suc (suc (suc (suc (suc (suc (suc (suc zero))))))))) = inl refl
value_is (suc (suc (suc (suc (suc (suc (suc (suc (suc (suc zero)))))))))) = inl refl
value_is (suc (suc (suc (suc (suc (suc (suc (suc (suc (suc (suc p))))))))))) = inl (behind (suc (suc (suc (suc (suc (suc (suc (suc (suc (suc (suc p))))))))))) (omega arith))

optional_in_header : (read : Result Dbi Fault) (place : ℕ) → (read >>= λ d. Ok d.optional_header) ≡ Ok header → named (read >>= λ d. optional_at place d.optional_header) ≡ number (value_at place)
unfolding named optional_at
optional_in_header (Err e) place h = absurd cc
optional_in_header (Ok d) place h =
    let same : d.optional_header ≡ header = cc in
    ap (λ bytes. named (optional_at place bytes)) same

not_named : (n : ℕ) → (n ≡ 65535) ⊎ (n ≡ 6) → number n ≡ Ok 9 → ⊥
not_named n (inl is) e = absurd cc
not_named n (inr is) e = absurd cc

not_optional : (place : ℕ) → optional_number place (file.at 3) ≡ Ok 9 → ⊥
unfolding optional_number
not_optional place e = not_named (value_at place) (value_is place) (sym (optional_in_header (file.at 3 >>= dbi_of) place header_is) ∙ e)

-- ---- what is free, and what isn't

related_are : (k : ℕ) → IsRelated file 0 k → (k ≡ 0) ⊎ (k ≡ 2)
related_are k (Itself is) = inl is
related_are k (Reached reaches) = inr (reached_third k reaches)

differ : (r : Result ℕ Fault) (x y : ℕ) → r ≡ Ok x → r ≡ Ok y → (x ≡ y → ⊥) → ⊥
differ r x y e f apart = apart (one_value r x y e f)

not_of_module : (k : ℕ) → (k ≡ 0) ⊎ (k ≡ 2) → module_number (file.at 3) k ≡ Ok 9 → ⊥
not_of_module k (inl is) e = differ (module_number (file.at 3) 0) 7 9 first_stream (subst (λ k. module_number (file.at 3) k ≡ Ok 9) is e) (λ same. omega arith)
not_of_module k (inr is) e = differ (module_number (file.at 3) 2) 10 9 third_stream (subst (λ k. module_number (file.at 3) k ≡ Ok 9) is e) (λ same. omega arith)

not_needed : IsNeeded file 0 9 → ⊥
not_needed (Fixed above below) = omega arith
not_needed (Names e) = differ (names_number (file.at 1)) 8 9 names_stream e (λ same. omega arith)
not_needed (Symbols e) = differ (symbols_number (file.at 3)) 5 9 symbols_stream e (λ same. omega arith)
not_needed (Optional place e) = not_optional place e
not_needed (OfModule k related e) = not_of_module k (related_are k related) e

apart : (k : ℕ) → k ≡ 1 → (k ≡ 0) ⊎ (k ≡ 2) → ⊥
apart k one (inl is) = omega arith
apart k one (inr is) = omega arith

-- the second module's stream
pub free : IsFree file 0 9
free = record { owner = 1; unrelated = λ related. apart 1 refl (related_are 1 related); named = second_stream; not_needed = not_needed }

-- the third module's
pub needed : ¬ IsFree file 0 10
needed is_free = is_free.not_needed (OfModule 2 (Reached third_reached) third_stream)
