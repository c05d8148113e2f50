-- The functions of entries, one entry after the other.
use Rattle.std.proofs.Common.{◌≡◌, ℕ, ◌+◌, ◌-◌, ◌<◌, List, [], ◌∷◌, zero, suc, refl, sym, ap, ◌∙◌}
use Rattle.std.proofs.Common.{arith}
use Rattle.std.specs.Prelude.{Option, None, Some}
use Rattle.pdb_image.specs.Image.{Image}
use Rattle.pdb_image.specs.Tables.{bytes_at}
use Rattle.pdb_image.specs.Entries.{UnwoundFunction, entries_from, entry_before, entry_in}
use Rattle.pdb_image.specs.Entries.{function_before, functions_of, taken}
use Rattle.pdb_image.specs.declared.entry.FunctionEntry.{FunctionEntry}

entries_next : (image : Image) (left address : ℕ) (bytes : List ℕ) → 0 < left
    → Some bytes ≡ bytes_at image address 12
    → entries_from image left address
    ≡ entry_in bytes ∷ entries_from image (left - 1) (address + 12)
unfolding entries_from
entries_next image zero address bytes some e = absurd (omega arith)
entries_next image (suc left) address bytes some e =
    let one : left ≡ suc left - 1 = omega arith in
    ap (λ (b : Option (List ℕ)). entry_before b (entries_from image left (address + 12))) (sym e)
    ∙ ap (λ (n : ℕ). entry_in bytes ∷ entries_from image n (address + 12)) one

entries_end : (image : Image) (left address : ℕ) → None ≡ bytes_at image address 12
    → entries_from image left address ≡ []
unfolding entries_from
entries_end image zero address e = refl
entries_end image (suc left) address e =
    ap (λ (b : Option (List ℕ)). entry_before b (entries_from image left (address + 12))) (sym e)

pub no_functions : (image : Image) (address last : ℕ)
    → functions_of image (entries_from image 0 address) last ≡ []
unfolding entries_from functions_of
no_functions image address last = refl

none_of_nothing : (image : Image) (last : ℕ) → functions_of image [] last ≡ []
unfolding functions_of
none_of_nothing image last = refl

-- no entries are those of no directory
pub no_directory : (image : Image)
    → functions_of image (entries_from image 0 0) 0 ≡ functions_of image [] 0
no_directory image = no_functions image 0 0 ∙ sym (none_of_nothing image 0)

first_function : (image : Image) (entry : FunctionEntry) (entries : List FunctionEntry) (last : ℕ)
    (f : Option UnwoundFunction) → f ≡ taken image last entry
    → functions_of image (entry ∷ entries) last
    ≡ function_before f last (functions_of image entries)
unfolding functions_of
first_function image entry entries last f e =
    ap (λ (x : Option UnwoundFunction). function_before x last (functions_of image entries)) (sym e)

-- an entry that isn't taken is passed over
pub entry_passed : (image : Image) (left address last : ℕ) (bytes : List ℕ)
    (total : List UnwoundFunction) → 0 < left → Some bytes ≡ bytes_at image address 12
    → None ≡ taken image last (entry_in bytes)
    → functions_of image (entries_from image left address) last ≡ total
    → functions_of image (entries_from image (left - 1) (address + 12)) last ≡ total
entry_passed image left address last bytes total some e none so_far =
    let rest = entries_from image (left - 1) (address + 12) in
    sym (ap (λ (xs : List FunctionEntry). functions_of image xs last) (entries_next image left address bytes some e)
    ∙ first_function image (entry_in bytes) rest last None none)
    ∙ so_far

-- an entry that is taken gives the next function
pub entry_taken : (image : Image) (left address last : ℕ) (bytes : List ℕ) (f : UnwoundFunction)
    (total : List UnwoundFunction) → 0 < left → Some bytes ≡ bytes_at image address 12
    → Some f ≡ taken image last (entry_in bytes)
    → functions_of image (entries_from image left address) last ≡ total
    → total ≡ f ∷ functions_of image (entries_from image (left - 1) (address + 12)) f.end
entry_taken image left address last bytes f total some e is so_far =
    let rest = entries_from image (left - 1) (address + 12) in
    sym so_far
    ∙ ap (λ (xs : List FunctionEntry). functions_of image xs last) (entries_next image left address bytes some e)
    ∙ first_function image (entry_in bytes) rest last (Some f) is

-- the entries end at one that isn't there
pub entry_missing : (image : Image) (left address last : ℕ) (total : List UnwoundFunction)
    → None ≡ bytes_at image address 12
    → functions_of image (entries_from image left address) last ≡ total → total ≡ []
entry_missing image left address last total e so_far =
    sym so_far
    ∙ ap (λ (xs : List FunctionEntry). functions_of image xs last) (entries_end image left address e)
    ∙ none_of_nothing image last

-- no entry is left
pub no_entry : (image : Image) (left address last : ℕ) (total : List UnwoundFunction) → left ≡ 0
    → functions_of image (entries_from image left address) last ≡ total → total ≡ []
no_entry image left address last total e so_far =
    sym so_far
    ∙ ap (λ (n : ℕ). functions_of image (entries_from image n address) last) e
    ∙ no_functions image address last
