-- The name at the end of a path, one byte at a time.
use Rattle.std.proofs.Common.{◌≡◌, ℕ, ◌+◌, ◌<◌, ◌≤◌, List, [], ◌∷◌, true, false, length, get_or, drop, sym, ap, ◌∙◌}
use Rattle.std.proofs.lemmas.Bool.{cond-true, cond-false}
use Rattle.std.proofs.lemmas.List.{drop_more, drop_all}
use Rattle.pdb_llvm_protocol.specs.Reported.{is_separator, name_from}

-- a byte that is no separator leaves the name
pub name_kept : (path name : List ℕ) (i d : ℕ) → i < length path
    → is_separator (get_or path i d) ≡ false
    → name_from name (drop (i + 1) path) ≡ name_from name (drop i path)
name_kept path name i d lt other =
    let rest = drop (i + 1) path in
    sym (ap (name_from name) (drop_more path i d lt)
    ∙ cond-false (is_separator (get_or path i d)) (name_from rest rest) (name_from name rest) other)

-- a separator begins it anew
pub name_begun : (path name : List ℕ) (i d : ℕ) → i < length path
    → is_separator (get_or path i d) ≡ true
    → name_from (drop (i + 1) path) (drop (i + 1) path) ≡ name_from name (drop i path)
name_begun path name i d lt separates =
    let rest = drop (i + 1) path in
    sym (ap (name_from name) (drop_more path i d lt)
    ∙ cond-true (is_separator (get_or path i d)) (name_from rest rest) (name_from name rest) separates)

-- at the end it is the name
pub name_all : (path name : List ℕ) (i : ℕ) → length path ≤ i → name_from name (drop i path) ≡ name
name_all path name i past = ap (name_from name) (drop_all i path past)
