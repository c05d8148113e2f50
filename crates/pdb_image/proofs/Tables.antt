-- What a table is whose codes are appended to others.
use Rattle.std.proofs.Common.{◌≡◌, ℕ, Bool, List, ◌++◌, sym, ap, ◌∙◌, inr}
use Rattle.std.specs.Prelude.{Option, Some, Result, Ok, Err, slice_index}
use Rattle.std.proofs.lemmas.List.{append-nil}
use Rattle.pdb_container.specs.Fault.{◌>>=◌}
use Rattle.pdb_image.specs.Image.{Image}
use Rattle.pdb_image.specs.Codes.{Gives, Table, behind, codes_in, header_of, parent_of}
use Rattle.pdb_image.specs.Codes.{slots_at, table_behind, table_in, table_of, table_to}
use Rattle.pdb_image.specs.declared.code.UnwindCode.{UnwindCode}
use Rattle.pdb_image.specs.declared.fault.UnwindFault.{UnwindFault}

made : List UnwindCode → Option ℕ → Result Table UnwindFault
made codes parent = Ok (record { codes = codes; parent = parent })

table_given : (old new : List UnwindCode) (codes : Result (List UnwindCode) UnwindFault)
    (parent : Result (Option ℕ) UnwindFault) (p : Option ℕ) → behind old codes ≡ Ok new
    → parent ≡ Ok p
    → table_behind old (table_in codes parent) ≡ Ok (record { codes = new; parent = p })
unfolding table_in made
table_given old new (Ok xs) (Ok q) p e h =
    let codes : old ++ xs ≡ new = cc in
    let same : q ≡ p = cc in
    ap (λ (ys : List UnwindCode). made ys q) codes ∙ ap (made new) same
table_given old new (Ok xs) (Err y) p e h = cc
table_given old new (Err x) (Ok q) p e h = cc
table_given old new (Err x) (Err y) p e h = cc

table_no_parent : (old new : List UnwindCode) (codes : Result (List UnwindCode) UnwindFault)
    (parent : Result (Option ℕ) UnwindFault) (x : UnwindFault) → behind old codes ≡ Ok new
    → parent ≡ Err x → table_behind old (table_in codes parent) ≡ Err x
unfolding table_in
table_no_parent old new (Ok xs) (Ok q) x e h = cc
table_no_parent old new (Ok xs) (Err y) x e h = ap Err (cc)
table_no_parent old new (Err z) parent x e h = cc

-- a table whose four bytes and slots were read
table_found : (image : Image) (p : Bool) (info : ℕ) (header bytes : List ℕ)
    → header_of image info ≡ Ok header → slots_at image header info ≡ Ok bytes
    → table_of image p info
    ≡ table_in (codes_in p (slice_index header 3) 0 bytes) (parent_of image header info)
unfolding table_of
table_found image p info header bytes h b =
    ap (λ (r : Result (List ℕ) UnwindFault). r >>= λ xs. slots_at image xs info >>= λ ys. table_in (codes_in p (slice_index xs 3) 0 ys) (parent_of image xs info)) h
    ∙ ap (λ (r : Result (List ℕ) UnwindFault). r >>= λ ys. table_in (codes_in p (slice_index header 3) 0 ys) (parent_of image header info)) b

-- its codes were appended, too: reading its parent's address gives the rest
pub table_told : (image : Image) (p : Bool) (info : ℕ) (header bytes : List ℕ)
    (old new : List UnwindCode) (parent : Result (Option ℕ) UnwindFault)
    → header_of image info ≡ Ok header → slots_at image header info ≡ Ok bytes
    → behind old (codes_in p (slice_index header 3) 0 bytes) ≡ Ok new
    → parent ≡ parent_of image header info
    → Gives {X = Option ℕ} {Y = Table} (λ x. record { codes = new; parent = x }) parent (table_behind old (table_of image p info))
table_told image p info header bytes old new (Ok x) h b e same =
    ap (table_behind old) (table_found image p info header bytes h b)
    ∙ table_given old new (codes_in p (slice_index header 3) 0 bytes) (parent_of image header info) x e (sym same)
table_told image p info header bytes old new (Err y) h b e same =
    inr (ap (table_behind old) (table_found image p info header bytes h b)
    ∙ table_no_parent old new (codes_in p (slice_index header 3) 0 bytes) (parent_of image header info) y e (sym same))

pub table_no_codes : (old : List UnwindCode) (codes : Result (List UnwindCode) UnwindFault)
    (parent : Result (Option ℕ) UnwindFault) (x : UnwindFault) → behind old codes ≡ Err x
    → table_behind old (table_in codes parent) ≡ Err x
unfolding table_in
table_no_codes old (Ok xs) parent x e = cc
table_no_codes old (Err z) parent x e = ap Err (cc)

pub pointer_given : (old : List UnwindCode) (parent : Result ℕ UnwindFault) (p : ℕ)
    → parent ≡ Ok p
    → table_behind old (table_to parent) ≡ Ok (record { codes = old; parent = Some p })
unfolding table_to made
pointer_given old (Ok q) p e =
    let same : q ≡ p = cc in
    ap (λ (ys : List UnwindCode). made ys (Some q)) (append-nil old)
    ∙ ap (λ (n : ℕ). made old (Some n)) same
pointer_given old (Err x) p e = cc

pub pointer_failed : (old : List UnwindCode) (parent : Result ℕ UnwindFault) (x : UnwindFault)
    → parent ≡ Err x → table_behind old (table_to parent) ≡ Err x
unfolding table_to
pointer_failed old (Ok q) x e = cc
pointer_failed old (Err y) x e = ap Err (cc)
