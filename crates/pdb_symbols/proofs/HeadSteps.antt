-- The records that say whose a symbol file is.
use Rattle.std.proofs.Common.{◌≡◌, ◌∙◌, ℕ, ◌+◌, ◌<◌, ◌≤◌, List, [], ◌∷◌, ◌++◌, refl, sym, ap, subst}
use Rattle.std.proofs.Common.{append_assoc, append-nil, length, drop, get_or, inl, inr, eqb, Bool, true}
use Rattle.std.proofs.Common.{false, ◌-◌, arith, length-drop, take, take_all}
use Rattle.std.proofs.lemmas.Slice.Eq.{bytes_eq-Decides}
use Rattle.std.specs.List.{flat_map}
use Rattle.std.specs.Prelude.{Option, ◌↔◌, Some}
use Rattle.std.specs.Str.{bytes_eq}
use Rattle.std.proofs.lemmas.Bool.{cases_eq, ne_eqb, and_parts, and_from, eqb-true, eq-eqb}
use Rattle.std.proofs.lemmas.List.{drop_all, drop_more}
use Rattle.pdb_image.specs.Image.{Image}
use Rattle.pdb_image.specs.declared.identity.PdbIdentity.{PdbIdentity}
use Rattle.pdb_container.specs.Container.{half_at, word_at}
use Rattle.pdb_symbol_files.specs.Heads.{file_name, machine_name, machine_text, identity_text}
use Rattle.pdb_symbol_files.specs.Heads.{module_text}
use Rattle.pdb_symbol_files.specs.Texts.{told_text}
use Rattle.pdb_symbols.specs.Described.{machine_number}
use Rattle.pdb_symbols.specs.SymbolFile.{Asked, first_records, identity_name, image_record, padded}
use Rattle.pdb_symbols.specs.SymbolFile.{guid_name, same_identity}
use Rattle.pdb_symbols_modules.specs.Machine.{machine_of}
use Rattle.pdb_symbols_modules.specs.declared.machine.MachineType.{MachineType}
use Rattle.pdb_symbols_modules.specs.declared.machine.MachineType.TheVariants as machines

pub byte_more : (bytes : List ℕ) (i b : ℕ) (out more all : List ℕ) → i < length bytes
    → b ≡ get_or bytes i b → more ≡ out ++ padded 2 b
    → out ++ flat_map (λ byte. padded 2 byte) (drop i bytes) ≡ all
    → more ++ flat_map (λ byte. padded 2 byte) (drop (i + 1) bytes) ≡ all
byte_more bytes i b out more all lt is e so_far =
    let digits : ℕ → List ℕ = λ byte. padded 2 byte in
    let rest = flat_map digits (drop (i + 1) bytes) in
    ap (λ l. l ++ rest) e ∙ append_assoc out (padded 2 b) rest
    ∙ sym (ap (λ l. out ++ flat_map digits l) (drop_more bytes i b lt
    ∙ ap (λ x. x ∷ drop (i + 1) bytes) (sym is)))
    ∙ so_far

pub bytes_end : (bytes : List ℕ) (i : ℕ) (out all : List ℕ) → length bytes ≤ i
    → out ++ flat_map (λ byte. padded 2 byte) (drop i bytes) ≡ all → out ≡ all
bytes_end bytes i out all le so_far =
    sym (append-nil out)
    ∙ sym (ap (λ l. out ++ flat_map (λ byte. padded 2 byte) l) (drop_all i bytes le))
    ∙ so_far

pub guid_made : (guid out one all : List ℕ)
    → one ≡ out ++ (padded 8 (word_at guid 0) ++ padded 4 (half_at guid 4)
    ++ padded 4 (half_at guid 6))
    → all ≡ one ++ flat_map (λ byte. padded 2 byte) (take (length guid - 8) (drop 8 guid))
    → all ≡ out ++ guid_name guid
unfolding guid_name
guid_made guid out one all e more =
    let digits : ℕ → List ℕ = λ byte. padded 2 byte in
    let rest = flat_map digits (drop 8 guid) in
    let whole : take (length guid - 8) (drop 8 guid) ≡ drop 8 guid
    = take_all (length guid - 8) (drop 8 guid) (omega (arith, length-drop 8 guid)) in
    more ∙ ap (λ l. one ++ flat_map digits l) whole ∙ ap (λ l. l ++ rest) e
    ∙ append_assoc out (padded 8 (word_at guid 0) ++ padded 4 (half_at guid 4)
    ++ padded 4 (half_at guid 6)) rest

-- ---- the build

is_same : (a b : PdbIdentity) → a ≡ b → same_identity a b ≡ true
is_same a b e =
    subst (λ (c : PdbIdentity). same_identity a c ≡ true) e
    (and_from (bytes_eq a.guid a.guid) (eqb a.age a.age) ((bytes_eq-Decides a.guid a.guid).1 refl)
    (eq-eqb a.age a.age refl))

are_same : (a b : PdbIdentity) → same_identity a b ≡ true → a ≡ b
are_same a b e =
    let both = and_parts (bytes_eq a.guid b.guid) (eqb a.age b.age) e in
    let guid : a.guid ≡ b.guid = (bytes_eq-Decides a.guid b.guid).0 both.0 in
    let age : a.age ≡ b.age = eqb-true a.age b.age both.1 in
    ap (λ (g : List ℕ). record { guid = g; age = a.age }) guid
    ∙ ap (λ (n : ℕ). record { guid = b.guid; age = n }) age

false_true : false ≡ true → ⊥
false_true e = cc

not_true : (b : Bool) → (b ≡ true → ⊥) → false ≡ b
not_true true h = absurd (h refl)
not_true false h = refl

-- a test that holds of equal identities alone
pub same_test : (a b : PdbIdentity) (test : Bool) → (test ≡ true ↔ (a ≡ b))
    → test ≡ same_identity a b
same_test a b true h = sym (is_same a b (h.0 refl))
same_test a b false h =
    not_true (same_identity a b) (λ (e : same_identity a b ≡ true).
    let bad : ⊥ = false_true (h.1 (are_same a b e)) in bad)

-- ---- the machine

other_machine : (n : ℕ) → ¬ (n ≡ 0x8664) → ¬ (n ≡ 0xaa64) → ¬ (n ≡ 0x200) → ¬ (n ≡ 0x5064)
    → ¬ (n ≡ 0x5128) → machine_of n ≡ machines.Other n
other_machine n a b c d e =
    rw (ne_eqb n 0x8664 a, ne_eqb n 0xaa64 b, ne_eqb n 0x200 c, ne_eqb n 0x5064 d, ne_eqb n 0x5128 e)
    refl

-- a machine is named by the number of its kind
name_same : (n : ℕ) → machine_name (machine_number (machine_of n)) ≡ machine_name n
unfolding machine_name
name_same n =
    let P : ℕ → Type 0 = λ (k : ℕ). machine_name (machine_number (machine_of k)) ≡ machine_name k in
    elim (cases_eq n 0x8664) [
      | inl is ↦ subst P (sym is) refl
      | inr a ↦ elim (cases_eq n 0xaa64) [
        | inl is ↦ subst P (sym is) refl
        | inr b ↦ elim (cases_eq n 0x200) [
          | inl is ↦ subst P (sym is) refl
          | inr c ↦ elim (cases_eq n 0x5064) [
            | inl is ↦ subst P (sym is) refl
            | inr d ↦ elim (cases_eq n 0x5128) [
              | inl is ↦ subst P (sym is) refl
              | inr e ↦ ap (λ (m : MachineType). machine_name (machine_number m))
                  (other_machine n a b c d e)
            ]
          ]
        ]
      ]
    ]

pub machine_same : (n found : ℕ) (m : MachineType) → m ≡ machine_of n → found ≡ machine_number m
    → machine_name found ≡ machine_name n
machine_same n found m is e =
    ap machine_name (e ∙ ap machine_number is) ∙ name_same n

-- ---- all of them

pub first_made : (asked : Asked) (machine number : ℕ) (i : PdbIdentity) (image : Option Image)
    (none name one all : List ℕ) → none ≡ [] → name ≡ identity_name i
    → machine_name number ≡ machine_name machine
    → one ≡ none ++ module_text number name asked.path
    → all ≡ one ++ image_record image asked.image_path
    → all ≡ first_records asked machine i image
first_made asked machine number i image none name one all nothing named same first e =
    let record_of = image_record image asked.image_path in
    e ∙ ap (λ l. l ++ record_of) (first
    ∙ ap (λ l. l ++ module_text number name asked.path) nothing
    ∙ ap (λ x. module_text number x asked.path) named
    ∙ ap (λ x. machine_text x ++ identity_text (identity_name i)
    (told_text (Some (file_name asked.path)))) same)
