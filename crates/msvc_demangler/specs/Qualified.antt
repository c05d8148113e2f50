-- The letters of qualifiers.
use Rattle.std.specs.Prelude.{ℕ, ◌==◌, ◌||◌, if◌then◌else◌, Bool, true, false, Option, None, Some}
use Rattle.std.specs.Prelude.{List, codes}
use Rattle.msvc_demangler.specs.Bytes.{after_optional, begins}
use Rattle.msvc_demangler.specs.declared.qualifiers.Qualifiers.{Qualifiers}
use Rattle.msvc_demangler.specs.declared.words.Affinity.{Affinity}
use Rattle.msvc_demangler.specs.declared.words.Affinity.TheVariants.{Pointer, Reference}
use Rattle.msvc_demangler.specs.declared.words.Affinity.TheVariants.{RvalueReference}
use Rattle.msvc_demangler.specs.Words.{Text}

-- const and volatile alone
abbrev pub qualified : Bool → Bool → Qualifiers
qualified is_const is_volatile = record {
  is_const = is_const;
  is_volatile = is_volatile;
  is_restrict = false;
  is_unaligned = false;
}

-- the qualifiers of a letter: A to D for what is no member, Q to T for a member
unfoldable pub letter_qualifiers : ℕ → Option Qualifiers
letter_qualifiers b =
    if (b == 65) || (b == 81) then Some (qualified false false)
    else if (b == 66) || (b == 82) then Some (qualified true false)
    else if (b == 67) || (b == 83) then Some (qualified false true)
    else if (b == 68) || (b == 84) then Some (qualified true true)
    else None

-- the qualifiers of a pointer before its pointee, I for __restrict and F for __unaligned, after an
-- E that isn't printed; and the rest after them
abbrev pub extended : List ℕ → Qualifiers × List ℕ
extended text =
    let wide = after_optional 69 text in
    let restricted = after_optional 73 wide in
    let qualifiers : Qualifiers = record {
      is_const = false;
      is_volatile = false;
      is_restrict = begins 73 wide;
      is_unaligned = begins 70 restricted;
    } in
    (qualifiers, after_optional 70 restricted)

-- the pointer or reference that a letter stands for, with its own qualifiers
unfoldable pub pointer : ℕ → Option (Affinity × Qualifiers)
pointer b =
    if b == 65 then Some (Reference, qualified false false)
    else if b == 80 then Some (Pointer, qualified false false)
    else if b == 81 then Some (Pointer, qualified true false)
    else if b == 82 then Some (Pointer, qualified false true)
    else if b == 83 then Some (Pointer, qualified true true)
    else None

-- the sign of a pointer or reference
abbrev pub affinity_text : Affinity → Text
affinity_text Pointer = codes "*"
affinity_text Reference = codes "&"
affinity_text RvalueReference = codes "&&"
