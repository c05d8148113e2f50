-- The text after the last colon of a file's name: an architecture, or an identity.
use Rattle.std.specs.Prelude.{ℕ, ◌-◌, ◌==◌, not, nat_eq, nat_le, nat_lt, ◌||◌, ◌&&◌}
use Rattle.std.specs.Prelude.{if◌then◌else◌, Bool}
use Rattle.std.specs.Prelude.{List, [], ◌∷◌, length, take, drop, position, unwrap_or, Option, None}
use Rattle.std.specs.Prelude.{Some, codes}
use Rattle.std.specs.List.{list_any, starts_with, suffix_len}
use Rattle.pdb_llvm_protocol.specs.Words.{are_hexadecimal}

-- the number of bytes up to the last colon, which is included; 0 where there is none
unfoldable pub after_colon : List ℕ → ℕ
after_colon name = length name - suffix_len (λ b. not (b == 58)) name

-- the part of a text before its first hyphen, or all of it
unfoldable pub before_hyphen : List ℕ → List ℕ
before_hyphen text = take (unwrap_or (position (λ b. b == 45) text) (length text)) text

-- a text is another one
abbrev pub is_text : List ℕ → List ℕ → Bool
is_text text wanted = starts_with nat_eq text wanted && (length text == length wanted)

-- the architectures that images of Windows have, by the names that LLVM gives them
unfoldable pub is_x86 : List ℕ → Bool
is_x86 text =
    list_any (is_text text) (codes "x86_64" ∷ codes "amd64" ∷ codes "x86_64h" ∷ codes "i386"
    ∷ codes "i486" ∷ codes "i586" ∷ codes "i686" ∷ [])

unfoldable pub is_arm : List ℕ → Bool
is_arm text =
    list_any (is_text text) (codes "arm" ∷ codes "armv7" ∷ codes "thumb" ∷ codes "thumbv7"
    ∷ codes "aarch64" ∷ codes "arm64" ∷ codes "arm64ec" ∷ [])

-- one of these architectures stands before the first hyphen
unfoldable pub is_architecture : List ℕ → Bool
is_architecture text = let name = before_hyphen text in is_x86 name || is_arm name

-- a name without the architecture after its last colon
unfoldable pub file_without : List ℕ → List ℕ
file_without name =
    let end = after_colon name in
    if nat_lt 0 end && is_architecture (drop end name) then take (end - 1) name else name

-- 9 to 40
abbrev pub is_identity_length : ℕ → Bool
is_identity_length n = nat_le 9 n && nat_le n 40

-- 9 to 40 hexadecimal digits
unfoldable pub is_identity : List ℕ → Bool
is_identity text = is_identity_length (length text) && are_hexadecimal text

-- a name, and the identity after its last colon
unfoldable pub identified_of : List ℕ → Option (List ℕ × List ℕ)
identified_of name =
    let end = after_colon name in
    if nat_lt 0 end && is_identity (drop end name) then Some (take (end - 1) name, drop end name)
    else None
