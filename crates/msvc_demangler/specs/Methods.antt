-- The kind of a method, from its letter.
use Rattle.std.specs.Prelude.{ℕ, ◌-◌, ◌/◌, ◌%◌, ◌==◌, ◌&&◌, ◌||◌, nat_le, not, if◌then◌else◌}
use Rattle.std.specs.Prelude.{Option, None, Some, codes}
use Rattle.msvc_demangler.specs.declared.words.Access.{Access}
use Rattle.msvc_demangler.specs.declared.words.Access.TheVariants.{Private, Protected, Public}
use Rattle.msvc_demangler.specs.declared.methods.MethodClass.{MethodClass}
use Rattle.msvc_demangler.specs.Words.{Text}

-- the access to the methods of a group of eight letters
abbrev pub access : ℕ → Access
access group = if group == 0 then Private else (if group == 1 then Protected else Public)

-- the kind of method of a pair of letters: plain, static, virtual, and a thunk, which isn't virtual
-- where it is private
abbrev pub method_in : ℕ → ℕ → MethodClass
method_in group pair = record {
  access = access group;
  is_static = pair == 1;
  is_virtual = (pair == 2) || ((pair == 3) && not (group == 0));
  is_adjusted = pair == 3;
}

-- the method that a letter from A to X stands for
unfoldable pub method_class : ℕ → Option MethodClass
method_class b =
    if nat_le 65 b && nat_le b 88 then Some (method_in ((b - 65) / 8) ((b - 65) % 8 / 2)) else None

-- the access to a variable, by the digit of its storage: 0 to 2 are static members, 3 is global and
-- 4 local to a function
unfoldable pub storage : ℕ → Option (Option Access)
storage b =
    if b == 48 then Some (Some Private)
    else if b == 49 then Some (Some Protected)
    else if b == 50 then Some (Some Public)
    else if (b == 51) || (b == 52) then Some None
    else None

-- the access to the virtual method whose thunk has a digit, by pairs of digits
unfoldable pub thunk_access : ℕ → Option Access
thunk_access b =
    if (b == 48) || (b == 49) then Some Private
    else if (b == 50) || (b == 51) then Some Protected
    else if (b == 52) || (b == 53) then Some Public
    else None

-- the text that is printed before a member
abbrev pub access_text : Access → Text
access_text Private = codes "private: "
access_text Protected = codes "protected: "
access_text Public = codes "public: "
