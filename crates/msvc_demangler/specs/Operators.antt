-- Names of operators, and of functions that a compiler makes, by a digit or a letter.
use Rattle.std.specs.Prelude.{ℕ, ◌==◌, ◌||◌, ◌&&◌, nat_le, if◌then◌else◌, [], Bool, Option, None}
use Rattle.std.specs.Prelude.{Some, codes}
use Rattle.msvc_demangler.specs.Words.{Text}

-- a digit or a capital letter
abbrev pub is_code : ℕ → Bool
is_code b = (nat_le 48 b && nat_le b 57) || (nat_le 65 b && nat_le b 90)

-- the name that stands after ?; empty for a constructor, a destructor and a conversion
unfoldable pub operator_name : ℕ → Option Text
operator_name b =
    if b == 50 then Some (codes "operator new")
    else if b == 51 then Some (codes "operator delete")
    else if b == 52 then Some (codes "operator=")
    else if b == 53 then Some (codes "operator>>")
    else if b == 54 then Some (codes "operator<<")
    else if b == 55 then Some (codes "operator!")
    else if b == 56 then Some (codes "operator==")
    else if b == 57 then Some (codes "operator!=")
    else if b == 65 then Some (codes "operator[]")
    else if b == 67 then Some (codes "operator->")
    else if b == 68 then Some (codes "operator*")
    else if b == 69 then Some (codes "operator++")
    else if b == 70 then Some (codes "operator--")
    else if b == 71 then Some (codes "operator-")
    else if b == 72 then Some (codes "operator+")
    else if b == 73 then Some (codes "operator&")
    else if b == 74 then Some (codes "operator->*")
    else if b == 75 then Some (codes "operator/")
    else if b == 76 then Some (codes "operator%")
    else if b == 77 then Some (codes "operator<")
    else if b == 78 then Some (codes "operator<=")
    else if b == 79 then Some (codes "operator>")
    else if b == 80 then Some (codes "operator>=")
    else if b == 81 then Some (codes "operator,")
    else if b == 82 then Some (codes "operator()")
    else if b == 83 then Some (codes "operator~")
    else if b == 84 then Some (codes "operator^")
    else if b == 85 then Some (codes "operator|")
    else if b == 86 then Some (codes "operator&&")
    else if b == 87 then Some (codes "operator||")
    else if b == 88 then Some (codes "operator*=")
    else if b == 89 then Some (codes "operator+=")
    else if b == 90 then Some (codes "operator-=")
    else if (b == 48) || ((b == 49) || (b == 66)) then Some []
    else None

-- the name that stands after ?_; empty for a code that has another meaning
unfoldable pub later_operator_name : ℕ → Option Text
later_operator_name b =
    if b == 48 then Some (codes "operator/=")
    else if b == 49 then Some (codes "operator%=")
    else if b == 50 then Some (codes "operator>>=")
    else if b == 51 then Some (codes "operator<<=")
    else if b == 52 then Some (codes "operator&=")
    else if b == 53 then Some (codes "operator|=")
    else if b == 54 then Some (codes "operator^=")
    else if b == 68 then Some (codes "`vbase dtor'")
    else if b == 69 then Some (codes "`vector deleting dtor'")
    else if b == 70 then Some (codes "`default ctor closure'")
    else if b == 71 then Some (codes "`scalar deleting dtor'")
    else if b == 72 then Some (codes "`vector ctor iterator'")
    else if b == 73 then Some (codes "`vector dtor iterator'")
    else if b == 74 then Some (codes "`vector vbase ctor iterator'")
    else if b == 75 then Some (codes "`virtual displacement map'")
    else if b == 76 then Some (codes "`eh vector ctor iterator'")
    else if b == 77 then Some (codes "`eh vector dtor iterator'")
    else if b == 78 then Some (codes "`eh vector vbase ctor iterator'")
    else if b == 79 then Some (codes "`copy ctor closure'")
    else if b == 84 then Some (codes "`local vftable ctor closure'")
    else if b == 85 then Some (codes "operator new[]")
    else if b == 86 then Some (codes "operator delete[]")
    else if is_code b then Some []
    else None

-- the name that stands after ?__; empty for a code that has another meaning
unfoldable pub last_operator_name : ℕ → Option Text
last_operator_name b =
    if b == 65 then Some (codes "`managed vector ctor iterator'")
    else if b == 66 then Some (codes "`managed vector dtor iterator'")
    else if b == 67 then Some (codes "`EH vector copy ctor iterator'")
    else if b == 68 then Some (codes "`EH vector vbase copy ctor iterator'")
    else if b == 71 then Some (codes "`vector copy ctor iterator'")
    else if b == 72 then Some (codes "`vector vbase copy constructor iterator'")
    else if b == 73 then Some (codes "`managed vector vbase copy constructor iterator'")
    else if b == 76 then Some (codes "operator co_await")
    else if b == 77 then Some (codes "operator<=>")
    else if is_code b then Some []
    else None
