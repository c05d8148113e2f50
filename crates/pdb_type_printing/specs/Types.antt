-- The text of a type, as a table of cases.
use Rattle.std.specs.Prelude.{ℕ, zero, suc, Bool, true, false, ◌&&◌, not, List, [], ◌∷◌, ◌++◌}
use Rattle.std.specs.Global.{Vec}
use Rattle.std.specs.Prelude.{replicate, reverse, codes, Option, Some, None, if◌then◌else◌}
use Rattle.pdb_container.specs.Bits.{has_bit}
use Rattle.pdb_container.specs.declared.index.TypeIndex.{TypeIndex}
use Rattle.pdb_records.specs.declared.type_attributes.FunctionAttributes.{FunctionAttributes}
use Rattle.pdb_records.specs.declared.type_data.ArrayType.{ArrayType}
use Rattle.pdb_records.specs.declared.type_data.MemberFunctionType.{MemberFunctionType}
use Rattle.pdb_records.specs.declared.type_data.PointerType.{PointerType}
use Rattle.pdb_records.specs.declared.type_data.ProcedureType.{ProcedureType}
use Rattle.pdb_records.specs.declared.type_data.TypeData.{TypeData}
use Rattle.pdb_records.specs.Shapes.{shape, array_form}
use Rattle.pdb_records.specs.Attributes.{constructs}
use Rattle.pdb_records.specs.Forms as forms
use Rattle.pdb_records.specs.Forms.{TypeForm, Plain}
use Rattle.pdb_resolving.specs.Cause.{ByFault}
use Rattle.pdb_resolving.specs.Fault.{ArgumentTypeNotArgumentList, CircularTypeDefinition}
use Rattle.pdb_type_printing.specs.declared.pointers.PointerLevel.{PointerLevel}
use Rattle.pdb_type_printing.specs.Printed.{Text, Printed, Done, Stopped, ◌>>=◌, say, unread}
use Rattle.pdb_type_printing.specs.Printed.{caught}
use Rattle.pdb_type_printing.specs.Printed.{read_or}
use Rattle.pdb_type_printing.specs.Env.{Env}
use Rattle.pdb_type_printing.specs.Paths.{Path, is_on, may_enter, room}
use Rattle.pdb_type_printing.specs.Names.{primitive_text, class_word, named}
use Rattle.pdb_type_printing.specs.FormNames.{unhandled}
use Rattle.pdb_type_printing.specs.Pointers.{level_of, leading_to, pointers_text, ends_in_sigil}
use Rattle.pdb_type_printing.specs.Objects.{This}
use Rattle.pdb_type_printing.specs.This.{this_of}
use Rattle.pdb_type_printing.specs.Arguments.{comma}
use Rattle.pdb_type_printing.specs.Brackets.{brackets}
use Rattle.pdb_type_printing.specs.Arrays.{Elements, elements_of}

-- the task for which an index is printed
pub data Task : Type 0 where
  -- the type on its own
  Whole : Task
  -- the type to which pointers lead: those before the last one, the outermost first, and the last
  -- one
  PointedTo : List PointerLevel → PointerLevel → Task
  -- the type to which pointers point, through a Modifier
  PointedModified : List PointerLevel → PointerLevel → Task
  -- the type that a Modifier makes constant, or not
  Modified : (constant : Bool) → Task
  -- the arguments of a method, in brackets: its class, its pointer to the object, and whether the
  -- text says that the object is constant
  MethodArguments : TypeIndex → Option TypeIndex → (says_constant : Bool) → Task

-- the arguments of a method's type, whose argument list is printed for it
abbrev pub arguments_of : MemberFunctionType → Bool → Task
arguments_of t says_constant = MethodArguments t.class_type t.this_pointer_type says_constant

-- the printing of an index for a task: the path so far, the index, the text so far
abbrev pub Visit : Type 0
Visit = Task → Path → ℕ → Text → Printed

-- A piece of the text of types: from the values of an Env, the printing of indices, the path so
-- far, and the text so far.
abbrev pub Piece : Type 0
Piece = Env → Visit → Path → Text → Printed

-- an index, printed for a task
abbrev pub indexed : Task → TypeIndex → Piece
indexed task index env visit path = visit task path index.0

-- ---- parts of functions

-- the type with which a function's text begins, if there is one, and a space
abbrev pub shown_text : Option TypeIndex → Piece
shown_text None env visit path w = Done w
shown_text (Some t) env visit path w = visit Whole path t.0 w >>= say (codes " ")

-- the type that a function returns, and a space; no text for a constructor
abbrev pub returned : Option TypeIndex → FunctionAttributes → Piece
returned None attributes env visit path w = Done w
returned (Some t) attributes env visit path w =
    if constructs attributes then Done w
    else (visit Whole path t.0 w >>= say (codes " "))

-- the type that a function returns, and a space, unless flag 1 (NO_FUNCTION_RETURN) leaves it out
abbrev pub returned_unless : Option TypeIndex → FunctionAttributes → Piece
returned_unless t attributes env visit path w =
    if has_bit env.flags 1 then Done w
    else returned t attributes env visit path w

-- further arguments
abbrev pub more_arguments : List TypeIndex → Piece
more_arguments [] env visit path w = Done w
more_arguments (t ∷ ts) env visit path w = do
  w ← say (comma env.flags) w
  w ← visit Whole path t.0 w
  more_arguments ts env visit path w

-- a list of arguments
abbrev pub arguments : List TypeIndex → Piece
arguments [] env visit path w = Done w
arguments (t ∷ ts) env visit path w = do
  w ← visit Whole path t.0 w
  more_arguments ts env visit path w

-- an argument, and that many more of the same
abbrev pub repeated : TypeIndex → ℕ → Piece
repeated t repeats = arguments (t ∷ replicate repeats t)

-- an extra first argument before a list of arguments
abbrev pub with_extra : Option TypeIndex → List TypeIndex → List TypeIndex
with_extra None ts = ts
with_extra (Some t) ts = t ∷ ts

-- an extra first argument, if there is one, and a list of arguments
abbrev pub extra_and_arguments : Option TypeIndex → List TypeIndex → Piece
extra_and_arguments extra ts = arguments (with_extra extra ts)

-- the arguments of a method in brackets, and `const` where it is said of a constant object
abbrev pub in_brackets : Bool → List TypeIndex → This → Piece
in_brackets says_constant ts this env visit path w = do
  w ← say (codes "(") w
  w ← extra_and_arguments this.1 ts env visit path w
  w ← say (codes ")") w
  if this.0 && says_constant then say (codes " const") w else Done w

-- the argument list of a method
abbrev pub method_list : MemberFunctionType → Bool → Piece
method_list t says_constant = indexed (arguments_of t says_constant) t.argument_list

-- the arguments of a method, which flag 32 (NO_ARGUMENTS) leaves out
abbrev pub method_arguments : MemberFunctionType → Bool → Piece
method_arguments t says_constant env visit path w =
    if has_bit env.flags 32 then Done w
    else method_list t says_constant env visit path w

-- ---- a record on its own

-- a record that is no array
abbrev pub plain_text : TypeForm → Piece
plain_text (Plain (forms.Primitive t)) env visit path w = say (primitive_text env.flags false t) w
plain_text (Plain (forms.Class t)) env visit path w = named env.flags (class_word t.kind) t.name w
plain_text (Plain (forms.Union t)) env visit path w = named env.flags (codes "union ") t.name w
plain_text (Plain (forms.Enumeration t)) env visit path w = named env.flags (codes "enum ") t.name w
plain_text (Plain (forms.Enumerate t)) env visit path w =
    named env.flags (codes "enum class ") t.name w
plain_text (Plain (forms.MemberFunction t)) env visit path w = do
  w ← returned_unless (Some t.return_type) t.attributes env visit path w
  w ← say (codes "()") w
  method_arguments t false env visit path w
plain_text (Plain (forms.Procedure t)) env visit path w = do
  w ← returned_unless t.return_type t.attributes env visit path w
  w ← say (codes "()(") w
  visit Whole path t.argument_list.0 w
plain_text (Plain (forms.ArgumentList ts)) env visit path w = arguments ts env visit path w
plain_text (Plain (forms.Modifier m)) env visit path w =
    visit (Modified m.constant) path m.underlying_type.0 w
plain_text (Plain (forms.Pointer p)) env visit path w =
    visit (PointedTo [] (level_of false p)) path p.underlying_type.0 w
plain_text form env visit path w = unhandled form w

-- a record that is no array, which a missing type ends
abbrev pub plain_caught : TypeForm → Piece
plain_caught form env visit path w = caught (plain_text form env visit path w)

-- arrays: the innermost element, and then the brackets
abbrev pub array_text : Elements → Piece
array_text elements env visit path w = do
  w ← plain_caught elements.form env visit path w
  say (brackets elements.dimensions (env.size elements.index)) w

-- a record
abbrev pub record_text : TypeForm → Piece
record_text (Plain (forms.Array a)) env visit path w =
    read_or (λ e. Stopped e w) (elements_of env a)
    (λ elements. array_text elements env visit path w)
record_text form env visit path w = plain_text form env visit path w

-- a record, which a missing type ends
abbrev pub record_caught : TypeForm → Piece
record_caught form env visit path w = caught (record_text form env visit path w)

-- ---- a record to which pointers point

-- the type to which pointers lead, with the pointers: the outermost is the first of them
abbrev pub pointed_text : List PointerLevel → TypeForm → Piece
pointed_text pointers (Plain (forms.MemberFunction t)) env visit path w = do
  w ← returned (Some t.return_type) t.attributes env visit path w
  w ← say (codes "(") w
  w ← visit Whole path t.class_type.0 w
  w ← say (pointers_text env.flags false false (reverse pointers)) w
  w ← say (codes ")") w
  method_arguments t false env visit path w
pointed_text pointers (Plain (forms.Procedure t)) env visit path w = do
  w ← returned t.return_type t.attributes env visit path w
  w ← say (codes "(") w
  w ← say (pointers_text env.flags false false (reverse pointers)) w
  w ← say (codes ")(") w
  w ← visit Whole path t.argument_list.0 w
  say (codes ")") w
pointed_text pointers form env visit path w = do
  w ← record_caught form env visit path w
  say (pointers_text env.flags true (ends_in_sigil w) (reverse pointers)) w

-- ---- a record by the task for which it was read

-- another record than a pointer or a type without a record, under a Modifier
abbrev pub modified_text : Bool → TypeForm → Piece
modified_text constant form env visit path w = do
  w ← (if constant then say (codes "const ") w else Done w)
  record_caught form env visit path w

-- the text of a record whose index is on the path, by the task for which it was read
abbrev pub visited : Task → TypeForm → Piece
visited Whole form env visit path w = record_caught form env visit path w
visited (PointedTo before p) (Plain (forms.Pointer t)) env visit path w =
    visit (PointedTo (before ++ p ∷ []) (level_of false t)) path t.underlying_type.0 w
visited (PointedTo before p) (Plain (forms.Modifier m)) env visit path w =
    visit (PointedModified before (leading_to m.constant p)) path m.underlying_type.0 w
visited (PointedTo before p) form env visit path w =
    pointed_text (before ++ p ∷ []) form env visit path w
visited (PointedModified before p) (Plain (forms.Pointer t)) env visit path w =
    visit (PointedTo (before ++ p ∷ []) (level_of false t)) path t.underlying_type.0 w
visited (PointedModified before p) form env visit path w =
    pointed_text (before ++ p ∷ []) form env visit path w
visited (Modified constant) (Plain (forms.Pointer t)) env visit path w =
    visit (PointedTo [] (level_of constant t)) path t.underlying_type.0 w
visited (Modified constant) (Plain (forms.Primitive t)) env visit path w =
    say (primitive_text env.flags constant t) w
visited (Modified constant) form env visit path w = modified_text constant form env visit path w
visited (MethodArguments class this says_constant) (Plain (forms.ArgumentList ts)) env visit path
    w =
    read_or (λ e. Stopped e w) (this_of env class this)
    (λ this. in_brackets says_constant ts this env visit path w)
visited (MethodArguments class this says_constant) form env visit path w =
    Stopped (ByFault ArgumentTypeNotArgumentList) w

-- ---- an index

-- An index and its record: a type on its own is read before it goes on the path, and has a text
-- where it can't be read; every other index goes on the path before it is read.
abbrev pub entering : Env → Bool → Task → ℕ → Text → (TypeForm → Printed) → Printed
entering env free Whole i w more = read_or (λ e. unread e w) (env.read i)
    (λ form. if free then more form else Stopped (ByFault (CircularTypeDefinition i)) w)
entering env free task i w more =
    if free then read_or (λ e. Stopped e w) (env.read i) more
    else Stopped (ByFault (CircularTypeDefinition i)) w

-- an index with room for that many more on the path
unfoldable pub visit : Env → ℕ → Visit
visit env zero task path i w = entering env false task i w
    (λ form. Stopped (ByFault (CircularTypeDefinition i)) w)
visit env (suc left) task path i w = entering env (not (is_on path i)) task i w
    (λ form. visited task form env (visit env left) (path ++ i ∷ []) w)

-- an index, with the room that its path leaves up to 1,024 indices
abbrev pub visiting : Env → Path → Visit
visiting env path = visit env (room path)

-- an index that is on the path already
abbrev pub inside_text : Task → ℕ → Piece
inside_text task i env visit path w = read_or (λ e. Stopped e w) (env.read i)
    (λ form. visited task form env visit path w)

-- a type that was read, whose index goes on the path
abbrev pub entered : TypeIndex → TypeForm → Piece
entered index form env visit path w =
    if may_enter path index.0
    then record_caught form env (visiting env (path ++ index.0 ∷ [])) (path ++ index.0 ∷ []) w
    else Stopped (ByFault (CircularTypeDefinition index.0)) w

-- ---- records and indices as calls have them

-- an array
abbrev pub array_type : ArrayType → Piece
array_type t = record_text (Plain (forms.Array (array_form t)))

-- a method
abbrev pub method_type : MemberFunctionType → Piece
method_type t = plain_text (Plain (forms.MemberFunction t))

-- a function, without the bracket that would close it
abbrev pub procedure_type : ProcedureType → Piece
procedure_type t = plain_text (Plain (forms.Procedure t))

-- a pointer, which is constant also where the Modifier around it says so
abbrev pub pointer_type : Bool → PointerType → Piece
pointer_type constant t = indexed (PointedTo [] (level_of constant t)) t.underlying_type

-- the type to which the last of some pointers leads, with all of them
abbrev pub pointee : Vec PointerLevel → PointerLevel → TypeIndex → Piece
pointee before last = indexed (PointedTo before.items last)

-- the same, where the index is on the path already
abbrev pub pointee_inside : Vec PointerLevel → PointerLevel → TypeIndex → Piece
pointee_inside before last index = inside_text (PointedTo before.items last) index.0

-- the type to which the last of some pointers leads through a Modifier, with all of them
abbrev pub modified_pointee : Vec PointerLevel → PointerLevel → TypeIndex → Piece
modified_pointee before last = indexed (PointedModified before.items last)

-- the same, where the index is on the path already
abbrev pub modified_pointee_inside : Vec PointerLevel → PointerLevel → TypeIndex → Piece
modified_pointee_inside before last index = inside_text (PointedModified before.items last) index.0

-- the type to which pointers lead, with the pointers
abbrev pub pointed_type : List PointerLevel → TypeData → Piece
pointed_type pointers t = pointed_text pointers (shape t)

-- a method that pointers lead to, with the pointers
abbrev pub pointed_method : List PointerLevel → MemberFunctionType → Piece
pointed_method pointers t = pointed_text pointers (Plain (forms.MemberFunction t))

-- a function that pointers lead to, with the pointers
abbrev pub pointed_procedure : List PointerLevel → ProcedureType → Piece
pointed_procedure pointers t = pointed_text pointers (Plain (forms.Procedure t))

-- the type under a Modifier
abbrev pub modified : Bool → TypeIndex → Piece
modified constant = indexed (Modified constant)

-- the same, where the index is on the path already
abbrev pub modified_inside : Bool → TypeIndex → Piece
modified_inside constant index = inside_text (Modified constant) index.0

-- the type under a Modifier: neither a pointer nor a type without a record
abbrev pub modified_type : Bool → TypeData → Piece
modified_type constant t = modified_text constant (shape t)

-- the argument list of a method, where its index is on the path already
abbrev pub method_list_inside : MemberFunctionType → Bool → Piece
method_list_inside t says_constant =
    inside_text (arguments_of t says_constant) t.argument_list.0
