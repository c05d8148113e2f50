-- The text of a type depends on the text before it by that text's end alone.
use Rattle.std.proofs.Common.{◌≡◌, ℕ, zero, suc, Bool, true, false, cond, List, [], ◌∷◌, ◌++◌}
use Rattle.std.proofs.Common.{reverse, Result, Ok, Err, refl, sym, ap}
use Rattle.std.specs.Prelude.{codes, Option, Some, None, ◌&&◌, not}
use Rattle.pdb_container.specs.Bits.{has_bit}
use Rattle.pdb_container.specs.declared.index.TypeIndex.{TypeIndex}
use Rattle.pdb_records.specs.declared.type_attributes.FunctionAttributes.{FunctionAttributes}
use Rattle.pdb_records.specs.declared.type_data.MemberFunctionType.{MemberFunctionType}
use Rattle.pdb_records.specs.Attributes.{constructs}
use Rattle.pdb_records.specs.Forms as forms
use Rattle.pdb_records.specs.Forms.{TypeForm, Plain, FieldList}
use Rattle.pdb_resolving.specs.Cause.{ByFault}
use Rattle.pdb_resolving.specs.Fault.{ArgumentTypeNotArgumentList, CircularTypeDefinition}
use Rattle.pdb_type_printing.specs.declared.pointers.PointerLevel.{PointerLevel}
use Rattle.pdb_type_printing.specs.Arguments.{comma}
use Rattle.pdb_type_printing.specs.FormNames.{unhandled, form_name}
use Rattle.pdb_type_printing.specs.Names.{named}
use Rattle.std.specs.Str.Lossy.{utf8_lossy}
use Rattle.pdb_type_printing.specs.Objects.{This}
use Rattle.pdb_type_printing.specs.Paths.{Path, is_on}
use Rattle.pdb_type_printing.specs.Pointers.{pointers_text, ends_in_sigil, level_of, leading_to}
use Rattle.pdb_type_printing.specs.Printed.{Text, Printed, Done, Stopped, ◌>>=◌, say, unread, caught}
use Rattle.pdb_type_printing.specs.Printed.{read_or}
use Rattle.pdb_type_printing.specs.Arrays.{Elements, elements_of}
use Rattle.pdb_type_printing.specs.Env.{Env}
use Rattle.pdb_type_printing.specs.This.{this_of}
use Rattle.pdb_type_printing.specs.Types.{Task, Whole, PointedTo, PointedModified, Modified}
use Rattle.pdb_type_printing.specs.Types.{MethodArguments, Visit, returned, returned_unless}
use Rattle.pdb_type_printing.specs.Types.{more_arguments, arguments, with_extra, in_brackets}
use Rattle.pdb_type_printing.specs.Types.{method_arguments, plain_text, array_text, record_text}
use Rattle.pdb_type_printing.specs.Types.{pointed_text, modified_text, visited, entering, visit}
use Rattle.pdb_type_printing.proofs.Uniform.{IsUniform, done_is, say_is, stopped_is, unread_is, caught_is, then_is}
use Rattle.pdb_type_printing.proofs.Uniform.{cond_is, read_or_is, pointers_is}

-- each index is printed so, for each task
abbrev pub AllUniform : Visit → Type 0
AllUniform visit = (task : Task) (path : Path) (i : ℕ) → IsUniform (visit task path i)

returned_is : (env : Env) (visit : Visit) (path : Path) (t : Option TypeIndex)
    (attributes : FunctionAttributes) → AllUniform visit
    → IsUniform (returned t attributes env visit path)
returned_is env visit path None attributes all = done_is
returned_is env visit path (Some t) attributes all =
    cond_is (constructs attributes) done_is (then_is (all Whole path t.0) (say_is (codes " ")))

returned_unless_is : (env : Env) (visit : Visit) (path : Path) (t : Option TypeIndex)
    (attributes : FunctionAttributes) → AllUniform visit
    → IsUniform (returned_unless t attributes env visit path)
returned_unless_is env visit path t attributes all =
    cond_is (has_bit env.flags 1) done_is (returned_is env visit path t attributes all)

more_arguments_is : (env : Env) (visit : Visit) (path : Path) (ts : List TypeIndex)
    → AllUniform visit → IsUniform (more_arguments ts env visit path)
more_arguments_is env visit path [] all = done_is
more_arguments_is env visit path (t ∷ ts) all = then_is (say_is (comma env.flags))
    (then_is (all Whole path t.0) (more_arguments_is env visit path ts all))

arguments_is : (env : Env) (visit : Visit) (path : Path) (ts : List TypeIndex)
    → AllUniform visit → IsUniform (arguments ts env visit path)
arguments_is env visit path [] all = done_is
arguments_is env visit path (t ∷ ts) all =
    then_is (all Whole path t.0) (more_arguments_is env visit path ts all)

in_brackets_is : (env : Env) (visit : Visit) (path : Path) (says : Bool) (ts : List TypeIndex)
    (this : This) → AllUniform visit → IsUniform (in_brackets says ts this env visit path)
in_brackets_is env visit path says ts this all = then_is (say_is (codes "("))
    (then_is (arguments_is env visit path (with_extra this.1 ts) all)
    (then_is (say_is (codes ")")) (cond_is (this.0 && says) (say_is (codes " const")) done_is)))

method_arguments_is : (env : Env) (visit : Visit) (path : Path) (t : MemberFunctionType)
    (says : Bool) → AllUniform visit → IsUniform (method_arguments t says env visit path)
method_arguments_is env visit path t says all = cond_is (has_bit env.flags 32) done_is
    (all (MethodArguments t.class_type t.this_pointer_type says) path t.argument_list.0)

named_is : (flags : ℕ) (word : Text) (name : List ℕ) → IsUniform (named flags word name)
named_is flags word name =
    then_is (cond_is (has_bit flags 16) done_is (say_is word)) (say_is (utf8_lossy name))

unhandled_is : (form : TypeForm) → IsUniform (unhandled form)
unhandled_is form = then_is (say_is (codes "unhandled type /* "))
    (then_is (say_is (form_name form)) (say_is (codes " */")))

plain_is : (env : Env) (visit : Visit) (path : Path) (form : TypeForm) → AllUniform visit
    → IsUniform (plain_text form env visit path)
plain_is env visit path (Plain (forms.Primitive t)) all = say_is _
plain_is env visit path (Plain (forms.Class t)) all = named_is _ _ _
plain_is env visit path (Plain (forms.Union t)) all = named_is _ _ _
plain_is env visit path (Plain (forms.Enumeration t)) all = named_is _ _ _
plain_is env visit path (Plain (forms.Enumerate t)) all = named_is _ _ _
plain_is env visit path (Plain (forms.MemberFunction t)) all =
    then_is (returned_unless_is env visit path (Some t.return_type) t.attributes all)
    (then_is (say_is (codes "()")) (method_arguments_is env visit path t false all))
plain_is env visit path (Plain (forms.Procedure t)) all =
    then_is (returned_unless_is env visit path t.return_type t.attributes all)
    (then_is (say_is (codes "()(")) (all Whole path t.argument_list.0))
plain_is env visit path (Plain (forms.ArgumentList ts)) all = arguments_is env visit path ts all
plain_is env visit path (Plain (forms.Modifier m)) all =
    all (Modified m.constant) path m.underlying_type.0
plain_is env visit path (Plain (forms.Pointer p)) all =
    all (PointedTo [] (level_of false p)) path p.underlying_type.0
plain_is env visit path form all = unhandled_is form

array_is : (env : Env) (visit : Visit) (path : Path) (elements : Elements) → AllUniform visit
    → IsUniform (array_text elements env visit path)
array_is env visit path elements all =
    then_is (caught_is (plain_is env visit path elements.form all)) (say_is _)

record_is : (env : Env) (visit : Visit) (path : Path) (form : TypeForm) → AllUniform visit
    → IsUniform (record_text form env visit path)
record_is env visit path (Plain (forms.Array a)) all = read_or_is (elements_of env a) stopped_is
    (λ elements. array_is env visit path elements all)
record_is env visit path form all = plain_is env visit path form all

pointed_is : (env : Env) (visit : Visit) (path : Path) (ps : List PointerLevel) (form : TypeForm)
    → AllUniform visit → IsUniform (pointed_text ps form env visit path)
pointed_is env visit path ps (Plain (forms.MemberFunction t)) all =
    then_is (returned_is env visit path (Some t.return_type) t.attributes all)
    (then_is (say_is (codes "(")) (then_is (all Whole path t.class_type.0)
    (then_is (say_is (pointers_text env.flags false false (reverse ps)))
    (then_is (say_is (codes ")")) (method_arguments_is env visit path t false all)))))
pointed_is env visit path ps (Plain (forms.Procedure t)) all =
    then_is (returned_is env visit path t.return_type t.attributes all)
    (then_is (say_is (codes "("))
    (then_is (say_is (pointers_text env.flags false false (reverse ps)))
    (then_is (say_is (codes ")(")) (then_is (all Whole path t.argument_list.0)
    (say_is (codes ")"))))))
pointed_is env visit path ps form all =
    then_is (caught_is (record_is env visit path form all)) (pointers_is env.flags (reverse ps))

modified_is : (env : Env) (visit : Visit) (path : Path) (constant : Bool) (form : TypeForm)
    → AllUniform visit → IsUniform (modified_text constant form env visit path)
modified_is env visit path constant form all =
    then_is (cond_is constant (say_is (codes "const ")) done_is)
    (caught_is (record_is env visit path form all))

visited_is : (env : Env) (visit : Visit) (task : Task) (path : Path) (form : TypeForm)
    → AllUniform visit → IsUniform (visited task form env visit path)
visited_is env visit Whole path form all = caught_is (record_is env visit path form all)
visited_is env visit (PointedTo before p) path (Plain (forms.Pointer t)) all =
    all (PointedTo (before ++ p ∷ []) (level_of false t)) path t.underlying_type.0
visited_is env visit (PointedTo before p) path (Plain (forms.Modifier m)) all =
    all (PointedModified before (leading_to m.constant p)) path m.underlying_type.0
visited_is env visit (PointedTo before p) path form all =
    pointed_is env visit path (before ++ p ∷ []) form all
visited_is env visit (PointedModified before p) path (Plain (forms.Pointer t)) all =
    all (PointedTo (before ++ p ∷ []) (level_of false t)) path t.underlying_type.0
visited_is env visit (PointedModified before p) path form all =
    pointed_is env visit path (before ++ p ∷ []) form all
visited_is env visit (Modified constant) path (Plain (forms.Pointer t)) all =
    all (PointedTo [] (level_of constant t)) path t.underlying_type.0
visited_is env visit (Modified constant) path (Plain (forms.Primitive t)) all = say_is _
visited_is env visit (Modified constant) path form all =
    modified_is env visit path constant form all
visited_is env visit (MethodArguments class this says) path (Plain (forms.ArgumentList ts)) all =
    read_or_is (this_of env class this) stopped_is
    (λ this. in_brackets_is env visit path says ts this all)
visited_is env visit (MethodArguments class this says) path form all =
    stopped_is (ByFault ArgumentTypeNotArgumentList)

entering_is : (env : Env) (free : Bool) (task : Task) (i : ℕ) (more : Text → TypeForm → Printed)
    → ((form : TypeForm) → IsUniform (λ w. more w form))
    → IsUniform (λ w. entering env free task i w (more w))
entering_is env free Whole i more all = read_or_is (env.read i) unread_is
    (λ form. cond_is free (all form) (stopped_is (ByFault (CircularTypeDefinition i))))
entering_is env free (PointedTo before p) i more all =
    cond_is free (read_or_is (env.read i) stopped_is all)
    (stopped_is (ByFault (CircularTypeDefinition i)))
entering_is env free (PointedModified before p) i more all =
    cond_is free (read_or_is (env.read i) stopped_is all)
    (stopped_is (ByFault (CircularTypeDefinition i)))
entering_is env free (Modified constant) i more all =
    cond_is free (read_or_is (env.read i) stopped_is all)
    (stopped_is (ByFault (CircularTypeDefinition i)))
entering_is env free (MethodArguments class this says) i more all =
    cond_is free (read_or_is (env.read i) stopped_is all)
    (stopped_is (ByFault (CircularTypeDefinition i)))

pub visit_is_uniform : (env : Env) (left : ℕ) → AllUniform (visit env left)
unfolding visit
visit_is_uniform env zero task path i = entering_is env false task i
    (λ w form. Stopped (ByFault (CircularTypeDefinition i)) w)
    (λ form. stopped_is (ByFault (CircularTypeDefinition i)))
visit_is_uniform env (suc left) task path i = entering_is env (not (is_on path i)) task i
    (λ w form. visited task form env (visit env left) (path ++ i ∷ []) w)
    (λ form. visited_is env (visit env left) task (path ++ i ∷ []) form
    (visit_is_uniform env left))
