-- What is printed depends on the text before it by that text's end alone.
use Rattle.std.proofs.Common.{◌≡◌, ℕ, zero, suc, ◌+◌, ◌-◌, Bool, true, false, cond, List, [], ◌∷◌, ◌++◌, length}
use Rattle.std.proofs.Common.{Result, Ok, Err, refl, sym, ap, ◌∙◌, arith, append_assoc}
use Rattle.std.proofs.lemmas.List.{append-nil, length-append}
use Rattle.std.specs.Prelude.{codes, slice_get}
use Rattle.pdb_container.specs.Fault.{TypeNotFound, UnimplementedTypeKind}
use Rattle.pdb_resolving.specs.Cause.{Cause, ByFault}
use Rattle.pdb_resolving.specs.Fault.{PdbError}
use Rattle.pdb_type_printing.specs.Printed.{Text, Printed, Done, Stopped, ◌>>=◌, say, unread, caught}
use Rattle.pdb_type_printing.specs.Printed.{read_or}
use Rattle.pdb_type_printing.specs.Pointers.{is_sigil, ends_in_sigil, pointers_text}
use Rattle.pdb_type_printing.specs.declared.pointers.PointerLevel.{PointerLevel}

-- ---- what is added to a text

-- what is printed from no text on, after a text
abbrev pub after : Text → Printed → Printed
after w (Done s) = Done (w ++ s)
after w (Stopped cause s) = Stopped cause (w ++ s)

-- the same is added to two texts
pub record IsAlike (v w : Text) (p q : Printed) : Type 0 where
  pub added : Printed
  pub first : p ≡ after v added
  pub second : q ≡ after w added

-- what is added to a text depends on whether that ends in a sign, and on nothing else of it
pub record IsUniform (print : Text → Printed) : Type 0 where
  pub alike : (v w : Text) → ends_in_sigil v ≡ ends_in_sigil w → IsAlike v w (print v) (print w)

-- ---- the end of a text

last_of : (w : Text) (b : ℕ) (s : Text) → slice_get (w ++ b ∷ s) (length (w ++ b ∷ s) - 1)
    ≡ slice_get (b ∷ s) (length (b ∷ s) - 1)
last_of [] b s = refl
last_of (x ∷ w) b s = let e : suc (length (w ++ b ∷ s)) - 1 ≡ suc (length (w ++ b ∷ s) - 1) =
    omega (arith, length-append w (b ∷ s)) in rw e (last_of w b s)

-- a text ends in what was added last
pub end_of : (w : Text) (b : ℕ) (s : Text) → ends_in_sigil (w ++ b ∷ s) ≡ ends_in_sigil (b ∷ s)
end_of w b s = ap is_sigil (last_of w b s)

pub end_after : (v w s : Text) → ends_in_sigil v ≡ ends_in_sigil w
    → ends_in_sigil (v ++ s) ≡ ends_in_sigil (w ++ s)
end_after v w [] same = rw (append-nil v, append-nil w) same
end_after v w (b ∷ s) same = end_of v b s ∙ sym (end_of w b s)

-- ---- the ways to print

caught_after : (w : Text) (p : Printed) → caught (after w p) ≡ after w (caught p)
caught_after w (Done s) = refl
caught_after w (Stopped (ByFault (PdbError (TypeNotFound i))) s) = ap Done (append_assoc w s _)
caught_after w (Stopped cause s) = refl

after_after : (w s : Text) (p : Printed) → after (w ++ s) p ≡ after w (after s p)
after_after w s (Done t) = ap Done (append_assoc w s t)
after_after w s (Stopped cause t) = ap (Stopped cause) (append_assoc w s t)

pub done_is : IsUniform Done
done_is = record { alike = λ v w same. record { added = Done []; first = rw append-nil; second = rw append-nil } }

pub say_is : (s : Text) → IsUniform (say s)
say_is s = record { alike = λ v w same. record { added = Done s; first = refl; second = refl } }

pub stopped_is : (cause : Cause) → IsUniform (Stopped cause)
stopped_is cause = record { alike = λ v w same. record { added = Stopped cause []; first = rw append-nil; second = rw append-nil } }

pub unread_is : (cause : Cause) → IsUniform (unread cause)
unread_is (ByFault (PdbError (TypeNotFound i))) = say_is _
unread_is (ByFault (PdbError (UnimplementedTypeKind i))) = say_is _
unread_is cause = stopped_is cause

pub caught_is : {f : Text → Printed} → IsUniform f → IsUniform (λ w. caught (f w))
caught_is {f} u = record {
  alike = λ v w same. let a = u.alike v w same in
      record {
        added = caught a.added;
        first = ap caught a.first ∙ caught_after v a.added;
        second = ap caught a.second ∙ caught_after w a.added;
      };
}

on_from : (v w : Text) (same : ends_in_sigil v ≡ ends_in_sigil w) (added p q : Printed)
    (k : Text → Printed) → IsUniform k → p ≡ after v added → q ≡ after w added
    → IsAlike v w (p >>= k) (q >>= k)
on_from v w same (Done s) p q k u first second =
    let a = u.alike (v ++ s) (w ++ s) (end_after v w s same) in
    record {
      added = after s a.added;
      first = ap (λ (x : Printed). x >>= k) first ∙ a.first ∙ after_after v s a.added;
      second = ap (λ (x : Printed). x >>= k) second ∙ a.second ∙ after_after w s a.added;
    }
on_from v w same (Stopped cause s) p q k u first second = record { added = Stopped cause s; first = ap (λ (x : Printed). x >>= k) first; second = ap (λ (x : Printed). x >>= k) second }

pub then_is : {f k : Text → Printed} → IsUniform f → IsUniform k → IsUniform (λ w. f w >>= k)
then_is {f} {k} u u' = record {
  alike = λ v w same. let a = u.alike v w same in
      on_from v w same a.added (f v) (f w) k u' a.first a.second;
}

pub cond_is : (b : Bool) {f g : Text → Printed} → IsUniform f → IsUniform g → IsUniform (λ w. cond b (f w) (g w))
cond_is true u u' = u
cond_is false u u' = u'

pub read_or_is : {A : Type 0} (r : Result A Cause) {fail : Cause → Text → Printed} {more : A → Text → Printed}
    → ((e : Cause) → IsUniform (fail e)) → ((x : A) → IsUniform (more x))
    → IsUniform (λ w. read_or (λ e. fail e w) r (λ x. more x w))
read_or_is (Ok x) u u' = u' x
read_or_is (Err e) u u' = u e

-- the signs of pointers after a text
pub pointers_is : (flags : ℕ) (ps : List PointerLevel)
    → IsUniform (λ w. say (pointers_text flags true (ends_in_sigil w) ps) w)
pointers_is flags ps = record {
  alike = λ v w same.
      record {
        added = Done (pointers_text flags true (ends_in_sigil w) ps);
        first = ap (λ (b : Bool). Done (v ++ pointers_text flags true b ps)) same;
        second = refl;
      };
}
