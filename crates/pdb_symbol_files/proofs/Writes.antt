-- What several writes put out.
use Rattle.std.proofs.Common.{◌≡◌, ℕ, ◌-◌, List, ◌++◌, sym, ap, ◌∙◌, append_assoc, length}
use Rattle.std.proofs.Common.{take, drop, take-append-drop, length-drop, take_all, arith}
use Rattle.std.specs.Prelude.{Option, Result, Ok, Err, OnErr}
use Rattle.std.specs.Io.KnownBytes.{Appends}
use Rattle.std.proofs.KnownBytes.{Appends-trans}
use Rattle.pdb_symbol_files.specs.Output.{AppendsFront}

-- what is out, where the rest of the text isn't yet
pub record IsOut (old new : Option (List ℕ)) (text rest : List ℕ) : Type 0 where
  pub front : List ℕ
  pub whole : text ≡ front ++ rest
  pub appends : Appends old new front

-- one more write puts out n bytes of the rest
pub more_out : (a b c : Option (List ℕ)) (text rest : List ℕ) (n : ℕ) → IsOut a b text rest
    → Appends b c (take n rest) → IsOut a c text (take (length rest - n) (drop n rest))
more_out a b c text rest n o q =
    let same : take (length rest - n) (drop n rest) ≡ drop n rest
    = take_all (length rest - n) (drop n rest) (omega (arith, length-drop n rest)) in
    record {
      front = o.front ++ take n rest;
      whole = o.whole ∙ ap (λ (l : List ℕ). o.front ++ l) (sym (take-append-drop n rest))
          ∙ sym (append_assoc o.front (take n rest) (drop n rest))
          ∙ ap (λ (l : List ℕ). (o.front ++ take n rest) ++ l) (sym same);
      appends = Appends-trans a b c o.front (take n rest) o.appends q;
    }

-- a part of the second of two texts
pub second_part : (a b c : Option (List ℕ)) (first second : List ℕ) → Appends a b first
    → AppendsFront b c second → AppendsFront a c (first ++ second)
second_part a b c first second p q = record {
  front = first ++ q.front;
  rest = q.rest;
  appends = Appends-trans a b c first q.front p q.appends;
  whole = ap (λ (l : List ℕ). first ++ l) q.whole ∙ sym (append_assoc first q.front q.rest);
}

-- a part of the first of two texts
pub first_part : (a b : Option (List ℕ)) (first second : List ℕ) → AppendsFront a b first
    → AppendsFront a b (first ++ second)
first_part a b first second p = record {
  front = p.front;
  rest = p.rest ++ second;
  appends = p.appends;
  whole = ap (λ (l : List ℕ). l ++ second) p.whole ∙ append_assoc p.front p.rest second;
}

-- what holds after an error
pub on_err : {T E P : Type 0} (r : Result T E) → P → OnErr r P
on_err (Ok x) p = tt
on_err (Err e) p = p
