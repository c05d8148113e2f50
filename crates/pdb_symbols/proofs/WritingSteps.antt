-- What is out of a text, and what is yet to come.
use Rattle.std.proofs.Common.{◌≡◌, ℕ, List, ◌++◌, sym, ap, ◌∙◌, append_assoc, subst}
use Rattle.std.specs.Prelude.{Option, Some, Result, Ok, Err, OnErr, OnOk}
use Rattle.std.specs.Io.KnownBytes.{Appends}
use Rattle.std.specs.Option.{option_to_list}
use Rattle.std.proofs.KnownBytes.{Appends-nil, Appends-trans}
use Rattle.pdb_image.specs.Image.{Image}
use Rattle.pdb_image.specs.declared.error.ImageError.{ImageError}
use Rattle.pdb_symbol_files.proofs.Writes.{first_part, second_part}
use Rattle.pdb_symbol_files.specs.Output.{AppendsFront}
use Rattle.pdb_symbols.specs.UnwindingText.{text_if_read, unwinding_text, unwound_text}
use Rattle.pdb_image.specs.Entries.{UnwoundFunction, functions_in}
use Rattle.pdb_image.specs.Records.{records_of}
use Rattle.pdb_image.specs.Texts.{records_text}

-- so much is out of a text, some is kept, and the rest isn't made yet
pub record IsOnTheWay (old new : Option (List ℕ)) (whole kept rest : List ℕ) : Type 0 where
  pub front : List ℕ
  pub appends : Appends old new front
  pub all : whole ≡ front ++ (kept ++ rest)

-- the records of one more function are made
pub function_made : (old new : Option (List ℕ)) (whole kept made : List ℕ)
    (before after : List UnwoundFunction) (next : Option UnwoundFunction) (f : UnwoundFunction)
    → IsOnTheWay old new whole kept (unwound_text before)
    → before ≡ option_to_list next ++ after → next ≡ Some f
    → made ≡ kept ++ records_text (records_of f)
    → IsOnTheWay old new whole made (unwound_text after)
function_made old new whole kept made before after next f o first some is = record {
  front = o.front;
  appends = o.appends;
  all = o.all
      ∙ ap (λ (fs : List UnwoundFunction). o.front ++ (kept ++ unwound_text fs))
      (first ∙ ap (λ (g : Option UnwoundFunction). option_to_list g ++ after) some)
      ∙ ap (λ (xs : List ℕ). o.front ++ xs)
      (sym (append_assoc kept (records_text (records_of f)) (unwound_text after)))
      ∙ ap (λ (xs : List ℕ). o.front ++ (xs ++ unwound_text after)) (sym is);
}

-- some of what is kept was written
pub part_written : (old mid new : Option (List ℕ)) (whole kept written left rest : List ℕ)
    → IsOnTheWay old mid whole kept rest → Appends mid new written → kept ≡ written ++ left
    → IsOnTheWay old new whole left rest
part_written old mid new whole kept written left rest o out is = record {
  front = o.front ++ written;
  appends = Appends-trans old mid new o.front written o.appends out;
  all = o.all ∙ ap (λ (xs : List ℕ). o.front ++ (xs ++ rest)) is
      ∙ ap (λ (xs : List ℕ). o.front ++ xs) (append_assoc written left rest)
      ∙ sym (append_assoc o.front written (left ++ rest));
}

-- a prefix of it is out
pub front_out : (old mid new : Option (List ℕ)) (whole kept rest : List ℕ)
    → IsOnTheWay old mid whole kept rest → AppendsFront mid new kept → AppendsFront old new whole
front_out old mid new whole kept rest o part = record {
  front = o.front ++ part.front;
  rest = part.rest ++ rest;
  appends = Appends-trans old mid new o.front part.front o.appends part.appends;
  whole = o.all ∙ ap (λ (xs : List ℕ). o.front ++ (xs ++ rest)) part.whole
      ∙ ap (λ (xs : List ℕ). o.front ++ xs) (append_assoc part.front part.rest rest)
      ∙ sym (append_assoc o.front part.front (part.rest ++ rest));
}

-- nothing of it is out yet
pub not_out : (old new : Option (List ℕ)) (whole kept rest : List ℕ)
    → IsOnTheWay old new whole kept rest → AppendsFront old new whole
not_out old new whole kept rest o = record {
  front = o.front;
  rest = kept ++ rest;
  appends = o.appends;
  whole = o.all;
}

-- the same where writing what is kept failed
pub front_on_err : {T E : Type 0} (r : Result T E) (old mid new : Option (List ℕ))
    (whole kept rest : List ℕ) → IsOnTheWay old mid whole kept rest
    → OnErr r (AppendsFront mid new kept) → OnErr r (AppendsFront old new whole)
front_on_err (Ok x) old mid new whole kept rest o part = tt
front_on_err (Err e) old mid new whole kept rest o part =
    front_out old mid new whole kept rest o part

-- the records of an image are those of its functions, if they could be read
read_text : (image : Image) (r s : Result (List UnwoundFunction) ImageError)
    → r ≡ functions_in image → r ≡ s → text_if_read s ≡ unwinding_text image
unfolding unwinding_text
read_text image r s is same = ap text_if_read (sym same ∙ is)

pub read_out : {T E : Type 0} (out : Result T E) (old new : Option (List ℕ)) (image : Image)
    (r : Result (List UnwoundFunction) ImageError) (fs : List UnwoundFunction)
    → r ≡ functions_in image → r ≡ Ok fs → OnOk out (Appends old new (unwound_text fs))
    → OnOk out (Appends old new (unwinding_text image))
read_out out old new image r fs is same h =
    subst (λ (text : List ℕ). OnOk out (Appends old new text))
    (read_text image r (Ok fs) is same) h

pub read_front : {T E : Type 0} (out : Result T E) (old new : Option (List ℕ)) (image : Image)
    (r : Result (List UnwoundFunction) ImageError) (fs : List UnwoundFunction)
    → r ≡ functions_in image → r ≡ Ok fs → OnErr out (AppendsFront old new (unwound_text fs))
    → OnErr out (AppendsFront old new (unwinding_text image))
read_front out old new image r fs is same h =
    subst (λ (text : List ℕ). OnErr out (AppendsFront old new text))
    (read_text image r (Ok fs) is same) h

pub unread_out : (old : Option (List ℕ)) (image : Image)
    (r : Result (List UnwoundFunction) ImageError) (e : ImageError)
    → r ≡ functions_in image → r ≡ Err e → Appends old old (unwinding_text image)
unread_out old image r e is same =
    subst (λ (text : List ℕ). Appends old old text) (read_text image r (Err e) is same)
    (Appends-nil old)

-- ---- a text, and another one after it

pub both_out : {T E : Type 0} (r : Result T E) (a b c : Option (List ℕ)) (first second : List ℕ)
    → Appends a b first → OnOk r (Appends b c second) → OnOk r (Appends a c (first ++ second))
both_out (Ok x) a b c first second p q = Appends-trans a b c first second p q
both_out (Err e) a b c first second p q = tt

pub second_front : {T E : Type 0} (r : Result T E) (a b c : Option (List ℕ))
    (first second : List ℕ) → Appends a b first → OnErr r (AppendsFront b c second)
    → OnErr r (AppendsFront a c (first ++ second))
second_front (Ok x) a b c first second p q = tt
second_front (Err e) a b c first second p q = second_part a b c first second p q

pub first_front : {T E : Type 0} (r : Result T E) (a b : Option (List ℕ))
    (first second : List ℕ) → AppendsFront a b first → OnErr r (AppendsFront a b (first ++ second))
first_front (Ok x) a b first second p = tt
first_front (Err e) a b first second p = first_part a b first second p
