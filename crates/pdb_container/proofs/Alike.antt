-- Files that read alike have the same streams.
use Rattle.std.proofs.Common.{◌≡◌, ℕ, List, take, Result, Ok, Err, None, refl, sym, ap, ◌∙◌}
use Rattle.std.specs.Prelude.{IsOk}
use Rattle.std.specs.Result.{result_err}
use Rattle.std.proofs.lemmas.List.{ext_get_or}
use Rattle.pdb_container.specs.Fault.{Fault}
use Rattle.pdb_container.specs.Alike.{OpenAlike, both_refused, both_open, ReadAlike, both_fail, both_read, AreAlike, HaveSameStream, HaveSameStreams}
use Rattle.pdb_container.specs.Container.{layout_of, stream}
use Rattle.pdb_container.proofs.Literal.{from_stream}
use Rattle.pdb_container.proofs.Limits.{limit_cuts}

both_there : (a b : List ℕ) (n : ℕ) (x y : List ℕ) → x ≡ y → stream a n None ≡ Ok x → stream b n None ≡ Ok y → HaveSameStream a b n
both_there a b n x y same p q =
    record {
      whole = p ∙ ap (λ (xs : List ℕ). Ok xs) same ∙ sym q;
      limited = λ there k. limit_cuts a n k x p ∙ ap (λ (xs : List ℕ). Ok (take k xs)) same ∙ sym (limit_cuts b n k y q);
    }

not_both : {A : Type 0} (r : Result A Fault) (e : Fault) → r ≡ Err e → IsOk r → ⊥
not_both (Ok x) e h there = absurd cc
not_both (Err f) e h there = absurd cc

-- two files that read alike at a number have the same stream there
pub same_stream : (a b : List ℕ) (n : ℕ) → ReadAlike a b n → HaveSameStream a b n
same_stream a b n (both_fail e p q) = record { whole = p ∙ sym q; limited = λ there k. absurd (not_both (stream a n None) e p there) }
same_stream a b n (both_read x y s t len same) =
    both_there a b n x y (ext_get_or 0 x y len same) (from_stream a n None x s) (from_stream b n None y t)

no_fault : {A : Type 0} (r : Result A Fault) → IsOk r → result_err r ≡ None
no_fault (Ok x) h = refl
no_fault (Err e) h = absurd cc

one_fault : (a b : List ℕ) → OpenAlike a b → result_err (layout_of a) ≡ result_err (layout_of b)
one_fault a b (both_refused f p q) = rw (p, q) refl
one_fault a b (both_open p q) = no_fault (layout_of a) p ∙ sym (no_fault (layout_of b) q)

-- two files that open and read alike have the same streams
pub same_streams : (a b : List ℕ) → AreAlike a b → HaveSameStreams a b
same_streams a b h = record { refused = one_fault a b h.opens; streams = λ n. same_stream a b n (h.reads n) }
