-- Runs of addresses that go by one record.
use Rattle.std.proofs.Common.{◌≡◌, ◌≢◌, ℕ, zero, suc, ◌+◌, ◌<◌, min, inl, inr, List, [], ◌∷◌, refl}
use Rattle.std.proofs.Common.{sym, subst, arith}
use Rattle.std.specs.Prelude.{Option, None, Some, option_and_then}
use Rattle.std.proofs.lemmas.Bool.{lt-ltb, le-ltb, eq-eqb, ne_eqb, cases_lt, cases_eq}
use Rattle.pdb_addresses.specs.Ranges.{TranslatedRun, below, with_address, runs_by}
use Rattle.pdb_addresses.specs.Cursor.{cut_run, run_in_front}

-- the first run came by another record
abbrev pub HeadIsNot : ℕ → List TranslatedRun → Type 0
HeadIsNot number [] = Unit {0}
HeadIsNot number (r ∷ runs) = number ≢ r.number

alone : (number n : ℕ) (runs : List TranslatedRun) → HeadIsNot number runs
    → with_address number (Some n) runs ≡ record { number = number; start = n; end = n + 1 } ∷ runs
alone number n [] h = refl
alone number n (r ∷ runs) h = rw (ne_eqb number r.number h) refl

put : (top number s n : ℕ) (runs : List TranslatedRun) → HeadIsNot number runs
    → with_address number (below top s) (run_in_front number (cut_run top n (s + 1)) runs)
    ≡ run_in_front number (cut_run top (suc n) s) runs
put top number s n runs h = elim (cases_lt s top) [
  | inr past ↦
      rw (
        le-ltb s top past,
        le-ltb (s + 1) (min (s + 1 + n) top) (omega arith),
        le-ltb s (min (s + suc n) top) (omega arith),
      ) refl
  | inl low ↦ elim (cases_lt (s + 1) (min (s + 1 + n) top)) [
    | inl more ↦
        let same : s + 1 + n ≡ s + suc n = omega arith in
        rw (
          lt-ltb s top low,
          lt-ltb (s + 1) (min (s + 1 + n) top) more,
          lt-ltb s (min (s + suc n) top) (omega arith),
          eq-eqb number number refl,
          same,
        ) refl
    | inr last ↦
        let same : min (s + suc n) top ≡ s + 1 = omega arith in
        rw (
          lt-ltb s top low,
          le-ltb (s + 1) (min (s + 1 + n) top) last,
          lt-ltb s (min (s + suc n) top) (omega arith),
          same,
        ) (alone number s runs h)
  ]
]

-- what is sent from a start on, below a bound
abbrev pub going : ℕ → Option ℕ → ℕ → Option ℕ
going top None k = None
going top (Some s) k = below top (s + k)

headed : (by number : ℕ) (becomes : Option ℕ) (runs : List TranslatedRun) → by ≢ number
    → HeadIsNot by runs → HeadIsNot by (with_address number becomes runs)
headed by number None runs other h = h
headed by number (Some n) [] other h = other
headed by number (Some n) (r ∷ runs) other h = elim (cases_eq number r.number) [
  | inl e ↦ rw (eq-eqb number r.number e) other
  | inr e ↦ rw (ne_eqb number r.number e) other
]

module _ (number : ℕ → ℕ) (becomes : ℕ → Option ℕ) where
  along_none : (m n a : ℕ) → ((k : ℕ) → k < n → becomes (a + k) ≡ None)
      → runs_by number becomes a (n + m) ≡ runs_by number becomes (a + n) m
  unfolding runs_by
  along_none m zero a none =
      let e : 0 + m ≡ m = omega arith in
      let f : a + 0 ≡ a = omega arith in
      rw (e, f) refl
  along_none m (suc n) a none =
      let e : suc n + m ≡ suc (n + m) = omega arith in
      let f : a + suc n ≡ a + 1 + n = omega arith in
      let at : a + 0 ≡ a = omega arith in
      let first : becomes a ≡ None = subst (λ x. becomes x ≡ None) at (none 0 (omega arith)) in
      rw (e, f, first)
      (along_none m n (a + 1) (λ k lt. let g : a + 1 + k ≡ a + suc k = omega arith in
      rw g (none (suc k) (omega arith))))

  along_some : (top by m n a s : ℕ) → ((k : ℕ) → k < n → number (a + k) ≡ by)
      → ((k : ℕ) → k < n → becomes (a + k) ≡ below top (s + k))
      → HeadIsNot by (runs_by number becomes (a + n) m)
      → runs_by number becomes a (n + m) ≡ run_in_front by (cut_run top n s)
      (runs_by number becomes (a + n) m)
  unfolding runs_by
  along_some top by m zero a s numbers becoming h =
      let e : 0 + m ≡ m = omega arith in
      let f : a + 0 ≡ a = omega arith in
      rw (e, f, le-ltb s (min (s + 0) top) (omega arith)) refl
  along_some top by m (suc n) a s numbers becoming h =
      let e : suc n + m ≡ suc (n + m) = omega arith in
      let f : a + 1 + n ≡ a + suc n = omega arith in
      let at : a + 0 ≡ a = omega arith in
      let from : s + 0 ≡ s = omega arith in
      let first_number : number a ≡ by = subst (λ x. number x ≡ by) at (numbers 0 (omega arith)) in
      let first : becomes a ≡ below top s = subst (λ x. becomes x ≡ below top s) at
      (subst (λ y. becomes (a + 0) ≡ below top y) from (becoming 0 (omega arith))) in
      let others : runs_by number becomes (a + 1) (n + m)
      ≡ run_in_front by (cut_run top n (s + 1)) (runs_by number becomes (a + suc n) m) =
      subst (λ x. runs_by number becomes (a + 1) (n + m)
      ≡ run_in_front by (cut_run top n (s + 1)) (runs_by number becomes x m)) f
      (along_some top by m n (a + 1) (s + 1)
      (λ k lt. let g : a + 1 + k ≡ a + suc k = omega arith in rw g (numbers (suc k) (omega arith)))
      (λ k lt. let g : a + 1 + k ≡ a + suc k = omega arith in
      let j : s + 1 + k ≡ s + suc k = omega arith in rw (g, j) (becoming (suc k) (omega arith)))
      (subst (λ x. HeadIsNot by (runs_by number becomes x m)) (sym f) h)) in
      rw (e, first_number, first, others) (put top by s n (runs_by number becomes (a + suc n) m) h)

  pub head_is_not : (by m a : ℕ) → ((k : ℕ) → k < m → by ≢ number (a + k))
      → HeadIsNot by (runs_by number becomes a m)
  unfolding runs_by
  head_is_not by zero a other = tt
  head_is_not by (suc m) a other =
      let at : a + 0 ≡ a = omega arith in
      let first : by ≢ number a = subst (λ x. by ≢ number x) at (other 0 (omega arith)) in
      headed by (number a) (becomes a) (runs_by number becomes (a + 1) m) first
      (head_is_not by m (a + 1) (λ k lt. let g : a + 1 + k ≡ a + suc k = omega arith in
      rw g (other (suc k) (omega arith))))

  pub along : (top by m n a : ℕ) (start : Option ℕ) → ((k : ℕ) → k < n → number (a + k) ≡ by)
      → ((k : ℕ) → k < n → becomes (a + k) ≡ going top start k)
      → HeadIsNot by (runs_by number becomes (a + n) m)
      → runs_by number becomes a (n + m) ≡ run_in_front by (option_and_then (cut_run top n) start)
      (runs_by number becomes (a + n) m)
  along top by m n a None numbers becoming h = along_none m n a becoming
  along top by m n a (Some s) numbers becoming h = along_some top by m n a s numbers becoming h
