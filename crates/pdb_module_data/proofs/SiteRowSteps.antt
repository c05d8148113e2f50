-- Pieces for the rows of sites, each under its site's number.
use Rattle.std.proofs.Common.{◌≡◌, ◌≢◌, ℕ, ◌+◌, ◌≤◌, List, None, Some, false, refl, subst, ◌∙◌, inl, inr, arith}
use Rattle.std.specs.Prelude.{slice_index}
use Rattle.std.specs.BTreeMap.{BTreeMap, Updates, get, is_at}
use Rattle.std.specs.Ordering.{nat_cmp}
use Rattle.std.proofs.lemmas.Bool.{cases_lt}
use Rattle.std.proofs.lemmas.Bool.Decides.{nat_tests}
use Rattle.pdb_pieces.specs.declared.span.Span.{Span}
use Rattle.pdb_module_data.specs.declared.call_rows.CallRow.{CallRow}
use Rattle.pdb_module_data.specs.InlinePieces.{rows_between, AddsFound, AreApart, AreFound, AreAllFound, StandForFirst}

apart_is_not_at : (k q : ℕ) → q ≢ k → is_at (nat_cmp k) q ≡ false
apart_is_not_at k q apart = grind (arith, nat_tests)

-- pieces were added
pub adds_pieces : (old new : BTreeMap ℕ (List Span)) (number : ℕ) (rows : List CallRow) (pieces : List Span) → Updates nat_cmp old new number (Some pieces) → StandForFirst pieces rows → AddsFound old new number rows
adds_pieces old new number rows pieces updates are = record {
  own = λ free. rw updates.1 are;
  others = λ k apart. updates.2 k (apart_is_not_at number k apart);
}

-- none were, since the rows lie apart
pub adds_none : (kept : BTreeMap ℕ (List Span)) (number : ℕ) (rows : List CallRow) → AreApart 0 rows → AddsFound kept kept number rows
adds_none kept number rows are = record { own = λ free. rw free are; others = λ k apart. refl }

-- so far pieces stand under the numbers below one, unless rows lie apart,
-- and none under it and past it
pub record AreFoundBelow (number : ℕ) (rows : List CallRow) (starts : List ℕ) (pieces : BTreeMap ℕ (List Span)) : Type 0 where
  pub found : AreAllFound number rows starts pieces
  pub free : (k : ℕ) → number ≤ k → get nat_cmp pieces k ≡ None

pub found_more : (number : ℕ) (rows of_site : List CallRow) (starts : List ℕ) (old new : BTreeMap ℕ (List Span)) → of_site ≡ rows_between rows (slice_index starts number) (slice_index starts (number + 1))
    → AreFoundBelow number rows starts old → AddsFound old new number of_site → AreFoundBelow (number + 1) rows starts new
found_more number rows of_site starts old new is below adds = record {
  found = record {
    each = λ k lt. elim (cases_lt k number) [
      | inl less ↦ let apart : k ≢ number = omega arith in rw (adds.others k apart) (below.found.each k less)
      | inr le ↦
          let same : number ≡ k = omega arith in
          let own : AreFound (rows_between rows (slice_index starts number) (slice_index starts (number + 1))) (get nat_cmp new number) = rw (← is) (adds.own (below.free number (omega arith))) in
          subst (λ n. AreFound (rows_between rows (slice_index starts n) (slice_index starts (n + 1))) (get nat_cmp new n)) same own
    ];
  };
  free = λ k le. let apart : k ≢ number = omega arith in adds.others k apart ∙ below.free k (omega arith);
}
