-- A table is determined by what it has for each answer.
use Rattle.std.proofs.Common.{◌≡◌, ℕ, ◌≤◌, Bool, true, false, cond, ◌&&◌, T, List, [], ◌∷◌, refl, sym, ap, ◌∙◌, subst, arith}
use Rattle.std.specs.Prelude.{Option, None, Some, IfSome, unwrap_or}
use Rattle.std.specs.declared.cmp.Ordering.{Ordering}
use Rattle.std.specs.declared.cmp.Ordering.TheVariants.{Less, Equal}
use Rattle.std.specs.FinMap.Entries.{find, below_all, is_sorted, same_entries}
use Rattle.std.specs.List.{AllByRecursion}
use Rattle.std.specs.List.Sorted.{IsStrictlySortedBy}
use Rattle.std.specs.Map.{lookup, keys_of}
use Rattle.std.specs.Ordering.{is_lt}
use Rattle.std.proofs.lemmas.Map.Views.{IfSome-lookup_from_All}
use Rattle.std.specs.Cmp.{IsTotalOrder}
use Rattle.pdb_owners.specs.Answers.{is_same}
use Rattle.pdb_owners.specs.Table.{IsTable, count_in}

both : (a b : Bool) → T a → T b → T (a && b)
both true b h g = g
both false b h g = absurd h

one_count : (o p : Option ℕ) → IfSome o (λ n. 1 ≤ n) → IfSome p (λ n. 1 ≤ n) → unwrap_or o 0 ≡ unwrap_or p 0 → o ≡ p
one_count None None a b h = refl
one_count None (Some n) a b h = absurd (omega arith)
one_count (Some n) None a b h = absurd (omega arith)
one_count (Some n) (Some m) a b h = ap Some h

module _ {A : Type 0} (cmp : A → A → Ordering) (total : IsTotalOrder cmp) (exact : (a b : A) → cmp a b ≡ Equal → a ≡ b) where
  all_below : (k : A) (es : List (A × ℕ)) → AllByRecursion (λ q. cmp k q ≡ Less) (keys_of es) → T (below_all cmp k es)
  all_below k [] h = tt
  all_below k (e ∷ es) h = both (is_lt (cmp k e.0)) (below_all cmp k es) (subst (λ (o : Ordering). T (is_lt o)) (sym h.0) tt) (all_below k es h.1)

  in_order : (es : List (A × ℕ)) → IsStrictlySortedBy cmp (keys_of es) → T (is_sorted cmp es)
  unfolding IsStrictlySortedBy
  in_order [] h = tt
  in_order (e ∷ es) h = both (below_all cmp e.0 es) (is_sorted cmp es) (all_below e.0 es h.0) (in_order es h.1)

  found_at : (f : A) (es : List (A × ℕ)) → find cmp f es ≡ lookup (is_same cmp f) es
  found_at f [] = refl
  found_at f (e ∷ es) = ap (λ (r : Option ℕ). cond (is_same cmp f e.0) (Some e.1) r) (found_at f es)

  pub table_unique : (t u : List (A × ℕ)) → IsTable cmp t → IsTable cmp u → ((f : A) → count_in cmp t f ≡ count_in cmp u f) → t ≡ u
  table_unique t u a b same = same_entries cmp total exact t u (in_order t a.order) (in_order u b.order)
      (λ f. found_at f t
      ∙ one_count (lookup (is_same cmp f) t) (lookup (is_same cmp f) u) (IfSome-lookup_from_All (λ n. 1 ≤ n) (is_same cmp f) t a.some) (IfSome-lookup_from_All (λ n. 1 ≤ n) (is_same cmp f) u b.some) (same f)
      ∙ sym (found_at f u))
