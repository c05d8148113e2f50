-- The last module of each name, as a list of modules is gone over.
use Rattle.std.proofs.Common.{◌≡◌, ℕ, ◌+◌, ◌<◌, List, [], ◌∷◌, ◌++◌, length, take, get_or, refl, sym, ap, ◌∙◌, Bool, true, false, cond, arith, string_bytes}
use Rattle.std.specs.Prelude.{Option, Some, None, String}
use Rattle.std.specs.BTreeMap.{BTreeMap, IsEmpty, Updates, get_by_text}
use Rattle.std.specs.declared.alloc.Global.{Global}
use Rattle.std.specs.Str.{str_to_ascii_lowercase}
use Rattle.std.specs.Str.Lossy.{utf8_lossy}
use Rattle.std.specs.String.{string_cmp}
use Rattle.std.proofs.lemmas.List.{take_more, length-take-le}
use Rattle.std.proofs.lemmas.Map.Text.{btree_map_updates_text}
use Rattle.pdb_symbols_modules.specs.Modules.{Module}
use Rattle.pdb_resolving.specs.KeptTables.{AreLast}
use Rattle.pdb_resolving.specs.Resolving.{is_named, place_from, last_place, last_named}

-- an element after others comes first
last_place_behind : {A : Type 0} (test : A → Bool) (xs : List A) (x : A) → last_place test (xs ++ x ∷ []) ≡ cond (test x) (Some (length xs)) (last_place test xs)
unfolding last_place
last_place_behind test [] x = refl
last_place_behind test (y ∷ ys) x =
    rw (last_place_behind test ys x)
    (elim (test x) as (λ b. place_from (test y) (cond b (Some (length ys)) (last_place test ys)) ≡ cond b (Some (length (y ∷ ys))) (place_from (test y) (last_place test ys)))
    [ true ↦ ap Some (omega arith) | false ↦ refl ])

-- a module of the name is the last one among those up to it
one_more : (name : List ℕ) (modules : List Module) (n : ℕ) (d : Module) → n < length modules
    → last_named name (take (n + 1) modules) ≡ cond (is_named name (get_or modules n d)) (Some n) (last_named name (take n modules))
one_more name modules n d lt =
    rw (take_more modules n d lt)
    (last_place_behind (is_named name) (take n modules) (get_or modules n d)
    ∙ ap (λ k. cond (is_named name (get_or modules n d)) (Some k) (last_named name (take n modules))) (length-take-le n modules (omega arith)))

-- no module has a name
pub last_start : (numbers : BTreeMap (String Global) ℕ) → IsEmpty numbers → AreLast [] numbers
unfolding last_place
last_start numbers empty = record { each = λ name. rw empty refl }

-- one more module takes the place of one before it that has its name
pub last_further : (modules : List Module) (n : ℕ) (d : Module) (key : String Global) (old new : BTreeMap (String Global) ℕ) → n < length modules
    → d ≡ get_or modules n d → string_bytes key ≡ str_to_ascii_lowercase (utf8_lossy d.module_name)
    → AreLast (take n modules) old → Updates string_cmp old new key (Some n) → AreLast (take (n + 1) modules) new
last_further modules n d key old new lt at named so_far updates = record {
  each = λ name.
      btree_map_updates_text (string_bytes key) old new (Some n) updates (str_to_ascii_lowercase name)
      ∙ rw (named, so_far.each name) refl
      ∙ ap (λ m. cond (is_named name m) (Some n) (last_named name (take n modules))) at
      ∙ sym (one_more name modules n d lt);
}
