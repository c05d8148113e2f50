-- An index that leads into another module, in the steps that are gone.
use Rattle.std.proofs.Common.{◌≡◌, ℕ, List, Option, Some, None, Result, Ok, Err, refl, ap, ◌∙◌, sym, subst}
use Rattle.std.specs.Prelude.{IsSome, String, option_and_then}
use Rattle.std.specs.declared.alloc.Global.{Global}
use Rattle.std.specs.BTreeMap.{BTreeMap, get_by_text}
use Rattle.std.specs.Option.{ok_or}
use Rattle.std.specs.Str.{str_to_ascii_lowercase}
use Rattle.pdb_container.specs.Fault.{◌>>=◌}
use Rattle.pdb_container.specs.StringTable.{text_in}
use Rattle.pdb_subsections.specs.Imports.{imported}
use Rattle.pdb_symbols_modules.specs.Modules.{Module}
use Rattle.pdb_resolving.specs.declared.stop.Stop.{Stop}
use Rattle.pdb_resolving.specs.declared.module_names.ModuleNames.{ModuleNames}
use Rattle.pdb_resolving.specs.Cause.{Cause, Finds, of_no_table}
use Rattle.pdb_resolving.specs.Fault.{Fault, CantResolveCrossModuleRefWithoutStringTable, ModuleNameNotFound, lifted}
use Rattle.pdb_resolving.specs.KeptTables.{AreNames, numbered, export_of, resolved_by_steps}
use Rattle.pdb_resolving.specs.Resolving.{Modules, imports_of, last_named, resolved_elsewhere}

-- steps from what is there on
behind : {A B : Type 0} (read : Result A Cause) (f g : A → Result B Cause)
    → ((x : A) → f x ≡ g x) → (read >>= f) ≡ (read >>= g)
behind (Ok x) f g same = same x
behind (Err e) f g same = refl

-- two steps as one
regroup : {A B C : Type 0} (read : Result A Cause) (f : A → Result B Cause)
    (g h : B → Result C Cause) → ((x : B) → g x ≡ h x)
    → ((read >>= f) >>= g) ≡ (read >>= (λ x. f x >>= h))
regroup (Ok x) f g h same = behind (f x) g h same
regroup (Err e) f g h same = refl

-- the same of two that read no table
regroup_no_table : {A B C : Type 0} (read : Result A Fault) (f : A → Result B Fault)
    (g : B → Result C Cause)
    → (of_no_table (read >>= f) >>= g) ≡ (of_no_table read >>= (λ x. of_no_table (f x) >>= g))
regroup_no_table (Ok x) f g = refl
regroup_no_table (Err e) f g = refl

same_steps : (modules : Modules) (asking index : ℕ) → resolved_by_steps modules asking index ≡ resolved_elsewhere modules asking index
unfolding resolved_by_steps resolved_elsewhere
same_steps modules asking index =
    behind (of_no_table (ok_or modules.names CantResolveCrossModuleRefWithoutStringTable)) _ _ λ names.
    regroup (imports_of modules asking)
    (λ imports. of_no_table (lifted (imported imports index))) _ _ λ target.
    regroup_no_table (lifted (text_in names target.name))
    (λ name. numbered name modules.entries) (λ number. export_of modules number target.local)

-- what the steps answer is the answer
pub by_steps : (modules : Modules) (asking index : ℕ) (result : Result ℕ Stop)
    → Finds (λ n. n) result (resolved_by_steps modules asking index) → Finds (λ n. n) result (resolved_elsewhere modules asking index)
by_steps modules asking index result answer = subst (λ read. Finds (λ n. n) result read) (same_steps modules asking index) answer

-- the last module of a name is what is stored under the name in lower case
kept_last : (entries : List Module) (names : ModuleNames) (name lower : List ℕ) (kept : Option (BTreeMap (String Global) ℕ)) → AreNames entries names → names.numbers ≡ kept → IsSome kept
    → lower ≡ str_to_ascii_lowercase name → option_and_then (λ numbers. get_by_text numbers lower) kept ≡ last_named name entries
kept_last entries names name lower (Some numbers) right is there lowered = rw lowered ((right.each numbers is).each name)
kept_last entries names name lower None right is there lowered = cc

-- a number that is stored is that of the last module of the name
pub number_kept : (entries : List Module) (names : ModuleNames) (name lower : List ℕ) (n : ℕ) → AreNames entries names → IsSome names.numbers → lower ≡ str_to_ascii_lowercase name
    → option_and_then (λ numbers. get_by_text numbers lower) names.numbers ≡ Some n → numbered name entries ≡ Ok n
number_kept entries names name lower n right there lowered found =
    ap (λ o. ok_or o (ModuleNameNotFound (str_to_ascii_lowercase name))) (sym (kept_last entries names name lower names.numbers right refl there lowered) ∙ found)

-- where none is stored, no module has the name
pub number_missing : (entries : List Module) (names : ModuleNames) (name lower : List ℕ) → AreNames entries names → IsSome names.numbers → lower ≡ str_to_ascii_lowercase name
    → option_and_then (λ numbers. get_by_text numbers lower) names.numbers ≡ None → numbered name entries ≡ Err (ModuleNameNotFound lower)
number_missing entries names name lower right there lowered missing =
    ap (λ o. ok_or o (ModuleNameNotFound (str_to_ascii_lowercase name))) (sym (kept_last entries names name lower names.numbers right refl there lowered) ∙ missing)
    ∙ ap (λ bytes. Err (ModuleNameNotFound bytes)) (sym lowered)
