-- What a symbol is in a body, by its kind.
use Rattle.std.proofs.Common.{◌≡◌, ℕ, List, Result, Ok, Err, true, false, refl}
use Rattle.std.specs.Prelude.{Bool, ◌==◌, if◌then◌else◌}
use Rattle.pdb_container.specs.Fault.{Fault, UnimplementedSymbolKind}
use Rattle.pdb_symbol_records.specs.Forms as forms
use Rattle.pdb_symbol_records.specs.Forms.{SymbolForm}
use Rattle.pdb_symbol_records.specs.Kinds.{is_public, is_procedure, is_thunk, is_separated_code, is_inline_site}
use Rattle.pdb_symbol_records.specs.Records.{public_of, procedure_symbol_at, thunk_of, separated_code_of, inline_site_of, as_form, end_form, form_of, symbol_form_of}
use Rattle.pdb_symbol_records.specs.Symbols.{Symbol, kind_of, payload_of}
use Rattle.pdb_module_data.specs.Forest.{Plain, element_said, element_of}

form_plain : {A : Type 0} (make : A → SymbolForm) (r : Result A Fault) → ((x : A) → element_said (Ok (make x)) ≡ Plain) → element_said (as_form make r) ≡ Plain
form_plain make (Ok x) each = each x
form_plain make (Err e) each = refl

ends_plain : (scope procedure site : Bool) (fault : Fault) → element_said (if scope then Ok forms.ScopeEnd else (if procedure then Ok forms.ProcedureEnd else (if site then Ok forms.InlineSiteEnd else Err fault))) ≡ Plain
ends_plain true procedure site fault = refl
ends_plain false true site fault = refl
ends_plain false false true fault = refl
ends_plain false false false fault = refl

end_plain : (kind : ℕ) → element_said (end_form kind) ≡ Plain
unfolding end_form
end_plain kind = ends_plain (kind == 0x0006) (kind == 0x114f) (kind == 0x114e) (UnimplementedSymbolKind kind)

-- of these the first whose kind it is
first_plain : (public procedure thunk separated site : Bool) (a b c d e f : Result SymbolForm Fault) → site ≡ false → procedure ≡ false → element_said a ≡ Plain → element_said c ≡ Plain → element_said d ≡ Plain → element_said f ≡ Plain
    → element_said (if public then a else (if procedure then b else (if thunk then c else (if separated then d else (if site then e else f))))) ≡ Plain
first_plain true procedure thunk separated site a b c d e f no_site no_procedure ap cp dp fp = ap
first_plain false true thunk separated site a b c d e f no_site no_procedure ap cp dp fp = absurd (cc)
first_plain false false true separated site a b c d e f no_site no_procedure ap cp dp fp = cp
first_plain false false false true site a b c d e f no_site no_procedure ap cp dp fp = dp
first_plain false false false false true a b c d e f no_site no_procedure ap cp dp fp = absurd (cc)
first_plain false false false false false a b c d e f no_site no_procedure ap cp dp fp = fp

kind_plain : (kind : ℕ) (bytes : List ℕ) → is_inline_site kind ≡ false → is_procedure kind ≡ false → element_said (form_of kind bytes) ≡ Plain
unfolding form_of
kind_plain kind bytes no_site no_procedure =
    first_plain (is_public kind) (is_procedure kind) (is_thunk kind) (is_separated_code kind) (is_inline_site kind)
    (as_form forms.Public (public_of kind bytes)) (as_form forms.Procedure (procedure_symbol_at kind bytes)) (as_form forms.Thunk (thunk_of kind bytes)) (as_form forms.SeparatedCode (separated_code_of bytes)) (as_form forms.InlineSite (inline_site_of kind bytes)) (end_form kind)
    no_site no_procedure
    (form_plain forms.Public (public_of kind bytes) (λ x. refl)) (form_plain forms.Thunk (thunk_of kind bytes) (λ x. refl)) (form_plain forms.SeparatedCode (separated_code_of bytes) (λ x. refl)) (end_plain kind)

-- a symbol of another kind than an inline site's or a procedure's is plain
pub plain_kind : (s : Symbol) → is_inline_site (kind_of s) ≡ false → is_procedure (kind_of s) ≡ false → element_of s ≡ Plain
unfolding symbol_form_of
plain_kind s no_site no_procedure = kind_plain (kind_of s) (payload_of s) no_site no_procedure
