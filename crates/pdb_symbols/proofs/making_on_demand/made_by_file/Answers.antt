use Rattle.std.proofs.Common.{◌∙◌, ℕ, List, subst, true}
use Rattle.std.proofs.lemmas.Result.{err_from_is_err_and}
use Rattle.pdb_loading.specs.LoadedFile.{IsLoadedWith}
use Rattle.pdb_symbols.proofs.MakingSteps.{few_on_demand, image_fails, made_on_demand, unnamed_fails}
use Rattle.pdb_symbols.proofs.ToldSteps.{known_before}
use Rattle.pdb_symbols.proofs.making_on_demand.made_by_file.Goals as goal

pub returns-in_err-identity-clause-failed : goal.returns-in_err-identity-clause-failed
returns-in_err-identity-clause-failed g c =
    let p = err_from_is_err_and c.from_residual.result c.from_residual.ensures.1 in
    rw p.1 (λ known. unnamed_fails _ _ c.in_err-identity.field-0.0 p.0
    (c.requires.loaded (known_before c.args.runs.now.told.symbolizer c.identity.new.self
    c.identity.ensures.contents c.identity.ensures.grows known))
    p.2 (c.in_err-identity.ensures.refused known))

pub returns-in_err-first-clause-failed : goal.returns-in_err-first-clause-failed
returns-in_err-first-clause-failed g c =
    let p = err_from_is_err_and c.from_residual-in_err-first.result
    c.from_residual-in_err-first.ensures.1 in
    rw (p.1, p.2) (λ known. image_fails true _ _ c.identity.new.self.order
    c.args.runs.now.told.symbolizer.contents c.held-held.result.now c.in_ok-identity.identity
    c.in_err-first.field-0.0 (c.identity.ensures.order ∙ c.requires.order)
    (subst (λ (x : List ℕ). IsLoadedWith c.identity.new.self.order x c.held-held.result.now)
    c.identity.ensures.contents (c.held-held.ensures.loaded known))
    (c.in_ok-identity.ensures.identity known) c.in_err-first.ensures.refused)

pub returns-clause-ok : goal.returns-clause-ok
returns-clause-ok g c = λ known.
    let before = c.text_of.ensures.grows known in
    made_on_demand _ _ _ _ _ _ _ _ _ _ _ _ _ _ _ _
    (c.identity.ensures.order ∙ c.requires.order) (c.identity.ensures.flags ∙ c.requires.flags)
    c.identity.ensures.contents (c.held-held.ensures.loaded before)
    (c.in_ok-identity.ensures.identity before) c.debug_information-information.ensures
    c.in_ok-first.ensures.image c.in_ok-first.ensures.first c.address_map.ensures
    c.image_section_headers-sections.ensures c.requires.inlines
    (c.in_ok-text.ensures.records known)

pub returns-clause-lookups : goal.returns-clause-lookups
returns-clause-lookups g c = λ known.
    few_on_demand _ _ _ _ _ _ _ _ _
    (c.identity.ensures.order ∙ c.requires.order) (c.identity.ensures.flags ∙ c.requires.flags)
    c.identity.ensures.contents (c.held-held.ensures.loaded (c.text_of.ensures.grows known))
    c.address_map.ensures c.image_section_headers-sections.ensures c.requires.unasked
    (c.in_ok-text.ensures.lookups known)
