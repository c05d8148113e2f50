use Rattle.std.proofs.Common.{refl, false}
use Rattle.std.specs.Prelude.{option_copied}
use Rattle.std.proofs.lemmas.Result.{err_from_is_err_and}
use Rattle.pdb_symbols.specs.Described.{asked_of}
use Rattle.pdb_symbols.proofs.MakingSteps.{few_lookups, identity_fails, image_fails, made_ok}
use Rattle.pdb_symbols.proofs.making.made_by.Goals as goal

pub returns-in_err-identity-clause-failed : goal.returns-in_err-identity-clause-failed
returns-in_err-identity-clause-failed g c =
    let p = err_from_is_err_and c.from_residual.result c.from_residual.ensures.1 in
    rw (p.1, p.2) (identity_fails false (asked_of c.args.options.now)
    (option_copied c.args.image) _ _ _ _ c.in_err-identity.field-0.0 c.requires.order
    c.held-held.ensures refl c.in_err-identity.ensures.refused)

pub returns-in_err-first-clause-failed : goal.returns-in_err-first-clause-failed
returns-in_err-first-clause-failed g c =
    let p = err_from_is_err_and c.from_residual-in_err-first.result
    c.from_residual-in_err-first.ensures.1 in
    rw (p.1, p.2) (image_fails false _ _ _ _ _ _ c.in_err-first.field-0.0 c.requires.order
    c.held-held.ensures c.in_ok-identity.ensures.identity c.in_err-first.ensures.refused)

pub returns-clause-ok : goal.returns-clause-ok
returns-clause-ok g c =
    made_ok _ _ _ _ _ _ _ _ _ _ _ _ _ _ c.requires.order c.held-held.ensures
    c.in_ok-identity.ensures.identity c.debug_information-information.ensures
    c.in_ok-first.ensures.image c.in_ok-first.ensures.first c.address_map.ensures
    c.image_section_headers-sections.ensures c.requires.inlines (c.in-Ok.ensures.records tt)

pub returns-clause-lookups : goal.returns-clause-lookups
returns-clause-lookups g c =
    few_lookups _ _ _ _ _ _ _ _ c.requires.order c.held-held.ensures c.address_map.ensures
    c.image_section_headers-sections.ensures c.requires.unasked c.lookups.ensures
    (c.in-Ok.ensures.lookups tt)
