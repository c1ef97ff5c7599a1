use Rattle.std.proofs.Common.{arith, sym, ap, subst, ◌∙◌, not, cond, length, [], ◌∷◌, Some}
use Rattle.std.proofs.lemmas.Option.{slice_get-get_or, slice_get_within}
use Rattle.plan_model.specs.Contents.{Contents}
use Rattle.derived_figures.specs.Entries.{IsEntryAt}
use Rattle.derived_figures.proofs.PlacesUnknown.{not_among}
use Rattle.derived_figures.proofs.entries.entry_of.Goals as goal

pub returns-in-Some-clause-entry : goal.returns-in-Some-clause-entry
returns-in-Some-clause-entry c =
    let k = c.in-Some.index in
    let e = c.index-known-index.result in
    c.requires.known.each k c.args.place e c.in-Some.ensures
    (slice_get-get_or c.args.known.now k e (omega (arith, slice_get_within c.args.known_at.now k c.args.place c.in-Some.ensures, c.requires.known.size)) ∙ ap Some (sym c.index-known-index.is))

pub returns-in-None-clause-entry : goal.returns-in-None-clause-entry
returns-in-None-clause-entry c = subst (λ (Q : Contents). IsEntryAt Q c.args.place c.entry_seen.result) c.see.ensures.uncounted c.entry_seen.ensures

pub returns-in-None-clause-most : goal.returns-in-None-clause-most
returns-in-None-clause-most c =
    let told = not_among c.args.known_at.now c.args.place c.in-None.ensures in
    let one = ap (λ b. length (cond (not b) (c.args.place ∷ []) [])) told in
    omega (arith, c.see.follows.holds-at-none.most, one)
