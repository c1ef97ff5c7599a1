use Rattle.std.proofs.Common.{◌≡◌, ◌∙◌, ◌<◌, refl, sym, ap, subst, arith, length, true}
use Rattle.std.proofs.lemmas.Option.{slice_get_read, slice_get_within}
use Rattle.std.specs.FinMap.{contains_key, entries, get}
use Rattle.plan_basics.specs.Keys.{occurrence_cmp_total, occurrence_cmp-IsAntisymmetric}
use Rattle.start_choice.specs.plan_drafts.proofs.EntryRows.{row_in}
use Rattle.start_choice.specs.plan_drafts.proofs.Tables.{some_is}
use Rattle.plan_model.specs.Contents.{Contents}
use Rattle.plan_model.specs.Status.{HasOccurrenceStatus}
use Rattle.derived_figures.proofs.outlines.Outline.occurrence_status.Goals as goal

pub returns-in-None-clause-absent : goal.returns-in-None-clause-absent
returns-in-None-clause-absent c none = ap (λ (P : Contents). get P.occurrences c.args.key.now) (sym c.self.view_is) ∙ c.in-None.ensures.absent none

pub returns-in-Some-clause-known : goal.returns-in-Some-clause-known
returns-in-Some-clause-known c some =
    let P = c.self.inside.uncounted.contents.now in
    let key = c.args.key.now in
    let found = c.in-Some.ensures.found in
    let is = row_in occurrence_cmp_total occurrence_cmp-IsAntisymmetric P.occurrences c.in-Some.place key found.0 found.1 in
    subst (λ (Q : Contents). contains_key Q.occurrences key ≡ true) c.self.view_is (some_is (get P.occurrences key) found.0 is)

pub returns-in-Some-clause-found : goal.returns-in-Some-clause-found
returns-in-Some-clause-found c =
    let P = c.self.inside.uncounted.contents.now in
    let held = c.self.invariant in
    let key = c.args.key.now in
    let i = c.in-Some.place in
    let found = c.in-Some.ensures.found in
    let tallies = c.self.inside.derived.figures.now.tallies.items in
    let lt = slice_get_within (entries P.occurrences) i (key, found.0) found.1 in
    let within : i < length tallies = omega (arith, lt, held.figures.tallies.size) in
    let tally = held.figures.tallies.each i key found.0 c.index.result.now found.1 (slice_get_read tallies _ i c.index.result.now refl within c.index.ensures) in
    subst (λ (Q : Contents). HasOccurrenceStatus Q key c.occurrence_status_with.result) c.self.view_is (c.occurrence_status_with.ensures P key tally)
