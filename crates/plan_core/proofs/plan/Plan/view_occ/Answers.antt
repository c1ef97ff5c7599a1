use Rattle.std.proofs.Common.{◌≡◌, Some, true, true≢false, is_some, ap, subst, sym, ◌∙◌, refl, slice_get}
use Rattle.std.specs.FinMap.{contains_key, entries, get}
use Rattle.std.proofs.lemmas.Option.{slice_get_within}
use Rattle.plan_core.proofs.FromPlace.{no_occurrence, none_known, none_told}
use Rattle.plan_core.proofs.OccViews.{occ_view_is, row_in_plan}
use Rattle.plan_core.proofs.plan.Plan.view_occ.Goals as goal
use Rattle.plan_core.proofs.plan.Plan.view_occ.Goals.{In_ok-place}
use Rattle.plan_core.specs.Views.{IsOccView}
use Rattle.plan_records.specs.plan_drafts.proofs.Tables.{some_is}
use Rattle.plan_model.specs.Contents.{Contents}
use Rattle.plan_model.specs.declared.Occurrence.{Occurrence}

pub returns-in_err-source-clause-some : goal.returns-in_err-source-clause-some
returns-in_err-source-clause-some c =
    none_known c.from_residual.result c.from_residual.ensures (λ P. contains_key P.occurrences c.args.key.now ≡ true) c.args.self.now.plan.contents (c.in_err-source.ensures.none refl) (no_occurrence c.args.key.now)

pub returns-in_err-place-clause-some : goal.returns-in_err-place-clause-some
returns-in_err-place-clause-some c =
    let key = c.args.key.now in
    let absent = c.in_err-place.ensures.absent refl in
    none_told c.from_residual-in_err-place.result c.from_residual-in_err-place.ensures
    (λ known. let there = subst (λ (P : Contents). contains_key P.occurrences key ≡ true) (sym c.in_ok-source.ensures.contents) known in true≢false (sym there ∙ ap is_some absent))

-- the row at the index that is found
row : (c : In_ok-place) → (terms : Occurrence) × (slice_get (entries c.in_ok-source.source.contents.now.occurrences) c.in_ok-place.place ≡ Some (c.args.key.now, terms))
row c = c.in_ok-place.ensures.found

pub occ_view-requires-clause-within : goal.occ_view-requires-clause-within
occ_view-requires-clause-within c = slice_get_within (entries c.in_ok-source.source.contents.now.occurrences) c.in_ok-place.place _ (row (goal.at.occ_view-requires-clause-within c).In_ok-place).1

pub returns : goal.returns
returns c =
    let at : In_ok-place = (goal.at.returns c).In_ok-place in
    let s = at.in_ok-source.source in
    let source = at.in_ok-source.ensures.source in
    let same = at.in_ok-source.ensures.contents in
    let key = at.args.key.now in
    let view = occ_view_is s source at.in_ok-place.place key (row at).0 c.occ_view.result (row at).1 c.occ_view.ensures in
    let known = row_in_plan s source at.in_ok-place.place key (row at).0 (row at).1 in
    record {
      some = (λ some. subst (λ (P : Contents). contains_key P.occurrences key ≡ true) same (some_is (get s.contents.now.occurrences key) (row at).0 known), λ there. refl);
      view = (view.0, subst (λ (P : Contents). IsOccView P c.occ_view.result) same view.1);
    }
