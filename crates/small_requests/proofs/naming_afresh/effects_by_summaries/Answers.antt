use Rattle.std.proofs.Common.{◌≡◌, ◌∙◌, ◌<◌, ◌≤◌, ◌+◌, sym, subst, ap, arith, ℕ, All, Result, Ok, Err, IfOk, length}
use Rattle.std.specs.FinMap.{entries}
use Rattle.plan_checks.specs.plan_changes.proofs.Answered.{if_both_ok}
use Rattle.plan_checks.specs.derived_figures.specs.UnknownPlaces.{unknown_places}
use Rattle.plan_checks.specs.derived_figures.specs.Entries.{AreEntriesAt}
use Rattle.plan_checks.specs.start_choice.specs.Choices.{AreLatestStarts}
use Rattle.plan_checks.specs.plan_status.specs.Summaries.{AreSummaries}
use Rattle.plan_model.specs.Contents.{Contents}
use Rattle.small_requests.proofs.NoneUnknown.{none_beside}
use Rattle.small_requests.proofs.StepParts.{all_below}
use Rattle.small_requests.proofs.naming_afresh.effects_by_summaries.Goals as goal
use Rattle.small_requests.proofs.naming_afresh.effects_by_summaries.Goals.{In_ok-naming, In_ok-places}
use Rattle.small_requests.specs.Edits.{ArePlacesIn}
use Rattle.small_requests.specs.Effects.{AreNamingEffects}
use Rattle.small_requests.specs.Naming.{IsNaming}
use Rattle.small_requests.specs.StepLooks.{AreBoth}
use Rattle.small_requests.specs.declared.namings.Naming.{Naming}

-- what follows where three things hold of what is ok
all_ok : {T E : Type 0} {A B C D : T → Type 0} (r : Result T E) → ((x : T) → A x → B x → C x → D x) → IfOk r A → IfOk r B → IfOk r C → IfOk r D
all_ok (Ok x) f a b c = f x a b c
all_ok (Err e) f a b c = tt

-- it is named so
is_naming : (c : In_ok-naming) → IsNaming c.args.records.now.contents c.args.context.now.at c.in_ok-naming.naming
is_naming c = subst (λ r. IfOk r (IsNaming c.args.records.now.contents c.args.context.now.at)) c.in_ok-naming.was c.requires.naming

inside : (c : In_ok-naming) → ArePlacesIn c.args.records.now.contents c.in_ok-naming.naming.places.items
inside c = let at = (is_naming c).places in record { ascend = at.ascend; within = at.within }

-- the places are those of what is named
are_its : (c : In_ok-places) → c.in_ok-places.places.items ≡ c.in_ok-naming.naming.places.items
are_its c = c.in_ok-places.ensures.items ∙ c.deref.ensures.value

pub entries_by_summaries-requires-clause-within : goal.entries_by_summaries-requires-clause-within
entries_by_summaries-requires-clause-within c =
    let at = goal.at.entries_by_summaries-requires-clause-within c in
    let n = length (entries c.args.records.now.contents.operations) in
    subst (λ (Q : Contents). All (λ i. i < length (entries Q.operations)) c.deref-2.result.now) (sym c.uncounted.ensures.contents)
    (subst (All (λ i. i < n)) (sym (c.deref-2.ensures.value ∙ are_its at.In_ok-places)) (all_below n c.in_ok-naming.naming.places.items (inside at.In_ok-naming).within))

pub entries_by_summaries-requires-clause-summaries : goal.entries_by_summaries-requires-clause-summaries
entries_by_summaries-requires-clause-summaries c = subst (λ (Q : Contents). AreSummaries Q c.args.summaries.now) (sym c.uncounted.ensures.contents) c.requires.summaries

pub entries_by_summaries-requires-clause-latest : goal.entries_by_summaries-requires-clause-latest
entries_by_summaries-requires-clause-latest c = subst (λ (Q : Contents). AreLatestStarts Q c.args.context.now.latest.now.starts) (sym c.uncounted.ensures.contents) c.requires.latest

pub effects_of-requires-clause-naming : goal.effects_of-requires-clause-naming
effects_of-requires-clause-naming c = (c.args.context.now.at, is_naming ((goal.at.effects_of-requires-clause-naming c).In_ok-naming))

pub effects_of-requires-clause-edited : goal.effects_of-requires-clause-edited
effects_of-requires-clause-edited c =
    let at = goal.at.effects_of-requires-clause-edited c in
    subst (ArePlacesIn c.args.records.now.contents) (sym (c.deref-3.ensures.value ∙ are_its at.In_ok-places)) (inside at.In_ok-naming)

pub effects_of-requires-clause-known : goal.effects_of-requires-clause-known
effects_of-requires-clause-known c =
    let P = c.args.records.now.contents in
    let found = subst (λ (Q : Contents). AreEntriesAt Q c.deref-2.result.now c.in_ok-entries.entries.items) c.uncounted.ensures.contents c.in_ok-entries.ensures in
    subst (λ places. AreEntriesAt P places c.deref-4.result.now) (c.deref-2.ensures.value ∙ sym c.deref-3.ensures.value) (subst (AreEntriesAt P c.deref-2.result.now) (sym c.deref-4.ensures.value) found)

pub returns-clause-effects : goal.returns-clause-effects
returns-clause-effects c =
    let at = goal.at.returns-clause-effects c in
    let P = c.args.records.now.contents in
    let m = c.args.context.now.at in
    let same : c.deref-3.result.now ≡ c.in_ok-naming.naming.places.items = c.deref-3.ensures.value ∙ are_its at.In_ok-places in
    if_both_ok c.effects_of.result
    (λ f is follows.
    subst (λ (n : Naming). AreNamingEffects P m n.places.items c.args.columns.now f) (sym is) (subst (λ places. AreNamingEffects P m places c.args.columns.now f) same (follows m (is_naming at.In_ok-naming))))
    c.effects_of.ensures.naming c.effects_of.ensures.effects

-- nothing but what is named is touched, so nothing is looked at
pub returns-clause-most : goal.returns-clause-most
returns-clause-most c = λ n before.
    let at = goal.at.returns-clause-most c in
    let its = c.in_ok-naming.naming.places.items in
    let same : c.deref-3.result.now ≡ its = c.deref-3.ensures.value ∙ are_its at.In_ok-places in
    let looks = c.effects_of.new.records.looks in
    let old : c.args.records.now.looks ≤ n = subst (λ r. IfOk r (λ (named : Naming). c.args.records.now.looks ≤ n)) c.in_ok-naming.was before in
    all_ok c.effects_of.result
    (λ f is follows most.
    let joined : AreBoth its f.naming.places.items f.touched.items = subst (λ places. AreBoth places f.naming.places.items f.touched.items) same (follows c.args.context.now.at (is_naming at.In_ok-naming)).joined in
    let both : AreBoth its its f.touched.items = subst (λ (n : Naming). AreBoth its n.places.items f.touched.items) is joined in
    let few : looks ≤ c.args.records.now.looks + length (unknown_places its f.touched.items) = subst (λ places. looks ≤ c.args.records.now.looks + length (unknown_places places f.touched.items)) same most in
    let none = ap length (none_beside its f.touched.items both) in
    omega (arith, few, none, old))
    c.effects_of.ensures.naming c.effects_of.ensures.effects c.effects_of.ensures.most
