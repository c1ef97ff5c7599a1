use Rattle.std.proofs.Common.{◌≡◌, ◌≤◌, subst, ◌∙◌, slice_get, Some}
use Rattle.record_faults.specs.Groups.{IsLastIfAny, grouped, most_of}
use Rattle.record_faults.proofs.Gathering.{at_read}
use Rattle.record_faults.proofs.Telling.{not_first, few, crowded}
use Rattle.record_faults.proofs.finders.crowd.Goals as goal

pub returns-in_default-earlier : goal.returns-in_default-earlier
returns-in_default-earlier c =
    let g = c.in-Some.group in
    let here = subst (λ gs. slice_get gs c.args.place ≡ Some (Some g)) c.requires.groups (at_read c.args.groups.now c.args.place _ (Some g) c.requires.place c.in-Some.is) in
    not_first c.args.said.now c.args.place g here c.in_default-earlier.field-0 (subst (IsLastIfAny (grouped c.args.said.now) c.args.place g) c.in_default-earlier.is (c.requires.earlier c.args.place g here))

pub returns-in-Some-excess : goal.returns-in-Some-excess
returns-in-Some-excess c =
    let g = c.in-Some.group in
    let here = subst (λ gs. slice_get gs c.args.place ≡ Some (Some g)) c.requires.groups (at_read c.args.groups.now c.args.place _ (Some g) c.requires.place c.in-Some.is) in
    crowded c.args.said.now c.args.place g here c.in-Some-excess.count (subst (IsLastIfAny (grouped c.args.said.now) c.args.place g) c.in-None.is (c.requires.earlier c.args.place g here))
    (c.in-Some-excess.ensures.0 ∙ c.requires.counts g) c.in-Some-excess.ensures.1

pub returns-in-None-excess : goal.returns-in-None-excess
returns-in-None-excess c =
    let g = c.in-Some.group in
    let here = subst (λ gs. slice_get gs c.args.place ≡ Some (Some g)) c.requires.groups (at_read c.args.groups.now c.args.place _ (Some g) c.requires.place c.in-Some.is) in
    few c.args.said.now c.args.place g here (subst (λ n. n ≤ most_of g) (c.requires.counts g) c.in-None-excess.ensures)
