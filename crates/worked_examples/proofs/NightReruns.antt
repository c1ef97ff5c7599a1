-- What a rerun reaches in the night's plan, and the statuses after it.
use Rattle.std.proofs.Common.{◌≡◌, ◌≢◌, ◌↔◌, ◌∙◌, refl, subst, true, List, [], ◌∷◌, Some}
use Rattle.std.specs.FinMap.{get}
use Rattle.std.specs.FinSet.{contains-from_list}
use Rattle.std.specs.List.{list_any}
use Rattle.std.specs.Ordering.{eq_by_cmp}
use Rattle.plan_basics.specs.declared.keys.OpKey.{OpKey}
use Rattle.operation_graph.specs.Paths.{IsPathBy, end_of}
use Rattle.status_rules.specs.declared.Mark.TheVariants as mark
use Rattle.ready_list.specs.Choice.{is_among}
use Rattle.plan_model.specs.Contents.{IsLive, Operation, Operations, Precedes, pair_cmp}
use Rattle.plan_model.specs.Ready.{with_mark}
use Rattle.plan_model.specs.Starts.{Reaches}
use Rattle.plan_laws.proofs.Decide.{pair_cmp_total}
use Rattle.plan_model.proofs.Looks.{split_at}
use Rattle.worked_examples.specs.Day.{cpu1}
use Rattle.worked_examples.specs.Night.{dumm, from_first_again, from_third_again, night, night_pairs, payroll_at, prt1, setp, three_done, two_passed}
use Rattle.worked_examples.specs.Statements.{RerunOfTheFirst, RerunOfTheThird}
use Rattle.worked_examples.proofs.Lists.{EachSplit, each_split}
use Rattle.worked_examples.proofs.NightDraft.{of_pairs}
use Rattle.worked_examples.proofs.NightReports.{found_at, found_revised, found_three, found_two, noped, p5, p10, p20, p30, p40}
use Rattle.worked_examples.proofs.NightStatuses.{five_statuses, reported, workstation_at}

-- the night's plan, whatever is reported
module _ (operations : Operations) (ks : List OpKey) (closed : (p o : OpKey) → Precedes night p o → is_among ks p ≡ true → is_among ks o ≡ true) where
  -- a path that begins in a set closed under successors ends in it
  ends_in : (a : OpKey) (rest : List OpKey) → is_among ks a ≡ true → IsPathBy (Precedes night) (IsLive (reported operations)) a rest → is_among ks (end_of a rest) ≡ true
  ends_in a [] has path = has
  ends_in a (b ∷ rest) has path = ends_in b rest (closed a b path.0 has) path.2

  -- the set is what a reaches
  reached : (a : OpKey) → is_among ks a ≡ true → EachSplit ks (λ before o. Reaches (reported operations) a o) → (q : OpKey) → (is_among ks q ≡ true) ↔ Reaches (reported operations) a q
  reached a has each q = (
    λ among. let s = split_at ks q among in each_split ks (λ before o. Reaches (reported operations) a o) each s.0 s.1 q s.2,
    λ path. subst (λ z. is_among ks z ≡ true) path.2 (ends_in a path.0 has path.1),
  )

-- what an operation reaches, the one before it reaches
onward : (operations : Operations) (p o : OpKey) (op : Operation) → list_any (eq_by_cmp pair_cmp (p, o)) night_pairs ≡ true → get operations o ≡ Some op → op.mark ≢ mark.Deleted → (q : OpKey) → Reaches (reported operations) o q → Reaches (reported operations) p q
onward operations p o op edge is lives q path = (o ∷ path.0, (contains-from_list pair_cmp_total night_pairs (p, o) ∙ edge, (op, is, lives), path.1), path.2)

-- ---- from 20

abbrev last_three : List OpKey
last_three = payroll_at 20 ∷ payroll_at 30 ∷ payroll_at 40 ∷ []

reached_from_third : (q : OpKey) → (is_among last_three q ≡ true) ↔ Reaches three_done (payroll_at 20) q
reached_from_third =
    let to_30 = onward three_done.operations (payroll_at 20) (payroll_at 30) p30 refl (found_three (payroll_at 30) p30 (found_at (payroll_at 30))) (λ e. cc) in
    let to_40 = onward three_done.operations (payroll_at 30) (payroll_at 40) p40 refl (found_three (payroll_at 40) p40 (found_at (payroll_at 40))) (λ e. cc) in
    reached three_done.operations last_three (of_pairs (λ p o. is_among last_three p ≡ true → is_among last_three o ≡ true) (λ h. h) (λ h. refl) (λ h. refl) (λ h. refl)) (payroll_at 20) refl
    (([], tt, refl), (to_30 _ ([], tt, refl), (to_30 _ (to_40 _ ([], tt, refl)), tt)))

pub rerun_of_the_third : RerunOfTheThird
rerun_of_the_third =
    let all = five_statuses from_third_again.operations (with_mark mark.Done p5) (with_mark mark.Done p10) p20 p30 p40
    (found_revised (is_among last_three) (with_mark mark.Unmarked) three_done (payroll_at 5) (with_mark mark.Done p5) (found_three (payroll_at 5) p5 (found_at (payroll_at 5))), workstation_at setp, λ e. cc)
    (found_revised (is_among last_three) (with_mark mark.Unmarked) three_done (payroll_at 10) (with_mark mark.Done p10) (found_three (payroll_at 10) p10 (found_at (payroll_at 10))), workstation_at cpu1, λ e. cc)
    (found_revised (is_among last_three) (with_mark mark.Unmarked) three_done (payroll_at 20) (with_mark mark.Done p20) (found_three (payroll_at 20) p20 (found_at (payroll_at 20))), workstation_at cpu1, λ e. cc)
    (found_revised (is_among last_three) (with_mark mark.Unmarked) three_done (payroll_at 30) p30 (found_three (payroll_at 30) p30 (found_at (payroll_at 30))), workstation_at dumm, λ e. cc)
    (found_revised (is_among last_three) (with_mark mark.Unmarked) three_done (payroll_at 40) p40 (found_three (payroll_at 40) p40 (found_at (payroll_at 40))), workstation_at prt1, λ e. cc) in
    ((is_among last_three, reached_from_third, refl), all.1, all.2, all.3, all.4)

-- ---- from 5

abbrev all_five : List OpKey
all_five = payroll_at 5 ∷ payroll_at 10 ∷ payroll_at 20 ∷ payroll_at 30 ∷ payroll_at 40 ∷ []

reached_from_first : (q : OpKey) → (is_among all_five q ≡ true) ↔ Reaches two_passed (payroll_at 5) q
reached_from_first =
    let to_10 = onward two_passed.operations (payroll_at 5) (payroll_at 10) (noped p10) refl (found_two (payroll_at 10) p10 (found_at (payroll_at 10))) (λ e. cc) in
    let to_20 = onward two_passed.operations (payroll_at 10) (payroll_at 20) (noped p20) refl (found_two (payroll_at 20) p20 (found_at (payroll_at 20))) (λ e. cc) in
    let to_30 = onward two_passed.operations (payroll_at 20) (payroll_at 30) p30 refl (found_two (payroll_at 30) p30 (found_at (payroll_at 30))) (λ e. cc) in
    let to_40 = onward two_passed.operations (payroll_at 30) (payroll_at 40) p40 refl (found_two (payroll_at 40) p40 (found_at (payroll_at 40))) (λ e. cc) in
    reached two_passed.operations all_five (of_pairs (λ p o. is_among all_five p ≡ true → is_among all_five o ≡ true) (λ h. refl) (λ h. refl) (λ h. refl) (λ h. refl)) (payroll_at 5) refl
    (([], tt, refl), (to_10 _ ([], tt, refl), (to_10 _ (to_20 _ ([], tt, refl)), (to_10 _ (to_20 _ (to_30 _ ([], tt, refl))), (to_10 _ (to_20 _ (to_30 _ (to_40 _ ([], tt, refl)))), tt)))))

pub rerun_of_the_first : RerunOfTheFirst
rerun_of_the_first =
    let all = five_statuses from_first_again.operations p5 (noped p10) (noped p20) p30 p40
    (found_revised (is_among all_five) (with_mark mark.Unmarked) two_passed (payroll_at 5) (with_mark mark.Done p5) (found_two (payroll_at 5) p5 (found_at (payroll_at 5))), workstation_at setp, λ e. cc)
    (found_revised (is_among all_five) (with_mark mark.Unmarked) two_passed (payroll_at 10) (noped p10) (found_two (payroll_at 10) p10 (found_at (payroll_at 10))), workstation_at cpu1, λ e. cc)
    (found_revised (is_among all_five) (with_mark mark.Unmarked) two_passed (payroll_at 20) (noped p20) (found_two (payroll_at 20) p20 (found_at (payroll_at 20))), workstation_at cpu1, λ e. cc)
    (found_revised (is_among all_five) (with_mark mark.Unmarked) two_passed (payroll_at 30) p30 (found_two (payroll_at 30) p30 (found_at (payroll_at 30))), workstation_at dumm, λ e. cc)
    (found_revised (is_among all_five) (with_mark mark.Unmarked) two_passed (payroll_at 40) p40 (found_two (payroll_at 40) p40 (found_at (payroll_at 40))), workstation_at prt1, λ e. cc) in
    ((is_among all_five, reached_from_first, refl), all.0, all.1, all.2, all.3, all.4)
