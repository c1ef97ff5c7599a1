-- Requests that the night's plan refuses.
use Rattle.std.proofs.Common.{rules, arith, ◌≡◌, inl, inr, refl, sym, ◌∙◌, ap, subst, pos, ℕ, ◌<◌, ◌≤◌, true≢false, Some, List, [], ◌∷◌, is_some, Option, option_map, MatchOption}
use Rattle.std.specs.FinMap.{get, get-from_entries, nat_cmp-IsAntisymmetric}
use Rattle.std.specs.Cmp.{nat_cmp_total}
use Rattle.std.specs.FinSet.{contains}
use Rattle.std.specs.FinSet as set
use Rattle.std.specs.List.{list_any}
use Rattle.std.specs.Ordering.{eq_by_cmp}
use Rattle.plan_basics.specs.Keys.{occurrence_cmp_total}
use Rattle.plan_basics.specs.declared.Attr.TheVariants as attribute
use Rattle.plan_basics.specs.declared.keys.OpKey.{OpKey}
use Rattle.plan_basics.specs.declared.Refusal.{Refusal}
use Rattle.plan_basics.specs.declared.Refusal.TheVariants as refusal
use Rattle.plan_basics.specs.Intervals.{IsOpenAt, OpenInterval, interval_by}
use Rattle.plan_basics.specs.Refusals.{number_of}
use Rattle.workstations.specs.Workstations.{Workstation}
use Rattle.operation_graph.specs.Paths.{LeadsBy, by_edge, by_more}
use Rattle.status_rules.specs.declared.Status.TheVariants as status
use Rattle.status_rules.specs.declared.Mark.TheVariants as mark
use Rattle.status_rules.specs.Table.{marked_status}
use Rattle.plan_model.specs.Contents.{Contents, IsPairOf, Operation, Precedes, attribute_at, pair_cmp}
use Rattle.plan_model.specs.Ready.{with_mark}
use Rattle.plan_model.specs.Status.{HasStatus, UnmarkedStatus}
use Rattle.plan_model.specs.Starts.{FitsAt}
use Rattle.plan_records.specs.declared.Request.{Request}
use Rattle.plan_records.specs.declared.What.TheVariants as what
use Rattle.plan_records.specs.Answer.{refused}
use Rattle.plan_records.specs.Changes.{is_at}
use Rattle.plan_records.specs.Acceptance.{MayBeAccepted, MayBeStarted}
use Rattle.plan_records.specs.Step.{Step}
use Rattle.plan_laws.proofs.Decide.{pair_cmp_total}
use Rattle.std.proofs.lemmas.Option.{same_Some}
use Rattle.worked_examples.specs.Night.{night, night_occurrences, night_pairs, payroll, payroll_at, loading, two_at_night, setp, setp_station, done, third_started}
use Rattle.worked_examples.specs.Day.{evening, loaded_at}
use Rattle.worked_examples.specs.Statements.{StartsWhileClosed, PairThatLeadsBack, DeletionWhileStarted, SecondLoad}
use Rattle.worked_examples.proofs.Literal.{entry_of, one_before}
use Rattle.worked_examples.proofs.NightReports.{found_at, found_both, found_revised, p5, p20, p40, statuses_when_loaded}
use Rattle.worked_examples.proofs.NightStatuses.{workstation_at}

-- the one interval of SETP
interval_of_setp : (ws : Workstation) → get night.workstations setp ≡ Some ws → (from : ℕ) (x : OpenInterval) → get ws.intervals from ≡ Some x → x ≡ interval_by evening two_at_night 1 0 0
interval_of_setp ws is from x found =
    let e : ws ≡ setp_station = same_Some ws setp_station (sym is ∙ workstation_at setp) in
    let k : get setp_station.intervals from ≡ Some x = subst (λ w. get w.intervals from ≡ Some x) e found in
    elim (entry_of nat_cmp_total nat_cmp-IsAntisymmetric ((evening, interval_by evening two_at_night 1 0 0) ∷ []) from x k) [ inl h ↦ h.1 | inr h ↦ absurd h ]

-- what holds of the operation that is found, holds of any that is found
pub found_alone : (P : Contents) (o : OpKey) (op : Operation) (Q : Operation → Type 0) → get P.operations o ≡ Some op → Q op → (x : Operation) → get P.operations o ≡ Some x → Q x
found_alone P o op Q is h x found = subst Q (same_Some op x (sym is ∙ found)) h

pub on_setp : attribute_at night setp ≡ Some attribute.StartAndCompletion
on_setp = ap (option_map (λ w. w.attribute)) (workstation_at setp)

-- ---- a start while the workstation is closed

module _ (m : ℕ) (later : loading ≤ m) (in_range : m < 52596000) (closed : IsOpenAt (interval_by evening two_at_night 1 0 0) m → ⊥) where
  abbrev starting : Request
  starting = record { at = pos m; what = what.Started (payroll_at 5) }

  -- what may be so of the first operation, once it and its workstation's attribute are looked up
  at_first : (r : Refusal) → MayBeStarted night m (payroll_at 5) p5 (Some attribute.StartAndCompletion) r → (op : Operation) → get night.operations (payroll_at 5) ≡ Some op → MayBeStarted night m (payroll_at 5) op (attribute_at night op.workstation) r
  at_first r h = found_alone night (payroll_at 5) p5 (λ op. MayBeStarted night m (payroll_at 5) op (attribute_at night op.workstation) r) (found_at (payroll_at 5)) (subst (λ a. MayBeStarted night m (payroll_at 5) p5 a r) (sym on_setp) h)

  lower_lines : (r : Refusal) → number_of r < 13 → MayBeAccepted (loaded_at loading night) starting r
  lower_lines refusal.Past h = search rules
  lower_lines refusal.MomentRange h = (m, refl, in_range)
  lower_lines refusal.NotLoaded h = λ needs. refl
  lower_lines refusal.UnknownOperation h = (p5, found_at (payroll_at 5), tt)
  lower_lines refusal.WrongStatus h = at_first refusal.WrongStatus (inl (inl statuses_when_loaded.0))
  lower_lines refusal.Held h = at_first refusal.Held refl
  lower_lines refusal.TooEarly h = at_first refusal.TooEarly (omega arith)
  lower_lines refusal.Loaded h = λ loads. absurd loads
  lower_lines refusal.UnknownOccurrence h = at_first refusal.UnknownOccurrence tt
  lower_lines refusal.UnknownWorkstation h = at_first refusal.UnknownWorkstation tt
  lower_lines refusal.UnknownResource h = at_first refusal.UnknownResource tt
  lower_lines refusal.WrongWorkstation h = at_first refusal.WrongWorkstation tt
  lower_lines r h = absurd (omega (arith, h))

  not_open : FitsAt night p5 m refusal.Closed → ⊥
  not_open fits =
      let capacity = fits.2.1 in
      closed (subst (λ x. IsOpenAt x m) (interval_of_setp fits.0 fits.1 capacity.0 capacity.1 capacity.2) capacity.3)

  pub start_is_refused : Step (loaded_at loading night) starting (refused refusal.Closed) (loaded_at loading night)
  start_is_refused = record {
    least = (
      λ may.
          let fits = subst (λ a. MayBeStarted night m (payroll_at 5) p5 a refusal.Closed) on_setp (may p5 (found_at (payroll_at 5))) in
          not_open fits,
      lower_lines,
    );
    is_after = refl;
  }

pub starts_while_closed : StartsWhileClosed
starts_while_closed = (
  start_is_refused 27437639 (omega arith) (omega arith) (λ now. omega (arith, now.0)),
  start_is_refused two_at_night (omega arith) (omega arith) (λ now. omega (arith, now.1)),
)

-- ---- a pair that leads back

abbrev linking : Request
linking = record { at = pos loading; what = what.AddDependency (payroll_at 40) (payroll_at 5) }

-- an operation without a mark isn't deleted
not_deleted : (P : Contents) (o : OpKey) (op : Operation) → get P.operations o ≡ Some op → op.mark ≡ mark.Unmarked → HasStatus P o status.Deleted → ⊥
not_deleted P o op is none h =
    subst (λ m. MatchOption (marked_status m) (UnmarkedStatus P o status.Deleted) (λ t. status.Deleted ≡ t)) (ap (λ x. x.mark) (same_Some h.0 op (sym h.1 ∙ is)) ∙ none) h.2

no_pair : Precedes night (payroll_at 40) (payroll_at 5) → ⊥
no_pair h = one_before night_pairs (payroll_at 40) (payroll_at 5) h

lower_than_cycle : (r : Refusal) → number_of r < 19 → MayBeAccepted (loaded_at loading night) linking r
lower_than_cycle refusal.Past h = search rules
lower_than_cycle refusal.MomentRange h = (loading, refl, omega arith)
lower_than_cycle refusal.NotLoaded h = λ needs. refl
lower_than_cycle refusal.Loaded h = λ loads. absurd loads
lower_than_cycle refusal.UnknownOperation h = ((p40, found_at (payroll_at 40), tt), (p5, found_at (payroll_at 5), tt))
lower_than_cycle refusal.WrongStatus h = (not_deleted night (payroll_at 40) p40 (found_at (payroll_at 40)) refl, inr (inl statuses_when_loaded.0))
lower_than_cycle refusal.Duplicate h = no_pair
lower_than_cycle refusal.Cycle h = absurd (omega (arith, h))
lower_than_cycle refusal.Limit h = absurd (omega (arith, h))
lower_than_cycle r h = tt

abbrev linked_pairs : List (OpKey × OpKey)
linked_pairs = (payroll_at 40, payroll_at 5) ∷ night_pairs

abbrev Leads : OpKey → OpKey → Type 0
Leads = LeadsBy (IsPairOf (set.from_list {R = pair_cmp} linked_pairs))

linked : (p o : OpKey) → contains (set.from_list {R = pair_cmp} linked_pairs) (p, o) ≡ list_any (eq_by_cmp pair_cmp (p, o)) linked_pairs
linked p o = set.contains-from_list pair_cmp_total linked_pairs (p, o)

leads_back : Leads (payroll_at 5) (payroll_at 5)
leads_back =
    by_more (linked (payroll_at 5) (payroll_at 10))
    (by_more (linked (payroll_at 10) (payroll_at 20))
    (by_more (linked (payroll_at 20) (payroll_at 30))
    (by_more (linked (payroll_at 30) (payroll_at 40))
    (by_edge (linked (payroll_at 40) (payroll_at 5))))))

pub pair_leads_back : PairThatLeadsBack
pair_leads_back = record {
  least = (λ acyclic. acyclic (payroll_at 5) leads_back, lower_than_cycle);
  is_after = refl;
}

-- ---- a deletion while an operation is started

abbrev deleting : Request
deleting = record { at = pos evening; what = what.DeleteOccurrence payroll }

third_is : get third_started.operations (payroll_at 20) ≡ Some (with_mark mark.Named p20)
third_is = found_revised (is_at (payroll_at 20)) (with_mark mark.Named) (done 10 (done 5 night)) (payroll_at 20) p20 (found_both (payroll_at 20) p20 (found_at (payroll_at 20)))

third_is_started : HasStatus third_started (payroll_at 20) status.Started
third_is_started = (with_mark mark.Named p20, third_is, refl)

-- what is started isn't deleted
started_only : HasStatus third_started (payroll_at 20) status.Deleted → ⊥
started_only h =
    let e : status.Deleted ≡ status.Started = subst (λ op. MatchOption (marked_status op.mark) (UnmarkedStatus third_started (payroll_at 20) status.Deleted) (λ t. status.Deleted ≡ t)) (same_Some h.0 (with_mark mark.Named p20) (sym h.1 ∙ third_is)) h.2 in
    cc

lower_than_running : (r : Refusal) → number_of r < 17 → MayBeAccepted (loaded_at loading third_started) deleting r
lower_than_running refusal.Past h = search rules
lower_than_running refusal.MomentRange h = (evening, refl, omega arith)
lower_than_running refusal.NotLoaded h = λ needs. refl
lower_than_running refusal.Loaded h = λ loads. absurd loads
lower_than_running refusal.UnknownOccurrence h = ap is_some (get-from_entries occurrence_cmp_total night_occurrences payroll)
lower_than_running refusal.WrongStatus h = λ all. started_only (all (payroll_at 20) refl (with_mark mark.Named p20, third_is, tt))
lower_than_running refusal.Running h = absurd (omega (arith, h))
lower_than_running r h = tt

pub deletion_while_started : DeletionWhileStarted
deletion_while_started = record {
  least = (λ may. may (payroll_at 20) refl (inl third_is_started), lower_than_running);
  is_after = refl;
}

-- ---- a second load

module _ (draft : Option Contents) where
  abbrev loading_again : Request
  loading_again = record { at = pos loading; what = what.Load draft }

  lower_than_loaded : (r : Refusal) → number_of r < 4 → MayBeAccepted (loaded_at loading night) loading_again r
  lower_than_loaded refusal.Past h = search rules
  lower_than_loaded refusal.MomentRange h = (loading, refl, omega arith)
  lower_than_loaded refusal.NotLoaded h = λ needs. absurd needs
  lower_than_loaded r h = absurd (omega (arith, h))

pub second_load : SecondLoad
second_load draft = record {
  least = (λ may. true≢false (may tt), lower_than_loaded draft);
  is_after = refl;
}
