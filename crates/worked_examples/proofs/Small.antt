-- The statuses of the small plan.
use Rattle.std.proofs.Common.{rules, subst, MatchOption, pos, ◌<◌, ◌≡◌, inl, inr, refl, sym, ◌∙◌, ap, true≢false, arith, Bool, true, false, ◌||◌, ◌∷◌, [], Some, option_map}
use Rattle.std.specs.Ordering.{eq_by_cmp}
use Rattle.std.specs.FinMap.{get, get-from_entries}
use Rattle.std.specs.FinSet.{contains-from_list}
use Rattle.plan_basics.specs.declared.Attr.TheVariants.{Automatic, Nonreporting}
use Rattle.plan_basics.specs.declared.keys.OpKey.{OpKey}
use Rattle.plan_basics.specs.declared.Refusal.{Refusal}
use Rattle.plan_basics.specs.declared.Refusal.TheVariants as refusal
use Rattle.plan_basics.specs.Refusals.{number_of}
use Rattle.status_rules.specs.declared.Status.{Status}
use Rattle.status_rules.specs.Table.{marked_status}
use Rattle.plan_records.specs.declared.Request.{Request}
use Rattle.plan_records.specs.declared.What.TheVariants as what
use Rattle.plan_records.specs.Answer.{refused}
use Rattle.plan_records.specs.Acceptance.{MayBeEnded, MayBeAccepted}
use Rattle.plan_records.specs.Step.{Step}
use Rattle.plan_basics.specs.Keys.{name_cmp_total, operation_cmp_total}
use Rattle.status_rules.specs.declared.Mark.TheVariants as mark
use Rattle.status_rules.specs.declared.Status.TheVariants as status
use Rattle.plan_model.specs.Contents.{Operation, pair_cmp, attribute_at, Precedes}
use Rattle.plan_model.specs.Status.{IsSatisfied, HasStatus, UnmarkedStatus}
use Rattle.std.proofs.lemmas.Option.{same_Some}
use Rattle.plan_laws.proofs.Decide.{invert, pair_cmp_total, pair_same}
use Rattle.worked_examples.specs.Day.{day, evening, loaded_at, first, second, lasting, cpu1, always_open}

pub first_is : get day.operations first ≡ Some (lasting 30)
first_is = get-from_entries operation_cmp_total ((first, lasting 30) ∷ (second, lasting 60) ∷ []) first

pub second_is : get day.operations second ≡ Some (lasting 60)
second_is = get-from_entries operation_cmp_total ((first, lasting 30) ∷ (second, lasting 60) ∷ []) second

pub on_automatic : attribute_at day cpu1 ≡ Some Automatic
on_automatic = ap (option_map (λ w. w.attribute)) (get-from_entries name_cmp_total ((cpu1, always_open) ∷ []) cpu1)

pub unsatisfied : (o : OpKey) (duration : _) → get day.operations o ≡ Some (lasting duration) → IsSatisfied day o → ⊥
unsatisfied o duration is s =
    let c = invert day s in
    let e : c.0 ≡ lasting duration = same_Some c.0 (lasting duration) (sym c.1 ∙ is) in
    elim c.2 [
      | inl done ↦ let k : mark.Unmarked ≡ mark.Done = ap (λ z. z.mark) (sym e) ∙ done in cc
      | inr (inl gone) ↦ let k : mark.Unmarked ≡ mark.Deleted = ap (λ z. z.mark) (sym e) ∙ gone in cc
      | inr (inr passes) ↦ elim passes.2 [
        | inl nop ↦ true≢false (sym nop ∙ ap (λ z. z.nop) e)
        | inr on ↦ let k : Automatic ≡ Nonreporting = same_Some Automatic Nonreporting (sym on_automatic ∙ ap (λ z. attribute_at day z.workstation) (sym e) ∙ on) in cc
      ]
    ]

alone : (b : Bool) → (b || false) ≡ true → b ≡ true
alone true e = refl
alone false e = e

first_follows_none : (p : OpKey) → Precedes day p first → ⊥
first_follows_none p h =
    let same = pair_same p first first second (alone (eq_by_cmp pair_cmp (p, first) (first, second)) (sym (contains-from_list pair_cmp_total ((first, second) ∷ []) (p, first)) ∙ h)) in
    let numbers : 10 ≡ 20 = ap (λ k. k.number) same.1 in
    omega (arith, numbers)

pub first_precedes : Precedes day first second
first_precedes = contains-from_list pair_cmp_total ((first, second) ∷ []) (first, second)

pub first_arrives : HasStatus day first status.Arriving
first_arrives = (lasting 30, first_is, (unsatisfied first 30 first_is, λ p live. first_follows_none p live.0))

pub second_waits : HasStatus day second status.Waiting
second_waits = (lasting 60, second_is, (unsatisfied second 60 second_is, λ all. unsatisfied first 30 first_is (all first (first_precedes, (lasting 30, first_is, λ e. cc)))))

-- ---- an end that is refused

-- the second operation's mark decides no status, so that it has none but those of unmarked operations
not_by_mark : (s : Status) → (UnmarkedStatus day second s → ⊥) → HasStatus day second s → ⊥
not_by_mark s never h =
    never (subst (λ op. MatchOption (marked_status op.mark) (UnmarkedStatus day second s) (λ t. s ≡ t)) (same_Some h.0 (lasting 60) (sym h.1 ∙ second_is)) h.2)

-- what may be so of the second operation, once its workstation's attribute is looked up
at_second : (r : Refusal) → MayBeEnded day second (lasting 60) (Some Automatic) r → (op : Operation) → get day.operations second ≡ Some op → MayBeEnded day second op (attribute_at day op.workstation) r
at_second r h op is =
    subst (λ x. MayBeEnded day second x (attribute_at day x.workstation) r) (same_Some (lasting 60) op (sym second_is ∙ is))
    (subst (λ a. MayBeEnded day second (lasting 60) a r) (sym on_automatic) h)

abbrev ending : Request
ending = record { at = pos evening; what = what.Ended second }

lower_lines : (r : Refusal) → number_of r < 9 → MayBeAccepted (loaded_at 0 day) ending r
lower_lines refusal.Past h = search rules
lower_lines refusal.MomentRange h = (evening, refl, omega arith)
lower_lines refusal.NotLoaded h = λ needs. refl
lower_lines refusal.UnknownOperation h = (lasting 60, second_is, tt)
lower_lines refusal.Loaded h = λ loads. absurd loads
lower_lines refusal.UnknownOccurrence h = at_second refusal.UnknownOccurrence tt
lower_lines refusal.UnknownWorkstation h = at_second refusal.UnknownWorkstation tt
lower_lines refusal.UnknownResource h = at_second refusal.UnknownResource tt
lower_lines r h = absurd (omega (arith, h))

pub end_is_refused : Step (loaded_at 0 day) ending (refused refusal.WrongStatus) (loaded_at 0 day)
end_is_refused = record {
  least = (
    λ may. elim (subst (λ a. MayBeEnded day second (lasting 60) a refusal.WrongStatus) on_automatic (may (lasting 60) second_is)) [
      | inl started ↦ not_by_mark status.Started (λ h. h) started
      | inr undecided ↦ not_by_mark status.Undecided (λ h. h) undecided
    ],
    lower_lines,
  );
  is_after = refl;
}
