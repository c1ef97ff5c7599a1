-- PAYROLL's 10 ends, and 20 is named.
use Rattle.std.proofs.Common.{rules, arith, ◌≡◌, ◌≢◌, inl, inr, refl, sym, ◌∙◌, ap, subst, pos, cond, List, [], ◌∷◌, Some, option_map}
use Rattle.std.specs.FinMap.{entries, find, from_entries, get, get-empty, get-from_entries}
use Rattle.plan_basics.specs.declared.Attr.TheVariants as attribute
use Rattle.plan_basics.specs.declared.keys.OpKey.{OpKey}
use Rattle.plan_basics.specs.declared.Refusal.{Refusal}
use Rattle.plan_basics.specs.declared.Refusal.TheVariants as refusal
use Rattle.plan_basics.specs.Intervals.{interval_by}
use Rattle.plan_basics.specs.Keys.{name_cmp, name_cmp_total, name_cmp-IsAntisymmetric, occurrence_cmp_total, operation_cmp, operation_cmp_total, operation_cmp-IsAntisymmetric}
use Rattle.plan_laws.proofs.Entries.{same_operation}
use Rattle.special_resources.proofs.Amounts.{none_held}
use Rattle.special_resources.specs.Holders.{OtherHolds, Usage}
use Rattle.status_rules.specs.declared.Mark.TheVariants as mark
use Rattle.status_rules.specs.declared.Status.TheVariants as status
use Rattle.ready_list.specs.declared.ReadyKey.{ReadyKey}
use Rattle.ready_list.specs.Choice.{is_among}
use Rattle.plan_model.specs.Holdings.{Holds, given_out, takes}
use Rattle.plan_model.specs.Contents.{Operation, attribute_at}
use Rattle.plan_model.specs.Ready.{IsChosen, IsEntry, named, with_mark}
use Rattle.plan_model.specs.Revise.{revise}
use Rattle.plan_model.specs.Starts.{IsAllowedToStart, MayStart}
use Rattle.plan_model.specs.Status.{HasStatus, IsReady}
use Rattle.plan_records.specs.declared.Request.{Request}
use Rattle.plan_records.specs.declared.What.TheVariants as what
use Rattle.plan_records.specs.Acceptance.{MayBeAccepted, MayBeEnded}
use Rattle.plan_records.specs.Changes.{is_at}
use Rattle.plan_laws.proofs.Kept.{named_none}
use Rattle.plan_model.proofs.Looks.{get-named}
use Rattle.std.proofs.lemmas.Option.{none-some}
use Rattle.worked_examples.specs.Day.{cpu1, evening, loaded_at, morning}
use Rattle.worked_examples.specs.Night.{alone, custfile, custfile_stock, done, dumm, end_of_night, end_of_second, loading, night, night_occurrences, night_operations, night_resources, payroll, payroll_at, prt1, second_ended, second_started, setp}
use Rattle.worked_examples.specs.Statements.{EndOfTheSecond}
use Rattle.worked_examples.proofs.Entries.{one_ready}
use Rattle.worked_examples.proofs.Facts.{marked_is_not_ready, waiting_is_not_ready}
use Rattle.worked_examples.proofs.Given.{given_out_by, given_out_is, lines_of_room, with_resources}
use Rattle.worked_examples.proofs.Lists.{anew, entries-from_entries, revise_written}
use Rattle.worked_examples.proofs.Literal.{each_entry, entry_of}
use Rattle.worked_examples.proofs.NightRefusals.{found_alone}
use Rattle.worked_examples.proofs.NightReports.{changed_at, found_at, found_done, found_revised, p5, p10, p20, p30, p40, when_done}
use Rattle.worked_examples.proofs.NightStarts.{latest_20}
use Rattle.worked_examples.proofs.NightStatuses.{five_statuses, workstation_at}
use Rattle.worked_examples.proofs.TrioChoice.{chosen_by, not_left}

-- ---- the operations, as they are once 10 ended

abbrev when_named : OpKey → Operation → Operation
when_named o op = changed_at 10 (with_mark mark.Named) o op

abbrev all_operations : List (OpKey × Operation)
all_operations = anew (when_done 10) (anew when_named (anew (when_done 5) night_operations))

operations_are : second_ended.operations ≡ from_entries all_operations
operations_are =
    ap (λ m. revise (when_done 10) (revise when_named m)) (revise_written operation_cmp_total operation_cmp-IsAntisymmetric (when_done 5) night_operations)
    ∙ ap (revise (when_done 10)) (revise_written operation_cmp_total operation_cmp-IsAntisymmetric when_named (anew (when_done 5) night_operations))
    ∙ revise_written operation_cmp_total operation_cmp-IsAntisymmetric (when_done 10) (anew when_named (anew (when_done 5) night_operations))

found_then : (o : OpKey) → get second_ended.operations o ≡ find operation_cmp o all_operations
found_then o = ap (λ m. get m o) operations_are ∙ get-from_entries operation_cmp_total all_operations o

-- what holds of the five operations as they are, holds of each that is found
of_five : (Q : OpKey → Operation → Type 0) → Q (payroll_at 5) (with_mark mark.Done p5) → Q (payroll_at 10) (with_mark mark.Done p10) → Q (payroll_at 20) p20 → Q (payroll_at 30) p30 → Q (payroll_at 40) p40
    → (o : OpKey) (op : Operation) → get second_ended.operations o ≡ Some op → Q o op
of_five Q q5 q10 q20 q30 q40 o op is = each_entry operation_cmp_total operation_cmp-IsAntisymmetric all_operations Q (q5, (q10, (q20, (q30, (q40, tt))))) o op (sym (ap (λ m. get m o) operations_are) ∙ is)

statuses : HasStatus second_ended (payroll_at 5) status.Complete × HasStatus second_ended (payroll_at 10) status.Complete × HasStatus second_ended (payroll_at 20) status.Ready × HasStatus second_ended (payroll_at 30) status.Waiting × HasStatus second_ended (payroll_at 40) status.Waiting
statuses =
    five_statuses second_ended.operations (with_mark mark.Done p5) (with_mark mark.Done p10) p20 p30 p40
    (found_then (payroll_at 5), workstation_at setp, λ e. cc)
    (found_then (payroll_at 10), workstation_at cpu1, λ e. cc)
    (found_then (payroll_at 20), workstation_at cpu1, λ e. cc)
    (found_then (payroll_at 30), workstation_at dumm, λ e. cc)
    (found_then (payroll_at 40), workstation_at prt1, λ e. cc)

-- ---- the ready list

abbrev third_key : ReadyKey
third_key = record { latest = pos 27437979; priority = 5; duration = 60; op = payroll_at 20 }

third_entry : IsEntry second_ended third_key
third_entry = (inr (inr statuses.2), latest_20 second_ended.operations (found_then (payroll_at 20), found_then (payroll_at 30), found_then (payroll_at 40)), (p20, found_then (payroll_at 20), refl), (record { priority = 5; deadline = morning }, get-from_entries occurrence_cmp_total night_occurrences payroll, refl))

only_third : (o : OpKey) (op : Operation) → get second_ended.operations o ≡ Some op → IsReady second_ended o → o ≡ payroll_at 20
only_third = of_five (λ o op. IsReady second_ended o → o ≡ payroll_at 20)
    (λ ready. absurd (marked_is_not_ready second_ended (payroll_at 5) (with_mark mark.Done p5) status.Complete (found_then (payroll_at 5)) refl (λ e. cc) (λ e. cc) (λ e. cc) ready))
    (λ ready. absurd (marked_is_not_ready second_ended (payroll_at 10) (with_mark mark.Done p10) status.Complete (found_then (payroll_at 10)) refl (λ e. cc) (λ e. cc) (λ e. cc) ready))
    (λ ready. refl)
    (λ ready. absurd (waiting_is_not_ready second_ended (payroll_at 30) p30 (found_then (payroll_at 30)) refl statuses.3 ready))
    (λ ready. absurd (waiting_is_not_ready second_ended (payroll_at 40) p40 (found_then (payroll_at 40)) refl statuses.4 ready))

-- ---- 20 is allowed to start

on_cpu1 : attribute_at night cpu1 ≡ Some attribute.Automatic
on_cpu1 = ap (option_map (λ w. w.attribute)) (workstation_at cpu1)

given_out_then : given_out second_ended cpu1 ≡ given_out_by cpu1 (Some attribute.Automatic) all_operations
given_out_then = given_out_is second_ended cpu1 (Some attribute.Automatic) all_operations on_cpu1 (ap entries operations_are ∙ entries-from_entries operation_cmp_total operation_cmp-IsAntisymmetric all_operations tt)

-- no other operation needs the resource
no_holder : (o : OpKey) (op : Operation) → get second_ended.operations o ≡ Some op → (held : Usage) → o ≢ payroll_at 20 → get op.needs custfile ≡ Some held → ⊥
no_holder = of_five (λ o op. (held : Usage) → o ≢ payroll_at 20 → get op.needs custfile ≡ Some held → ⊥)
    (λ held other found. none-some held (sym (get-empty name_cmp custfile) ∙ found))
    (λ held other found. none-some held (sym (get-empty name_cmp custfile) ∙ found))
    (λ held other found. other refl)
    (λ held other found. none-some held (sym (get-empty name_cmp custfile) ∙ found))
    (λ held other found. none-some held (sym (get-empty name_cmp custfile) ∙ found))

resource_is_free : MayStart second_ended (payroll_at 20) p20 end_of_second refusal.ResourceBusy
resource_is_free r usage found = elim (entry_of name_cmp_total name_cmp-IsAntisymmetric ((custfile, alone) ∷ []) r usage found) [
  | inl e ↦
      let none : (other : OpKey) (held : Usage) → ¬ OtherHolds (Holds second_ended) (payroll_at 20) other r held =
      (λ other held holds. no_holder other holds.1.0 holds.1.1 held holds.0 (subst (λ z. get holds.1.0.needs z ≡ Some held) e.0 holds.1.2.0)) in (
        custfile_stock,
        subst (λ z. get night.resources z ≡ Some custfile_stock) (sym e.0) (get-from_entries name_cmp_total night_resources custfile),
        refl,
        (
          λ other held apart holds. absurd (none other held (apart, holds)),
          λ others are.
              let nothing = none_held same_operation r 0 (OtherHolds (Holds second_ended) (payroll_at 20)) none others are in
              let amount = ap (λ (u : Usage). u.claim.amount) e.1 in
              omega (arith, nothing, amount),
        ),
      )
  | inr never ↦ absurd never
]

third_allowed : IsAllowedToStart second_ended (payroll_at 20) end_of_second
third_allowed = (
  p20,
  found_then (payroll_at 20),
  with_resources second_ended (payroll_at 20) p20 (found_then (payroll_at 20)) attribute.Automatic (interval_by evening end_of_night 2 3 0) (workstation_at cpu1) end_of_second (given_out_by cpu1 (Some attribute.Automatic) all_operations) given_out_then resource_is_free
      (lines_of_room second_ended (payroll_at 20) p20 (found_then (payroll_at 20)) attribute.Automatic (interval_by evening end_of_night 2 3 0) (workstation_at cpu1) end_of_second (given_out_by cpu1 (Some attribute.Automatic) all_operations) given_out_then
      (inr (inr statuses.2)) refl (omega arith) (omega arith, omega arith) (omega arith) (omega arith) (omega arith)),
)

third_chosen : IsChosen second_ended end_of_second (payroll_at 20 ∷ [])
third_chosen =
    chosen_by second_ended end_of_second (third_key ∷ []) (payroll_at 20 ∷ []) (one_ready second_ended third_key third_entry only_third) refl ((p20, found_then (payroll_at 20), on_cpu1), tt)
    (subst (λ z. IsAllowedToStart z (payroll_at 20) end_of_second) (sym (named_none second_ended)) third_allowed, tt) (not_left _ refl, tt)

-- ---- the step

abbrev asking : Request
asking = record { at = pos end_of_second; what = what.Ended (payroll_at 10) }

second_is : get second_started.operations (payroll_at 10) ≡ Some (with_mark mark.Named p10)
second_is = found_revised (is_at (payroll_at 10)) (with_mark mark.Named) (done 5 night) (payroll_at 10) p10 (found_done 5 night (payroll_at 10) p10 (found_at (payroll_at 10)))

at_second : (r : Refusal) → MayBeEnded second_started (payroll_at 10) (with_mark mark.Named p10) (Some attribute.Automatic) r → (op : Operation) → get second_started.operations (payroll_at 10) ≡ Some op → MayBeEnded second_started (payroll_at 10) op (attribute_at second_started op.workstation) r
at_second r h =
    found_alone second_started (payroll_at 10) (with_mark mark.Named p10) (λ op. MayBeEnded second_started (payroll_at 10) op (attribute_at second_started op.workstation) r) second_is
    (subst (λ a. MayBeEnded second_started (payroll_at 10) (with_mark mark.Named p10) a r) (sym on_cpu1) h)

nothing_refuses : (r : Refusal) → MayBeAccepted (loaded_at loading second_started) asking r
nothing_refuses refusal.Past = search rules
nothing_refuses refusal.MomentRange = (end_of_second, refl, omega arith)
nothing_refuses refusal.NotLoaded = λ needs. refl
nothing_refuses refusal.Loaded = λ loads. absurd loads
nothing_refuses refusal.UnknownOperation = (with_mark mark.Named p10, second_is, tt)
nothing_refuses refusal.WrongStatus = at_second refusal.WrongStatus (inl (with_mark mark.Named p10, second_is, refl))
nothing_refuses r = at_second r tt

third_is_named : get (named (payroll_at 20 ∷ []) second_ended).operations (payroll_at 20) ≡ Some (with_mark mark.Named p20)
third_is_named = get-named (payroll_at 20 ∷ []) second_ended (payroll_at 20) ∙ ap (option_map (λ op. cond (is_among (payroll_at 20 ∷ []) (payroll_at 20)) (with_mark mark.Named op) op)) (found_then (payroll_at 20))

pub end_of_the_second : EndOfTheSecond
end_of_the_second = (
  record {
    none_refuses = nothing_refuses;
    is_request = tt;
    changed = second_ended;
    changes = refl;
    is_chosen = third_chosen;
    is_after = refl;
  },
  (with_mark mark.Named p20, third_is_named, (get-from_entries name_cmp_total ((custfile, alone) ∷ []) custfile, ap takes on_cpu1, refl)),
)
