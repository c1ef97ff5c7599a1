-- What keeps BILLING from starting: a resource that a failed operation keeps.
use Rattle.std.proofs.Common.{arith, ◌≡◌, ◌≢◌, inl, refl, sym, ◌∙◌, ap, ap₂, subst, Bool, true, false, true≢false, ◌||◌, List, [], ◌∷◌, Some, None, option_map, codes}
use Rattle.std.specs.FinMap.{entries, from_entries, get, get-from_entries}
use Rattle.std.specs.FinSet as set
use Rattle.plan_basics.specs.declared.Attr.TheVariants as attribute
use Rattle.plan_basics.specs.declared.keys.OpKey.{OpKey}
use Rattle.plan_basics.specs.declared.Refusal.{Refusal}
use Rattle.plan_basics.specs.declared.Refusal.TheVariants as refusal
use Rattle.plan_basics.specs.Intervals.{interval_by}
use Rattle.plan_basics.specs.Keys.{name_cmp_total, operation_cmp, operation_cmp_total, operation_cmp-IsAntisymmetric}
use Rattle.special_resources.specs.declared.Mode.TheVariants.{Exclusive, Shared}
use Rattle.status_rules.specs.declared.Mark.TheVariants as mark
use Rattle.status_rules.specs.declared.Status.TheVariants as status
use Rattle.plan_model.specs.Holdings.{Holds, given_out, takes}
use Rattle.plan_model.specs.Contents.{Operation, Precedes, pair_cmp}
use Rattle.plan_model.specs.Ready.{with_mark}
use Rattle.plan_model.specs.Revise.{get-joined, joined, or_else, revise}
use Rattle.plan_model.specs.Starts.{MayStart}
use Rattle.plan_model.specs.Status.{HasStatus}
use Rattle.plan_records.specs.Changes.{is_at}
use Rattle.plan_laws.proofs.Decide.{pair_cmp_total}
use Rattle.worked_examples.specs.Day.{cpu1, evening}
use Rattle.worked_examples.specs.Night.{alone, cpu1_station, custfile, done, end_of_night, night, night_operations, night_pairs, payroll_at}
use Rattle.worked_examples.specs.Billing.{billing_key, billing_operation, eleven, failed, one_shared, with_billing}
use Rattle.worked_examples.specs.Statements.{KeptResource}
use Rattle.worked_examples.proofs.Facts.{status_of_first}
use Rattle.worked_examples.proofs.Given.{given_out_by, given_out_is, lines_of_room}
use Rattle.worked_examples.proofs.Lists.{anew, entries-from_entries, joined_written, revise_written}
use Rattle.worked_examples.proofs.Literal.{one_before}
use Rattle.worked_examples.proofs.NightReports.{changed_at, found_at, found_both, found_revised, p20, when_done}
use Rattle.worked_examples.proofs.NightStatuses.{workstation_at}

-- an operation of the night's plan, looked up where BILLING was added
added : (o : OpKey) (op : Operation) → get (from_entries {R = operation_cmp} ((billing_key, billing_operation) ∷ [])) o ≡ None → get (done 10 (done 5 night)).operations o ≡ Some op → get with_billing.operations o ≡ Some op
added o op new old = get-joined operation_cmp_total (done 10 (done 5 night)).operations (from_entries ((billing_key, billing_operation) ∷ [])) o ∙ ap₂ or_else new old

billing_found : get with_billing.operations billing_key ≡ Some billing_operation
billing_found = get-joined operation_cmp_total (done 10 (done 5 night)).operations (from_entries ((billing_key, billing_operation) ∷ [])) billing_key ∙ ap (λ x. or_else x (get (done 10 (done 5 night)).operations billing_key)) (get-from_entries operation_cmp_total ((billing_key, billing_operation) ∷ []) billing_key)

billing_is : get failed.operations billing_key ≡ Some billing_operation
billing_is = found_revised (is_at (payroll_at 20)) (with_mark (mark.Error (codes "S0C7"))) with_billing billing_key billing_operation billing_found

third_is : get failed.operations (payroll_at 20) ≡ Some (with_mark (mark.Error (codes "S0C7")) p20)
third_is =
    found_revised (is_at (payroll_at 20)) (with_mark (mark.Error (codes "S0C7"))) with_billing (payroll_at 20) p20
    (added (payroll_at 20) p20 (get-from_entries operation_cmp_total ((billing_key, billing_operation) ∷ []) (payroll_at 20)) (found_both (payroll_at 20) p20 (found_at (payroll_at 20))))

never_before : (b : Bool) (p o : OpKey) → set.contains (set.from_list {R = pair_cmp} night_pairs) (p, o) ≡ b → (b || set.contains (set.empty {R = pair_cmp}) (p, o)) ≡ true → (set.contains (set.from_list {R = pair_cmp} night_pairs) (p, o) ≡ true → ⊥) → ⊥
never_before true p o is h never = never is
never_before false p o is h never = true≢false (sym h ∙ set.contains-empty pair_cmp (p, o))

no_pair : (p : OpKey) → Precedes failed p billing_key → ⊥
no_pair p h =
    never_before (set.contains night.pairs (p, billing_key)) p billing_key refl (sym (set.contains-union pair_cmp_total night.pairs set.empty (p, billing_key)) ∙ h)
    (λ k. one_before night_pairs p billing_key k)

arrives : HasStatus failed billing_key status.Arriving
arrives = status_of_first failed billing_key billing_operation cpu1_station billing_is (workstation_at cpu1) no_pair

-- all operations, as they are
abbrev when_failed : OpKey → Operation → Operation
when_failed o op = changed_at 20 (with_mark (mark.Error (codes "S0C7"))) o op

abbrev all_operations : List (OpKey × Operation)
all_operations = anew when_failed ((billing_key, billing_operation) ∷ anew (when_done 10) (anew (when_done 5) night_operations))

operations_are : failed.operations ≡ from_entries all_operations
operations_are =
    ap (λ m. revise when_failed (joined (revise (when_done 10) m) (from_entries ((billing_key, billing_operation) ∷ [])))) (revise_written operation_cmp_total operation_cmp-IsAntisymmetric (when_done 5) night_operations)
    ∙ ap (λ m. revise when_failed (joined m (from_entries ((billing_key, billing_operation) ∷ [])))) (revise_written operation_cmp_total operation_cmp-IsAntisymmetric (when_done 10) (anew (when_done 5) night_operations))
    ∙ ap (revise when_failed) (joined_written operation_cmp_total operation_cmp-IsAntisymmetric (anew (when_done 10) (anew (when_done 5) night_operations)) billing_key billing_operation)
    ∙ revise_written operation_cmp_total operation_cmp-IsAntisymmetric when_failed ((billing_key, billing_operation) ∷ anew (when_done 10) (anew (when_done 5) night_operations))

given_out_then : given_out failed cpu1 ≡ given_out_by cpu1 (Some attribute.Automatic) all_operations
given_out_then =
    given_out_is failed cpu1 (Some attribute.Automatic) all_operations (ap (option_map (λ w. w.attribute)) (workstation_at cpu1))
    (ap entries operations_are ∙ entries-from_entries operation_cmp_total operation_cmp-IsAntisymmetric all_operations tt)

kept : Holds failed (payroll_at 20) custfile alone
kept = (with_mark (mark.Error (codes "S0C7")) p20, third_is, (get-from_entries name_cmp_total ((custfile, alone) ∷ []) custfile, ap (λ a. takes a) (ap (option_map (λ w. w.attribute)) (workstation_at cpu1)), refl))

busy : MayStart failed billing_key billing_operation eleven refusal.ResourceBusy → ⊥
busy may =
    let line = may custfile one_shared (get-from_entries name_cmp_total ((custfile, one_shared) ∷ []) custfile) in
    let shares = line.3.0 (payroll_at 20) alone (λ e. let n : 20 ≡ 10 = ap (λ o. o.number) e in omega (arith, n)) kept in
    let clash : Exclusive ≡ Shared = shares.1 in cc

all_else : (line : Refusal) → line ≢ refusal.ResourceBusy → MayStart failed billing_key billing_operation eleven line
all_else = lines_of_room failed billing_key billing_operation billing_is attribute.Automatic (interval_by evening end_of_night 2 3 0) (workstation_at cpu1) eleven (given_out_by cpu1 (Some attribute.Automatic) all_operations) given_out_then
    (inl arrives) refl (omega arith) (omega arith, omega arith) (omega arith) (omega arith) (omega arith)

pub kept_resource : KeptResource
kept_resource = (arrives, (billing_operation, billing_is, λ line. (λ may e. busy (subst (MayStart failed billing_key billing_operation eleven) e may), λ other. all_else line other)))
