-- DAILY is done and leaves: what is left of the small plan with BACKUP.
use Rattle.std.proofs.Common.{arith, ◌≡◌, ◌↔◌, inl, inr, refl, sym, ◌∙◌, ap, subst, true≢false, ◌<◌, ◌&&◌, ℕ, Bool, true, false, cond, MatchOption, List, [], ◌∷◌, Some}
use Rattle.std.proofs.lemmas.Bool.{false_from_ne_true}
use Rattle.std.specs.Cmp.{Equal-is, first_so, second_so, tied_itself}
use Rattle.std.specs.FinMap.{from_entries, get, get-from_entries, retain_keys}
use Rattle.std.specs.FinSet as set
use Rattle.std.specs.Ordering.{eq_by_cmp, is_eq}
use Rattle.plan_basics.specs.declared.keys.OccKey.{OccKey}
use Rattle.plan_basics.specs.declared.keys.OpKey.{OpKey}
use Rattle.plan_basics.specs.Keys.{occurrence_cmp, occurrence_cmp_total, occurrence_cmp-IsAntisymmetric, operation_cmp, operation_cmp_total, operation_cmp-IsAntisymmetric}
use Rattle.status_rules.specs.Table.{marked_status, occurrence_status_place}
use Rattle.status_rules.specs.declared.Mark.TheVariants as mark
use Rattle.status_rules.specs.declared.OccStatus.{OccStatus}
use Rattle.status_rules.specs.declared.OccStatus.TheVariants as occurrence
use Rattle.status_rules.specs.declared.Status.{Status}
use Rattle.status_rules.specs.declared.Status.TheVariants as status
use Rattle.plan_model.specs.Contents.{Operation}
use Rattle.plan_model.specs.Ready.{with_mark}
use Rattle.plan_model.specs.Revise.{revise}
use Rattle.plan_model.specs.Status.{HasStatus, OccurrenceCase, UnmarkedStatus}
use Rattle.plan_records.specs.Changes.{IsOver, LeavesOver, is_at, with_added, with_only}
use Rattle.plan_laws.proofs.Pairs.{pair_cmp_total, pair_cmp-IsAntisymmetric}
use Rattle.worked_examples.specs.Backup.{backup, backup_alone, backup_key, day_over, nothing_added, three_operations, two_occurrences, two_pairs, with_backup}
use Rattle.worked_examples.specs.Billing.{eleven}
use Rattle.worked_examples.specs.Day.{always_open, daily, evening, first, lasting, second}
use Rattle.worked_examples.specs.Statements.{DailyLeaves}
use Rattle.worked_examples.proofs.BackupChosen.{before_backup, second_precedes}
use Rattle.worked_examples.proofs.DayLoad.{station_found}
use Rattle.worked_examples.proofs.Facts.{status_of_first, status_of_next, unmarked_has}
use Rattle.worked_examples.proofs.Lists.{anew, joined_empty, kept_written, revise_written, union_written}
use Rattle.worked_examples.proofs.Literal.{each_entry, one_before}
use Rattle.worked_examples.proofs.Validity.{each_pair}

-- ---- what the plan holds once DAILY is done

-- an operation where the one at a key is done
abbrev when_done : OpKey → OpKey → Operation → Operation
when_done at o op = cond (is_at at o) (with_mark mark.Done op) op

-- an operation of so many minutes that is done
abbrev done_lasting : ℕ → Operation
done_lasting duration = with_mark mark.Done (lasting duration)

-- the three operations then
abbrev operations_then : List (OpKey × Operation)
operations_then = (backup_key, lasting 30) ∷ (first, done_lasting 30) ∷ (second, done_lasting 60) ∷ []

written : day_over.operations ≡ from_entries operations_then
written =
    ap (revise (when_done second)) (revise_written operation_cmp_total operation_cmp-IsAntisymmetric (when_done first) three_operations)
    ∙ revise_written operation_cmp_total operation_cmp-IsAntisymmetric (when_done second) (anew (when_done first) three_operations)

found : (o : OpKey) (op : Operation) → get {R = operation_cmp} (from_entries operations_then) o ≡ Some op → get day_over.operations o ≡ Some op
found o op is = ap (λ m. get m o) written ∙ is

first_is : get day_over.operations first ≡ Some (done_lasting 30)
first_is = found first (done_lasting 30) (get-from_entries operation_cmp_total operations_then first)

second_is : get day_over.operations second ≡ Some (done_lasting 60)
second_is = found second (done_lasting 60) (get-from_entries operation_cmp_total operations_then second)

backup_is : get day_over.operations backup_key ≡ Some (lasting 30)
backup_is = found backup_key (lasting 30) (get-from_entries operation_cmp_total operations_then backup_key)

-- what holds of the three operations holds of each that is found
of_three : (Q : OpKey → Operation → Type 0) → Q backup_key (lasting 30) → Q first (done_lasting 30) → Q second (done_lasting 60) → (o : OpKey) (op : Operation) → get day_over.operations o ≡ Some op → Q o op
of_three Q a b c o op is = each_entry operation_cmp_total operation_cmp-IsAntisymmetric operations_then Q (a, (b, (c, tt))) o op (ap (λ m. get m o) (sym written) ∙ is)

-- ---- BACKUP's operation is ready

second_complete : HasStatus day_over second status.Complete
second_complete = (done_lasting 60, second_is, refl)

backup_ready : HasStatus day_over backup_key status.Ready
backup_ready = status_of_next day_over backup_key (lasting 30) always_open second (done_lasting 60) always_open status.Complete backup_is station_found second_is station_found (λ e. cc) second_precedes before_backup second_complete

-- so its occurrence isn't over
backup_not_complete : HasStatus day_over backup_key status.Complete → ⊥
backup_not_complete has = (unmarked_has day_over backup_key (lasting 30) status.Ready backup_is refl backup_ready).0 (unmarked_has day_over backup_key (lasting 30) status.Complete backup_is refl has)

backup_stays : IsOver day_over backup → ⊥
backup_stays (inl over) = backup_not_complete (over.0 backup_key refl (lasting 30, backup_is, tt))
backup_stays (inr over) = unmarked_has day_over backup_key (lasting 30) status.Deleted backup_is refl (over.0 backup_key refl (lasting 30, backup_is, tt))

-- ---- DAILY is over

apart : backup ≡ daily → ⊥
apart e = let arrivals : eleven ≡ evening = ap (λ c. c.arrival) e in omega (arith, arrivals)

done_of_daily : (o : OpKey) (op : Operation) → get day_over.operations o ≡ Some op → o.occurrence ≡ daily → op.mark ≡ mark.Done
done_of_daily = of_three (λ o op. o.occurrence ≡ daily → op.mark ≡ mark.Done) (λ e. absurd (apart e)) (λ e. refl) (λ e. refl)

-- an operation of it is complete, and has no other status
complete_alone : (o : OpKey) (s : Status) → o.occurrence ≡ daily → HasStatus day_over o s → s ≡ status.Complete
complete_alone o s of has = subst (λ m. MatchOption (marked_status m) (UnmarkedStatus day_over o s) (λ t. s ≡ t)) (done_of_daily o has.0 has.1 of) has.2

no_other : (t : OccStatus) → occurrence_status_place t < 3 → ¬ OccurrenceCase day_over daily t
no_other occurrence.Deleted less each = let e = complete_alone first status.Deleted refl (each first refl (done_lasting 30, first_is, tt)) in cc
no_other occurrence.Error less (o, of, has) = let e = complete_alone o status.Error of has in cc
no_other occurrence.Undecided less (o, of, has) = let e = complete_alone o status.Undecided of has in cc
no_other t less case = absurd (omega (arith, less))

daily_is_over : IsOver day_over daily
daily_is_over = inl (
  λ o of there. (there.0, there.1, subst (λ m. MatchOption (marked_status m) (UnmarkedStatus day_over o status.Complete) (λ t. status.Complete ≡ t)) (sym (done_of_daily o there.0 there.1 of)) refl),
  no_other,
)

-- ---- nothing else is there

same_occurrence : (c d : OccKey) → eq_by_cmp occurrence_cmp c d ≡ true → c ≡ d
same_occurrence c d e = occurrence_cmp-IsAntisymmetric c d ((Equal-is (occurrence_cmp c d)).0 e)

absent_is_over : (c : OccKey) → (backup ≡ c → ⊥) → (daily ≡ c → ⊥) → IsOver day_over c
absent_is_over c not_backup not_daily = inr (
  λ o of there. absurd (of_three (λ o op. o.occurrence ≡ c → ⊥) not_backup not_daily not_daily o there.0 there.1 of),
  λ t less. absurd (omega (arith, less)),
)

-- ---- what is left

-- BACKUP stays alone
abbrev stays : OccKey → Bool
stays c = eq_by_cmp occurrence_cmp c backup

ties : (c d : OccKey) → c ≡ d → eq_by_cmp occurrence_cmp c d ≡ true
ties c d e = ap (λ z. eq_by_cmp occurrence_cmp z d) e ∙ ap is_eq (tied_itself occurrence_cmp_total d)

staying : (c : OccKey) → (stays c ≡ true) ↔ ¬ IsOver day_over c
staying c = (
  λ e over. backup_stays (subst (IsOver day_over) (same_occurrence c backup e) over),
  λ never. by (stays c) (eq_by_cmp occurrence_cmp c daily) refl refl never,
)
  where
    by : (b d : Bool) → stays c ≡ b → eq_by_cmp occurrence_cmp c daily ≡ d → ¬ IsOver day_over c → stays c ≡ true
    by true d e f never = e
    by false true e f never = absurd (never (subst (IsOver day_over) (sym (same_occurrence c daily f)) daily_is_over))
    by false false e f never = absurd (never (absent_is_over c (λ k. true≢false (sym (ties c backup (sym k)) ∙ e)) (λ k. true≢false (sym (ties c daily (sym k)) ∙ f))))

-- a pair stays that names BACKUP's operation alone
abbrev pair_stays : OpKey × OpKey → Bool
pair_stays pair = stays pair.0.occurrence && stays pair.1.occurrence

none_stays : (p o : OpKey) → set.contains with_backup.pairs (p, o) ≡ true → pair_stays (p, o) ≡ true → ⊥
none_stays = each_pair two_pairs (λ p o. pair_stays (p, o) ≡ true → ⊥) (λ e. true≢false (sym e), (λ e. true≢false (sym e), tt))

pairs_left : set.from_list [] ≡ set.retain with_backup.pairs pair_stays
pairs_left =
    set.same_set pair_cmp_total pair_cmp-IsAntisymmetric (set.from_list []) (set.retain with_backup.pairs pair_stays)
    (λ q.
    set.contains-from_list pair_cmp_total [] q
    ∙ sym (set.contains-retain with_backup.pairs pair_stays q (λ x e. ap pair_stays (sym (pair_cmp-IsAntisymmetric q x e)))
    ∙ false_from_ne_true (set.contains with_backup.pairs q && pair_stays q)
    (λ h. none_stays q.0 q.1 (first_so (set.contains with_backup.pairs q) (pair_stays q) h) (second_so (set.contains with_backup.pairs q) (pair_stays q) h))))

left_is : backup_alone ≡ with_only stays day_over
left_is =
    let occurrences_are = sym (kept_written occurrence_cmp_total occurrence_cmp-IsAntisymmetric stays two_occurrences) in
    let operations_are = sym (ap (λ m. retain_keys m (λ o. stays o.occurrence)) written ∙ kept_written operation_cmp_total operation_cmp-IsAntisymmetric (λ o. stays o.occurrence) operations_then) in
    λ i. record with_backup { occurrences = occurrences_are i; operations = operations_are i; pairs = pairs_left i }

leaves : LeavesOver day_over backup_alone
leaves = (stays, staying, left_is)

-- ---- with nothing added

added_is : backup_alone ≡ with_added backup_alone nothing_added
added_is =
    let occurrences_are = sym (joined_empty occurrence_cmp_total occurrence_cmp-IsAntisymmetric backup_alone.occurrences) in
    let operations_are = sym (joined_empty operation_cmp_total operation_cmp-IsAntisymmetric backup_alone.operations) in
    let pairs_are = sym (union_written pair_cmp_total pair_cmp-IsAntisymmetric [] []) in
    λ i. record backup_alone { occurrences = occurrences_are i; operations = operations_are i; pairs = pairs_are i }

-- ---- BACKUP's operation is arriving

backup_arrives : HasStatus backup_alone backup_key status.Arriving
backup_arrives = status_of_first backup_alone backup_key (lasting 30) always_open (get-from_entries operation_cmp_total ((backup_key, lasting 30) ∷ []) backup_key) station_found (λ p h. one_before [] p backup_key h)

pub daily_leaves : DailyLeaves
daily_leaves = (backup_ready, leaves, (nothing_added, backup_alone, refl, leaves, added_is), backup_arrives)
