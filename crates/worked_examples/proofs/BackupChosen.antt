-- BACKUP is added to the small plan, and DAILY's first is named.
use Rattle.std.proofs.Common.{rules, arith, pos, cond, option_map, ◌≡◌, inl, refl, sym, ◌∙◌, ap, subst, [], ◌∷◌, Some}
use Rattle.std.specs.FinMap.{get, get-from_entries}
use Rattle.std.specs.FinSet.{contains-from_list}
use Rattle.plan_basics.specs.declared.Attr.TheVariants.{Automatic}
use Rattle.plan_basics.specs.declared.keys.OpKey.{OpKey}
use Rattle.plan_basics.specs.Intervals.{interval_by}
use Rattle.plan_basics.specs.Keys.{occurrence_cmp_total, operation_cmp_total, operation_cmp-IsAntisymmetric}
use Rattle.status_rules.specs.declared.Mark.TheVariants as mark
use Rattle.status_rules.specs.declared.Status.TheVariants as status
use Rattle.ready_list.specs.declared.ReadyKey.{ReadyKey}
use Rattle.ready_list.specs.Choice.{is_among}
use Rattle.plan_model.specs.Holdings.{given_out}
use Rattle.plan_model.specs.Contents.{Contents, Operation, Precedes}
use Rattle.plan_model.specs.Ready.{IsChosen, IsEntry, named, with_mark}
use Rattle.plan_model.specs.Starts.{IsAllowedToStart, IsLatestStart}
use Rattle.plan_model.specs.Status.{HasStatus, IsReady}
use Rattle.plan_laws.proofs.Decide.{pair_cmp_total}
use Rattle.plan_laws.proofs.Kept.{named_none}
use Rattle.plan_model.proofs.Looks.{get-named}
use Rattle.worked_examples.specs.Backup.{backup_addition, backup_key, three_operations, two_occurrences, two_pairs, with_backup}
use Rattle.worked_examples.specs.Day.{always_open, cpu1, daily, evening, first, lasting, occurrence, second}
use Rattle.worked_examples.specs.Statements.{BackupAdded}
use Rattle.worked_examples.specs.Trio.{three}
use Rattle.worked_examples.proofs.BackupComing.{is_addition, nothing_refuses, added_is}
use Rattle.worked_examples.proofs.DayLoad.{latest_first, station_found}
use Rattle.worked_examples.proofs.Entries.{one_ready}
use Rattle.worked_examples.proofs.Facts.{status_of_first, status_of_next, waiting_is_not_ready}
use Rattle.worked_examples.proofs.Given.{allowed, given_out_by, given_out_is}
use Rattle.worked_examples.proofs.Lists.{entries-from_entries}
use Rattle.worked_examples.proofs.Literal.{each_entry, one_before, only}
use Rattle.worked_examples.proofs.Starts.{starts_at_end, starts_before}
use Rattle.worked_examples.proofs.TrioChoice.{chosen_by, not_left}

-- ---- before the desk names one

first_is : get with_backup.operations first ≡ Some (lasting 30)
first_is = get-from_entries operation_cmp_total three_operations first

second_is : get with_backup.operations second ≡ Some (lasting 60)
second_is = get-from_entries operation_cmp_total three_operations second

backup_is : get with_backup.operations backup_key ≡ Some (lasting 30)
backup_is = get-from_entries operation_cmp_total three_operations backup_key

first_precedes : Precedes with_backup first second
first_precedes = contains-from_list pair_cmp_total two_pairs (first, second)

pub second_precedes : Precedes with_backup second backup_key
second_precedes = contains-from_list pair_cmp_total two_pairs (second, backup_key)

before_second : (q : OpKey) → Precedes with_backup q second → q ≡ first
before_second q h = only q first (one_before two_pairs q second h)

pub before_backup : (q : OpKey) → Precedes with_backup q backup_key → q ≡ second
before_backup q h = only q second (one_before two_pairs q backup_key h)

first_arrives : HasStatus with_backup first status.Arriving
first_arrives = status_of_first with_backup first (lasting 30) always_open first_is station_found (λ p h. one_before two_pairs p first h)

second_waits : HasStatus with_backup second status.Waiting
second_waits = status_of_next with_backup second (lasting 60) always_open first (lasting 30) always_open status.Arriving second_is station_found first_is station_found (λ e. cc) first_precedes before_second first_arrives

backup_waits : HasStatus with_backup backup_key status.Waiting
backup_waits = status_of_next with_backup backup_key (lasting 30) always_open second (lasting 60) always_open status.Waiting backup_is station_found second_is station_found (λ e. cc) second_precedes before_backup second_waits

latest_backup : IsLatestStart with_backup backup_key (pos 27438030)
latest_backup = starts_at_end with_backup two_pairs refl backup_key (lasting 30) backup_is refl

latest_second : IsLatestStart with_backup second (pos 27437970)
latest_second = starts_before with_backup two_pairs refl second (lasting 60) second_is backup_key (lasting 30) _ backup_is (λ e. cc) refl refl latest_backup (search rules)

earlier_first : IsLatestStart with_backup first (pos three)
earlier_first = starts_before with_backup two_pairs refl first (lasting 30) first_is second (lasting 60) _ second_is (λ e. cc) refl refl latest_second (search rules)

-- ---- the choice

abbrev first_key : ReadyKey
first_key = record { latest = pos three; priority = 5; duration = 30; op = first }

first_entry : IsEntry with_backup first_key
first_entry = (inl first_arrives, earlier_first, (lasting 30, first_is, refl), (occurrence, get-from_entries occurrence_cmp_total two_occurrences daily, refl))

only_first : (o : OpKey) (op : Operation) → get with_backup.operations o ≡ Some op → IsReady with_backup o → o ≡ first
only_first = each_entry operation_cmp_total operation_cmp-IsAntisymmetric three_operations (λ o op. IsReady with_backup o → o ≡ first) (
  λ ready. absurd (waiting_is_not_ready with_backup backup_key (lasting 30) backup_is refl backup_waits ready),
  (
    (λ ready. refl),
    ((λ ready. absurd (waiting_is_not_ready with_backup second (lasting 60) second_is refl second_waits ready)), tt),
  ),
)

given_out_then : given_out with_backup cpu1 ≡ given_out_by cpu1 (Some Automatic) three_operations
given_out_then = given_out_is with_backup cpu1 (Some Automatic) three_operations (ap (option_map (λ w. w.attribute)) station_found) (entries-from_entries operation_cmp_total operation_cmp-IsAntisymmetric three_operations tt)

first_allowed : IsAllowedToStart with_backup first evening
first_allowed =
    allowed with_backup first (lasting 30) first_is Automatic (interval_by 0 52595999 2 0 0) station_found evening (given_out_by cpu1 (Some Automatic) three_operations) given_out_then
    (inl first_arrives) refl (omega arith) (omega arith, omega arith) (omega arith) (omega arith) (omega arith) refl

first_chosen : IsChosen with_backup evening (first ∷ [])
first_chosen = chosen_by with_backup evening (first_key ∷ []) (first ∷ []) (one_ready with_backup first_key first_entry only_first) refl ((lasting 30, first_is, ap (option_map (λ w. w.attribute)) station_found), tt)
    (subst (λ P. IsAllowedToStart P first evening) (sym (named_none with_backup)) first_allowed, tt) (not_left _ refl, tt)

-- ---- once it is named

abbrev after : Contents
after = named (first ∷ []) with_backup

found_then : (o : OpKey) (op : Operation) → get with_backup.operations o ≡ Some op → get after.operations o ≡ Some (cond (is_among (first ∷ []) o) (with_mark mark.Named op) op)
found_then o op is = get-named (first ∷ []) with_backup o ∙ ap (option_map (λ x. cond (is_among (first ∷ []) o) (with_mark mark.Named x) x)) is

first_starts : HasStatus after first status.Started
first_starts = (with_mark mark.Named (lasting 30), found_then first (lasting 30) first_is, refl)

second_waits_then : HasStatus after second status.Waiting
second_waits_then = status_of_next after second (lasting 60) always_open first (with_mark mark.Named (lasting 30)) always_open status.Started (found_then second (lasting 60) second_is) station_found (found_then first (lasting 30) first_is) station_found (λ e. cc) first_precedes before_second first_starts

backup_waits_then : HasStatus after backup_key status.Waiting
backup_waits_then = status_of_next after backup_key (lasting 30) always_open second (lasting 60) always_open status.Waiting (found_then backup_key (lasting 30) backup_is) station_found (found_then second (lasting 60) second_is) station_found (λ e. cc) second_precedes before_backup second_waits_then

pub backup_added : BackupAdded
backup_added = (
  record {
    none_refuses = nothing_refuses;
    is_request = is_addition;
    changed = with_backup;
    changes = (backup_addition, refl, sym added_is);
    is_chosen = first_chosen;
    is_after = refl;
  },
  latest_first,
  earlier_first,
  first_starts,
  second_waits_then,
  backup_waits_then,
)
