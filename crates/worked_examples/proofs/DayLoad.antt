-- The small plan is a draft.
use Rattle.std.proofs.Common.{rules, arith, pos, ◌≡◌, inl, refl, sym, ◌∙◌, ap, subst, ℕ, ◌<◌, ◌≤◌, true, [], ◌∷◌, Some, is_some, length}
use Rattle.std.specs.FinMap.{contains_key, get, get-empty, get-from_entries, len, len-empty, len-entries}
use Rattle.plan_basics.specs.declared.limits.TheConstants.{LONGEST_DURATION, MOST_OCCURRENCES, MOST_OPERATIONS, MOST_PAIRS, MOST_WORKSTATIONS, SHORTEST_DURATION}
use Rattle.plan_basics.specs.declared.Attr.TheVariants.{Automatic}
use Rattle.plan_basics.specs.declared.keys.OpKey.{OpKey}
use Rattle.plan_basics.specs.Intervals.{IsInterval, interval_by}
use Rattle.plan_basics.specs.Keys.{Name, IsOperationKey, IsOccurrenceKey, name_cmp, name_cmp_total, name_cmp-IsAntisymmetric, occurrence_cmp_total, occurrence_cmp-IsAntisymmetric, operation_cmp_total, operation_cmp-IsAntisymmetric}
use Rattle.plan_basics.specs.Names.{IsName}
use Rattle.special_resources.specs.Holders.{Usage}
use Rattle.workstations.specs.Workstations.{IsWorkstation}
use Rattle.plan_model.specs.Contents.{Operation, IsPairOf}
use Rattle.plan_model.specs.declared.Stock.{Stock}
use Rattle.plan_model.specs.Valid.{AreOccurrences, IsOccurrence, IsOperation, IsUntouched, IsValid}
use Rattle.plan_drafts.specs.Drafts.{IsDraft}
use Rattle.ready_list.specs.declared.ReadyKey.{ReadyKey}
use Rattle.plan_model.specs.Holdings.{given_out}
use Rattle.plan_model.specs.Ready.{IsChosen, IsEntry}
use Rattle.plan_model.specs.Starts.{IsAllowedToStart, IsLatestStart}
use Rattle.plan_model.specs.Status.{IsReady}
use Rattle.plan_laws.proofs.Decide.{pair_cmp_total}
use Rattle.plan_laws.proofs.Kept.{named_none}
use Rattle.std.proofs.lemmas.Option.{none-some}
use Rattle.worked_examples.specs.Day.{always_open, cpu1, daily, day, evening, first, lasting, occurrence, second}
use Rattle.worked_examples.specs.Statements.{LoadThatNames}
use Rattle.worked_examples.proofs.Facts.{waiting_is_not_ready}
use Rattle.worked_examples.proofs.Entries.{one_ready}
use Rattle.worked_examples.proofs.Given.{allowed, given_out_by, given_out_is}
use Rattle.worked_examples.proofs.Lists.{entries-from_entries}
use Rattle.worked_examples.proofs.Literal.{each_entry, each_key}
use Rattle.worked_examples.proofs.Small.{first_arrives, first_is, on_automatic, second_is, second_waits}
use Rattle.worked_examples.proofs.Starts.{starts_at_end, starts_before}
use Rattle.worked_examples.proofs.Steps.{load_names}
use Rattle.worked_examples.proofs.TrioChoice.{chosen_by, not_left}
use Rattle.worked_examples.proofs.Validity.{acyclic_by, each_pair, len_at_most, name_is, operation_is, set_at_most, station_is}

-- what holds of both operations holds of each that is found
pub of_both : (Q : OpKey → Operation → Type 0) → Q first (lasting 30) → Q second (lasting 60) → (o : OpKey) (op : Operation) → get day.operations o ≡ Some op → Q o op
of_both Q h k = each_entry operation_cmp_total operation_cmp-IsAntisymmetric ((first, lasting 30) ∷ (second, lasting 60) ∷ []) Q (h, (k, tt))

pub cpu1_name : IsName 4 cpu1
cpu1_name = name_is 4 cpu1 (omega arith) (omega arith) refl

pub daily_key : IsOccurrenceKey daily
daily_key = (name_is 16 daily.app (omega arith) (omega arith) refl, omega arith)

pub open_interval : IsInterval (interval_by 0 52595999 2 0 0)
open_interval = record { not_empty = omega arith; end = omega arith; servers = omega arith; fixed = (omega arith, omega arith) }

pub lasting_is : (o : OpKey) (duration : ℕ) → IsOperationKey o → (SHORTEST_DURATION ≤ duration) × (duration ≤ LONGEST_DURATION) → IsOperation o (lasting duration)
lasting_is o duration key long = operation_is o (lasting duration) key cpu1_name long (omega arith, omega arith) (omega arith) (omega arith) refl refl

first_held : contains_key day.operations first ≡ true
first_held = ap is_some (get-from_entries operation_cmp_total ((first, lasting 30) ∷ (second, lasting 60) ∷ []) first)

second_held : contains_key day.operations second ≡ true
second_held = ap is_some (get-from_entries operation_cmp_total ((first, lasting 30) ∷ (second, lasting 60) ∷ []) second)

daily_held : contains_key day.occurrences daily ≡ true
daily_held = ap is_some (get-from_entries occurrence_cmp_total ((daily, occurrence) ∷ []) daily)

pub cpu1_held : contains_key day.workstations cpu1 ≡ true
cpu1_held = ap is_some (get-from_entries name_cmp_total ((cpu1, always_open) ∷ []) cpu1)

occurrences_are : AreOccurrences day.occurrences day.operations
occurrences_are = record {
  each_occurrence = each_entry occurrence_cmp_total occurrence_cmp-IsAntisymmetric ((daily, occurrence) ∷ []) IsOccurrence (record { key = daily_key; priority = (omega arith, omega arith); deadline = omega arith }, tt);
  each_operation = of_both (λ o op. IsOperation o op × (contains_key day.occurrences o.occurrence ≡ true))
      (lasting_is first 30 (daily_key, omega arith, omega arith) (omega arith, omega arith), daily_held)
      (lasting_is second 60 (daily_key, omega arith, omega arith) (omega arith, omega arith), daily_held);
  not_empty = each_key occurrence_cmp_total occurrence_cmp-IsAntisymmetric ((daily, occurrence) ∷ []) (λ c. (o : OpKey) × (o.occurrence ≡ c) × (contains_key day.operations o ≡ true)) ((first, refl, first_held), tt);
}

pub only_pair : (Q : OpKey → OpKey → Type 0) → Q first second → (p o : OpKey) → IsPairOf day.pairs p o → Q p o
only_pair Q h = each_pair ((first, second) ∷ []) Q (h, tt)

day_is_valid : IsValid day
day_is_valid = record {
  workstations = each_entry name_cmp_total name_cmp-IsAntisymmetric ((cpu1, always_open) ∷ []) (λ w ws. IsName 4 w × IsWorkstation ws) ((cpu1_name, station_is Automatic (interval_by 0 52595999 2 0 0) open_interval), tt);
  resources = λ r stock there. absurd (none-some stock (sym (get-empty name_cmp r) ∙ there));
  occurrences = occurrences_are;
  have_workstations = of_both (λ o op. contains_key day.workstations op.workstation ≡ true) cpu1_held cpu1_held;
  have_resources = of_both (λ o op. (r : Name) (usage : Usage) → get op.needs r ≡ Some usage → contains_key day.resources r ≡ true)
      (λ r usage found. absurd (none-some usage (sym (get-empty name_cmp r) ∙ found)))
      (λ r usage found. absurd (none-some usage (sym (get-empty name_cmp r) ∙ found)));
  amounts = λ o op there r usage found stock known. absurd (none-some stock (sym (get-empty name_cmp r) ∙ known));
  pairs = only_pair (λ p o. (contains_key day.operations p ≡ true) × (contains_key day.operations o ≡ true)) (first_held, second_held);
  acyclic = acyclic_by (λ o. o.number) (only_pair (λ p o. p.number < o.number) (omega arith));
  limits = record {
    workstations = len_at_most name_cmp_total ((cpu1, always_open) ∷ []) MOST_WORKSTATIONS (omega arith);
    resources = let e = len-empty name_cmp Stock in omega arith;
    occurrences = len_at_most occurrence_cmp_total ((daily, occurrence) ∷ []) MOST_OCCURRENCES (omega arith);
    operations = len_at_most operation_cmp_total ((first, lasting 30) ∷ (second, lasting 60) ∷ []) MOST_OPERATIONS (omega arith);
    pairs = set_at_most pair_cmp_total ((first, second) ∷ []) MOST_PAIRS (omega arith);
  };
}

pub day_is_draft : IsDraft day
day_is_draft = record { valid = day_is_valid; untouched = of_both (λ o op. IsUntouched op) (refl, refl, refl) (refl, refl, refl) }

pub one_occurrence : len day.occurrences ≡ 1
one_occurrence = len-entries day.occurrences ∙ ap length (entries-from_entries occurrence_cmp_total occurrence_cmp-IsAntisymmetric ((daily, occurrence) ∷ []) tt)

pub one_workstation : len day.workstations ≡ 1
one_workstation = len-entries day.workstations ∙ ap length (entries-from_entries name_cmp_total name_cmp-IsAntisymmetric ((cpu1, always_open) ∷ []) tt)

-- ---- the step

-- it is to start at 04:00, an hour before the deadline
latest_second : IsLatestStart day second (pos 27438000)
latest_second = starts_at_end day ((first, second) ∷ []) refl second (lasting 60) second_is refl

pub latest_first : IsLatestStart day first (pos 27437970)
latest_first = starts_before day ((first, second) ∷ []) refl first (lasting 30) first_is second (lasting 60) _ second_is (λ e. cc) refl refl latest_second (search rules)

abbrev first_key : ReadyKey
first_key = record { latest = pos 27437970; priority = 5; duration = 30; op = first }

first_entry : IsEntry day first_key
first_entry = (inl first_arrives, latest_first, (lasting 30, first_is, refl), (occurrence, get-from_entries occurrence_cmp_total ((daily, occurrence) ∷ []) daily, refl))

only_first : (o : OpKey) (op : Operation) → get day.operations o ≡ Some op → IsReady day o → o ≡ first
only_first = of_both (λ o op. IsReady day o → o ≡ first) (λ ready. refl) (λ ready. absurd (waiting_is_not_ready day second (lasting 60) second_is refl second_waits ready))

pub station_found : get day.workstations cpu1 ≡ Some always_open
station_found = get-from_entries name_cmp_total ((cpu1, always_open) ∷ []) cpu1

given_out_then : given_out day cpu1 ≡ given_out_by cpu1 (Some Automatic) ((first, lasting 30) ∷ (second, lasting 60) ∷ [])
given_out_then = given_out_is day cpu1 (Some Automatic) ((first, lasting 30) ∷ (second, lasting 60) ∷ []) on_automatic (entries-from_entries operation_cmp_total operation_cmp-IsAntisymmetric ((first, lasting 30) ∷ (second, lasting 60) ∷ []) tt)

first_allowed : IsAllowedToStart day first evening
first_allowed =
    allowed day first (lasting 30) first_is Automatic (interval_by 0 52595999 2 0 0) station_found evening (given_out_by cpu1 (Some Automatic) ((first, lasting 30) ∷ (second, lasting 60) ∷ [])) given_out_then
    (inl first_arrives) refl (omega arith) (omega arith, omega arith) (omega arith) (omega arith) (omega arith) refl

first_chosen : IsChosen day evening (first ∷ [])
first_chosen = chosen_by day evening (first_key ∷ []) (first ∷ []) (one_ready day first_key first_entry only_first) refl ((lasting 30, first_is, on_automatic), tt)
    (subst (λ P. IsAllowedToStart P first evening) (sym (named_none day)) first_allowed, tt) (not_left _ refl, tt)

pub load_names_first : LoadThatNames
load_names_first = load_names day evening (omega arith) (first ∷ []) first_chosen day_is_draft
