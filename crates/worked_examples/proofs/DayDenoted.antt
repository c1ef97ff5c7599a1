-- The records of the small plan denote it.
use Rattle.std.proofs.Common.{rules, arith, ◌≡◌, ◌≢◌, inl, refl, sym, ◌∙◌, ap, pos, ℕ, zero, suc, ◌<◌, true, cond, List, [], ◌∷◌, length, Option, option_map, Some, None, All, AllPairs, Contains, true≢false, is_some}
use Rattle.std.specs.Prelude.{slice_index_or, ◌==◌}
use Rattle.std.specs.List.{AllZip}
use Rattle.std.specs.Fmt.{digits}
use Rattle.std.specs.Cmp.{nat_cmp_total}
use Rattle.std.specs.FinMap.{contains_key, get, get-empty, get-from_entries, nat_cmp-IsAntisymmetric}
use Rattle.jiff_core.specs.Calendar.{day_count, days_from_civil, days_of_months, days_of_years}
use Rattle.plan_basics.specs.declared.Attr.{Attr}
use Rattle.plan_basics.specs.declared.Attr.TheVariants.{Automatic}
use Rattle.plan_basics.specs.declared.keys.OpKey.{OpKey}
use Rattle.plan_basics.specs.Intervals.{interval_by}
use Rattle.plan_basics.specs.Keys.{IsOperationKey, name_cmp, name_cmp_total, name_cmp-IsAntisymmetric, occurrence_cmp_total, occurrence_cmp-IsAntisymmetric}
use Rattle.plan_basics.specs.Minutes.{IsMomentText}
use Rattle.plan_items.specs.declared.Item.{Item}
use Rattle.plan_items.specs.declared.Item.TheVariants as item
use Rattle.plan_items.specs.declared.OperationItem.{OperationItem}
use Rattle.plan_items.specs.Items.{Fields, IsOperationItem, Says}
use Rattle.workstations.specs.Workstations.{Workstation}
use Rattle.plan_model.specs.Contents.{Operation}
use Rattle.plan_drafts.specs.declared.RowKey.{RowKey}
use Rattle.plan_drafts.specs.declared.RowKey.TheVariants as key
use Rattle.plan_drafts.specs.Records.{Denotes, IsItemOfPlan, StandsIn, key_of}
use Rattle.plan_drafts.proofs.Tables.{is_found}
use Rattle.worked_examples.specs.Day.{always_open, cpu1, daily, day, evening, first, lasting, morning, occurrence, second}
use Rattle.worked_examples.specs.DayText.{arrival_text, day_records, deadline_text, first_minute, last_minute}
use Rattle.worked_examples.proofs.DayLoad.{cpu1_name, daily_key, day_is_draft, of_both, one_occurrence, one_workstation, only_pair, open_interval, station_found}
use Rattle.worked_examples.proofs.Literal.{each_entry, each_key}
use Rattle.worked_examples.proofs.Moments.{first_of_march, second_of_march}
use Rattle.worked_examples.proofs.Small.{first_is, first_precedes, second_is}

-- ---- texts of moments

arrival_is : IsMomentText arrival_text evening
unfolding digits
arrival_is = (omega arith, (2024, 3, 1, 22, 0, omega arith, ((search rules, search rules), (omega arith, omega arith), (omega arith, omega arith)), omega arith, omega arith, refl, rw first_of_march refl))

deadline_is : IsMomentText deadline_text morning
unfolding digits
deadline_is = (omega arith, (2024, 3, 2, 5, 0, omega arith, ((search rules, search rules), (omega arith, omega arith), (omega arith, omega arith)), omega arith, omega arith, refl, rw second_of_march refl))

first_day : days_from_civil (pos 1972) 1 1 ≡ pos 730
unfolding days_from_civil day_count days_of_years days_of_months
first_day = refl

last_day : days_from_civil (pos 2071) 12 31 ≡ pos 37254
unfolding days_from_civil day_count days_of_years days_of_months
last_day = refl

first_minute_is : IsMomentText first_minute 0
unfolding digits
first_minute_is = (omega arith, (1972, 1, 1, 0, 0, omega arith, ((search rules, search rules), (omega arith, omega arith), (omega arith, omega arith)), omega arith, omega arith, refl, rw first_day refl))

last_minute_is : IsMomentText last_minute 52595999
unfolding digits
last_minute_is = (omega arith, (2071, 12, 31, 23, 59, omega arith, ((search rules, search rules), (omega arith, omega arith), (omega arith, omega arith)), omega arith, omega arith, refl, rw last_day refl))

-- ---- what each record says

abbrev workstation_item : Item
workstation_item = item.Workstation cpu1 Automatic

abbrev interval_item : Item
interval_item = item.Interval cpu1 (interval_by 0 52595999 2 0 0)

abbrev occurrence_item : Item
occurrence_item = item.Occurrence daily 5 morning

abbrev operation_item : OpKey → ℕ → Option ℕ → OperationItem
operation_item o duration deadline = record { key = o; workstation = cpu1; duration = duration; r1 = 0; r2 = 0; not_before = 0; deadline = deadline }

abbrev pair_item : Item
pair_item = item.Dependency first second

abbrev day_items : List Item
day_items = workstation_item ∷ interval_item ∷ occurrence_item ∷ item.Operation (operation_item first 30 None) ∷ item.Operation (operation_item second 60 (Some morning)) ∷ pair_item ∷ []

abbrev record_at : ℕ → Fields
record_at i = slice_index_or day_records i []

says_workstation : Says (record_at 0) workstation_item
says_workstation = (cpu1_name, refl)

says_interval : Says (record_at 1) interval_item
unfolding digits
says_interval = ((cpu1_name, open_interval), (first_minute, last_minute, first_minute_is, last_minute_is, refl))

says_occurrence : Says (record_at 2) occurrence_item
unfolding digits
says_occurrence = ((daily_key, (omega arith, omega arith), omega arith), (arrival_text, deadline_text, arrival_is, deadline_is, refl))

first_key : IsOperationKey first
first_key = (daily_key, omega arith, omega arith)

second_key : IsOperationKey second
second_key = (daily_key, omega arith, omega arith)

first_item : IsOperationItem (operation_item first 30 None)
first_item = record { key = first_key; workstation = cpu1_name; duration = (omega arith, omega arith); r1 = (omega arith, omega arith); r2 = (omega arith, omega arith); not_before = omega arith; deadline = tt }

second_item : IsOperationItem (operation_item second 60 (Some morning))
second_item = record { key = second_key; workstation = cpu1_name; duration = (omega arith, omega arith); r1 = (omega arith, omega arith); r2 = (omega arith, omega arith); not_before = omega arith; deadline = omega arith }

says_first : Says (record_at 3) (item.Operation (operation_item first 30 None))
unfolding digits
says_first = (first_item, (arrival_text, [], [], arrival_is, inl (refl, refl), refl, refl))

says_second : Says (record_at 4) (item.Operation (operation_item second 60 (Some morning)))
unfolding digits
says_second = (second_item, (arrival_text, [], deadline_text, arrival_is, inl (refl, refl), deadline_is, refl))

says_pair : Says (record_at 5) pair_item
unfolding digits
says_pair = ((first_key, second_key), (arrival_text, arrival_text, arrival_is, arrival_is, refl))

all_said : AllZip Says day_records day_items
all_said = (says_workstation, (says_interval, (says_occurrence, (says_first, (says_second, (says_pair, tt))))))

-- ---- each item is in the plan

occurrence_is : get day.occurrences daily ≡ Some occurrence
occurrence_is = get-from_entries occurrence_cmp_total ((daily, occurrence) ∷ []) daily

all_stand : All (StandsIn day) day_items
all_stand zero d h = ap (λ x. attribute_of x) station_found
  where
    attribute_of : Option Workstation → Option Attr
    attribute_of x = option_map (λ ws. ws.attribute) x
all_stand (suc zero) d h = (always_open, station_found, get-from_entries nat_cmp_total ((0, interval_by 0 52595999 2 0 0) ∷ []) 0)
all_stand (suc (suc zero)) d h = occurrence_is
all_stand (suc (suc (suc zero))) d h = (lasting 30, occurrence, first_is, occurrence_is, record { workstation = refl; duration = refl; fixed = (refl, refl); not_before = refl; deadline = refl })
all_stand (suc (suc (suc (suc zero)))) d h = (lasting 60, occurrence, second_is, occurrence_is, record { workstation = refl; duration = refl; fixed = (refl, refl); not_before = refl; deadline = refl })
all_stand (suc (suc (suc (suc (suc zero))))) d h = first_precedes
all_stand (suc (suc (suc (suc (suc (suc i)))))) d h = absurd (omega arith)

-- ---- of each thing that the plan holds there is an item

abbrev IsSaid : RowKey → Type 0
IsSaid k = (i : Item) × Contains day_items i × (key_of i ≡ k)

workstation_said : IsSaid (key.Workstation cpu1)
workstation_said = (workstation_item, (0, omega arith, refl), refl)

interval_said : IsSaid (key.Interval cpu1 0)
interval_said = (interval_item, (1, omega arith, refl), refl)

occurrence_said : IsSaid (key.Occurrence daily)
occurrence_said = (occurrence_item, (2, omega arith, refl), refl)

first_said : IsSaid (key.Operation first)
first_said = (item.Operation (operation_item first 30 None), (3, omega arith, refl), refl)

second_said : IsSaid (key.Operation second)
second_said = (item.Operation (operation_item second 60 (Some morning)), (4, omega arith, refl), refl)

pair_said : IsSaid (key.Dependency first second)
pair_said = (pair_item, (5, omega arith, refl), refl)

operation_said : (o : OpKey) (op : Operation) → get day.operations o ≡ Some op → IsSaid (key.Operation o)
operation_said = of_both (λ o op. IsSaid (key.Operation o)) first_said second_said

all_held : (k : RowKey) → IsItemOfPlan day k → IsSaid k
all_held (key.Workstation w) has = each_key name_cmp_total name_cmp-IsAntisymmetric ((cpu1, always_open) ∷ []) (λ z. IsSaid (key.Workstation z)) (workstation_said, tt) w has
all_held (key.Interval w m) has =
    each_entry name_cmp_total name_cmp-IsAntisymmetric ((cpu1, always_open) ∷ []) (λ v ws. contains_key ws.intervals m ≡ true → IsSaid (key.Interval v m))
    (each_key nat_cmp_total nat_cmp-IsAntisymmetric ((0, interval_by 0 52595999 2 0 0) ∷ []) (λ z. IsSaid (key.Interval cpu1 z)) (interval_said, tt) m, tt)
    w has.0 has.1 has.2
all_held (key.Occurrence c) has = each_key occurrence_cmp_total occurrence_cmp-IsAntisymmetric ((daily, occurrence) ∷ []) (λ z. IsSaid (key.Occurrence z)) (occurrence_said, tt) c has
all_held (key.Operation o) has = let found = is_found (get day.operations o) has in operation_said o found.0 found.1
all_held (key.Dependency p o) has = only_pair (λ x y. IsSaid (key.Dependency x y)) pair_said p o has
all_held (key.Resource r) has = absurd (true≢false (sym has ∙ ap is_some (get-empty name_cmp r)))
all_held (key.Need o r) has = of_both (λ x op. contains_key op.needs r ≡ true → IsSaid (key.Need o r))
    (λ found. absurd (true≢false (sym found ∙ ap is_some (get-empty name_cmp r))))
    (λ found. absurd (true≢false (sym found ∙ ap is_some (get-empty name_cmp r))))
    o has.0 has.1 has.2
all_held (key.Quantity r) has = absurd has
all_held (key.Amount o r) has = absurd has
all_held key.Meta has = absurd has

-- ---- and no key twice

-- the place of an item, by its key
abbrev place_of : RowKey → ℕ
place_of (key.Workstation w) = 0
place_of (key.Interval w m) = 1
place_of (key.Occurrence c) = 2
place_of (key.Operation o) = cond (o.number == 10) 3 4
place_of (key.Dependency p o) = 5
place_of _ = 6

place_at : (i : ℕ) (d : Item) → i < length day_items → place_of (key_of (slice_index_or day_items i d)) ≡ i
place_at zero d h = refl
place_at (suc zero) d h = refl
place_at (suc (suc zero)) d h = refl
place_at (suc (suc (suc zero))) d h = refl
place_at (suc (suc (suc (suc zero)))) d h = refl
place_at (suc (suc (suc (suc (suc zero))))) d h = refl
place_at (suc (suc (suc (suc (suc (suc i)))))) d h = absurd (omega arith)

no_key_twice : AllPairs (λ a b. key_of a ≢ key_of b) day_items
no_key_twice i j d h below e =
    let same : i ≡ j = sym (place_at i d (omega arith)) ∙ ap place_of e ∙ place_at j d below in
    absurd (omega arith)

pub day_is_denoted : Denotes day_records day
day_is_denoted = record {
  draft = day_is_draft;
  some_workstation = let e = one_workstation in omega arith;
  some_occurrence = let e = one_occurrence in omega arith;
  described = record { items = day_items; said = all_said; are = record { distinct = no_key_twice; stand = all_stand; all = all_held } };
}
