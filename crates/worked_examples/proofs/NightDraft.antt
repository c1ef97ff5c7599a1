-- The night's plan is a draft.
use Rattle.std.proofs.Common.{arith, ◌≡◌, refl, sym, ◌∙◌, ap, ◌<◌, ◌≤◌, true, [], ◌∷◌, Some, is_some}
use Rattle.std.proofs.lemmas.List.Sums.{AllPass-from_list_all}
use Rattle.std.specs.FinMap.{contains_key, empty, get, get-empty, get-from_entries}
use Rattle.plan_basics.specs.declared.limits.TheConstants.{MOST_NEEDS, MOST_OCCURRENCES, MOST_OPERATIONS, MOST_PAIRS, MOST_QUANTITY, MOST_RESOURCES, MOST_WORKSTATIONS}
use Rattle.plan_basics.specs.declared.Attr.TheVariants as attribute
use Rattle.plan_basics.specs.declared.keys.OpKey.{OpKey}
use Rattle.plan_basics.specs.Intervals.{IsInterval, interval_by}
use Rattle.plan_basics.specs.Keys.{IsOccurrenceKey, Name, name_cmp, name_cmp_total, name_cmp-IsAntisymmetric, occurrence_cmp_total, occurrence_cmp-IsAntisymmetric, operation_cmp_total, operation_cmp-IsAntisymmetric}
use Rattle.plan_basics.specs.Names.{IsName, IsResourceName, is_resource_byte}
use Rattle.special_resources.specs.Holders.{IsAmount, Usage}
use Rattle.workstations.specs.Workstations.{IsWorkstation, Workstation}
use Rattle.plan_model.specs.Contents.{IsPairOf, Operation}
use Rattle.plan_model.specs.declared.Stock.{Stock}
use Rattle.plan_model.specs.Valid.{AreOccurrences, IsOccurrence, IsOperation, IsUntouched, IsValid}
use Rattle.plan_drafts.specs.Drafts.{IsDraft}
use Rattle.plan_laws.proofs.Decide.{pair_cmp_total}
use Rattle.std.proofs.lemmas.Option.{none-some}
use Rattle.worked_examples.specs.Day.{cpu1, evening}
use Rattle.worked_examples.specs.Night.{alone, cpu1_station, custfile, dumm, dumm_station, end_of_night, needs_custfile, night, night_occurrences, night_operations, night_pairs, night_resources, night_workstations, payroll, payroll_at, prt1, prt1_station, setp, setp_station, two_at_night}
use Rattle.worked_examples.proofs.DayLoad.{cpu1_name}
use Rattle.worked_examples.proofs.Literal.{each_entry, each_key}
use Rattle.worked_examples.proofs.NightReports.{found_at, p5, p10, p20, p30, p40}
use Rattle.worked_examples.proofs.NightStatuses.{workstation_at}
use Rattle.worked_examples.proofs.Validity.{acyclic_by, closed_is, each_pair, len_at_most, name_is, operation_is, set_at_most, station_is}

-- what holds of the five operations holds of each that is found
pub of_five : (Q : OpKey → Operation → Type 0) → Q (payroll_at 5) p5 → Q (payroll_at 10) p10 → Q (payroll_at 20) p20 → Q (payroll_at 30) p30 → Q (payroll_at 40) p40 → (o : OpKey) (op : Operation) → get night.operations o ≡ Some op → Q o op
of_five Q q5 q10 q20 q30 q40 = each_entry operation_cmp_total operation_cmp-IsAntisymmetric night_operations Q (q5, (q10, (q20, (q30, (q40, tt)))))

pub of_pairs : (Q : OpKey → OpKey → Type 0) → Q (payroll_at 5) (payroll_at 10) → Q (payroll_at 10) (payroll_at 20) → Q (payroll_at 20) (payroll_at 30) → Q (payroll_at 30) (payroll_at 40) → (p o : OpKey) → IsPairOf night.pairs p o → Q p o
of_pairs Q a b c d = each_pair night_pairs Q (a, (b, (c, (d, tt))))

of_stations : (Q : Name → Workstation → Type 0) → Q cpu1 cpu1_station → Q setp setp_station → Q prt1 prt1_station → Q dumm dumm_station → (w : Name) (ws : Workstation) → get night.workstations w ≡ Some ws → Q w ws
of_stations Q a b c d = each_entry name_cmp_total name_cmp-IsAntisymmetric night_workstations Q (a, (b, (c, (d, tt))))

setp_name : IsName 4 setp
setp_name = name_is 4 setp (omega arith) (omega arith) refl

prt1_name : IsName 4 prt1
prt1_name = name_is 4 prt1 (omega arith) (omega arith) refl

dumm_name : IsName 4 dumm
dumm_name = name_is 4 dumm (omega arith) (omega arith) refl

custfile_name : IsResourceName custfile
custfile_name = (omega arith, omega arith, AllPass-from_list_all is_resource_byte custfile refl)

payroll_key : IsOccurrenceKey payroll
payroll_key = (name_is 16 payroll.app (omega arith) (omega arith) refl, omega arith)

cpu1_interval : IsInterval (interval_by evening end_of_night 2 3 0)
cpu1_interval = record { not_empty = omega arith; end = omega arith; servers = omega arith; fixed = (omega arith, omega arith) }

setp_interval : IsInterval (interval_by evening two_at_night 1 0 0)
setp_interval = record { not_empty = omega arith; end = omega arith; servers = omega arith; fixed = (omega arith, omega arith) }

occurrence_is_there : contains_key night.occurrences payroll ≡ true
occurrence_is_there = ap is_some (get-from_entries occurrence_cmp_total night_occurrences payroll)

custfile_is_there : contains_key night.resources custfile ≡ true
custfile_is_there = ap is_some (get-from_entries name_cmp_total night_resources custfile)

-- what holds of the one need of 20 holds of each that is found
one_need : (Q : Name → Usage → Type 0) → Q custfile alone → (r : Name) (usage : Usage) → get needs_custfile r ≡ Some usage → Q r usage
one_need Q h = each_entry name_cmp_total name_cmp-IsAntisymmetric ((custfile, alone) ∷ []) Q (h, tt)

third_is : IsOperation (payroll_at 20) p20
third_is = record {
  key = (payroll_key, omega arith, omega arith);
  workstation = cpu1_name;
  duration = (omega arith, omega arith);
  fixed = (omega arith, omega arith);
  not_before = omega arith;
  deadline = omega arith;
  needs = one_need (λ r usage. IsResourceName r × IsAmount usage.claim.mode usage.claim.amount) (custfile_name, refl);
  few_needs = len_at_most name_cmp_total ((custfile, alone) ∷ []) MOST_NEEDS (omega arith);
  code = λ code is. absurd (cc);
}

abbrev IsThere : OpKey → Operation → Type 0
IsThere o op = IsOperation o op × (contains_key night.occurrences o.occurrence ≡ true)

occurrences_are : AreOccurrences night.occurrences night.operations
occurrences_are = record {
  each_occurrence = each_entry occurrence_cmp_total occurrence_cmp-IsAntisymmetric night_occurrences IsOccurrence (record { key = payroll_key; priority = (omega arith, omega arith); deadline = omega arith }, tt);
  each_operation = of_five IsThere
      (operation_is (payroll_at 5) p5 (payroll_key, omega arith, omega arith) setp_name (omega arith, omega arith) (omega arith, omega arith) (omega arith) (omega arith) refl refl, occurrence_is_there)
      (operation_is (payroll_at 10) p10 (payroll_key, omega arith, omega arith) cpu1_name (omega arith, omega arith) (omega arith, omega arith) (omega arith) (omega arith) refl refl, occurrence_is_there)
      (third_is, occurrence_is_there)
      (operation_is (payroll_at 30) p30 (payroll_key, omega arith, omega arith) dumm_name (omega arith, omega arith) (omega arith, omega arith) (omega arith) (omega arith) refl refl, occurrence_is_there)
      (operation_is (payroll_at 40) p40 (payroll_key, omega arith, omega arith) prt1_name (omega arith, omega arith) (omega arith, omega arith) (omega arith) (omega arith) refl refl, occurrence_is_there);
  not_empty = each_key occurrence_cmp_total occurrence_cmp-IsAntisymmetric night_occurrences (λ c. (o : OpKey) × (o.occurrence ≡ c) × (contains_key night.operations o ≡ true)) ((payroll_at 5, refl, ap is_some (found_at (payroll_at 5))), tt);
}

abbrev NeedsThere : OpKey → Operation → Type 0
NeedsThere o op = (r : Name) (usage : Usage) → get op.needs r ≡ Some usage → contains_key night.resources r ≡ true

abbrev AmountsThere : OpKey → Operation → Type 0
AmountsThere o op = (r : Name) (usage : Usage) → get op.needs r ≡ Some usage → (stock : Stock) → get night.resources r ≡ Some stock → usage.claim.amount ≤ stock.quantity

night_is_valid : IsValid night
night_is_valid = record {
  workstations = of_stations (λ w ws. IsName 4 w × IsWorkstation ws)
      (cpu1_name, station_is attribute.Automatic (interval_by evening end_of_night 2 3 0) cpu1_interval)
      (setp_name, station_is attribute.StartAndCompletion (interval_by evening two_at_night 1 0 0) setp_interval)
      (prt1_name, closed_is attribute.CompletionOnly)
      (dumm_name, closed_is attribute.Nonreporting);
  resources = each_entry name_cmp_total name_cmp-IsAntisymmetric night_resources (λ r stock. IsResourceName r × (1 ≤ stock.quantity) × (stock.quantity ≤ MOST_QUANTITY)) ((custfile_name, omega arith, omega arith), tt);
  occurrences = occurrences_are;
  have_workstations = of_five (λ o op. contains_key night.workstations op.workstation ≡ true)
      (ap is_some (workstation_at setp)) (ap is_some (workstation_at cpu1)) (ap is_some (workstation_at cpu1)) (ap is_some (workstation_at dumm)) (ap is_some (workstation_at prt1));
  have_resources = of_five NeedsThere no_needs no_needs (one_need (λ r usage. contains_key night.resources r ≡ true) custfile_is_there) no_needs no_needs;
  amounts = of_five AmountsThere no_amounts no_amounts (one_need (λ r usage. (stock : Stock) → get night.resources r ≡ Some stock → usage.claim.amount ≤ stock.quantity) (λ stock there. omega arith)) no_amounts no_amounts;
  pairs = of_pairs (λ p o. (contains_key night.operations p ≡ true) × (contains_key night.operations o ≡ true))
      (ap is_some (found_at (payroll_at 5)), ap is_some (found_at (payroll_at 10)))
      (ap is_some (found_at (payroll_at 10)), ap is_some (found_at (payroll_at 20)))
      (ap is_some (found_at (payroll_at 20)), ap is_some (found_at (payroll_at 30)))
      (ap is_some (found_at (payroll_at 30)), ap is_some (found_at (payroll_at 40)));
  acyclic = acyclic_by (λ o. o.number) (of_pairs (λ p o. p.number < o.number) (omega arith) (omega arith) (omega arith) (omega arith));
  limits = record {
    workstations = len_at_most name_cmp_total night_workstations MOST_WORKSTATIONS (omega arith);
    resources = len_at_most name_cmp_total night_resources MOST_RESOURCES (omega arith);
    occurrences = len_at_most occurrence_cmp_total night_occurrences MOST_OCCURRENCES (omega arith);
    operations = len_at_most operation_cmp_total night_operations MOST_OPERATIONS (omega arith);
    pairs = set_at_most pair_cmp_total night_pairs MOST_PAIRS (omega arith);
  };
}
  where
    no_needs : (r : Name) (usage : Usage) → get (empty {R = name_cmp}) r ≡ Some usage → contains_key night.resources r ≡ true
    no_needs r usage found = absurd (none-some usage (sym (get-empty name_cmp r) ∙ found))

    no_amounts : (r : Name) (usage : Usage) → get (empty {R = name_cmp}) r ≡ Some usage → (stock : Stock) → get night.resources r ≡ Some stock → usage.claim.amount ≤ stock.quantity
    no_amounts r usage found = absurd (none-some usage (sym (get-empty name_cmp r) ∙ found))

pub night_is_draft : IsDraft night
night_is_draft = record { valid = night_is_valid; untouched = of_five (λ o op. IsUntouched op) (refl, refl, refl) (refl, refl, refl) (refl, refl, refl) (refl, refl, refl) (refl, refl, refl) }
