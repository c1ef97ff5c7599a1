-- How a plan is stored as data, for the models that have it as their value.
use Rattle.std.specs.Prelude.{ℕ, Bool, refl}
use Rattle.std.specs.Coded.{Coded, code_by, coded×, coded_ℕ, coded_bool, coded_list}
use Rattle.std.specs.FinMap as map
use Rattle.std.specs.FinSet as set
use Rattle.plan_basics.specs.contracts.keys.OccKey as occurrence_key
use Rattle.plan_basics.specs.contracts.keys.OpKey as operation_key
use Rattle.plan_basics.specs.Keys.{Name}
use Rattle.special_resources.specs.Needs.{Usages, usages_code}
use Rattle.status_rules.specs.contracts.Mark as mark
use Rattle.status_rules.specs.declared.Mark.{Mark}
use Rattle.workstations.specs.Timetables.{workstation_code}
use Rattle.plan_model.specs.Plan.{Plan}
use Rattle.plan_model.specs.Contents.{Contents, Operation, AddedParts, Workstations, Resources, Occurrences, Operations, Pairs}
use Rattle.plan_model.specs.declared.Stock.{Stock}
use Rattle.plan_model.specs.declared.Occurrence.{Occurrence}

-- a name is stored as its bytes
abbrev pub name_code : Coded Name
name_code = coded_list coded_ℕ

-- an occurrence as its priority and deadline
abbrev pub occurrence_code : Coded Occurrence
occurrence_code = code_by (ℕ × ℕ) (coded× coded_ℕ coded_ℕ) (λ c. (c.priority, c.deadline)) (λ p. record { priority = p.0; deadline = p.1 }) (λ _. refl)

-- an operation as its ten facts
abbrev pub operation_code : Coded Operation
operation_code = code_by
    ((Name × (ℕ × ℕ)) × ((ℕ × (ℕ × ℕ)) × (Usages × (Mark × (Bool × Bool)))))
    (coded× (coded× name_code (coded× coded_ℕ coded_ℕ))
    (coded× (coded× coded_ℕ (coded× coded_ℕ coded_ℕ)) (coded× usages_code (coded× (mark.the_row).coded (coded× coded_bool coded_bool)))))
    (λ c. ((c.workstation, (c.duration, c.r1)), ((c.r2, (c.not_before, c.deadline)), (c.needs, (c.mark, (c.held, c.nop))))))
    (λ p. record {
      workstation = p.0.0;
      duration = p.0.1.0;
      r1 = p.0.1.1;
      r2 = p.1.0.0;
      not_before = p.1.0.1.0;
      deadline = p.1.0.1.1;
      needs = p.1.1.0;
      mark = p.1.1.1.0;
      held = p.1.1.1.1.0;
      nop = p.1.1.1.1.1;
    })
    (λ _. refl)

-- a special resource as whether it is available and how much there is
abbrev pub stock_code : Coded Stock
stock_code = code_by (Bool × ℕ) (coded× coded_bool coded_ℕ) (λ s. (s.available, s.quantity)) (λ p. record { available = p.0; quantity = p.1 }) (λ _. refl)

-- occurrences by key
abbrev pub occurrences_code : Coded Occurrences
occurrences_code = map.code (occurrence_key.the_row).coded occurrence_code

-- operations by key
abbrev pub operations_code : Coded Operations
operations_code = map.code (operation_key.the_row).coded operation_code

-- pairs of operations
abbrev pub pairs_code : Coded Pairs
pairs_code = set.code (coded× (operation_key.the_row).coded (operation_key.the_row).coded)

-- contents as their five parts
abbrev pub contents_code : Coded Contents
contents_code = code_by
    ((Workstations × Resources) × (Occurrences × (Operations × Pairs)))
    (coded× (coded× (map.code name_code workstation_code) (map.code name_code stock_code)) (coded× occurrences_code (coded× operations_code pairs_code)))
    (λ c. ((c.workstations, c.resources), (c.occurrences, (c.operations, c.pairs))))
    (λ p. record { workstations = p.0.0; resources = p.0.1; occurrences = p.1.0; operations = p.1.1.0; pairs = p.1.1.1 })
    (λ _. refl)

-- a plan as its three parts
abbrev pub plan_code : Coded Plan
plan_code = code_by (Bool × (ℕ × Contents)) (coded× coded_bool (coded× coded_ℕ contents_code)) (λ c. (c.loaded, (c.clock, c.contents))) (λ p. record { loaded = p.0; clock = p.1.0; contents = p.1.1 }) (λ _. refl)

-- an addition as its three parts
abbrev pub added_code : Coded AddedParts
added_code = code_by
    (Occurrences × (Operations × Pairs))
    (coded× occurrences_code (coded× operations_code pairs_code))
    (λ c. (c.occurrences, (c.operations, c.pairs)))
    (λ p. record { occurrences = p.0; operations = p.1.0; pairs = p.1.1 })
    (λ _. refl)
