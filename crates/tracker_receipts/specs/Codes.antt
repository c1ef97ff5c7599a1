-- How receipts are stored as data, for the models that have them as their value.
use Rattle.std.specs.Prelude.{ℕ, List, refl}
use Rattle.std.specs.Coded.{Coded, code_by, coded×, coded_ℕ, coded_list}
use Rattle.std.specs.FinMap as map
use Rattle.plan_basics.specs.declared.keys.OpKey.{OpKey}
use Rattle.plan_basics.specs.contracts.keys.OpKey as operation_key
use Rattle.plan_laws.specs.plan_model.specs.Code.{name_code}
use Rattle.plan_laws.specs.plan_records.specs.Step.{Receipt, Receipts}

-- a receipt as its number, its text and its keys
abbrev pub receipt_code : Coded Receipt
receipt_code = code_by
    (ℕ × (List ℕ × List OpKey))
    (coded× coded_ℕ (coded× (coded_list coded_ℕ) (coded_list (operation_key.the_row).coded)))
    (λ r. (r.number, (r.text, r.named))) (λ p. record { number = p.0; text = p.1.0; named = p.1.1 }) (λ _. refl)

-- receipts by tracker
abbrev pub receipts_code : Coded Receipts
receipts_code = map.code name_code receipt_code
