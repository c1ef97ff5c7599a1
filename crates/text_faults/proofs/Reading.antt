-- From the records of a text to what it denotes.
use Rattle.std.proofs.Common.{◌≡◌, ◌↔◌, refl, ℕ, List, [], All, Contains, Option, Some, None, MatchOption, IsSome}
use Rattle.plan_items.specs.Items.{Fields}
use Rattle.record_faults.specs.Faults.{DenoteSome, IsFault, IsCircleOf, NoCircleIn}
use Rattle.record_faults.specs.declared.circles.Circle.{Circle}
use Rattle.record_faults.specs.declared.faults.Fault.TheVariants as fault
use Rattle.record_faults.specs.declared.faults.RecordFault.{RecordFault}
use Rattle.record_faults.proofs.Returning.{circle_there}
use Rattle.plan_import.specs.Denoting.{DenotesPlansOf}
use Rattle.text_faults.specs.TextFaults.{TextDenotesSome}

-- a text denotes some plan exactly where its records do
pub denotes : (text : List ℕ) (records : List Fields) → DenotesPlansOf text records → DenoteSome records ↔ TextDenotesSome text
denotes text records plans = (λ some. (some.0, (plans some.0).1 some.1), λ some. (some.0, (plans some.0).0 some.1))

-- where the faults of records tell that a path returns, one is found
pub circle_found : (records : List Fields) (faults : List RecordFault) (found : Option Circle) → All (λ (f : RecordFault). IsFault records f.place f.fault) faults → ((faults ≡ []) ↔ DenoteSome records) → MatchOption found (NoCircleIn records) (λ (c : Circle). IsCircleOf records c.place c.first c.way.items) → (f : RecordFault) → Contains faults f → f.fault ≡ fault.Returns → IsSome found
circle_found records faults None sound none no_circle f there returns = absurd (circle_there records faults sound none f there returns no_circle)
circle_found records faults (Some c) sound none is f there returns = refl
