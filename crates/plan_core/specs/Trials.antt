-- What an empty desk answers to a load.
use Rattle.std.specs.Prelude.{ℤ, Option}
use Rattle.plan_model.specs.Contents.{Contents}
use Rattle.plan_records.specs.Answer.{Answer}
use Rattle.plan_records.specs.Run.{Answers, State, empty_state, plain, usable}
use Rattle.plan_records.specs.declared.Request.{Request}
use Rattle.plan_records.specs.declared.What.TheVariants.{Load}

-- the load of a draft at a minute; of none, for a text that denotes none
abbrev pub load_at : ℤ → Option Contents → Request
load_at at draft = record { at = at; what = Load draft }

-- so the load of a draft at a minute is answered as the first call, before anything is loaded or received, where no store fails
abbrev pub IsAnswerAlone : ℤ → Option Contents → Answer → Type 0
IsAnswerAlone at draft a = (t : State) × Answers empty_state usable (plain (load_at at draft)) a t usable
