-- A new desk takes a load.
use Rattle.std.proofs.Common.{◌≡◌, ℤ, Bool, true, Option, subst₂}
use Rattle.plan_records.specs.plan_model.specs.Contents.{Contents}
use Rattle.plan_records.specs.Answer.{Answer}
use Rattle.plan_records.specs.Run.{Answers, State, Usable, empty_state, plain}
use Rattle.desk_tables.specs.Desk.{usability}
use Rattle.command_desks.specs.Loaded.{IsLoaded, load_request}

-- one at which nothing is loaded
pub loaded : (s : State) (b : Bool) (at : ℤ) (found : Option Contents) (a : Answer) (t : State) (v : Usable)
    → s ≡ empty_state → b ≡ true → Answers s (usability b) (plain (load_request at found)) a t v → IsLoaded at found a t
loaded s b at found a t v is usable answers = (v, subst₂ (λ x y. Answers x (usability y) (plain (load_request at found)) a t v) is usable answers)
