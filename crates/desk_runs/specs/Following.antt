-- What a desk that is served knows of starts.
use Rattle.std.specs.Prelude.{◌≡◌, ℕ, Bool, List, Option, Some}
use Rattle.desk_serving.specs.declared.terms.Terms.{Terms}
use Rattle.desk_serving.specs.forecasting.specs.Known.{AreOfGoing, IsStartTold, since_in}
use Rattle.desk_serving.specs.forecasting.specs.declared.known.KnownStarts.{KnownStarts}
use Rattle.desk_serving.specs.plan_forecast.specs.Starts.{AreStartsAfter}
use Rattle.command_desks.specs.desk_tables.specs.plan_model.specs.Plan.{Plan}
use Rattle.journal_starts.specs.Lines.{AreMentioned}
use Rattle.plan_basics.specs.declared.keys.OpKey.{OpKey}

-- the terms have an entry of what is going in this plan, and of nothing else
abbrev pub AreTermsOf : Plan → Terms → Type 0
AreTermsOf P terms = AreOfGoing P.contents terms.known

-- what is known at opening, by the end of a journal: since when each operation runs that the plan has as running, as the journal tells it last; of nothing else
pub record AreFirstKnownOf (P : Plan) (journal : List ℕ) (known : KnownStarts) : Type 0 where
  pub going : AreOfGoing P.contents known
  pub told : (mentions : List (OpKey × Option ℕ)) × AreMentioned P.clock journal mentions × ((o : OpKey) → IsStartTold P.contents mentions o (since_in known o))

-- so of the terms, with a guard of so many minutes, and trackers bound or not
pub record AreFirstTermsOf (P : Plan) (journal : List ℕ) (minutes : ℕ) (is_bound : Bool) (terms : Terms) : Type 0 where
  pub ahead : terms.ahead ≡ Some minutes
  pub bound : terms.bound ≡ is_bound
  pub known : AreFirstKnownOf P journal terms.known

-- starts as they were noted from this plan and these on, through any number of accepted requests: none is forgotten or set anew between two of them
pub data HaveFollowed (P : Plan) (s : OpKey → Option ℕ) : Plan → (OpKey → Option ℕ) → Type 0 where
  not_yet : HaveFollowed P s P s
  once_more : {Q R : Plan} {t u : OpKey → Option ℕ} → HaveFollowed P s Q t → AreStartsAfter Q R t u → HaveFollowed P s R u

-- so later, with the same guards: the starts were noted from one plan to the other
pub record AreStillTermsOf (before after : Plan) (old new : Terms) : Type 0 where
  pub ahead : new.ahead ≡ old.ahead
  pub bound : new.bound ≡ old.bound
  pub going : AreTermsOf after new
  pub starts : HaveFollowed before (since_in old.known) after (since_in new.known)

-- they have followed a desk from one plan to the next: what became going by it is known since its clock, what goes on as before, and of all else nothing; the guards are the same
pub record AreFollowed (before after : Plan) (old new : Terms) : Type 0 where
  pub ahead : new.ahead ≡ old.ahead
  pub bound : new.bound ≡ old.bound
  pub going : AreTermsOf after new
  pub starts : AreStartsAfter before after (since_in old.known) (since_in new.known)
