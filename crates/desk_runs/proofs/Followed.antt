-- Terms that follow a desk.
use Rattle.std.proofs.Common.{◌≡◌, ◌∙◌, refl, ℕ, List, MatchOption, Option, Some, None, Result, Ok, Err, IfOk}
use Rattle.plan_basics.specs.declared.keys.OpKey.{OpKey}
use Rattle.desk_serving.specs.declared.terms.Terms.{Terms}
use Rattle.desk_serving.specs.forecasting.specs.Known.{AreOfGoing, IsNotedOf, IsStartTold, entry_of, since_in, since_noted}
use Rattle.desk_serving.specs.forecasting.specs.declared.known.KnownStarts.{KnownStarts}
use Rattle.desk_serving.specs.forecasting.specs.declared.known.Noted.{Noted}
use Rattle.desk_serving.specs.plan_forecast.specs.Ahead.{IsGoing}
use Rattle.command_desks.specs.desk_tables.specs.plan_model.specs.Contents.{Contents}
use Rattle.command_desks.specs.desk_tables.specs.plan_model.specs.Plan.{Plan}
use Rattle.journal_starts.specs.Lines.{AreMentioned}
use Rattle.desk_runs.specs.Following.{AreFirstKnownOf, AreFollowed, AreStillTermsOf, AreTermsOf, HaveFollowed, not_yet, once_more}

nothing : (P : Contents) (o : OpKey) (entry : Option Noted) → MatchOption entry (¬ IsGoing P o) (IsNotedOf P o) → ¬ IsGoing P o → since_noted entry ≡ None
nothing P o None h not = refl
nothing P o (Some e) h not = absurd (not h.0)

-- what is known at opening, by what a journal tells
pub first_known : (P : Plan) (journal : List ℕ) (mentions : List (OpKey × Option ℕ)) → AreMentioned P.clock journal mentions
    → {E : Type 0} (r : Result KnownStarts E) → IfOk r (AreOfGoing P.contents) → IfOk r (λ known. (o : OpKey) → IsStartTold P.contents mentions o (since_in known o)) → IfOk r (AreFirstKnownOf P journal)
first_known P journal mentions read (Ok known) going told = record { going = going; told = (mentions, read, told) }
first_known P journal mentions read (Err e) going told = tt

-- where nothing changes nothing becomes known
pub follows_itself : (P : Plan) (terms : Terms) → AreTermsOf P terms → AreFollowed P P terms terms
follows_itself P terms going = record {
  ahead = refl;
  bound = refl;
  going = going;
  starts = record {
    begun = λ o is apart. absurd (apart (is, is, (λ r. r, λ r. r)));
    goes_on = λ o alike. refl;
    over = λ o not. nothing P.contents o (entry_of terms.known o) (going.noted o) not;
  };
}

-- terms are those of their plan before anything is served
pub still_first : (P : Plan) (terms : Terms) → AreTermsOf P terms → AreStillTermsOf P P terms terms
still_first P terms going = record { ahead = refl; bound = refl; going = going; starts = not_yet }

-- starts that were noted up to a plan, and from it on
noted_on : {P Q : Plan} {s t : OpKey → Option ℕ} {R : Plan} {u : OpKey → Option ℕ} → HaveFollowed P s Q t → HaveFollowed Q t R u → HaveFollowed P s R u
noted_on one not_yet = one
noted_on one (once_more two step) = once_more (noted_on one two) step

-- terms that are so of one plan, and then of another, are so of that
pub still : (before mid_plan after : Plan) (old mid new : Terms) → AreStillTermsOf before mid_plan old mid → AreStillTermsOf mid_plan after mid new → AreStillTermsOf before after old new
still before mid_plan after old mid new one two = record { ahead = two.ahead ∙ one.ahead; bound = two.bound ∙ one.bound; going = two.going; starts = noted_on one.starts two.starts }

-- and so if they have followed one more exchange
pub still_followed : (before mid_plan after : Plan) (old mid new : Terms) → AreStillTermsOf before mid_plan old mid → AreFollowed mid_plan after mid new → AreStillTermsOf before after old new
still_followed before mid_plan after old mid new one two = record { ahead = two.ahead ∙ one.ahead; bound = two.bound ∙ one.bound; going = two.going; starts = once_more one.starts two.starts }
