-- What is shown of a request, of a report and of a show that were asked for.
use Rattle.std.proofs.Common.{◌≡◌, ◌⊎◌, refl, inl, inr, rules, ℕ, ◌<◌, ℤ, List, [], ◌∷◌, ◌++◌, length, map, Option, Result, Err, IfOk, IfErr}
use Rattle.std.proofs.lemmas.Result.{IfOk-weaker}
use Rattle.plan_basics.specs.Minutes.{IsMinuteText}
use Rattle.plan_basics.specs.declared.Refusal.{Refusal}
use Rattle.plan_basics.specs.declared.Refusal.TheVariants as refusal
use Rattle.plan_records.specs.plan_model.specs.Contents.{AddedParts}
use Rattle.plan_records.specs.Answer.{Answer, answer_of, refused}
use Rattle.plan_records.specs.Run.{State, Usable}
use Rattle.plan_records.specs.Run as calls
use Rattle.plan_records.specs.declared.Reply.{Reply}
use Rattle.plan_records.specs.declared.Request.{Request}
use Rattle.command_desks.specs.desk_tables.specs.Faults.{IsOpeningRefusal}
use Rattle.command_desks.specs.desk_tables.specs.Runs.{AreAnswered}
use Rattle.command_answers.specs.request_json.specs.Requests.{ReadsAsRequest}
use Rattle.command_answers.specs.Answers.{IsShown}
use Rattle.request_commands.specs.Asked.{IsAnswerTo, IsExtendShown, IsRequestAnswered, IsRequestShown, extend_request}
use Rattle.command_answers.specs.Opened.{IsWhyNoDesk, IsNoneShown}
use Rattle.command_answers.specs.Statuses.{IsOfSurroundings}
use Rattle.command_answers.specs.declared.endings.Ending.{Ending}
use Rattle.command_answers.specs.declared.endings.Fault.{Fault}
use Rattle.command_answers.specs.declared.endings.Fault.TheVariants as fault
use Rattle.command_answers.specs.declared.endings.NoDesk.{NoDesk}
use Rattle.command_answers.proofs.Opened.{none_shown}

-- a text that can't be read as a request: memory lacks, or it is none
pub unread : (X : Type 0) (r : Result Ending Fault) (f : Fault) → r ≡ Err f → (f ≡ fault.Memory) ⊎ ((f ≡ fault.Request) × X)
    → IfErr r (λ g. IsOfSurroundings g ⊎ ((g ≡ fault.Request) × X))
unread X r f is (inl memory) = rw (is, memory) (inl refl)
unread X r f is (inr none) = rw is (inr none)

-- there is an answer to a request that is a run by itself, and it is the one reply
module _ (s t : State) (u v : Usable) (q : Request) where
  pub one_reply : (replies : List Reply) → AreAnswered s u (q ∷ []) (map answer_of replies) t v → 0 < length replies
  one_reply [] run = absurd run
  one_reply (r ∷ replies) run = search rules

  pub answered_alone : (others : List Reply) (r : Reply) → AreAnswered s u (q ∷ []) (map answer_of (others ++ r ∷ [])) t v → IsAnswerTo q (answer_of r)
  answered_alone [] r run = inl (s, u, run.0, run.1, run.2)
  answered_alone (x ∷ []) r run = absurd run.3
  answered_alone (x ∷ y ∷ others) r run = absurd run.3

-- want of memory for the list of replies is want of memory at a desk
pub memory_alone : (s : State) (q : Request) (r : Refusal) → r ≡ refusal.Memory → IsAnswerTo q (refused r)
memory_alone s q r is = rw is (inl (s, calls.usable, s, calls.usable, (refl, refl)))

-- no request, where that is the fault
pub no_request : (X : Type 0) (f : Fault) → f ≡ fault.Request → (f ≡ fault.Memory) ⊎ ((f ≡ fault.Request) × X) → X
no_request X f is (inl memory) = absurd (cc)
no_request X f is (inr none) = none.1

module _ (r : Result Ending Fault) (old new : Option (List ℕ)) where
  -- a desk's answer to a request
  pub request_answered : (q : Request) (a : Answer) → IsAnswerTo q a → IfOk r (IsShown a old new) → IfOk r (IsRequestAnswered q old new)
  request_answered q a answers shown =
      IfOk-weaker r (IsShown a old new) (IsRequestAnswered q old new)
      (λ (e : Ending) (is : IsShown a old new e). (a, answers, is)) shown

  -- why no desk could be opened for it
  pub request_refused : (q : Request) (none : NoDesk) → IsWhyNoDesk IsOpeningRefusal none → IfOk r (IsNoneShown none old new) → IfOk r (IsRequestAnswered q old new)
  request_refused q none why shown =
      IfOk-weaker r (λ e. (p : Refusal) × IsOpeningRefusal p × IsShown (refused p) old new e) (IsRequestAnswered q old new)
      (λ (e : Ending) (was : (p : Refusal) × IsOpeningRefusal p × IsShown (refused p) old new e). (refused was.0, inr (was.0, was.1, refl), was.2))
      (none_shown IsOpeningRefusal none r old new why shown)

  -- of the request that a text says
  pub request_shown : (text : List ℕ) (q : Request) → ReadsAsRequest text q → IfOk r (IsRequestAnswered q old new) → IfOk r (IsRequestShown text old new)
  request_shown text q says shown =
      IfOk-weaker r (IsRequestAnswered q old new) (IsRequestShown text old new)
      (λ (e : Ending) (was : IsRequestAnswered q old new e). (q, says, was.0, was.1, was.2)) shown

  -- of an extension at the moment that the words give
  pub extend_shown : (moment : List ℕ) (at : ℤ) (found : Option AddedParts) → IsMinuteText moment at → IfOk r (IsRequestAnswered (extend_request at found) old new) → IfOk r (IsExtendShown moment old new)
  extend_shown moment at found says shown =
      IfOk-weaker r (IsRequestAnswered (extend_request at found) old new) (IsExtendShown moment old new)
      (λ (e : Ending) (was : IsRequestAnswered (extend_request at found) old new e). (at, says, found, was.0, was.1, was.2)) shown
