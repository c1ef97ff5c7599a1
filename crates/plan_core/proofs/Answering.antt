-- Answers to requests, one after another.
use Rattle.std.proofs.Common.{◌≡◌, refl, ap, subst, List, [], ◌∷◌, ◌++◌, map}
use Rattle.plan_opening.specs.plan_laws.proofs.Running.{answered, plan_answers}
use Rattle.plan_opening.specs.plan_laws.proofs.Runs.{accepted_alone}
use Rattle.plan_model.specs.Plan.{Plan}
use Rattle.plan_records.specs.Answer.{Answer, accepted, refused}
use Rattle.plan_records.specs.Run.{Answers, Call, Run, State, Usable, accepted_calls, accepted_replies, plain, usable}
use Rattle.plan_records.specs.Step.{Step}
use Rattle.plan_records.specs.declared.Request.{Request}
use Rattle.plan_core.specs.Requested.{IsAnswered}
use Rattle.plan_core.specs.State.{AcceptedAnswerAll, AnswersAll, accepted_requests}

-- a step answers the request, whatever receipts are kept beside the plan
pub step_answers : (P Q : Plan) (q : Request) (x : Answer) → Step P q x Q → IsAnswered P q x Q
step_answers P Q q x step receipts =
    let s : State = record { plan = P; receipts = receipts } in
    let t : State = record { plan = Q; receipts = receipts } in
    answered s t (plain q) x (plan_answers s t (plain q) x (step, refl)) (step, refl)

-- a run that goes on by one call
pub run_more : (s mid t : State) (u v w : Usable) (calls : List Call) (replies : List Answer) (c : Call) (x : Answer) → Run s u calls replies mid v → Answers mid v c x t w
    → Run s u (calls ++ c ∷ []) (replies ++ x ∷ []) t w
run_more s mid t u v w [] [] c x run step = (t, w, subst (λ z. Answers z u c x t w) run.0 (subst (λ z. Answers mid z c x t w) run.1 step), (refl, refl))
run_more s mid t u v w [] (r ∷ replies) c x run step = absurd run
run_more s mid t u v w (d ∷ calls) [] c x run step = absurd run
run_more s mid t u v w (d ∷ calls) (r ∷ replies) c x run step = (run.0, run.1, run.2, run_more run.0 mid t run.1 v w calls replies c x run.3 step)

-- the accepted calls of plain requests are the accepted requests
pub plain_accepted : (requests : List Request) (answers : List Answer) → accepted_calls (map plain requests) answers ≡ map plain (accepted_requests requests answers)
plain_accepted [] answers = refl
plain_accepted (q ∷ requests) [] = refl
plain_accepted (q ∷ requests) (accepted named ∷ answers) = ap (λ calls. plain q ∷ calls) (plain_accepted requests answers)
plain_accepted (q ∷ requests) (refused r ∷ answers) = plain_accepted requests answers

-- the accepted requests alone are a run too
pub accepted_answer_all : (P after : Plan) (requests : List Request) (answers : List Answer) → AnswersAll P requests answers after → AcceptedAnswerAll P requests answers after
accepted_answer_all P after requests answers all receipts =
    let s : State = record { plan = P; receipts = receipts } in
    let t : State = record { plan = after; receipts = receipts } in
    subst (λ calls. Run s usable calls (accepted_replies answers) t usable) (plain_accepted requests answers) (accepted_alone s t usable usable (map plain requests) answers (all receipts))
