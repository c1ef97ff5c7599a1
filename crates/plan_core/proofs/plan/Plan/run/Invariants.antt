use Rattle.std.proofs.Common.{◌≡◌, ◌≤◌, take, length, map, vec_len}
use Rattle.std.specs.Vec.{vec_capacity}
use Rattle.plan_records.specs.Answer.{answer_of}
use Rattle.plan_model.specs.Plan.{IsSoundPlan}
use Rattle.plan_core.specs.Provided.{RunStartsAreProvided}
use Rattle.plan_core.specs.State.{AnswersAll}
use Rattle.plan_core.proofs.plan.Plan.run.Given as goal

abbrev pub invariant-loop-request : goal.invariant-loop-request
invariant-loop-request l = record {
  so_far : AnswersAll l.fn.self.plan (take l.request-index l.requests) (map answer_of l.replies.items) l.self.plan;
  sound : IsSoundPlan l.self.plan;
  provided : RunStartsAreProvided l.fn.self.plan (take l.request-index l.requests) (map answer_of l.replies.items) l.self.plan;
  told : vec_len l.replies ≡ l.request-index;
  room : length l.requests ≤ vec_capacity l.replies;
}
