use Rattle.std.proofs.Common.{rules, refl, subst, List, ◌≡◌, ◌+◌, ◌++◌, ◌∷◌, [], take, map, cond, length, length-append, sym, ap, ◌∙◌, arith}
use Rattle.std.specs.Result.{is_ok}
use Rattle.std.proofs.lemmas.List.{map-append, take_all, take_more}
use Rattle.plan_records.specs.Answer.{answer_of}
use Rattle.plan_records.specs.Run.{Run, plain, usable}
use Rattle.plan_records.specs.declared.Reply.{Reply}
use Rattle.plan_records.specs.declared.Request.{Request}
use Rattle.plan_core.proofs.Answering.{accepted_answer_all, run_more}
use Rattle.plan_core.proofs.Seen.{seen_sound}
use Rattle.plan_core.proofs.Provided.{answered_sound, provided_more}
use Rattle.plan_core.specs.Provided.{RunStartsAreProvided}
use Rattle.plan_core.specs.State.{AnswersAll}
use Rattle.plan_core.proofs.plan.Plan.run.Goals as goal

pub loop-request-init : goal.loop-request-init
loop-request-init c =
    let P = c.args.self.now.plan in
    let none = c.in_ok-replies.ensures.items in
    record {
      so_far = λ receipts. subst (λ (xs : List Reply). Run (record { plan = P; receipts = receipts }) usable [] (map answer_of xs) (record { plan = P; receipts = receipts }) usable) (sym none) (refl, refl);
      sound = seen_sound c.self.inside.clock c.self.inside.loaded c.args.self.now c.self.invariant c.self.view_is;
      provided = subst (λ (xs : List Reply). RunStartsAreProvided P [] (map answer_of xs) P) (sym none) refl;
      told = search rules;
      room = search rules;
    }

pub loop-request-preserved : goal.loop-request-preserved
loop-request-preserved c =
    let i = c.loop-request.request-index in
    let requests = c.args.requests.now in
    let item = c.request-item.result in
    let replies = c.loop-request.replies.items in
    let reply = c.answer-reply.result in
    let items : c.push.new.self.items ≡ replies ++ reply ∷ [] = c.push.ensures.items ∙ ap (λ r. cond (is_ok r) (replies ++ reply ∷ []) replies) c.unwrap.ensures in
    let front : take (i + 1) requests ≡ take i requests ++ item ∷ [] = take_more requests i item c.loop-request-test.true ∙ ap (λ (r : Request). take i requests ++ r ∷ []) (sym c.request-item.is) in
    let calls : map plain (take (i + 1) requests) ≡ map plain (take i requests) ++ plain item ∷ [] = ap (map plain) front ∙ map-append plain (take i requests) (item ∷ []) in
    let answers : map answer_of c.push.new.self.items ≡ map answer_of replies ++ answer_of reply ∷ [] = ap (map answer_of) items ∙ map-append answer_of replies (reply ∷ []) in
    record {
      so_far = λ receipts. rw (calls, answers) (run_more (record { plan = c.args.self.now.plan; receipts = receipts }) (record { plan = c.loop-request.self.plan; receipts = receipts }) (record { plan = c.answer-reply.new.self.plan; receipts = receipts }) usable usable usable (map plain (take i requests)) (map answer_of replies) (plain item) (answer_of reply) (c.loop-request.invariant.so_far receipts) (c.answer-reply.ensures receipts));
      sound = answered_sound c.loop-request.self.plan c.answer-reply.new.self.plan item (answer_of reply) c.loop-request.invariant.sound c.answer-reply.ensures;
      provided =
          rw (front, answers) (provided_more c.args.self.now.plan c.loop-request.self.plan c.answer-reply.new.self.plan (take i requests) (map answer_of replies) item (answer_of reply) c.loop-request.invariant.sound c.loop-request.invariant.provided c.answer-reply.ensures);
      told = omega (arith, ap length items, length-append replies (reply ∷ []), c.loop-request.invariant.told, c.push.new.self.ok.0, c.loop-request.replies.ok.0);
      room = omega (arith, c.push.ensures.capacity, c.loop-request.invariant.room);
    }

pub returns-in_err-replies-clause-sound : goal.returns-in_err-replies-clause-sound
returns-in_err-replies-clause-sound c = seen_sound c.self.inside.clock c.self.inside.loaded c.args.self.now c.self.invariant c.self.view_is

pub returns-clause-sound : goal.returns-clause-sound
returns-clause-sound c = c.loop-request.invariant.sound

pub returns-clause-alone : goal.returns-clause-alone
returns-clause-alone c =
    let P = c.args.self.now.plan in
    let requests = c.args.requests.now in
    let answers = map answer_of c.loop-request.replies.items in
    let whole = take_all c.loop-request.request-index requests (let ge = c.loop-request-test.false in omega (arith, ge)) in
    let all : AnswersAll P requests answers c.loop-request.self.plan = subst (λ (qs : List Request). AnswersAll P qs answers c.loop-request.self.plan) whole c.loop-request.invariant.so_far in
    accepted_answer_all P c.loop-request.self.plan requests answers all
