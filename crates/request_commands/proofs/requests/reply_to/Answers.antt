use Rattle.std.proofs.Common.{◌≡◌, ◌<◌, ◌∙◌, ap, rules, subst, List, [], ◌∷◌, ◌++◌, length, map, vec_len}
use Rattle.std.specs.Option.{option_to_list}
use Rattle.plan_records.specs.Answer.{answer_of}
use Rattle.plan_records.specs.declared.Reply.{Reply}
use Rattle.command_desks.specs.desk_tables.specs.Desk.{state_of, usability}
use Rattle.command_desks.specs.desk_tables.specs.Runs.{AreAnswered}
use Rattle.request_commands.proofs.Told.{answered_alone, memory_alone, one_reply}
use Rattle.request_commands.proofs.requests.reply_to.Goals as goal

pub unwrap-requires : goal.unwrap-requires
unwrap-requires g c =
    let d = c.args.desk.now in
    let e = c.run_all.new.desk in
    let one = one_reply (state_of d) (state_of e) (usability d.is_usable) (usability e.is_usable) c.args.request.now c.in-Ok.replies.items (rw c.from_ref.ensures.value at c.in-Ok.ensures.answers) in
    let counted : length c.in-Ok.replies.items ≡ vec_len c.in-Ok.replies = search rules in
    c.pop.ensures.variant.1 (subst (λ n. 0 < n) counted one)

pub returns-in-Ok : goal.returns-in-Ok
returns-in-Ok g c =
    let d = c.args.desk.now in
    let e = c.run_all.new.desk in
    let others = c.pop.new.self.items in
    let one : c.in-Ok.replies.items ≡ others ++ c.unwrap.result ∷ [] = c.pop.ensures.items ∙ ap (λ r. others ++ option_to_list r) c.unwrap.ensures in
    answered_alone (state_of d) (state_of e) (usability d.is_usable) (usability e.is_usable) c.args.request.now others c.unwrap.result
    (subst (λ (replies : List Reply). AreAnswered (state_of d) (usability d.is_usable) (c.args.request.now ∷ []) (map answer_of replies) (state_of e) (usability e.is_usable)) one
    (rw c.from_ref.ensures.value at c.in-Ok.ensures.answers))

pub returns-in-Err : goal.returns-in-Err
returns-in-Err g c = memory_alone (state_of c.args.desk.now) c.args.request.now c.in-Err.refusal c.in-Err.ensures.memory.0
