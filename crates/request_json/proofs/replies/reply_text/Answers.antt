use Rattle.std.proofs.lemmas.Result.{IfOk-weaker}
use Rattle.plan_records.specs.Answer.{answer_of}
use Rattle.request_json.proofs.Written.{answer_written}
use Rattle.request_json.proofs.replies.reply_text.Goals as goal

pub returns : goal.returns
returns c = IfOk-weaker c.to_vec.result _ _ (λ b text. text (answer_written (answer_of c.args.reply.now))) (rw c.in_ok-reply_value.ensures at c.to_vec.ensures.text)
