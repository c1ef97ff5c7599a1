use Rattle.std.proofs.Common.{sym, ap, ◌∙◌, Some}
use Rattle.plan_drafts.proofs.Tables.{is_none}
use Rattle.record_faults.proofs.Indexes.{keep_none, keep_known, keep_new}
use Rattle.record_faults.proofs.index.keep_first.Goals as goal

pub returns-in_default : goal.returns-in_default
returns-in_default c = λ keys here. keep_none keys c.args.place c.args.index.now (here ∙ ap Some c.in_default.is)

pub returns-then-contains_key : goal.returns-then-contains_key
returns-then-contains_key c = λ keys here. keep_known keys c.args.place c.args.index.now c.in-Some.key (here ∙ ap Some c.in-Some.is) (sym c.contains_key.ensures ∙ c.if-contains_key.true)

pub returns : goal.returns
returns c = λ keys here. keep_new keys c.args.place c.in-Some.key c.args.index.now c.insert.new.self (here ∙ ap Some c.in-Some.is) (is_none _ (sym c.contains_key.ensures ∙ c.if-contains_key.false)) c.in_ok-insert.ensures.updates.0
