use Rattle.std.proofs.Common.{inl, inr, sym, ◌∙◌}
use Rattle.std.proofs.lemmas.Result.{IfOk-weaker}
use Rattle.extension_faults.proofs.judging.tell_refused.Goals as goal

pub returns-then-is_loaded : goal.returns-then-is_loaded
returns-then-is_loaded c = IfOk-weaker c.tell_beside.result _ _ (λ lines told. inl (sym c.is_loaded.ensures ∙ c.if-is_loaded.true, told)) c.tell_beside.ensures

pub returns-else-is_loaded : goal.returns-else-is_loaded
returns-else-is_loaded c = IfOk-weaker c.told_refusal.result _ _ (λ lines told. inr (sym c.is_loaded.ensures ∙ c.if-is_loaded.false, told)) c.told_refusal.ensures
