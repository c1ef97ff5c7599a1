use Rattle.std.proofs.Common.{◌≡◌, ◌↔◌, ◌∙◌, refl, sym, subst, true, IfOk}
use Rattle.plan_basics.specs.declared.keys.OpKey.{OpKey}
use Rattle.plan_model.specs.Contents.{Contents, IsInPlan}
use Rattle.plan_model.specs.Starts.{Reaches}
use Rattle.plan_model.specs.ready_list.specs.Choice.{is_among}
use Rattle.plan_shows.proofs.Unloaded.{no_operation}
use Rattle.plan_shows.proofs.reached.keys_reached.Goals as goal

pub reached_keys-requires : goal.reached_keys-requires
reached_keys-requires c = subst (λ (P : Contents). IsInPlan P c.args.key.now) (sym (c.outline.ensures ∙ c.in-Some.ensures.contents)) c.requires

pub returns-in-Some-clause-reached : goal.returns-in-Some-clause-reached
returns-in-Some-clause-reached c =
    subst (λ (P : Contents). IfOk c.reached_keys.result (λ keys. (o : OpKey) → (is_among keys.items o ≡ true) ↔ Reaches P c.args.key.now o)) (c.outline.ensures ∙ c.in-Some.ensures.contents) c.reached_keys.ensures.reached

pub returns-in-None-clause-reached : goal.returns-in-None-clause-reached
returns-in-None-clause-reached c = absurd (no_operation c.args.plan.now.plan.contents c.args.key.now (c.in-None.ensures.none refl) c.requires)
