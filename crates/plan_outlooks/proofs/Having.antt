-- Who has some of what lacks.
use Rattle.std.proofs.Common.{◌≡◌, sym, ◌∙◌, subst, ◌<◌, Bool, true, Some}
use Rattle.std.specs.Prelude.{Decides}
use Rattle.std.specs.FinMap.{get}
use Rattle.std.proofs.lemmas.Option.{same_Some}
use Rattle.plan_basics.specs.declared.keys.OpKey.{OpKey}
use Rattle.plan_model.specs.Contents.{Contents, Operation, attribute_at}
use Rattle.plan_model.specs.Holdings.{takes}
use Rattle.plan_model.specs.special_resources.specs.Holders.{Usage}
use Rattle.plan_reasons.specs.Reasons.{amount_needed}
use Rattle.plan_reasons.specs.declared.reasons.Reason.TheVariants as reason
use Rattle.plan_reasons.specs.declared.reasons.Scarcity.{Scarcity}
use Rattle.plan_reasons.specs.declared.reasons.Shortage.{Shortage}
use Rattle.plan_outlooks.specs.Lacks.{HasOf}

module _ (P : Contents) (q : OpKey) (op : Operation) where
  -- one operation takes servers, or doesn't
  pub takes_by : get P.operations q ≡ Some op → (other : Operation) → get P.operations q ≡ Some other → takes (attribute_at P other.workstation) ≡ true → takes (attribute_at P op.workstation) ≡ true
  takes_by is other its taking = subst (λ (z : Operation). takes (attribute_at P z.workstation) ≡ true) (same_Some other op (sym its ∙ is)) taking

  pub supply_by : (x : Shortage) → get P.operations q ≡ Some op → takes (attribute_at P op.workstation) ≡ true → (b : Bool) → Decides b ((op.workstation ≡ x.workstation) × (0 < amount_needed x.supply op)) → Decides b (HasOf P q (Some (reason.Lacks x)))
  supply_by x is taking b told = (
    (λ e. let h = told.0 e in (op, is, (taking, h.0, h.1))),
    (λ h. told.1 (subst (λ (z : Operation). (z.workstation ≡ x.workstation) × (0 < amount_needed x.supply z)) (same_Some h.0 op (sym h.1 ∙ is)) (h.2.1, h.2.2))),
  )

  pub resource_by : (x : Scarcity) → get P.operations q ≡ Some op → takes (attribute_at P op.workstation) ≡ true → (b : Bool) → Decides b ((u : Usage) × (get op.needs x.resource ≡ Some u)) → Decides b (HasOf P q (Some (reason.TooLittleLeft x)))
  resource_by x is taking b told = (
    (λ e. (op, is, (taking, told.0 e))),
    (λ h. told.1 (subst (λ (z : Operation). (u : Usage) × (get z.needs x.resource ≡ Some u)) (same_Some h.0 op (sym h.1 ∙ is)) h.2.1)),
  )
