-- When an operation that is ready is allowed to start, once some others that are ready are named.
use Rattle.std.proofs.Common.{◌≡◌, inl, sym, subst, ◌∙◌, ℕ, true, false, List, Some}
use Rattle.std.specs.FinMap.{get}
use Rattle.plan_basics.specs.declared.Refusal.{Refusal}
use Rattle.plan_basics.specs.declared.Refusal.TheVariants as refusal
use Rattle.plan_basics.specs.declared.keys.OpKey.{OpKey}
use Rattle.ready_list.specs.Choice.{is_among}
use Rattle.plan_model.specs.Contents.{Contents, Operation}
use Rattle.plan_model.specs.Ready.{named}
use Rattle.plan_model.specs.Starts.{IsAllowedToStart, MayStart}
use Rattle.plan_model.specs.Status.{IsReady}
use Rattle.std.proofs.lemmas.Option.{same_Some}
use Rattle.start_choice.specs.Takings.{CanStart}
use Rattle.start_choice.proofs.Naming.{ready_still, still}

module _ (P : Contents) (m : ℕ) (os : List OpKey) (ready : (o : OpKey) → is_among os o ≡ true → IsReady P o)
    (o : OpKey) (op : Operation) (is : get P.operations o ≡ Some op) (out : is_among os o ≡ false) where
  lines : IsReady P o → CanStart (named os P) o op m → (line : Refusal) → MayStart (named os P) o op m line
  lines first can refusal.WrongStatus = inl (ready_still os P ready o out first)
  lines first can r = can r tt

  -- what is ready may start, where it can
  pub may_start : IsReady P o → CanStart (named os P) o op m → IsAllowedToStart (named os P) o m
  may_start first can = (op, still os P o op out is, lines first can)

  -- what is allowed to start can
  pub can_start : IsAllowedToStart (named os P) o m → CanStart (named os P) o op m
  can_start allowed r line =
      subst (λ z. MayStart (named os P) o z m r) (same_Some allowed.0 op (sym allowed.1 ∙ still os P o op out is)) (allowed.2 r)
