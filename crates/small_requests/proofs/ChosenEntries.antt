-- What is chosen is ready, in the plan, and not satisfied.
use Rattle.std.proofs.Common.{◌≡◌, inl, inr, subst, ℕ, true, List, All, Contains}
use Rattle.plan_basics.specs.Keys.{operation_cmp_total, operation_cmp-IsAntisymmetric}
use Rattle.plan_basics.specs.declared.keys.OpKey.{OpKey}
use Rattle.ready_list.proofs.Members.{contains_from_filter}
use Rattle.ready_list.specs.Choice.{is_among, operations_of}
use Rattle.plan_drafts.proofs.Lists.{all_by_members, from_map}
use Rattle.plan_model.proofs.Members.{if_member, member_if}
use Rattle.plan_model.specs.Contents.{Contents, IsInPlan}
use Rattle.plan_model.specs.Ready.{IsChosen}
use Rattle.plan_model.specs.Status.{IsReady}
use Rattle.plan_checks.specs.plan_laws.proofs.Kept.{ready_not_satisfied}
use Rattle.small_requests.specs.KeptLaws.{ChosenAreReady, ReadyAreUnsatisfied}

ready_in_plan : (P : Contents) (o : OpKey) → IsReady P o → IsInPlan P o
ready_in_plan P o (inl h) = (h.0, h.1, tt)
ready_in_plan P o (inr (inl h)) = (h.0, h.1, tt)
ready_in_plan P o (inr (inr h)) = (h.0, h.1, tt)

module _ (P : Contents) (m : ℕ) (os : List OpKey) (c : IsChosen P m os) where
  chosen_is_ready : (o : OpKey) → is_among os o ≡ true → IsReady P o
  chosen_is_ready o h =
      let has : Contains os o = member_if operation_cmp-IsAntisymmetric os o h in
      let in_ready = (contains_from_filter (is_among os) (operations_of c.ready) o (subst (λ xs. Contains xs o) c.choice.in_order has)).0 in
      let key = from_map (λ k. k.op) c.ready o in_ready in
      subst (IsReady P) key.2 ((c.is_ready_list.has_all key.0).0 key.1).0

  chosen_in_plan : All (IsInPlan P) os
  chosen_in_plan = all_by_members (IsInPlan P) os (λ o has. ready_in_plan P o (chosen_is_ready o (if_member operation_cmp_total os o has)))

pub chosen_are_ready : ChosenAreReady
chosen_are_ready P m os c = (chosen_is_ready P m os c, chosen_in_plan P m os c)

pub ready_are_unsatisfied : ReadyAreUnsatisfied
ready_are_unsatisfied P os places ready are i o op has at = ready_not_satisfied P o (ready o ((are.each i o op at).0 has))
