-- Whether special resources that an operation needs are free, need by need.
use Rattle.std.proofs.Common.{◌≡◌, ◌↔◌, refl, subst, ℕ, ◌<◌, List, length, get_or, Contains, Some, true}
use Rattle.std.specs.FinMap.{get}
use Rattle.plan_basics.specs.Keys.{Name}
use Rattle.plan_basics.specs.declared.Refusal.TheVariants.{ResourceBusy}
use Rattle.plan_basics.specs.declared.keys.OpKey.{OpKey}
use Rattle.special_resources.proofs.Amounts.{leaves_alike, same_operation}
use Rattle.special_resources.specs.Holders.{FitsBeside, Usage}
use Rattle.special_resources.specs.Holdings.{Held, HoldsIn, usage_of}
use Rattle.special_resources.specs.Needs.{AreInNameOrder, usages_of}
use Rattle.special_resources.specs.declared.Need.{Need}
use Rattle.special_resources.proofs.MoreNeeds.{need_by_usage, usage_by_need}
use Rattle.plan_model.specs.Holdings.{Holds}
use Rattle.plan_model.specs.Contents.{Contents, Operation, Resources}
use Rattle.plan_model.specs.declared.Stock.{Stock}
use Rattle.plan_model.specs.Starts.{MayStart}
use Rattle.start_choice.specs.Choices.{AreHeldIn}
use Rattle.start_choice.specs.Takings.{CanMeetNeeds, CanUse, CanMeetNeed}

module _ (resources : Resources) (held : Held) (o : OpKey) (needs : List Need) (sorted : AreInNameOrder needs) where
  -- where each need can be met, all can
  pub all_free : ((k : ℕ) (d : Need) → k < length needs → CanMeetNeed resources held o (get_or needs k d)) → CanMeetNeeds resources held o (usages_of needs)
  all_free each r usage is =
      let there = need_by_usage needs sorted r usage is in
      let at : CanMeetNeed resources held o there.0 = subst (CanMeetNeed resources held o) there.1.2 (each there.1.0 there.0 there.1.1) in
      subst (λ (u : Usage). CanUse resources held o r u) there.3 (subst (λ name. CanUse resources held o name (usage_of there.0)) there.2 at)

  -- where one can't, not all can
  pub one_busy : (n : Need) → Contains needs n → ¬ CanMeetNeed resources held o n → ¬ CanMeetNeeds resources held o (usages_of needs)
  one_busy n has busy free = busy (free n.name (usage_of n) (usage_by_need needs sorted n has))

-- by the holders, and by what is held
module _ (P : Contents) (held : Held) (holders : AreHeldIn P held) (o : OpKey) where
  -- it is available, and may be used beside all others that hold it
  abbrev IsFree : Name → Usage → Type 0
  IsFree r usage = (stock : Stock) × (get P.resources r ≡ Some stock) × (stock.available ≡ true) × FitsBeside stock.quantity (Holds P) o r usage

  pub free_by_holders : (r : Name) (usage : Usage) → CanUse P.resources held o r usage → IsFree r usage
  free_by_holders r usage can = (
    can.0,
    can.1,
    can.2,
    (
      λ other u differs holds. can.3.0 other u differs ((holders other r u.claim).1 (u.keep, holds)),
      leaves_alike same_operation r can.0.quantity (HoldsIn held) (Holds P) o usage (λ k u holds. (u, (holders k r u.claim).1 (u.keep, holds), refl)) can.3.1,
    ),
  )

  pub free_by_held : (r : Name) (usage : Usage) → IsFree r usage → CanUse P.resources held o r usage
  free_by_held r usage free = (
    free.0,
    free.1,
    free.2,
    (
      λ other u differs at. let holds = (holders other r u.claim).0 at in free.3.0 other (record { claim = u.claim; keep = holds.0 }) differs holds.1,
      leaves_alike same_operation r free.0.quantity (Holds P) (HoldsIn held) o usage (λ k u at. let holds = (holders k r u.claim).0 at in (record { claim = u.claim; keep = holds.0 }, holds.1, refl)) free.3.1,
    ),
  )

  -- the line on special resources
  pub may_start_by_free : (op : Operation) (m : ℕ) → CanMeetNeeds P.resources held o op.needs ↔ MayStart P o op m ResourceBusy
  may_start_by_free op m = (λ free r usage is. free_by_holders r usage (free r usage is), λ may r usage is. free_by_held r usage (may r usage is))
