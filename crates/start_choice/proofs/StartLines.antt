-- The lines on what an operation needs to start, by what its workstation has left and what is held.
use Rattle.std.proofs.Common.{◌≡◌, refl, sym, ap, subst, ◌∙◌, arith, ℕ, ◌<◌, ◌≤◌, false, Some}
use Rattle.std.specs.FinMap.{get}
use Rattle.plan_basics.specs.Refusals.{number_of}
use Rattle.plan_basics.specs.declared.Refusal.{Refusal}
use Rattle.plan_basics.specs.declared.Refusal.TheVariants as refusal
use Rattle.plan_basics.specs.declared.keys.OpKey.{OpKey}
use Rattle.special_resources.specs.Holdings.{Held}
use Rattle.std.proofs.lemmas.Option.{same_Some}
use Rattle.plan_model.specs.Holdings.{given_out}
use Rattle.plan_model.specs.Contents.{Contents, Operation}
use Rattle.plan_model.specs.Starts.{FitsAt, MayStart}
use Rattle.workstations.specs.Workstations.{HasRoom, Workstation}
use Rattle.workstations.specs.declared.Capacity.{Capacity}
use Rattle.start_choice.specs.Choices.{HasTaken, IsStartLine}
use Rattle.start_choice.specs.Takings.{CanMeetNeeds}
use Rattle.start_choice.proofs.FreeResources.{may_start_by_free}

-- what refuses for want of room comes before the line on special resources
pub before_busy : (ws : Workstation) (m : ℕ) (taken : Capacity) (a b : ℕ) (r lower : Refusal) → ¬ HasRoom ws m taken a b r → number_of lower < number_of r → lower ≡ refusal.ResourceBusy → ⊥
before_busy ws m taken a b refusal.Closed lower none less is = omega (arith, less, ap number_of is)
before_busy ws m taken a b refusal.NoServer lower none less is = omega (arith, less, ap number_of is)
before_busy ws m taken a b refusal.NoFixed lower none less is = omega (arith, less, ap number_of is)
before_busy ws m taken a b r lower none less is = none tt

module _ (c : Contents) (op : Operation) (ws : Workstation) (found : get c.workstations op.workstation ≡ Some ws) (m : ℕ) (taken : Capacity) (held : Held)
    (P : Contents) (has : HasTaken P c op taken held) where
  its : get P.workstations op.workstation ≡ Some ws
  its = ap (λ all. get all op.workstation) has.workstations ∙ found

  fits_at : (line : Refusal) → HasRoom ws m taken op.r1 op.r2 line → FitsAt P op m line
  fits_at line room = (ws, its, subst (λ t. HasRoom ws m t op.r1 op.r2 line) (sym has.given) room)

  room_at : (line : Refusal) → FitsAt P op m line → HasRoom ws m taken op.r1 op.r2 line
  room_at line fit =
      subst (λ t. HasRoom ws m t op.r1 op.r2 line) has.given
      (subst (λ w. HasRoom w m (given_out P op.workstation) op.r1 op.r2 line) (same_Some fit.0 ws (sym fit.1 ∙ its)) fit.2)

  -- what has no room may not start
  pub no_room : (o : OpKey) (r : Refusal) → ¬ HasRoom ws m taken op.r1 op.r2 r → ¬ MayStart P o op m r
  no_room o refusal.Closed none may = none (room_at refusal.Closed may)
  no_room o refusal.NoServer none may = none (room_at refusal.NoServer may)
  no_room o refusal.NoFixed none may = none (room_at refusal.NoFixed may)
  no_room o r none may = none tt

  -- nor may what can't use all that it needs
  pub not_free : (o : OpKey) → ¬ CanMeetNeeds c.resources held o op.needs → ¬ MayStart P o op m refusal.ResourceBusy
  not_free o busy may = busy (subst (λ all. CanMeetNeeds all held o op.needs) has.resources ((may_start_by_free P held has.holders o op m).1 may))

  free_at : (o : OpKey) → CanMeetNeeds c.resources held o op.needs → MayStart P o op m refusal.ResourceBusy
  free_at o free = (may_start_by_free P held has.holders o op m).0 (subst (λ all. CanMeetNeeds all held o op.needs) (sym has.resources) free)

  module _ (free : op.held ≡ false) (after : op.not_before ≤ m) where
    -- a line before that on special resources, which is met by what is left
    pub lower_met : (o : OpKey) (r : Refusal) → IsStartLine r → (r ≡ refusal.ResourceBusy → ⊥) → HasRoom ws m taken op.r1 op.r2 r → MayStart P o op m r
    lower_met o refusal.WrongStatus line lower room = absurd line
    lower_met o refusal.ResourceBusy line lower room = absurd (lower refl)
    lower_met o refusal.Held line lower room = free
    lower_met o refusal.TooEarly line lower room = after
    lower_met o refusal.Closed line lower room = fits_at refusal.Closed room
    lower_met o refusal.NoServer line lower room = fits_at refusal.NoServer room
    lower_met o refusal.NoFixed line lower room = fits_at refusal.NoFixed room
    lower_met o r line lower room = tt

    -- each line is met by what is left and by what is held
    pub line_met : (o : OpKey) (r : Refusal) → IsStartLine r → HasRoom ws m taken op.r1 op.r2 r → CanMeetNeeds c.resources held o op.needs → MayStart P o op m r
    line_met o refusal.ResourceBusy line room usable = free_at o usable
    line_met o r line room usable = lower_met o r line (λ e. cc) room
