-- Contents that a request makes.
use Rattle.std.proofs.Common.{◌≡◌, refl, sym, subst, ℕ, true, Option, Some, None, is_some, Result, IfOk}
use Rattle.std.specs.FinMap.{len}
use Rattle.plan_basics.specs.Refusals.{NoneRefuses}
use Rattle.plan_basics.specs.declared.Refusal.TheVariants as refusal
use Rattle.plan_model.specs.Contents.{AddedParts, Contents}
use Rattle.plan_records.specs.Acceptance.{MayBeDone}
use Rattle.plan_records.specs.Changes.{Changes, IsRequest}
use Rattle.plan_records.specs.declared.What.{What}
use Rattle.plan_records.specs.declared.What.TheVariants as what
use Rattle.plan_drafts.specs.Contents.{AreExtensionParts, added_of}
use Rattle.plan_drafts.specs.Drafts.{IsAddition, IsExtension}
use Rattle.plan_drafts.specs.declared.contents.ExtensionParts.{ExtensionParts}
use Rattle.request_outcomes.specs.Requested.{AreMadeBy}
use Rattle.small_requests.specs.plan_changes.proofs.Answered.{if_ok}

module _ (P : Contents) (w : What) (legal : IsRequest w) where
  -- where it is what the request changes, of what is answered, r, to a request, v, that is this one
  pub if_made : {E : Type 0} {r : Result Contents E} (v : What) → v ≡ w → (answer : Result Contents E) → r ≡ answer → IfOk answer (Changes P w) → IfOk r (AreMadeBy P v)
  if_made v is answer answered changes =
      subst (λ r. IfOk r (AreMadeBy P v)) (sym answered)
      (subst (λ v. IfOk answer (AreMadeBy P v)) (sym is) (if_ok answer (λ new change. record { is_request = legal; changes = change }) changes))

-- ---- what is known of a request that nothing refuses

-- of a request, v, that is this one, and of contents, P, that are these
pub clear_of : (P Q : Contents) → Q ≡ P → (v w : What) → v ≡ w → (at : ℕ) × NoneRefuses (MayBeDone P at v) → (at : ℕ) × NoneRefuses (MayBeDone Q at w)
clear_of P Q same v w is clear = (clear.0, subst (λ (R : Contents). NoneRefuses (MayBeDone R clear.0 w)) (sym same) (subst (λ z. NoneRefuses (MayBeDone P clear.0 z)) is clear.1))

-- what is added is of a text that denotes something
pub has_addition : (P : Contents) (m : ℕ) (a : Option AddedParts) → NoneRefuses (MayBeDone P m (what.AddOccurrence a)) → is_some a ≡ true
has_addition P m None clear = absurd (clear refusal.BadPlan)
has_addition P m (Some s) clear = refl

-- what its parts show of an addition
pub legal_by_parts : (s : AddedParts) (parts : ExtensionParts) → s ≡ added_of parts → len s.occurrences ≡ 1 → AreExtensionParts parts → IsAddition s
legal_by_parts s parts is one told = record { one = one; extension = subst (λ (s : AddedParts). IsExtension s) (sym is) told.extension }
