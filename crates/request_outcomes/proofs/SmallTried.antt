-- What a small request leads to, by its trial.
use Rattle.std.proofs.Common.{◌⊎◌, inl, inr, subst, arith, ℕ, ◌+◌, ◌≤◌}
use Rattle.plan_basics.specs.Minutes.{IsMoment}
use Rattle.plan_basics.specs.Refusals.{NoneRefuses}
use Rattle.request_outcomes.proofs.Preparing.{is_clear, is_moment}
use Rattle.request_outcomes.specs.DatedRequests.{IsAcceptable, plan_asked}
use Rattle.request_outcomes.specs.Looked.{AreAllowed}
use Rattle.request_outcomes.specs.Next.{IsWritingFor}
use Rattle.request_outcomes.specs.declared.dated_requests.DatedRequest.{DatedRequest}
use Rattle.plan_records.specs.Acceptance.{MayBeDone, minute_of}
use Rattle.plan_records.specs.declared.What.{What}
use Rattle.plan_model.specs.Contents.{Contents}
use Rattle.small_requests.specs.Edits.{edited}
use Rattle.small_requests.specs.RequestEdits.{IsSmall}
use Rattle.small_requests.specs.LooksLaws.{SmallStepsLookFew}
use Rattle.small_requests.specs.Trials.{IsTrialOf, contents_then}
use Rattle.small_requests.specs.declared.edits.Edit.{Edit}
use Rattle.small_requests.specs.declared.named_steps.SmallStep.{SmallStep}
use Rattle.small_requests.specs.plan_rows.specs.Notes.{operations_noted}

-- what is acceptable is so at a moment
pub moment_asked : (P : Contents) (q : DatedRequest) → IsAcceptable P q → IsMoment q.at
moment_asked P q acceptable = subst (λ z. IsMoment (minute_of z)) acceptable.at (is_moment (plan_asked P q) q.request.now acceptable.clear)

-- and nothing stands in its way then
pub clear_asked : (P : Contents) (q : DatedRequest) → IsAcceptable P q → NoneRefuses (MayBeDone P q.at q.request.now.what)
clear_asked P q acceptable = subst (λ z. NoneRefuses (MayBeDone P (minute_of z) q.request.now.what)) acceptable.at (is_clear (plan_asked P q) q.request.now acceptable.clear)

-- looks that are no fewer than those before and what is noted are no fewer than that
enough_noted : (before noted looks : ℕ) → (18446744073709551615 ≤ looks) ⊎ (before + noted ≤ looks) → (18446744073709551615 ≤ looks) ⊎ (noted ≤ looks)
enough_noted before noted looks (inl full) = inl full
enough_noted before noted looks (inr each) = inr (omega (arith, each))

module _ (P : Contents) (w : What) (m first looks : ℕ) (e : Edit) (s : SmallStep) (trial : IsTrialOf P w m first looks e s) where
  -- what was tried may be written
  pub fits_tried : IsWritingFor P (record { keys = e.keys; revision = e.revision; figure_change = s.figure_change }) s.named.items
  fits_tried = record {
    has_place = trial.edit.fits.has_place;
    sound = trial.edit.fits.sound_after;
    chosen = (m, trial.step.chosen);
    frame = trial.step.frame;
    figure_change = trial.step.figure_change;
  }

  -- there were as many looks as operations were noted
  pub enough_looked : (18446744073709551615 ≤ looks) ⊎ (operations_noted s.notes ≤ looks)
  enough_looked = enough_noted trial.looked.before (operations_noted s.notes) looks trial.looked.step.fewest

  -- there may be as many looks more as operations were noted
  pub few_looked : SmallStepsLookFew → IsSmall w → IsMoment m → NoneRefuses (MayBeDone P m w) → first ≤ 1 → (work : ℕ) → work ≤ looks + operations_noted s.notes → AreAllowed P w (contents_then P e s) work
  few_looked law small moment clear few work most n allowance =
      law P (edited e P) w m e.is_rerun e.places.items s.named.items (operations_noted s.notes) trial.looked.before looks work n
      (record { sound = trial.edit.fits.sound; sound_after = trial.edit.fits.sound_after; small = small; moment = moment; clear = clear; moved = trial.edit.fits.edit.moved; alike = trial.edit.fits.edit.alike; worked = trial.edit.worked; chosen = trial.step.chosen })
      trial.edit.rerun trial.looked.step (omega (arith, trial.looked.few, few)) most allowance
