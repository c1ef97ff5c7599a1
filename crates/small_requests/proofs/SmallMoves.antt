-- A small request that isn't refused changes marks and flags where it edits them, and no others; to name what is ready does so too.
use Rattle.std.proofs.Common.{◌≡◌, ◌≢◌, refl, sym, ap, subst, ◌∙◌, ℕ, Bool, true, false, cond, List, Contains, Some}
use Rattle.std.specs.Ordering.{eq_by_cmp}
use Rattle.std.specs.FinMap.{get}
use Rattle.plan_basics.specs.Keys.{Name, name_cmp}
use Rattle.plan_basics.specs.Refusals.{NoneRefuses}
use Rattle.plan_basics.specs.declared.keys.OpKey.{OpKey}
use Rattle.ready_list.specs.Choice.{is_among}
use Rattle.status_rules.proofs.Live.{mark_live}
use Rattle.status_rules.specs.Classes.{is_live}
use Rattle.status_rules.specs.declared.Mark.{Mark}
use Rattle.status_rules.specs.declared.Mark.TheVariants as mark
use Rattle.workstations.specs.Workstations.{with_intervals}
use Rattle.plan_model.proofs.Looks.{same_key}
use Rattle.plan_model.specs.Contents.{Contents, Operation, Resources, Workstations, with_availability}
use Rattle.plan_model.specs.Ready.{with_mark}
use Rattle.plan_model.specs.Revise.{revise}
use Rattle.plan_model.specs.Status.{IsSatisfied}
use Rattle.plan_model.specs.Valid.{IsValid}
use Rattle.plan_records.specs.Acceptance.{MayBeDone}
use Rattle.plan_records.specs.Changes.{Changes, is_at, marked, revised}
use Rattle.plan_records.specs.declared.What.{What}
use Rattle.plan_records.specs.declared.What.TheVariants as what
use Rattle.plan_checks.specs.plan_laws.proofs.Kept.{ready_unmarked}
use Rattle.std.proofs.lemmas.Option.{same_Some}
use Rattle.plan_model.specs.Moves.{AreLiveAlike, IsMovedAt}
use Rattle.small_requests.proofs.NewMarks.{IsNewState, moved_alike, reporting_stays, still_live, unmoved}
use Rattle.small_requests.proofs.Rerunning.{reached_live, rerun_is_live}
use Rattle.small_requests.proofs.Targets.{not_deleted, target_not_satisfied}
use Rattle.small_requests.specs.RequestEdits.{ArePlacesWhere, IsEditedAt, IsSmall, StandsAt, target_of}
use Rattle.small_requests.specs.KeptLaws.{KeepsOthers, NamingMoves, SmallRequestsKeepOthers, SmallRequestsMove}

-- ---- one operation

module _ (P : Contents) (o : OpKey) (never : ¬ IsSatisfied P o) (places : List ℕ) (are : ArePlacesWhere P (λ q. Some o ≡ Some q) places) where
  at_its_place : (i : ℕ) (q : OpKey) (op : Operation) → StandsAt P i q op → is_at o q ≡ true → Contains places i
  at_its_place i q op at t = (are.each i q op at).1 (ap Some (sym (same_key q o t)))

  was_live : (q : OpKey) (op : Operation) → get P.operations q ≡ Some op → is_at o q ≡ true → is_live op.mark ≡ true
  was_live q op is t = mark_live op.mark (not_deleted P q op is (subst (λ z. ¬ IsSatisfied P z) (sym (same_key q o t)) never))

  one_marked : (M : Mark) → is_live M ≡ true → (Q : Contents) → Q ≡ marked o M P → IsMovedAt P Q places × AreLiveAlike P Q
  one_marked M live Q is =
      let state : IsNewState P (is_at o) (with_mark M) = record { only = λ op. refl; live = λ q op found t. live ∙ sym (was_live q op found t) } in
      subst (λ Z. IsMovedAt P Z places × AreLiveAlike P Z) (sym is) (moved_alike P (is_at o) (with_mark M) state places at_its_place)

  one_flagged : (f : Operation → Operation) → ((op : Operation) → f op ≡ record op { mark = (f op).mark; held = (f op).held; nop = (f op).nop }) → ((op : Operation) → (f op).mark ≡ op.mark) → (Q : Contents) → Q ≡ revised (is_at o) f P → IsMovedAt P Q places × AreLiveAlike P Q
  one_flagged f only same Q is =
      let state : IsNewState P (is_at o) f = record { only = only; live = λ q op found t. ap is_live (same op) } in
      subst (λ Z. IsMovedAt P Z places × AreLiveAlike P Z) (sym is) (moved_alike P (is_at o) f state places at_its_place)

-- ---- each small request

module _ (P : Contents) (valid : IsValid P) (m : ℕ) (places : List ℕ) (Q : Contents) where
  marks : (w : What) (o : OpKey) (M : Mark) → target_of w ≡ Some o → is_live M ≡ true → NoneRefuses (MayBeDone P m w) → ArePlacesWhere P (λ q. Some o ≡ Some q) places → Q ≡ marked o M P → IsMovedAt P Q places × AreLiveAlike P Q
  marks w o M is live clear are change = one_marked P o (target_not_satisfied P valid m w o is clear) places are M live Q change

  small_moves : (w : What) → IsSmall w → NoneRefuses (MayBeDone P m w) → Changes P w Q → IsEditedAt P w places → IsMovedAt P Q places × AreLiveAlike P Q
  small_moves (what.Load draft) small clear change are = absurd small
  small_moves what.Tick small clear change are = subst (λ Z. IsMovedAt P Z places × AreLiveAlike P Z) (sym change) (unmoved P P.workstations P.resources places refl, still_live P P refl)
  small_moves (what.Started o) small clear change are = marks (what.Started o) o mark.Running refl refl clear are change
  small_moves (what.Ended o) small clear change are = marks (what.Ended o) o mark.Done refl refl clear are change
  small_moves (what.Error o code) small clear change are = marks (what.Error o code) o (mark.Error code) refl refl clear are change
  small_moves (what.Interrupted o) small clear change are = marks (what.Interrupted o) o mark.Interrupted refl refl clear are change
  small_moves (what.Unknown o) small clear change are = marks (what.Unknown o) o mark.Undecided refl refl clear are change
  small_moves (what.Hold o) small clear change are = one_flagged P o (target_not_satisfied P valid m (what.Hold o) o refl clear) places are (λ op. record op { held = true }) (λ op. refl) (λ op. refl) Q change
  small_moves (what.Release o) small clear change are = one_flagged P o (target_not_satisfied P valid m (what.Release o) o refl clear) places are (λ op. record op { held = false }) (λ op. refl) (λ op. refl) Q change
  small_moves (what.Nop o) small clear change are = one_flagged P o (target_not_satisfied P valid m (what.Nop o) o refl clear) places are (λ op. record op { nop = true }) (λ op. refl) (λ op. refl) Q change
  small_moves (what.Unnop o) small clear change are = one_flagged P o (target_not_satisfied P valid m (what.Unnop o) o refl clear) places are (λ op. record op { nop = false }) (λ op. refl) (λ op. refl) Q change
  small_moves (what.Rerun o) small clear (test, reached, is) are =
      let state : IsNewState P test (with_mark mark.Unmarked) = record {
        only = λ op. refl;
        live = λ q op found t. let live = reached_live P o (rerun_is_live P o m clear) q ((reached q).0 t) in sym (mark_live op.mark (subst (λ (x : Operation). x.mark ≢ mark.Deleted) (same_Some live.0 op (sym live.1 ∙ found)) live.2));
      } in
      subst (λ Z. IsMovedAt P Z places × AreLiveAlike P Z) (sym is) (moved_alike P test (with_mark mark.Unmarked) state places (λ i q op at t. (are.each i q op at).1 ((reached q).0 t)))
  small_moves (what.Complete o) small clear change are = marks (what.Complete o) o mark.Done refl refl clear are change
  small_moves (what.DeleteOccurrence c) small clear change are = absurd small
  small_moves (what.AddOccurrence s) small clear change are = absurd small
  small_moves (what.Extend s) small clear change are = absurd small
  small_moves (what.AddDependency p s) small clear change are = absurd small
  small_moves (what.SetAvailable r available) small clear change are =
      let made : Resources = revise (with_availability r available) P.resources in
      subst (λ Z. IsMovedAt P Z places × AreLiveAlike P Z) (sym change) (unmoved P P.workstations made places refl, still_live P (record P { resources = made }) refl)
  small_moves (what.ReplaceIntervals w items) small clear change are =
      let test : Name → Bool = λ v. eq_by_cmp name_cmp v w in
      let opened : Workstations = revise (λ v ws. cond (test v) (with_intervals items.items ws) ws) P.workstations in
      subst (λ Z. IsMovedAt P Z places × AreLiveAlike P Z) (sym change) (unmoved P opened P.resources places (reporting_stays test (with_intervals items.items) (λ ws. refl) P.workstations), still_live P (record P { workstations = opened }) refl)

pub small_requests_move : SmallRequestsMove
small_requests_move P Q w m places valid small clear change are = small_moves P valid m places Q w small clear change are

-- ---- special resources and workstations

module _ (P Q : Contents) where
  others : (w : What) → IsSmall w → Changes P w Q → KeepsOthers P w Q
  others (what.Load draft) small change = absurd small
  others what.Tick small change = record {
    resources = λ keeps. ap (λ (Z : Contents). Z.resources) change;
    workstations = λ keeps. ap (λ (Z : Contents). Z.workstations) change;
    operations = λ keeps. ap (λ (Z : Contents). Z.operations) change;
  }
  others (what.Rerun o) small change = record {
    resources = λ keeps. ap (λ (Z : Contents). Z.resources) change.2;
    workstations = λ keeps. ap (λ (Z : Contents). Z.workstations) change.2;
    operations = λ keeps. absurd keeps;
  }
  others (what.DeleteOccurrence c) small change = absurd small
  others (what.AddOccurrence s) small change = absurd small
  others (what.Extend s) small change = absurd small
  others (what.AddDependency p s) small change = absurd small
  others (what.SetAvailable r available) small change = record {
    resources = λ keeps. absurd keeps;
    workstations = λ keeps. ap (λ (Z : Contents). Z.workstations) change;
    operations = λ keeps. ap (λ (Z : Contents). Z.operations) change;
  }
  others (what.ReplaceIntervals w items) small change = record {
    resources = λ keeps. ap (λ (Z : Contents). Z.resources) change;
    workstations = λ keeps. absurd keeps;
    operations = λ keeps. ap (λ (Z : Contents). Z.operations) change;
  }
  others w small change = record {
    resources = λ keeps. ap (λ (Z : Contents). Z.resources) change;
    workstations = λ keeps. ap (λ (Z : Contents). Z.workstations) change;
    operations = λ keeps. absurd keeps;
  }

pub small_requests_keep_others : SmallRequestsKeepOthers
small_requests_keep_others = others

-- ---- what is named

pub naming_moves : NamingMoves
naming_moves P os places ready are =
    let state : IsNewState P (is_among os) (with_mark mark.Named) = record {
      only = λ op. refl;
      live = λ o op found t. sym (ap is_live (ready_unmarked P o op found (ready o t)));
    } in
    moved_alike P (is_among os) (with_mark mark.Named) state places (λ i o op at t. (are.each i o op at).1 t)
