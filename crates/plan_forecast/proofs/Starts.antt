-- Starts that are noted at each request.
use Rattle.std.proofs.Common.{◌≡◌, ◌↔◌, inl, inr, refl, sym, ◌∙◌, subst, arith, MatchOption}
use Rattle.std.proofs.lemmas.Option.{none-some, same_Some}
use Rattle.operation_graph.proofs.Telling.{Told, told_three}
use Rattle.plan_basics.specs.declared.keys.OpKey.{OpKey}
use Rattle.plan_laws.proofs.Entries.{told_has}
use Rattle.plan_model.specs.Contents.{Contents}
use Rattle.plan_model.specs.Status.{UnmarkedStatus}
use Rattle.plan_model.specs.Valid.{IsAcyclic}
use Rattle.status_rules.specs.Table.{marked_status}
use Rattle.status_rules.specs.declared.Mark.{Mark}
use Rattle.status_rules.specs.declared.Mark.TheVariants as mark
use Rattle.status_rules.specs.declared.Status.TheVariants as status
use Rattle.plan_forecast.specs.Starts.{GoesOnAlike, IsRunning, ReportedStartIsKnown, StartsStayKnown}
use Rattle.plan_forecast.proofs.Made.{going_told}

abbrev Runs : Mark → Type 0
Runs mark.Running = Unit {0}
Runs m = ⊥

mark_told : (m : Mark) → Told (m ≡ mark.Running)
mark_told mark.Running = inl refl
mark_told m = inr (λ e. subst Runs (sym e) tt)

pub running_told : (P : Contents) (o : OpKey) → Told (IsRunning P o)
running_told P o = told_has P o (λ op. op.mark ≡ mark.Running) (λ op e. mark_told op.mark)

told_iff : {A B : Type 0} → Told A → Told B → Told (A ↔ B)
told_iff (inl a) (inl b) = inl ((λ _. b), (λ _. a))
told_iff (inl a) (inr n) = inr (λ h. n (h.0 a))
told_iff (inr n) (inl b) = inr (λ h. n (h.1 b))
told_iff (inr n) (inr k) = inl ((λ a. absurd (n a)), (λ b. absurd (k b)))

pub alike_told : (P Q : Contents) → IsAcyclic P.pairs → IsAcyclic Q.pairs → (o : OpKey) → Told (GoesOnAlike P Q o)
alike_told P Q acyclic_p acyclic_q o = told_three (going_told P acyclic_p o) (going_told Q acyclic_q o) (told_iff (running_told P o) (running_told Q o))

pub starts_stay_known : StartsStayKnown
starts_stay_known P after old new sound sound_after onward starts known o b is = elim (going_told after.contents sound_after.contents.valid.acyclic o) [
  | inl going ↦ elim (alike_told P.contents after.contents sound.contents.valid.acyclic sound_after.contents.valid.acyclic o) [
    | inl alike ↦ (going, (let h = (known o b (sym (starts.goes_on o alike) ∙ is)).1 in omega (arith, h, onward)))
    | inr other ↦ (going, (let h = same_Some after.clock b (sym (starts.begun o going other) ∙ is) in omega (arith, h)))
  ]
  | inr over ↦ absurd (none-some b (sym (starts.over o over) ∙ is))
]

-- what runs is started
running_goes : (m : Mark) → m ≡ mark.Running → (U : Type 0) → MatchOption (marked_status m) U (λ t. status.Started ≡ t)
running_goes m e U = subst (λ z. MatchOption (marked_status z) U (λ t. status.Started ≡ t)) (sym e) refl

pub reported_start_is_known : ReportedStartIsKnown
reported_start_is_known P after old new sound starts o never runs =
    starts.begun o (inl (runs.0, runs.1, running_goes runs.0.mark runs.2 (UnmarkedStatus after.contents o status.Started))) (λ alike. never (alike.2.1 runs))
