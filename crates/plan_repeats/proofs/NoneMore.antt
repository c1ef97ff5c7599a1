-- Once those that are chosen are named, nothing more is chosen at that moment.
use Rattle.std.proofs.Common.{◌≡◌, inl, inr, refl, ap, subst, ℕ, ◌||◌, List, [], ◌∷◌}
use Rattle.std.specs.Cmp.{tied_itself}
use Rattle.std.specs.Ordering.{is_eq}
use Rattle.plan_basics.specs.Keys.{operation_cmp_total}
use Rattle.plan_basics.specs.declared.Refusal.TheVariants as refusal
use Rattle.plan_basics.specs.declared.keys.OpKey.{OpKey}
use Rattle.ready_list.specs.Choice.{is_among}
use Rattle.plan_laws.proofs.Kept.{named_none}
use Rattle.plan_laws.proofs.Starts.{not_resumed}
use Rattle.plan_model.specs.Contents.{Contents}
use Rattle.plan_model.specs.Ready.{IsChosen, named}
use Rattle.plan_model.specs.Starts.{IsAllowedToStart}
use Rattle.plan_model.specs.Status.{IsReady}
use Rattle.plan_model.specs.Valid.{IsValid}
use Rattle.plan_reasons.proofs.PassedOver.{passed_over}

module _ (P : Contents) (valid : IsValid P) (m : ℕ) (chosen : List OpKey) (c : IsChosen P m chosen) where
  -- the plan with them named
  abbrev after : Contents
  after = named chosen P

  -- nothing can be the first of a further choice
  pub none_more : (more : List OpKey) → IsChosen after m more → more ≡ []
  none_more [] d = refl
  none_more (o ∷ rest) d =
      let on = d.choice.on_automatic o (ap (λ b. is_eq b || is_among rest o) (tied_itself operation_cmp_total o)) in
      let allowed : IsAllowedToStart (named [] after) o m = d.choice.members [] rest o refl in
      let ready : IsReady (named [] after) o = elim (allowed.2 refusal.WrongStatus) [ inl ready ↦ ready | inr resumed ↦ absurd (not_resumed after [] o allowed.0 on allowed.1 resumed.1) ] in
      absurd (passed_over P valid m chosen c o (subst (λ X. IsReady X o) (named_none after) ready) on (subst (λ X. IsAllowedToStart X o m) (named_none after) allowed))
