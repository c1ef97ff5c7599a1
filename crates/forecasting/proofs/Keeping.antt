-- What the requests of a forecast leave as it is: the rows of operations but for their marks, and all workstations.
use Rattle.std.proofs.Common.{◌≡◌, inl, inr, refl, sym, ◌∙◌, ap, subst, arith, ℕ, ◌<◌, ◌≤◌, Bool, true, false, cond, List, length, map, Option, Some, None, option_map, slice_get}
use Rattle.std.proofs.lemmas.List.{length-map}
use Rattle.std.proofs.lemmas.Option.{same_Some, slice_get-map}
use Rattle.std.specs.FinMap.{entries, get, keys}
use Rattle.plan_basics.specs.Keys.{operation_cmp, operation_cmp-IsAntisymmetric, operation_cmp_total}
use Rattle.plan_basics.specs.declared.keys.OpKey.{OpKey}
use Rattle.plan_records.specs.plan_drafts.proofs.MadeEntries.{each_made, entries-revise}
use Rattle.plan_records.specs.plan_drafts.proofs.RowPlaces.{keys-made}
use Rattle.plan_model.specs.Contents.{Contents, Operation}
use Rattle.plan_model.specs.Plan.{IsSoundPlan, Plan}
use Rattle.plan_model.specs.Ready.{named, with_mark}
use Rattle.plan_model.specs.Revise.{get-revise, revise}
use Rattle.status_rules.specs.declared.Mark.{Mark}
use Rattle.plan_forecast.specs.Ahead.{Ahead, IsNext, IsWork, LeadsTo}
use Rattle.plan_records.specs.Answer.{accepted}
use Rattle.plan_records.specs.Changes.{Changes, marked}
use Rattle.plan_records.specs.Step.{Step}
use Rattle.plan_records.specs.declared.Request.{Request}
use Rattle.plan_records.specs.declared.What.{What}
use Rattle.plan_records.specs.declared.What.TheVariants as what
use Rattle.plan_forecast.proofs.Short.{by_keys, step_drops, sum_less, to_come, weight_at}
use Rattle.forecasting.specs.Times.{AreTimesOf}
use Rattle.forecasting.specs.Adds.{AreLasting}
use Rattle.forecasting.specs.InMemory.{IsLike}
use Rattle.forecasting.specs.Turns.{IsHorizon}
use Rattle.forecasting.specs.declared.turns.Horizon.{Horizon}

pub like_itself : (P : Contents) → IsLike P P
like_itself P = record { workstations = refl; keys = refl; count = refl; rows = λ i o op at. (op, at); found = λ o op is. (op, is, refl) }

pub like_both : (P Q R : Contents) → IsLike P Q → IsLike Q R → IsLike P R
like_both P Q R a b = record {
  workstations = b.workstations ∙ a.workstations;
  keys = b.keys ∙ a.keys;
  count = b.count ∙ a.count;
  rows = λ i o op at. let r = b.rows i o op at in a.rows i o r.0 r.1;
  found = λ o op is. (let r = b.found o op is in let z = a.found o r.0 r.1 in (z.0, z.1, r.2 ∙ z.2));
}

module _ (P : Contents) (f : OpKey → Operation → Operation) (keeps : (o : OpKey) (op : Operation) → (f o op).not_before ≡ op.not_before) where
  abbrev made : OpKey × Operation → OpKey × Operation
  made e = (e.0, f e.0 e.1)

  rows_are : entries (revise f P.operations) ≡ each_made f (entries P.operations)
  rows_are = entries-revise operation_cmp operation_cmp_total operation_cmp-IsAntisymmetric f P.operations

  row_of : (i : ℕ) (o : OpKey) (op : Operation) (x : Option (OpKey × Operation)) → slice_get (entries P.operations) i ≡ x → option_map made x ≡ Some (o, op) → (old : Operation) × (slice_get (entries P.operations) i ≡ Some (o, old))
  row_of i o op None e h = absurd (cc)
  row_of i o op (Some r) e h = let same : made r ≡ (o, op) = same_Some (made r) (o, op) h in (r.1, e ∙ ap (λ k. Some (k, r.1)) (ap (λ (z : OpKey × Operation). z.0) same))

  value_of : (o : OpKey) (op : Operation) (x : Option Operation) → get P.operations o ≡ x → option_map (f o) x ≡ Some op → (old : Operation) × (get P.operations o ≡ Some old) × (op.not_before ≡ old.not_before)
  value_of o op None e h = absurd (cc)
  value_of o op (Some z) e h = let same : f o z ≡ op = same_Some (f o z) op h in (z, e, ap (λ (w : Operation). w.not_before) (sym same) ∙ keeps o z)

  pub revised_like : IsLike P (record P { operations = revise f P.operations })
  revised_like = record {
    workstations = refl;
    keys = ap (map (λ (e : OpKey × Operation). e.0)) rows_are ∙ keys-made operation_cmp operation_cmp_total operation_cmp-IsAntisymmetric f (entries P.operations);
    count = ap length rows_are ∙ length-map (entries P.operations) made;
    rows = λ i o op at. row_of i o op (slice_get (entries P.operations) i) refl (sym (slice_get-map made (entries P.operations) i) ∙ ap (λ (xs : List (OpKey × Operation)). slice_get xs i) (sym rows_are) ∙ at);
    found = λ o op is. value_of o op (get P.operations o) refl (sym (get-revise operation_cmp-IsAntisymmetric f P.operations o) ∙ is);
  }

marks_alone : (b : Bool) (M : Mark) (op : Operation) → (cond b (with_mark M op) op).not_before ≡ op.not_before
marks_alone true M op = refl
marks_alone false M op = refl

named_like : (P : Contents) (os : List OpKey) → IsLike P (named os P)
named_like P os = revised_like P _ (λ o op. marks_alone _ _ op)

marked_like : (P : Contents) (o : OpKey) (M : Mark) → IsLike P (marked o M P)
marked_like P o M = revised_like P _ (λ q op. marks_alone _ M op)

-- what a forecast asks for
abbrev pub IsAsked : What → Type 0
IsAsked (what.Ended o) = Unit {0}
IsAsked (what.Started o) = Unit {0}
IsAsked what.Tick = Unit {0}
IsAsked w = ⊥

pub work_asked : (s : Ahead) (x : ℕ) (w : What) → IsWork s x w → IsAsked w
work_asked s x (what.Ended o) h = tt
work_asked s x (what.Started o) h = tt
work_asked s x what.Tick h = tt
work_asked s x w h = absurd h

change_like : (P Q : Contents) (w : What) → IsAsked w → Changes P w Q → IsLike P Q
change_like P Q (what.Ended o) h e = subst (IsLike P) (sym e) (marked_like P o _)
change_like P Q (what.Started o) h e = subst (IsLike P) (sym e) (marked_like P o _)
change_like P Q what.Tick h e = subst (IsLike P) (sym e) (like_itself P)
change_like P Q w h e = absurd h

pub step_like : (P after : Plan) (q : Request) (chosen : List OpKey) → IsAsked q.what → Step P q (accepted chosen) after → IsLike P.contents after.contents
step_like P after q chosen asked step =
    subst (λ (X : Plan). IsLike P.contents X.contents) (sym step.is_after)
    (like_both P.contents step.changed (named chosen step.changed) (change_like P.contents step.changed q.what asked step.changes) (named_like step.changed chosen))

module _ (P Q : Contents) (like : IsLike P Q) where
  pub times_still : (since : OpKey → Option ℕ) (times : List (Option ℕ)) → AreTimesOf since (entries P.operations) times → AreTimesOf since (entries Q.operations) times
  times_still since times so i o op at = let r = like.rows i o op at in so i o r.0 r.1

  pub lasting_still : (from later until : ℕ) (turns : List ℕ) → from ≤ later → AreLasting P from until turns → AreLasting Q later until turns
  lasting_still from later until turns onward lasts c low high (inl (w, ws, x, found, opens)) = lasts c (omega (arith, onward, low)) high (inl (w, ws, x, ap (λ m. get m w) (sym like.workstations) ∙ found, opens))
  lasting_still from later until turns onward lasts c low high (inr (o, (op, found, is))) = let r = like.found o op found in lasts c (omega (arith, onward, low)) high (inr (o, (r.0, r.1, sym r.2 ∙ is)))

pub horizon_still : (P Q : Plan) → IsLike P.contents Q.contents → P.clock ≤ Q.clock → (h : Horizon) → IsHorizon P h → IsHorizon Q h
horizon_still P Q like onward h is = record { ascending = is.ascending; lasting = lasting_still P.contents Q.contents like P.clock Q.clock h.until h.lasting.items onward is.lasting }

-- how much is still to come of all operations falls
abbrev pub left : Contents → ℕ
left P = to_come (keys P.operations) P

pub left_falls : (s mid : Ahead) (x : ℕ) (q : Request) → IsSoundPlan s.plan → IsNext s x q → LeadsTo s q mid → left mid.plan.contents < left s.plan.contents
left_falls s mid x q sound next leads =
    let P = s.plan.contents in
    let Q = mid.plan.contents in
    let drop = step_drops s mid x q sound next leads in
    let less = sum_less (weight_at Q) (weight_at P) (keys P.operations) drop.1.0 drop.0 (by_keys P drop.1.0 (let l = drop.1.1 in omega (arith, l))) drop.1.1 in
    let like = step_like s.plan mid.plan q leads.chosen (work_asked s x q.what next.work) leads.step in
    subst (λ ks. to_come ks Q < to_come (keys P.operations) P) (sym like.keys) less
