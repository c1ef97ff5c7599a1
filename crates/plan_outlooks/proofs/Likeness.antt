-- What stays alike from the beginning of a forecast to its end, and that what is complete then is known to be since when.
use Rattle.std.proofs.Common.{◌≡◌, inl, inr, sym, subst, ◌∙◌, ap, arith, ℕ, List, [], ◌∷◌, Option, Some, None, slice_get}
use Rattle.std.specs.FinMap.{entries}
use Rattle.std.proofs.lemmas.Option.{same_Some, slice_get_within}
use Rattle.plan_basics.specs.declared.keys.OpKey.{OpKey}
use Rattle.plan_forecast.specs.Ahead.{Ahead, IsForecast, IsTimeAfter, LeadsOn, LeadsTo, tick}
use Rattle.plan_model.specs.Contents.{Contents, Operation}
use Rattle.plan_model.specs.Plan.{Plan}
use Rattle.plan_model.specs.Status.{HasStatus}
use Rattle.plan_records.specs.declared.Request.{Request}
use Rattle.status_rules.specs.declared.Status.TheVariants.{Complete}
use Rattle.plan_reasons.specs.plan_drafts.proofs.RowPlaces.{row_at}
use Rattle.forecasting.proofs.Keeping.{like_both, like_itself, step_like, work_asked}
use Rattle.forecasting.specs.InMemory.{IsLike}
use Rattle.forecasting.specs.Times.{AreTimesOf}

like_on : (until : ℕ) (s : Ahead) (qs : List Request) (t : Ahead) → LeadsOn until s qs t → IsLike s.plan.contents t.plan.contents
like_on until s [] t h = subst (λ (x : Ahead). IsLike s.plan.contents x.plan.contents) (sym h.0) (like_itself s.plan.contents)
like_on until s (q ∷ qs) t (x, mid, within, next, leads, rest) =
    like_both s.plan.contents mid.plan.contents t.plan.contents (step_like s.plan mid.plan q leads.chosen (work_asked s x q.what next.work) leads.step) (like_on until mid qs t rest)

-- the plan of a forecast and its last one have the same operations at the same indices
pub forecast_like : (P : Plan) (known : OpKey → Option ℕ) (m until : ℕ) (requests : List Request) (last : Ahead) → IsForecast P known m until requests last → IsLike P.contents last.plan.contents
forecast_like P known m until requests last (mid, rest, first, leads, on) =
    like_both P.contents mid.plan.contents last.plan.contents (step_like P mid.plan (tick m) leads.chosen tt leads.step) (like_on until mid rest last on)

-- it is known since when what is complete is
abbrev CompleteIsTimed : Ahead → Type 0
CompleteIsTimed s = (o : OpKey) → HasStatus s.plan.contents o Complete → (m : ℕ) × (s.done o ≡ Some m)

timed : (is_so : Type 0) (m : ℕ) (old new : Option ℕ) → IsTimeAfter is_so m old new → is_so → (n : ℕ) × (new ≡ Some n)
timed is_so m None new (inl h) so = (m, h.1)
timed is_so m None new (inr h) so = absurd (h.0 so)
timed is_so m (Some x) new h so = (x, h)

led : (s : Ahead) (q : Request) (t : Ahead) → LeadsTo s q t → CompleteIsTimed t
led s q t leads o is = timed (HasStatus t.plan.contents o Complete) t.plan.clock (s.done o) (t.done o) (leads.done o) is

timed_on : (until : ℕ) (s : Ahead) (qs : List Request) (t : Ahead) → LeadsOn until s qs t → CompleteIsTimed s → CompleteIsTimed t
timed_on until s [] t h is = subst CompleteIsTimed (sym h.0) is
timed_on until s (q ∷ qs) t (x, mid, within, next, leads, rest) is = timed_on until mid qs t rest (led s q mid leads)

pub forecast_timed : (P : Plan) (known : OpKey → Option ℕ) (m until : ℕ) (requests : List Request) (last : Ahead) → IsForecast P known m until requests last → CompleteIsTimed last
forecast_timed P known m until requests last (mid, rest, first, leads, on) = timed_on until mid rest last on (led _ _ mid leads)

-- the same operation is at an index in both
pub like_row : (P Q : Contents) → IsLike P Q → (i : ℕ) (o : OpKey) (old : Operation) → slice_get (entries P.operations) i ≡ Some (o, old) → (op : Operation) × (slice_get (entries Q.operations) i ≡ Some (o, op))
like_row P Q like i o old at = there (row_at (entries Q.operations) i (let within = slice_get_within (entries P.operations) i (o, old) at in let same = like.count in omega (arith, within, same)))
  where
    there : (row : OpKey × Operation) × (slice_get (entries Q.operations) i ≡ Some row) → (op : Operation) × (slice_get (entries Q.operations) i ≡ Some (o, op))
    there (row, found) =
        let first = like.rows i row.0 row.1 found in
        let same : (row.0, first.0) ≡ (o, old) = same_Some (row.0, first.0) (o, old) (sym first.1 ∙ at) in
        (row.1, found ∙ ap (λ k. Some (k, row.1)) (ap (λ (z : OpKey × Operation). z.0) same))

-- the times of the last plan's rows are those of the first one's
pub times_before : (P Q : Contents) → IsLike P Q → (since : OpKey → Option ℕ) (times : List (Option ℕ)) → AreTimesOf since (entries Q.operations) times → AreTimesOf since (entries P.operations) times
times_before P Q like since times so i o old at = let r = like_row P Q like i o old at in so i o r.0 r.1
