-- What requests lead to, as it is told of them.
use Rattle.std.proofs.Common.{◌≡◌, ◌⊎◌, inl, ◌∙◌, ap, pos, IfErr, subst, ℕ, arith, refl, sym, ◌+◌, ◌*◌, ◌≤◌, true, false, true≢false, length, Some, None, Result, Ok, Err, IfOk}
use Rattle.std.specs.FinMap.{entries}
use Rattle.plan_basics.specs.Refusals.{NoneRefuses}
use Rattle.plan_basics.specs.declared.Refusal.{Refusal}
use Rattle.plan_basics.specs.declared.Refusal.TheVariants as refusal
use Rattle.request_outcomes.proofs.Preparing.{accepted_step, small_needs_plan}
use Rattle.request_outcomes.proofs.WholeLooks.{named_count, none_covers, whole_allowed, whole_covers}
use Rattle.request_outcomes.specs.Rebuilds.{AreRebuildLooks, IsRebuildOf, IsRebuiltBy, AreRebuiltPartsOf, IsToldOf}
use Rattle.request_outcomes.specs.Looked.{AreAllowed, CoverRows}
use Rattle.request_outcomes.specs.Requested.{AreMadeBy}
use Rattle.request_outcomes.specs.declared.rebuilds.Rebuild.{Rebuild}
use Rattle.request_outcomes.specs.declared.rebuilds.Rebuilt.{Rebuilt}
use Rattle.small_requests.specs.LooksLaws.{WholePlansLookFew}
use Rattle.plan_records.specs.Acceptance.{IsLoad, MayBeAccepted, NeedsPlan}
use Rattle.plan_records.specs.Answer.{refused}
use Rattle.plan_records.specs.Step.{Step}
use Rattle.plan_records.specs.declared.Request.{Request}
use Rattle.plan_records.specs.declared.What.{What}
use Rattle.plan_records.specs.declared.What.TheVariants as what
use Rattle.small_requests.specs.RequestEdits.{IsSmall}
use Rattle.plan_model.specs.Contents.{Contents, nothing}
use Rattle.plan_model.specs.Plan.{Plan, plan_held}
use Rattle.plan_model.specs.Valid.{IsSound}

-- ---- which requests they are

needs_by : (w : What) → (IsLoad w → true ≡ false) → NeedsPlan w
needs_by (what.Load draft) loaded = absurd (true≢false (loaded tt))
needs_by _ loaded = tt

-- where a plan is loaded, no load is accepted
pub needs_plan : (P : Contents) (clock : ℕ) (q : Request) → NoneRefuses (MayBeAccepted (plan_held clock (Some P)) q) → NeedsPlan q.what
needs_plan P clock q clear = needs_by q.what (clear refusal.Loaded)

-- ---- what they lead to

-- what comes of a plan that this request makes is what the request leads to
module _ (P : Plan) (q : Request) (allows : NoneRefuses (MayBeAccepted P q)) (Q : Contents) (made : AreMadeBy P.contents q.what Q) (m : ℕ) (at : q.at ≡ pos m) (a : Rebuild) where
  pub rebuild_by : IfOk a.rebuilt (λ x. AreRebuiltPartsOf Q m a.records.contents x.rebuilt_parts) → IfOk a.rebuilt (IsToldOf P m a.records.contents) → IfErr a.rebuilt (λ r. r ≡ refusal.Memory) → IsRebuildOf P q m a
  rebuild_by rebuilt_parts told memory = record { rebuilt = both a.rebuilt rebuilt_parts told; refused = unfound a.rebuilt memory }
    where
      unfound : (r : Result Rebuilt Refusal) → IfErr r (λ e. e ≡ refusal.Memory) → IfErr r (λ e. (e ≡ refusal.Memory) ⊎ Step P q (refused e) P)
      unfound (Ok x) memory = tt
      unfound (Err e) memory = inl memory

      both : (r : Result Rebuilt Refusal) → IfOk r (λ x. AreRebuiltPartsOf Q m a.records.contents x.rebuilt_parts) → IfOk r (IsToldOf P m a.records.contents) → IfOk r (IsRebuiltBy P q m a.records.contents)
      both (Ok x) rebuilt_parts told = record {
        step = accepted_step P q allows Q made m at (plan_held m (Some a.records.contents)) x.rebuilt_parts.named.items rebuilt_parts.chosen (ap (λ (R : Contents). plan_held m (Some R)) rebuilt_parts.after);
        changes = told;
        kept = rebuilt_parts.kept;
      }
      both (Err r) rebuilt_parts told = tt

-- as many operations are there as before some were named
pub settled_count : (Q : Contents) (m : ℕ) (a : Rebuild) (r : Result Rebuilt Refusal) → IfOk r (λ x. AreRebuiltPartsOf Q m a.records.contents x.rebuilt_parts) → IfOk r (λ x. length (entries a.records.contents.operations) ≡ length (entries Q.operations))
settled_count Q m a (Ok x) rebuilt_parts = ap (λ (R : Contents). length (entries R.operations)) rebuilt_parts.after ∙ named_count Q x.rebuilt_parts.named.items
settled_count Q m a (Err r) rebuilt_parts = tt

-- no small request is accepted where no plan is loaded
pub first_is_whole : (clock : ℕ) (q : Request) → NoneRefuses (MayBeAccepted (plan_held clock None) q) → ¬ IsSmall q.what
first_is_whole clock q clear small = true≢false (sym (clear refusal.NotLoaded (small_needs_plan q.what small)))

-- ---- looks

-- at a plan before, of which each record was looked at once, and at the one that was made anew of it
module _ (law : WholePlansLookFew) (P : Contents) (clock : ℕ) (q : Request) (m first looks : ℕ) (sound : IsSound P) (whole : ¬ IsSmall q.what) where
  pub whole_looks : (Q : Contents) (a : Rebuild) → IsRebuildOf (plan_held clock (Some P)) q m a → looks ≤ 1 + length (entries P.operations)
      → IfOk a.rebuilt (λ x. a.records.looks + length (entries P.operations) ≤ 4 * length (entries Q.operations)) → IfOk a.rebuilt (λ x. length (entries a.records.contents.operations) ≡ length (entries Q.operations))
      → (18446744073709551615 ≤ looks) ⊎ (first + length (entries P.operations) ≤ looks) → AreRebuildLooks P q.what a looks
  whole_looks Q a of few most count least = each a.rebuilt refl of.rebuilt most count
    where
      each : (r : Result Rebuilt Refusal) → a.rebuilt ≡ r → IfOk r (IsRebuiltBy (plan_held clock (Some P)) q m a.records.contents) → IfOk r (λ x. a.records.looks + length (entries P.operations) ≤ 4 * length (entries Q.operations))
          → IfOk r (λ x. length (entries a.records.contents.operations) ≡ length (entries Q.operations)) → IfOk a.rebuilt (λ x. AreAllowed P q.what a.records.contents (looks + a.records.looks) × CoverRows P x.changes.rows.items looks)
      each (Ok x) is by some same = subst (λ r. IfOk r (λ (x : Rebuilt). AreAllowed P q.what a.records.contents (looks + a.records.looks) × CoverRows P x.changes.rows.items looks)) (sym is) (
        whole_allowed law P a.records.contents q.what (looks + a.records.looks) whole (omega (arith, few, some, same)),
        whole_covers P first looks x.changes.rows.items sound by.changes.rows_ascend least,
      )
      each (Err r) is by some same = subst (λ r. IfOk r (λ (x : Rebuilt). AreAllowed P q.what a.records.contents (looks + a.records.looks) × CoverRows P x.changes.rows.items looks)) (sym is) tt

-- where there was no plan, all looks are at the one that was made anew
module _ (law : WholePlansLookFew) (clock : ℕ) (q : Request) (m : ℕ) (whole : ¬ IsSmall q.what) where
  pub first_looks : (Q : Contents) (a : Rebuild) → IsRebuildOf (plan_held clock None) q m a → IfOk a.rebuilt (λ x. a.records.looks ≤ 4 * length (entries Q.operations))
      → IfOk a.rebuilt (λ x. length (entries a.records.contents.operations) ≡ length (entries Q.operations)) → AreRebuildLooks nothing q.what a 0
  first_looks Q a of most count = each a.rebuilt refl of.rebuilt most count
    where
      each : (r : Result Rebuilt Refusal) → a.rebuilt ≡ r → IfOk r (IsRebuiltBy (plan_held clock None) q m a.records.contents) → IfOk r (λ x. a.records.looks ≤ 4 * length (entries Q.operations))
          → IfOk r (λ x. length (entries a.records.contents.operations) ≡ length (entries Q.operations)) → IfOk a.rebuilt (λ x. AreAllowed nothing q.what a.records.contents (0 + a.records.looks) × CoverRows nothing x.changes.rows.items 0)
      each (Ok x) is by some same = subst (λ r. IfOk r (λ (x : Rebuilt). AreAllowed nothing q.what a.records.contents (0 + a.records.looks) × CoverRows nothing x.changes.rows.items 0)) (sym is) (
        whole_allowed law nothing a.records.contents q.what (0 + a.records.looks) whole (omega (arith, some, same)),
        none_covers x.changes.rows.items by.changes.rows_ascend,
      )
      each (Err r) is by some same = subst (λ r. IfOk r (λ (x : Rebuilt). AreAllowed nothing q.what a.records.contents (0 + a.records.looks) × CoverRows nothing x.changes.rows.items 0)) (sym is) tt
