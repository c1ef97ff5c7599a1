-- What an extension leads to, by what is left of the plan.
use Rattle.std.proofs.Common.{◌≡◌, ◌⊎◌, inl, inr, refl, sym, ap, subst, arith, ℕ, ◌+◌, ◌*◌, ◌<◌, ◌≤◌, pos, ◌≤ℤ◌, length, Option, Some, None, Result, Ok, Err, IfOk, IfErr, OnOk}
use Rattle.std.specs.FinMap.{entries, len, len-entries}
use Rattle.plan_basics.specs.Keys.{operation_cmp-IsAntisymmetric, operation_cmp_total}
use Rattle.plan_basics.specs.Minutes.{IsMoment}
use Rattle.plan_basics.specs.Refusals.{number_of, IsLeastRefusal, NoneRefuses}
use Rattle.plan_basics.specs.declared.Refusal.{Refusal}
use Rattle.plan_basics.specs.declared.Refusal.TheVariants as refusal
use Rattle.request_outcomes.proofs.Preparing.{accepted_step}
use Rattle.request_outcomes.proofs.Refusing.{is_free, is_refused, is_stopped, may_be_accepted}
use Rattle.request_outcomes.proofs.WholeLooks.{whole_covers}
use Rattle.request_outcomes.specs.Rebuilds.{AreRebuildLooks, IsRebuildOf, IsRebuiltBy, AreRebuiltPartsOf, IsToldOf}
use Rattle.request_outcomes.specs.Looked.{AreAllowed, CoverRows}
use Rattle.request_outcomes.specs.Requested.{AreMadeBy}
use Rattle.request_outcomes.specs.declared.rebuilds.Rebuild.{Rebuild}
use Rattle.request_outcomes.specs.declared.rebuilds.Rebuilt.{Rebuilt}
use Rattle.plan_records.specs.Acceptance.{IsBadText, IsLoad, MayBeAccepted, MayBeAdded, MayBeDone}
use Rattle.plan_records.specs.Answer.{refused}
use Rattle.plan_records.specs.Changes.{LeavesOver, with_added}
use Rattle.plan_records.specs.Step.{Step}
use Rattle.plan_records.specs.declared.Request.{Request}
use Rattle.plan_records.specs.declared.What.{What}
use Rattle.plan_records.specs.declared.What.TheVariants as what
use Rattle.plan_drafts.specs.Drafts.{IsExtension}
use Rattle.plan_model.specs.Contents.{AddedParts, Contents}
use Rattle.plan_model.specs.Plan.{Plan, plan_held}
use Rattle.plan_model.specs.Valid.{IsSound}
use Rattle.small_requests.specs.plan_laws.proofs.Leaving.{fewer, one_left}

-- ---- a text that denotes nothing

bad_text : (lower : Refusal) → number_of lower < number_of refusal.BadPlan → IsBadText lower
bad_text refusal.BadPlan less = absurd (omega (arith, less))
bad_text _ less = tt

-- no load
extends_no_load : (w : What) (a : Option AddedParts) → w ≡ what.Extend a → ¬ IsLoad w
extends_no_load w a is load = subst IsLoad is load

module _ (P : Contents) (clock m : ℕ) (q : Request) (at : q.at ≡ pos m) (onward : pos clock ≤ℤ q.at) (in_range : IsMoment m) where
  abbrev plan : Plan
  plan = plan_held clock (Some P)

  -- what stands in the request's way of the plan, stands in its way at its moment
  stops : (a : Option AddedParts) → q.what ≡ what.Extend a → (r : Refusal) → IsLeastRefusal (MayBeDone P m (what.Extend a)) r → Step plan q (refused r) plan
  stops a is r least = is_refused plan q m at onward in_range r
      (is_stopped plan m q.what (λ _. refl) (λ load. absurd (extends_no_load q.what a is load)) r (subst (λ (w : What). IsLeastRefusal (MayBeDone P m w) r) (sym is) least))

  pub bad_text_stops : q.what ≡ what.Extend None → Step plan q (refused refusal.BadPlan) plan
  bad_text_stops is = stops None is refusal.BadPlan (λ never. never, bad_text)

  -- ---- what is left

  module _ (s : AddedParts) (is : q.what ≡ what.Extend (Some s)) (left : Contents) (leaves : LeavesOver P left) where
    -- the lines of what is added are asked of what is left, which is one
    asked_of_left : (r : Refusal) → MayBeAdded left s r → MayBeDone P m (what.Extend (Some s)) r
    asked_of_left r may other leaves_other = subst (λ (L : Contents). MayBeAdded L s r) (one_left P left other leaves leaves_other) may

    pub left_stops : (r : Refusal) → IsLeastRefusal (MayBeAdded left s) r → Step plan q (refused r) plan
    left_stops r least = stops (Some s) is r (λ may. least.0 (may left leaves), λ lower less. asked_of_left lower (least.1 lower less))

    pub left_allows : NoneRefuses (MayBeAdded left s) → NoneRefuses (MayBeAccepted plan q)
    left_allows clear = may_be_accepted plan q m at onward in_range
        (is_free plan m q.what (λ _. refl) (λ load. absurd (extends_no_load q.what (Some s) is load)) (subst (λ (w : What). NoneRefuses (MayBeDone P m w)) (sym is) (λ r. asked_of_left r (clear r))))

    left_made : IsExtension s → AreMadeBy P q.what (with_added left s)
    left_made extension = subst (λ (w : What). AreMadeBy P w (with_added left s)) (sym is) (record { is_request = extension; changes = (s, left, refl, leaves, refl) })

    -- so what comes of it is what the request leads to
    module _ (extension : IsExtension s) (a : Rebuild) where
      pub extension_rebuild : OnOk a.rebuilt (NoneRefuses (MayBeAdded left s)) → IfOk a.rebuilt (λ x. AreRebuiltPartsOf (with_added left s) m a.records.contents x.rebuilt_parts) → IfOk a.rebuilt (IsToldOf plan m a.records.contents)
          → IfErr a.rebuilt (λ r. (r ≡ refusal.Memory) ⊎ IsLeastRefusal (MayBeAdded left s) r) → IsRebuildOf plan q m a
      extension_rebuild clear rebuilt_parts told stopped = record { rebuilt = good a.rebuilt clear rebuilt_parts told; refused = bad a.rebuilt stopped }
        where
          good : (r : Result Rebuilt Refusal) → OnOk r (NoneRefuses (MayBeAdded left s)) → IfOk r (λ x. AreRebuiltPartsOf (with_added left s) m a.records.contents x.rebuilt_parts) → IfOk r (IsToldOf plan m a.records.contents) → IfOk r (IsRebuiltBy plan q m a.records.contents)
          good (Ok x) clear rebuilt_parts told = record {
            step = accepted_step plan q (left_allows clear) (with_added left s) (left_made extension) m at (plan_held m (Some a.records.contents)) x.rebuilt_parts.named.items rebuilt_parts.chosen (ap (λ (R : Contents). plan_held m (Some R)) rebuilt_parts.after);
            changes = told;
            kept = rebuilt_parts.kept;
          }
          good (Err r) clear rebuilt_parts told = tt

          bad : (r : Result Rebuilt Refusal) → IfErr r (λ e. (e ≡ refusal.Memory) ⊎ IsLeastRefusal (MayBeAdded left s) e) → IfErr r (λ e. (e ≡ refusal.Memory) ⊎ Step plan q (refused e) plan)
          bad (Ok x) told = tt
          bad (Err e) (inl memory) = inl memory
          bad (Err e) (inr least) = inr (left_stops e least)

      -- three looks at each record that there was, one at each that is left and four at each that there is then are allowed
      pub extension_looks : IsSound P → (first looks : ℕ) → IsRebuildOf plan q m a → looks ≤ 3 * length (entries P.operations) → (18446744073709551615 ≤ looks) ⊎ (first + length (entries P.operations) ≤ looks)
          → IfOk a.rebuilt (λ x. a.records.looks ≤ length (entries left.operations) + 4 * length (entries (with_added left s).operations)) → IfOk a.rebuilt (λ x. length (entries a.records.contents.operations) ≡ length (entries (with_added left s).operations))
          → AreRebuildLooks P q.what a looks
      extension_looks sound first looks of few least most count = each a.rebuilt refl of.rebuilt most count
        where
          fewer_left : length (entries left.operations) ≤ length (entries P.operations)
          fewer_left =
              let less : len left.operations ≤ len P.operations = subst (λ (L : Contents). len L.operations ≤ len P.operations) (sym leaves.2) (fewer operation_cmp_total operation_cmp-IsAntisymmetric P.operations (λ o. leaves.0 o.occurrence)) in
              omega (arith, less, len-entries left.operations, len-entries P.operations)

          allowed : a.records.looks ≤ length (entries left.operations) + 4 * length (entries (with_added left s).operations) → length (entries a.records.contents.operations) ≡ length (entries (with_added left s).operations) → AreAllowed P q.what a.records.contents (looks + a.records.looks)
          allowed some same = subst (λ (w : What). AreAllowed P w a.records.contents (looks + a.records.looks)) (sym is) (λ n allowance.
              subst (λ z. looks + a.records.looks ≤ z) (sym allowance) (omega (arith, few, some, same, fewer_left, len-entries P.operations, len-entries a.records.contents.operations)))

          each : (r : Result Rebuilt Refusal) → a.rebuilt ≡ r → IfOk r (IsRebuiltBy plan q m a.records.contents) → IfOk r (λ x. a.records.looks ≤ length (entries left.operations) + 4 * length (entries (with_added left s).operations))
              → IfOk r (λ x. length (entries a.records.contents.operations) ≡ length (entries (with_added left s).operations)) → IfOk a.rebuilt (λ x. AreAllowed P q.what a.records.contents (looks + a.records.looks) × CoverRows P x.changes.rows.items looks)
          each (Ok x) same by some count = subst (λ r. IfOk r (λ (x : Rebuilt). AreAllowed P q.what a.records.contents (looks + a.records.looks) × CoverRows P x.changes.rows.items looks)) (sym same)
              (allowed some count, whole_covers P first looks x.changes.rows.items sound by.changes.rows_ascend least)
          each (Err r) same by some count = subst (λ r. IfOk r (λ (x : Rebuilt). AreAllowed P q.what a.records.contents (looks + a.records.looks) × CoverRows P x.changes.rows.items looks)) (sym same) tt
