use Rattle.std.proofs.Common.{rules, arith, w64, FitsSigned, to_z, of_z, ◌≡◌, refl, sym, ◌∙◌, ap, subst, true, true≢false, ℤ, pos, is_some, Some}
use Rattle.std.proofs.lemmas.Int.{ints}
use Rattle.std.specs.FinMap.{contains_key, entries, get}
use Rattle.plan_model.specs.Contents.{Contents}
use Rattle.plan_model.specs.Status.{HasOccurrenceStatus}
use Rattle.plan_outlooks.specs.Forecasts.{IsLateBy, minute_or}
use Rattle.plan_outlooks.proofs.OccurrenceMade.{found_among, occurrence_by}
use Rattle.plan_outlooks.proofs.occurrences.occurrence_outlook.Goals as goal

pub returns-then-not-is_outstanding : goal.returns-then-not-is_outstanding
returns-then-not-is_outstanding c = λ F lent is.
    let k = c.args.key.now in
    let has = subst (λ (P : Contents). HasOccurrenceStatus P k c.unwrap-status.result) (c.outline.ensures ∙ lent.plan) (rw c.unwrap-status.ensures at c.occurrence_status.ensures.found) in
    true≢false (sym ((occurrence_by F.plan.contents k c.unwrap-status.result has c.is_outstanding.result c.is_outstanding.ensures is.0).1 is) ∙ c.if-not-is_outstanding.true)

pub ending_of-ending-requires : goal.ending_of-ending-requires
ending_of-ending-requires c =
    let (F, lent, is) = c.requires in
    let same = c.operations-rows.ensures.rows ∙ ap (λ (P : Contents). entries P.operations) (c.contents.ensures.contents ∙ lent.plan) in (
      F,
      c.args.key.now,
      lent,
      found_among F.plan.contents c.args.key.now c.count_before-first.result c.count_through-end.result c.operations-rows.result.now same c.count_before-first.ensures c.count_through-end.ensures.through c.count_through-end.ensures.within,
    )

pub never_of-requires : goal.never_of-requires
never_of-requires c =
    let (F, lent, is) = c.requires in
    let same = c.operations-rows.ensures.rows ∙ ap (λ (P : Contents). entries P.operations) (c.contents.ensures.contents ∙ lent.plan) in (
      F,
      c.args.key.now,
      lent,
      found_among F.plan.contents c.args.key.now c.count_before-first.result c.count_through-end.result c.operations-rows.result.now same c.count_before-first.ensures c.count_through-end.ensures.through c.count_through-end.ensures.within,
    )

pub returns : goal.returns
returns c = λ F lent.
    let k = c.args.key.now in
    let (G, held, is) = c.requires in
    let there = ap (λ (P : Contents). get P.occurrences k) (sym lent.plan ∙ held.plan) ∙ is in
    let known : contains_key F.plan.contents.occurrences k ≡ true = ap is_some there in
    let has = subst (λ (P : Contents). HasOccurrenceStatus P k c.unwrap-status.result) (c.outline.ensures ∙ lent.plan) (rw c.unwrap-status.ensures at c.occurrence_status.ensures.found) in
    let same = c.operations-rows.ensures.rows ∙ ap (λ (P : Contents). entries P.operations) (c.contents.ensures.contents ∙ lent.plan) in
    let fits : FitsSigned w64 c.minute.result = search rules in
    let back : to_z w64 (of_z w64 c.minute.result) ≡ c.minute.result = omega (arith, ints, fits) in
    let are = found_among F.plan.contents k c.count_before-first.result c.count_through-end.result c.operations-rows.result.now same c.count_before-first.ensures c.count_through-end.ensures.through c.count_through-end.ensures.within in (
      refl,
      (occurrence_by F.plan.contents k c.unwrap-status.result has c.is_outstanding.result c.is_outstanding.ensures known).0 c.if-not-is_outstanding.false,
      record {
        is_in_plan = there;
        status = has;
        ending = c.ending_of-ending.ensures F k lent are known;
        late = subst (λ m. IsLateBy (Some m) (pos c.args.occurrence.now.deadline) c.late_by-late.result) (c.moment_or-told.ensures ∙ ap (λ m. minute_or m c.ending_of-ending.result) lent.to)
            (subst (λ (z : ℤ). IsLateBy (Some c.moment_or-told.result) z c.late_by-late.result) (back ∙ c.minute.ensures.value) c.late_by-late.ensures);
        never = c.never_of.ensures F k lent are;
      },
    )
