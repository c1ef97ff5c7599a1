use Rattle.std.proofs.Common.{◌≡◌, inr, refl, sym, ◌∙◌, ap, ap₂, subst, arith, true≢false, Some, length, slice_get}
use Rattle.std.proofs.lemmas.Option.{slice_get-get_or}
use Rattle.std.specs.FinMap.{entries}
use Rattle.plan_model.specs.Contents.{Contents, Operation}
use Rattle.forecasting.specs.Known.{noted_by}
use Rattle.forecasting.proofs.Kept.{kept_here}
use Rattle.forecasting.proofs.known.KnownStarts.keep_at.Goals as goal

pub returns-then-not-is_going_at : goal.returns-then-not-is_going_at
returns-then-not-is_going_at c = λ o op at.
    let P = c.args.loaded.now in
    inr (λ going. true≢false (sym ((c.is_going_at.ensures o op at).1 going) ∙ c.if-not-is_going_at.true), refl)

pub returns : goal.returns
returns c =
    let P = c.args.loaded.now in
    let i = c.args.place in
    let found = c.operations.result.now in
    let rows_are : found ≡ entries P.operations = c.operations.ensures.rows ∙ ap (λ (Q : Contents). entries Q.operations) c.contents.ensures.contents in
    let row = c.index-operations-place.result in
    let less = c.requires in
    let many = ap length rows_are in
    let here : slice_get (entries P.operations) i ≡ Some row = subst (λ xs. slice_get xs i ≡ Some row) rows_are (slice_get-get_or found i row (omega (arith, less, many)) ∙ ap Some (sym c.index-operations-place.is)) in
    let noted = c.noted_by-noted.ensures ∙ ap₂ (λ z m. noted_by z m c.args.fresh.now) c.entry.ensures (ap (λ (z : Operation). z.mark) c.operation.view_is) in
    kept_here P c.args.self.now c.args.fresh.now i row.0 row.1 c.args.next.now c.keep.new.self here (record { is_running = c.noted_by-noted.result.is_running; since = c.noted_by-noted.result.since }) noted
    ((c.is_going_at.ensures row.0 row.1 here).0 c.if-not-is_going_at.false) c.keep.result c.keep.ensures
