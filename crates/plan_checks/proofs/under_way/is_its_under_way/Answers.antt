use Rattle.std.proofs.Common.{◌≡◌, ◌<◌, sym, ap, subst, ◌∙◌, false, true≢false, length, slice_get, Some, rules}
use Rattle.std.specs.FinMap.{entries}
use Rattle.plan_basics.specs.declared.keys.OpKey.{OpKey}
use Rattle.derived_figures.specs.plan_laws.proofs.Classes.{under_way_by, under_way_told}
use Rattle.std.proofs.lemmas.Option.{same_Some}
use Rattle.plan_model.specs.Contents.{Contents, Operation}
use Rattle.plan_checks.proofs.under_way.is_its_under_way.Goals as goal
use Rattle.plan_checks.proofs.under_way.is_its_under_way.Goals.{After-operation_key}

pub operation_key-requires : goal.operation_key-requires
operation_key-requires c = subst (λ (Q : Contents). c.args.place < length (entries Q.operations)) (sym c.uncounted.ensures.contents) c.requires

-- the key at the index is that of the row
same_key : (c : After-operation_key) (o : OpKey) (op : Operation) → slice_get (entries c.args.outline.now.operations) c.args.place ≡ Some (o, op) → c.operation_key.result.now ≡ o
same_key c o op at =
    let key = c.operation_key.result.now in
    let there = subst (λ (Q : Contents). (x : Operation) × (slice_get (entries Q.operations) c.args.place ≡ Some (key, x))) c.uncounted.ensures.contents c.operation_key.ensures.key in
    ap (λ (row : OpKey × Operation). row.0) (same_Some (key, there.0) (o, op) (sym there.1 ∙ at))

pub returns-then-eq : goal.returns-then-eq
returns-then-eq c o op at =
    let P = c.args.outline.now in
    let same = same_key (goal.at.returns-then-eq c).After-operation_key o op at in
    let its : c.operation_key.result.now.occurrence ≡ c.args.occurrence.now = search rules in
    let told = c.status_at.ensures o op at in (
      λ yes. (ap (λ (k : OpKey). k.occurrence) (sym same) ∙ its, under_way_by P o c.status_at.result told.status (sym c.is_under_way.ensures ∙ yes)),
      λ h. c.is_under_way.ensures ∙ under_way_told P o c.status_at.result told.alone h.1,
    )

pub returns-else-eq : goal.returns-else-eq
returns-else-eq c o op at =
    let same = same_key (goal.at.returns-else-eq c).After-operation_key o op at in
    let no : c.eq.result ≡ false = search rules in
    let apart : c.operation_key.result.now.occurrence ≡ c.args.occurrence.now → ⊥ = search rules in (
      λ yes. absurd (true≢false (sym yes ∙ no)),
      λ h. absurd (apart (ap (λ (k : OpKey). k.occurrence) same ∙ h.0)),
    )
