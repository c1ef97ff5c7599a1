-- What tables are told by, if a plan is loaded.
use Rattle.std.proofs.Common.{◌≡◌, ◌∙◌, arith, refl, sym, subst, ℕ, ◌<◌, true, is_some, length, List, Option, Some, None}
use Rattle.std.specs.FinMap.{get-empty}
use Rattle.std.specs.Map.{keys_of}
use Rattle.std.proofs.lemmas.Option.{none-some}
use Rattle.plan_basics.specs.Keys.{operation_cmp}
use Rattle.plan_records.specs.declared.PlanRow.{PlanRow}
use Rattle.plan_model.specs.Contents.{Contents, nothing}
use Rattle.plan_rows.specs.Kept.{KeepsRecords}
use Rattle.plan_rows.specs.Rows.{if_any}
use Rattle.plan_rows.specs.Sources.{IsSource, IsSourceIfAny, contents_if_any, source_if_any, source_of}
use Rattle.plan_rows.specs.declared.row_sources.RowSource.{RowSource}
use Rattle.plan_rows.specs.declared.row_sources.TableSource.{TableSource}

-- where there is a row, a plan is loaded
pub some_source : {K : Type 0} (keyed : RowSource → List (K × PlanRow)) (s : Option TableSource) (i : ℕ) → i < length (keys_of (if_any keyed (source_if_any s))) → is_some s ≡ true
some_source keyed None i lt = absurd (omega (arith, lt))
some_source keyed (Some t) i lt = refl

-- of a source that is the one there is
pub is_source : (s : Option TableSource) (t : TableSource) → s ≡ Some t → IsSourceIfAny (source_if_any s) → IsSource (source_of t)
is_source s t is source = subst (λ (s : Option TableSource). IsSourceIfAny (source_if_any s)) is source

pub source_keeps : (s : Option TableSource) (t : TableSource) (Q : Contents) → s ≡ Some t → KeepsRecords (contents_if_any (source_if_any s)) Q → KeepsRecords t.uncounted.contents.now Q
source_keeps s t Q is keeps = subst (λ (s : Option TableSource). KeepsRecords (contents_if_any (source_if_any s)) Q) is keeps

-- nothing is kept by any plan
pub nothing_kept : (Q : Contents) → KeepsRecords nothing Q
nothing_kept Q o op is = absurd (none-some op (sym (get-empty operation_cmp o) ∙ is))
