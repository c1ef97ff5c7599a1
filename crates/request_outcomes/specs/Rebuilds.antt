-- A plan that was made anew, and what is kept of it.
use Rattle.std.specs.Prelude.{◌≡◌, ◌⊎◌, ◌+◌, ℕ, List, length, map, Some, IfErr, IfOk}
use Rattle.std.specs.FinMap.{entries}
use Rattle.std.specs.List.Sorted.{IsStrictlySortedBy}
use Rattle.plan_basics.specs.declared.keys.OpKey.{OpKey}
use Rattle.plan_basics.specs.declared.Refusal.TheVariants.{Memory}
use Rattle.request_outcomes.specs.Looked.{AreAllowed, CoverRows}
use Rattle.request_outcomes.specs.declared.rebuilds.Rebuild.{Rebuild}
use Rattle.request_outcomes.specs.declared.rebuilds.ChangeBase.{ChangeBase}
use Rattle.request_outcomes.specs.declared.rebuilds.ChangeBase.TheVariants.{Kept, Listed}
use Rattle.request_outcomes.specs.declared.rebuilds.Rebuilt.{Rebuilt}
use Rattle.request_outcomes.specs.declared.rebuilt_parts.RebuiltParts.{RebuiltParts}
use Rattle.plan_records.specs.Answer.{accepted, refused}
use Rattle.plan_records.specs.Rows.{AreChanges, AreRows, key_of, row_cmp}
use Rattle.plan_records.specs.Step.{Step}
use Rattle.plan_records.specs.declared.Request.{Request}
use Rattle.plan_records.specs.declared.What.{What}
use Rattle.plan_drafts.specs.PlanGraphs.{IsGraphFor}
use Rattle.plan_model.specs.Contents.{Contents}
use Rattle.plan_model.specs.Plan.{Plan, plan_held}
use Rattle.plan_model.specs.Ready.{IsChosen, named}
use Rattle.small_requests.specs.start_choice.specs.Choices.{AreLatestStarts}
use Rattle.small_requests.specs.derived_figures.specs.Figures.{AreFigures}
use Rattle.small_requests.specs.plan_rows.specs.Kept.{KeepsRecords}
use Rattle.small_requests.specs.plan_rows.specs.Sources.{IsSourceIfAny, contents_if_any, plan_if_any, source_if_any}
use Rattle.small_requests.specs.plan_rows.specs.declared.row_sources.PlanBefore.{PlanBefore}

-- what is kept is of a plan that holds R
pub record ArePartsOf (R : Contents) (s : RebuiltParts) : Type 0 where
  pub graph : IsGraphFor R s.graph
  pub latest : AreLatestStarts R s.latest.starts
  pub figures : AreFigures R s.figures

-- what is named at minute m of Q; R is Q with that marked so, and what is kept is of R
pub record AreRebuiltPartsOf (Q : Contents) (m : ℕ) (R : Contents) (s : RebuiltParts) : Type 0 where
  pub chosen : IsChosen Q m s.named.items
  pub after : R ≡ named s.named.items Q
  pub kept : ArePartsOf R s

-- what the plan before held, of which this is kept; nothing where none was loaded
abbrev pub contents_before : PlanBefore → Contents
contents_before b = contents_if_any (source_if_any b.loaded)

-- P is the plan before
abbrev pub IsPlanBefore : ChangeBase → Plan → Type 0
IsPlanBefore (Kept b) P = P ≡ plan_if_any b.now.clock (source_if_any b.now.loaded)
IsPlanBefore (Listed rows) P = AreRows P rows.now

-- it may be told what changes from the plan before to one that holds R: what is kept is the plan's and R keeps its operations, or its rows are in key order
abbrev pub IsChangeBase : ChangeBase → Contents → Type 0
IsChangeBase (Kept b) R = IsSourceIfAny (source_if_any b.now.loaded) × KeepsRecords (contents_before b.now) R
IsChangeBase (Listed rows) R = IsStrictlySortedBy row_cmp (map key_of rows.now)

-- so once what is chosen at minute m of Q is named
abbrev pub IsChangeBaseOnceNamed : ChangeBase → Contents → ℕ → Type 0
IsChangeBaseOnceNamed b Q m = (os : List OpKey) → IsChosen Q m os → IsChangeBase b (named os Q)

-- as many of its operations aren't looked at again
abbrev pub seen_before : ChangeBase → ℕ
seen_before (Kept b) = length (entries (contents_before b.now).operations)
seen_before (Listed rows) = 0

-- these rows change from P to the plan that holds R at minute m
abbrev pub IsToldOf : Plan → ℕ → Contents → Rebuilt → Type 0
IsToldOf P m R x = AreChanges P (plan_held m (Some R)) x.changes.rows.items x.changes.gone.items

-- this request leads from this plan at minute m to the plan that was made anew, which holds R, and of which this is kept; these rows change
pub record IsRebuiltBy (P : Plan) (request : Request) (m : ℕ) (R : Contents) (x : Rebuilt) : Type 0 where
  pub step : Step P request (accepted x.rebuilt_parts.named.items) (plan_held m (Some R))
  pub changes : IsToldOf P m R x
  pub kept : ArePartsOf R x.rebuilt_parts

-- it does so, or it is refused, or for want of memory it doesn't
pub record IsRebuildOf (P : Plan) (request : Request) (m : ℕ) (a : Rebuild) : Type 0 where
  pub rebuilt : IfOk a.rebuilt (IsRebuiltBy P request m a.records.contents)
  pub refused : IfErr a.rebuilt (λ r. (r ≡ Memory) ⊎ Step P request (refused r) P)

-- so many looks at the plan that holds P may be taken for it, beside those at the plan that was made anew
abbrev pub AreRebuildLooks : Contents → What → Rebuild → ℕ → Type 0
AreRebuildLooks P w a looks = IfOk a.rebuilt (λ x. AreAllowed P w a.records.contents (looks + a.records.looks) × CoverRows P x.changes.rows.items looks)
