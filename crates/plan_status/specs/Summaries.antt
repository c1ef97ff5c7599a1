-- Summaries: what the figures of a whole plan go by of its operations, each read off its record once.
use Rattle.std.specs.Prelude.{◌≡◌, List, Some, slice_get}
use Rattle.std.specs.FinMap.{entries, keys}
use Rattle.plan_laws.specs.operation_graph.specs.Graphs.{Digraph}
use Rattle.plan_basics.specs.declared.keys.OpKey.{OpKey}
use Rattle.plan_model.specs.Contents.{Contents, Operation, Has, HasAttribute}
use Rattle.plan_model.specs.Valid.{IsValid}
use Rattle.plan_laws.specs.plan_drafts.specs.Places.{AreByPlace}
use Rattle.plan_laws.specs.plan_drafts.specs.PlanGraphs.{IsGraphFor}
use Rattle.plan_status.specs.declared.summaries.OperationSummary.{OperationSummary}

-- what the operation's record says, how its workstation reports, and the index of that
pub record IsSummaryOf (P : Contents) (op : Operation) (b : OperationSummary) : Type 0 where
  pub mark : b.mark ≡ op.mark
  pub held : b.held ≡ op.held
  pub nop : b.nop ≡ op.nop
  pub attribute : HasAttribute P op.workstation b.attribute
  pub station : slice_get (keys P.workstations) b.station ≡ Some op.workstation
  pub duration : b.duration ≡ op.duration
  pub deadline : b.deadline ≡ op.deadline
  pub r1 : b.r1 ≡ op.r1
  pub r2 : b.r2 ≡ op.r2

-- o is an operation of the plan, and this is its summary
abbrev pub HasSummary : Contents → OpKey → OperationSummary → Type 0
HasSummary P o b = Has P o (λ op. IsSummaryOf P op b)

-- the summary of each operation, in key order
abbrev pub AreSummaries : Contents → List OperationSummary → Type 0
AreSummaries P summaries = AreByPlace (entries P.operations) summaries (HasSummary P)

-- the plan is valid, this is its graph, and these are the summaries of its operations
pub record IsSummarizedBy (P : Contents) (g : Digraph) (told : List OperationSummary) : Type 0 where
  pub valid : IsValid P
  pub graph : IsGraphFor P g
  pub summaries : AreSummaries P told
