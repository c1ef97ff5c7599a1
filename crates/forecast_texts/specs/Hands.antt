-- What people have to do of operations, by what a forecast tells.
use Rattle.std.specs.Prelude.{ℕ, cond, List, ◌++◌, Option, Some, None, filter_map}
use Rattle.plan_basics.specs.declared.Attr.{Attr}
use Rattle.plan_basics.specs.declared.Attr.TheVariants as attribute
use Rattle.plan_outlooks.specs.declared.rows.OperationOutlook.{OperationOutlook}
use Rattle.plan_outlooks.specs.declared.rows.Outlooks.{Outlooks}
use Rattle.plan_outlooks.specs.declared.rows.Standing.{Standing}
use Rattle.plan_outlooks.specs.declared.rows.Standing.TheVariants as standing
use Rattle.plan_outlooks.specs.declared.rows.Standstill.{Standstill}
use Rattle.forecast_texts.specs.declared.hands.ByHand.{ByHand}
use Rattle.forecast_texts.specs.declared.hands.Deed.{Deed}
use Rattle.forecast_texts.specs.declared.hands.Deed.TheVariants as deed

-- this is to be done of an operation that begins or is going, then
abbrev pub work : OperationOutlook → Deed → Option ℕ → ByHand
work r what at = record { key = r.key; workstation = r.workstation; deed = what; at = at; latest = r.latest; late = r.late }

-- to start it, unless it is going, when it begins
abbrev pub to_start : OperationOutlook → Option ByHand
to_start r = cond r.is_going None (Some (work r deed.Start (Some r.begin)))

-- where starts are reported, to start it; where completion alone is reported, to report that, when it ends; else nothing
abbrev pub by_attribute : Attr → OperationOutlook → Option ByHand
by_attribute attribute.StartAndCompletion r = to_start r
by_attribute attribute.CompletionOnly r = Some (work r deed.Report r.end)
by_attribute a r = None

abbrev pub by_hand : OperationOutlook → Option ByHand
by_hand r = by_attribute r.attribute r

-- of one that doesn't begin: what is interrupted is to be started again
abbrev pub again_by : Standing → Standstill → Option ByHand
again_by standing.Interrupted r = Some (record { key = r.key; workstation = r.workstation; deed = deed.StartAgain; at = None; latest = r.latest; late = None })
again_by s r = None

abbrev pub again : Standstill → Option ByHand
again r = again_by r.standing r

-- all that people have to do: what is to be started again first
abbrev pub hands : Outlooks → List ByHand
hands x = filter_map again x.standstills.items ++ filter_map by_hand x.operations.items
