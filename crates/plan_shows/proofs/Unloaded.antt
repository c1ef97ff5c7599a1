-- Before a plan is loaded there is nothing to show.
use Rattle.std.proofs.Common.{◌≡◌, sym, ap, ◌∙◌, subst, [], None}
use Rattle.std.proofs.lemmas.Option.{none-some}
use Rattle.std.specs.FinMap.{entries, get, get-empty}
use Rattle.std.specs.FinMap as map
use Rattle.std.specs.List.{AllZip}
use Rattle.std.specs.List.Sorted.{IsStrictlySortedBy}
use Rattle.plan_basics.specs.Keys.{Name, name_cmp, name_cmp_total, operation_cmp}
use Rattle.plan_basics.specs.declared.keys.OpKey.{OpKey}
use Rattle.plan_model.proofs.Entries.{rows_in_order}
use Rattle.plan_model.specs.Contents.{Contents, IsInPlan, nothing}
use Rattle.plan_model.specs.Plan.{Plan}
use Rattle.plan_shows.specs.Resources.{AreResourceViews, IsResourceView}
use Rattle.plan_shows.specs.Stations.{AreWorkstationViews, IsWorkstationView}

no_entries : {X : Type 0} → entries {R = name_cmp} (map.empty {X = X}) ≡ []
unfolding IsStrictlySortedBy
no_entries = rows_in_order name_cmp_total [] tt

pub no_resources : (P : Contents) → P ≡ nothing → AreResourceViews P []
no_resources P none =
    let rows = ap (λ (Q : Contents). entries Q.resources) none ∙ no_entries in
    subst (λ xs. AllZip (IsResourceView P) xs []) (sym rows) tt

pub no_workstations : (P : Plan) → P.contents ≡ nothing → AreWorkstationViews P []
no_workstations P none =
    let rows = ap (λ (Q : Contents). entries Q.workstations) none ∙ no_entries in
    subst (λ xs. AllZip (IsWorkstationView P) xs []) (sym rows) tt

pub no_operation : (P : Contents) (o : OpKey) → P ≡ nothing → ¬ IsInPlan P o
no_operation P o none is = none-some is.0 (sym (ap (λ (Q : Contents). get Q.operations o) none ∙ get-empty operation_cmp o) ∙ is.1)

pub no_workstation : (P : Contents) (w : Name) → P ≡ nothing → get P.workstations w ≡ None
no_workstation P w none = ap (λ (Q : Contents). get Q.workstations w) none ∙ get-empty name_cmp w
