-- Operations that were named, unmarked again.
use Rattle.std.proofs.Common.{◌≡◌, refl, sym, ap, ◌∙◌, ℕ, Bool, true, false, cond, List, Option, Some, None, option_map}
use Rattle.std.specs.FinMap.{get, same_map}
use Rattle.plan_basics.specs.Keys.{operation_cmp_total, operation_cmp-IsAntisymmetric}
use Rattle.plan_basics.specs.declared.keys.OpKey.{OpKey}
use Rattle.small_requests.proofs.ChosenEntries.{chosen_are_ready}
use Rattle.plan_checks.specs.plan_laws.proofs.Kept.{ready_unmarked}
use Rattle.plan_checks.specs.plan_laws.proofs.Revised.{get-revised}
use Rattle.plan_model.specs.Contents.{Contents, Operation}
use Rattle.plan_model.specs.Ready.{IsChosen, named, with_mark}
use Rattle.plan_records.specs.Changes.{revised}
use Rattle.ready_list.specs.Choice.{is_among}
use Rattle.status_rules.specs.declared.Mark.TheVariants as mark

-- an operation that was unmarked, named and unmarked again
back_again : (t : Bool) (x : Option Operation) → (t ≡ true → (op : Operation) → x ≡ Some op → op.mark ≡ mark.Unmarked)
    → option_map (λ op. cond t (with_mark mark.Unmarked op) op) (option_map (λ op. cond t (with_mark mark.Named op) op) x) ≡ x
back_again t None were = refl
back_again true (Some op) were = ap (λ m. Some (with_mark m op)) (sym (were refl op refl))
back_again false (Some op) were = refl

-- what was chosen and named, unmarked again, is as it was
pub unnamed : (P : Contents) (m : ℕ) (os : List OpKey) → IsChosen P m os → revised (is_among os) (with_mark mark.Unmarked) (named os P) ≡ P
unnamed P m os chosen =
    let ready = (chosen_are_ready P m os chosen).0 in
    let Q = named os P in
    ap (λ operations. record P { operations = operations }) (same_map operation_cmp_total operation_cmp-IsAntisymmetric (revised (is_among os) (with_mark mark.Unmarked) Q).operations P.operations (λ o.
    get-revised (is_among os) (with_mark mark.Unmarked) Q o
    ∙ ap (option_map (λ op. cond (is_among os o) (with_mark mark.Unmarked op) op)) (get-revised (is_among os) (with_mark mark.Named) P o)
    ∙ back_again (is_among os o) (get P.operations o) (λ t op is. ready_unmarked P o op is (ready o t))))
