use Rattle.std.proofs.Common.{◌≡◌, ◌∙◌, ◌++◌, ◌-◌, arith, ap, subst, length, List, map, string_bytes, take}
use Rattle.std.specs.List.{AllZip}
use Rattle.record_faults.specs.declared.warnings.RecordWarning.{RecordWarning}
use Rattle.extension_faults.specs.Warned.{more_warnings, WarnsFrom}
use Rattle.extension_faults.specs.declared.judging.TheConstants.{MOST_TOLD}
use Rattle.extension_faults.proofs.Lines.{are_warned}
use Rattle.extension_faults.proofs.warning.warned_alone.Goals as goal

pub returns : goal.returns
returns c =
    let first : c.first_of.result.now ≡ take MOST_TOLD c.args.found.now.warnings.items = c.first_of.ensures ∙ ap (take MOST_TOLD) c.deref.ensures.value in
    let count : c.args.found.now.warnings.len ≡ length c.args.found.now.warnings.items = omega (arith, c.args.found.now.warnings.ok.0) in
    are_warned (λ (w : RecordWarning). w.place) c.args.text.now c.args.found.now.lines.items c.requires c.args.found.now.warnings.items (map string_bytes c.in_ok-told.told.items) (map string_bytes c.warn_more.new.told.items)
    (subst (λ (found : List RecordWarning). AllZip (WarnsFrom c.args.found.now.lines.items) (map (λ (w : RecordWarning). w.place) found) (map string_bytes c.in_ok-told.told.items)) first c.in_ok-told.ensures) (c.in_ok-warn_more.ensures ∙ ap (λ n. map string_bytes c.in_ok-told.told.items ++ more_warnings (n - MOST_TOLD)) (c.len.ensures ∙ count))
