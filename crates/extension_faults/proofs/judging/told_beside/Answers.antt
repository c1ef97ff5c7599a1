use Rattle.std.proofs.Common.{◌≡◌, ◌∙◌, ◌++◌, ◌-◌, arith, ap, subst, length, List, map, string_bytes, take}
use Rattle.std.specs.List.{AllZip}
use Rattle.extension_faults.specs.declared.kinds.FaultBeside.{FaultBeside}
use Rattle.extension_faults.specs.Judged.{more_lines, TellsFrom}
use Rattle.extension_faults.specs.declared.judging.TheConstants.{MOST_TOLD}
use Rattle.extension_faults.proofs.Lines.{are_told}
use Rattle.extension_faults.proofs.judging.told_beside.Goals as goal

pub returns : goal.returns
returns c =
    let first : c.first_of.result.now ≡ take MOST_TOLD c.args.found.now.faults.items = c.first_of.ensures ∙ ap (take MOST_TOLD) c.deref.ensures.value in
    let count : c.args.found.now.faults.len ≡ length c.args.found.now.faults.items = omega (arith, c.args.found.now.faults.ok.0) in
    are_told (λ (f : FaultBeside). f.place) c.args.text.now c.args.found.now.lines.items c.requires c.args.found.now.faults.items (map string_bytes c.in_ok-lines.lines.items) (map string_bytes c.tell_more.new.lines.items)
    (subst (λ (found : List FaultBeside). AllZip (TellsFrom c.args.found.now.lines.items) (map (λ (f : FaultBeside). f.place) found) (map string_bytes c.in_ok-lines.lines.items)) first c.in_ok-lines.ensures) (c.in_ok-tell_more.ensures ∙ ap (λ n. map string_bytes c.in_ok-lines.lines.items ++ more_lines (n - MOST_TOLD)) (c.len.ensures ∙ count))
