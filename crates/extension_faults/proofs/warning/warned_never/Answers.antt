use Rattle.std.proofs.Common.{◌≡◌, ◌∙◌, ◌++◌, ◌-◌, ℕ, List, arith, ap, subst, length, map, string_bytes, take}
use Rattle.std.specs.List.{AllZip}
use Rattle.extension_faults.specs.Warned.{more_warnings, WarnsFrom}
use Rattle.extension_faults.specs.declared.judging.TheConstants.{MOST_TOLD}
use Rattle.extension_faults.proofs.warning.warned_never.Goals as goal

pub returns : goal.returns
returns c =
    let starts = c.args.found.now.lines.items in
    let places = c.args.found.now.places.items in
    let lines = map string_bytes c.in_ok-told.told.items in
    let first : c.first_of.result.now ≡ take MOST_TOLD places = c.first_of.ensures ∙ ap (take MOST_TOLD) c.deref-2.ensures.value in
    let count : c.args.found.now.places.len ≡ length places = omega (arith, c.args.found.now.places.ok.0) in
    record {
      starts = starts;
      begin = c.requires;
      first = lines;
      each = subst (λ (ps : List ℕ). AllZip (WarnsFrom starts) ps lines) first (subst (λ (ss : List ℕ). AllZip (WarnsFrom ss) c.first_of.result.now lines) c.deref.ensures.value c.in_ok-told.ensures);
      all = c.in_ok-warn_more.ensures ∙ ap (λ n. lines ++ more_warnings (n - MOST_TOLD)) (c.len.ensures ∙ count);
    }
