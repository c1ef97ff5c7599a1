use Rattle.std.proofs.Common.{◌∙◌, ap, map, string_bytes}
use Rattle.std.proofs.lemmas.List.{map-append}
use Rattle.extension_faults.proofs.warning.warned_beside.Goals as goal

pub returns : goal.returns
returns c =
    let alone = c.in_ok-alone.alone in
    let beside = c.in_ok-beside.beside in
    let all = ap (map string_bytes) c.in_ok-append.ensures.items ∙ map-append string_bytes c.in_ok-told.told.items c.in_ok-more.more.items in (
      alone.warnings.items,
      c.in_ok-alone.ensures.exactly,
      beside.places.items,
      c.in_ok-beside.ensures.exactly,
      (map string_bytes c.in_ok-told.told.items, c.in_ok-told.ensures, (map string_bytes c.in_ok-more.more.items, c.in_ok-more.ensures, all)),
    )
