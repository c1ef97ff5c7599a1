use Rattle.std.proofs.Common.{◌≡◌, ◌∙◌, ◌≤◌, ◌+◌, ◌++◌, ◌∷◌, [], ap, sym, get_or, drop, true, false, rules}
use Rattle.std.proofs.lemmas.List.{drop_more, drop_all}
use Rattle.csv.specs.Machine.{step}
use Rattle.csv.specs.Reading.{default_config}
use Rattle.csv.specs.declared.parser.State.TheVariants as st
use Rattle.plan_import.specs.Places.{begins, state_of}
use Rattle.plan_import.proofs.LineLaws.{lines_from, line_after, all_found, more_begun, more_none}
use Rattle.plan_import.proofs.lines.lines.lines_of_bytes.Goals.{then-begins+in_ok-push, else-begins}
use Rattle.plan_import.proofs.lines.lines.lines_of_bytes.Goals as goal

pub loop-byte-preserved : goal.loop-byte-preserved
loop-byte-preserved c =
    let inv = c.loop-byte.invariant in
    let bytes = c.args.bytes.now in
    let i = c.loop-byte.byte-index in
    let byte = get_or bytes i 0 in
    let old = state_of c.loop-byte.place in
    let rest = drop (i + 1) bytes in
    let found = c.loop-byte.lines.items in
    let whole : found ++ lines_from old c.loop-byte.line (byte ∷ rest) ≡ lines_from st.StartRecord 1 bytes = rw (drop_more bytes i 0 c.loop-byte-test.true) at inv.1 in
    let line : c.loop-byte.line + c.from-line.result ≡ line_after c.loop-byte.line byte = search rules in
    let place : state_of c.after-place.result ≡ (step default_config old byte).0 = c.after-place.ensures in
    let small : c.loop-byte.line + c.from-line.result ≤ 1 + (i + 1) = search rules in
    elim c.if-begins.branch [
      | then-begins+in_ok-push w ↦
          let begin : begins old byte ≡ true = sym c.begins.ensures ∙ w.if-begins.true in
          let next : c.if-begins.lines.items ≡ found ++ c.loop-byte.line ∷ [] = ap (λ v. v.items) w.lines-is ∙ w.in_ok-push.ensures.items in
          (small, rw (line, place, next) (more_begun old c.loop-byte.line byte rest found _ begin whole))
      | else-begins w ↦
          let none : begins old byte ≡ false = sym c.begins.ensures ∙ w.if-begins.false in
          let next : c.if-begins.lines.items ≡ found = ap (λ v. v.items) w.lines-is in
          (small, rw (line, place, next) (more_none old c.loop-byte.line byte rest found _ none whole))
    ]

pub returns : goal.returns
returns c =
    let inv = c.loop-byte.invariant in
    let bytes = c.args.bytes.now in
    all_found bytes (state_of c.loop-byte.place) c.loop-byte.line c.loop-byte.lines.items (rw (drop_all c.loop-byte.byte-index bytes c.loop-byte-test.false) at inv.1)
