use Rattle.std.proofs.Common.{◌++◌, take, drop, arith, length-drop, ◌≡◌, length, rules, to_z-of_z, SFits, w64}
use Rattle.std.proofs.lemmas.List.{take_all}
use Rattle.std.specs.Prelude.{codes}
use Rattle.html_pages.proofs.Bytes.{plain_behind}
use Rattle.html_pages.proofs.pieces.put_minute.Goals as goal

pub returns : goal.returns
returns c =
    let page = c.args.page.now.items in
    let text = c.latest_text-text.result in
    let day = take 5 (drop 5 text) in
    let blank = codes " " in
    let size : length text ≡ 16 = omega arith in
    let hour : take 5 (drop 11 text) ≡ drop 11 text = take_all 5 (drop 11 text) (omega (arith, length-drop 11 text)) in
    let told = plain_behind page (day ++ blank) (take 5 (drop 11 text)) (plain_behind page day blank c.in_ok-put_text.ensures c.in_ok-put_text-2.ensures) c.in_ok-put_text-3.ensures in
    let fits : SFits w64 c.args.minute = search rules in
    simp to_z-of_z at (rw (hour, c.latest_text-text.ensures) at told)
