use Rattle.std.proofs.Common.{◌≡◌, [], ap, arith, length}
use Rattle.forecast_texts.specs.Hands.{hands}
use Rattle.html_pages.proofs.Bytes.{behind}
use Rattle.board_pages.specs.Pages.{body_parts, head_parts}
use Rattle.board_pages.proofs.pages.board_page.Goals as goal

pub returns : goal.returns
returns c =
    let x = c.args.told.now in
    let needing = c.in_ok-needing.needing.items in
    let sorted = c.in_ok-occurrences.occurrences.items in
    let by_hand = c.in_ok-by_hand.ensures in
    let count : c.len.result ≡ length (hands x) = (let n = c.in_ok-by_hand.by_hand.ok.0 in let e = ap length by_hand in omega (arith, c.len.ensures, n, e)) in
    let head = rw (count, c.new-page.ensures.items) at c.in_ok-put_head.ensures in
    let body = rw (c.deref-3.ensures.value, c.deref-4.ensures.value, c.deref-5.ensures.value, by_hand) at c.in_ok-put_body.ensures in (
      needing,
      sorted,
      rw c.deref.ensures.value at c.in_ok-needing.ensures,
      rw c.deref-2.ensures.value at c.in_ok-occurrences.ensures,
      behind [] (head_parts x c.args.complete (length (hands x)) c.args.view c.args.watch.now) (body_parts x c.args.watch.now needing (hands x) sorted) head body,
    )
