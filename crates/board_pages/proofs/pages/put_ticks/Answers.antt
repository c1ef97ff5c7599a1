use Rattle.std.proofs.Common.{◌≡◌, ◌∙◌, ap, sym, arith, append-nil, append_assoc, ℕ, suc, ◌+◌, ◌-◌, ◌<◌, ◌++◌, ◌∷◌, List}
use Rattle.std.specs.List.{range_with_len}
use Rattle.std.specs.Prelude.{flat_map}
use Rattle.html_pages.proofs.Bytes.{bytes_append}
use Rattle.html_pages.specs.Pieces.{Part, bytes}
use Rattle.board_pages.specs.Rows.{tick_parts}
use Rattle.board_pages.proofs.pages.put_ticks.Goals as goal

-- the hours from one on are that one and those after it
one_more : (k : ℕ) → k < 8 → range_with_len k (8 - k) ≡ k ∷ range_with_len (k + 1) (8 - (k + 1))
one_more k less = let e : 8 - k ≡ suc (8 - (k + 1)) = omega arith in ap (range_with_len k) e

pub loop-count-preserved : goal.loop-count-preserved
loop-count-preserved c =
    let k = c.loop-count.count in
    let page = c.loop-count.page.items in
    let parts : ℕ → List Part = tick_parts c.args.told.now in
    let rest = flat_map parts (range_with_len (k + 1) (8 - (k + 1))) in
    ap (λ p. p ++ bytes rest) c.in_ok-put_tick.ensures
    ∙ append_assoc page (bytes (parts k)) (bytes rest)
    ∙ ap (λ t. page ++ t) (sym (bytes_append (parts k) rest))
    ∙ ap (λ ks. page ++ bytes (flat_map parts ks)) (sym (one_more k (omega arith)))
    ∙ c.loop-count.invariant

pub returns : goal.returns
returns c =
    let k = c.loop-count.count in
    let page = c.loop-count.page.items in
    let parts : ℕ → List Part = tick_parts c.args.told.now in
    let none : 8 - k ≡ 0 = omega arith in
    sym (append-nil page) ∙ ap (λ n. page ++ bytes (flat_map parts (range_with_len k n))) (sym none) ∙ c.loop-count.invariant
