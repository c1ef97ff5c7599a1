use Rattle.std.proofs.Common.{◌≡◌, ◌∙◌, ◌++◌, ◌∷◌, [], List, ℕ, Bool, true, false, ap, arith, length, subst}
use Rattle.std.specs.Prelude.{OnOk, codes, count_by, flat_map}
use Rattle.html_pages.specs.Pieces.{Part, bytes}
use Rattle.board_pages.specs.Choices.{has_no_end, is_late, is_troubled}
use Rattle.board_pages.specs.Pages.{count_parts}
use Rattle.forecast_texts.specs.plan_outlooks.specs.declared.rows.OperationOutlook.{OperationOutlook}
use Rattle.board_pages.proofs.pages.put_counts.Goals as goal

-- all counts, by their numbers and how what has no end is called
abbrev counts_by : ℕ → List ℕ → ℕ → ℕ → ℕ → ℕ → ℕ → ℕ → ℕ → List Part
counts_by troubled words endless late over named hand going complete = flat_map (λ (r : Bool × ℕ × List ℕ). count_parts r.0 r.1 r.2) (
    (true, troubled, codes "in error or undecided")
    ∷ (true, endless, words)
    ∷ (true, late, codes "late")
    ∷ (true, over, codes "longer than planned")
    ∷ (false, named, codes "named and not started")
    ∷ (false, hand, codes "by hand")
    ∷ (false, going, codes "going")
    ∷ (false, complete, codes "complete")
    ∷ [])

pub returns : goal.returns
returns c =
    let x = c.args.told.now in
    let troubled = c.troubled.ensures ∙ ap (count_by is_troubled) c.deref.ensures.value in
    let endless = c.without_end.ensures ∙ ap (count_by has_no_end) c.deref-2.ensures.value in
    let late = c.late_count.ensures ∙ ap (count_by is_late) c.deref-3.ensures.value in
    let over : c.len.result ≡ length x.over.items = (let n = x.over.ok.0 in omega (arith, c.len.ensures, n)) in
    let named : c.len-2.result ≡ length x.named.items = (let n = x.named.ok.0 in omega (arith, c.len-2.ensures, n)) in
    let going = c.going.ensures ∙ ap (count_by (λ (r : OperationOutlook). r.is_going)) c.deref-4.ensures.value in
    subst (λ (parts : List Part). OnOk c.put_all_counts.result (c.put_all_counts.new.page.items ≡ c.args.page.now.items ++ bytes parts))
    (λ i. counts_by (troubled i) (c.endless_words-endless.ensures i) (endless i) (late i) (over i) (named i) c.args.by_hand (going i) c.args.complete) c.put_all_counts.ensures
