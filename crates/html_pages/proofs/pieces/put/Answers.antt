use Rattle.std.proofs.Common.{◌≡◌, ◌∙◌, sym, ap, subst, append_assoc, append-nil, ◌++◌, ◌+◌, ◌<◌, ◌≤◌, drop, map, cond, eqb, get_or, length, ℕ, List, [], ◌∷◌, arith}
use Rattle.std.proofs.lemmas.List.{at_drop_more, at_drop_all, drop-map}
use Rattle.std.proofs.lemmas.Bool.Decides.{nat_tests}
use Rattle.std.specs.Slice.Iter.{iter_rest}
use Rattle.html_pages.specs.Pieces.{Markup, Part, Text, bytes, filled, first_of, plain, text_of}
use Rattle.html_pages.proofs.pieces.put.Goals as goal
use Rattle.html_pages.proofs.pieces.put.Goals.{then-byte-eq126+in_ok-put_next, else-byte-eq126+in_ok-push}

-- what is left of a template, from its next byte on
next_filled : (template : List ℕ) (texts : List (List ℕ)) (i : ℕ) → i < length template →
    filled (drop i template) texts ≡ cond (eqb (get_or template i 0) 126) (Text (first_of texts) ∷ filled (drop (i + 1) template) (drop 1 texts)) (Markup (get_or template i 0 ∷ []) ∷ filled (drop (i + 1) template) texts)
unfolding filled
next_filled template texts i h = at_drop_more (λ t. filled t texts) template i 0 h

-- pieces behind a page, of which the first is put
put_first : (P E : List ℕ) (t : List ℕ) (rest : List Part) (f : List ℕ) (now : List ℕ) → now ≡ P ++ f → P ++ (f ++ bytes rest) ≡ E → now ++ bytes rest ≡ E
put_first P E t rest f now e is = ap (λ p. p ++ bytes rest) e ∙ append_assoc P f (bytes rest) ∙ is

not_hole : (b : ℕ) (X Y : List Part) → (b ≡ 126 → ⊥) → cond (eqb b 126) X Y ≡ Y
not_hole b X Y h = grind (arith, nat_tests)

at_hole : (template : List ℕ) (texts : List (List ℕ)) (i : ℕ) → i < length template → get_or template i 0 ≡ 126 →
    filled (drop i template) texts ≡ Text (first_of texts) ∷ filled (drop (i + 1) template) (drop 1 texts)
at_hole template texts i h is =
    next_filled template texts i h
    ∙ ap (λ b. cond (eqb b 126) (Text (first_of texts) ∷ filled (drop (i + 1) template) (drop 1 texts)) (Markup (get_or template i 0 ∷ []) ∷ filled (drop (i + 1) template) texts)) is

at_byte : (template : List ℕ) (texts : List (List ℕ)) (i : ℕ) → i < length template → (get_or template i 0 ≡ 126 → ⊥) →
    filled (drop i template) texts ≡ Markup (get_or template i 0 ∷ []) ∷ filled (drop (i + 1) template) texts
at_byte template texts i h is = next_filled template texts i h ∙ not_hole (get_or template i 0) _ _ is

pub loop-byte-preserved : goal.loop-byte-preserved
loop-byte-preserved c =
    let template = c.args.template.now in
    let i = c.loop-byte.byte-index in
    let rest = iter_rest c.loop-byte.left in
    let texts = map text_of rest in
    let page = c.loop-byte.page.items in
    let more : List Part → Type 0 = λ parts. page ++ bytes parts ≡ c.args.page.now.items ++ bytes (filled template (map text_of c.args.values.now)) in
    let same = ap (λ (t : List ℕ). get_or t i 0) c.as_bytes-byte-items.ensures.value in
    let within : i < length template = omega arith in
    elim c.if-byte-eq126.branch [
      | then-byte-eq126+in_ok-put_next w ↦ (
          let hole = subst more (at_hole template texts i within (sym same ∙ w.if-byte-eq126.true)) c.loop-byte.invariant in
          let left = ap (λ l. map text_of (iter_rest l)) w.left-is ∙ ap (map text_of) w.put_next.ensures.left ∙ sym (drop-map text_of 1 rest) in
          let put = put_first page _ template (filled (drop (i + 1) template) (drop 1 texts)) (plain (first_of texts)) w.put_next.new.page.items w.in_ok-put_next.ensures.page hole in
          rw (w.page-is, left) put)
      | else-byte-eq126+in_ok-push w ↦ (
          let byte = subst more (at_byte template texts i within (λ e. w.if-byte-eq126.false (same ∙ e))) c.loop-byte.invariant in
          let put = put_first page _ template (filled (drop (i + 1) template) texts) (get_or template i 0 ∷ []) w.push.new.self.items (w.in_ok-push.ensures.items ∙ ap (λ b. page ++ b ∷ []) same) byte in
          rw (w.page-is, w.left-is) put)
    ]

at_end : (template : List ℕ) (texts : List (List ℕ)) (i : ℕ) → length template ≤ i → filled (drop i template) texts ≡ []
unfolding filled
at_end template texts i h = at_drop_all (λ t. filled t texts) template i h

pub returns : goal.returns
returns c =
    let template = c.args.template.now in
    let texts = map text_of (iter_rest c.loop-byte.left) in
    let page = c.loop-byte.page.items in
    let all = at_end template texts c.loop-byte.byte-index (omega (arith, ap length c.as_bytes-byte-items.ensures.value)) in
    sym (append-nil page) ∙ ap (λ parts. page ++ bytes parts) (sym all) ∙ c.loop-byte.invariant
