use Rattle.std.proofs.Common.{◌≡◌, ◌↔◌, ◌∙◌, IsTrue, sym, subst, ap, ap₂, true≢false, refl, map}
use Rattle.std.specs.Fn.{FnReturnsAt}
use Rattle.std.specs.List.Sorted.{IsStrictlySortedBy}
use Rattle.std.specs.Ordering.{is_lt}
use Rattle.std.proofs.lemmas.Fn.{answers_by, always_returns_same, says_at}
use Rattle.plan_drafts.proofs.Keyed.{ascend_by, apart_by}
use Rattle.plan_drafts.proofs.Orders.{ascends_told}
use Rattle.plan_denotation.proofs.key_order.in_key_order.Given.{Over}
use Rattle.plan_denotation.proofs.key_order.in_key_order.Goals as goal
use Rattle.plan_denotation.proofs.key_order.in_key_order.Goals.{After-is_sorted_by-ascend}

-- the test shows whether the keys ascend
told :
    (g : Over) (c : After-is_sorted_by-ascend g) (k : g.row.T.Denot → g.row.K.Denot) → ((x : g.row.T.Denot) (r : g.row.K.Denot) → FnReturnsAt g.F.Fn c.args.key x r → r ≡ k x) →
    IsTrue c.is_sorted_by-ascend.result ↔ IsStrictlySortedBy g.K.Ord.cmp (map k c.sort_by_key.new.self.items)
told g c k gives =
    let given = c.is_sorted_by-ascend.ensures.cases (λ x y. is_lt (g.K.Ord.cmp (k x) (k y))) (answers_by _ _ (λ q. q.0.now ≡ c.args.key) (λ q a r q2 called same.
    let of : (x : g.row.T.Denot) (y : g.row.K.Denot) → FnReturnsAt g.F.Fn q.0.now x y → y ≡ k x = λ x y f. gives x y (subst (λ key. FnReturnsAt g.F.Fn key x y) same f) in
    let (x, y, from_x, from_y, is) = called.met.1 in
    (is ∙ ap₂ (λ u v. is_lt (g.K.Ord.cmp u v)) (of a.0.now x from_x) (of a.1.0.now y from_y), ap (λ z. z.now) called.met.0 ∙ same)) _ refl) in
    subst (λ xs. IsTrue c.is_sorted_by-ascend.result ↔ IsStrictlySortedBy g.K.Ord.cmp (map k xs)) c.deref.ensures.value (ascends_told g.met.K.Ord.total k c.deref.result.now c.is_sorted_by-ascend.result given)

pub returns-then-not-ascend : goal.returns-then-not-ascend
returns-then-not-ascend g c k gives = λ apart.
    let sorted = c.in_ok-sort_by_key.ensures.sorted k (always_returns_same _ _ _ (λ a r q called. (gives a.0.now r (says_at g.F.Fn called.met.0 refl), called.met.1))) in
    let up = ascend_by g.met.K.Ord.total g.met.K.ExactKey.exact k c.args.said.items c.sort_by_key.new.self.items c.sort_by_key.ensures.permutation sorted apart in
    true≢false (sym ((told g (goal.at.returns-then-not-ascend g c).After-is_sorted_by-ascend k gives).1 up) ∙ c.if-not-ascend.true)

pub returns : goal.returns
returns g c k gives =
    let up = (told g (goal.at.returns g c).After-is_sorted_by-ascend k gives).0 c.if-not-ascend.false in
    let same = c.sort_by_key.ensures.permutation in
    record { distinct = apart_by g.met.K.Ord.total g.met.K.ExactKey.exact k c.args.said.items c.sort_by_key.new.self.items same up; same = same; in_order = up }
