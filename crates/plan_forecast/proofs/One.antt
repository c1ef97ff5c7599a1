-- A forecast is determined.
use Rattle.std.proofs.Common.{◌≡◌, ◌⊎◌, inl, inr, refl, sym, ◌∙◌, ap, ap₂, subst, ℕ, pos, List, [], ◌∷◌, ◌++◌, Contains, Option, Some, None, Ordering, Less, Equal, Greater}
use Rattle.std.proofs.lemmas.Bool.{cases_order}
use Rattle.std.specs.Ordering.{ordering_reverse}
use Rattle.plan_basics.specs.Keys.{operation_cmp, operation_cmp_total, operation_cmp-IsAntisymmetric}
use Rattle.plan_basics.specs.declared.keys.OpKey.{OpKey}
use Rattle.plan_laws.proofs.Sorted.{contains_head, contains_later}
use Rattle.plan_laws.proofs.Choice.{one_ready_list}
use Rattle.plan_laws.proofs.Single.{one_step}
use Rattle.plan_model.specs.Plan.{Plan}
use Rattle.ready_list.specs.Choice.{operations_of}
use Rattle.status_rules.specs.declared.Status.TheVariants as status
use Rattle.plan_model.specs.Status.{HasStatus}
use Rattle.plan_records.specs.Answer.{accepted}
use Rattle.plan_records.specs.declared.Request.{Request}
use Rattle.plan_records.specs.declared.What.{What}
use Rattle.plan_records.specs.declared.What.TheVariants as what
use Rattle.plan_forecast.specs.Ahead.{Ahead, AreTimesAfter, counted_from, BeginsFirst, HasWork, IsGoing, IsNext, IsTimeAfter, IsWork, LeadsOn, LeadsTo, before_it, tick}
use Rattle.plan_forecast.specs.Laws.{OneForecast}

-- ---- the first moment with work

pub works : (s : Ahead) (x : ℕ) (w : What) → IsWork s x w → HasWork s x
works s x (what.Ended o) h = inl (o, h.0)
works s x what.Tick h = inr (inl h.1)
works s x (what.Started o) h = inr (inr (o, h.2.may))
works s x w h = absurd h

one_moment : (s : Ahead) (x y : ℕ) (q r : Request) → IsNext s x q → IsNext s y r → x ≡ y
one_moment s x y q r n k = elim (cases_order x y) [
  | inl e ↦ e
  | inr (inl less) ↦ absurd (k.idle x n.from less (works s x q.what n.work))
  | inr (inr more) ↦ absurd (n.idle y k.from more (works s y r.what k.work))
]

-- ---- what is done then

by_order : (o p : OpKey) (r : Ordering) → operation_cmp o p ≡ r → ¬ (operation_cmp p o ≡ Less) → ¬ (operation_cmp o p ≡ Less) → o ≡ p
by_order o p Less e f g = absurd (g e)
by_order o p Equal e f g = operation_cmp-IsAntisymmetric o p e
by_order o p Greater e f g = absurd (f (operation_cmp_total.antisymm p o ∙ ap ordering_reverse e))

first_of : OpKey → List OpKey → OpKey
first_of d [] = d
first_of d (x ∷ xs) = x

rest_of : List OpKey → List OpKey
rest_of [] = []
rest_of (x ∷ xs) = xs

-- two places in one list: one lies before the other, or they are one
two_places : (xs ys us vs : List OpKey) (o p : OpKey) → xs ++ o ∷ us ≡ ys ++ p ∷ vs → Contains ys o ⊎ Contains xs p ⊎ (o ≡ p)
unfolding first_of rest_of
two_places [] [] us vs o p e = inr (inr (ap (first_of o) e))
two_places [] (y ∷ ys) us vs o p e = inl (subst (Contains (y ∷ ys)) (sym (ap (first_of o) e)) (contains_head y ys))
two_places (x ∷ xs) [] us vs o p e = inr (inl (subst (Contains (x ∷ xs)) (ap (first_of x) e) (contains_head x xs)))
two_places (x ∷ xs) (y ∷ ys) us vs o p e = elim (two_places xs ys us vs o p (ap rest_of e)) [
  | inl a ↦ inl (contains_later y ys o a)
  | inr (inl b) ↦ inr (inl (contains_later x xs p b))
  | inr (inr same) ↦ inr (inr same)
]

one_first : (s : Ahead) (x : ℕ) (o p : OpKey) → BeginsFirst s x o → BeginsFirst s x p → o ≡ p
one_first s x o p a b =
    let lists : a.ready ≡ b.ready = one_ready_list s.plan.contents a.ready b.ready a.is_ready_list b.is_ready_list in
    elim (two_places a.before b.before a.after b.after o p (sym a.split ∙ ap operations_of lists ∙ b.split)) [
      | inl earlier ↦ absurd (b.first o earlier a.may)
      | inr (inl later) ↦ absurd (a.first p later b.may)
      | inr (inr same) ↦ same
    ]

module _ (s : Ahead) (x : ℕ) where
  as_ended : (o : OpKey) (w : What) → IsWork s x (what.Ended o) → IsWork s x w → what.Ended o ≡ w
  as_ended o (what.Ended p) h k = ap what.Ended (by_order o p (operation_cmp o p) refl (h.1 p k.0) (k.1 o h.0))
  as_ended o what.Tick h k = absurd (k.0 (o, h.0))
  as_ended o (what.Started p) h k = absurd (k.0 (o, h.0))
  as_ended o w h k = absurd k

  as_tick : (w : What) → IsWork s x what.Tick → IsWork s x w → what.Tick ≡ w
  as_tick (what.Ended p) h k = absurd (h.0 (p, k.0))
  as_tick what.Tick h k = refl
  as_tick (what.Started p) h k = absurd (k.1 h.1)
  as_tick w h k = absurd k

  as_started : (o : OpKey) (w : What) → IsWork s x (what.Started o) → IsWork s x w → what.Started o ≡ w
  as_started o (what.Ended p) h k = absurd (h.0 (p, k.0))
  as_started o what.Tick h k = absurd (h.1 k.1)
  as_started o (what.Started p) h k = ap what.Started (one_first s x o p h.2 k.2)
  as_started o w h k = absurd k

  one_work : (v w : What) → IsWork s x v → IsWork s x w → v ≡ w
  one_work (what.Ended o) w h k = as_ended o w h k
  one_work what.Tick w h k = as_tick w h k
  one_work (what.Started o) w h k = as_started o w h k
  one_work v w h k = absurd h

one_next : (s : Ahead) (x y : ℕ) (q r : Request) → IsNext s x q → IsNext s y r → q ≡ r
one_next s x y q r n k =
    let e : x ≡ y = one_moment s x y q r n k in
    let w : q.what ≡ r.what = one_work s y q.what r.what (subst (λ m. IsWork s m q.what) e n.work) k.work in
    let at = n.at ∙ ap pos e ∙ sym k.at in
    λ i. record { at = at i; what = w i }

-- ---- what it leads to

pub one_time : (is_so : Type 0) (m : ℕ) (x a b : Option ℕ) → IsTimeAfter is_so m x a → IsTimeAfter is_so m x b → a ≡ b
one_time is_so m (Some k) a b h g = h ∙ sym g
one_time is_so m None a b (inl h) (inl g) = h.1 ∙ sym g.1
one_time is_so m None a b (inl h) (inr g) = absurd (g.0 h.0)
one_time is_so m None a b (inr h) (inl g) = absurd (h.0 g.0)
one_time is_so m None a b (inr h) (inr g) = h.1 ∙ sym g.1

one_timing : (is_so : OpKey → Type 0) (at : OpKey → ℕ) (old a b : OpKey → Option ℕ) → AreTimesAfter is_so at old a → AreTimesAfter is_so at old b → a ≡ b
one_timing is_so at old a b h g = λ i o. one_time (is_so o) (at o) (old o) (a o) (b o) (h o) (g o) i

one_leading : (s t u : Ahead) (q : Request) → LeadsTo s q t → LeadsTo s q u → t ≡ u
one_leading s t u q h k =
    let plan : t.plan ≡ u.plan = (one_step s.plan t.plan u.plan q (accepted h.chosen) (accepted k.chosen) h.step k.step).1 in
    let since : t.since ≡ u.since = one_timing (IsGoing u.plan.contents) (counted_from u.plan.contents u.plan.clock) s.since t.since u.since
    (subst (λ (P : Plan). AreTimesAfter (IsGoing P.contents) (counted_from P.contents P.clock) s.since t.since) plan h.since) k.since in
    let done : t.done ≡ u.done = one_timing (λ o. HasStatus u.plan.contents o status.Complete) (λ o. u.plan.clock) s.done t.done u.done
    (subst (λ (P : Plan). AreTimesAfter (λ o. HasStatus P.contents o status.Complete) (λ o. P.clock) s.done t.done) plan h.done) k.done in
    λ i. record { plan = plan i; since = since i; done = done i }

one_way : (until : ℕ) (qs rs : List Request) (s t u : Ahead) → LeadsOn until s qs t → LeadsOn until s rs u → (qs ≡ rs) × (t ≡ u)
one_way until [] [] s t u h k = (refl, h.0 ∙ sym k.0)
one_way until [] (r ∷ rs) s t u h k = absurd (h.1 k.0 k.3.from k.2 (works s k.0 r.what k.3.work))
one_way until (q ∷ qs) [] s t u h k = absurd (k.1 h.0 h.3.from h.2 (works s h.0 q.what h.3.work))
one_way until (q ∷ qs) (r ∷ rs) s t u h k =
    let request : q ≡ r = one_next s h.0 k.0 q r h.3 k.3 in
    let mid : h.1 ≡ k.1 = one_leading s h.1 k.1 r (subst (λ z. LeadsTo s z h.1) request h.4) k.4 in
    let rest = one_way until qs rs k.1 t u (subst (λ m. LeadsOn until m qs t) mid h.5) k.5 in
    (ap₂ (λ z zs. z ∷ zs) request rest.0, rest.1)

pub one_forecast : OneForecast
one_forecast P known m until a b s t h k =
    let mid : h.0 ≡ k.0 = one_leading (before_it P known) h.0 k.0 (tick m) h.3 k.3 in
    let rest = one_way until h.1 k.1 k.0 s t (subst (λ x. LeadsOn until x h.1 s) mid h.4) k.4 in
    (h.2 ∙ ap (λ qs. tick m ∷ qs) rest.0 ∙ sym k.2, rest.1)
