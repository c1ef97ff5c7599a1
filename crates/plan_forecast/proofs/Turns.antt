-- What is allowed to start was so from the first minute of its workstation's interval on, or from its not-before, whichever is later.
use Rattle.std.proofs.Common.{◌≡◌, ◌⊎◌, inl, inr, refl, sym, ◌∙◌, subst, arith, ℕ, ◌+◌, ◌≤◌, Some}
use Rattle.std.proofs.lemmas.Bool.{cases_lt}
use Rattle.std.proofs.lemmas.Option.{same_Some}
use Rattle.std.specs.FinMap.{get}
use Rattle.plan_basics.specs.Intervals.{IsOpenAt, OpenInterval}
use Rattle.plan_basics.specs.declared.Attr.{Attr}
use Rattle.plan_basics.specs.declared.Refusal.{Refusal}
use Rattle.plan_basics.specs.declared.Refusal.TheVariants as refusal
use Rattle.plan_basics.specs.declared.keys.OpKey.{OpKey}
use Rattle.plan_model.specs.Contents.{Contents, Operation}
use Rattle.plan_model.specs.Starts.{MayStart}
use Rattle.plan_model.specs.Valid.{IsValid}
use Rattle.workstations.specs.Workstations.{HasCapacity, IsWorkstation, Workstation, capacity_of}
use Rattle.workstations.specs.declared.Capacity.{Capacity}
use Rattle.plan_forecast.specs.Ahead.{Ahead, IsDue, MayBegin}
use Rattle.plan_forecast.specs.Laws.{IsTurn, WorkBeginsAtTurns}

-- the later of two minutes
pub later_of : (a b : ℕ) → (c : ℕ) × (a ≤ c) × (b ≤ c) × ((c ≡ a) ⊎ (c ≡ b))
later_of a b = elim (cases_lt a b) [
  | inl less ↦ (b, omega (arith, less), omega arith, inr refl)
  | inr more ↦ (a, omega arith, more, inl refl)
]

module _ (P : Contents) (o : OpKey) (op : Operation) (ws : Workstation) (there : get P.workstations op.workstation ≡ Some ws) (legal : IsWorkstation ws)
    (from : ℕ) (span : OpenInterval) (is : get ws.intervals from ≡ Some span) (y z : ℕ) (at_y : IsOpenAt span y) (begun : from ≤ z) (before : z ≤ y) where
  open_then : IsOpenAt span z
  open_then = let begins = (legal.intervals from span is).0 in (subst (λ n. n ≤ z) begins begun, let ends = at_y.1 in omega (arith, ends, before))

  -- the capacity at the earlier minute is that at the later one
  capacity_stays : (w : Workstation) → get P.workstations op.workstation ≡ Some w → (c : Capacity) → HasCapacity w z c → HasCapacity w y c
  capacity_stays w found c (start, x, got, open_z, e) =
      let same_ws : ws ≡ w = same_Some ws w (sym there ∙ found) in
      let here : get ws.intervals start ≡ Some x = subst (λ v. get v.intervals start ≡ Some x) (sym same_ws) got in
      let one : from ≡ start = legal.disjoint from start z span x is here open_then open_z in
      let same : span ≡ x = same_Some span x (sym is ∙ subst (λ n. get ws.intervals n ≡ Some x) (sym one) here) in
      (start, x, got, subst (λ i. IsOpenAt i y) same at_y, e)

  lines_stay : op.not_before ≤ z → ((line : Refusal) → MayStart P o op y line) → (line : Refusal) → MayStart P o op z line
  lines_stay late may refusal.WrongStatus = may refusal.WrongStatus
  lines_stay late may refusal.Held = may refusal.Held
  lines_stay late may refusal.TooEarly = late
  lines_stay late may refusal.Closed = (ws, there, (capacity_of span, (from, span, is, open_then, refl)))
  lines_stay late may refusal.NoServer = let fit = may refusal.NoServer in (fit.0, fit.1, λ c has. fit.2 c (capacity_stays fit.0 fit.1 c has))
  lines_stay late may refusal.NoFixed = let fit = may refusal.NoFixed in (fit.0, fit.1, λ c has. fit.2 c (capacity_stays fit.0 fit.1 c has))
  lines_stay late may refusal.ResourceBusy = may refusal.ResourceBusy
  lines_stay late may line = tt

-- what may begin at y may begin at some turn from m to y
begins_at_turn : (a : Attr) (s : Ahead) → IsValid s.plan.contents → (o : OpKey) (y : ℕ) → s.plan.clock ≤ y → MayBegin a s.plan.contents o y
    → (c : ℕ) × (s.plan.clock ≤ c) × (c ≤ y) × IsTurn s c × MayBegin a s.plan.contents o c
begins_at_turn a s valid o y from (ready, on, (op, is, may)) =
    let P = s.plan.contents in
    let closed = may refusal.Closed in
    let early = may refusal.TooEarly in
    let ws = closed.0 in
    let there = closed.1 in
    let interval = closed.2.1 in
    let legal = (valid.workstations op.workstation ws there).1 in
    let begun : interval.0 ≤ y = let b = (legal.intervals interval.0 interval.1 interval.2).0 in let h = interval.3.0 in subst (λ n. n ≤ y) (sym b) h in
    let first = later_of s.plan.clock interval.0 in
    let second = later_of first.0 op.not_before in
    let c = second.0 in
    let within : c ≤ y = elim second.3 [
      | inl e ↦ elim first.3 [ inl f ↦ omega (arith, e, f, from) | inr f ↦ omega (arith, e, f, begun) ]
      | inr e ↦ omega (arith, e, early)
    ] in
    let turn : IsTurn s c = elim second.3 [
      | inl e ↦ elim first.3 [
        | inl f ↦ inl (e ∙ f)
        | inr f ↦ inr (inl (op.workstation, ws, interval.1, there, subst (λ n. get ws.intervals n ≡ Some interval.1) (sym (e ∙ f)) interval.2))
      ]
      | inr e ↦ inr (inr (inl (o, (op, is, sym e))))
    ] in
    let after_clock : s.plan.clock ≤ c = let x = first.1 in let z = second.1 in omega (arith, x, z) in
    let after_from : interval.0 ≤ c = let x = first.2 in let z = second.1 in omega (arith, x, z) in
    (c, after_clock, within, turn, (ready, on, (op, is, lines_stay P o op ws there legal interval.0 interval.1 interval.2 y c interval.3 after_from within second.2 may)))

due_at_turn : (s : Ahead) (o : OpKey) (y : ℕ) → s.plan.clock ≤ y → IsDue s o y → (c : ℕ) × (s.plan.clock ≤ c) × (c ≤ y) × IsTurn s c × IsDue s o c
due_at_turn s o y from (going, (op, is, since)) =
    let late = later_of s.plan.clock (since.0 + op.duration) in
    let within : late.0 ≤ y = elim late.3 [ inl e ↦ omega (arith, e, from) | inr e ↦ (let over = since.2 in omega (arith, e, over)) ] in
    let turn : IsTurn s late.0 = elim late.3 [ inl e ↦ inl e | inr e ↦ inr (inr (inr (o, going, (op, is, (since.0, since.1, sym e))))) ] in
    (late.0, late.1, within, turn, (going, (op, is, (since.0, since.1, late.2))))

pub work_begins_at_turns : WorkBeginsAtTurns
work_begins_at_turns s valid y from (inl due) = let t = due_at_turn s due.0 y from due.1 in (t.0, t.1, t.2, t.3, inl (due.0, t.4))
work_begins_at_turns s valid y from (inr (inl may)) = let t = begins_at_turn _ s valid may.0 y from may.1 in (t.0, t.1, t.2, t.3, inr (inl (may.0, t.4)))
work_begins_at_turns s valid y from (inr (inr may)) = let t = begins_at_turn _ s valid may.0 y from may.1 in (t.0, t.1, t.2, t.3, inr (inr (may.0, t.4)))
