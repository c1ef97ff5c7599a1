-- Where there is no work at the turns before a moment there is none before it; and which turn is the next one.
use Rattle.std.proofs.Common.{◌≡◌, inl, inr, sym, ◌∙◌, ap, subst, arith, ℕ, ◌+◌, ◌<◌, ◌≤◌, List, Contains, Option, Some, None}
use Rattle.std.proofs.lemmas.Bool.{cases_order}
use Rattle.std.proofs.lemmas.Option.{none-some, same_Some}
use Rattle.std.specs.FinMap.{entries, get}
use Rattle.plan_basics.specs.Minutes.{IsMoment}
use Rattle.plan_model.specs.Contents.{Contents}
use Rattle.plan_model.specs.Valid.{IsValid}
use Rattle.plan_forecast.specs.Ahead.{Ahead, HasWork, IsGoing, IsIdleUntil, IsWork}
use Rattle.plan_forecast.specs.Laws.{IsTurn}
use Rattle.plan_records.specs.declared.What.{What}
use Rattle.plan_forecast.proofs.Turns.{work_begins_at_turns}
use Rattle.forecasting.specs.Adds.{AreLasting}
use Rattle.forecasting.specs.Following.{AreGoingAt}
use Rattle.forecasting.specs.InMemory.{IsIdleUpTo}
use Rattle.forecasting.specs.Times.{AreTimesOf}
use Rattle.forecasting.specs.Turns.{IsEndOf, IsFirstWork, IsNextTurn, IsReached}
use Rattle.forecasting.proofs.Dues.{row_of}

-- there is no work at the turns from the clock on before x
abbrev pub IsIdleAtTurns : Ahead → ℕ → Type 0
IsIdleAtTurns s x = (c : ℕ) → s.plan.clock ≤ c → c < x → IsTurn s c → ¬ HasWork s c

pub idle_first : (s : Ahead) (x : ℕ) → s.plan.clock ≡ x → IsIdleAtTurns s x
idle_first s x now c from less turn work = absurd (omega (arith, now, from, less))

module _ (s : Ahead) (valid : IsValid s.plan.contents) (x : ℕ) (none : IsIdleAtTurns s x) where
  pub idle_until : IsIdleUntil s x
  idle_until y from less work = let c = work_begins_at_turns s valid y from work in none c.0 c.1 (let a = c.2 in omega (arith, a, less)) c.3 c.4

  pub first_is : (until : ℕ) (w : What) → s.plan.clock ≤ x → x ≤ until → IsWork s x w → IsFirstWork s until x w
  first_is until w from within work = record { from = from; within = within; idle = idle_until; work = work }

  -- once it is past the end
  pub idle_past : (until : ℕ) → until < x → IsIdleUpTo until s
  idle_past until past y from within work = idle_until y from (omega (arith, past, within)) work

  module _ (here : ¬ HasWork s x) where
    pub idle_on : (y : ℕ) → ((c : ℕ) → x < c → c < y → ¬ IsTurn s c) → IsIdleAtTurns s y
    idle_on y between c from less turn work = elim (cases_order c x) [
      | inl same ↦ here (subst (HasWork s) same work)
      | inr (inl below) ↦ none c from below turn work
      | inr (inr above) ↦ between c above less turn
    ]

    pub idle_always : (until : ℕ) → ((c : ℕ) → x < c → c ≤ until → ¬ IsTurn s c) → IsIdleUpTo until s
    idle_always until after y from within work =
        let c = work_begins_at_turns s valid y from work in
        idle_on (c.0 + 1) (λ k above less turn. after k above (let a = c.2 in omega (arith, a, within, less)) turn) c.0 c.1 (omega arith) c.3 c.4

-- after m each lasting turn and each end is reached by this one
module _ (s : Ahead) (P : Contents) (same : s.plan.contents ≡ P) (m until : ℕ) (from : s.plan.clock ≤ m) (legal : IsMoment until) (turns going : List ℕ) (begun : List (Option ℕ))
    (lasts : AreLasting s.plan.contents s.plan.clock until turns) (at : AreGoingAt P going) (times : AreTimesOf s.since (entries P.operations) begun) (first : Option ℕ)
    (lasting : (c : ℕ) → Contains turns c → m < c → IsReached first c) (ends : (c : ℕ) → IsMoment c → m < c → IsEndOf (entries P.operations) going begun c → IsReached first c) where
  turn_reached : (c : ℕ) → m < c → c ≤ until → IsTurn s c → IsReached first c
  turn_reached c after within (inl now) = absurd (omega (arith, now, from, after))
  turn_reached c after within (inr (inl opens)) = lasting c (lasts c (omega (arith, from, after)) within (inl opens)) after
  turn_reached c after within (inr (inr (inl late))) = lasting c (lasts c (omega (arith, from, after)) within (inr late)) after
  turn_reached c after within (inr (inr (inr (o, is, (op, found, (b, since, over)))))) =
      let r = row_of P o op (ap (λ (Q : Contents). get Q.operations o) (sym same) ∙ found) in
      ends c (omega (arith, within, legal)) after (r.0, s.since o, at.all r.0 o op r.1 (subst (λ (Q : Contents). IsGoing Q o) same is), times r.0 o op r.1, (o, op, b, r.1, since, over))

  -- there is none
  pub no_turn : first ≡ None → IsNextTurn s m until None
  no_turn none c after within turn = let r = turn_reached c after within turn in none-some r.0 (sym none ∙ r.1)

  module _ (x : ℕ) (is : first ≡ Some x) where
    least : (c : ℕ) → m < c → c ≤ until → IsTurn s c → x ≤ c
    least c after within turn =
        let r = turn_reached c after within turn in
        let e : r.0 ≡ x = same_Some r.0 x (sym r.1 ∙ is) in
        let le = r.2 in
        omega (arith, e, le)

    pub next_turn : m < x → x ≤ until → IsNextTurn s m until (Some x)
    next_turn after within = (after, within, λ c above less turn. let le = least c above (omega (arith, less, within)) turn in absurd (omega (arith, le, less)))

    pub past_turn : until < x → IsNextTurn s m until None
    past_turn past c after within turn = let le = least c after within turn in absurd (omega (arith, le, within, past))
