-- Whether all operations at some indices are complete, one after another.
use Rattle.std.proofs.Common.{◌≡◌, inl, inr, sym, ◌∙◌, ap, arith, ℕ, ◌+◌, ◌≤◌, Some, slice_get}
use Rattle.std.specs.FinMap.{entries}
use Rattle.std.proofs.lemmas.Bool.{cases_lt}
use Rattle.plan_basics.specs.declared.keys.OpKey.{OpKey}
use Rattle.plan_model.specs.Contents.{Contents, Operation}
use Rattle.plan_model.specs.Status.{HasStatus}
use Rattle.status_rules.specs.declared.Status.{Status}
use Rattle.plan_outlooks.specs.Spans.{HaveStatus}

pub none_have : (P : Contents) (first : ℕ) (s : Status) → HaveStatus P first first s
none_have P first s i o op at low high = absurd (omega (arith, low, high))

pub one_more_has : (P : Contents) (first n : ℕ) (s : Status) → HaveStatus P first n s → ((o : OpKey) (op : Operation) → slice_get (entries P.operations) n ≡ Some (o, op) → HasStatus P o s) → HaveStatus P first (n + 1) s
one_more_has P first n s before this i o op at low high = elim (cases_lt i n) [
  | inl earlier ↦ before i o op at low earlier
  | inr later ↦ let same : i ≡ n = omega (arith, later, high) in this o op (ap (slice_get (entries P.operations)) (sym same) ∙ at)
]

pub all_have : (P : Contents) (first end n : ℕ) (s : Status) → end ≤ n → HaveStatus P first n s → HaveStatus P first end s
all_have P first end n s past all i o op at low high = all i o op at low (omega (arith, past, high))
