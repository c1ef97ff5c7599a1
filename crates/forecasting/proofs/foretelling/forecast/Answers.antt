use Rattle.std.proofs.Common.{◌≡◌, ◌++◌, sym, ◌∙◌, subst, arith, ℕ, List, Option, length, take, drop}
use Rattle.forecasting.specs.Known.{since_in}
use Rattle.forecasting.specs.InMemory.{IsInMemory, NoTimes}
use Rattle.forecasting.proofs.First.{written}
use Rattle.forecasting.proofs.foretelling.forecast.Goals as goal

pub requests_from-requires-clause-begun : goal.requests_from-requires-clause-begun
requests_from-requires-clause-begun c =
    let step = c.in_ok-first.ensures.step in
    (c.args.plan.now.plan, since_in c.args.known.now, step.0, c.deref_mut.ensures.value ∙ c.in_ok-since.ensures, step.1)

pub requests_from-requires-clause-done : goal.requests_from-requires-clause-done
requests_from-requires-clause-done c =
    subst (λ n. NoTimes n c.deref_mut-2.result.now) c.count_of.ensures
    (subst (λ (xs : List (Option ℕ)). NoTimes c.count_of.result xs) (sym c.deref_mut-2.ensures.value) c.in_ok-done.ensures)

pub returns-clause-forecast : goal.returns-clause-forecast
returns-clause-forecast c =
    let step = c.in_ok-first.ensures.step in
    let made = c.in_ok-requests.ensures.made c.args.plan.now.plan (since_in c.args.known.now) step.0 (c.deref_mut.ensures.value ∙ c.in_ok-since.ensures) step.1 in
    let begun = c.requests_from.new.since in
    let ended = c.requests_from.new.done in
    let begun_kept = c.requests_from.auto.since in
    let begun_many = c.deref_mut.ensures.len in
    let ended_kept = c.requests_from.auto.done in
    let ended_many = c.deref_mut-2.ensures.len in
    let begun_size : length begun ≡ c.in_ok-since.since.len = omega (arith, begun_kept, begun_many) in
    let ended_size : length ended ≡ c.in_ok-done.done.len = omega (arith, ended_kept, ended_many) in (
      made.0,
      made.1,
      subst (λ (xs : List (Option ℕ)). IsInMemory made.0 c.requests_from.new.plan.plan xs (take c.in_ok-done.done.len (ended ++ drop (length ended) c.in_ok-done.done.items))) (sym (written c.in_ok-since.since.len begun c.in_ok-since.since.items begun_size))
          (subst (λ (ys : List (Option ℕ)). IsInMemory made.0 c.requests_from.new.plan.plan begun ys) (sym (written c.in_ok-done.done.len ended c.in_ok-done.done.items ended_size)) made.2),
    )
