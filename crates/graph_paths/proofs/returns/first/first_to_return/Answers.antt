use Rattle.std.proofs.Common.{◌≡◌, ◌<◌, ◌+◌, arith, inl, inr, refl, subst, ℕ, [], length, take}
use Rattle.std.proofs.lemmas.Bool.{cases_eq}
use Rattle.std.proofs.lemmas.List.{take_all}
use Rattle.graph_paths.specs.Returns.{NoneReturns}
use Rattle.graph_paths.proofs.Firsts.{none_of_none}
use Rattle.graph_paths.proofs.returns.first.first_to_return.Goals as goal

pub loop-low-init : goal.loop-low-init
loop-low-init c =
    let edges = c.args.edges.now in
    let some : 0 < length edges = elim (cases_eq (length edges) 0) [ inl none ↦ absurd (c.requires.returns (none_of_none edges none)) | inr other ↦ omega (arith, other) ] in
    record {
      low = some;
      high = omega arith;
      none = none_of_none [] refl;
      returns = λ none. c.requires.returns (subst NoneReturns (take_all (length edges) edges (omega arith)) none);
    }

pub returns-clause-first : goal.returns-clause-first
returns-clause-first c =
    let edges = c.args.edges.now in
    let next : c.loop-low.low + 1 ≡ c.loop-low.high = (let ge = c.loop-low-test.false in omega (arith, ge, c.loop-low.invariant.low)) in
    (c.loop-low.invariant.none, λ none. c.loop-low.invariant.returns (subst (λ (k : ℕ). NoneReturns (take k edges)) next none))
