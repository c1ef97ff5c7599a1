use Rattle.std.proofs.Common.{◌∙◌, ◌++◌, ap, arith, length, subst}
use Rattle.record_faults.specs.Sayings.{Sayings}
use Rattle.extension_faults.specs.Limits.{AreExcesses}
use Rattle.extension_faults.proofs.ToldPaths.{both_told}
use Rattle.extension_faults.proofs.whole.faults_in.Goals as goal

pub limits_told-requires : goal.limits_told-requires
limits_told-requires c =
    let long = ap (λ (s : Sayings). length s) c.deref.ensures.value in
    omega (arith, long, c.in_ok-said.said.ok.0, c.in_ok-said.said.ok.1, c.in_ok-said.said.small)

pub returns : goal.returns
returns c =
    let P = c.args.plan.now.plan.contents in
    let limits = c.in_ok-faults.faults.items in
    record {
      said = c.in_ok-said.said.items;
      are = c.in_ok-said.ensures;
      excesses = limits;
      are_excesses = subst (λ (s : Sayings). AreExcesses P s limits) c.deref.ensures.value c.in_ok-faults.ensures;
      exactly = λ f. both_told limits c.in_ok-told.told.items _ f (c.in_ok-extend_from_slice.ensures.items ∙ ap (λ xs. limits ++ xs) c.deref-2.ensures.value) (c.in_ok-told.ensures f);
    }
