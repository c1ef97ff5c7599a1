-- What is found in a plan in which operations are made anew.
use Rattle.std.proofs.Common.{◌≡◌, Bool, cond, option_map}
use Rattle.std.specs.FinMap.{get}
use Rattle.plan_basics.specs.Keys.{operation_cmp-IsAntisymmetric}
use Rattle.plan_basics.specs.declared.keys.OpKey.{OpKey}
use Rattle.plan_records.specs.plan_model.specs.Contents.{Contents, Operation}
use Rattle.plan_records.specs.plan_model.specs.Revise.{get-revise}
use Rattle.plan_records.specs.Changes.{revised}

pub get-revised : (test : OpKey → Bool) (f : Operation → Operation) (P : Contents) (o : OpKey) → get (revised test f P).operations o ≡ option_map (λ op. cond (test o) (f op) op) (get P.operations o)
get-revised test f P o = get-revise operation_cmp-IsAntisymmetric _ P.operations o
