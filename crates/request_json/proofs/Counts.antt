-- How many members there are beside others.
use Rattle.std.proofs.Common.{◌≡◌, ℕ, ◌+◌, ◌-◌, ◌≤◌, Option, Some, None, option_map, sym, ap, ◌∙◌, arith}
use Rattle.std.specs.Option.{SomeIff}
use Rattle.plan_items.specs.Parts.{IsReading}
use Rattle.serde_json.specs.Data.{Data, Members}
use Rattle.serde_json.specs.Events.{members_len}
use Rattle.serde_json.specs.Find.{as_object}
use Rattle.request_json.specs.Counted.{HasBeside}

pub beside : (d : Data) (ms : Members) (others n : ℕ) (r : Option ℕ) → Some ms ≡ as_object d → n ≡ members_len ms → SomeIff r (others ≤ n) (n - others) → IsReading (HasBeside d others) r
beside d ms others n None is size fewer =
    λ x h.
    let all : Some n ≡ Some (x + others) = ap Some size ∙ (ap (option_map members_len) is ∙ h) in
    let sum : n ≡ x + others = cc all in
    fewer (omega (arith, sum))
beside d ms others n (Some x) is size more =
    let sum : n ≡ x + others = omega (arith, more.0, more.1) in
    sym (ap (option_map members_len) is) ∙ ap Some (sym size ∙ sum)
