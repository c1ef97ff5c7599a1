use Rattle.std.proofs.Common.{◌≡◌, ◌++◌, length, arith, ap, sym, ◌∙◌}
use Rattle.std.proofs.lemmas.List.{length-append}
use Rattle.std.proofs.lemmas.Bool.Decides.{Decides-eqb}
use Rattle.std.proofs.lemmas.Slice.Eq.{strip_prefix_is}
use Rattle.http_messages.proofs.bytes.rest_after.Goals as goal

pub returns-in-None : goal.returns-in-None
returns-in-None c =
    let told = rw c.in-None.is at (strip_prefix_is Decides-eqb c.args.path.now c.args.before.now c.strip_prefix.result c.strip_prefix.ensures.cases) in
    λ rest some e. told rest e

pub returns-then-is_empty : goal.returns-then-is_empty
returns-then-is_empty c =
    let told : c.args.path.now ≡ c.args.before.now ++ c.in-Some.rest.now = rw c.in-Some.is at (strip_prefix_is Decides-eqb c.args.path.now c.args.before.now c.strip_prefix.result c.strip_prefix.ensures.cases) in
    λ rest some e.
    let same : length (c.args.before.now ++ c.in-Some.rest.now) ≡ length (c.args.before.now ++ rest) = ap length (sym told ∙ e) in
    grind (arith, some, same, length-append c.args.before.now c.in-Some.rest.now, length-append c.args.before.now rest)

pub returns : goal.returns
returns c =
    let told : c.args.path.now ≡ c.args.before.now ++ c.in-Some.rest.now = rw c.in-Some.is at (strip_prefix_is Decides-eqb c.args.path.now c.args.before.now c.strip_prefix.result c.strip_prefix.ensures.cases) in
    (grind arith, told)
