use Rattle.std.proofs.Common.{◌≡◌, ◌∙◌, ap, sym, slice_get, is_some, Some}
use Rattle.std.proofs.lemmas.Option.{same_Some, slice_get-get_or, slice_get_within}
use Rattle.plan_basics.specs.declared.keys.OpKey.{OpKey}
use Rattle.plan_drafts.specs.declared.RowKey.TheVariants as key
use Rattle.record_faults.specs.Sayings.{place_in}
use Rattle.extension_faults.proofs.SaidPairs.{closing_said, says_at}
use Rattle.extension_faults.proofs.circles.record_of.Goals as goal

pub unwrap-requires : goal.unwrap-requires
unwrap-requires c =
    let pairs = c.args.pairs.now in
    let place = c.args.place in
    let pair = c.index-pairs-place.result in
    let closes = c.requires.returns in
    let beside = c.requires.pairs in
    let within = slice_get_within pairs place (closes.1.0, closes.1.1) closes.1.2 in
    let at : slice_get pairs place ≡ Some pair = slice_get-get_or pairs place pair within ∙ ap Some (sym c.index-pairs-place.is) in
    ap is_some c.first_place.ensures ∙ closing_said c.args.plan.now.plan.contents beside.0 pairs beside.2 c.read_for_proof.ensures.valid.acyclic c.args.index.now beside.1 place closes.0 closes.1 pair.0 pair.1 at

pub returns : goal.returns
returns c = λ said is p s here.
    let pairs = c.args.pairs.now in
    let place = c.args.place in
    let pair = c.index-pairs-place.result in
    let within = slice_get_within pairs place (p, s) here in
    let at : slice_get pairs place ≡ Some pair = slice_get-get_or pairs place pair within ∙ ap Some (sym c.index-pairs-place.is) in
    let same : ◌≡◌ {A = OpKey × OpKey} (p, s) pair = same_Some (p, s) pair (sym here ∙ at) in
    says_at said c.args.index.now is p s c.unwrap.result (ap (λ (x : OpKey × OpKey). place_in c.args.index.now (key.Dependency x.0 x.1)) same ∙ sym c.first_place.ensures ∙ c.unwrap.ensures)
