use Rattle.std.proofs.Common.{◌≡◌, sym, subst, ◌∙◌, true≢false, get_or}
use Rattle.record_faults.specs.declared.names.Naming.TheVariants.{First, Second}
use Rattle.record_faults.specs.Faults.{IsAnswer, IsUndefined}
use Rattle.record_faults.proofs.Gathering.{at_read, more, by_property, told_is}
use Rattle.record_faults.proofs.Once.{itself_told, first_once, both_once}
use Rattle.record_faults.proofs.gather.tell_undefined.Goals as goal

pub returns-then-is_to_itself-clause-told : goal.returns-then-is_to_itself-clause-told
returns-then-is_to_itself-clause-told c = λ f.
    let said = c.args.reading.now.said.items in
    let place = c.args.place in
    let o = c.index-said-place.result in
    let at = at_read said place o o c.requires.place (subst (λ z. get_or z place o ≡ o) c.as_slice-said.ensures.value (sym c.index-said-place.is)) in
    let first = subst (λ z. IsAnswer (IsUndefined First z place) c.undefined.result) c.as_slice-said.ensures.value c.undefined.ensures in
    itself_told said place o at f.fault (c.is_to_itself.ensures.0 c.if-is_to_itself.true) (by_property (c.in_ok-tell.ensures.told f) (told_is (IsUndefined First said place) c.undefined.result first f.fault))

pub returns-then-is_to_itself-clause-once : goal.returns-then-is_to_itself-clause-once
returns-then-is_to_itself-clause-once c =
    let said = c.args.reading.now.said.items in
    let place = c.args.place in
    let o = c.index-said-place.result in
    let at = at_read said place o o c.requires.place (subst (λ z. get_or z place o ≡ o) c.as_slice-said.ensures.value (sym c.index-said-place.is)) in
    let first = subst (λ z. IsAnswer (IsUndefined First z place) c.undefined.result) c.as_slice-said.ensures.value c.undefined.ensures in
    first_once said place o at c.undefined.result first c.args.faults.now.items c.tell.new.faults.items c.in_ok-tell.ensures.once

pub returns-clause-told : goal.returns-clause-told
returns-clause-told c = λ f.
    let said = c.args.reading.now.said.items in
    let place = c.args.place in
    let first = subst (λ z. IsAnswer (IsUndefined First z place) c.undefined.result) c.as_slice-said.ensures.value c.undefined.ensures in
    let second = subst (λ z. IsAnswer (IsUndefined Second z place) c.undefined-2.result) c.as_slice-said.ensures.value c.undefined-2.ensures in
    more (by_property (c.in_ok-tell.ensures.told f) (told_is (IsUndefined First said place) c.undefined.result first f.fault)) (by_property (c.in_ok-tell-2.ensures.told f) (told_is (IsUndefined Second said place) c.undefined-2.result second f.fault))

pub returns-clause-once : goal.returns-clause-once
returns-clause-once c =
    let said = c.args.reading.now.said.items in
    let place = c.args.place in
    let o = c.index-said-place.result in
    let at = at_read said place o o c.requires.place (subst (λ z. get_or z place o ≡ o) c.as_slice-said.ensures.value (sym c.index-said-place.is)) in
    let first = subst (λ z. IsAnswer (IsUndefined First z place) c.undefined.result) c.as_slice-said.ensures.value c.undefined.ensures in
    let second = subst (λ z. IsAnswer (IsUndefined Second z place) c.undefined-2.result) c.as_slice-said.ensures.value c.undefined-2.ensures in
    both_once said place o at c.undefined.result first c.args.faults.now.items c.tell.new.faults.items c.in_ok-tell.ensures.once c.in_ok-tell.ensures.told (λ itself. true≢false (sym (c.is_to_itself.ensures.1 itself) ∙ c.if-is_to_itself.false)) c.undefined-2.result second
    c.tell-2.new.faults.items c.in_ok-tell-2.ensures.once
