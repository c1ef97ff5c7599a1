use Rattle.std.proofs.Common.{subst}
use Rattle.record_faults.specs.Sayings.{texts_of}
use Rattle.record_faults.specs.Faults.{IsAnswer, IsSilent, IsRepetition, IsOverlap, IsUnused, IsCrowd, IsBeyondStock}
use Rattle.record_faults.proofs.Gathering.{more, more_of_two, by_property, told_is}
use Rattle.record_faults.proofs.Once.{begun, told_next, told_by, silent_turn, repetition_turn, overlap_turn, undefined_turn, unused_turn, crowd_turn, beyond_turn}
use Rattle.record_faults.proofs.gather.tell_place.Goals as goal

pub returns-clause-told : goal.returns-clause-told
returns-clause-told c = λ f.
    let texts = texts_of c.args.records.now in
    let said = c.args.reading.now.said.items in
    let place = c.args.place in
    let same = c.as_slice-said.ensures.value in
    let silence = subst (λ z. IsAnswer (IsSilent texts z place) c.silence.result) same c.silence.ensures in
    let repetition = subst (λ z. IsAnswer (IsRepetition z place) c.repetition.result) same c.repetition.ensures in
    let overlap = subst (λ z. IsAnswer (IsOverlap z place) c.overlapping.result) same c.overlapping.ensures in
    let unused = subst (λ z. IsAnswer (IsUnused z place) c.unused.result) same c.unused.ensures in
    let crowd = subst (λ z. IsAnswer (IsCrowd z place) c.crowd.result) same c.crowd.ensures in
    let beyond = subst (λ z. IsAnswer (IsBeyondStock z place) c.beyond_stock.result) same c.beyond_stock.ensures in
    more
    (by_property (c.in_ok-tell.ensures.told f) (told_is (IsSilent texts said place) c.silence.result silence f.fault))
    (more
    (by_property (c.in_ok-tell-2.ensures.told f) (told_is (IsRepetition said place) c.repetition.result repetition f.fault))
    (more
    (by_property (c.in_ok-tell-3.ensures.told f) (told_is (IsOverlap said place) c.overlapping.result overlap f.fault))
    (more_of_two
    (c.in_ok-tell_undefined.ensures.told f)
    (more
    (by_property (c.in_ok-tell-4.ensures.told f) (told_is (IsUnused said place) c.unused.result unused f.fault))
    (more
    (by_property (c.in_ok-tell-5.ensures.told f) (told_is (IsCrowd said place) c.crowd.result crowd f.fault))
    (by_property (c.in_ok-tell-6.ensures.told f) (told_is (IsBeyondStock said place) c.beyond_stock.result beyond f.fault)))))))

pub returns-clause-once : goal.returns-clause-once
returns-clause-once c = λ none once.
    let texts = texts_of c.args.records.now in
    let said = c.args.reading.now.said.items in
    let place = c.args.place in
    let same = c.as_slice-said.ensures.value in
    let silence = subst (λ z. IsAnswer (IsSilent texts z place) c.silence.result) same c.silence.ensures in
    let repetition = subst (λ z. IsAnswer (IsRepetition z place) c.repetition.result) same c.repetition.ensures in
    let overlap = subst (λ z. IsAnswer (IsOverlap z place) c.overlapping.result) same c.overlapping.ensures in
    let unused = subst (λ z. IsAnswer (IsUnused z place) c.unused.result) same c.unused.ensures in
    let crowd = subst (λ z. IsAnswer (IsCrowd z place) c.crowd.result) same c.crowd.ensures in
    let beyond = subst (λ z. IsAnswer (IsBeyondStock z place) c.beyond_stock.result) same c.beyond_stock.ensures in
    let to_silence = told_next place 0 (IsSilent texts said place) c.silence.result silence (silent_turn texts said place) c.in_ok-tell.ensures.told c.in_ok-tell.ensures.once (begun place c.args.faults.now.items none once) in
    let to_repetition = told_next place 1 (IsRepetition said place) c.repetition.result repetition (repetition_turn said place) c.in_ok-tell-2.ensures.told c.in_ok-tell-2.ensures.once to_silence in
    let to_overlap = told_next place 2 (IsOverlap said place) c.overlapping.result overlap (overlap_turn said place) c.in_ok-tell-3.ensures.told c.in_ok-tell-3.ensures.once to_repetition in
    let to_undefined = told_by place 3 _ (undefined_turn said place) c.in_ok-tell_undefined.ensures.told c.in_ok-tell_undefined.ensures.once to_overlap in
    let to_unused = told_next place 4 (IsUnused said place) c.unused.result unused (unused_turn said place) c.in_ok-tell-4.ensures.told c.in_ok-tell-4.ensures.once to_undefined in
    let to_crowd = told_next place 5 (IsCrowd said place) c.crowd.result crowd (crowd_turn said place) c.in_ok-tell-5.ensures.told c.in_ok-tell-5.ensures.once to_unused in
    let to_beyond = told_next place 6 (IsBeyondStock said place) c.beyond_stock.result beyond (beyond_turn said place) c.in_ok-tell-6.ensures.told c.in_ok-tell-6.ensures.once to_crowd in
    to_beyond.once
