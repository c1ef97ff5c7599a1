use Rattle.std.proofs.Common.{◌≡◌, sym, ap, subst, ◌∙◌, [], List}
use Rattle.plan_basics.specs.declared.keys.OpKey.{OpKey}
use Rattle.plan_checks.specs.plan_changes.specs.Markings.{DifferInMarks, WereMarked}
use Rattle.plan_model.specs.Contents.{Contents}
use Rattle.plan_model.specs.Valid.{IsSound}
use Rattle.plan_model.specs.declared.moves.Marking.{Marking}
use Rattle.small_requests.proofs.Written.{with_facilities_sound}
use Rattle.small_requests.proofs.writing.without_edit.Goals as goal
use Rattle.small_requests.specs.Edits.{WasWritten}
use Rattle.small_requests.specs.declared.edits.Edit.{Edit}
use Rattle.small_requests.specs.declared.revisions.Revision.{Revision}
use Rattle.small_requests.specs.Revisions.{HasPlaceFor, with_facilities, written}

-- what differs from what was written, in the markings that were noted
differ_so : (Q : Contents) (ks : List OpKey) (P : Contents) (e : Edit) (old : Revision) → ks ≡ e.keys.items → WasWritten P Q e old → DifferInMarks (with_facilities e.revision P) Q ks
differ_so Q ks P e old ks_are was =
    let R = with_facilities e.revision P in
    subst (DifferInMarks R Q) (sym ks_are) (subst (λ (S : Contents). DifferInMarks R S e.keys.items) (sym was.after) was.edit.remarks)

were_so : (ks : List OpKey) (ms : List Marking) (P : Contents) (e : Edit) → ks ≡ e.keys.items → ms ≡ e.marks.items → WereMarked P e.keys.items e.marks.items → WereMarked (with_facilities e.revision P) ks ms
were_so ks ms P e ks_are ms_are were =
    let R = with_facilities e.revision P in
    subst (λ os. WereMarked R os ms) (sym ks_are) (subst (WereMarked R e.keys.items) (sym ms_are) were)

pub put_markings-requires : goal.put_markings-requires
put_markings-requires c =
    let e = c.args.edit.now in
    let P = c.requires.0 in
    let was = c.requires.1 in (
      with_facilities e.revision P,
      with_facilities_sound e.revision e.keys.items P was.edit.sound was.edit.sound_after,
      differ_so c.args.records.contents c.deref.result.now P e c.args.old c.deref.ensures.value was,
      were_so c.deref.result.now c.deref-2.result.now P e c.deref.ensures.value c.deref-2.ensures.value was.edit.marked,
    )

-- with the markings put back, operations are as they were
operations_back : (Q new : Contents) (ks : List OpKey) (ms : List Marking) → ((P : Contents) → DifferInMarks P Q ks → WereMarked P ks ms → new ≡ P) → (P : Contents) (e : Edit) (old : Revision)
    → ks ≡ e.keys.items → ms ≡ e.marks.items → WasWritten P Q e old → new ≡ with_facilities e.revision P
operations_back Q new ks ms puts P e old ks_are ms_are was = puts (with_facilities e.revision P) (differ_so Q ks P e old ks_are was) (were_so ks ms P e ks_are ms_are was.edit.marked)

pub with_revision-requires-clause-has_place : goal.with_revision-requires-clause-has_place
with_revision-requires-clause-has_place c =
    let e = c.args.edit.now in
    let was = c.requires.1 in
    let back = operations_back c.args.records.contents c.put_markings.result.contents c.deref.result.now c.deref-2.result.now c.put_markings.ensures.contents c.requires.0 e c.args.old c.deref.ensures.value c.deref-2.ensures.value was in
    subst (λ (R : Contents). HasPlaceFor R c.args.old) (sym back) was.puts_back.has_place

pub with_revision-requires-clause-sound : goal.with_revision-requires-clause-sound
with_revision-requires-clause-sound c =
    let e = c.args.edit.now in
    let was = c.requires.1 in
    let back = operations_back c.args.records.contents c.put_markings.result.contents c.deref.result.now c.deref-2.result.now c.put_markings.ensures.contents c.requires.0 e c.args.old c.deref.ensures.value c.deref-2.ensures.value was in
    subst IsSound (sym (ap (written [] c.args.old) back ∙ was.puts_back.back)) was.edit.sound

pub returns-clause-contents : goal.returns-clause-contents
returns-clause-contents c P was =
    let e = c.args.edit.now in
    let back = operations_back c.args.records.contents c.put_markings.result.contents c.deref.result.now c.deref-2.result.now c.put_markings.ensures.contents P e c.args.old c.deref.ensures.value c.deref-2.ensures.value was in
    c.with_revision.ensures.contents ∙ ap (written [] c.args.old) back ∙ was.puts_back.back
