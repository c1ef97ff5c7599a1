use Rattle.std.proofs.Common.{◌∙◌, ◌+◌, sym, ap, subst, drop, is_some, length}
use Rattle.std.proofs.lemmas.List.{drop_all}
use Rattle.std.proofs.lemmas.Option.{slice_get_read}
use Rattle.std.specs.FinMap.{contains_key, get}
use Rattle.plan_records.specs.plan_model.specs.Contents.{Contents, IsInPlan}
use Rattle.plan_records.specs.plan_model.specs.Markings.{with_marking}
use Rattle.plan_records.specs.plan_drafts.proofs.Tables.{is_found}
use Rattle.plan_changes.specs.Markings.{DifferInMarks}
use Rattle.plan_changes.proofs.Remarks.{from_index, marked_at, one_put, same_plan, stays_known}
use Rattle.plan_changes.proofs.markings.put_markings.Goals as goal

pub loop-i-preserved : goal.loop-i-preserved
loop-i-preserved c =
    let k = c.index-keys-i.result in
    let m = c.index-marks-i.result in
    let i = c.loop-i.i in
    let keys = c.args.keys.now in
    let marks = c.args.marks.now in
    let before = c.loop-i.contents in
    let there = c.loop-i.invariant.known k ∙ ap is_some (subst (IsInPlan c.args.contents.now) (sym c.index-keys-i.is) (c.requires.known i k c.loop-i-test.true)).1 in
    let found = is_found (get before.operations k) there in
    let op = found.0 in
    let is = c.set_marking.ensures.there op found.1 in
    record {
      known = λ o. ap (λ (Q : Contents). contains_key Q.operations o) is
          ∙ stays_known before k o (with_marking m op) there
          ∙ c.loop-i.invariant.known o;
      left = λ P d were. subst (λ (Q : Contents). DifferInMarks P Q (drop (i + 1) keys)) (sym is)
          (one_put P before k (drop (i + 1) keys) op m
          (subst (DifferInMarks P before) (from_index keys i k c.loop-i-test.true c.index-keys-i.is) (c.loop-i.invariant.left P d were))
          found.1
          (marked_at P keys marks i k m were
          (slice_get_read keys (length keys) i k (λ _. length keys) c.loop-i-test.true c.index-keys-i.is)
          (slice_get_read marks (length keys) i m (sym c.requires.one_each) c.loop-i-test.true c.index-marks-i.is)));
    }

pub returns : goal.returns
returns c P d were = same_plan P c.loop-i.contents (subst (DifferInMarks P c.loop-i.contents) (drop_all c.loop-i.i c.args.keys.now c.loop-i-test.false) (c.loop-i.invariant.left P d were))
