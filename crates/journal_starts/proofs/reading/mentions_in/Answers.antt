use Rattle.std.proofs.Common.{rules, subst, sym}
use Rattle.journal_starts.proofs.Mentioned.{SoFarMentioned, mentioned_all, mentioned_next}
use Rattle.journal_starts.proofs.reading.mentions_in.Goals as goal

pub loop-line-preserved : goal.loop-line-preserved
loop-line-preserved c =
    let next = mentioned_next c.args.clock c.args.journal.now c.loop-line.asked c.loop-line.rest.now c.loop-line.mentions.items c.loop-line.invariant
    c.in-Some.line.now c.in-Some.after.now c.read_line.new.asked c.in_ok-mention.mention c.in-Some.ensures.first c.in_ok-mention.ensures in
    subst (SoFarMentioned c.args.clock c.args.journal.now c.read_line.new.asked c.in-Some.after.now) (sym c.in_ok-add.ensures) next

pub returns : goal.returns
returns c = mentioned_all c.args.clock c.args.journal.now c.loop-line.asked c.loop-line.rest.now c.loop-line.mentions.items c.loop-line.invariant (search rules)
