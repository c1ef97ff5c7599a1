use Rattle.std.proofs.Common.{◌≡◌, rules, subst, sym, Err}
use Rattle.plan_basics.specs.Watched.{inner_of}
use Rattle.command_desks.specs.desk_tables.specs.Desk.{state_of, usability}
use Rattle.request_commands.specs.Turns.{IsPlayed}
use Rattle.request_commands.proofs.Played.{so_far_breaks_off, so_far_ends, so_far_goes_on}
use Rattle.request_commands.proofs.playing.play_lines.Goals as goal

pub returns-in_err-refuses : goal.returns-in_err-refuses
returns-in_err-refuses g c =
    let text = c.args.text.now in
    let s = state_of c.args.desk.now in
    let u = usability c.args.desk.now.is_usable in
    let old = g.W.Write.contents (inner_of c.args.out.now) in
    let new = g.W.Write.contents (inner_of c.play_line.new.out) in
    let is : c.from_residual.result ≡ Err c.in_err-refuses.field-0.0 = search rules in
    subst (λ r. IsPlayed text s u old new r) (sym is)
    (so_far_breaks_off text s u old (g.W.Write.contents (inner_of c.loop-line.out)) c.loop-line.number c.loop-line.rest.now (state_of c.loop-line.desk) (usability c.loop-line.desk.is_usable) c.loop-line.refused c.loop-line.invariant
    c.in-Some.line.now c.in-Some.after.now c.in_err-refuses.field-0.0 (state_of c.play_line.new.desk) (usability c.play_line.new.desk.is_usable) new
    c.in-Some.ensures.first c.in_err-refuses.ensures)

pub loop-line-preserved : goal.loop-line-preserved
loop-line-preserved g c =
    let played = c.in_ok-refuses.ensures in
    so_far_goes_on c.args.text.now (state_of c.args.desk.now) (usability c.args.desk.now.is_usable) (g.W.Write.contents (inner_of c.args.out.now))
    (g.W.Write.contents (inner_of c.loop-line.out)) c.loop-line.number c.loop-line.rest.now (state_of c.loop-line.desk) (usability c.loop-line.desk.is_usable) c.loop-line.refused c.loop-line.invariant
    c.in-Some.line.now c.in-Some.after.now played.0 c.in_ok-refuses.refuses (state_of c.play_line.new.desk) (usability c.play_line.new.desk.is_usable)
    (g.W.Write.contents (inner_of c.play_line.new.out)) c.in-Some.ensures.first played.1 played.2

pub returns : goal.returns
returns g c =
    so_far_ends c.args.text.now (state_of c.args.desk.now) (usability c.args.desk.now.is_usable) (g.W.Write.contents (inner_of c.args.out.now))
    (g.W.Write.contents (inner_of c.loop-line.out)) c.loop-line.number c.loop-line.rest.now (state_of c.loop-line.desk) (usability c.loop-line.desk.is_usable) c.loop-line.refused c.loop-line.invariant
    (search rules) c.ending_of_lines.result c.ending_of_lines.ensures
