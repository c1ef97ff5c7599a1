use Rattle.desk_journal.proofs.Told.{line_told}
use Rattle.desk_journal.proofs.lines.answer_line.Goals as goal

pub returns : goal.returns
returns c reply is =
    simp (c.in_ok-extend_from_slice-3.ensures.items, c.in_ok-extend_from_slice-2.ensures.items, c.in_ok-extend_from_slice.ensures.items, c.new-text.ensures.items, c.as_bytes.ensures.value, c.in_ok-end.ensures.ok, is)
    (line_told reply c.args.status)
