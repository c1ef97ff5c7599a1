use Rattle.std.proofs.Common.{◌≡◌, ap, Some}
use Rattle.std.proofs.lemmas.Str.{is_utf8-from_IsUtf8}
use Rattle.desk_journal.proofs.TextsOf.{is_no_text}
use Rattle.desk_journal.proofs.lines.text_of.Goals as goal

pub returns-in-Ok : goal.returns-in-Ok
returns-in-Ok c =
    let read = rw c.in-Ok.is at c.from_utf8.ensures.cases in
    rw (is_utf8-from_IsUtf8 c.args.body.now read.1) (ap Some read.0)

pub returns-in-Err : goal.returns-in-Err
returns-in-Err c =
    let read = rw c.in-Err.is at c.from_utf8.ensures.cases in
    is_no_text c.args.body.now read.0
