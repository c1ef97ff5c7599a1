use Rattle.std.proofs.Common.{◌≡◌, rules}
use Rattle.tracker_http.specs.Journalled.{told_line}
use Rattle.request_commands.proofs.replaying.compare_told.Goals as goal

pub returns-clause-compared : goal.returns-clause-compared
returns-clause-compared g c =
    let is : c.deref.result.now ≡ told_line c.args.told.now = search rules in
    c.compare.ensures.compared c.args.told.now is
