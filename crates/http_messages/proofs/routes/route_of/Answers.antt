use Rattle.std.proofs.Common.{rules}
use Rattle.http_messages.proofs.RoutesFound.{no_route}
use Rattle.http_messages.proofs.routes.route_of.Goals as goal

pub returns : goal.returns
returns c = no_route c.args.path.now (search rules) (search rules) (search rules) (search rules)
