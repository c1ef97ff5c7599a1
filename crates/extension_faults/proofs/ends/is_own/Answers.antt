use Rattle.text_faults.proofs.ComingIn.{own_told}
use Rattle.extension_faults.proofs.ends.is_own.Goals as goal

pub returns : goal.returns
returns c = λ said is. rw (c.is_some.ensures, c.first_place.ensures) (own_told said c.args.index.now is c.args.key.now)
