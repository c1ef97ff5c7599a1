use Rattle.std.proofs.Common.{refl, subst, List, ℕ, ◌++◌}
use Rattle.std.specs.Io.KnownBytes.{Appends}
use Rattle.std.proofs.KnownBytes.{Appends-trans}
use Rattle.plan_basics.specs.Watched.{inner_of}
use Rattle.request_commands.specs.Replays.{place_line}
use Rattle.request_commands.proofs.replaying.tell_parting.Goals as goal

pub returns-clause-shown : goal.returns-clause-shown
returns-clause-shown g c x is =
    let old = g.W.Write.contents (inner_of c.args.out.now) in
    let between = g.W.Write.contents (inner_of c.tell_place.new.out) in
    let new = g.W.Write.contents (inner_of c.write_all.new.self) in
    let both = Appends-trans old between new (place_line c.args.number) c.args.told.now c.in_ok-tell_place.ensures.shown c.in_ok-write_all.ensures.bytes in
    (subst (λ (t : List ℕ). Appends old new (place_line c.args.number ++ t)) is both, refl)
