use Rattle.std.proofs.Common.{◌≡◌, List, ℕ, [], ◌∷◌, ◌++◌, FitsSigned, append_assoc, arith, subst, to_z-of_z, w64}
use Rattle.std.specs.Prelude.{decimal}
use Rattle.std.specs.Io.KnownBytes.{Appends}
use Rattle.std.proofs.KnownBytes.{Appends-trans}
use Rattle.std.proofs.lemmas.Grind.{common_steps}
use Rattle.plan_basics.specs.Watched.{inner_of}
use Rattle.request_commands.specs.Turns.{turn_head}
use Rattle.request_commands.proofs.playing.tell_head.Goals as goal

-- what is written piece by piece is the line
head_text : (n : ℕ) (moment : List ℕ) → ((decimal n ++ 32 ∷ []) ++ moment) ++ 10 ∷ [] ≡ turn_head n moment
head_text n moment = grind (arith, common_steps, append_assoc {A = ℕ})

pub returns-clause-shown : goal.returns-clause-shown
returns-clause-shown g c =
    let fits : FitsSigned w64 c.args.at = c.ranges.at in
    let moment : List ℕ = c.minute_text.result in
    let old = g.W.Write.contents (inner_of c.args.out.now) in
    let numbered = g.W.Write.contents (inner_of c.write.new.self) in
    let timed = g.W.Write.contents (inner_of c.write_all.new.self) in
    let new = g.W.Write.contents (inner_of c.write_all-2.new.self) in
    let both = Appends-trans old numbered timed (decimal c.args.number ++ 32 ∷ []) moment c.in_ok-write.ensures.bytes c.in_ok-write_all.ensures.bytes in
    let all = Appends-trans old timed new ((decimal c.args.number ++ 32 ∷ []) ++ moment) (10 ∷ []) both c.in_ok-write_all-2.ensures.bytes in
    let whole : Appends old new (turn_head c.args.number moment) = subst (λ t. Appends old new t) (head_text c.args.number moment) all in
    (moment, simp to_z-of_z at c.minute_text.ensures, whole)
