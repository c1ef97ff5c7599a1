-- What standings are worked out from: pairs that are added one after another.
use Rattle.std.specs.Prelude.{List, ◌∷◌}
use Rattle.std.specs.FinSet.{from_list}
use Rattle.plan_basics.specs.declared.keys.OpKey.{OpKey}
use Rattle.plan_model.specs.Contents.{Contents, IsPairOf}
use Rattle.plan_status.specs.Standings.{IsStanding}
use Rattle.plan_status.specs.declared.standings.Standing.{Standing}

-- the plan with these pairs alone
abbrev pub with_pairs : List (OpKey × OpKey) → Contents → Contents
with_pairs pairs P = record P { pairs = from_list pairs }

-- a pair that comes after these: none of them, and neither it nor any of them leads away from where it leads
pub record ComesAfter (pairs : List (OpKey × OpKey)) (pair : OpKey × OpKey) : Type 0 where
  pub is_new : ¬ IsPairOf (from_list pairs) pair.0 pair.1
  pub leads_on : (o : OpKey) → ¬ IsPairOf (from_list (pair ∷ pairs)) pair.1 o

-- where these are the standings of the pair's ends before it is added, `next` is its successor's after that
abbrev pub IsNextStanding : Contents → List (OpKey × OpKey) → OpKey × OpKey → Standing → Standing → Standing → Type 0
IsNextStanding P pairs pair predecessors successors next =
    ComesAfter pairs pair → IsStanding (with_pairs pairs P) pair.0 predecessors → IsStanding (with_pairs pairs P) pair.1 successors
    → IsStanding (with_pairs (pair ∷ pairs) P) pair.1 next
