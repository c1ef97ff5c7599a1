-- Pairs between operations that are there, and what is answered of them.
use Rattle.std.proofs.Common.{◌≡◌, ◌↔◌, refl, true≢false, IsTrue, Option, is_some, sym, subst, true, List, Contains, Some, None}
use Rattle.std.specs.Prelude.{MatchOption}
use Rattle.std.specs.FinMap.{contains_key, entries, keys}
use Rattle.std.specs.FinSet as set
use Rattle.plan_basics.specs.declared.keys.OpKey.{OpKey}
use Rattle.plan_basics.specs.Keys.{operation_cmp, operation_cmp_total, operation_cmp-IsAntisymmetric}
use Rattle.plan_model.specs.Contents.{Contents, IsPairOf}
use Rattle.plan_model.proofs.Entries.{entries_are}
use Rattle.plan_drafts.specs.PlanGraphs.{AreAmong, JoinOperations}
use Rattle.plan_drafts.proofs.Lists.{all_by_members}
use Rattle.plan_drafts.proofs.Pairs.{pair_cmp_total, pair_cmp-IsAntisymmetric}
use Rattle.plan_drafts.proofs.Tables.{in_set, key_found}

-- what is answered only where P is so shows whether it is
pub told_by : {G : Type 0} (P : Type 0) (Q : G → Type 0) (found : Option G) → MatchOption found (¬ P) (λ g. Q g × P) → IsTrue (is_some found) ↔ P
told_by P Q None h = (λ e. absurd (true≢false (sym e)), λ p. absurd (h p))
told_by P Q (Some g) h = (λ _. h.1, λ _. refl)

-- so it is where one of two premises is known
pub known_so : {G : Type 0} (A B : Type 0) (Q : G → Type 0) → A → (found : Option G) → MatchOption found (¬ (A × B)) (λ g. Q g × A × B) → MatchOption found (¬ B) (λ g. Q g × B)
known_so A B Q a None none = λ b. none (a, b)
known_so A B Q a (Some g) is = (is.0, is.2)

abbrev Pair : Type 0
Pair = OpKey × OpKey

-- the ends of pairs between operations that are there are among their keys
pub ends_known :
    (P : Contents) (ks : List OpKey) (pairs : List Pair) → ks ≡ keys P.operations → set.from_list pairs ≡ P.pairs → JoinOperations P.operations P.pairs → AreAmong ks pairs
ends_known P ks pairs listed paired join = all_by_members (λ (p : Pair). Contains ks p.0 × Contains ks p.1) pairs (λ p has.
    let both = join p.0 p.1 (subst (λ s. IsPairOf s p.0 p.1) paired (in_set pair_cmp_total pair_cmp-IsAntisymmetric pairs p has)) in
    (known p.0 both.0, known p.1 both.1))
  where
    known : (o : OpKey) → contains_key P.operations o ≡ true → Contains ks o
    known o e =
        subst (λ ls. Contains ls o) (sym listed) (key_found operation_cmp_total operation_cmp-IsAntisymmetric (entries P.operations) o
        (subst (λ m. contains_key m o ≡ true) (sym (entries_are operation_cmp operation_cmp_total operation_cmp-IsAntisymmetric P.operations)) e))
