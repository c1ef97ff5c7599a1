-- Two plans in which an operation has the same live predecessors, as they stand: its standing is the same.
use Rattle.std.proofs.Common.{◌≡◌, ◌↔◌, sym, ◌∙◌, subst, Bool, ℕ, Decides, Some}
use Rattle.std.specs.FinMap.{get}
use Rattle.plan_basics.specs.declared.Attr.{Attr}
use Rattle.plan_basics.specs.declared.Attr.TheVariants.{Nonreporting}
use Rattle.plan_basics.specs.declared.keys.OpKey.{OpKey}
use Rattle.plan_model.specs.Contents.{Contents, Operation, Has, HasAttribute, LivePredecessor}
use Rattle.plan_model.specs.Status.{IsSatisfied}
use Rattle.plan_laws.specs.plan_records.specs.Rows.{IsCount}
use Rattle.std.proofs.lemmas.Option.{same_Some}
use Rattle.plan_status.specs.Standings.{IsStanding}
use Rattle.plan_status.specs.declared.standings.Standing.{Standing}

-- o is on a workstation that doesn't report
abbrev pub IsOnNonreporting : Contents → OpKey → Type 0
IsOnNonreporting P o = Has P o (λ op. HasAttribute P op.workstation Nonreporting)

-- by the attribute of its workstation
pub decides_on : (P : Contents) (o : OpKey) (op : Operation) (a : Attr) (b : Bool) → get P.operations o ≡ Some op → HasAttribute P op.workstation a
    → Decides b (a ≡ Nonreporting) → Decides b (IsOnNonreporting P o)
decides_on P o op a b is on d = (
  λ e. (op, is, subst (HasAttribute P op.workstation) (d.0 e) on),
  λ h. d.1 (same_Some a Nonreporting (sym on ∙ subst (λ x. HasAttribute P x.workstation Nonreporting) (same_Some h.0 op (sym h.1 ∙ is)) h.2)),
)

pub decides_alike : {A B : Type 0} {b : Bool} → (A → B) → (B → A) → Decides b A → Decides b B
decides_alike f g d = (λ e. f (d.0 e), λ y. d.1 (g y))

pub count_alike : {S T : OpKey → Type 0} {n : ℕ} → ((o : OpKey) → S o → T o) → ((o : OpKey) → T o → S o) → IsCount S n → IsCount T n
count_alike f g c = (c.0, c.1, λ o. (λ has. f o ((c.2 o).0 has), λ t. (c.2 o).1 (g o t)), c.3)

module _ (P Q : Contents) (o : OpKey)
    (live : (p : OpKey) → LivePredecessor P p o ↔ LivePredecessor Q p o)
    (satisfied : (p : OpKey) → LivePredecessor P p o → IsSatisfied P p ↔ IsSatisfied Q p)
    (nonreporting : (p : OpKey) → LivePredecessor P p o → IsOnNonreporting P p ↔ IsOnNonreporting Q p) where
  pub standing_alike : (s : Standing) → IsStanding P o s → IsStanding Q o s
  standing_alike s is = record {
    preds = record {
      live = decides_alike (λ h. (h.0, (live h.0).0 h.1)) (λ h. (h.0, (live h.0).1 h.1)) is.preds.live;
      satisfied = decides_alike
          (λ all p h. let old = (live p).1 h in (satisfied p old).0 (all p old))
          (λ all p old. (satisfied p old).1 (all p ((live p).0 old)))
          is.preds.satisfied;
      nonreporting = decides_alike
          (λ h. (h.0, (live h.0).0 h.1, (nonreporting h.0 h.1).0 h.2))
          (λ h. let old = (live h.0).1 h.1 in (h.0, old, (nonreporting h.0 old).1 h.2))
          is.preds.nonreporting;
    };
    waiting = count_alike
        (λ p h. ((live p).0 h.0, λ s'. h.1 ((satisfied p h.0).1 s')))
        (λ p h. let old = (live p).1 h.0 in (old, λ s'. h.1 ((satisfied p old).0 s')))
        is.waiting;
  }
