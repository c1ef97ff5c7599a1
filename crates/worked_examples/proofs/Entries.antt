-- Entries of a ready list: an operation has one at most, and the list where one alone is ready.
use Rattle.std.proofs.Common.{◌≡◌, inl, inr, sym, ◌∙◌, ap, subst, [], ◌∷◌, Some}
use Rattle.std.specs.List.Sorted.{IsStrictlySortedBy}
use Rattle.std.specs.FinMap.{get}
use Rattle.plan_basics.specs.declared.keys.OpKey.{OpKey}
use Rattle.ready_list.specs.declared.ReadyKey.{ReadyKey}
use Rattle.plan_model.specs.Contents.{Contents, Operation}
use Rattle.plan_model.specs.Ready.{IsEntry, IsReadyList}
use Rattle.plan_model.specs.Starts.{IsLatestStart}
use Rattle.plan_model.specs.Status.{IsReady}
use Rattle.std.proofs.lemmas.Option.{same_Some}
use Rattle.worked_examples.proofs.Facts.{one_latest}
use Rattle.worked_examples.proofs.Lists.{contained, one_of}

pub same_entry : (P : Contents) (k l : ReadyKey) → IsEntry P k → IsEntry P l → k.op ≡ l.op → k ≡ l
same_entry P k l x y e =
    let late : k.latest ≡ l.latest = one_latest l.op k.latest l.latest (subst (λ o. IsLatestStart P o k.latest) e x.1) y.1 in
    let op : x.2.0 ≡ y.2.0 = same_Some x.2.0 y.2.0 (sym x.2.1 ∙ ap (get P.operations) e ∙ y.2.1) in
    let long : k.duration ≡ l.duration = x.2.2 ∙ ap (λ z. z.duration) op ∙ sym y.2.2 in
    let occurrence : x.3.0 ≡ y.3.0 = same_Some x.3.0 y.3.0 (sym x.3.1 ∙ ap (λ o. get P.occurrences o.occurrence) e ∙ y.3.1) in
    let urgent : k.priority ≡ l.priority = x.3.2 ∙ ap (λ z. z.priority) occurrence ∙ sym y.3.2 in
    λ i. record { latest = late i; priority = urgent i; duration = long i; op = e i }

-- one operation is ready, and no other
pub one_ready : (P : Contents) (k : ReadyKey) → IsEntry P k → ((o : OpKey) (op : Operation) → get P.operations o ≡ Some op → IsReady P o → o ≡ k.op) → IsReadyList P (k ∷ [])
unfolding IsStrictlySortedBy
one_ready P k is only = record {
  ascends = (tt, tt);
  has_all = λ l. (
    λ has. elim (one_of (k ∷ []) l has) [ inl e ↦ subst (IsEntry P) (sym e) is | inr never ↦ absurd never ],
    λ entry. contained (k ∷ []) l (inl (same_entry P l k entry is (only l.op entry.2.0 entry.2.1 entry.0))),
  );
}
