-- A valid plan has a ready list, in which no operation is repeated.
use Rattle.std.proofs.Common.{◌≡◌, inl, inr, refl, sym, ◌∙◌, ap, subst, false, List, [], ◌∷◌, ◌++◌, Contains, Less}
use Rattle.std.specs.List.Sorted.{IsStrictlySortedBy}
use Rattle.std.proofs.lemmas.Bool.{or_from, false_from_ne_true}
use Rattle.std.specs.Ordering.{eq_by_cmp}
use Rattle.std.specs.FinMap.{get, keys}
use Rattle.plan_basics.specs.Keys.{operation_cmp, operation_cmp-IsAntisymmetric}
use Rattle.plan_basics.specs.declared.keys.OpKey.{OpKey}
use Rattle.plan_records.specs.plan_model.specs.ready_list.specs.Choice.{is_among, operations_of}
use Rattle.plan_records.specs.plan_model.specs.ready_list.proofs.Members.{ready_cmp-IsAntisymmetric}
use Rattle.plan_records.specs.plan_model.specs.ready_list.specs.Order.{ready_cmp, ready_cmp_total}
use Rattle.plan_records.specs.plan_model.specs.ready_list.specs.declared.ReadyKey.{ReadyKey}
use Rattle.status_rules.specs.declared.Status.TheVariants as status
use Rattle.plan_laws.proofs.Listed.{Listed, alike_listed, none_listed, one_listed, union_listed}
use Rattle.plan_records.specs.plan_model.proofs.Members.{in_keys}
use Rattle.plan_records.specs.plan_drafts.proofs.Tables.{is_found}
use Rattle.plan_records.specs.plan_model.proofs.Looks.{same_key}
use Rattle.std.proofs.lemmas.Option.{same_Some}
use Rattle.plan_laws.proofs.Latest.{one_latest_start, some_latest_start}
use Rattle.plan_laws.proofs.Sorted.{contains_head, contains_later, not_itself}
use Rattle.plan_laws.proofs.Sorting.{ascending, ascending_rest, less_before}
use Rattle.plan_laws.proofs.Standing.{status_told}
use Rattle.operation_graph.proofs.Telling.{Told, told_or}
use Rattle.plan_laws.specs.Derived.{SomeReadyList}
use Rattle.plan_records.specs.plan_model.specs.Contents.{Contents, IsInPlan}
use Rattle.plan_records.specs.plan_model.specs.Ready.{IsEntry, IsReadyList}
use Rattle.plan_records.specs.plan_model.specs.Status.{IsReady}
use Rattle.plan_records.specs.plan_model.specs.Valid.{IsAcyclic, IsValid}

pub ready_told : (P : Contents) → IsAcyclic P.pairs → (o : OpKey) → Told (IsReady P o)
ready_told P acyclic o = told_or (status_told P acyclic o status.Arriving) (told_or (status_told P acyclic o status.ReadyAfterNonreporting) (status_told P acyclic o status.Ready))

ready_in_plan : (P : Contents) (o : OpKey) → IsReady P o → IsInPlan P o
ready_in_plan P o (inl h) = (h.0, h.1, tt)
ready_in_plan P o (inr (inl h)) = (h.0, h.1, tt)
ready_in_plan P o (inr (inr h)) = (h.0, h.1, tt)

-- ---- the entries

-- an operation has one entry at most
pub one_entry : (P : Contents) (k l : ReadyKey) → IsEntry P k → IsEntry P l → k.op ≡ l.op → k ≡ l
one_entry P k l x y e =
    let y' : IsEntry P (record l { op = k.op }) = subst (λ o. IsEntry P (record l { op = o })) (sym e) y in
    let latest : k.latest ≡ l.latest = one_latest_start P k.op k.latest l.latest x.1 y'.1 in
    let op : x.2.0 ≡ y'.2.0 = same_Some x.2.0 y'.2.0 (sym x.2.1 ∙ y'.2.1) in
    let duration : k.duration ≡ l.duration = x.2.2 ∙ ap (λ z. z.duration) op ∙ sym y'.2.2 in
    let occurrence : x.3.0 ≡ y'.3.0 = same_Some x.3.0 y'.3.0 (sym x.3.1 ∙ y'.3.1) in
    let priority : k.priority ≡ l.priority = x.3.2 ∙ ap (λ z. z.priority) occurrence ∙ sym y'.3.2 in
    λ i. record { latest = latest i; priority = priority i; duration = duration i; op = e i }

module _ (P : Contents) (valid : IsValid P) where
  abbrev EntryOf : OpKey → ReadyKey → Type 0
  EntryOf o k = (k.op ≡ o) × IsEntry P k

  entry_of : (o : OpKey) → IsReady P o → (k : ReadyKey) × EntryOf o k
  entry_of o ready =
      let found = ready_in_plan P o ready in
      let v = some_latest_start P valid.acyclic o in
      let c = is_found (get P.occurrences o.occurrence) (valid.occurrences.each_operation o found.0 found.1).1 in
      (record { latest = v.0; priority = c.0.priority; duration = found.0.duration; op = o }, (refl, (ready, v.1, (found.0, found.1, refl), (c.0, c.1, refl))))

  entries_of : (o : OpKey) → Told (IsReady P o) → Listed (EntryOf o)
  entries_of o (inl ready) =
      let k = entry_of o ready in
      alike_listed {S = λ x. k.0 ≡ x} (λ x e. subst (EntryOf o) e k.1) (λ x h. one_entry P k.0 x k.1.1 h.1 (k.1.0 ∙ sym h.0)) (one_listed k.0)
  entries_of o (inr never) = none_listed (λ k h. never (subst (IsReady P) h.0 h.1.0))

  entries_listed : Listed (IsEntry P)
  entries_listed = alike_listed {S = λ k. (o : OpKey) × Contains (keys P.operations) o × EntryOf o k}
      (λ k h. h.2.1)
      (λ k h. let found = ready_in_plan P k.op h.0 in (k.op, in_keys operation_cmp-IsAntisymmetric P.operations k.op found.0 found.1, (refl, h)))
      (union_listed EntryOf (keys P.operations) (λ o has. entries_of o (ready_told P valid.acyclic o)))

  pub ready_list : (ready : List ReadyKey) × IsReadyList P ready
  ready_list = let a = ascending ready_cmp_total ready_cmp-IsAntisymmetric entries_listed in (a.0, record { ascends = a.1; has_all = a.2 })

pub some_ready_list : SomeReadyList
some_ready_list P valid = ready_list P valid

-- ---- each operation once

some_key : (ks : List ReadyKey) (before after : List OpKey) (o : OpKey) → operations_of ks ≡ before ++ o ∷ after → (k : ReadyKey) × Contains ks k × (k.op ≡ o)
some_key [] [] after o e = absurd (cc)
some_key [] (b ∷ before) after o e = absurd (cc)
some_key (k ∷ ks) [] after o e = let head : k.op ≡ o = cc in (k, contains_head k ks, head)
some_key (k ∷ ks) (b ∷ before) after o e =
    let tail : operations_of ks ≡ before ++ o ∷ after = cc in
    let found = some_key ks before after o tail in
    (found.0, contains_later k ks found.0 found.1, found.2)

pub once : (ks : List ReadyKey) → IsStrictlySortedBy ready_cmp ks → ((k l : ReadyKey) → Contains ks k → Contains ks l → k.op ≡ l.op → k ≡ l) → (before after : List OpKey) (o : OpKey) → operations_of ks ≡ before ++ o ∷ after → is_among before o ≡ false
once ks up one [] after o e = refl
once [] up one (b ∷ before) after o e = absurd (cc)
once (k ∷ ks) up one (b ∷ before) after o e =
    let head : k.op ≡ b = cc in
    let tail : operations_of ks ≡ before ++ o ∷ after = cc in
    let found = some_key ks before after o tail in
    or_from (eq_by_cmp operation_cmp o b) (is_among before o)
    (false_from_ne_true (eq_by_cmp operation_cmp o b) (λ tie.
    let same : k ≡ found.0 = one k found.0 (contains_head k ks) (contains_later k ks found.0 found.1) (head ∙ sym (same_key o b tie) ∙ sym found.2) in
    not_itself ready_cmp_total k (subst (λ z. ready_cmp k z ≡ Less) (sym same) (less_before ready_cmp_total ready_cmp-IsAntisymmetric ks k found.0 up found.1))))
    (once ks (ascending_rest ready_cmp_total ready_cmp-IsAntisymmetric ks k up) (λ x y hx hy. one x y (contains_later k ks x hx) (contains_later k ks y hy)) before after o tail)
