-- What of a ready list may begin, looked for in its order.
use Rattle.std.proofs.Common.{◌≡◌, inl, inr, refl, sym, ◌∙◌, ap, subst, arith, ℕ, zero, suc, ◌<◌, List, [], ◌∷◌, ◌++◌, length, map, slice_get, Contains, Some}
use Rattle.std.proofs.lemmas.Option.{same_Some, slice_get_within}
use Rattle.std.specs.FinMap.{get}
use Rattle.plan_basics.proofs.Members.{contains_cases, contains_none, mapped_contains, place_of}
use Rattle.plan_basics.specs.declared.Attr.{Attr}
use Rattle.plan_basics.specs.declared.Attr.TheVariants as attribute
use Rattle.plan_basics.specs.declared.keys.OpKey.{OpKey}
use Rattle.derived_figures.specs.plan_laws.proofs.Latest.{some_latest_start}
use Rattle.plan_records.specs.plan_drafts.proofs.Tables.{is_found}
use Rattle.derived_figures.specs.start_choice.specs.Choices.{AreReadyEntries, HasItsWorkstation}
use Rattle.plan_checks.proofs.Searching.{NoneBefore}
use Rattle.plan_model.specs.Contents.{Contents, Operation, attribute_at}
use Rattle.plan_model.specs.Ready.{IsReadyList}
use Rattle.plan_model.specs.Valid.{IsValid}
use Rattle.ready_list.specs.Choice.{operations_of}
use Rattle.ready_list.specs.Entries.{keys_of}
use Rattle.ready_list.specs.declared.ReadyKey.{ReadyKey}
use Rattle.ready_list.specs.declared.entry.ReadyEntry.{ReadyEntry}
use Rattle.plan_forecast.specs.Ahead.{Ahead, BeginsFirst, MayBegin}

-- where starts are reported otherwise it may not begin
pub other_attribute : (P : Contents) (e : ReadyEntry) → HasItsWorkstation P e → (a : Attr) → (e.attr ≡ a → ⊥) → (m : ℕ) → MayBegin a P e.key.op m → ⊥
other_attribute P e its a other m may =
    let same : its.0 ≡ may.1.0 = same_Some its.0 may.1.0 (sym its.1 ∙ may.1.1) in
    other (same_Some e.attr a (sym its.2.1 ∙ ap (λ (z : Operation). attribute_at P z.workstation) same ∙ may.1.2))

-- what stands at a place: before it there is what stands at the places before
split_place : {X : Type 0} (xs : List X) (i : ℕ) (x : X) → slice_get xs i ≡ Some x
    → (before : List X) × (after : List X) × (xs ≡ before ++ x ∷ after) × ((y : X) → Contains before y → (k : ℕ) × (k < i) × (slice_get xs k ≡ Some y))
split_place [] i x e = cc
split_place (y ∷ xs) zero x e = let same : y ≡ x = cc in ([], xs, ap (λ z. z ∷ xs) same, λ z none. absurd (contains_none z none))
split_place (y ∷ xs) (suc i) x e =
    let r = split_place xs i x e in (
      y ∷ r.0,
      r.1,
      ap (λ zs. y ∷ zs) r.2,
      λ z has. elim (contains_cases y r.0 z has) [
        | inl same ↦ (zero, omega arith, ap Some same)
        | inr later ↦ (let k = r.3 z later in (suc k.0, (let less = k.1 in omega (arith, less)), k.2))
      ],
    )

-- the operations of entries
abbrev operation_at : ReadyEntry → OpKey
operation_at e = e.key.op

all_operations : (es : List ReadyEntry) → operations_of (keys_of es) ≡ map operation_at es
all_operations [] = refl
all_operations (e ∷ es) = ap (λ os. e.key.op ∷ os) (all_operations es)

split_operations : (before after : List ReadyEntry) (e : ReadyEntry) → operations_of (keys_of (before ++ e ∷ after)) ≡ map operation_at before ++ e.key.op ∷ map operation_at after
split_operations [] after e = ap (λ os. e.key.op ∷ os) (all_operations after)
split_operations (x ∷ before) after e = ap (λ os. x.key.op ∷ os) (split_operations before after e)

module _ (P : Contents) (valid : IsValid P) (entries : List ReadyEntry) (are : AreReadyEntries P entries) (m : ℕ) where
  abbrev pub BeginsAt : Attr → ReadyEntry → Type 0
  BeginsAt a e = MayBegin a P e.key.op m

  -- where none of the list may begin none may
  pub none_left : (a : Attr) → NoneBefore entries (BeginsAt a) (length entries) → (o : OpKey) → MayBegin a P o m → ⊥
  none_left a none o may =
      let op = may.1.0 in
      let found = may.1.1 in
      let latest = some_latest_start P valid.acyclic o in
      let occurrence = is_found (get P.occurrences o.occurrence) (valid.occurrences.each_operation o op found).1 in
      let key : ReadyKey = record { latest = latest.0; priority = occurrence.0.priority; duration = op.duration; op = o } in
      let listed : Contains (keys_of entries) key = (are.list.has_all key).1 (may.0, latest.1, (op, found, refl), (occurrence.0, occurrence.1, refl)) in
      let entry = mapped_contains (λ (e : ReadyEntry). e.key) entries key listed in
      let place = place_of entries entry.0 entry.2 in
      none place.0 entry.0 (slice_get_within entries place.0 entry.0 place.1) place.1 (subst (λ k. MayBegin a P k.op m) (sym entry.1) may)

  -- what may begin, where none before it may, begins first
  pub first_place : (s : Ahead) → s.plan.contents ≡ P → (i : ℕ) (e : ReadyEntry) → slice_get entries i ≡ Some e → NoneBefore entries (BeginsAt attribute.StartAndCompletion) i → BeginsAt attribute.StartAndCompletion e → BeginsFirst s m e.key.op
  first_place s same i e at none begins_here =
      let r = split_place entries i e at in record {
        ready = keys_of entries;
        is_ready_list = subst (λ (C : Contents). IsReadyList C (keys_of entries)) (sym same) are.list;
        before = map operation_at r.0;
        after = map operation_at r.1;
        split = ap (λ es. operations_of (keys_of es)) r.2 ∙ split_operations r.0 r.1 e;
        may = subst (λ (C : Contents). MayBegin attribute.StartAndCompletion C e.key.op m) (sym same) begins_here;
        first = λ p has begins.
            let x = mapped_contains operation_at r.0 p has in
            let k = r.3 x.0 x.2 in
            none k.0 x.0 k.1 k.2 (subst (λ q. MayBegin attribute.StartAndCompletion P q m) (sym x.1) (subst (λ (C : Contents). MayBegin attribute.StartAndCompletion C p m) same begins));
      }
