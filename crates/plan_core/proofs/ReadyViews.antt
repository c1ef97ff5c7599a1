-- The views of what is ready are those of the ready list's operations.
use Rattle.std.proofs.Common.{◌≡◌, refl, sym, ap, subst, ◌∙◌, ℕ, zero, suc, Bool, true, false, cond, List, [], ◌∷◌, Contains, filter, map, slice_get, Option, Some, inl, inr}
use Rattle.std.specs.FinMap.{entries, get}
use Rattle.std.specs.List.{cons_option}
use Rattle.std.specs.Map.{keys_of}
use Rattle.std.specs.Ordering.{eq_by_cmp}
use Rattle.std.specs.List.Sorted.{IsStrictlySortedBy}
use Rattle.plan_basics.specs.Keys.{Name, name_cmp, operation_cmp, operation_cmp_total, operation_cmp-IsAntisymmetric}
use Rattle.plan_basics.specs.declared.keys.OpKey.{OpKey}
use Rattle.plan_model.specs.Contents.{Contents, Operation}
use Rattle.plan_records.specs.plan_drafts.proofs.Lists.{contains_cases, contains_head, contains_later, contains_none}
use Rattle.plan_records.specs.plan_drafts.proofs.RowPlaces.{get_at}
use Rattle.ready_list.proofs.Members.{contains_from_filter}
use Rattle.ready_list.specs.Choice.{operations_of}
use Rattle.ready_list.specs.Entries.{keys_of as entry_keys, is_on as is_entry_on, on_workstation}
use Rattle.ready_list.specs.declared.entry.ReadyEntry.{ReadyEntry}
use Rattle.plan_opening.specs.start_choice.specs.Choices.{AreReadyEntries}
use Rattle.plan_records.specs.plan_drafts.proofs.EntryRows.{entry_of}
use Rattle.plan_core.proofs.OpViews.{are_op_views, op_view_is, op_view_there}
use Rattle.plan_opening.specs.plan_rows.specs.Sources.{IsSource}
use Rattle.plan_core.specs.Views.{AreReadyViews, IsOpView, is_at_workstation, is_on, op_views, ready_views, view_at}
use Rattle.plan_opening.specs.plan_rows.specs.declared.row_sources.RowSource.{RowSource}
use Rattle.plan_core.specs.declared.views.OpView.{OpView}

keyed : List OpView → List (OpKey × OpView)
keyed vs = map (λ v. (v.key, v)) vs

keys-keyed : (vs : List OpView) → keys_of (map (λ (v : OpView). (v.key, v)) vs) ≡ map (λ v. v.key) vs
keys-keyed [] = refl
keys-keyed (v ∷ vs) = ap (λ ks. v.key ∷ ks) (keys-keyed vs)

at-keyed : (vs : List OpView) (i : ℕ) (v : OpView) → slice_get vs i ≡ Some v → slice_get {X = OpKey × OpView} (map (λ (v : OpView). (v.key, v)) vs) i ≡ Some (v.key, v)
at-keyed [] i v e = cc
at-keyed (w ∷ vs) zero v e = let same : w ≡ v = cc in λ j. Some ((same j).key, same j)
at-keyed (w ∷ vs) (suc i) v e = at-keyed vs i v e

module _ (s : RowSource) (source : IsSource s) where
  abbrev P : Contents
  P = s.contents.now

  -- the view of a row's operation
  pub view_is : (i : ℕ) (o : OpKey) (op : Operation) (v : OpView) → slice_get (entries P.operations) i ≡ Some (o, op) → slice_get (op_views s) i ≡ Some v → view_at s o ≡ Some v
  view_is i o op v row at =
      let sorted = subst (IsStrictlySortedBy operation_cmp) (sym (keys-keyed (op_views s))) (are_op_views s source).in_order in
      let key = (op_view_is s source i o op v row at).0 in
      get_at operation_cmp operation_cmp_total operation_cmp-IsAntisymmetric (map (λ (v : OpView). (v.key, v)) (op_views s)) sorted i o v (at-keyed (op_views s) i v at ∙ (λ j. Some (key j, v)))

  -- an operation of the plan has a view
  pub view_there : (o : OpKey) (op : Operation) → get P.operations o ≡ Some op → (v : OpView) × (view_at s o ≡ Some v) × (v.key ≡ o) × IsOpView P v
  view_there o op is =
      let i = entry_of operation_cmp_total operation_cmp-IsAntisymmetric P.operations o op is in
      let v = op_view_there s source i.0 o op i.1 in
      let told = op_view_is s source i.0 o op v.0 i.1 v.1 in
      (v.0, view_is i.0 o op v.0 i.1 v.1, told.0, told.1)

  -- these entries are of operations of the plan, each with its workstation
  abbrev AreOf : List ReadyEntry → Type 0
  AreOf es = (e : ReadyEntry) → Contains es e → (op : Operation) × (get P.operations e.key.op ≡ Some op) × (e.ws ≡ op.workstation)

  later : (e : ReadyEntry) (es : List ReadyEntry) → AreOf (e ∷ es) → AreOf es
  later e es of d has = of d (contains_later e es d has)

  -- the views of those on a workstation have the keys of the ready list's operations that are on it
  abbrev AreKeysOn : Name → List ReadyEntry → Type 0
  AreKeysOn w es = map (λ v. v.key) (ready_views s (on_workstation w es)) ≡ filter (is_on P w) (operations_of (entry_keys es))

  keys_in_order : (w : Name) (es : List ReadyEntry) → AreOf es → map (λ v. v.key) (ready_views s (on_workstation w es)) ≡ filter (is_on P w) (operations_of (entry_keys es))
  keys_in_order w [] of = refl
  keys_in_order w (e ∷ es) of = by (keys_in_order w es (later e es of)) (is_entry_on w e) refl
    where
      its : (op : Operation) × (get P.operations e.key.op ≡ Some op) × (e.ws ≡ op.workstation)
      its = of e (contains_head e es)

      same : is_on P w e.key.op ≡ is_entry_on w e
      same = ap (is_at_workstation w) its.1 ∙ ap (λ n. eq_by_cmp name_cmp n w) (sym its.2)

      view : (v : OpView) × (view_at s e.key.op ≡ Some v) × (v.key ≡ e.key.op) × IsOpView P v
      view = view_there e.key.op its.0 its.1

      go : AreKeysOn w es → (b : Bool) → map (λ v. v.key) (ready_views s (cond b (e ∷ on_workstation w es) (on_workstation w es)))
          ≡ cond b (e.key.op ∷ filter (is_on P w) (operations_of (entry_keys es))) (filter (is_on P w) (operations_of (entry_keys es)))
      go ih true = ap (λ (o : Option OpView). map (λ (v : OpView). v.key) (cons_option o (ready_views s (on_workstation w es)))) view.1 ∙ (λ j. view.2 j ∷ ih j)
      go ih false = ih

      by : AreKeysOn w es → (b : Bool) → is_entry_on w e ≡ b → map (λ v. v.key) (ready_views s (on_workstation w (e ∷ es))) ≡ filter (is_on P w) (operations_of (entry_keys (e ∷ es)))
      by ih b is =
          ap (λ z. map (λ v. v.key) (ready_views s (cond z (e ∷ on_workstation w es) (on_workstation w es)))) is
          ∙ go ih b
          ∙ sym (ap (λ z. cond z (e.key.op ∷ filter (is_on P w) (operations_of (entry_keys es))) (filter (is_on P w) (operations_of (entry_keys es)))) (same ∙ is))

  each_is : (es : List ReadyEntry) → AreOf es → (v : OpView) → Contains (ready_views s es) v → IsOpView P v
  each_is [] of v has = absurd (contains_none v has)
  each_is (e ∷ es) of v has =
      let its = of e (contains_head e es) in
      let view = view_there e.key.op its.0 its.1 in
      elim (contains_cases view.0 (ready_views s es) v (subst (λ (o : Option OpView). Contains (cons_option o (ready_views s es)) v) view.1 has)) [
        | inl same ↦ subst (IsOpView P) same view.3
        | inr rest ↦ each_is es (later e es of) v rest
      ]

  module _ (listed : List ReadyEntry) (ready : AreReadyEntries P listed) where
    of_all : AreOf listed
    of_all e has = let its = ready.workstations e has in (its.0, its.1, its.2.0)

    pub of_listed : (w : Name) → AreOf (on_workstation w listed)
    of_listed w e has = of_all e (contains_from_filter (is_entry_on w) listed e has).0

    pub are_ready_views : (w : Name) → AreReadyViews P w (ready_views s (on_workstation w listed))
    are_ready_views w = record {
      keys = entry_keys listed;
      is_ready_list = ready.list;
      in_order = keys_in_order w listed of_all;
      each = each_is (on_workstation w listed) (of_listed w);
    }

  -- what is left begins with the view of the first entry
  pub one_ready : {es : List ReadyEntry} {e : ReadyEntry} {others : List ReadyEntry} {v : OpView} → es ≡ e ∷ others → view_at s e.key.op ≡ Some v → ready_views s es ≡ v ∷ ready_views s others
  one_ready {others = others} left is = ap (ready_views s) left ∙ ap (λ (o : Option OpView). cons_option o (ready_views s others)) is
