-- The statuses of operations once what is chosen is named.
use Rattle.std.proofs.Common.{◌≡◌, inl, inr, refl, sym, ap, subst, ◌∙◌, ℕ, ℤ, true, cond, List, All, Contains, Option, Some, None, option_map, slice_get}
use Rattle.std.proofs.lemmas.Option.{same_Some}
use Rattle.std.specs.FinMap.{entries, get}
use Rattle.std.specs.Option.{MatchOption}
use Rattle.plan_basics.proofs.Members.{all_by_members}
use Rattle.plan_basics.specs.declared.keys.OpKey.{OpKey}
use Rattle.plan_model.proofs.Looks.{as_named, get-named}
use Rattle.plan_model.specs.Contents.{Contents, Operation}
use Rattle.plan_model.specs.Ready.{with_mark}
use Rattle.plan_model.specs.Status.{HasStatus, UnmarkedStatus}
use Rattle.ready_list.specs.Choice.{is_among}
use Rattle.plan_checks.specs.derived_figures.specs.StatusesBefore.{HasStatusAt}
use Rattle.plan_checks.specs.plan_status.proofs.LoadedRows.{row_found}
use Rattle.small_requests.proofs.NamedFigures.{WasNamed, known_after, moved_on}
use Rattle.small_requests.specs.Effects.{AreStatusesOnceNamed}
use Rattle.small_requests.specs.declared.columns.FigureColumns.{FigureColumns}
use Rattle.ready_list.specs.Entries.{ReadyEntries}
use Rattle.status_rules.specs.Table.{marked_status}
use Rattle.status_rules.specs.declared.Mark.TheVariants as mark
use Rattle.status_rules.specs.declared.Status.{Status}
use Rattle.status_rules.specs.declared.Status.TheVariants as status

-- an operation of those that are named is marked so
marked_named : (os : List OpKey) (o : OpKey) → is_among os o ≡ true → (found : Option Operation) (op : Operation) → option_map (as_named os o) found ≡ Some op → op.mark ≡ mark.Named
marked_named os o among None op is = absurd (let e = is in cc)
marked_named os o among (Some x) op is =
    let made : as_named os o x ≡ op = same_Some (as_named os o x) op is in
    ap (λ (z : Operation). z.mark) (sym made) ∙ ap (λ b. (cond b (with_mark mark.Named x) x).mark) among

module _ (P R : Contents) (os : List OpKey) (places : List ℕ) (starts : List ℤ) (l : FigureColumns) (r : ReadyEntries) (was : WasNamed P R os places starts l r) where
  -- what was named has started
  started : (i : ℕ) (o : OpKey) (op : Operation) → Contains places i → slice_get (entries R.operations) i ≡ Some (o, op) → HasStatus R o status.Started
  started i o op has at =
      let row = (moved_on P R os places starts l r was).rows i o op at in
      let among = (was.places.each i o row.before row.was).0 has in
      let found = row_found R i o op at in
      let named_mark = marked_named os o among (get P.operations o) op (sym (get-named os P o) ∙ subst (λ (S : Contents). get S.operations o ≡ Some op) was.after found) in
      (op, found, subst (λ k. MatchOption (marked_status k) (UnmarkedStatus R o status.Started) (λ told. status.Started ≡ told)) (sym named_mark) refl)

  -- all others have what they had
  stays : (i : ℕ) (o : OpKey) (op : Operation) (s : Status) → ¬ Contains places i → slice_get l.statuses.items i ≡ Some s → slice_get (entries R.operations) i ≡ Some (o, op) → HasStatus R o s
  stays i o op s out there at =
      let row = (moved_on P R os places starts l r was).rows i o op at in
      (known_after P R os places starts l r was i out o row.before row.was).1 s (was.columns.statuses.each i o row.before s row.was there)

  -- so each status once they are named is right
  pub right_statuses : (touched : List ℕ) (values : List (ℕ × Status)) → AreStatusesOnceNamed l.statuses.items touched places values → All (HasStatusAt R) values
  right_statuses touched values once = all_by_members (HasStatusAt R) values (λ value has o op at.
      elim (once.each value has) [
        | inl named ↦ subst (HasStatus R o) (sym named.1) (started value.0 o op named.0 at)
        | inr other ↦ stays value.0 o op value.1 other.0 other.1 at
      ])
