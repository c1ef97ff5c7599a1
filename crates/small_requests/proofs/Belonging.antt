-- The occurrences of operations at some places.
use Rattle.std.proofs.Common.{◌≡◌, inl, inr, sym, ap, subst, ◌∙◌, ℕ, List, [], ◌∷◌, ◌++◌, Contains, Some}
use Rattle.std.proofs.lemmas.List.Elements.{Contains-append_left, Contains-push, Contains-push_cases}
use Rattle.std.proofs.lemmas.Option.{some_pair_parts}
use Rattle.std.specs.FinMap.{entries}
use Rattle.plan_basics.proofs.Members.{contains_none}
use Rattle.plan_basics.specs.Keys.{occurrence_cmp, occurrence_cmp_total}
use Rattle.plan_basics.specs.declared.keys.OpKey.{OpKey}
use Rattle.plan_model.proofs.Entries.{entries_in_order}
use Rattle.plan_model.specs.Contents.{Contents}
use Rattle.plan_rows.specs.Touched.{BelongsAt, HasOneOf}
use Rattle.plan_checks.specs.plan_status.proofs.Ascending.{one_place}

module _ (P : Contents) where
  -- an operation belongs to the occurrence at one place alone
  one_belongs : (i p q : ℕ) → BelongsAt P i p → BelongsAt P i q → p ≡ q
  one_belongs i p q a b =
      let key : a.o ≡ b.o = (some_pair_parts a.o b.o a.op b.op (sym a.operation ∙ b.operation)).0 in
      one_place occurrence_cmp_total (entries P.occurrences) (entries_in_order occurrence_cmp P.occurrences) p q b.o.occurrence a.terms b.terms
      (a.occurrence ∙ ap (λ (o : OpKey). Some (o.occurrence, a.terms)) key) b.occurrence

  pub none_belong : (all : List ℕ) (p : ℕ) → HasOneOf P [] p → Contains all p
  none_belong all p (i, among, b) = absurd (contains_none i among)

  -- with the occurrence of one operation more, all of them are there
  pub one_more_belongs : (places all : List ℕ) (place r : ℕ) → ((p : ℕ) → HasOneOf P places p → Contains all p) → BelongsAt P place r
      → (p : ℕ) → HasOneOf P (places ++ place ∷ []) p → Contains (all ++ r ∷ []) p
  one_more_belongs places all place r each belongs p (i, among, b) = elim (Contains-push_cases places place i among) [
    | inl old ↦ Contains-append_left all (r ∷ []) p (each p (i, old, b))
    | inr new ↦ subst (Contains (all ++ r ∷ [])) (one_belongs place r p belongs (subst (λ j. BelongsAt P j p) (sym new) b)) (Contains-push all r)
  ]
