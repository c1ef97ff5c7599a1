-- Of what a valid plan may take in, the plan has nothing yet.
use Rattle.std.proofs.Common.{◌≡◌, inl, inr, sym, ◌∙◌, true, true≢false}
use Rattle.std.specs.FinMap.{contains_key, get}
use Rattle.plan_basics.specs.declared.Refusal.TheVariants as refusal
use Rattle.plan_basics.specs.declared.keys.OpKey.{OpKey}
use Rattle.plan_model.specs.Contents.{Contents, IsPairOf, AddedParts}
use Rattle.plan_model.specs.Valid.{IsValid}
use Rattle.plan_records.specs.Acceptance.{MayBeAdded}
use Rattle.plan_drafts.specs.Drafts.{IsExtension}
use Rattle.derived_figures.specs.plan_laws.proofs.ComingIn.{not_own}
use Rattle.plan_drafts.proofs.Tables.{is_found}
use Rattle.std.proofs.lemmas.Bool.{false_from_ne_true}
use Rattle.derived_figures.specs.plan_changes.specs.Additions.{HasNothingOf}

module _ (P : Contents) (valid : IsValid P) (s : AddedParts) (extension : IsExtension s) (new : MayBeAdded P s refusal.Duplicate) where
  not_both : (o : OpKey) → contains_key P.operations o ≡ true → contains_key s.operations o ≡ true → ⊥
  not_both o there comes =
      let found = is_found (get s.operations o) comes in
      not_own P s valid new o there (extension.occurrences.each_operation o found.0 found.1).1

  no_pair_of_both : (p o : OpKey) → IsPairOf P.pairs p o → IsPairOf s.pairs p o → ⊥
  no_pair_of_both p o there comes =
      let ends = valid.pairs p o there in
      elim (extension.pairs p o comes).2 [
        | inl own ↦ not_own P s valid new p ends.0 own
        | inr own ↦ not_own P s valid new o ends.1 own
      ]

  pub comes_apart : HasNothingOf P s
  comes_apart = record {
    occurrences = λ c there. false_from_ne_true (contains_key s.occurrences c) (λ comes. true≢false (sym there ∙ new c comes));
    operations = λ o there. false_from_ne_true (contains_key s.operations o) (not_both o there);
    pairs = λ pair there. false_from_ne_true _ (no_pair_of_both pair.0 pair.1 there);
  }
