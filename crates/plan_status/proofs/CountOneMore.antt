-- One more operation is counted.
use Rattle.std.proofs.Common.{◌≡◌, ◌⊎◌, inl, inr, ◌∙◌, ap, subst, ℕ, ◌+◌}
use Rattle.plan_basics.specs.Keys.{operation_cmp_total, operation_cmp-IsAntisymmetric}
use Rattle.plan_basics.specs.declared.keys.OpKey.{OpKey}
use Rattle.plan_laws.proofs.Sorting.{put_in}
use Rattle.plan_laws.specs.plan_records.specs.Rows.{IsCount}

-- all that S has, and k
pub count_more : {S T : OpKey → Type 0} {n : ℕ} (k : OpKey) → ¬ S k → T k → ((o : OpKey) → S o → T o) → ((o : OpKey) → T o → S o ⊎ (k ≡ o)) → IsCount S n → IsCount T (n + 1)
count_more {S} {T} k new this all only c =
    let more = put_in operation_cmp_total operation_cmp-IsAntisymmetric k c.0 c.1 in (
      more.0,
      more.1,
      λ o. (
        λ has. elim ((more.2 o).0 has) [ inl e ↦ subst T e this | inr old ↦ all o ((c.2 o).0 old) ],
        λ t. elim (only o t) [ inl s ↦ (more.2 o).1 (inr ((c.2 o).1 s)) | inr e ↦ (more.2 o).1 (inl e) ],
      ),
      more.3 (λ has. new ((c.2 k).0 has)) ∙ ap (λ m. m + 1) c.3,
    )
