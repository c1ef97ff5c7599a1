-- What an operation releases of special resources that it needs, need by need.
use Rattle.std.proofs.Common.{◌≡◌, ◌≢◌, ◌⊎◌, inl, inr, refl, sym, ap, subst, ◌∙◌, true≢false, arith, ℕ, ◌+◌, ◌<◌, ◌≤◌, true, false, cond, List, length, slice_get, Contains, Some, None}
use Rattle.std.specs.Cmp.{Equal-is, eq_by_cmp_equiv}
use Rattle.std.specs.Ordering.{eq_by_cmp}
use Rattle.std.specs.FinMap.{get, get-remove, remove}
use Rattle.std.proofs.lemmas.Bool.{cases_lt, false_from_ne_true}
use Rattle.std.proofs.lemmas.Option.{get_or_from_slice_get, slice_get-get_or, slice_get_within, same_Some}
use Rattle.plan_basics.specs.Keys.{Name, name_cmp_total, name_cmp-IsAntisymmetric}
use Rattle.plan_basics.specs.declared.keys.OpKey.{OpKey}
use Rattle.special_resources.specs.Holders.{Usage}
use Rattle.special_resources.specs.Holdings.{Held, Holding, holding_cmp, usage_of}
use Rattle.special_resources.specs.Needs.{AreInNameOrder, usages_of}
use Rattle.special_resources.specs.declared.Need.{Need}
use Rattle.special_resources.proofs.MoreNeeds.{need_by_usage, usage_by_need}
use Rattle.special_resources.proofs.Orders.{holding_cmp_total, holding_cmp-IsAntisymmetric}
use Rattle.status_rules.specs.Table.{marked_status}
use Rattle.status_rules.specs.declared.Mark.{Mark}
use Rattle.plan_model.specs.Holdings.{holds_resource}
use Rattle.start_choice.proofs.NeedsTaken.{one_or_two}
use Rattle.derived_figures.specs.Marked.{HaveReleased}

-- ---- what is held after one is released

got_released : (held : Held) (k : Holding) → get (remove held k) k ≡ None
got_released held k = get-remove holding_cmp_total held k k ∙ ap (λ b. cond b None (get held k)) ((eq_by_cmp_equiv holding_cmp_total).refl k)

got_besides : (held : Held) (k q : Holding) → q ≢ k → get (remove held k) q ≡ get held q
got_besides held k q differs =
    get-remove holding_cmp_total held k q
    ∙ ap (λ b. cond b None (get held q)) (false_from_ne_true (eq_by_cmp holding_cmp q k) (λ e. differs (holding_cmp-IsAntisymmetric q k ((Equal-is (holding_cmp q k)).0 e))))

-- ---- need by need

-- what is held once the first needs are gone through
pub record AreReleasedSoFar (before : Held) (o : OpKey) (needs : List Need) (mark : Mark) (i : ℕ) (now : Held) : Type 0 where
  pub others : (p : OpKey) (r : Name) → p ≢ o → get now (r, p) ≡ get before (r, p)
  pub freed : (k : ℕ) (n : Need) → k < i → slice_get needs k ≡ Some n → holds_resource n.keep (marked_status mark) ≡ false → get now (n.name, o) ≡ None
  pub kept : (r : Name) → ((k : ℕ) (n : Need) → k < i → slice_get needs k ≡ Some n → n.name ≡ r → holds_resource n.keep (marked_status mark) ≡ true) → get now (r, o) ≡ get before (r, o)

module _ (before : Held) (o : OpKey) (needs : List Need) (mark : Mark) where
  pub none_released : AreReleasedSoFar before o needs mark 0 before
  none_released = record {
    others = λ p r differs. refl;
    freed = λ k n lt there fails. absurd (omega (arith, lt));
    kept = λ r all. refl;
  }

  module _ (i : ℕ) (n : Need) (at : slice_get needs i ≡ Some n) (now : Held) (so_far : AreReleasedSoFar before o needs mark i now) where
    -- an earlier need, or this one
    which : (k : ℕ) (m : Need) → k < i + 1 → slice_get needs k ≡ Some m → (k < i) ⊎ (m ≡ n)
    which k m lt there = elim (cases_lt k i) [
      | inl less ↦ inl less
      | inr more ↦ let here : k ≡ i = omega (arith, more, lt) in inr (same_Some m n (sym there ∙ ap (slice_get needs) here ∙ at))
    ]

    kept_before : (r : Name) → ((k : ℕ) (m : Need) → k < i + 1 → slice_get needs k ≡ Some m → m.name ≡ r → holds_resource m.keep (marked_status mark) ≡ true) → get now (r, o) ≡ get before (r, o)
    kept_before r all = so_far.kept r (λ k m lt. all k m (omega (arith, lt)))

    passed : (holds_resource n.keep (marked_status mark) ≡ false → get now (n.name, o) ≡ None) → AreReleasedSoFar before o needs mark (i + 1) now
    passed free = record {
      others = so_far.others;
      freed = λ k m lt there fails. elim (which k m lt there) [
        | inl early ↦ so_far.freed k m early there fails
        | inr here ↦
            subst (λ (z : Need). get now (z.name, o) ≡ None) (sym here) (free (subst (λ (z : Need). holds_resource z.keep (marked_status mark) ≡ false) here fails))
      ];
      kept = kept_before;
    }

    -- the mark holds it
    pub still_held : holds_resource n.keep (marked_status mark) ≡ true → AreReleasedSoFar before o needs mark (i + 1) now
    still_held holds = passed (λ fails. absurd (true≢false (sym holds ∙ fails)))

    -- it isn't held
    pub free_already : get now (n.name, o) ≡ None → AreReleasedSoFar before o needs mark (i + 1) now
    free_already free = passed (λ fails. free)

    -- it is released
    module _ (fails : holds_resource n.keep (marked_status mark) ≡ false) where
      abbrev after : Held
      after = remove now (n.name, o)

      still : (r : Name) (p : OpKey) → (◌≡◌ {A = Holding} (r, p) (n.name, o) → ⊥) → get after (r, p) ≡ get now (r, p)
      still r p differs = got_besides now (n.name, o) (r, p) differs

      freed_now : (k : ℕ) (m : Need) → k < i + 1 → slice_get needs k ≡ Some m → holds_resource m.keep (marked_status mark) ≡ false → get after (m.name, o) ≡ None
      freed_now k m lt there fails' = elim (one_or_two name_cmp_total name_cmp-IsAntisymmetric m.name n.name) [
        | inl same ↦ ap (λ z. get after (z, o)) same ∙ got_released now (n.name, o)
        | inr differs ↦ elim (which k m lt there) [
          | inl early ↦ still m.name o (λ e. differs (ap (λ (z : Holding). z.0) e)) ∙ so_far.freed k m early there fails'
          | inr here ↦ absurd (differs (ap (λ (z : Need). z.name) here))
        ]
      ]

      pub released_too : AreReleasedSoFar before o needs mark (i + 1) after
      released_too = record {
        others = λ p r differs. still r p (λ e. differs (ap (λ (z : Holding). z.1) e)) ∙ so_far.others p r differs;
        freed = freed_now;
        kept = λ r all.
            still r o (λ e. true≢false (sym (all i n (omega arith) at (sym (ap (λ (z : Holding). z.0) e))) ∙ fails)) ∙ kept_before r all;
      }

  -- past the last need
  pub all_released : AreInNameOrder needs → (i : ℕ) (now : Held) → length needs ≤ i → AreReleasedSoFar before o needs mark i now → HaveReleased before o (usages_of needs) mark now
  all_released sorted i now past so_far = record {
    others = so_far.others;
    freed = λ r usage is fails.
        let m = need_by_usage needs sorted r usage is in
        let there : slice_get needs m.1.0 ≡ Some m.0 = slice_get-get_or needs m.1.0 m.0 m.1.1 ∙ ap Some m.1.2 in
        subst (λ z. get now (z, o) ≡ None) m.2
        (so_far.freed m.1.0 m.0 (omega (arith, past, m.1.1)) there (ap (λ (u : Usage). holds_resource u.keep (marked_status mark)) m.3 ∙ fails));
    kept = λ r all. so_far.kept r (λ k n lt there name.
        let has : Contains needs n = (k, slice_get_within needs k n there, get_or_from_slice_get needs k n n there) in
        all (usage_of n) (subst (λ z. get (usages_of needs) z ≡ Some (usage_of n)) name (usage_by_need needs sorted n has)));
  }
