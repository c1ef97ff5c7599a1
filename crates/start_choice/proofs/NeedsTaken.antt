-- What an operation takes of special resources that it needs, need by need.
use Rattle.std.proofs.Common.{◌≡◌, ◌≢◌, ◌⊎◌, ◌↔◌, inl, inr, refl, sym, ap, subst, ◌∙◌, true≢false, arith, ℕ, ◌+◌, ◌<◌, ◌≤◌, Bool, true, false, cond, List, length, slice_get, get_or, map, Contains, Some, None, is_some}
use Rattle.std.specs.Cmp.{Equal-is, IsTotalOrder, eq_by_cmp_equiv}
use Rattle.std.specs.Ordering.{eq_by_cmp}
use Rattle.std.specs.declared.cmp.Ordering.{Ordering}
use Rattle.std.specs.declared.cmp.Ordering.TheVariants.{Less}
use Rattle.std.specs.FinMap.{IsAntisymmetric, get, get-insert, insert}
use Rattle.std.proofs.lemmas.Bool.{cases_lt, false_from_ne_true}
use Rattle.std.proofs.lemmas.List.{get_or-map, length-map}
use Rattle.std.proofs.lemmas.Map.Keys.{Less-from_sorted}
use Rattle.std.proofs.lemmas.Option.{get_or_from_slice_get, slice_get-get_or, slice_get_within, none-some, same_Some}
use Rattle.plan_basics.specs.Keys.{Name, name_cmp, name_cmp_total, name_cmp-IsAntisymmetric}
use Rattle.plan_basics.specs.declared.keys.OpKey.{OpKey}
use Rattle.special_resources.specs.Holders.{Usage}
use Rattle.special_resources.specs.Holdings.{Held, Holding, holding_cmp, claim_of}
use Rattle.special_resources.specs.Needs.{AreInNameOrder, usages_of}
use Rattle.special_resources.specs.declared.Claim.{Claim}
use Rattle.special_resources.specs.declared.Need.{Need}
use Rattle.special_resources.proofs.MoreNeeds.{need_by_usage, usage_by_need}
use Rattle.special_resources.proofs.Orders.{holding_cmp_total, holding_cmp-IsAntisymmetric}
use Rattle.status_rules.specs.Table.{marked_status}
use Rattle.status_rules.specs.declared.Mark.{Mark}
use Rattle.plan_model.specs.Holdings.{holds_resource}
use Rattle.counted_records.specs.plan_drafts.proofs.Tables.{is_found}
use Rattle.counted_records.specs.plan_laws.proofs.Sorted.{not_itself}
use Rattle.start_choice.specs.Takings.{HaveTaken}

-- ---- what is held after one more is taken

pub got_taken : (held : Held) (k : Holding) (claim : Claim) → get (insert held k claim) k ≡ Some claim
got_taken held k claim = get-insert holding_cmp_total held k claim k ∙ ap (λ b. cond b (Some claim) (get held k)) ((eq_by_cmp_equiv holding_cmp_total).refl k)

pub got_besides : (held : Held) (k : Holding) (claim : Claim) (q : Holding) → q ≢ k → get (insert held k claim) q ≡ get held q
got_besides held k claim q differs =
    get-insert holding_cmp_total held k claim q
    ∙ ap (λ b. cond b (Some claim) (get held q)) (false_from_ne_true (eq_by_cmp holding_cmp q k) (λ e. differs (holding_cmp-IsAntisymmetric q k ((Equal-is (holding_cmp q k)).0 e))))

-- two keys are one, or differ
pub one_or_two : {K : Type 0} {R : K → K → Ordering} → IsTotalOrder R → IsAntisymmetric R → (a b : K) → (a ≡ b) ⊎ (a ≢ b)
one_or_two {K} {R} total same a b = at (eq_by_cmp R a b) refl
  where
    at : (x : Bool) → eq_by_cmp R a b ≡ x → (a ≡ b) ⊎ (a ≢ b)
    at true e = inl (same a b ((Equal-is (R a b)).0 e))
    at false e = inr (λ is. true≢false (sym (ap (eq_by_cmp R a) (sym is) ∙ (eq_by_cmp_equiv total).refl a) ∙ e))

-- ---- need by need

-- the need takes the resource so
pub record Takes (mark : Mark) (r : Name) (claim : Claim) (n : Need) : Type 0 where
  pub resource : n.name ≡ r
  pub its_claim : claim_of n ≡ claim
  pub holds : holds_resource n.keep (marked_status mark) ≡ true

-- one of the first needs does
pub record IsTakenAmong (needs : List Need) (mark : Mark) (i : ℕ) (r : Name) (claim : Claim) : Type 0 where
  pub place : ℕ
  pub need : Need
  pub before : place < i
  pub stands : slice_get needs place ≡ Some need
  pub takes : Takes mark r claim need

-- what is held once the first needs are gone through
pub record AreTakenSoFar (before : Held) (o : OpKey) (needs : List Need) (mark : Mark) (i : ℕ) (now : Held) : Type 0 where
  pub others : (p : OpKey) (r : Name) → p ≢ o → get now (r, p) ≡ get before (r, p)
  pub kept : (r : Name) (claim : Claim) → get before (r, o) ≡ Some claim → get now (r, o) ≡ Some claim
  pub own : (r : Name) → get before (r, o) ≡ None → (claim : Claim) → (get now (r, o) ≡ Some claim) ↔ IsTakenAmong needs mark i r claim

-- needs at two indices are of two resources
apart : (needs : List Need) → AreInNameOrder needs → (k i : ℕ) (m n : Need) → slice_get needs k ≡ Some m → slice_get needs i ≡ Some n → k < i → m.name ≡ n.name → ⊥
apart needs sorted k i m n there at less same =
    let within : i < length needs = slice_get_within needs i n at in
    let names = map (λ (z : Need). z.name) needs in
    let up : name_cmp (get_or names k n.name) (get_or names i n.name) ≡ Less =
    Less-from_sorted name_cmp names k i n.name sorted less (omega (arith, within, length-map needs (λ (z : Need). z.name))) in
    let low : get_or names k n.name ≡ n.name = get_or-map (λ (z : Need). z.name) needs k n n.name (omega (arith, less, within)) ∙ ap (λ (z : Need). z.name) (get_or_from_slice_get needs k m n there) ∙ same in
    let high : get_or names i n.name ≡ n.name = get_or-map (λ (z : Need). z.name) needs i n n.name within ∙ ap (λ (z : Need). z.name) (get_or_from_slice_get needs i n n at) in
    not_itself name_cmp_total n.name (subst (λ z. name_cmp z n.name ≡ Less) low (subst (λ z. name_cmp (get_or names k n.name) z ≡ Less) high up))

module _ (before : Held) (o : OpKey) (needs : List Need) (mark : Mark) where
  pub none_taken : AreTakenSoFar before o needs mark 0 before
  none_taken = record {
    others = λ p r differs. refl;
    kept = λ r claim is. is;
    own = λ r none claim. (λ is. absurd (none-some claim (sym none ∙ is)), λ t. absurd (omega (arith, t.before)));
  }

  module _ (i : ℕ) (n : Need) (at : slice_get needs i ≡ Some n) (now : Held) (so_far : AreTakenSoFar before o needs mark i now) where
    later : (r : Name) (claim : Claim) → IsTakenAmong needs mark i r claim → IsTakenAmong needs mark (i + 1) r claim
    later r claim t = record { place = t.place; need = t.need; before = omega (arith, t.before); stands = t.stands; takes = t.takes }

    -- an earlier need does, or this one
    which : (r : Name) (claim : Claim) → IsTakenAmong needs mark (i + 1) r claim → IsTakenAmong needs mark i r claim ⊎ Takes mark r claim n
    which r claim t = elim (cases_lt t.place i) [
      | inl less ↦ inl (record { place = t.place; need = t.need; before = less; stands = t.stands; takes = t.takes })
      | inr more ↦
          let here : t.place ≡ i = omega (arith, more, t.before) in
          inr (subst (Takes mark r claim) (same_Some t.need n (sym t.stands ∙ ap (slice_get needs) here ∙ at)) t.takes)
    ]

    passed : ((r : Name) → get before (r, o) ≡ None → (claim : Claim) → Takes mark r claim n → ⊥) → AreTakenSoFar before o needs mark (i + 1) now
    passed never = record {
      others = so_far.others;
      kept = so_far.kept;
      own = λ r none claim. (
        λ is. later r claim ((so_far.own r none claim).0 is),
        λ t. elim (which r claim t) [ inl early ↦ (so_far.own r none claim).1 early | inr here ↦ absurd (never r none claim here) ],
      );
    }

    -- the mark doesn't hold it
    pub not_held : holds_resource n.keep (marked_status mark) ≡ false → AreTakenSoFar before o needs mark (i + 1) now
    not_held fails = passed (λ r none claim here. true≢false (sym here.holds ∙ fails))

    -- it is held already, from before
    pub held_already : AreInNameOrder needs → is_some (get now (n.name, o)) ≡ true → AreTakenSoFar before o needs mark (i + 1) now
    held_already sorted some = passed (λ r none claim here.
        let found = is_found (get now (n.name, o)) some in
        let t = (so_far.own r none found.0).0 (ap (λ z. get now (z, o)) (sym here.resource) ∙ found.1) in
        apart needs sorted t.place i t.need n t.stands at t.before (t.takes.resource ∙ sym here.resource))

    -- it is taken
    module _ (holds : holds_resource n.keep (marked_status mark) ≡ true) (free : get now (n.name, o) ≡ None) where
      abbrev after : Held
      after = insert now (n.name, o) (claim_of n)

      still : (r : Name) (p : OpKey) → (◌≡◌ {A = Holding} (r, p) (n.name, o) → ⊥) → get after (r, p) ≡ get now (r, p)
      still r p differs = got_besides now (n.name, o) (claim_of n) (r, p) differs

      own_here : (r : Name) → r ≡ n.name → get before (r, o) ≡ None → (claim : Claim) → (get after (r, o) ≡ Some claim) ↔ IsTakenAmong needs mark (i + 1) r claim
      own_here r same none claim =
          let got : get after (r, o) ≡ Some (claim_of n) = ap (λ z. get after (z, o)) same ∙ got_taken now (n.name, o) (claim_of n) in (
            λ is. record { place = i; need = n; before = omega arith; stands = at; takes = record { resource = sym same; its_claim = same_Some (claim_of n) claim (sym got ∙ is); holds = holds } },
            λ t. elim (which r claim t) [
              | inl early ↦ absurd (none-some claim (sym free ∙ ap (λ z. get now (z, o)) (sym same) ∙ (so_far.own r none claim).1 early))
              | inr here ↦ got ∙ ap Some here.its_claim
            ],
          )

      own_besides : (r : Name) → r ≢ n.name → get before (r, o) ≡ None → (claim : Claim) → (get after (r, o) ≡ Some claim) ↔ IsTakenAmong needs mark (i + 1) r claim
      own_besides r differs none claim =
          let same : get after (r, o) ≡ get now (r, o) = still r o (λ e. differs (ap (λ (z : Holding). z.0) e)) in (
            λ is. later r claim ((so_far.own r none claim).0 (sym same ∙ is)),
            λ t. elim (which r claim t) [ inl early ↦ same ∙ (so_far.own r none claim).1 early | inr here ↦ absurd (differs (sym here.resource)) ],
          )

      pub taken_too : AreTakenSoFar before o needs mark (i + 1) after
      taken_too = record {
        others = λ p r differs. still r p (λ e. differs (ap (λ (z : Holding). z.1) e)) ∙ so_far.others p r differs;
        kept = λ r claim is.
            let there = so_far.kept r claim is in
            still r o (λ e. none-some claim (sym free ∙ ap (get now) (sym e) ∙ there)) ∙ there;
        own = λ r none claim. elim (one_or_two name_cmp_total name_cmp-IsAntisymmetric r n.name) [
          | inl same ↦ own_here r same none claim
          | inr differs ↦ own_besides r differs none claim
        ];
      }

  -- past the last need
  module _ (sorted : AreInNameOrder needs) where
    said : (r : Name) (claim : Claim) (n : Need) (k : ℕ) → slice_get needs k ≡ Some n → Takes mark r claim n → get (usages_of needs) r ≡ Some (record { claim = claim; keep = n.keep })
    said r claim n k at takes =
        let has : Contains needs n = (k, slice_get_within needs k n at, get_or_from_slice_get needs k n n at) in
        let usage : get (usages_of needs) n.name ≡ Some (record { claim = claim; keep = n.keep }) =
        usage_by_need needs sorted n has ∙ ap (λ (m : Claim). Some (record { claim = m; keep = n.keep })) takes.its_claim in
        subst (λ z. get (usages_of needs) z ≡ Some (record { claim = claim; keep = n.keep })) takes.resource usage

    pub all_taken : (i : ℕ) (now : Held) → length needs ≤ i → AreTakenSoFar before o needs mark i now → HaveTaken before o (usages_of needs) mark now
    all_taken i now past so_far = record {
      others = so_far.others;
      kept = so_far.kept;
      own = λ r none claim. (
        λ is. let t = (so_far.own r none claim).0 is in (t.need.keep, said r claim t.need t.place t.stands t.takes, t.takes.holds),
        λ (keep, is, holds).
            let m = need_by_usage needs sorted r (record { claim = claim; keep = keep }) is in
            (so_far.own r none claim).1 (record {
              place = m.1.0;
              need = m.0;
              before = omega (arith, past, m.1.1);
              stands = slice_get-get_or needs m.1.0 m.0 m.1.1 ∙ ap Some m.1.2;
              takes = record { resource = m.2; its_claim = ap (λ (u : Usage). u.claim) m.3; holds = ap (λ (u : Usage). holds_resource u.keep (marked_status mark)) m.3 ∙ holds };
            }),
      );
    }
