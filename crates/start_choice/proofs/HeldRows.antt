-- Who holds what of special resources, as one row after another is gone through.
use Rattle.std.proofs.Common.{◌≡◌, ◌≢◌, ◌⊎◌, ◌↔◌, inl, inr, refl, sym, ap, subst, ◌∙◌, true≢false, arith, ℕ, ◌+◌, ◌<◌, ◌≤◌, Bool, true, false, length, slice_get, Option, Some, None}
use Rattle.std.specs.FinMap.{entries, empty, get, get-empty}
use Rattle.std.proofs.lemmas.Bool.{cases_lt}
use Rattle.std.proofs.lemmas.Option.{slice_get_within, none-some, same_Some}
use Rattle.plan_basics.specs.Keys.{Name, operation_cmp, operation_cmp_total, operation_cmp-IsAntisymmetric}
use Rattle.plan_basics.specs.declared.keys.OpKey.{OpKey}
use Rattle.special_resources.specs.Holdings.{Held, holding_cmp}
use Rattle.special_resources.specs.declared.Claim.{Claim}
use Rattle.status_rules.specs.Table.{marked_status}
use Rattle.plan_model.proofs.Entries.{entries_in_order}
use Rattle.plan_model.specs.Holdings.{holds_resource, takes}
use Rattle.plan_model.specs.Contents.{Contents, Operation, attribute_at}
use Rattle.counted_records.specs.plan_status.proofs.Ascending.{one_place}
use Rattle.counted_records.specs.plan_status.proofs.LoadedRows.{row_found, row_of}
use Rattle.start_choice.specs.Choices.{AreHeldIn}
use Rattle.start_choice.specs.Takings.{HaveTaken}
use Rattle.start_choice.proofs.NeedsTaken.{one_or_two}

-- the operation holds the resource so
pub record IsHeldBy (P : Contents) (op : Operation) (r : Name) (claim : Claim) : Type 0 where
  pub keep : Bool
  pub needs : get op.needs r ≡ Some (record { claim = claim; keep = keep })
  pub known : takes (attribute_at P op.workstation) ≡ true
  pub holds : holds_resource keep (marked_status op.mark) ≡ true

-- o is among the first rows, and does
pub record IsHeldAmong (c : Contents) (i : ℕ) (o : OpKey) (r : Name) (claim : Claim) : Type 0 where
  pub place : ℕ
  pub operation : Operation
  pub before : place < i
  pub stands : slice_get (entries c.operations) place ≡ Some (o, operation)
  pub by : IsHeldBy c operation r claim

-- these are the holders among the first rows
abbrev pub AreHeldAmong : Contents → ℕ → Held → Type 0
AreHeldAmong c i held = (o : OpKey) (r : Name) (claim : Claim) → (get held (r, o) ≡ Some claim) ↔ IsHeldAmong c i o r claim

pub none_held : (c : Contents) → AreHeldAmong c 0 empty
none_held c o r claim = (λ is. absurd (none-some claim (sym (get-empty holding_cmp (r, o)) ∙ is)), λ t. absurd (omega (arith, t.before)))

module _ (c : Contents) where
  module _ (i : ℕ) (o : OpKey) (op : Operation) (row : slice_get (entries c.operations) i ≡ Some (o, op)) (held : Held) (so_far : AreHeldAmong c i held) where
    later : (p : OpKey) (r : Name) (claim : Claim) → IsHeldAmong c i p r claim → IsHeldAmong c (i + 1) p r claim
    later p r claim t = record { place = t.place; operation = t.operation; before = omega (arith, t.before); stands = t.stands; by = t.by }

    -- an earlier row's operation, or this one's
    which : (p : OpKey) (r : Name) (claim : Claim) → IsHeldAmong c (i + 1) p r claim → IsHeldAmong c i p r claim ⊎ ((p ≡ o) × IsHeldBy c op r claim)
    which p r claim t = elim (cases_lt t.place i) [
      | inl less ↦ inl (record { place = t.place; operation = t.operation; before = less; stands = t.stands; by = t.by })
      | inr more ↦
          let here : t.place ≡ i = omega (arith, more, t.before) in
          let same : ◌≡◌ {A = OpKey × Operation} (p, t.operation) (o, op) = same_Some (p, t.operation) (o, op) (sym t.stands ∙ ap (slice_get (entries c.operations)) here ∙ row) in
          inr (ap (λ (z : OpKey × Operation). z.0) same, subst (λ (z : OpKey × Operation). IsHeldBy c z.1 r claim) same t.by)
    ]

    -- the operation holds nothing
    pub row_passed_over : ((r : Name) (claim : Claim) → ¬ IsHeldBy c op r claim) → AreHeldAmong c (i + 1) held
    row_passed_over none p r claim = (
      λ is. later p r claim ((so_far p r claim).0 is),
      λ t. elim (which p r claim t) [ inl early ↦ (so_far p r claim).1 early | inr here ↦ absurd (none r claim here.1) ],
    )

    -- on its workstation nothing is held
    pub row_holds_none : takes (attribute_at c op.workstation) ≡ false → AreHeldAmong c (i + 1) held
    row_holds_none none = row_passed_over (λ r claim by. true≢false (sym by.known ∙ none))

    nothing_yet : (r : Name) → get held (r, o) ≡ None
    nothing_yet r = at (get held (r, o)) refl
      where
        at : (x : Option Claim) → get held (r, o) ≡ x → get held (r, o) ≡ None
        at None e = e
        at (Some claim) e =
            let t = (so_far o r claim).0 e in
            let here : t.place ≡ i = one_place operation_cmp_total (entries c.operations) (entries_in_order operation_cmp c.operations) t.place i o t.operation op t.stands row in
            absurd (omega (arith, t.before, here))

    -- the operation has taken what it holds
    module _ (known : takes (attribute_at c op.workstation) ≡ true) (now : Held) (taken : HaveTaken held o op.needs op.mark now) where
      its_own : (p : OpKey) (r : Name) (claim : Claim) → p ≡ o → (get now (r, p) ≡ Some claim) ↔ IsHeldAmong c (i + 1) p r claim
      its_own p r claim same =
          let moved : get now (r, p) ≡ get now (r, o) = ap (λ z. get now (r, z)) same in (
            λ is. let t = (taken.own r (nothing_yet r) claim).0 (sym moved ∙ is) in
                record {
                  place = i;
                  operation = op;
                  before = omega arith;
                  stands = row ∙ ap (λ z. Some (z, op)) (sym same);
                  by = record { keep = t.0; needs = t.1; known = known; holds = t.2 };
                },
            λ t. elim (which p r claim t) [
              | inl early ↦ absurd (none-some claim (sym (nothing_yet r) ∙ ap (λ z. get held (r, z)) (sym same) ∙ (so_far p r claim).1 early))
              | inr here ↦ moved ∙ (taken.own r (nothing_yet r) claim).1 (here.1.keep, here.1.needs, here.1.holds)
            ],
          )

      anothers : (p : OpKey) (r : Name) (claim : Claim) → p ≢ o → (get now (r, p) ≡ Some claim) ↔ IsHeldAmong c (i + 1) p r claim
      anothers p r claim differs =
          let same : get now (r, p) ≡ get held (r, p) = taken.others p r differs in (
            λ is. later p r claim ((so_far p r claim).0 (sym same ∙ is)),
            λ t. elim (which p r claim t) [ inl early ↦ same ∙ (so_far p r claim).1 early | inr here ↦ absurd (differs here.0) ],
          )

      pub row_takes : AreHeldAmong c (i + 1) now
      row_takes p r claim = elim (one_or_two operation_cmp_total operation_cmp-IsAntisymmetric p o) [
        | inl same ↦ its_own p r claim same
        | inr differs ↦ anothers p r claim differs
      ]

  -- past the last row
  pub rows_held : (i : ℕ) (held : Held) → length (entries c.operations) ≤ i → AreHeldAmong c i held → AreHeldIn c held
  rows_held i held past so_far o r claim = (
    λ is. let t = (so_far o r claim).0 is in
        let found = row_found c t.place o t.operation t.stands in
        (t.by.keep, (t.operation, found, (t.by.needs, t.by.known, t.by.holds))),
    λ (keep, (op, found, (needs, known, holds))).
        let at = row_of c o op found in
        (so_far o r claim).1 (record {
          place = at.0;
          operation = op;
          before = omega (arith, past, slice_get_within (entries c.operations) at.0 (o, op) at.1);
          stands = at.1;
          by = record { keep = keep; needs = needs; known = known; holds = holds };
        }),
  )
