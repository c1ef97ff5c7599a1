-- What each kind of small request writes.
use Rattle.std.proofs.Common.{◌≡◌, ◌↔◌, refl, sym, ap, ◌∙◌, Bool, true, List, Some}
use Rattle.std.proofs.lemmas.Option.{same_Some}
use Rattle.std.specs.Cmp.{both_ways, eq_by_cmp_equiv}
use Rattle.std.specs.FinMap.{contains_key, insert}
use Rattle.std.specs.Ordering.{eq_by_cmp}
use Rattle.plan_basics.specs.Keys.{Name, operation_cmp, operation_cmp_total, operation_cmp-IsAntisymmetric}
use Rattle.plan_basics.specs.declared.keys.OpKey.{OpKey}
use Rattle.plan_checks.specs.plan_changes.proofs.Remarks.{marking, remaking}
use Rattle.plan_checks.specs.plan_changes.specs.Markings.{DifferInMarks}
use Rattle.plan_drafts.proofs.MadeEntries.{key_of}
use Rattle.plan_model.specs.Contents.{Contents, with_availability}
use Rattle.plan_model.specs.Revise.{revise}
use Rattle.plan_model.specs.Ready.{with_mark}
use Rattle.workstations.specs.Timetables.{NamedWorkstation}
use Rattle.plan_model.specs.Markings.{marking_of, with_marking}
use Rattle.plan_records.specs.Changes.{Changes, IsRequest, is_at, marked, revised}
use Rattle.plan_records.specs.declared.What.{What}
use Rattle.ready_list.specs.Choice.{is_among}
use Rattle.small_requests.specs.EditedKeys.{AreEditedKeys}
use Rattle.small_requests.specs.Revisions.{IsRevisionFor}
use Rattle.small_requests.specs.declared.revisions.Revision.TheVariants as revision
use Rattle.status_rules.specs.declared.Mark.{Mark}

-- a plan differs nowhere from itself
pub same_everywhere : (P : Contents) (os : List OpKey) → DifferInMarks P P os
same_everywhere P os = record {
  workstations = refl;
  resources = refl;
  occurrences = refl;
  pairs = refl;
  known = λ o. refl;
  elsewhere = λ o other. refl;
  remarked = λ o a b at_a at_b. ap (with_marking (marking_of a)) (same_Some b a (sym at_b ∙ at_a));
}

-- these are the keys of what is o
abbrev IsKeyOf : OpKey → List OpKey → Type 0
IsKeyOf o os = (q : OpKey) → (is_among os q ≡ true) ↔ (Some o ≡ Some q)

-- one of them is what is o
one_key : (o : OpKey) (os : List OpKey) → IsKeyOf o os → (q : OpKey) → is_among os q ≡ is_at o q
one_key o os are q = both_ways (is_among os q) (is_at o q)
    (λ among. ap (λ z. eq_by_cmp operation_cmp z o) (sym (same_Some o q ((are q).0 among))) ∙ (eq_by_cmp_equiv operation_cmp_total).refl o)
    (λ at. (are q).1 (ap Some (sym (key_of operation_cmp-IsAntisymmetric q o at))))

module _ (P : Contents) (w : What) (legal : IsRequest w) where
  -- nothing
  pub writes_nothing : Changes P w P → IsRevisionFor P w revision.Nothing
  writes_nothing changes = record { legal = legal; has_place = tt; changes = λ os are. changes; remarks = λ os are. same_everywhere P os }

  -- a mark on all that it edits
  pub marks_all : (mark : Mark) → ((os : List OpKey) → AreEditedKeys P w os → Changes P w (revised (is_among os) (with_mark mark) P)) → IsRevisionFor P w (revision.Mark mark)
  marks_all mark changes = record { legal = legal; has_place = tt; changes = changes; remarks = λ os are. marking P os mark }

  module _ (o : OpKey) (its : (os : List OpKey) → AreEditedKeys P w os → IsKeyOf o os) where
    -- a mark on the one that it edits
    pub marks_one : (mark : Mark) → ((Q : Contents) → Q ≡ marked o mark P → Changes P w Q) → IsRevisionFor P w (revision.Mark mark)
    marks_one mark changes = marks_all mark (λ os are. changes (revised (is_among os) (with_mark mark) P) (λ i. revised (λ q. one_key o os (its os are) q i) (with_mark mark) P))

    -- a hold, or its end
    pub holds_one : (held : Bool) → ((Q : Contents) → Q ≡ revised (is_at o) (λ op. record op { held = held }) P → Changes P w Q) → IsRevisionFor P w (revision.Held o held)
    holds_one held changes = record {
      legal = legal;
      has_place = tt;
      changes = λ os are. changes (revised (is_at o) (λ op. record op { held = held }) P) refl;
      remarks = λ os are. remaking P os (is_at o) (λ op. record op { held = held }) (λ q at. one_key o os (its os are) q ∙ at) (λ op. refl);
    }

    -- a no-operation, or its end
    pub makes_nop : (nop : Bool) → ((Q : Contents) → Q ≡ revised (is_at o) (λ op. record op { nop = nop }) P → Changes P w Q) → IsRevisionFor P w (revision.Nop o nop)
    makes_nop nop changes = record {
      legal = legal;
      has_place = tt;
      changes = λ os are. changes (revised (is_at o) (λ op. record op { nop = nop }) P) refl;
      remarks = λ os are. remaking P os (is_at o) (λ op. record op { nop = nop }) (λ q at. one_key o os (its os are) q ∙ at) (λ op. refl);
    }

  -- a special resource
  pub makes_available : (r : Name) (available : Bool) → contains_key P.resources r ≡ true → Changes P w (record P { resources = revise (with_availability r available) P.resources }) → IsRevisionFor P w (revision.Available r available)
  makes_available r available known changes = record { legal = legal; has_place = known; changes = λ os are. changes; remarks = λ os are. same_everywhere (record P { resources = revise (with_availability r available) P.resources }) os }

  -- a workstation
  pub opens : (v : NamedWorkstation) → contains_key P.workstations v.0 ≡ true → Changes P w (record P { workstations = insert P.workstations v.0 v.1 }) → IsRevisionFor P w (revision.Opened v)
  opens v known changes = record { legal = legal; has_place = known; changes = λ os are. changes; remarks = λ os are. same_everywhere (record P { workstations = insert P.workstations v.0 v.1 }) os }
