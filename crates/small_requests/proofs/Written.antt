-- What is written beside operations, and put back.
use Rattle.std.proofs.Common.{◌≡◌, refl, sym, ap, ◌∙◌, Bool, true, false, cond, List, Option, Some, None, is_some, option_map, Ordering}
use Rattle.std.specs.Cmp.{IsTotalOrder, eq_by_cmp_equiv}
use Rattle.std.specs.FinMap.{FinMap, IsAntisymmetric, contains_key, get, get-insert, insert, same_map}
use Rattle.std.specs.Ordering.{eq_by_cmp}
use Rattle.std.proofs.lemmas.Option.{same_Some}
use Rattle.plan_basics.specs.Keys.{Name, name_cmp, name_cmp_total, name_cmp-IsAntisymmetric}
use Rattle.plan_basics.specs.declared.keys.OpKey.{OpKey}
use Rattle.plan_drafts.proofs.MadeEntries.{key_of}
use Rattle.plan_model.specs.Contents.{Contents, with_availability}
use Rattle.plan_model.specs.Revise.{get-revise, revise}
use Rattle.plan_model.specs.Valid.{IsSound}
use Rattle.plan_model.specs.declared.Stock.{Stock}
use Rattle.workstations.specs.Timetables.{NamedWorkstation}
use Rattle.plan_rows.specs.Touched.{KeepsQuantities, IsFacilityChange}
use Rattle.plan_rows.specs.declared.notes.FacilityChange.TheVariants as kind
use Rattle.small_requests.specs.Revisions.{PutsBack, with_facilities, written}
use Rattle.small_requests.specs.declared.revisions.Revision.{Revision}
use Rattle.small_requests.specs.declared.revisions.Revision.TheVariants as revision

-- what writes neither a special resource nor a workstation leaves them
pub leaves_others : (x : Revision) → ((r : Name) (available : Bool) → x ≡ revision.Available r available → ⊥) → ((w : NamedWorkstation) → x ≡ revision.Opened w → ⊥)
    → (keys : List OpKey) (P : Contents) → IsFacilityChange kind.Nothing P (written keys x P)
leaves_others (revision.Available r available) no_resource no_workstation keys P = absurd (no_resource r available refl)
leaves_others (revision.Opened w) no_resource no_workstation keys P = absurd (no_workstation w refl)
leaves_others revision.Nothing no_resource no_workstation keys P = (refl, refl, refl)
leaves_others (revision.Mark mark) no_resource no_workstation keys P = (refl, refl, refl)
leaves_others (revision.Held o held) no_resource no_workstation keys P = (refl, refl, refl)
leaves_others (revision.Nop o nop) no_resource no_workstation keys P = (refl, refl, refl)

same_quantity : (e available : Bool) (stock : Stock) → (cond e (record stock { available = available }) stock).quantity ≡ stock.quantity
same_quantity true available stock = refl
same_quantity false available stock = refl

quantity_of : (r : Name) (available : Bool) (n : Name) (stock : Option Stock) → option_map (λ s. s.quantity) (option_map (with_availability r available n) stock) ≡ option_map (λ s. s.quantity) stock
quantity_of r available n None = refl
quantity_of r available n (Some stock) = ap Some (same_quantity (eq_by_cmp name_cmp n r) available stock)

-- there is as much of each special resource where one becomes available, or not
pub keeps_quantities : (P : Contents) (r : Name) (available : Bool) → KeepsQuantities P (record P { resources = revise (with_availability r available) P.resources })
keeps_quantities P r available n =
    ap (option_map (λ s. s.quantity)) (get-revise name_cmp-IsAntisymmetric (with_availability r available) P.resources n)
    ∙ quantity_of r available n (get P.resources n)

-- it puts back nothing
pub puts_nothing_back : (x : Revision) → ((r : Name) (available : Bool) → x ≡ revision.Available r available → ⊥) → ((w : NamedWorkstation) → x ≡ revision.Opened w → ⊥)
    → (P : Contents) → PutsBack P x revision.Nothing
puts_nothing_back (revision.Available r available) no_resource no_workstation P = absurd (no_resource r available refl)
puts_nothing_back (revision.Opened w) no_resource no_workstation P = absurd (no_workstation w refl)
puts_nothing_back revision.Nothing no_resource no_workstation P = record { has_place = tt; back = refl }
puts_nothing_back (revision.Mark mark) no_resource no_workstation P = record { has_place = tt; back = refl }
puts_nothing_back (revision.Held o held) no_resource no_workstation P = record { has_place = tt; back = refl }
puts_nothing_back (revision.Nop o nop) no_resource no_workstation P = record { has_place = tt; back = refl }

-- what stands beside operations once it is written is sound, as the plan is before and then
pub with_facilities_sound : (x : Revision) (keys : List OpKey) (P : Contents) → IsSound P → IsSound (written keys x P) → IsSound (with_facilities x P)
with_facilities_sound revision.Nothing keys P before after = before
with_facilities_sound (revision.Mark mark) keys P before after = before
with_facilities_sound (revision.Held o held) keys P before after = before
with_facilities_sound (revision.Nop o nop) keys P before after = before
with_facilities_sound (revision.Available r available) keys P before after = after
with_facilities_sound (revision.Opened w) keys P before after = after

-- ---- one value put in, and the one that stood there put back

module _ {K X : Type 0} {R : K → K → Ordering} (total : IsTotalOrder R) (exact : IsAntisymmetric R) (k : K) (m : FinMap R X) where
  -- it is there
  pub there_after : (x : X) → contains_key (insert m k x) k ≡ true
  there_after x = ap is_some (get-insert total m k x k) ∙ ap (λ b. is_some (cond b (Some x) (get m k))) ((eq_by_cmp_equiv total).refl k)

  over : (e : Bool) (x old : X) (y : Option X) → (e ≡ true → y ≡ Some old) → cond e (Some old) (cond e (Some x) y) ≡ y
  over true x old y here = sym (here refl)
  over false x old y here = refl

  -- the map is as it was
  pub put_back : (x old : X) → get m k ≡ Some old → insert (insert m k x) k old ≡ m
  put_back x old known = same_map total exact (insert (insert m k x) k old) m (λ q.
      get-insert total (insert m k x) k old q
      ∙ ap (cond (eq_by_cmp R q k) (Some old)) (get-insert total m k x q)
      ∙ over (eq_by_cmp R q k) x old (get m q) (λ e. ap (get m) (key_of exact q k e) ∙ known))

-- ---- whether a special resource is available, as it was

made_there : {X : Type 0} (f : X → X) (x : Option X) → is_some (option_map f x) ≡ is_some x
made_there f (Some x) = refl
made_there f None = refl

available_again : (e : Bool) (stock was : Stock) (available : Bool) → (e ≡ true → stock ≡ was)
    → cond e (record (cond e (record stock { available = available }) stock) { available = was.available }) (cond e (record stock { available = available }) stock) ≡ stock
available_again true stock was available same = ap (λ (s : Stock). record stock { available = s.available }) (sym (same refl))
available_again false stock was available same = refl

-- the resources are as they were
as_available : (r : Name) (available : Bool) (was : Stock) (q : Name) (stock : Option Stock) → (q ≡ r → stock ≡ Some was)
    → option_map (with_availability r was.available q) (option_map (with_availability r available q) stock) ≡ stock
as_available r available was q None same = refl
as_available r available was q (Some stock) same =
    ap Some (available_again (eq_by_cmp name_cmp q r) stock was available (λ e. same_Some stock was (same (key_of name_cmp-IsAntisymmetric q r e))))

pub puts_resource_back : (P : Contents) (r : Name) (available : Bool) (was : Stock) → get P.resources r ≡ Some was → PutsBack P (revision.Available r available) (revision.Available r was.available)
puts_resource_back P r available was known =
    let made : Name → Stock → Stock = with_availability r available in
    let again : Name → Stock → Stock = with_availability r was.available in
    let got : (q : Name) → get (revise made P.resources) q ≡ option_map (made q) (get P.resources q) = get-revise name_cmp-IsAntisymmetric made P.resources in
    record {
      has_place = ap is_some (got r) ∙ made_there (made r) (get P.resources r) ∙ ap is_some known;
      back = ap (λ resources. record P { resources = resources }) (same_map name_cmp_total name_cmp-IsAntisymmetric (revise again (revise made P.resources)) P.resources (λ q.
          get-revise name_cmp-IsAntisymmetric again (revise made P.resources) q
          ∙ ap (option_map (again q)) (got q)
          ∙ as_available r available was q (get P.resources q) (λ same. ap (get P.resources) same ∙ known)));
    }

-- a workstation
pub puts_workstation_back : (P : Contents) (w old : NamedWorkstation) → old.0 ≡ w.0 → get P.workstations w.0 ≡ Some old.1 → PutsBack P (revision.Opened w) (revision.Opened old)
puts_workstation_back P w old name known = record {
  has_place = ap (contains_key (insert P.workstations w.0 w.1)) name ∙ there_after name_cmp_total name_cmp-IsAntisymmetric w.0 P.workstations w.1;
  back =
      ap (λ n. record P { workstations = insert (insert P.workstations w.0 w.1) n old.1 }) name
      ∙ ap (λ workstations. record P { workstations = workstations }) (put_back name_cmp_total name_cmp-IsAntisymmetric w.0 P.workstations w.1 old.1 known);
}
