-- The rows of the intervals of a plan, and the order of its needs.
use Rattle.std.proofs.Common.{◌≡◌, refl, sym, subst, ap, ◌∙◌, ℕ, List, [], ◌∷◌, map, Contains, Some}
use Rattle.std.specs.FinMap.{entries, from_entries, get, nat_cmp-IsAntisymmetric}
use Rattle.std.specs.Cmp.{nat_cmp_total}
use Rattle.std.specs.List.Sorted.{IsStrictlySortedBy}
use Rattle.std.specs.Map.{keys_of}
use Rattle.std.specs.Ordering.{nat_cmp, ordering_then}
use Rattle.plan_basics.proofs.Members.{contains_mapped, mapped_contains}
use Rattle.plan_basics.specs.Intervals.{OpenInterval}
use Rattle.plan_basics.specs.Keys.{Name, name_cmp, name_cmp-IsAntisymmetric, name_cmp_total, operation_cmp, operation_cmp_total}
use Rattle.plan_basics.specs.declared.keys.OpKey.{OpKey}
use Rattle.plan_records.specs.plan_drafts.specs.declared.RowKey.TheVariants as key
use Rattle.plan_model.proofs.Entries.{entries_in_order, rows_in_order}
use Rattle.plan_model.specs.Contents.{Operation}
use Rattle.plan_model.specs.Plan.{Plan}
use Rattle.plan_records.specs.declared.PlanRow.{PlanRow}
use Rattle.plan_records.specs.declared.PlanRow.TheVariants as row
use Rattle.plan_rows.proofs.BothKeys.{all_ascend, from_one, in_all, keys_made, under_made}
use Rattle.plan_rows.proofs.KeptRows.{kept_has, kept_is, keyed_members}
use Rattle.plan_rows.specs.Rows.{all_intervals, all_needs, interval_row, intervals_within, needs_within, under_both}
use Rattle.plan_rows.specs.Tables.{AreRowsOf, IsRowOf}
use Rattle.special_resources.specs.Holders.{Usage}
use Rattle.special_resources.specs.Holdings.{usage_of}
use Rattle.special_resources.specs.Needs.{AreInNameOrder, entry_of, need_of, usages_of}
use Rattle.special_resources.specs.declared.Need.{Need}
use Rattle.workstations.specs.Timetables.{NamedWorkstation}
use Rattle.workstations.specs.Workstations.{IsWorkstation, Workstation}

-- ---- the order of both

pub intervals_ascend : (ws : List NamedWorkstation) → IsStrictlySortedBy name_cmp (keys_of ws) → (xs : List ((Name × ℕ) × OpenInterval)) → xs ≡ all_intervals ws
    → IsStrictlySortedBy (λ x y. ordering_then (name_cmp x.0 y.0) (nat_cmp x.1 y.1)) (keys_of xs)
intervals_ascend ws up xs same = rw same (all_ascend intervals_within name_cmp nat_cmp name_cmp_total (λ w. entries_in_order nat_cmp w.intervals) ws up)

needs_keys : (xs : List (Name × Usage)) → keys_of {K = Name} {X = Need} (map (λ (x : Name × Usage). (x.0, need_of x)) xs) ≡ keys_of xs
needs_keys [] = refl
needs_keys (x ∷ xs) = λ i. x.0 ∷ needs_keys xs i

needs_in_order : (o : Operation) → IsStrictlySortedBy name_cmp (keys_of (needs_within o))
needs_in_order o = subst (IsStrictlySortedBy name_cmp) (sym (needs_keys (entries o.needs))) (entries_in_order name_cmp o.needs)

pub needs_ascend : (os : List (OpKey × Operation)) → IsStrictlySortedBy operation_cmp (keys_of os) → (xs : List ((OpKey × Name) × Need)) → xs ≡ all_needs os
    → IsStrictlySortedBy (λ x y. ordering_then (operation_cmp x.0 y.0) (name_cmp x.1 y.1)) (keys_of xs)
needs_ascend os up xs same = rw same (all_ascend needs_within operation_cmp name_cmp operation_cmp_total needs_in_order os up)

-- ---- of one workstation, and of one operation, as they are kept

pub intervals_listed : (w : NamedWorkstation) (xs : List OpenInterval) → w.1.intervals ≡ from_entries (map (λ x. (x.from, x)) xs) → IsStrictlySortedBy nat_cmp (map (λ x. x.from) xs)
    → map {B = (Name × ℕ) × OpenInterval} (λ (x : OpenInterval). ((w.0, x.from), x)) xs ≡ under_both intervals_within w
intervals_listed w xs kept up =
    let up_keys = subst (IsStrictlySortedBy nat_cmp) (sym (keys_made (λ (x : OpenInterval). x.from) (λ x. x) xs)) up in
    let listed = ap entries kept ∙ rows_in_order nat_cmp_total (map {B = ℕ × OpenInterval} (λ (x : OpenInterval). (x.from, x)) xs) up_keys in
    under_made w.0 (λ (x : OpenInterval). x.from) (λ x. x) xs ∙ ap (map {B = (Name × ℕ) × OpenInterval} (λ (x : ℕ × OpenInterval). ((w.0, x.0), x.1))) (sym listed)

as_needs : (ns : List Need) → map {B = Name × Need} (λ (x : Name × Usage). (x.0, need_of x)) (map entry_of ns) ≡ map {B = Name × Need} (λ (n : Need). (n.name, n)) ns
as_needs [] = refl
as_needs (n ∷ ns) = λ i. (n.name, n) ∷ as_needs ns i

pub needs_kept : (o : OpKey × Operation) (ns : List Need) → o.1.needs ≡ usages_of ns → AreInNameOrder ns → map {B = (OpKey × Name) × Need} (λ (n : Need). ((o.0, n.name), n)) ns ≡ under_both needs_within o
needs_kept o ns kept up =
    let up_keys = subst (IsStrictlySortedBy name_cmp) (sym (keys_made (λ (n : Need). n.name) usage_of ns)) up in
    let listed = ap entries kept ∙ rows_in_order name_cmp_total (map entry_of ns) up_keys in
    under_made o.0 (λ (n : Need). n.name) (λ n. n) ns
    ∙ ap (map {B = (OpKey × Name) × Need} (λ (x : Name × Need). ((o.0, x.0), x.1))) (sym (ap (map {B = Name × Need} (λ (x : Name × Usage). (x.0, need_of x))) listed ∙ as_needs ns))

module _ (P : Plan) where
  -- ---- intervals
  abbrev intervals : List ((Name × ℕ) × OpenInterval)
  intervals = all_intervals (entries P.contents.workstations)

  -- the workstations of the plan are legal
  abbrev AreLegal : Type 0
  AreLegal = (w : Name) (ws : Workstation) → get P.contents.workstations w ≡ Some ws → IsWorkstation ws

  interval_of : AreLegal → (y : (Name × ℕ) × OpenInterval) → Contains intervals y
      → (ws : Workstation) × (get P.contents.workstations y.0.0 ≡ Some ws) × (get ws.intervals y.0.1 ≡ Some y.1) × (y.0.1 ≡ y.1.from)
  interval_of legal y has =
      let h = from_one intervals_within (entries P.contents.workstations) y has in
      let at = kept_is name_cmp_total name_cmp-IsAntisymmetric P.contents.workstations h.0 h.1 in
      let is = kept_is nat_cmp_total nat_cmp-IsAntisymmetric h.0.1.intervals h.2 h.3 in
      subst (λ (z : (Name × ℕ) × OpenInterval). (ws : Workstation) × (get P.contents.workstations z.0.0 ≡ Some ws) × (get ws.intervals z.0.1 ≡ Some z.1) × (z.0.1 ≡ z.1.from)) h.4
      (h.0.1, at, is, ((legal h.0.0 h.0.1 at).intervals h.2.0 h.2.1 is).0)

  interval_told : AreLegal → (r : PlanRow) → Contains (map interval_row intervals) r → IsRowOf 2 P r
  interval_told legal r has =
      let z = mapped_contains interval_row intervals r has in
      let h = interval_of legal z.0 z.2 in
      subst (IsRowOf 2 P) z.1 ((h.0, h.1, subst (λ m. get h.0.intervals m ≡ Some z.0.1) h.3 h.2), refl)

  interval_there : (r : PlanRow) → IsRowOf 2 P r → Contains (map interval_row intervals) r
  interval_there (row.Interval w i) (is, e) =
      contains_mapped interval_row intervals ((w, i.from), i)
      (in_all intervals_within (entries P.contents.workstations) (w, is.0) (i.from, i)
      (kept_has name_cmp_total name_cmp-IsAntisymmetric P.contents.workstations w is.0 is.1)
      (kept_has nat_cmp_total nat_cmp-IsAntisymmetric is.0.intervals i.from i is.2))
  interval_there r (is, e) = absurd (cc)

  pub are_intervals : AreLegal → (xs : List ((Name × ℕ) × OpenInterval)) → xs ≡ intervals → AreRowsOf (λ x. key.Interval x.0 x.1) 2 P (keys_of xs) (map interval_row xs)
  are_intervals legal xs same =
      subst (λ ys. AreRowsOf (λ x. key.Interval x.0 x.1) 2 P (keys_of ys) (map interval_row ys)) (sym same)
      (record {
        keyed = keyed_members (λ x. key.Interval x.0 x.1) interval_row intervals (λ y has. ap (key.Interval y.0.0) (sym (interval_of legal y has).3));
        all = λ r. (interval_told legal r, interval_there r);
      })
