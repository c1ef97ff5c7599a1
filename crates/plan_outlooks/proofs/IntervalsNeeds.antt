-- At which minutes the intervals of a workstation begin, and which special resources are needed, by lists.
use Rattle.std.proofs.Common.{◌≡◌, sym, ap, subst, ◌∙◌, ℕ, ◌<◌, Bool, List, get_or, length, map, Some}
use Rattle.std.specs.Prelude.{Decides}
use Rattle.std.specs.Cmp.{nat_cmp_total}
use Rattle.std.specs.FinMap.{from_entries, get, nat_cmp-IsAntisymmetric}
use Rattle.std.specs.List.Sorted.{IsStrictlySortedBy}
use Rattle.std.specs.Ordering.{nat_cmp}
use Rattle.std.proofs.lemmas.Option.{same_Some, slice_get-get_or}
use Rattle.plan_basics.specs.Intervals.{OpenInterval}
use Rattle.plan_basics.specs.Keys.{Name}
use Rattle.plan_basics.specs.declared.keys.OpKey.{OpKey}
use Rattle.plan_model.specs.Contents.{Contents, Operation}
use Rattle.plan_model.specs.special_resources.specs.Holders.{Usage}
use Rattle.plan_model.specs.special_resources.specs.Holdings.{usage_of}
use Rattle.plan_model.specs.special_resources.specs.Needs.{AreInNameOrder, Usages, usages_of}
use Rattle.plan_model.specs.special_resources.specs.declared.Need.{Need}
use Rattle.plan_model.specs.special_resources.proofs.Members.{got_by_row, row_by_got}
use Rattle.plan_model.specs.special_resources.proofs.MoreNeeds.{need_by_usage, usage_by_need}
use Rattle.plan_reasons.specs.Reasons.{BeginsAt}
use Rattle.workstations.specs.Workstations.{Workstation}
use Rattle.plan_outlooks.specs.Paths.{OpensAt}

-- what is at an index is there by whatever else is read past the end
pub read_anyhow : {X : Type 0} (xs : List X) (i : ℕ) (d e : X) → i < length xs → get_or xs i d ≡ get_or xs i e
read_anyhow xs i d e lt = let a = slice_get-get_or xs i d lt in let b = slice_get-get_or xs i e lt in cc

-- ---- intervals

abbrev from_of : OpenInterval → ℕ
from_of x = x.from

abbrev itself : OpenInterval → OpenInterval
itself x = x

module _ (ws : Workstation) (items : List OpenInterval) (same : ws.intervals ≡ from_entries (map (λ (x : OpenInterval). (x.from, x)) items)) (m : ℕ) where
  pub opened_here : IsStrictlySortedBy nat_cmp (map (λ (x : OpenInterval). x.from) items) → (i : ℕ) (d : OpenInterval) → i < length items → (get_or items i d).from ≡ m → BeginsAt ws m
  opened_here sorted i d lt e =
      let x = get_or items i d in
      let there = got_by_row nat_cmp nat_cmp_total nat_cmp-IsAntisymmetric from_of itself items sorted x (i, lt, read_anyhow items i x d lt) in
      subst (BeginsAt ws) e (x, ap (λ all. get all x.from) same ∙ there)

  pub opened_never : ((i : ℕ) (d : OpenInterval) → i < length items → ¬ ((get_or items i d).from ≡ m)) → ¬ BeginsAt ws m
  opened_never none (x, e) =
      let r = row_by_got nat_cmp nat_cmp_total nat_cmp-IsAntisymmetric from_of itself items m x (ap (λ all. get all m) (sym same) ∙ e) in
      none r.1.0 r.0 r.1.1 (ap from_of r.1.2 ∙ r.2)

-- ---- needs

module _ (usages : Usages) (items : List Need) (same : usages ≡ usages_of items) (sorted : AreInNameOrder items) where
  pub needed_here : (i : ℕ) (d : Need) → i < length items → (x : Usage) × (get usages (get_or items i d).name ≡ Some x)
  needed_here i d lt =
      let n = get_or items i d in
      (usage_of n, ap (λ (u : Usages). get u n.name) same ∙ usage_by_need items sorted n (i, lt, read_anyhow items i n d lt))

  -- what is so of no need's name is so of no name that is needed
  pub needed_nowhere : (IsSo : Name → Type 0) → ((i : ℕ) (d : Need) → i < length items → ¬ IsSo (get_or items i d).name) → (r : Name) (x : Usage) → get usages r ≡ Some x → ¬ IsSo r
  needed_nowhere IsSo none r x e so =
      let n = need_by_usage items sorted r x (ap (λ (u : Usages). get u r) (sym same) ∙ e) in
      none n.1.0 n.0 n.1.1 (subst (λ (z : Need). IsSo z.name) (sym n.1.2) (subst IsSo (sym n.2) so))

-- ---- openings of an operation's workstation

pub opens_by : (P : Contents) (o : OpKey) (op : Operation) → get P.operations o ≡ Some op → (ws : Workstation) → get P.workstations op.workstation ≡ Some ws → (m : ℕ) (b : Bool) → Decides b (BeginsAt ws m) → Decides b (OpensAt P o m)
opens_by P o op is ws found m b told = (
  (λ e. let x = told.0 e in (op, is, (ws, x.0, found, x.1))),
  (λ h.
      let (other, its, opens) = h in
      let (there, x, known, at) = opens in
      let same = same_Some other op (sym its ∙ is) in
      let same_workstation = same_Some there ws (sym known ∙ ap (λ (z : Operation). get P.workstations z.workstation) same ∙ found) in
      told.1 (x, ap (λ (w : Workstation). get w.intervals m) (sym same_workstation) ∙ at)),
)
