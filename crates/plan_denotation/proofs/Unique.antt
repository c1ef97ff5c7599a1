-- Records denote one plan at most, one extension and one addition.
use Rattle.std.proofs.Common.{◌≡◌, sym, subst, ap, ◌∙◌, ℕ, true, List, Some, unwrap_or}
use Rattle.std.specs.declared.cmp.Ordering.{Ordering}
use Rattle.std.specs.Cmp.{nat_cmp_total, both_ways}
use Rattle.std.specs.FinMap.{FinMap, get, nat_cmp-IsAntisymmetric}
use Rattle.std.specs.FinSet as set
use Rattle.plan_basics.specs.declared.keys.OccKey.{OccKey}
use Rattle.plan_basics.specs.declared.keys.OpKey.{OpKey}
use Rattle.plan_basics.specs.Keys.{Name, name_cmp_total, name_cmp-IsAntisymmetric, occurrence_cmp_total, occurrence_cmp-IsAntisymmetric, operation_cmp_total, operation_cmp-IsAntisymmetric}
use Rattle.plan_basics.specs.Intervals.{OpenInterval}
use Rattle.plan_model.specs.workstations.specs.Workstations.{Workstation}
use Rattle.plan_items.specs.special_resources.specs.Holders.{Usage}
use Rattle.plan_model.specs.Contents.{Contents, Operation, AddedParts}
use Rattle.plan_model.specs.declared.Occurrence.{Occurrence}
use Rattle.plan_model.specs.declared.Stock.{Stock}
use Rattle.plan_items.specs.declared.Item.{Item}
use Rattle.plan_items.specs.Items.{Fields}
use Rattle.plan_drafts.specs.declared.RowKey.TheVariants as key
use Rattle.plan_drafts.specs.Records.{entered, StandsInAdded, StandsIn, IsItemOf, IsItemOfPlan, AreItems, OnePlan, OnePlanOfItems, DenotesAddition, DenotesExtension, OneExtension, OneAddition}
use Rattle.plan_drafts.proofs.Tables.{some_is, same_entries}
use Rattle.plan_drafts.proofs.Needed.{mapped}
use Rattle.plan_drafts.proofs.Pairs.{pair_cmp_total, pair_cmp-IsAntisymmetric}
use Rattle.plan_denotation.proofs.Denoting.{same_items, denoted_items}
use Rattle.plan_denotation.proofs.ItemKinds as kinds
use Rattle.plan_denotation.proofs.ItemKinds.{read_in, read_stands}
use Rattle.plan_denotation.proofs.ItemsHeld.{Holds, held_by_extension, held_by_plan, need_is, occurrence_is, operation_is, pair_is}
use Rattle.std.proofs.lemmas.Option.{same_Some}

-- ---- maps that have what an item says
agree : {K X : Type 0} {R : K → K → Ordering} (m n : FinMap R X) {k o : K} → k ≡ o → {v : X} (x : X) → get m k ≡ Some v → get n k ≡ Some v → get m o ≡ Some x → get n o ≡ Some x
agree m n same x in_m in_n e = subst (λ z. get n z ≡ Some x) same (in_n ∙ sym in_m ∙ ap (get m) same ∙ e)

-- the same of maps in what they have
agree_in :
    {K X L Y : Type 0} {R : K → K → Ordering} {S : L → L → Ordering} {k o : K} {l q : L} {v : Y} (part : X → FinMap S Y) (m n : FinMap R X) → k ≡ o → l ≡ q →
    (x : X) × (get m k ≡ Some x) × (get (part x) l ≡ Some v) → (y : X) × (get n k ≡ Some y) × (get (part y) l ≡ Some v) →
    (a b : X) → get m o ≡ Some a → get n o ≡ Some b → (u : Y) → get (part a) q ≡ Some u → get (part b) q ≡ Some u
agree_in {l = l} {v = v} part m n same known (x, there, in_m) (y, found, in_n) a b is_a is_b u e =
    let one : x ≡ a = same_Some x a (sym there ∙ ap (get m) same ∙ is_a) in
    let two : y ≡ b = same_Some y b (sym found ∙ ap (get n) same ∙ is_b) in
    agree (part a) (part b) known u (subst (λ z. get (part z) l ≡ Some v) one in_m) (subst (λ z. get (part z) l ≡ Some v) two in_n) e

-- ---- occurrences, operations and pairs
module _ {items : List Item} {s t : AddedParts} (a : Holds items s) (b : Holds items t) where
  same_occurrence : (c : OccKey) (x : Occurrence) → get s.occurrences c ≡ Some x → get t.occurrences c ≡ Some x
  same_occurrence c x e =
      let r = read_in kinds.occurrences items c (a.all (key.Occurrence c) (some_is (get s.occurrences c) x e)) in
      agree s.occurrences t.occurrences r.2 x (occurrence_is a r.0 r.1) (occurrence_is b r.0 r.1) e

  same_pair : (q : OpKey × OpKey) → set.contains s.pairs q ≡ true → set.contains t.pairs q ≡ true
  same_pair q e = let r = read_in kinds.pairs items q (a.all (key.Dependency q.0 q.1) e) in subst (λ z. set.contains t.pairs z ≡ true) r.2 (pair_is b r.0 r.1)

  same_need : (o : OpKey) (op other : Operation) → get s.operations o ≡ Some op → get t.operations o ≡ Some other → (r : Name) (u : Usage) → get op.needs r ≡ Some u → get other.needs r ≡ Some u
  same_need o op other is_op is_other r u e =
      let n = read_in kinds.needs items (o, r) (a.all (key.Need o r) (op, is_op, some_is (get op.needs r) u e)) in
      agree_in (λ (x : Operation). x.needs) s.operations t.operations (ap (λ q. q.0) n.2) (ap (λ q. q.1) n.2) (need_is a n.0 n.1) (need_is b n.0 n.1) op other is_op is_other u e

module _ {items : List Item} {s t : AddedParts} (a : Holds items s) (b : Holds items t) where
  same_occurrences : s.occurrences ≡ t.occurrences
  same_occurrences = same_entries occurrence_cmp_total occurrence_cmp-IsAntisymmetric s.occurrences t.occurrences (same_occurrence a b) (same_occurrence b a)

  same_pairs : s.pairs ≡ t.pairs
  same_pairs = set.same_set pair_cmp_total pair_cmp-IsAntisymmetric s.pairs t.pairs (λ q. both_ways (set.contains s.pairs q) (set.contains t.pairs q) (same_pair a b q) (same_pair b a q))

  same_operation : (o : OpKey) (op : Operation) → get s.operations o ≡ Some op → get t.operations o ≡ Some op
  same_operation o op e =
      let r = read_in kinds.operations items o (a.all (key.Operation o) (some_is (get s.operations o) op e)) in
      let in_s = operation_is a r.0 r.1 in
      let in_t = operation_is b r.0 r.1 in
      let other : Operation = in_t.0 in
      let one : in_s.0 ≡ op = same_Some in_s.0 op (sym in_s.2 ∙ ap (get s.operations) r.2 ∙ e) in
      let found : get t.operations o ≡ Some other = ap (get t.operations) (sym r.2) ∙ in_t.2 in
      let terms : in_s.1 ≡ in_t.1 = same_Some in_s.1 in_t.1 (sym in_s.3 ∙ ap (λ m. get m r.0.key.occurrence) same_occurrences ∙ in_t.3) in
      let un = a.untouched o op e in
      let too = b.untouched o other found in
      let p = in_s.4 in
      let q = in_t.4 in
      let w : other.workstation ≡ op.workstation = q.workstation ∙ sym p.workstation ∙ ap (λ (z : Operation). z.workstation) one in
      let n : other.duration ≡ op.duration = q.duration ∙ sym p.duration ∙ ap (λ (z : Operation). z.duration) one in
      let x : other.r1 ≡ op.r1 = q.fixed.0 ∙ sym p.fixed.0 ∙ ap (λ (z : Operation). z.r1) one in
      let y : other.r2 ≡ op.r2 = q.fixed.1 ∙ sym p.fixed.1 ∙ ap (λ (z : Operation). z.r2) one in
      let m : other.not_before ≡ op.not_before = q.not_before ∙ sym p.not_before ∙ ap (λ (z : Operation). z.not_before) one in
      let d : other.deadline ≡ op.deadline = q.deadline ∙ ap (λ (z : Occurrence). unwrap_or r.0.deadline z.deadline) (sym terms) ∙ sym p.deadline ∙ ap (λ (z : Operation). z.deadline) one in
      let needs : other.needs ≡ op.needs = same_entries name_cmp_total name_cmp-IsAntisymmetric other.needs op.needs (same_need b a o other op found e) (same_need a b o op other e found) in
      let mark : other.mark ≡ op.mark = too.0 ∙ sym un.0 in
      let held : other.held ≡ op.held = too.1 ∙ sym un.1 in
      let nop : other.nop ≡ op.nop = too.2 ∙ sym un.2 in
      let same : other ≡ op = λ i. record { workstation = w i; duration = n i; r1 = x i; r2 = y i; not_before = m i; deadline = d i; needs = needs i; mark = mark i; held = held i; nop = nop i } in
      found ∙ ap (λ z. Some z) same

same_added : {items : List Item} {s t : AddedParts} → Holds items s → Holds items t → s ≡ t
same_added {s = s} {t = t} a b =
    let c = same_occurrences a b in
    let o = same_entries operation_cmp_total operation_cmp-IsAntisymmetric s.operations t.operations (same_operation a b) (same_operation b a) in
    let p = same_pairs a b in
    λ i. record { occurrences = c i; operations = o i; pairs = p i }

-- ---- special resources and workstations
module _ (items : List Item) (P Q : Contents) (a : AreItems (StandsIn P) (IsItemOfPlan P) items) (b : AreItems (StandsIn Q) (IsItemOfPlan Q) items) where
  same_resource : (r : Name) (x : Stock) → get P.resources r ≡ Some x → get Q.resources r ≡ Some x
  same_resource r x e =
      let y = read_in kinds.resources items r (a.all (key.Resource r) (some_is (get P.resources r) x e)) in
      agree P.resources Q.resources y.2 x (read_stands kinds.resources (StandsIn P) items a.stand y.0 y.1) (read_stands kinds.resources (StandsIn Q) items b.stand y.0 y.1) e

  same_interval : (w : Name) (ws other : Workstation) → get P.workstations w ≡ Some ws → get Q.workstations w ≡ Some other → (m : ℕ) (x : OpenInterval) → get ws.intervals m ≡ Some x → get other.intervals m ≡ Some x
  same_interval w ws other is_ws is_other m x e =
      let y = read_in kinds.intervals items (w, m) (a.all (key.Interval w m) (ws, is_ws, some_is (get ws.intervals m) x e)) in
      agree_in (λ (z : Workstation). z.intervals) P.workstations Q.workstations (ap (λ q. q.0) y.2) (ap (λ q. q.1) y.2)
      (read_stands kinds.intervals (StandsIn P) items a.stand y.0 y.1) (read_stands kinds.intervals (StandsIn Q) items b.stand y.0 y.1) ws other is_ws is_other x e

same_workstation : (items : List Item) (P Q : Contents) → AreItems (StandsIn P) (IsItemOfPlan P) items → AreItems (StandsIn Q) (IsItemOfPlan Q) items → (w : Name) (ws : Workstation) → get P.workstations w ≡ Some ws → get Q.workstations w ≡ Some ws
same_workstation items P Q a b w ws e =
    let y = read_in kinds.workstations items w (a.all (key.Workstation w) (some_is (get P.workstations w) ws e)) in
    let p = mapped (λ ws. ws.attribute) (get P.workstations y.0.0) y.0.1 (read_stands kinds.workstations (StandsIn P) items a.stand y.0 y.1) in
    let q = mapped (λ ws. ws.attribute) (get Q.workstations y.0.0) y.0.1 (read_stands kinds.workstations (StandsIn Q) items b.stand y.0 y.1) in
    let other : Workstation = q.0 in
    let found : get Q.workstations w ≡ Some other = ap (get Q.workstations) (sym y.2) ∙ q.1 in
    let one : p.0 ≡ ws = same_Some p.0 ws (sym p.1 ∙ ap (get P.workstations) y.2 ∙ e) in
    let attribute : other.attribute ≡ ws.attribute = q.2 ∙ sym p.2 ∙ ap (λ (z : Workstation). z.attribute) one in
    let intervals : other.intervals ≡ ws.intervals = same_entries nat_cmp_total nat_cmp-IsAntisymmetric other.intervals ws.intervals (same_interval items Q P b a w other ws found e) (same_interval items P Q a b w ws other e found) in
    let same : other ≡ ws = λ i. record { attribute = attribute i; intervals = intervals i } in
    found ∙ ap (λ z. Some z) same

pub one_plan_of_items : OnePlanOfItems
one_plan_of_items items P Q d e =
    let a = d.are in
    let b = e.are in
    let s : entered P ≡ entered Q = same_added (held_by_plan P d.draft items a) (held_by_plan Q e.draft items b) in
    let workstations = same_entries name_cmp_total name_cmp-IsAntisymmetric P.workstations Q.workstations (same_workstation items P Q a b) (same_workstation items Q P b a) in
    let resources = same_entries name_cmp_total name_cmp-IsAntisymmetric P.resources Q.resources (same_resource items P Q a b) (same_resource items Q P b a) in
    λ i. record { workstations = workstations i; resources = resources i; occurrences = (s i).occurrences; operations = (s i).operations; pairs = (s i).pairs }

pub one_plan : OnePlan
one_plan records P Q d e =
    let items = d.described.items in
    one_plan_of_items items P Q (denoted_items records items d.described.said P d) (denoted_items records items d.described.said Q e)

pub one_extension : OneExtension
one_extension records s t d e =
    let items = d.described.items in
    let b : AreItems (StandsInAdded t) (IsItemOf t) items = subst (AreItems (StandsInAdded t) (IsItemOf t)) (same_items records e.described.items items e.described.said d.described.said) e.described.are in
    same_added (held_by_extension s d.extension items d.described.are) (held_by_extension t e.extension items b)

pub as_extension : (records : List Fields) (s : AddedParts) → DenotesAddition records s → DenotesExtension records s
as_extension records s d = record { extension = d.addition.extension; described = d.described }

pub one_addition : OneAddition
one_addition records s t d e = one_extension records s t (as_extension records s d) (as_extension records t e)
