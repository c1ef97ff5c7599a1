-- What a workstation has given out, and whether one more operation fits, where its operations are written out.
use Rattle.std.proofs.Common.{arith, ◌≡◌, ◌≢◌, inl, inr, refl, sym, ◌∙◌, ap, ap₂, subst, ℕ, ◌+◌, ◌<◌, ◌≤◌, false, cond, ◌&&◌, List, [], ◌∷◌, map, sum_by, Option, Some, None, is_eq}
use Rattle.std.specs.Ordering.{eq_by_cmp}
use Rattle.std.specs.Cmp.{nat_cmp_total, tied_itself}
use Rattle.std.specs.FinMap.{empty, entries, get, get-empty, get-from_entries, nat_cmp-IsAntisymmetric}
use Rattle.plan_basics.specs.declared.Attr.{Attr}
use Rattle.plan_basics.specs.declared.Refusal.{Refusal}
use Rattle.plan_basics.specs.declared.Refusal.TheVariants as refusal
use Rattle.plan_basics.specs.declared.keys.OpKey.{OpKey}
use Rattle.plan_basics.specs.Intervals.{IsOpenAt, OpenInterval}
use Rattle.plan_basics.specs.Keys.{Name, name_cmp}
use Rattle.workstations.specs.Workstations.{HasCapacity, HasRoom, Workstation, capacity_of}
use Rattle.workstations.specs.declared.Capacity.{Capacity}
use Rattle.status_rules.specs.Table.{marked_status}
use Rattle.plan_model.specs.Holdings.{given_out, holds_server, takes}
use Rattle.plan_model.specs.Contents.{Contents, Operation, attribute_at}
use Rattle.plan_model.specs.Starts.{FitsAt, IsAllowedToStart, MayStart}
use Rattle.plan_model.specs.Status.{IsReady}
use Rattle.std.proofs.lemmas.Option.{none-some, same_Some}
use Rattle.worked_examples.proofs.Literal.{entry_of}
use Rattle.worked_examples.specs.Night.{workstation_by}

-- the sum of a number over the operations of a list that hold a server of w, which reports so
abbrev pub given_by : Name → Option Attr → List (OpKey × Operation) → (Operation → ℕ) → ℕ
given_by w a es number = sum_by (λ op. cond (eq_by_cmp name_cmp op.workstation w && (takes a && holds_server (marked_status op.mark))) (number op) 0) (map (λ e. e.1) es)

abbrev pub given_out_by : Name → Option Attr → List (OpKey × Operation) → Capacity
given_out_by w a es = record { servers = given_by w a es (λ op. 1); r1 = given_by w a es (λ op. op.r1); r2 = given_by w a es (λ op. op.r2) }

pub given_out_is : (P : Contents) (w : Name) (a : Option Attr) (es : List (OpKey × Operation)) → attribute_at P w ≡ a → entries P.operations ≡ es → given_out P w ≡ given_out_by w a es
given_out_is P w a es is_a is_es = ap₂ (given_out_by w) is_a is_es

-- a workstation of one interval has its capacity alone
pub one_capacity : (a : Attr) (x : OpenInterval) (m : ℕ) (capacity : Capacity) → HasCapacity (workstation_by a ((x.from, x) ∷ [])) m capacity → capacity ≡ capacity_of x
one_capacity a x m capacity h =
    elim (entry_of nat_cmp_total nat_cmp-IsAntisymmetric ((x.from, x) ∷ []) h.0 h.1 h.2) [ inl e ↦ h.4 ∙ ap capacity_of e.1 | inr never ↦ absurd never ]

module _ (P : Contents) (o : OpKey) (op : Operation) (is : get P.operations o ≡ Some op) (a : Attr) (x : OpenInterval) (w : get P.workstations op.workstation ≡ Some (workstation_by a ((x.from, x) ∷ []))) (m : ℕ) (taken : Capacity) (out : given_out P op.workstation ≡ taken) where
  abbrev station : Workstation
  station = workstation_by a ((x.from, x) ∷ [])

  -- while its interval is open it has that interval's capacity
  has_capacity : IsOpenAt x m → HasCapacity station m (capacity_of x)
  has_capacity now = (x.from, x, get-from_entries nat_cmp_total ((x.from, x) ∷ []) x.from ∙ ap (λ b. cond b (Some x) None) (ap is_eq (tied_itself nat_cmp_total x.from)), now, refl)

  -- there is room: servers, R1 and R2
  pub lines_of_room : IsReady P o → op.held ≡ false → op.not_before ≤ m → IsOpenAt x m → taken.servers + 1 ≤ x.servers → taken.r1 + op.r1 ≤ x.r1 → taken.r2 + op.r2 ≤ x.r2 → (line : Refusal) → line ≢ refusal.ResourceBusy → MayStart P o op m line
  lines_of_room ready held late now servers r1 r2 refusal.WrongStatus other = inl ready
  lines_of_room ready held late now servers r1 r2 refusal.Held other = held
  lines_of_room ready held late now servers r1 r2 refusal.TooEarly other = late
  lines_of_room ready held late now servers r1 r2 refusal.Closed other = (station, w, (capacity_of x, has_capacity now))
  lines_of_room ready held late now servers r1 r2 refusal.NoServer other = (station, w, λ capacity h. subst (λ c. (given_out P op.workstation).servers + 1 ≤ c.servers) (sym (one_capacity a x m capacity h)) (subst (λ t. t.servers + 1 ≤ x.servers) (sym out) servers))
  lines_of_room ready held late now servers r1 r2 refusal.NoFixed other = (station, w, λ capacity h. subst (λ c. ((given_out P op.workstation).r1 + op.r1 ≤ c.r1) × ((given_out P op.workstation).r2 + op.r2 ≤ c.r2)) (sym (one_capacity a x m capacity h)) (subst (λ t. (t.r1 + op.r1 ≤ x.r1) × (t.r2 + op.r2 ≤ x.r2)) (sym out) (r1, r2)))
  lines_of_room ready held late now servers r1 r2 refusal.ResourceBusy other = absurd (other refl)
  lines_of_room ready held late now servers r1 r2 line other = tt

  pub with_resources : MayStart P o op m refusal.ResourceBusy → ((line : Refusal) → line ≢ refusal.ResourceBusy → MayStart P o op m line) → (line : Refusal) → MayStart P o op m line
  with_resources busy h refusal.ResourceBusy = busy
  with_resources busy h refusal.WrongStatus = h refusal.WrongStatus (λ e. cc)
  with_resources busy h refusal.Held = h refusal.Held (λ e. cc)
  with_resources busy h refusal.TooEarly = h refusal.TooEarly (λ e. cc)
  with_resources busy h refusal.Closed = h refusal.Closed (λ e. cc)
  with_resources busy h refusal.NoServer = h refusal.NoServer (λ e. cc)
  with_resources busy h refusal.NoFixed = h refusal.NoFixed (λ e. cc)
  with_resources busy h line = tt

  -- there is room, and it needs no special resource
  pub allowed : IsReady P o → op.held ≡ false → op.not_before ≤ m → IsOpenAt x m → taken.servers + 1 ≤ x.servers → taken.r1 + op.r1 ≤ x.r1 → taken.r2 + op.r2 ≤ x.r2 → op.needs ≡ empty → IsAllowedToStart P o m
  allowed ready held late now servers r1 r2 none =
      (op, is, with_resources (λ r usage found. absurd (none-some usage (sym (get-empty name_cmp r) ∙ ap (λ needs. get needs r) (sym none) ∙ found))) (lines_of_room ready held late now servers r1 r2))

  lines_of : IsAllowedToStart P o m → (line : Refusal) → MayStart P o op m line
  lines_of h = subst (λ z. (line : Refusal) → MayStart P o z m line) (same_Some h.0 op (sym h.1 ∙ is)) h.2

  room_of : (line : Refusal) → FitsAt P op m line → HasRoom station m (given_out P op.workstation) op.r1 op.r2 line
  room_of line fits = subst (λ ws. HasRoom ws m (given_out P op.workstation) op.r1 op.r2 line) (same_Some fits.0 station (sym fits.1 ∙ w)) fits.2

  -- all servers are given out
  pub without_server : IsOpenAt x m → x.servers < taken.servers + 1 → IsAllowedToStart P o m → ⊥
  without_server now few h =
      let k = room_of refusal.NoServer (lines_of h refusal.NoServer) (capacity_of x) (has_capacity now) in
      let fits : taken.servers + 1 ≤ x.servers = subst (λ t. t.servers + 1 ≤ x.servers) out k in
      omega arith

  -- too little of R1 is left
  pub without_fixed : IsOpenAt x m → x.r1 < taken.r1 + op.r1 → IsAllowedToStart P o m → ⊥
  without_fixed now little h =
      let k = room_of refusal.NoFixed (lines_of h refusal.NoFixed) (capacity_of x) (has_capacity now) in
      let fits : taken.r1 + op.r1 ≤ x.r1 = subst (λ t. t.r1 + op.r1 ≤ x.r1) out k.0 in
      omega arith
