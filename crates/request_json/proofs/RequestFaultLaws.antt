-- A value says a request exactly where it has no fault.
use Rattle.std.proofs.Common.{◌≡◌, ◌≢◌, inl, inr, ◌⊎◌, ℕ, suc, ◌+◌, List, [], ◌∷◌, length, zero, Bool, ◌||◌, IsTrue, true≢false, Contains, option_map, Option, Some, None, ◌↔◌, if◌then◌else◌, is_some, refl, sym, ap, subst, ◌∙◌, codes, arith}
use Rattle.std.specs.List.{AllByRecursion}
use Rattle.std.specs.Str.{bytes_eq}
use Rattle.std.proofs.lemmas.List.Elements.{Contains-push_cases}
use Rattle.plan_basics.specs.declared.keys.OpKey.{OpKey}
use Rattle.plan_items.specs.Parts.{IsReading}
use Rattle.plan_records.specs.declared.Request.{Request}
use Rattle.plan_records.specs.declared.What.{What}
use Rattle.plan_records.specs.declared.What.TheVariants as what
use Rattle.serde_json.specs.Data.{Data, boolean, string, array}
use Rattle.serde_json.specs.Events.{members_len}
use Rattle.serde_json.specs.Find.{get, as_object}
use Rattle.serde_json.specs.View.{items_of}
use Rattle.request_json.specs.Members.{Member, IsJsonOf, HasMember, HasText, member_count}
use Rattle.request_json.specs.Counted.{HasBeside, SaysBeside}
use Rattle.request_json.specs.Intervals.{whole}
use Rattle.request_json.specs.Requests.{SpellsOperation, NamesOperation, Asks, SaysRequest}
use Rattle.request_json.specs.RequestFaults.{member_text, IsOperationVerb, IsRecordsVerb, IsVerbOf, first_of_kind, second_of_kind, IsOfKind, Fits, IsFaultOfMember, IsFaultOfAny, has, known_members, HasOthers, IsFaultOfKind, IsFaultOfObject, IsFaultOfValue, IsRequestFault, SaysSomeRequest, ReadsAsSomeRequest}
use Rattle.request_json.proofs.Exactly.{request_of, beside_of}
use Rattle.request_json.specs.declared.faults.kinds.MemberName.{MemberName}
use Rattle.request_json.specs.declared.faults.kinds.MemberName.TheVariants as name
use Rattle.request_json.specs.declared.faults.kinds.RequestKind.{RequestKind}
use Rattle.request_json.specs.declared.faults.kinds.RequestKind.TheVariants as kind
use Rattle.request_json.specs.declared.faults.finding.RequestFault.{RequestFault}
use Rattle.request_json.specs.declared.faults.finding.RequestFault.TheVariants as fault

-- each member that there is to be is of its form
abbrev pub FitsAny : Data → Option MemberName → Type 0
FitsAny d found = (m : MemberName) → found ≡ Some m → Fits d m

-- ---- numbers of members

one_there : (d : Data) (m : MemberName) (v : Data) → get (member_text m) d ≡ Some v → has d (Some m) ≡ 1
one_there d m v is = rw is refl

one_member : (d : Data) (m : MemberName) (v : Data) (more : List Member) → more ≡ (member_text m, v) ∷ [] → get (member_text m) d ≡ Some v → length more ≡ has d (Some m) + has d None
one_member d m v more same is = ap length same ∙ rw is refl

two_members : (d : Data) (m n : MemberName) (v w : Data) (more : List Member) → more ≡ (member_text m, v) ∷ (member_text n, w) ∷ [] → get (member_text m) d ≡ Some v → get (member_text n) d ≡ Some w
    → length more ≡ has d (Some m) + has d (Some n)
two_members d m n v w more same is on = ap length same ∙ rw is (rw on refl)

sum_of : (a b c e n : ℕ) → a ≡ 1 → b ≡ 1 → n ≡ c + e → a + b + c + e ≡ suc (suc n)
sum_of a b c e n p q r = omega (arith, p, q, r)

only : (d : Data) (n : MemberName) → Fits d n → FitsAny d (Some n)
only d n fit m e = let same : n ≡ m = cc e in subst (Fits d) same fit

no_other : (d : Data) → FitsAny d None
no_other d m e = absurd (cc e)

-- ---- a request has no faults

-- a member that is of its form is there
there : (d : Data) (m : MemberName) → Fits d m → (v : Data) × (get (member_text m) d ≡ Some v)
there d name.At fit = (string fit.1.0, fit.1.1)
there d name.Do fit = (string fit.1.0, fit.1.1)
there d name.Op fit = (string fit.1.0, fit.1.1)
there d name.Code fit = (string fit.0, fit.1.1)
there d name.Occ fit = (string fit.1.0, fit.1.1)
there d name.Records fit = (string fit.0, fit.1)
there d name.From fit = (string fit.1.0, fit.1.1)
there d name.To fit = (string fit.1.0, fit.1.1)
there d name.Resource fit = (string fit.0, fit.1.1)
there d name.Value fit = (boolean fit.0, fit.1)
there d name.Ws fit = (string fit.0, fit.1.1)
there d name.Intervals fit = (array (items_of fit.0), fit.2)
there d name.Tracker fit = (string fit.0, fit.1.1)
there d name.Number fit = (whole fit.0, fit.2)
there d name.ReportDo fit = (string fit.0, fit.1)

no_fault : (d : Data) (m : MemberName) → Fits d m → (f : RequestFault) → ¬ IsFaultOfMember d m f
no_fault d m fit (fault.Missing n) h = let t = there d m fit in absurd (cc (t.1, h.1))
no_fault d m fit (fault.Wrong n) h = h.2 fit
no_fault d m fit _ h = absurd h

no_fault_of_any : (d : Data) (found : Option MemberName) → FitsAny d found → (f : RequestFault) → ¬ IsFaultOfAny d found f
no_fault_of_any d found fit f h = no_fault d h.0 (fit h.0 h.1) f h.2

-- what comes with a `do`: its kind, and the members of that
Facts : Data → List ℕ → List Member → Type 0
Facts d verb more = (k : RequestKind) × IsVerbOf k verb × FitsAny d (first_of_kind k) × FitsAny d (second_of_kind k) × (length more ≡ has d (first_of_kind k) + has d (second_of_kind k))

on_operation : (d : Data) (verb : List ℕ) (more : List Member) (key : OpKey) → IsOperationVerb verb → NamesOperation key more → AllByRecursion (HasMember d) more → Facts d verb more
unfolding Facts
on_operation d verb more key v n all =
    let given = rw n.2 at all in
    (kind.OnOperation, v, only d name.Op (key, (n.0, given.0, n.1)), no_other d, one_member d name.Op (string n.0) more n.2 given.0)

of_records : (d : Data) (verb : List ℕ) (more : List Member) (text : List ℕ) → IsRecordsVerb verb → more ≡ (codes "records", string text) ∷ [] → AllByRecursion (HasMember d) more → Facts d verb more
unfolding Facts
of_records d verb more text v same all =
    let given = rw same at all in
    (kind.Records, v, only d name.Records (text, given.0), no_other d, one_member d name.Records (string text) more same given.0)

facts : (d : Data) (x : What) (verb : List ℕ) (more : List Member) → Asks x verb more → AllByRecursion (HasMember d) more → Facts d verb more
unfolding Facts
facts d (what.Started key) verb more a all = on_operation d verb more key (inl a.0) a.1 all
facts d (what.Ended key) verb more a all = on_operation d verb more key (inr (inl a.0)) a.1 all
facts d (what.Error key code) verb more a all =
    let given = rw a.4 at all in
    (kind.Error, a.0, only d name.Op (key, (a.1, given.0, a.2)), only d name.Code (code, (a.3, given.1.0)), two_members d name.Op name.Code (string a.1) (string code) more a.4 given.0 given.1.0)
facts d (what.Interrupted key) verb more a all = on_operation d verb more key (inr (inr (inl a.0))) a.1 all
facts d (what.Unknown key) verb more a all = on_operation d verb more key (inr (inr (inr (inl a.0)))) a.1 all
facts d (what.Hold key) verb more a all = on_operation d verb more key (inr (inr (inr (inr (inl a.0))))) a.1 all
facts d (what.Release key) verb more a all = on_operation d verb more key (inr (inr (inr (inr (inr (inl a.0)))))) a.1 all
facts d (what.Nop key) verb more a all = on_operation d verb more key (inr (inr (inr (inr (inr (inr (inl a.0))))))) a.1 all
facts d (what.Unnop key) verb more a all = on_operation d verb more key (inr (inr (inr (inr (inr (inr (inr (inl a.0)))))))) a.1 all
facts d (what.Rerun key) verb more a all = on_operation d verb more key (inr (inr (inr (inr (inr (inr (inr (inr (inl a.0))))))))) a.1 all
facts d (what.Complete key) verb more a all = on_operation d verb more key (inr (inr (inr (inr (inr (inr (inr (inr (inr a.0))))))))) a.1 all
facts d what.Tick verb more a all = (kind.Tick, a.0, no_other d, no_other d, ap length a.1)
facts d (what.Load plan) verb more a all = of_records d verb more a.1 (inl a.0) a.2 all
facts d (what.AddOccurrence addition) verb more a all = of_records d verb more a.1 (inr (inl a.0)) a.2 all
facts d (what.Extend extension) verb more a all = of_records d verb more a.1 (inr (inr a.0)) a.2 all
facts d (what.DeleteOccurrence key) verb more a all =
    let given = rw a.3 at all in
    (kind.Delete, a.0, only d name.Occ (key, (a.1, given.0, a.2)), no_other d, one_member d name.Occ (string a.1) more a.3 given.0)
facts d (what.AddDependency p s) verb more a all =
    let given = rw a.5 at all in
    (kind.Depend, a.0, only d name.From (p, (a.1, given.0, a.3)), only d name.To (s, (a.2, given.1.0, a.4)), two_members d name.From name.To (string a.1) (string a.2) more a.5 given.0 given.1.0)
facts d (what.SetAvailable resource available) verb more a all =
    let given = rw a.2 at all in
    (kind.Available, a.0, only d name.Resource (resource, (a.1, given.0)), only d name.Value (available, given.1.0), two_members d name.Resource name.Value (string resource) (boolean available) more a.2 given.0 given.1.0)
facts d (what.ReplaceIntervals workstation intervals) verb more a all =
    let given = rw a.4 at all in (
      kind.Intervals,
      a.0,
      only d name.Ws (workstation, (a.1, given.0)),
      only d name.Intervals (a.2, intervals, given.1.0, a.3),
      two_members d name.Ws name.Intervals (string workstation) (array (items_of a.2)) more a.4 given.0 given.1.0,
    )

-- a `do` is of one kind
kind_by : List ℕ → Option RequestKind
kind_by verb =
    if bytes_eq verb (codes "tick") then Some kind.Tick else (if bytes_eq verb (codes "error") then Some kind.Error else (if bytes_eq verb (codes "delete") then Some kind.Delete else
    (if bytes_eq verb (codes "depend") then Some kind.Depend else (if bytes_eq verb (codes "available") then Some kind.Available else (if bytes_eq verb (codes "intervals") then Some kind.Intervals else
    (if bytes_eq verb (codes "load") || (bytes_eq verb (codes "add") || bytes_eq verb (codes "extend")) then Some kind.Records else Some kind.OnOperation))))))

kind_is : (k : RequestKind) (verb : List ℕ) → IsVerbOf k verb → kind_by verb ≡ Some k
unfolding kind_by
kind_is kind.Tick verb v = let e : verb ≡ codes "tick" = v in rw e refl
kind_is kind.Error verb v = let e : verb ≡ codes "error" = v in rw e refl
kind_is kind.Delete verb v = let e : verb ≡ codes "delete" = v in rw e refl
kind_is kind.Depend verb v = let e : verb ≡ codes "depend" = v in rw e refl
kind_is kind.Available verb v = let e : verb ≡ codes "available" = v in rw e refl
kind_is kind.Intervals verb v = let e : verb ≡ codes "intervals" = v in rw e refl
kind_is kind.Records verb (inl v) = rw v refl
kind_is kind.Records verb (inr (inl v)) = rw v refl
kind_is kind.Records verb (inr (inr v)) = rw v refl
kind_is kind.OnOperation verb (inl v) = rw v refl
kind_is kind.OnOperation verb (inr (inl v)) = rw v refl
kind_is kind.OnOperation verb (inr (inr (inl v))) = rw v refl
kind_is kind.OnOperation verb (inr (inr (inr (inl v)))) = rw v refl
kind_is kind.OnOperation verb (inr (inr (inr (inr (inl v))))) = rw v refl
kind_is kind.OnOperation verb (inr (inr (inr (inr (inr (inl v)))))) = rw v refl
kind_is kind.OnOperation verb (inr (inr (inr (inr (inr (inr (inl v))))))) = rw v refl
kind_is kind.OnOperation verb (inr (inr (inr (inr (inr (inr (inr (inl v)))))))) = rw v refl
kind_is kind.OnOperation verb (inr (inr (inr (inr (inr (inr (inr (inr (inl v))))))))) = rw v refl
kind_is kind.OnOperation verb (inr (inr (inr (inr (inr (inr (inr (inr (inr v))))))))) = rw v refl

pub one_kind : (k l : RequestKind) (verb : List ℕ) → IsVerbOf k verb → IsVerbOf l verb → k ≡ l
one_kind k l verb v w = let a = kind_is k verb v in let b = kind_is l verb w in cc (a, b)

-- so is a value's
pub one_kind_at : (d : Data) (k l : RequestKind) → IsOfKind d k → IsOfKind d l → k ≡ l
one_kind_at d k l v w =
    let same : w.0 ≡ v.0 = cc (v.1, w.1) in
    one_kind k l v.0 v.2 (subst (IsVerbOf l) same w.2)

no_others : (d : Data) (k : RequestKind) → member_count d ≡ Some (known_members d k) → (f : RequestFault) → ¬ HasOthers d k f
no_others d k size fault.Others h = h size
no_others d k size _ h = absurd h

pub faultless : (d : Data) → SaysSomeRequest d → (f : RequestFault) → ¬ IsFaultOfObject d f
unfolding Facts
faultless d (r, s) f h =
    let all = s.5.1 in
    let at : Fits d name.At = (r.at, (s.0, all.0, s.3)) in
    let more = s.2 in
    let said = facts d r.what s.1 more s.4 all.1.1 in
    let k = said.0 in
    let asked : IsOfKind d k = (s.1, all.1.0, said.1) in
    let size : member_count d ≡ Some (known_members d k) =
    s.5.0 ∙ ap Some (sym (sum_of (has d (Some name.At)) (has d (Some name.Do)) (has d (first_of_kind k)) (has d (second_of_kind k)) (length more) (one_there d name.At (string s.0) all.0) (one_there d name.Do (string s.1) all.1.0) said.4)) in
    elim h [
      | inl first ↦ no_fault d name.At at f first
      | inr (inl second) ↦ no_fault d name.Do (k, asked) f second
      | inr (inr rest) ↦
          let same = one_kind_at d rest.0 k rest.1 asked in
          elim (subst (λ l. IsFaultOfKind d l f) same rest.2) [
            | inl one ↦ no_fault_of_any d (first_of_kind k) said.2 f one
            | inr (inl two) ↦ no_fault_of_any d (second_of_kind k) said.3 f two
            | inr (inr others) ↦ no_others d k size f others
          ]
    ]

-- ---- what has no faults is a request

-- a member without a fault is of its form: nothing denies it
unfaulted_at : (d : Data) (m : MemberName) (o : Option Data) → get (member_text m) d ≡ o → ((f : RequestFault) → ¬ IsFaultOfMember d m f) → ¬ (¬ Fits d m)
unfaulted_at d m None is none un = none (fault.Missing m) (refl, is)
unfaulted_at d m (Some v) is none un = none (fault.Wrong m) (refl, (λ e. absurd (cc (is, e))), un)

unfaulted : (d : Data) (m : MemberName) → ((f : RequestFault) → ¬ IsFaultOfMember d m f) → ¬ (¬ Fits d m)
unfaulted d m = unfaulted_at d m (get (member_text m) d) refl

any_unfaulted : (d : Data) (found : Option MemberName) → ((f : RequestFault) → ¬ IsFaultOfAny d found f) → ¬ (¬ FitsAny d found)
any_unfaulted d None none un = un (no_other d)
any_unfaulted d (Some m) none un = unfaulted d m (λ f h. none f (m, refl, h)) (λ fit. un (only d m fit))

-- with such a `do` and these members something is asked
Told : Data → List ℕ → RequestKind → Type 0
Told d verb k = (x : What) × (more : List Member) × Asks x verb more × AllByRecursion (HasMember d) more × (length more ≡ has d (first_of_kind k) + has d (second_of_kind k))

told_operation : (d : Data) (verb : List ℕ) (key : OpKey) (x : What) (h : HasText d (codes "op") (λ text. SpellsOperation text key)) → Asks x verb ((codes "op", string h.0) ∷ []) → Told d verb kind.OnOperation
unfolding Told
told_operation d verb key x h asks =
    let more : List Member = (codes "op", string h.0) ∷ [] in
    (x, more, asks, (h.1, tt), one_member d name.Op (string h.0) more refl h.1)

operation_told : (d : Data) (verb : List ℕ) (key : OpKey) → HasText d (codes "op") (λ text. SpellsOperation text key) → IsOperationVerb verb → Told d verb kind.OnOperation
operation_told d verb key h (inl v) = told_operation d verb key (what.Started key) h (v, (h.0, h.2, refl))
operation_told d verb key h (inr (inl v)) = told_operation d verb key (what.Ended key) h (v, (h.0, h.2, refl))
operation_told d verb key h (inr (inr (inl v))) = told_operation d verb key (what.Interrupted key) h (v, (h.0, h.2, refl))
operation_told d verb key h (inr (inr (inr (inl v)))) = told_operation d verb key (what.Unknown key) h (v, (h.0, h.2, refl))
operation_told d verb key h (inr (inr (inr (inr (inl v))))) = told_operation d verb key (what.Hold key) h (v, (h.0, h.2, refl))
operation_told d verb key h (inr (inr (inr (inr (inr (inl v)))))) = told_operation d verb key (what.Release key) h (v, (h.0, h.2, refl))
operation_told d verb key h (inr (inr (inr (inr (inr (inr (inl v))))))) = told_operation d verb key (what.Nop key) h (v, (h.0, h.2, refl))
operation_told d verb key h (inr (inr (inr (inr (inr (inr (inr (inl v)))))))) = told_operation d verb key (what.Unnop key) h (v, (h.0, h.2, refl))
operation_told d verb key h (inr (inr (inr (inr (inr (inr (inr (inr (inl v))))))))) = told_operation d verb key (what.Rerun key) h (v, (h.0, h.2, refl))
operation_told d verb key h (inr (inr (inr (inr (inr (inr (inr (inr (inr v))))))))) = told_operation d verb key (what.Complete key) h (v, (h.0, h.2, refl))

-- any text of records is asked for: it denotes something, or nothing
told_records : (d : Data) (verb : List ℕ) (x : What) (text : List ℕ) → HasMember d (codes "records", string text) → Asks x verb ((codes "records", string text) ∷ []) → Told d verb kind.Records
unfolding Told
told_records d verb x text h asks =
    let more : List Member = (codes "records", string text) ∷ [] in
    (x, more, asks, (h, tt), one_member d name.Records (string text) more refl h)

records_told : (d : Data) (verb text : List ℕ) → HasMember d (codes "records", string text) → IsRecordsVerb verb → ¬ (¬ Told d verb kind.Records)
records_told d verb text h (inl v) un =
    un (told_records d verb (what.Load None) text h (v, text, refl, λ P den. un (told_records d verb (what.Load (Some P)) text h (v, text, refl, den))))
records_told d verb text h (inr (inl v)) un =
    un (told_records d verb (what.AddOccurrence None) text h (v, text, refl, λ P den. un (told_records d verb (what.AddOccurrence (Some P)) text h (v, text, refl, den))))
records_told d verb text h (inr (inr v)) un =
    un (told_records d verb (what.Extend None) text h (v, text, refl, λ P den. un (told_records d verb (what.Extend (Some P)) text h (v, text, refl, den))))

told : (d : Data) (verb : List ℕ) (k : RequestKind) → IsVerbOf k verb → FitsAny d (first_of_kind k) → FitsAny d (second_of_kind k) → ¬ (¬ Told d verb k)
unfolding Told
told d verb kind.Tick v first second un = un (what.Tick, [], (v, refl), tt, refl)
told d verb kind.OnOperation v first second un = let op = first name.Op refl in un (operation_told d verb op.0 op.1 v)
told d verb kind.Error v first second un =
    let op = first name.Op refl in
    let code = second name.Code refl in
    let more : List Member = (codes "op", string op.1.0) ∷ (codes "code", string code.0) ∷ [] in
    un (what.Error op.0 code.0, more, (v, op.1.0, op.1.2, code.1.0, refl), (op.1.1, (code.1.1, tt)), two_members d name.Op name.Code (string op.1.0) (string code.0) more refl op.1.1 code.1.1)
told d verb kind.Delete v first second un =
    let occ = first name.Occ refl in
    let more : List Member = (codes "occ", string occ.1.0) ∷ [] in
    un (what.DeleteOccurrence occ.0, more, (v, occ.1.0, occ.1.2, refl), (occ.1.1, tt), one_member d name.Occ (string occ.1.0) more refl occ.1.1)
told d verb kind.Records v first second un = let text = first name.Records refl in records_told d verb text.0 text.1 v un
told d verb kind.Depend v first second un =
    let from = first name.From refl in
    let to = second name.To refl in
    let more : List Member = (codes "from", string from.1.0) ∷ (codes "to", string to.1.0) ∷ [] in
    un (what.AddDependency from.0 to.0, more, (v, from.1.0, to.1.0, from.1.2, to.1.2, refl), (from.1.1, (to.1.1, tt)), two_members d name.From name.To (string from.1.0) (string to.1.0) more refl from.1.1 to.1.1)
told d verb kind.Available v first second un =
    let resource = first name.Resource refl in
    let value = second name.Value refl in
    let more : List Member = (codes "resource", string resource.0) ∷ (codes "value", boolean value.0) ∷ [] in
    un (what.SetAvailable resource.0 value.0, more, (v, resource.1.0, refl), (resource.1.1, (value.1, tt)), two_members d name.Resource name.Value (string resource.0) (boolean value.0) more refl resource.1.1 value.1)
told d verb kind.Intervals v first second un =
    let ws = first name.Ws refl in
    let rows = second name.Intervals refl in
    let more : List Member = (codes "ws", string ws.0) ∷ (codes "intervals", array (items_of rows.0)) ∷ [] in
    un (what.ReplaceIntervals ws.0 rows.1, more, (v, ws.1.0, rows.0, rows.3, refl), (ws.1.1, (rows.2, tt)), two_members d name.Ws name.Intervals (string ws.0) (array (items_of rows.0)) more refl ws.1.1 rows.2)

-- the members together
says_by : (d : Data) (k : RequestKind) (at : Fits d name.At) (asked : IsOfKind d k) → Told d asked.0 k → member_count d ≡ Some (known_members d k) → SaysSomeRequest d
unfolding Told
says_by d k at asked t size =
    let more = t.1 in
    let r : Request = record { at = at.0; what = t.0 } in
    let sum = sum_of (has d (Some name.At)) (has d (Some name.Do)) (has d (first_of_kind k)) (has d (second_of_kind k)) (length more) (one_there d name.At (string at.1.0) at.1.1) (one_there d name.Do (string asked.0) asked.1) t.4 in
    (r, (at.1.0, asked.0, more, at.1.2, t.2, (size ∙ ap Some sum, (at.1.1, (asked.1, t.3)))))

-- what comes with a `do` of the kind
says_of_kind : (d : Data) (k : RequestKind) → Fits d name.At → IsOfKind d k → ((f : RequestFault) → ¬ IsFaultOfKind d k f) → ¬ (¬ SaysSomeRequest d)
says_of_kind d k at asked none un =
    any_unfaulted d (first_of_kind k) (λ f h. none f (inl h))
    (λ first. any_unfaulted d (second_of_kind k) (λ f h. none f (inr (inl h)))
    (λ second. told d asked.0 k asked.2 first second
    (λ t. none fault.Others (inr (inr (λ size. un (says_by d k at asked t size)))))))

pub says_some : (d : Data) → ((f : RequestFault) → ¬ IsFaultOfObject d f) → ¬ (¬ SaysSomeRequest d)
says_some d none un =
    unfaulted d name.At (λ f h. none f (inl h))
    (λ at. unfaulted d name.Do (λ f h. none f (inr (inl h)))
    (λ verb. says_of_kind d verb.0 at verb.1 (λ f h. none f (inr (inr (verb.0, verb.1, h)))) un))

-- ---- what is told of one member

module _ (d : Data) (m : MemberName) where
  pub missing_is : get (member_text m) d ≡ None → (f : RequestFault) → (Some (fault.Missing m) ≡ Some f) ↔ IsFaultOfMember d m f
  missing_is e f = (λ s. let same : fault.Missing m ≡ f = cc s in subst (IsFaultOfMember d m) same (refl, e), back f)
    where
      back : (g : RequestFault) → IsFaultOfMember d m g → Some (fault.Missing m) ≡ Some g
      back (fault.Missing n) h = ap (λ z. Some (fault.Missing z)) (sym h.0)
      back (fault.Wrong n) h = absurd (h.1 e)
      back _ h = absurd h

  pub fits_is : Fits d m → (f : RequestFault) → (None ≡ Some f) ↔ IsFaultOfMember d m f
  fits_is fit f = (λ s. absurd (cc s), λ h. absurd (no_fault d m fit f h))

  pub wrong_is : get (member_text m) d ≢ None → ¬ Fits d m → (f : RequestFault) → (Some (fault.Wrong m) ≡ Some f) ↔ IsFaultOfMember d m f
  wrong_is there un f = (λ s. let same : fault.Wrong m ≡ f = cc s in subst (IsFaultOfMember d m) same (refl, there, un), back f)
    where
      back : (g : RequestFault) → IsFaultOfMember d m g → Some (fault.Wrong m) ≡ Some g
      back (fault.Missing n) h = absurd (there h.1)
      back (fault.Wrong n) h = ap (λ z. Some (fault.Wrong z)) (sym h.0)
      back _ h = absurd h

  pub any_is : (f : RequestFault) → IsFaultOfMember d m f ↔ IsFaultOfAny d (Some m) f
  any_is f = (λ h. (m, refl, h), λ h. let same : m ≡ h.0 = cc h.1 in subst (λ n. IsFaultOfMember d n f) (sym same) h.2)

pub none_of_any : (d : Data) (f : RequestFault) → ¬ IsFaultOfAny d None f
none_of_any d f h = absurd (cc h.1)

pub no_others_is : (d : Data) (k : RequestKind) → member_count d ≡ Some (known_members d k) → (f : RequestFault) → (None ≡ Some f) ↔ HasOthers d k f
no_others_is d k size f = (λ s. absurd (cc s), λ h. absurd (no_others d k size f h))

pub others_is : (d : Data) (k : RequestKind) → member_count d ≢ Some (known_members d k) → (f : RequestFault) → (Some fault.Others ≡ Some f) ↔ HasOthers d k f
others_is d k more f = (λ s. let same : fault.Others ≡ f = cc s in subst (HasOthers d k) same more, back f)
  where
    back : (g : RequestFault) → HasOthers d k g → Some fault.Others ≡ Some g
    back fault.Others h = refl
    back _ h = absurd h

-- ---- one after another

pub then_told : {O A B X Y : Type 0} → A ↔ (O ⊎ X) → B ↔ (A ⊎ Y) → B ↔ (O ⊎ (X ⊎ Y))
then_told a b = (
  λ h. elim (b.0 h) [ inl first ↦ elim (a.0 first) [ inl o ↦ inl o | inr x ↦ inr (inl x) ] | inr y ↦ inr (inr y) ],
  λ h. elim h [ inl o ↦ b.1 (inl (a.1 (inl o))) | inr (inl x) ↦ b.1 (inl (a.1 (inr x))) | inr (inr y) ↦ b.1 (inr y) ],
)

pub by_property : {A O X Y : Type 0} → A ↔ (O ⊎ X) → X ↔ Y → A ↔ (O ⊎ Y)
by_property a x = (λ h. elim (a.0 h) [ inl o ↦ inl o | inr one ↦ inr (x.0 one) ], λ h. elim h [ inl o ↦ a.1 (inl o) | inr one ↦ a.1 (inr (x.1 one)) ])

-- where there is to be no such member nothing is told
pub unchanged : {O : Type 0} (d : Data) (f : RequestFault) → O ↔ (O ⊎ IsFaultOfAny d None f)
unchanged d f = (λ o. inl o, λ h. elim h [ inl o ↦ o | inr one ↦ absurd (none_of_any d f one) ])

pub of_kind_told : {O A B C : Type 0} (d : Data) (k : RequestKind) (f : RequestFault) → A ↔ (O ⊎ IsFaultOfAny d (first_of_kind k) f) → B ↔ (A ⊎ IsFaultOfAny d (second_of_kind k) f) → C ↔ (B ⊎ HasOthers d k f) → C ↔ (O ⊎ IsFaultOfKind d k f)
of_kind_told d k f a b c = (
  λ h. elim (c.0 h) [
    | inl before ↦ elim (b.0 before) [ inl first ↦ elim (a.0 first) [ inl o ↦ inl o | inr x ↦ inr (inl x) ] | inr y ↦ inr (inr (inl y)) ]
    | inr z ↦ inr (inr (inr z))
  ],
  λ h. elim h [
    | inl o ↦ c.1 (inl (b.1 (inl (a.1 (inl o)))))
    | inr (inl x) ↦ c.1 (inl (b.1 (inl (a.1 (inr x)))))
    | inr (inr (inl y)) ↦ c.1 (inl (b.1 (inr y)))
    | inr (inr (inr z)) ↦ c.1 (inr z)
  ],
)

-- the faults of an object, where its `do` is known
pub of_object_told : {O A B C : Type 0} (d : Data) (k : RequestKind) (f : RequestFault) → IsOfKind d k → ¬ O → A ↔ (O ⊎ IsFaultOfMember d name.At f) → B ↔ (A ⊎ IsFaultOfMember d name.Do f) → C ↔ (B ⊎ IsFaultOfKind d k f) → C ↔ IsFaultOfObject d f
of_object_told d k f known none a b c = (
  λ h. elim (c.0 h) [
    | inl before ↦ elim (b.0 before) [ inl first ↦ elim (a.0 first) [ inl o ↦ absurd (none o) | inr x ↦ inl x ] | inr y ↦ inr (inl y) ]
    | inr z ↦ inr (inr (k, known, z))
  ],
  λ h. elim h [
    | inl x ↦ c.1 (inl (b.1 (inl (a.1 (inr x)))))
    | inr (inl y) ↦ c.1 (inl (b.1 (inr y)))
    | inr (inr z) ↦ let same = one_kind_at d z.0 k z.1 known in c.1 (inr (subst (λ l. IsFaultOfKind d l f) same z.2))
  ],
)

-- and where it isn't
pub of_unknown_told : {O A B : Type 0} (d : Data) (f : RequestFault) → ((k : RequestKind) → ¬ IsOfKind d k) → ¬ O → A ↔ (O ⊎ IsFaultOfMember d name.At f) → B ↔ (A ⊎ IsFaultOfMember d name.Do f) → B ↔ IsFaultOfObject d f
of_unknown_told d f unknown none a b = (
  λ h. elim (b.0 h) [ inl first ↦ elim (a.0 first) [ inl o ↦ absurd (none o) | inr x ↦ inl x ] | inr y ↦ inr (inl y) ],
  λ h. elim h [ inl x ↦ b.1 (inl (a.1 (inr x))) | inr (inl y) ↦ b.1 (inr y) | inr (inr z) ↦ absurd (unknown z.0 z.1) ],
)

-- ---- counts
pub has_absent : (d : Data) (m : MemberName) → get (member_text m) d ≡ None → 0 ≡ has d (Some m)
has_absent d m is = rw is refl

has_at : (d : Data) (m : MemberName) (o : Option Data) → get (member_text m) d ≡ o → o ≢ None → 1 ≡ has d (Some m)
has_at d m None is some = absurd (some refl)
has_at d m (Some v) is some = rw is refl

pub has_present : (d : Data) (m : MemberName) → get (member_text m) d ≢ None → 1 ≡ has d (Some m)
has_present d m = has_at d m (get (member_text m) d) refl

plus_none : (n : ℕ) → n + 0 ≡ n
plus_none n = omega arith

pub no_count : (d : Data) (k : ℕ) → ((n : ℕ) → ¬ HasBeside d 0 n) → member_count d ≢ Some k
no_count d k none e = none k (e ∙ ap Some (sym (plus_none k)))

pub same_count : (d : Data) (n k : ℕ) → HasBeside d 0 n → n ≡ k → member_count d ≡ Some k
same_count d n k h e = h ∙ ap Some (plus_none n ∙ e)

pub other_count : (d : Data) (n k : ℕ) → HasBeside d 0 n → n ≢ k → member_count d ≢ Some k
other_count d n k h differ e = let same : n + 0 ≡ k = cc (h, e) in differ (sym (plus_none n) ∙ same)

-- ---- whole lists
pub contains_none : (f : RequestFault) → ¬ Contains [] f
contains_none f h = let lt = h.1 in absurd (omega (arith, lt))

pub contains_one : (g f : RequestFault) → Contains (g ∷ []) f ↔ (g ≡ f)
contains_one g f = (
  λ h. elim (Contains-push_cases [] g f h) [ inl nowhere ↦ absurd (contains_none f nowhere) | inr same ↦ same ],
  λ same. subst (Contains (g ∷ [])) same (zero, omega arith, refl),
)

-- the one fault of a value that is no object
pub no_object_told : (d : Data) → as_object d ≡ None → (f : RequestFault) → Contains (fault.NoObject ∷ []) f ↔ IsFaultOfValue d f
no_object_told d is f = (λ h. subst (IsFaultOfValue d) ((contains_one fault.NoObject f).0 h) is, λ h. (contains_one fault.NoObject f).1 (back f h))
  where
    back : (g : RequestFault) → IsFaultOfValue d g → fault.NoObject ≡ g
    back fault.NoObject h = refl
    back _ h = absurd (h.0 is)

-- a request is an object
request_is_object : (d : Data) → SaysSomeRequest d → as_object d ≢ None
request_is_object d (r, s) is = let size = s.5.0 in absurd (cc (sym (ap (option_map members_len) is) ∙ size))

pub no_object_says_none : (d : Data) → as_object d ≡ None → ((fault.NoObject ∷ []) ≡ []) ↔ SaysSomeRequest d
no_object_says_none d is = (λ e. absurd (cc e), λ says. absurd (request_is_object d says is))

-- what says a request has none
pub request_told : (d : Data) → SaysSomeRequest d → (f : RequestFault) → Contains [] f ↔ IsFaultOfValue d f
request_told d says f = (λ h. absurd (contains_none f h), λ h. absurd (back f h))
  where
    back : (g : RequestFault) → ¬ IsFaultOfValue d g
    back fault.NoObject h = request_is_object d says h
    back g h = faultless d says g h.1

-- an object's faults are those of the value
no_object_of_object : (d : Data) → ¬ IsFaultOfObject d fault.NoObject
no_object_of_object d (inl h) = h
no_object_of_object d (inr (inl h)) = h
no_object_of_object d (inr (inr (k, asked, inl h))) = h.2
no_object_of_object d (inr (inr (k, asked, inr (inl h)))) = h.2
no_object_of_object d (inr (inr (k, asked, inr (inr h)))) = h

of_value : (d : Data) → as_object d ≢ None → (f : RequestFault) → IsFaultOfObject d f ↔ IsFaultOfValue d f
of_value d there fault.NoObject = (λ h. absurd (no_object_of_object d h), λ h. absurd (there h))
of_value d there _ = (λ h. (there, h), λ h. h.1)

pub object_told : (d : Data) → as_object d ≢ None → (v : List RequestFault) → ((f : RequestFault) → Contains v f ↔ IsFaultOfObject d f) → (f : RequestFault) → Contains v f ↔ IsFaultOfValue d f
object_told d there v told f = let same = of_value d there f in (λ h. same.0 ((told f).0 h), λ h. (told f).1 (same.1 h))

pub object_says_none : (d : Data) → ¬ SaysSomeRequest d → (v : List RequestFault) → ((f : RequestFault) → Contains v f ↔ IsFaultOfObject d f) → (v ≡ []) ↔ SaysSomeRequest d
object_says_none d un v told = (
  λ e. absurd (says_some d (λ f h. contains_none f (subst (λ xs. Contains xs f) e ((told f).1 h))) un),
  λ says. absurd (un says),
)

-- ---- texts
pub says_is : (d : Data) (r : Option Request) (b : Bool) → b ≡ is_some r → IsReading (SaysBeside d 0) r → IsTrue b ↔ SaysSomeRequest d
says_is d None b e none = (λ h. absurd (true≢false (sym h ∙ e)), λ h. absurd (none h.0 (beside_of d [] h.0 h.1).0))
says_is d (Some r) b e s = (λ _. (r, request_of d [] r tt s), λ _. e)

-- a text that is no JSON
pub no_json_told : (body : List ℕ) → ((d : Data) → ¬ IsJsonOf body d) → (f : RequestFault) → Contains (fault.NoJson ∷ []) f ↔ IsRequestFault body f
no_json_told body none f = (λ h. subst (IsRequestFault body) ((contains_one fault.NoJson f).0 h) none, λ h. (contains_one fault.NoJson f).1 (back f h))
  where
    back : (g : RequestFault) → IsRequestFault body g → fault.NoJson ≡ g
    back fault.NoJson h = refl
    back _ h = absurd (none h.0 h.1)

pub no_json_says_none : (body : List ℕ) → ((d : Data) → ¬ IsJsonOf body d) → ((fault.NoJson ∷ []) ≡ []) ↔ ReadsAsSomeRequest body
no_json_says_none body none = (λ e. absurd (cc e), λ says. absurd (none says.1.0 says.1.1))

-- a text's value
module _ (body : List ℕ) (d : Data) (json : IsJsonOf body d) where
  one_value_of : (e : Data) → IsJsonOf body e → e ≡ d
  one_value_of e other = cc (json.1, other.1)

  no_json_of_value : ¬ IsFaultOfValue d fault.NoJson
  no_json_of_value (there, inl h) = h
  no_json_of_value (there, inr (inl h)) = h
  no_json_of_value (there, inr (inr (k, asked, inl h))) = h.2
  no_json_of_value (there, inr (inr (k, asked, inr (inl h)))) = h.2
  no_json_of_value (there, inr (inr (k, asked, inr (inr h)))) = h

  of_text : (f : RequestFault) → IsFaultOfValue d f ↔ IsRequestFault body f
  of_text fault.NoJson = (λ h. absurd (no_json_of_value h), λ h. absurd (h d json))
  of_text f = (λ h. (d, json, h), λ h. subst (λ e. IsFaultOfValue e f) (one_value_of h.0 h.1) h.2)

  pub value_told : (v : List RequestFault) → ((f : RequestFault) → Contains v f ↔ IsFaultOfValue d f) → (f : RequestFault) → Contains v f ↔ IsRequestFault body f
  value_told v told f = let same = of_text f in (λ h. same.0 ((told f).0 h), λ h. (told f).1 (same.1 h))

  pub value_says : (v : List RequestFault) → (v ≡ []) ↔ SaysSomeRequest d → (v ≡ []) ↔ ReadsAsSomeRequest body
  value_says v says = (
    λ e. let found = says.0 e in (found.0, (d, json, found.1)),
    λ h. says.1 (h.0, subst (λ e. SaysRequest e [] h.0) (one_value_of h.1.0 h.1.1) h.1.2),
  )
