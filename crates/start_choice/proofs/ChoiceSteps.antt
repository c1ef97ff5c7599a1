-- The choice from a ready list by the gate that counts what is given out and held.
use Rattle.std.proofs.Common.{◌≡◌, inl, inr, refl, sym, ap, subst, ◌∙◌, true≢false, arith, ℕ, ◌+◌, ◌≤◌, true, false, List, [], ◌∷◌, ◌++◌, slice_get, Some, Contains, length, not}
use Rattle.std.specs.FinMap.{entries, get}
use Rattle.std.specs.Ordering.{eq_by_cmp}
use Rattle.std.proofs.lemmas.List.{map-append}
use Rattle.std.proofs.lemmas.List.Filters.{length-filter_both}
use Rattle.std.proofs.lemmas.List.Elements.{Contains-append_left, Contains-append_right}
use Rattle.plan_basics.specs.Keys.{Name, name_cmp, operation_cmp}
use Rattle.plan_basics.specs.declared.Attr.{Attr}
use Rattle.plan_basics.specs.declared.Attr.TheVariants.{Automatic, StartAndCompletion, CompletionOnly, Nonreporting}
use Rattle.plan_basics.specs.declared.Refusal.{Refusal}
use Rattle.plan_basics.specs.declared.keys.OpKey.{OpKey}
use Rattle.std.proofs.lemmas.Bool.{cases_Bool, or_cases}
use Rattle.ready_list.specs.Choice.{is_among, operations_of}
use Rattle.ready_list.specs.Entries.{is_automatic, keys_of, on_automatic}
use Rattle.ready_list.specs.Gates.{AnswersInTurn, IsAsked, RefusesInTurn, TellAttributes, TellsAllowed, ready_operations}
use Rattle.ready_list.specs.declared.ReadyKey.{ReadyKey}
use Rattle.ready_list.specs.declared.entry.ReadyEntry.{ReadyEntry}
use Rattle.ready_list.proofs.ByAnswers.{choice_by_answers}
use Rattle.ready_list.proofs.Steps.{AreDistinctKeys, chosen_among, not_before}
use Rattle.plan_model.proofs.Entries.{entries_in_order}
use Rattle.plan_model.specs.Holdings.{given_out}
use Rattle.plan_model.specs.Contents.{Contents, HasAttribute, Operation}
use Rattle.plan_model.specs.Ready.{IsChosen, IsOnAutomatic, named}
use Rattle.plan_model.specs.Starts.{IsAllowedToStart}
use Rattle.plan_model.specs.Status.{IsReady}
use Rattle.plan_model.specs.Valid.{IsValid}
use Rattle.counted_records.specs.plan_laws.proofs.Kept.{named_none, ready_unmarked}
use Rattle.plan_model.proofs.Looks.{same_key}
use Rattle.std.proofs.lemmas.Option.{same_Some}
use Rattle.plan_basics.proofs.Members.{contains_head, contains_later}
use Rattle.start_choice.specs.Choices.{AreGivenOut, AreHeldIn, AreReadyEntries, HasItsWorkstation}
use Rattle.start_choice.specs.StartGates.{Allows, Answers, Counted, IsCountedIn, PassesOver}
use Rattle.start_choice.specs.Takings.{CanStart, IsAtMost, most_given_out}
use Rattle.start_choice.proofs.Allowed.{can_start, may_start}
use Rattle.start_choice.proofs.GivenPlaces.{AreAt, more_at}
use Rattle.start_choice.proofs.NamedGiven.{named_at_most, named_gives, named_gives_none}
use Rattle.start_choice.proofs.NamedHolders.{named_held}
use Rattle.start_choice.proofs.ReadyLists.{ready_distinct}

-- the gate goes through these contents at m, and counts what the plan with these named has given out and holds
pub record Stands (c : Contents) (m : ℕ) (os : List OpKey) (g : Counted) : Type 0 where
  pub contents : g.contents ≡ c
  pub at : g.at ≡ m
  pub given : AreAt (entries c.workstations) g.given (given_out (named os c))
  pub holders : AreHeldIn (named os c) g.held

automatic_alone : (a : Attr) → is_automatic a ≡ true → a ≡ Automatic
automatic_alone Automatic e = refl
automatic_alone StartAndCompletion e = absurd (true≢false (sym e))
automatic_alone CompletionOnly e = absurd (true≢false (sym e))
automatic_alone Nonreporting e = absurd (true≢false (sym e))

-- a gate with nothing named yet
pub stands_first : (c : Contents) (m : ℕ) (g : Counted) → g.contents ≡ c → g.at ≡ m
    → AreGivenOut c (entries c.workstations) g.given → AreHeldIn c g.held → Stands c m [] g
stands_first c m g contents at given held = record {
  contents = contents;
  at = at;
  given = subst (λ P. AreGivenOut P (entries c.workstations) g.given) (sym (named_none c)) given;
  holders = subst (λ P. AreHeldIn P g.held) (sym (named_none c)) held;
}

-- looks don't count there
stands_on : (c : Contents) (m : ℕ) (os : List OpKey) (g : Counted) (looks : ℕ) → Stands c m os g → Stands c m os (record g { looks = looks })
stands_on c m os g looks stands = record { contents = stands.contents; at = stands.at; given = stands.given; holders = stands.holders }

-- what the gate counts is given out and held with these named
counted_in : (c : Contents) (m : ℕ) (os : List OpKey) (g : Counted) → Stands c m os g → IsCountedIn g (named os c)
counted_in c m os g stands = record {
  workstations = ap (λ (d : Contents). d.workstations) (sym stands.contents);
  resources = ap (λ (d : Contents). d.resources) (sym stands.contents);
  given = subst (λ (d : Contents). AreGivenOut (named os c) (entries d.workstations) g.given) (sym stands.contents) stands.given;
  holders = stands.holders;
}

-- what is among these keys is ready, where they all are
ready_among : (P : Contents) (keys : List ReadyKey) → ((k : ReadyKey) → Contains keys k → IsReady P k.op) → (o : OpKey) → is_among (operations_of keys) o ≡ true → IsReady P o
ready_among P [] all o e = absurd (true≢false (sym e))
ready_among P (k ∷ keys) all o e = elim (or_cases (eq_by_cmp operation_cmp o k.op) (is_among (operations_of keys) o) e) [
  | inl here ↦ subst (IsReady P) (sym (same_key o k.op here)) (all k (contains_head k keys))
  | inr later ↦ ready_among P keys (λ q has. all q (contains_later k keys q has)) o later
]

module _ (c : Contents) (m : ℕ) (es : List ReadyEntry) (are : AreReadyEntries c es) where
  abbrev P : Contents
  P = c

  abbrev automatic : OpKey → Type 0
  automatic = IsOnAutomatic P

  abbrev allowed : List OpKey → OpKey → Type 0
  allowed os o = IsAllowedToStart (named os P) o m

  -- what any workstation has given out, whatever is named
  at_most : IsValid P → (os : List OpKey) (name : Name) → IsAtMost most_given_out (given_out (named os P) name)
  at_most h os = named_at_most P os h.limits.operations (λ o op is. let fixed = (h.occurrences.each_operation o op is).0.fixed in (omega (arith, fixed.0), omega (arith, fixed.1)))

  distinct : AreDistinctKeys (ready_operations es)
  distinct = ready_distinct c (keys_of es) are.list

  all_ready : (k : ReadyKey) → Contains (keys_of es) k → IsReady P k.op
  all_ready k has = (((are.list.has_all k).0) has).0

  attributes : TellAttributes automatic es
  attributes e has =
      let row = are.workstations e has in (
        λ on. (row.0, row.1, row.2.1 ∙ ap Some (automatic_alone e.attr on)),
        λ on.
            let same = same_Some row.0 on.0 (sym row.1 ∙ on.1) in
            let is : Some e.attr ≡ Some Automatic = sym row.2.1 ∙ subst (λ (op : Operation). HasAttribute P op.workstation Automatic) (sym same) on.2 in
            ap is_automatic (same_Some e.attr Automatic is),
      )

  module _ (e : ReadyEntry) (os : List OpKey) (g : Counted) (asked : IsAsked (Stands c m) automatic allowed es e os g) where
    keys_split : keys_of es ≡ keys_of asked.before ++ e.key ∷ keys_of asked.after
    keys_split = ap keys_of asked.split ∙ map-append (λ (x : ReadyEntry). x.key) asked.before (e ∷ asked.after)

    operations_split : ready_operations es ≡ ready_operations asked.before ++ e.key.op ∷ ready_operations asked.after
    operations_split = ap operations_of keys_split ∙ map-append (λ (k : ReadyKey). k.op) (keys_of asked.before) (e.key ∷ keys_of asked.after)

    among : Contains es e
    among = subst (λ xs. Contains xs e) (sym asked.split) (Contains-append_right asked.before (e ∷ asked.after) e (contains_head e asked.after))

    ready : IsReady P e.key.op
    ready = all_ready e.key (subst (λ ks. Contains ks e.key) (sym keys_split) (Contains-append_right (keys_of asked.before) (e.key ∷ keys_of asked.after) e.key (contains_head e.key (keys_of asked.after))))

    each_ready : (o : OpKey) → is_among os o ≡ true → IsReady P o
    each_ready o among = elim (cases_Bool (is_among (ready_operations asked.before) o)) [
      | inl here ↦
          ready_among P (keys_of asked.before)
          (λ k has. all_ready k (subst (λ ks. Contains ks k) (sym keys_split) (Contains-append_left (keys_of asked.before) (e.key ∷ keys_of asked.after) k has))) o here
      | inr none ↦ absurd (true≢false (sym among ∙ chosen_among automatic allowed (ready_operations asked.before) os asked.so_far o none))
    ]

    out : is_among os e.key.op ≡ false
    out =
        chosen_among automatic allowed (ready_operations asked.before) os asked.so_far e.key.op
        (not_before (ready_operations asked.before) (ready_operations asked.after) e.key.op (subst AreDistinctKeys operations_split distinct))

    here : (row : Operation) → get g.contents.operations e.key.op ≡ Some row → get P.operations e.key.op ≡ Some row
    here row is = ap (λ (d : Contents). get d.operations e.key.op) (sym asked.counted.contents) ∙ is

    counted : IsCountedIn g (named os P)
    counted = counted_in c m os g asked.counted

    module _ (k : Counted) where
      yes : Allows g e k → allowed os e.key.op × Stands c m (os ++ e.key.op ∷ []) k
      yes a =
          let is = here a.row a.in_plan in
          let can = subst (λ at. CanStart (named os P) e.key.op a.row at) asked.counted.at (a.can (named os P) counted) in
          let unmarked = ready_unmarked P e.key.op a.row is ready in
          let on = subst (λ (op : Operation). HasAttribute P op.workstation Automatic) (same_Some asked.on_automatic.0 a.row (sym asked.on_automatic.1 ∙ is)) asked.on_automatic.2 in
          let place = a.given.place.0 in
          let at = ap (λ (d : Contents). slice_get (entries d.workstations) place) (sym asked.counted.contents) ∙ a.given.place.2 in
          let was = a.given.before.0 in
          let small = subst (IsAtMost most_given_out) (sym (asked.counted.given.each place a.row.workstation a.given.place.1 was at a.given.before.1)) (at_most (subst IsValid asked.counted.contents a.valid) os a.row.workstation) in (
            may_start P m os each_ready e.key.op a.row is out ready can,
            record {
              contents = a.same.0 ∙ asked.counted.contents;
              at = a.same.1 ∙ asked.counted.at;
              given =
                  subst (λ given. AreAt (entries c.workstations) given (given_out (named (os ++ e.key.op ∷ []) P))) (sym (a.given.after small))
                  (more_at (entries c.workstations) (entries_in_order name_cmp c.workstations) place a.row.workstation a.given.place.1 at a.row g.given (given_out (named os P)) (given_out (named (os ++ e.key.op ∷ []) P))
                  (named_gives P os e.key.op a.row is out unmarked on)
                  (named_gives_none P os e.key.op a.row is out unmarked on) was a.given.before.1 asked.counted.given);
              holders = named_held P os e.key.op a.row is out unmarked on g.held k.held asked.counted.holders a.held;
            },
          )

      no : PassesOver g e k → ¬ allowed os e.key.op × Stands c m os k
      no a =
          let row = asked.on_automatic in
          let there = ap (λ (d : Contents). get d.operations e.key.op) asked.counted.contents ∙ row.1 in (
            λ may. a.cannot (subst (λ (d : Contents). HasItsWorkstation d e) (sym asked.counted.contents) (are.workstations e among)) row.0 there (named os P) counted
                (subst (λ at. CanStart (named os P) e.key.op row.0 at) (sym asked.counted.at) (can_start P m os each_ready e.key.op row.0 row.1 out may)),
            subst (Stands c m os) (sym a.same) (stands_on c m os g k.looks asked.counted),
          )

  tells : TellsAllowed Answers (Stands c m) automatic allowed es
  tells = record { if_yes = λ e os g k asked a. yes e os g asked k a; if_no = λ e os g k asked a. no e os g asked k a }

  -- what the gate says yes to is chosen
  pub chosen_by_gate : (g : Counted) → Stands c m [] g → (os : List OpKey) (last : Counted) → AnswersInTurn Answers (on_automatic es) g os last → IsChosen P m os
  chosen_by_gate g stands os last run = record {
    ready = keys_of es;
    is_ready_list = are.list;
    choice = (choice_by_answers Answers (Stands c m) automatic allowed es distinct attributes tells g stands os last run).0;
  }

  -- and what the gate counts in the end is given out and held with that named
  pub counted_by_gate : (g : Counted) → Stands P m [] g → (os : List OpKey) (last : Counted) → AnswersInTurn Answers (on_automatic es) g os last → Stands P m os last
  counted_by_gate g stands os last run = (choice_by_answers Answers (Stands P m) automatic allowed es distinct attributes tells g stands os last run).1

-- a gate that refuses with one refusal alone refuses with it in turn
pub refuses_alone : (only r : Refusal) (es : List ReadyEntry) (g : Counted) → RefusesInTurn Answers (λ _ _ s. s ≡ only) es g r → r ≡ only
refuses_alone only r [] g h = absurd h
refuses_alone only r (e ∷ es) g (inl is) = is
refuses_alone only r (e ∷ es) g (inr (yes, k, a, later)) = refuses_alone only r es k later

-- there are no more of them than entries
few_automatic : (es : List ReadyEntry) → length (on_automatic es) ≤ length es
few_automatic es = omega (arith, length-filter_both (λ (e : ReadyEntry). is_automatic e.attr) (λ (e : ReadyEntry). not (is_automatic e.attr)) (λ e. refl) es)

-- a gate takes a look at each operation that it is asked of, at most
takes_looks : (es : List ReadyEntry) (g last : Counted) (named : List OpKey) → AnswersInTurn Answers es g named last → (g.looks ≤ last.looks) × (last.looks ≤ g.looks + length es)
takes_looks [] g last named run = let same = ap (λ (h : Counted). h.looks) run.1 in (omega (arith, same), omega (arith, same))
takes_looks (e ∷ es) g last named (true, h, rest, answer, is, run) = let later = takes_looks es h last rest run in (omega (arith, later.0, answer.looks.0), omega (arith, later.1, answer.looks.1))
takes_looks (e ∷ es) g last named (false, h, rest, answer, is, run) = let later = takes_looks es h last rest run in (omega (arith, later.0, answer.looks.0), omega (arith, later.1, answer.looks.1))

-- and no more than there are entries
pub looks_by_gate : (es : List ReadyEntry) (g last : Counted) (named : List OpKey) → AnswersInTurn Answers (on_automatic es) g named last → (g.looks ≤ last.looks) × (last.looks ≤ g.looks + length es)
looks_by_gate es g last named run = let so = takes_looks (on_automatic es) g last named run in (so.0, omega (arith, so.1, few_automatic es))
