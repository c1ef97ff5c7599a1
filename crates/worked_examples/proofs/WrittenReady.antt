-- The ready list of a plan of lines, and what is chosen from it.
use Rattle.std.proofs.Common.{◌≡◌, inl, inr, refl, sym, ◌∙◌, ap, ap₂, subst, true≢false, ℕ, Bool, true, false, cond, ◌&&◌, Decides, List, [], ◌∷◌, ◌++◌, Contains, map, filter, unwrap_or, option_map, append-nil, append_assoc}
use Rattle.std.specs.List.Sorted.{IsStrictlySortedBy}
use Rattle.std.specs.FinMap.{find, get-from_entries}
use Rattle.std.specs.FinSet.{from_list}
use Rattle.std.proofs.lemmas.Bool.{and_cases, and_parts}
use Rattle.plan_basics.proofs.Members.{contains_mapped, mapped_contains}
use Rattle.plan_basics.specs.declared.Attr.TheVariants as attribute
use Rattle.plan_basics.specs.declared.keys.OpKey.{OpKey}
use Rattle.plan_basics.specs.Intervals.{IsOpenAt}
use Rattle.plan_basics.specs.Keys.{occurrence_cmp, occurrence_cmp_total}
use Rattle.ready_list.proofs.Members.{contains_filter, contains_from_filter}
use Rattle.ready_list.proofs.Steps.{chosen_named, chosen_none, chosen_passed, chosen_skipped}
use Rattle.ready_list.specs.declared.ReadyKey.{ReadyKey}
use Rattle.ready_list.specs.Choice.{IsChoice, is_among, operations_of}
use Rattle.ready_list.specs.Order.{ready_cmp}
use Rattle.status_rules.specs.declared.Mark.TheVariants as mark
use Rattle.plan_drafts.proofs.Tables.{is_found}
use Rattle.plan_laws.proofs.Latest.{some_latest_start}
use Rattle.plan_laws.proofs.Readying.{once, one_entry}
use Rattle.plan_model.specs.Contents.{Contents}
use Rattle.plan_model.specs.Ready.{IsChosen, IsEntry, IsOnAutomatic, IsReadyList, named}
use Rattle.plan_model.specs.Starts.{IsAllowedToStart}
use Rattle.plan_model.specs.Valid.{IsAcyclic}
use Rattle.worked_examples.specs.Written.{Lines, Sheet, line_at, plan_of}
use Rattle.worked_examples.proofs.WrittenLines.{is_listed, keys_of, line_of, mark_lines, plan_with}
use Rattle.worked_examples.proofs.WrittenRoom.{allowed_at, allowed_told}
use Rattle.worked_examples.proofs.WrittenTold.{IsFit, in_reach, is_on, on_told, ready_at, ready_told, unmarked_of}

-- ---- the ready list

-- what is ready, by key
abbrev pub ready_of : Sheet → Lines → List OpKey
ready_of S lines = filter (ready_at S lines) (keys_of lines)

pub operations_are : (f : OpKey → ReadyKey) → ((o : OpKey) → (f o).op ≡ o) → (order : List OpKey) → operations_of (map f order) ≡ order
operations_are f same [] = refl
operations_are f same (o ∷ order) = ap₂ (λ x xs. x ∷ xs) (same o) (operations_are f same order)

module _ (S : Sheet) (acyclic : IsAcyclic (from_list S.pairs)) (lines : Lines) where
  -- an operation's place in the ready list
  abbrev pub ready_key : OpKey → ReadyKey
  ready_key o = record {
    latest = (some_latest_start (plan_of S lines) acyclic o).0;
    priority = unwrap_or (option_map (λ c. c.priority) (find occurrence_cmp o.occurrence S.occurrences)) 0;
    duration = unwrap_or (option_map (λ l. l.planned.duration) (line_at lines o)) 0;
    op = o;
  }

  -- by key it is in order
  abbrev pub IsInOrder : Type 0
  IsInOrder = IsStrictlySortedBy ready_cmp (map ready_key (ready_of S lines))

-- with these named
abbrev pub named_lines : List OpKey → Lines → Lines
named_lines os lines = mark_lines mark.Named (is_among os) lines

-- the desk starts it at m, once those are named
abbrev pub is_chosen_next : Sheet → Lines → ℕ → List OpKey → OpKey → Bool
is_chosen_next S lines m os o = is_on S lines attribute.Automatic o && allowed_at S (named_lines os lines) m o

-- what is chosen at m from these in their order, beside those chosen before
abbrev pub chosen_from : Sheet → Lines → ℕ → List OpKey → List OpKey → List OpKey
chosen_from S lines m os [] = os
chosen_from S lines m os (o ∷ rest) = chosen_from S lines m (cond (is_chosen_next S lines m os o) (os ++ o ∷ []) os) rest

-- the plans on the way are in reach of the tests
abbrev pub FitAlong : Sheet → Lines → ℕ → List OpKey → List OpKey → Type 0
FitAlong S lines m os [] = Unit {0}
FitAlong S lines m os (o ∷ rest) = IsFit S (named_lines os lines) × FitAlong S lines m (cond (is_chosen_next S lines m os o) (os ++ o ∷ []) os) rest

-- ---- what they decide of the ready list, and of the choice

module _ (S : Sheet) (acyclic : IsAcyclic (from_list S.pairs)) (lines : Lines) (fit : IsFit S lines) where
  abbrev P : Contents
  P = plan_of S lines

  abbrev key : OpKey → ReadyKey
  key = ready_key S acyclic lines

  abbrev order : List OpKey
  order = ready_of S lines

  is_entry : (o : OpKey) → ready_at S lines o ≡ true → IsEntry P (key o)
  is_entry o e =
      let ready = (ready_told S lines fit o).0 e in
      let u = unmarked_of S lines fit o ready in
      let k = line_of S lines o u.0 u.1 in
      let c = is_found (find occurrence_cmp o.occurrence S.occurrences) (in_reach S lines fit o k.0 k.1).5 in (
        ready,
        (some_latest_start P acyclic o).1,
        (u.0, u.1, ap (λ x. unwrap_or (option_map (λ l. l.planned.duration) x) 0) k.1 ∙ ap (λ x. x.duration) k.2),
        (c.0, get-from_entries occurrence_cmp_total S.occurrences o.occurrence ∙ c.1, ap (λ x. unwrap_or (option_map (λ z. z.priority) x) 0) c.1),
      )

  pub is_ready_list : IsInOrder S acyclic lines → IsReadyList P (map key order)
  is_ready_list up = record {
    ascends = up;
    has_all = λ k. (
      λ has. let m = mapped_contains key order k has in subst (IsEntry P) m.1 (is_entry m.0 (contains_from_filter (ready_at S lines) (keys_of lines) m.0 m.2).1),
      λ entry.
          let ready = (ready_told S lines fit k.op).1 entry.0 in
          let has = contains_filter (ready_at S lines) (keys_of lines) k.op ready (is_listed S lines k.op entry.2.0 entry.2.1) in
          subst (Contains (map key order)) (one_entry P (key k.op) k (is_entry k.op ready) entry refl) (contains_mapped key order k.op has),
    );
  }

  module _ (up : IsInOrder S acyclic lines) (m : ℕ) (now : IsOpenAt S.interval m) where
    are : operations_of (map key order) ≡ order
    are = operations_are key (λ o. refl) order

    abbrev May : List OpKey → OpKey → Type 0
    May os o = IsAllowedToStart (named os P) o m

    abbrev Chosen : List OpKey → List OpKey → Type 0
    Chosen = IsChoice (IsOnAutomatic P) May

    one_more : (done os : List OpKey) (o : OpKey) → is_among done o ≡ false → IsFit S (named_lines os lines) → Chosen done os → Chosen (done ++ o ∷ []) (cond (is_chosen_next S lines m os o) (os ++ o ∷ []) os)
    one_more done os o new fits so_far = by (is_chosen_next S lines m os o) refl
      where
        on : Decides (is_on S lines attribute.Automatic o) (IsOnAutomatic P o)
        on = on_told S lines fit o attribute.Automatic

        may : Decides (allowed_at S (named_lines os lines) m o) (May os o)
        may = subst (λ X. Decides (allowed_at S (named_lines os lines) m o) (IsAllowedToStart X o m)) (sym (plan_with S mark.Named (is_among os) lines)) (allowed_told S (named_lines os lines) fits o m now)

        by : (b : Bool) → is_chosen_next S lines m os o ≡ b → Chosen (done ++ o ∷ []) (cond b (os ++ o ∷ []) os)
        by true e =
            let h = and_parts _ _ e in
            chosen_named (IsOnAutomatic P) May done os so_far o new (on.0 h.0) (may.0 h.1)
        by false e = elim (and_cases (is_on S lines attribute.Automatic o) (allowed_at S (named_lines os lines) m o) e) [
          | inl off ↦ chosen_skipped (IsOnAutomatic P) May done os so_far o new (λ h. true≢false (sym (on.1 h) ∙ off))
          | inr lacks ↦ chosen_passed (IsOnAutomatic P) May done os so_far o new (λ h. true≢false (sym (may.1 h) ∙ lacks))
        ]

    go_on : (done rest os : List OpKey) → order ≡ done ++ rest → FitAlong S lines m os rest → Chosen done os → Chosen order (chosen_from S lines m os rest)
    go_on done [] os split fits so_far = subst (λ xs. Chosen xs os) (sym (split ∙ append-nil done)) so_far
    go_on done (o ∷ rest) os split fits so_far =
        let next = cond (is_chosen_next S lines m os o) (os ++ o ∷ []) os in
        go_on (done ++ o ∷ []) rest next (split ∙ sym (append_assoc done (o ∷ []) rest)) fits.1 (one_more done os o (fresh done rest o split) fits.0 so_far)
      where
        fresh : (before after : List OpKey) (k : OpKey) → order ≡ before ++ k ∷ after → is_among before k ≡ false
        fresh before after k split =
            let list = is_ready_list up in
            once (map key order) list.ascends (λ x y hx hy. one_entry P x y ((list.has_all x).0 hx) ((list.has_all y).0 hy)) before after k (are ∙ split)

    pub are_chosen : FitAlong S lines m [] order → IsChosen P m (chosen_from S lines m [] order)
    are_chosen fits = record {
      ready = map key order;
      is_ready_list = is_ready_list up;
      choice = subst (λ xs. Chosen xs (chosen_from S lines m [] order)) (sym are) (go_on [] order [] refl fits (chosen_none (IsOnAutomatic P) May));
    }
