-- A rerun that is accepted again at once changes nothing: all that it reaches has no mark, since nothing that it reaches is under way.
use Rattle.std.proofs.Common.{◌≡◌, ◌≢◌, ◌⊎◌, ◌↔◌, inl, inr, refl, sym, ◌∙◌, ap, subst, Bool, true, ℕ, List, [], ◌∷◌, MatchOption, Some}
use Rattle.std.proofs.lemmas.Bool.{cases_Bool, cond-true}
use Rattle.std.specs.FinMap.{get}
use Rattle.plan_basics.specs.declared.keys.OpKey.{OpKey}
use Rattle.status_rules.specs.Table.{marked_status}
use Rattle.status_rules.specs.declared.Mark.TheVariants as mark
use Rattle.status_rules.specs.declared.Status.{Status}
use Rattle.status_rules.specs.declared.Status.TheVariants as status
use Rattle.operation_graph.specs.Paths.{IsPathBy, end_of}
use Rattle.ready_list.specs.Choice.{is_among}
use Rattle.plan_laws.proofs.Entries.{same_operation}
use Rattle.plan_laws.proofs.Revising.{found_marked, was}
use Rattle.plan_laws.proofs.Standing.{one_status}
use Rattle.plan_laws.proofs.Tables.{by_mark_of}
use Rattle.plan_records.specs.Changes.{revised}
use Rattle.plan_model.specs.Contents.{Contents, IsLive, Operation, Precedes}
use Rattle.plan_model.specs.Ready.{IsChosen, named, with_mark}
use Rattle.plan_model.specs.Starts.{Reaches}
use Rattle.plan_model.specs.Status.{HasStatus, IsUnderWay, UnmarkedStatus}
use Rattle.plan_model.specs.Valid.{IsAcyclic}
use Rattle.plan_status.proofs.Naming.{live_before, named_if, row_before}
use Rattle.plan_repeats.proofs.Twice.{as_marked, as_revised, chosen_ready}

-- a status after which an operation is run again
abbrev pub IsRerunnable : Contents → OpKey → Type 0
IsRerunnable P o = HasStatus P o status.Interrupted ⊎ HasStatus P o status.Complete ⊎ HasStatus P o status.Error ⊎ HasStatus P o status.Undecided

live_by : (P : Contents) (o : OpKey) (s : Status) → (s ≢ status.Deleted) → HasStatus P o s → IsLive P o
live_by P o s never h = (h.0, h.1, λ e. never (subst (λ m. MatchOption (marked_status m) (UnmarkedStatus P o s) (λ t. s ≡ t)) e h.2))

rerunnable_live : (P : Contents) (o : OpKey) → IsRerunnable P o → IsLive P o
rerunnable_live P o (inl h) = live_by P o status.Interrupted (λ e. cc) h
rerunnable_live P o (inr (inl h)) = live_by P o status.Complete (λ e. cc) h
rerunnable_live P o (inr (inr (inl h))) = live_by P o status.Error (λ e. cc) h
rerunnable_live P o (inr (inr (inr h))) = live_by P o status.Undecided (λ e. cc) h

rerunnable_not_started : (P : Contents) → IsAcyclic P.pairs → (o : OpKey) → HasStatus P o status.Started → IsRerunnable P o → ⊥
rerunnable_not_started P acyclic o h (inl k) = let e = one_status P acyclic o status.Started status.Interrupted h k in absurd (cc)
rerunnable_not_started P acyclic o h (inr (inl k)) = let e = one_status P acyclic o status.Started status.Complete h k in absurd (cc)
rerunnable_not_started P acyclic o h (inr (inr (inl k))) = let e = one_status P acyclic o status.Started status.Error h k in absurd (cc)
rerunnable_not_started P acyclic o h (inr (inr (inr k))) = let e = one_status P acyclic o status.Started status.Undecided h k in absurd (cc)

module _ {K : Type 0} (edge : K → K → Type 0) (live other : K → Type 0) where
  -- a path from a live start ends live
  ends_live : (a : K) (rest : List K) → live a → IsPathBy edge live a rest → live (end_of a rest)
  ends_live a [] l p = l
  ends_live a (b ∷ rest) l p = ends_live b rest p.1 p.2

  -- a path of live members is one of others, where what is live is the other
  path_of : ((k : K) → live k → other k) → (a : K) (rest : List K) → IsPathBy edge live a rest → IsPathBy edge other a rest
  path_of f a [] p = p
  path_of f a (b ∷ rest) p = (p.0, f b p.1, path_of f b rest p.2)

module _ (P : Contents) (acyclic : IsAcyclic P.pairs) (o : OpKey) (before : IsRerunnable P o) (test : OpKey → Bool) (reached : (q : OpKey) → (test q ≡ true) ↔ Reaches P o q) where
  -- the plan in which what is reached has no mark
  abbrev made : Contents
  made = revised test (with_mark mark.Unmarked) P

  reached_live : (q : OpKey) → test q ≡ true → IsLive P q
  reached_live q t = let r = (reached q).0 t in subst (IsLive P) r.2 (ends_live (Precedes P) (IsLive P) (IsLive P) o r.0 (rerunnable_live P o before) r.1)

  was_live : (q : OpKey) → IsLive made q → IsLive P q
  was_live q (x, e, live) = elim (found_marked test mark.Unmarked P q x e) [ inl marked ↦ reached_live q marked.0 | inr other ↦ (x, other.1, live) ]

  module _ (m : ℕ) (chosen : List OpKey) (choice : IsChosen made m chosen) where
    -- and with those named that are chosen
    abbrev after : Contents
    after = named chosen made

    reached_before : (q : OpKey) → Reaches after o q → Reaches P o q
    reached_before q r = (r.0, path_of (Precedes P) (IsLive after) (IsLive P) (λ k live. was_live k (live_before made chosen (chosen_ready made m chosen choice) k live)) o r.0 r.1, r.2)

    module _ (again : IsRerunnable after o) (none_under_way : (q : OpKey) → q ≢ o → Reaches after o q → ¬ IsUnderWay after q) where
      not_started : (q : OpKey) → Reaches after o q → HasStatus after q status.Started → ⊥
      not_started q r h = elim (same_operation q o) [
        | inl same ↦ rerunnable_not_started after acyclic o (subst (λ k. HasStatus after k status.Started) same h) again
        | inr apart ↦ none_under_way q apart r (inl h)
      ]

      unmarked : (q : OpKey) (op : Operation) → get after.operations q ≡ Some op → Reaches after o q → op.mark ≡ mark.Unmarked
      unmarked q op e r =
          let (y, found, same) = row_before made chosen q op e in
          let (x, first, is) = was test (with_mark mark.Unmarked) P q y found in
          let free : y.mark ≡ mark.Unmarked = ap (λ z. z.mark) (sym is ∙ cond-true (test q) (with_mark mark.Unmarked x) x ((reached q).1 (reached_before q r))) in
          elim (cases_Bool (is_among chosen q)) [
            | inl t ↦ absurd (not_started q r (by_mark_of after q op mark.Named status.Started e (ap (λ z. z.mark) (sym same ∙ ap (λ b. named_if b y) t)) refl))
            | inr f ↦ ap (λ z. z.mark) (sym same ∙ ap (λ b. named_if b y) f) ∙ free
          ]

      -- the plan as the second rerun makes it
      pub rerun_twice : (test_later : OpKey → Bool) → ((q : OpKey) → (test_later q ≡ true) ↔ Reaches after o q) → revised test_later (with_mark mark.Unmarked) after ≡ after
      rerun_twice test_later reached_later = as_revised test_later (with_mark mark.Unmarked) after (λ q op e t. as_marked op mark.Unmarked (unmarked q op e ((reached_later q).0 t)))
