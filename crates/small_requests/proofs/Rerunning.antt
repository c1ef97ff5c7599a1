-- What a rerun reaches is live, and what comes after it is reached or deleted.
use Rattle.std.proofs.Common.{◌≡◌, ◌≢◌, ◌⊎◌, inl, inr, refl, subst, ℕ, List, [], ◌∷◌, MatchOption}
use Rattle.std.specs.FinMap.{entries}
use Rattle.operation_graph.proofs.Reaching.{reaches_more}
use Rattle.operation_graph.specs.Paths.{IsPathBy, end_of}
use Rattle.plan_basics.specs.Refusals.{NoneRefuses}
use Rattle.plan_basics.specs.declared.Refusal.TheVariants as refusal
use Rattle.plan_basics.specs.declared.keys.OpKey.{OpKey}
use Rattle.status_rules.specs.Table.{marked_status}
use Rattle.status_rules.specs.declared.Mark.{Mark}
use Rattle.status_rules.specs.declared.Mark.TheVariants as mark
use Rattle.status_rules.specs.declared.Status.{Status}
use Rattle.status_rules.specs.declared.Status.TheVariants as status
use Rattle.plan_model.specs.Contents.{Contents, IsLive, Precedes}
use Rattle.plan_model.specs.Starts.{Reaches}
use Rattle.plan_model.specs.Status.{HasStatus, UnmarkedStatus}
use Rattle.plan_records.specs.Acceptance.{MayBeDone}
use Rattle.plan_records.specs.declared.What.TheVariants as what
use Rattle.plan_checks.specs.plan_status.proofs.LoadedRows.{row_found}
use Rattle.plan_checks.specs.plan_status.proofs.RowKeys.{row_of_key}
use Rattle.small_requests.specs.KeptLaws.{RerunsGoOn}

module _ {K : Type 0} (edge : K → K → Type 0) (live : K → Type 0) where
  end_live : (a : K) (rest : List K) → live a → IsPathBy edge live a rest → live (end_of a rest)
  end_live a [] from path = from
  end_live a (b ∷ rest) from path = end_live b rest path.1 path.2

module _ (P : Contents) (o : OpKey) where
  -- a path from what is live ends in what is live
  pub reached_live : IsLive P o → (q : OpKey) → Reaches P o q → IsLive P q
  reached_live live q reached = subst (IsLive P) reached.2 (end_live (Precedes P) (IsLive P) o reached.0 live reached.1)

  live_by : (s : Status) → s ≢ status.Deleted → HasStatus P o s → IsLive P o
  live_by s other has = (has.0, has.1, λ deleted. other (subst (λ m. MatchOption (marked_status m) (UnmarkedStatus P o s) (λ told. s ≡ told)) deleted has.2))

  -- what may be run again is live
  pub rerun_is_live : (m : ℕ) → NoneRefuses (MayBeDone P m (what.Rerun o)) → IsLive P o
  rerun_is_live m clear =
      let known = clear refusal.UnknownOperation in
      elim (clear refusal.WrongStatus known.0 known.1) [
        | inl interrupted ↦ live_by status.Interrupted (λ e. cc) interrupted
        | inr (inl complete) ↦ live_by status.Complete (λ e. cc) complete
        | inr (inr (inl error)) ↦ live_by status.Error (λ e. cc) error
        | inr (inr (inr undecided)) ↦ live_by status.Undecided (λ e. cc) undecided
      ]

live_or_deleted : (m : Mark) → (m ≢ mark.Deleted) ⊎ (m ≡ mark.Deleted)
live_or_deleted mark.Deleted = inr refl
live_or_deleted m = inl (λ e. cc)

pub reruns_go_on : RerunsGoOn
reruns_go_on P o places g graph edited i j has edge =
    let pair = (graph.edges i j).0 edge in
    let from = row_of_key (entries P.operations) i pair.0 pair.2 in
    let to = row_of_key (entries P.operations) j pair.1 pair.3 in
    let reached = (edited.each i pair.0 from.0 from.1).0 has in
    elim (live_or_deleted to.0.mark) [
      | inl live ↦ inl ((edited.each j pair.1 to.0 to.1).1 (reaches_more (Precedes P) (IsLive P) o pair.0 pair.1 reached pair.4 (to.0, row_found P j pair.1 to.0 to.1, live)))
      | inr deleted ↦ inr (pair.1, to.0, to.1, deleted)
    ]
