-- What is told of starts, one after another, and what is known of them then.
use Rattle.std.proofs.Common.{◌≡◌, ◌≢◌, ◌⊎◌, inl, inr, refl, sym, ◌∙◌, ap, subst, ℕ, List, [], ◌∷◌, Bool, true, false, true≢false, cond, Option, Some, None, MatchOption}
use Rattle.std.specs.Ordering.{eq_by_cmp}
use Rattle.plan_basics.specs.Keys.{operation_cmp, operation_cmp-IsAntisymmetric, operation_cmp_total}
use Rattle.plan_basics.specs.declared.keys.OpKey.{OpKey}
use Rattle.plan_records.specs.plan_drafts.proofs.Tables.{itself, other_key}
use Rattle.plan_model.specs.Contents.{Contents}
use Rattle.plan_forecast.specs.Ahead.{IsGoing}
use Rattle.plan_forecast.specs.Starts.{IsRunning}
use Rattle.forecasting.specs.Known.{AreOfGoing, HaveHeard, IsKept, IsKeptIf, IsNotedOf, IsStartTold, entry_of, newer, runs_in, runs_noted, since_in, since_noted, told_after}
use Rattle.forecasting.specs.declared.known.KnownStarts.{KnownStarts}
use Rattle.forecasting.specs.declared.known.Noted.{Noted}
use Rattle.forecasting.proofs.Kept.{is_noted, noted_of, noted_runs, same_or_other}

-- what is noted of what runs
pub running_noted : (z : Option Noted) → runs_noted z ≡ true → z ≡ Some (record { is_running = true; since = since_noted z })
running_noted None runs = absurd (true≢false (sym runs))
running_noted (Some e) runs = ap (λ b. Some (record { is_running = b; since = e.since })) runs

pub heard_first : (known : KnownStarts) (mentions : List (OpKey × Option ℕ)) → HaveHeard known mentions known mentions
heard_first known mentions = record {
  follows = refl;
  runs = λ o is. (running_noted (entry_of known o) is, refl);
  others = λ o is. refl;
}

-- of another operation nothing is told
told_other : (o : OpKey) (m : OpKey × Option ℕ) → m.0 ≢ o → (since : Option ℕ) (rest : List (OpKey × Option ℕ)) → told_after since (m ∷ rest) o ≡ told_after since rest o
told_other o m apart since rest = ap (λ b. told_after (cond b (newer since m.1) since) rest o) (other_key operation_cmp_total operation_cmp-IsAntisymmetric m.0 o apart)

told_itself : (o : OpKey) (m : OpKey × Option ℕ) → m.0 ≡ o → (since : Option ℕ) (rest : List (OpKey × Option ℕ)) → told_after since (m ∷ rest) o ≡ told_after (newer since m.1) rest o
told_itself o m same since rest = ap (λ b. told_after (cond b (newer since m.1) since) rest o) (ap (eq_by_cmp operation_cmp m.0) (sym same) ∙ itself operation_cmp_total operation_cmp-IsAntisymmetric m.0)

module _ (old : KnownStarts) (mentions : List (OpKey × Option ℕ)) (now next : KnownStarts) (m : OpKey × Option ℕ) (rest : List (OpKey × Option ℕ)) (so_far : HaveHeard old mentions now (m ∷ rest)) where
  -- what is told of what runs is noted
  heard_noted : runs_in now m.0 ≡ true → IsKept m.0 (record { is_running = true; since = newer (since_in now m.0) m.1 }) now next → HaveHeard old mentions next rest
  heard_noted here keeps = record {
    follows = keeps.2 ∙ so_far.follows;
    runs = λ o is. elim (same_or_other m.0 o) [
      | inl same ↦
          let noted : entry_of next o ≡ Some (record { is_running = true; since = newer (since_in now o) m.1 }) = ap (entry_of next) (sym same) ∙ keeps.0 ∙ ap (λ p. Some (record { is_running = true; since = newer (since_in now p) m.1 })) same in
          let since : since_in next o ≡ newer (since_in now o) m.1 = ap since_noted noted in (
            noted ∙ ap (λ s. Some (record { is_running = true; since = s })) (sym since),
            ap (λ s. told_after s rest o) since ∙ sym (told_itself o m same (since_in now o) rest) ∙ (so_far.runs o is).1,
          )
      | inr other ↦
          let alike : entry_of next o ≡ entry_of now o = keeps.1 o (λ e. other (sym e)) in
          let since : since_in next o ≡ since_in now o = ap since_noted alike in (
            alike ∙ (so_far.runs o is).0 ∙ ap (λ s. Some (record { is_running = true; since = s })) (sym since),
            ap (λ s. told_after s rest o) since ∙ sym (told_other o m other (since_in now o) rest) ∙ (so_far.runs o is).1,
          )
    ];
    others = λ o is. elim (same_or_other m.0 o) [
      | inl same ↦ absurd (true≢false (sym here ∙ ap (runs_in now) same ∙ ap runs_noted (so_far.others o is) ∙ is))
      | inr other ↦ keeps.1 o (λ e. other (sym e)) ∙ so_far.others o is
    ];
  }

  -- what is told of anything else is passed over
  heard_nothing : ¬ (runs_in now m.0 ≡ true) → HaveHeard old mentions now rest
  heard_nothing never = record {
    follows = so_far.follows;
    runs = λ o is.
        let here = so_far.runs o is in
        let apart : m.0 ≢ o = λ same. never (ap (runs_in now) same ∙ ap runs_noted here.0) in
        (here.0, sym (told_other o m apart (since_in now o) rest) ∙ here.1);
    others = so_far.others;
  }

  pub heard_next : IsKeptIf (runs_in now m.0 ≡ true) m.0 (record { is_running = true; since = newer (since_in now m.0) m.1 }) now next → HaveHeard old mentions next rest
  heard_next (inl (here, keeps)) = heard_noted here keeps
  heard_next (inr (never, same)) = subst (λ z. HaveHeard old mentions z rest) (sym same) (heard_nothing never)

module _ (P : Contents) (old : KnownStarts) (mentions : List (OpKey × Option ℕ)) (new : KnownStarts) (is : AreOfGoing P old) (heard : HaveHeard old mentions new []) where
  noted_before : (o : OpKey) → runs_in old o ≡ true → IsNotedOf P o (record { is_running = true; since = since_in old o })
  noted_before o runs = noted_of P old is o (record { is_running = true; since = since_in old o }) (running_noted (entry_of old o) runs)

  noted_now : (o : OpKey) (b : Bool) → runs_in old o ≡ b → MatchOption (entry_of new o) (¬ IsGoing P o) (IsNotedOf P o)
  noted_now o true runs = subst (λ (z : Option Noted). MatchOption z (¬ IsGoing P o) (IsNotedOf P o)) (sym (heard.runs o runs).0) (noted_before o runs)
  noted_now o false rests = subst (λ (z : Option Noted). MatchOption z (¬ IsGoing P o) (IsNotedOf P o)) (sym (heard.others o rests)) (is.noted o)

  -- the table follows the same plan
  pub heard_going : AreOfGoing P new
  heard_going = record { follows = heard.follows ∙ is.follows; noted = λ o. noted_now o (runs_in old o) refl }

  running_by : (o : OpKey) → IsGoing P o → IsRunning P o → runs_in old o ≡ true
  running_by o going running =
      let e = is_noted P old is o going in
      ap runs_noted e.1 ∙ (noted_runs P o e.0 (noted_of P old is o e.0 e.1)).1 running

  -- and what runs does so since what was told last
  pub heard_starts : ((o : OpKey) → since_in old o ≡ None) → (o : OpKey) → IsStartTold P mentions o (since_in new o)
  heard_starts unknown o = by (runs_in old o) refl
    where
      by : (b : Bool) → runs_in old o ≡ b → IsStartTold P mentions o (since_in new o)
      by true runs =
          let noted = noted_before o runs in
          inl (noted.0, (noted_runs P o (record { is_running = true; since = since_in old o }) noted).0 refl, (heard.runs o runs).1 ∙ ap (λ s. told_after s mentions o) (unknown o))
      by false rests = inr (λ both. true≢false (sym (running_by o both.0 both.1) ∙ rests), ap since_noted (heard.others o rests) ∙ unknown o)
