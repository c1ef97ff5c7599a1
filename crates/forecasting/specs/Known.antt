-- Since when operations are going as they do, as far as it is known, in memory.
use Rattle.std.specs.Prelude.{◌≡◌, ◌≢◌, ◌⊎◌, Bool, true, false, not, cond, ℕ, nat_lt, List, [], ◌∷◌, MatchOption, Option, Some, None}
use Rattle.std.specs.BTreeMap as tree
use Rattle.std.specs.Ordering.{eq_by_cmp}
use Rattle.plan_basics.specs.Keys.{operation_cmp}
use Rattle.plan_basics.specs.contracts.keys.OpKeyOrd.TheImpl as derived
use Rattle.plan_basics.specs.declared.keys.OpKey.{OpKey}
use Rattle.plan_model.specs.Contents.{Contents, Has}
use Rattle.status_rules.specs.declared.Mark.{Mark}
use Rattle.status_rules.specs.declared.Mark.TheVariants as mark
use Rattle.plan_forecast.specs.Ahead.{IsGoing}
use Rattle.plan_forecast.specs.Starts.{IsRunning}
use Rattle.forecasting.specs.declared.known.KnownStarts.{KnownStarts}
use Rattle.forecasting.specs.declared.known.Noted.{Noted}

-- whether a start is reported by the mark
abbrev pub is_running : Mark → Bool
is_running mark.Running = true
is_running m = false

-- whether two are alike
abbrev pub is_alike : Bool → Bool → Bool
is_alike true b = b
is_alike false b = not b

-- what is noted of an operation, if anything is
abbrev pub entry_of : KnownStarts → OpKey → Option Noted
entry_of known o = tree.get derived.ghosts.cmp known.going o

-- the minute since which an operation is going as it does, if it is known
abbrev pub since_noted : Option Noted → Option ℕ
since_noted None = None
since_noted (Some e) = e.since

abbrev pub since_in : KnownStarts → OpKey → Option ℕ
since_in known o = since_noted (entry_of known o)

-- whether it is noted that it runs
abbrev pub runs_noted : Option Noted → Bool
runs_noted None = false
runs_noted (Some e) = e.is_running

abbrev pub runs_in : KnownStarts → OpKey → Bool
runs_in known o = runs_noted (entry_of known o)

-- whether it runs is noted of o, which is going
abbrev pub IsNotedOf : Contents → OpKey → Noted → Type 0
IsNotedOf P o e = IsGoing P o × Has P o (λ op. e.is_running ≡ is_running op.mark)

-- the table follows this plan: that is noted of what is going, and nothing of anything else
pub record AreOfGoing (P : Contents) (known : KnownStarts) : Type 0 where
  pub follows : known.follows ≡ true
  pub noted : (o : OpKey) → MatchOption (entry_of known o) (¬ IsGoing P o) (IsNotedOf P o)

-- what a request gives as the start of what goes on in another way by it: its moment, where a plan has been followed up to it
abbrev pub fresh_at : Bool → ℕ → Option ℕ
fresh_at true clock = Some clock
fresh_at false clock = None

-- what is kept of what runs, or doesn't, by what was noted before: its minute where that is alike, else this
abbrev pub kept_by : Option Noted → Bool → Option ℕ → Option ℕ
kept_by None runs fresh = fresh
kept_by (Some e) runs fresh = cond (is_alike e.is_running runs) e.since fresh

-- so it is of all that is noted in the new table
abbrev pub AreKeptOf : KnownStarts → Option ℕ → KnownStarts → Type 0
AreKeptOf old fresh new = (o : OpKey) (e : Noted) → entry_of new o ≡ Some e → e.since ≡ kept_by (entry_of old o) e.is_running fresh

-- what is noted of an operation of this mark
abbrev pub noted_by : Option Noted → Mark → Option ℕ → Noted
noted_by old m fresh = record { is_running = is_running m; since = kept_by old (is_running m) fresh }

-- this is noted of o, and of each other what was noted before
abbrev pub IsKept : OpKey → Noted → KnownStarts → KnownStarts → Type 0
IsKept o e old new = (entry_of new o ≡ Some e) × ((p : OpKey) → p ≢ o → entry_of new p ≡ entry_of old p) × (new.follows ≡ old.follows)

-- so it is if this is so; else all is noted as before
abbrev pub IsKeptIf : Type 0 → OpKey → Noted → KnownStarts → KnownStarts → Type 0
IsKeptIf is_so o e old new = (is_so × IsKept o e old new) ⊎ (¬ is_so × (new ≡ old))

-- the start of what runs, by what was told before and what is told now: that, unless it is a start before the other one; then it came once more, or was another plan's, and nothing is known
abbrev pub newer : Option ℕ → Option ℕ → Option ℕ
newer (Some before) (Some told) = cond (nat_lt told before) None (Some told)
newer _ told = told

-- since when o runs once these were told, one after another, where that was known so before: each that is about o tells it anew
abbrev pub told_after : Option ℕ → List (OpKey × Option ℕ) → OpKey → Option ℕ
told_after since [] o = since
told_after since (m ∷ mentions) o = told_after (cond (eq_by_cmp operation_cmp m.0 o) (newer since m.1) since) mentions o

-- since when o is going as it does is what was told last, where it runs; else nothing is known
abbrev pub IsStartTold : Contents → List (OpKey × Option ℕ) → OpKey → Option ℕ → Type 0
IsStartTold P mentions o since =
    (IsGoing P o × IsRunning P o × (since ≡ told_after None mentions o))
    ⊎ (¬ (IsGoing P o × IsRunning P o) × (since ≡ None))

-- of what is told a table has heard all but the rest: what is noted to run does so since what was told last; all else is noted as before
pub record HaveHeard (old : KnownStarts) (mentions : List (OpKey × Option ℕ)) (new : KnownStarts) (rest : List (OpKey × Option ℕ)) : Type 0 where
  pub follows : new.follows ≡ old.follows
  pub runs : (o : OpKey) → runs_in old o ≡ true → (entry_of new o ≡ Some (record { is_running = true; since = since_in new o })) × (told_after (since_in new o) rest o ≡ told_after (since_in old o) mentions o)
  pub others : (o : OpKey) → runs_in old o ≡ false → entry_of new o ≡ entry_of old o
