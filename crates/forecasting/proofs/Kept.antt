-- What is noted of what is going, row by row.
use Rattle.std.proofs.Common.{◌≡◌, ◌≢◌, ◌⊎◌, inl, inr, refl, sym, ◌∙◌, ap, subst, arith, ℕ, zero, suc, ◌+◌, ◌<◌, ◌≤◌, List, [], ◌∷◌, Bool, true, false, true≢false, cond, length, slice_get, is_some, IsSome, Option, Some, None, MatchOption, Result, Ok, Err, IfOk, OnOk}
use Rattle.std.proofs.lemmas.Bool.{cases_lt}
use Rattle.std.proofs.lemmas.Option.{none-some, same_Some, slice_get_within}
use Rattle.std.specs.FinMap.{entries, get, get-empty}
use Rattle.std.specs.Ordering.{eq_by_cmp}
use Rattle.plan_basics.proofs.Members.{tied_is}
use Rattle.plan_basics.specs.Keys.{operation_cmp, operation_cmp-IsAntisymmetric, operation_cmp_total}
use Rattle.plan_basics.specs.contracts.keys.OpKeyOrd.TheImpl as derived
use Rattle.plan_basics.specs.declared.keys.OpKey.{OpKey}
use Rattle.derived_figures.specs.start_choice.specs.plan_status.proofs.LoadedRows.{row_found}
use Rattle.plan_records.specs.plan_drafts.proofs.Tables.{itself, other_key}
use Rattle.plan_model.specs.Contents.{Contents, Operation, nothing}
use Rattle.plan_model.specs.Plan.{Plan}
use Rattle.status_rules.specs.declared.Mark.{Mark}
use Rattle.status_rules.specs.declared.Mark.TheVariants as mark
use Rattle.plan_forecast.specs.Ahead.{IsGoing}
use Rattle.plan_forecast.specs.Starts.{AreStartsAfter, GoesOnAlike, IsRunning}
use Rattle.forecasting.specs.Known.{AreKeptOf, AreOfGoing, IsKept, IsKeptIf, IsNotedOf, entry_of, is_alike, is_running, kept_by, noted_by, since_in, since_noted}
use Rattle.forecasting.specs.declared.known.KnownStarts.{KnownStarts}
use Rattle.forecasting.specs.declared.known.Noted.{Noted}
use Rattle.forecasting.proofs.Dues.{row_of}

-- the order of the table's keys is that of a plan's
pub derived_is : (a b : OpKey) → derived.ghosts.cmp a b ≡ operation_cmp a b
derived_is a b = refl

pub key_apart : (a b : OpKey) → b ≢ a → eq_by_cmp derived.ghosts.cmp a b ≡ false
key_apart a b apart = other_key operation_cmp_total operation_cmp-IsAntisymmetric a b (λ e. apart (sym e))

pub same_or_other : (a b : OpKey) → (a ≡ b) ⊎ (a ≢ b)
same_or_other a b = elim (eq_by_cmp operation_cmp a b) as (λ t. eq_by_cmp operation_cmp a b ≡ t → (a ≡ b) ⊎ (a ≢ b)) [
  | true ↦ λ e. inl (tied_is operation_cmp-IsAntisymmetric a b e)
  | false ↦ λ e. inr (λ same. true≢false (sym (itself operation_cmp_total operation_cmp-IsAntisymmetric a) ∙ ap (eq_by_cmp operation_cmp a) same ∙ e))
] refl

row_at : {X : Type 0} (xs : List X) (n : ℕ) → n < length xs → (x : X) × (slice_get xs n ≡ Some x)
row_at [] n less = absurd (omega (arith, less))
row_at (x ∷ xs) zero less = (x, refl)
row_at (x ∷ xs) (suc n) less = row_at xs n (omega (arith, less))

-- what is going is there
going_there : (P : Contents) (o : OpKey) → IsGoing P o → (op : Operation) × (get P.operations o ≡ Some op)
going_there P o (inl h) = (h.0, h.1)
going_there P o (inr h) = (h.1.0, h.1.1)

-- so it is of all that is noted; all that is going among the rows before this one is noted, and of each what the old one keeps or this
pub record AreKeptUpTo (P : Contents) (old : KnownStarts) (fresh : Option ℕ) (n : ℕ) (new : KnownStarts) : Type 0 where
  pub follows : new.follows ≡ true
  pub going : (o : OpKey) (e : Noted) → entry_of new o ≡ Some e → IsNotedOf P o e
  pub kept : AreKeptOf old fresh new
  pub all : (k : ℕ) (o : OpKey) (op : Operation) → k < n → slice_get (entries P.operations) k ≡ Some (o, op) → IsGoing P o → IsSome (entry_of new o)

module _ (P : Contents) (old : KnownStarts) (fresh : Option ℕ) where
  pub kept_first : (new : KnownStarts) → ((o : OpKey) → entry_of new o ≡ None) → new.follows ≡ true → AreKeptUpTo P old fresh 0 new
  kept_first new none follows = record {
    follows = follows;
    going = λ o e is. absurd (none-some e (sym (none o) ∙ is));
    kept = λ o e is. absurd (none-some e (sym (none o) ∙ is));
    all = λ k o op less at h. absurd (omega (arith, less));
  }

  -- of what isn't going nothing more is noted
  kept_none : (n : ℕ) (o : OpKey) (op : Operation) (new : KnownStarts) → slice_get (entries P.operations) n ≡ Some (o, op) → ¬ IsGoing P o → AreKeptUpTo P old fresh n new → AreKeptUpTo P old fresh (n + 1) new
  kept_none n o op new at never so_far = record {
    follows = so_far.follows;
    going = so_far.going;
    kept = so_far.kept;
    all = λ k p op' less at' h. elim (cases_lt k n) [
      | inl earlier ↦ so_far.all k p op' earlier at' h
      | inr more ↦
          let same : k ≡ n = omega (arith, less, more) in
          let row : (o, op) ≡ (p, op') = same_Some (o, op) (p, op') (sym at ∙ ap (slice_get (entries P.operations)) (sym same) ∙ at') in
          absurd (never (subst (IsGoing P) (sym (ap (λ (r : OpKey × Operation). r.0) row)) h))
    ];
  }

  kept_more : (n : ℕ) (o : OpKey) (op : Operation) (now next : KnownStarts) → slice_get (entries P.operations) n ≡ Some (o, op) → IsGoing P o
      → IsKept o (noted_by (entry_of old o) op.mark fresh) now next → AreKeptUpTo P old fresh n now → AreKeptUpTo P old fresh (n + 1) next
  kept_more n o op now next at here keeps so_far =
      let noted : Noted = noted_by (entry_of old o) op.mark fresh in
      record {
        follows = keeps.2 ∙ so_far.follows;
        going = λ p e is. elim (same_or_other p o) [
          | inl same ↦
              let this : noted ≡ e = same_Some noted e (sym keeps.0 ∙ ap (entry_of next) (sym same) ∙ is) in
              subst (λ q. IsNotedOf P q e) (sym same) (here, (op, row_found P n o op at, ap (λ (z : Noted). z.is_running) (sym this)))
          | inr other ↦ so_far.going p e (sym (keeps.1 p other) ∙ is)
        ];
        kept = λ p e is. elim (same_or_other p o) [
          | inl same ↦
              let this : noted ≡ e = same_Some noted e (sym keeps.0 ∙ ap (entry_of next) (sym same) ∙ is) in
              ap (λ (z : Noted). z.since) (sym this) ∙ ap (λ b. kept_by (entry_of old o) b fresh) (ap (λ (z : Noted). z.is_running) this) ∙ ap (λ q. kept_by (entry_of old q) e.is_running fresh) (sym same)
          | inr other ↦ so_far.kept p e (sym (keeps.1 p other) ∙ is)
        ];
        all = λ k p op' less at' h. elim (same_or_other p o) [
          | inl same ↦ ap is_some (ap (entry_of next) same ∙ keeps.0)
          | inr other ↦ elim (cases_lt k n) [
            | inl earlier ↦ subst (λ (z : Option Noted). IsSome z) (sym (keeps.1 p other)) (so_far.all k p op' earlier at' h)
            | inr more ↦
                let is : k ≡ n = omega (arith, less, more) in
                let row : (p, op') ≡ (o, op) = same_Some (p, op') (o, op) (sym at' ∙ ap (slice_get (entries P.operations)) is ∙ at) in
                absurd (other (ap (λ (r : OpKey × Operation). r.0) row))
          ]
        ];
      }

  pub kept_next : (n : ℕ) (now next : KnownStarts) → n < length (entries P.operations)
      → ((o : OpKey) (op : Operation) → slice_get (entries P.operations) n ≡ Some (o, op) → IsKeptIf (IsGoing P o) o (noted_by (entry_of old o) op.mark fresh) now next) → AreKeptUpTo P old fresh n now → AreKeptUpTo P old fresh (n + 1) next
  kept_next n now next room keeps so_far =
      let row = row_at (entries P.operations) n room in
      elim (keeps row.0.0 row.0.1 row.1) [
        | inl here ↦ kept_more n row.0.0 row.0.1 now next row.1 here.0 here.1 so_far
        | inr never ↦ kept_none n row.0.0 row.0.1 next row.1 never.0 (subst (AreKeptUpTo P old fresh n) (sym never.1) so_far)
      ]

  -- this is noted of the row at n, whose operation is going
  pub kept_here : (n : ℕ) (o : OpKey) (op : Operation) (now next : KnownStarts) → slice_get (entries P.operations) n ≡ Some (o, op) → (noted : Noted) → noted ≡ noted_by (entry_of old o) op.mark fresh → IsGoing P o
      → {U E : Type 0} (r : Result U E) → OnOk r (IsKept o noted now next)
      → OnOk r ((p : OpKey) (op' : Operation) → slice_get (entries P.operations) n ≡ Some (p, op') → IsKeptIf (IsGoing P p) p (noted_by (entry_of old p) op'.mark fresh) now next)
  kept_here n o op now next at noted is going (Err e) keeps = tt
  kept_here n o op now next at noted is going (Ok u) keeps = λ p op' at'.
      let same : (o, op) ≡ (p, op') = same_Some (o, op) (p, op') (sym at ∙ at') in
      subst (λ (r : OpKey × Operation). IsKeptIf (IsGoing P r.0) r.0 (noted_by (entry_of old r.0) r.1.mark fresh) now next) same (inl (going, subst (λ z. IsKept o z now next) is keeps))

  pub kept_all : (n : ℕ) (new : KnownStarts) → length (entries P.operations) ≤ n → AreKeptUpTo P old fresh n new → AreOfGoing P new
  kept_all n new enough so_far = record { follows = so_far.follows; noted = λ o. by o (entry_of new o) refl }
    where
      by : (o : OpKey) (z : Option Noted) → entry_of new o ≡ z → MatchOption z (¬ IsGoing P o) (IsNotedOf P o)
      by o (Some e) is = so_far.going o e is
      by o None is = λ going.
          let there = going_there P o going in
          let row = row_of P o there.0 there.1 in
          let within = slice_get_within (entries P.operations) row.0 (o, there.0) row.1 in
          true≢false (sym (so_far.all row.0 o there.0 (omega (arith, within, enough)) row.1 going) ∙ ap is_some is)

  -- where no plan is loaded nothing is going
  pub kept_of_nothing : P ≡ nothing → (new : KnownStarts) → ((o : OpKey) → entry_of new o ≡ None) → new.follows ≡ true → AreOfGoing P new × AreKeptOf old fresh new
  kept_of_nothing empty new none follows = (
    record {
      follows = follows;
      noted = λ o. subst (λ (z : Option Noted). MatchOption z (¬ IsGoing P o) (IsNotedOf P o)) (sym (none o))
          (λ going. (let there = going_there P o going in none-some there.0 (sym (get-empty operation_cmp o) ∙ ap (λ (Q : Contents). get Q.operations o) (sym empty) ∙ there.1)));
    },
    λ o e is. absurd (none-some e (sym (none o) ∙ is)),
  )

-- where the old one notes nothing, and nothing is given, no start is known
pub known_of_none : (old new : KnownStarts) → ((o : OpKey) → entry_of old o ≡ None) → AreKeptOf old None new → (o : OpKey) → since_in new o ≡ None
known_of_none old new none kept o = by (entry_of new o) refl
  where
    by : (z : Option Noted) → entry_of new o ≡ z → since_noted z ≡ None
    by None is = refl
    by (Some e) is = kept o e is ∙ ap (λ y. kept_by y e.is_running None) (none o)

pub none_known : (old : KnownStarts) → ((o : OpKey) → entry_of old o ≡ None) → {E : Type 0} (r : Result KnownStarts E) → IfOk r (AreKeptOf old None) → IfOk r (λ known. (o : OpKey) → since_in known o ≡ None)
none_known old none (Err e) kept = tt
none_known old none (Ok new) kept = known_of_none old new none kept

-- ---- what follows a plan from one request to the next

is_running_by : (m : Mark) → is_running m ≡ true → m ≡ mark.Running
is_running_by mark.Running e = refl
is_running_by m e = absurd (true≢false (sym e))

alike_is : (a b : Bool) → is_alike a b ≡ true → a ≡ b
alike_is true b e = sym e
alike_is false false e = refl
alike_is false true e = absurd (true≢false (sym e))

alike_itself : (a : Bool) → is_alike a a ≡ true
alike_itself true = refl
alike_itself false = refl

same_runs : (a b : Bool) → (a ≡ true → b ≡ true) → (b ≡ true → a ≡ true) → a ≡ b
same_runs true b f g = sym (f refl)
same_runs false true f g = g refl
same_runs false false f g = refl

-- what is noted as running runs
pub noted_runs : (P : Contents) (o : OpKey) (e : Noted) → IsNotedOf P o e → (e.is_running ≡ true → IsRunning P o) × (IsRunning P o → e.is_running ≡ true)
noted_runs P o e (going, (op, is, noted)) = (
  λ runs. (op, is, is_running_by op.mark (sym noted ∙ runs)),
  λ runs. (let same : op ≡ runs.0 = same_Some op runs.0 (sym is ∙ runs.1) in noted ∙ ap is_running (ap (λ (z : Operation). z.mark) same ∙ runs.2)),
)

pub noted_of : (P : Contents) (known : KnownStarts) → AreOfGoing P known → (o : OpKey) → (e : Noted) → entry_of known o ≡ Some e → IsNotedOf P o e
noted_of P known is o e there = subst (λ (z : Option Noted). MatchOption z (¬ IsGoing P o) (IsNotedOf P o)) there (is.noted o)

pub is_noted : (P : Contents) (known : KnownStarts) → AreOfGoing P known → (o : OpKey) → IsGoing P o → (e : Noted) × (entry_of known o ≡ Some e)
is_noted P known is o going = by (entry_of known o) refl
  where
    by : (z : Option Noted) → entry_of known o ≡ z → (e : Noted) × (z ≡ Some e)
    by (Some e) there = (e, refl)
    by None there = absurd (subst (λ (z : Option Noted). MatchOption z (¬ IsGoing P o) (IsNotedOf P o)) there (is.noted o) going)

module _ (P after : Plan) (old new : KnownStarts) (was : AreOfGoing P.contents old) (is : AreOfGoing after.contents new) (kept : AreKeptOf old (Some after.clock) new) where
  -- the two notes of what goes on alike are alike
  notes_alike : (o : OpKey) (e f : Noted) → entry_of new o ≡ Some e → entry_of old o ≡ Some f → GoesOnAlike P.contents after.contents o → is_alike f.is_running e.is_running ≡ true
  notes_alike o e f now before (goes, here, runs) =
      let a = noted_runs after.contents o e (noted_of after.contents new is o e now) in
      let b = noted_runs P.contents o f (noted_of P.contents old was o f before) in
      let same : f.is_running ≡ e.is_running = same_runs f.is_running e.is_running (λ x. a.1 (runs.0 (b.0 x))) (λ x. b.1 (runs.1 (a.0 x))) in
      subst (λ z. is_alike f.is_running z ≡ true) same (alike_itself f.is_running)

  alike_notes : (o : OpKey) (e f : Noted) → entry_of new o ≡ Some e → entry_of old o ≡ Some f → is_alike f.is_running e.is_running ≡ true → GoesOnAlike P.contents after.contents o
  alike_notes o e f now before alike =
      let here = noted_of after.contents new is o e now in
      let there = noted_of P.contents old was o f before in
      let a = noted_runs after.contents o e here in
      let b = noted_runs P.contents o f there in
      let same : f.is_running ≡ e.is_running = alike_is f.is_running e.is_running alike in
      (there.0, here.0, (λ runs. a.0 (sym same ∙ b.1 runs), λ runs. b.0 (same ∙ a.1 runs)))

  begun_now : (o : OpKey) (e : Noted) → entry_of new o ≡ Some e → ¬ GoesOnAlike P.contents after.contents o → (z : Option Noted) → entry_of old o ≡ z → kept_by z e.is_running (Some after.clock) ≡ Some after.clock
  begun_now o e now other None before = refl
  begun_now o e now other (Some f) before = by (is_alike f.is_running e.is_running) refl
    where
      by : (b : Bool) → is_alike f.is_running e.is_running ≡ b → cond b f.since (Some after.clock) ≡ Some after.clock
      by true alike = absurd (other (alike_notes o e f now before alike))
      by false alike = refl

  pub starts_followed : AreStartsAfter P after (since_in old) (since_in new)
  starts_followed = record {
    begun = λ o going other.
        let e = is_noted after.contents new is o going in
        ap since_noted e.1 ∙ kept o e.0 e.1 ∙ begun_now o e.0 e.1 other (entry_of old o) refl;
    goes_on = λ o alike.
        let e = is_noted after.contents new is o alike.1 in
        let f = is_noted P.contents old was o alike.0 in
        ap since_noted e.1 ∙ kept o e.0 e.1 ∙ ap (λ z. kept_by z e.0.is_running (Some after.clock)) f.1
        ∙ ap (λ b. cond b f.0.since (Some after.clock)) (notes_alike o e.0 f.0 e.1 f.1 alike) ∙ sym (ap since_noted f.1);
    over = λ o never. over_now o never (entry_of new o) refl;
  }
    where
      over_now : (o : OpKey) → ¬ IsGoing after.contents o → (z : Option Noted) → entry_of new o ≡ z → since_noted z ≡ None
      over_now o never None now = refl
      over_now o never (Some e) now = absurd (never (noted_of after.contents new is o e now).0)
