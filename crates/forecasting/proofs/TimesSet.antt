-- Times that are set one after another, by the indices of rows.
use Rattle.std.proofs.Common.{◌≡◌, ◌⊎◌, inl, inr, refl, sym, ◌∙◌, ap, subst, arith, ℕ, zero, suc, ◌+◌, ◌<◌, ◌≤◌, List, [], ◌∷◌, Contains, Option, Some, None, get_or, length, slice_get, slice_set}
use Rattle.std.proofs.lemmas.Bool.{cases_eq}
use Rattle.std.proofs.lemmas.List.{length-set}
use Rattle.std.proofs.lemmas.Option.{same_Some, slice_get-get_or, slice_get_within}
use Rattle.operation_graph.proofs.Telling.{Told}
use Rattle.plan_basics.proofs.Members.{place_of}
use Rattle.plan_basics.specs.declared.keys.OpKey.{OpKey}
use Rattle.plan_model.specs.Contents.{Operation}
use Rattle.plan_forecast.specs.Ahead.{AreTimesAfter, IsTimeAfter}
use Rattle.plan_forecast.proofs.Made.{is_time_after, time_after}
use Rattle.plan_forecast.proofs.One.{one_time}
use Rattle.forecasting.specs.Following.{AreSetAt, HaveTimes}
use Rattle.forecasting.specs.Times.{AreTimesOf}

set_here : {X : Type 0} (xs : List X) (i : ℕ) (a : X) → i < length xs → slice_get (slice_set xs i a) i ≡ Some a
set_here [] i a less = absurd (omega (arith, less))
set_here (x ∷ xs) zero a less = refl
set_here (x ∷ xs) (suc i) a less = set_here xs i a (omega (arith, less))

set_elsewhere : {X : Type 0} (xs : List X) (i k : ℕ) (a : X) → (k ≡ i → ⊥) → slice_get (slice_set xs i a) k ≡ slice_get xs k
set_elsewhere [] i k a other = refl
set_elsewhere (x ∷ xs) zero zero a other = absurd (other refl)
set_elsewhere (x ∷ xs) zero (suc k) a other = refl
set_elsewhere (x ∷ xs) (suc i) zero a other = refl
set_elsewhere (x ∷ xs) (suc i) (suc k) a other = set_elsewhere xs i k a (λ e. other (ap suc e))

-- the time after the time after is the time after
time_twice : (so : Type 0) (m : ℕ) (x y z : Option ℕ) → IsTimeAfter so m x y → IsTimeAfter so m y z → IsTimeAfter so m x z
time_twice so m (Some k) y z h g = subst (λ (w : Option ℕ). IsTimeAfter so m w z) h g
time_twice so m None y z (inl h) g = inl (h.0, subst (λ (w : Option ℕ). IsTimeAfter so m w z) h.1 g)
time_twice so m None y z (inr h) g = subst (λ (w : Option ℕ). IsTimeAfter so m w z) h.1 g

time_later : (so : Type 0) (m : ℕ) (x y z : Option ℕ) → (y ≡ x) ⊎ IsTimeAfter so m x y → IsTimeAfter so m y z → IsTimeAfter so m x z
time_later so m x y z (inl same) after = subst (λ (w : Option ℕ). IsTimeAfter so m w z) same after
time_later so m x y z (inr first) after = time_twice so m x y z first after

-- so it is up to an index of the places
pub record AreSetUpTo (so : OpKey → Type 0) (from : OpKey → ℕ) (rows : List (OpKey × Operation)) (places : List ℕ) (before now : List (Option ℕ)) (n : ℕ) : Type 0 where
  pub size : length now ≡ length before
  pub each : (k : ℕ) (o : OpKey) (op : Operation) (y : Option ℕ) → slice_get rows k ≡ Some (o, op) → slice_get before k ≡ Some y → (z : Option ℕ) × (slice_get now k ≡ Some z) × ((z ≡ y) ⊎ IsTimeAfter (so o) (from o) y z)
  pub here : (j k : ℕ) (o : OpKey) (op : Operation) (y z : Option ℕ) → j < n → slice_get places j ≡ Some k → slice_get rows k ≡ Some (o, op) → slice_get before k ≡ Some y → slice_get now k ≡ Some z → IsTimeAfter (so o) (from o) y z

module _ (so : OpKey → Type 0) (from : OpKey → ℕ) (rows : List (OpKey × Operation)) (places : List ℕ) where
  pub set_first : (before : List (Option ℕ)) → AreSetUpTo so from rows places before before 0
  set_first before = record { size = refl; each = λ k o op y at was. (y, was, inl refl); here = λ j k o op y z less listed at was is. absurd (omega (arith, less)) }

  module _ (before now : List (Option ℕ)) (n p : ℕ) (old new : Option ℕ) (sets : AreSetUpTo so from rows places before now n) (listed : slice_get places n ≡ Some p) (room : p < length now) (at_old : slice_get now p ≡ Some old)
      (time : (o : OpKey) (op : Operation) → slice_get rows p ≡ Some (o, op) → IsTimeAfter (so o) (from o) old new) where
    abbrev pub after : List (Option ℕ)
    after = slice_set now p new

    -- at the index that is set
    time_here : (o : OpKey) (op : Operation) (y : Option ℕ) → slice_get rows p ≡ Some (o, op) → slice_get before p ≡ Some y → IsTimeAfter (so o) (from o) y new
    time_here o op y at was =
        let h = sets.each p o op y at was in
        let same : h.0 ≡ old = same_Some h.0 old (sym h.1 ∙ at_old) in
        time_later (so o) (from o) y old new (subst (λ (w : Option ℕ). (w ≡ y) ⊎ IsTimeAfter (so o) (from o) y w) same h.2) (time o op at)

    pub set_next : AreSetUpTo so from rows places before after (n + 1)
    set_next = record {
      size = length-set now p new ∙ sets.size;
      each = λ k o op y at was. elim (cases_eq k p) [
        | inl e ↦ (
          new,
          ap (slice_get after) e ∙ set_here now p new room,
          inr (time_here o op y (ap (slice_get rows) (sym e) ∙ at) (ap (slice_get before) (sym e) ∙ was)),
        )
        | inr other ↦ (let h = sets.each k o op y at was in (h.0, set_elsewhere now p k new (λ e. omega (arith, e, other)) ∙ h.1, h.2))
      ];
      here = λ j k o op y z less at_j at was is. elim (cases_eq k p) [
        | inl e ↦ (
            let same : new ≡ z = same_Some new z (sym (set_here now p new room) ∙ ap (slice_get after) (sym e) ∙ is) in
            subst (λ (w : Option ℕ). IsTimeAfter (so o) (from o) y w) same (time_here o op y (ap (slice_get rows) (sym e) ∙ at) (ap (slice_get before) (sym e) ∙ was)))
        | inr other ↦ elim (cases_eq j n) [
          | inl last ↦ absurd (let e : k ≡ p = same_Some k p (sym at_j ∙ ap (slice_get places) last ∙ listed) in omega (arith, e, other))
          | inr earlier ↦ sets.here j k o op y z (omega (arith, less, earlier)) at_j at was (sym (set_elsewhere now p k new (λ e. omega (arith, e, other))) ∙ is)
        ]
      ];
    }

  -- once all are set
  pub set_all : (before now : List (Option ℕ)) (n : ℕ) → length places ≤ n → AreSetUpTo so from rows places before now n → AreSetAt so from rows places before now
  set_all before now n enough sets = record {
    each = sets.each;
    here = λ k o op y z has at was is. (
        let p = place_of places k has in
        sets.here p.0 k o op y z (let within = slice_get_within places p.0 k p.1 in omega (arith, within, enough)) p.1 at was is);
  }

-- what is so has a time already, or is at one of these indices
abbrev pub HasTimeOrPlace : (OpKey → Type 0) → List (OpKey × Operation) → List ℕ → List (Option ℕ) → Type 0
HasTimeOrPlace so rows places before = (i : ℕ) (o : OpKey) (op : Operation) → slice_get rows i ≡ Some (o, op) → so o → ((b : ℕ) × (slice_get before i ≡ Some (Some b))) ⊎ Contains places i

stays : (so : Type 0) (m : ℕ) (y : Option ℕ) → ¬ so → IsTimeAfter so m y y
stays so m (Some k) never = refl
stays so m None never = inr (never, refl)

timed : (so : Type 0) (m : ℕ) (y z : Option ℕ) → so → IsTimeAfter so m y z → (b : ℕ) × (z ≡ Some b)
timed so m (Some k) z is h = (k, h)
timed so m None z is (inl h) = (m, h.1)
timed so m None z is (inr h) = absurd (h.0 is)

still_timed : (so : Type 0) (m b : ℕ) (z : Option ℕ) → (z ≡ Some b) ⊎ IsTimeAfter so m (Some b) z → z ≡ Some b
still_timed so m b z (inl same) = same
still_timed so m b z (inr h) = h

module _ (so : OpKey → Type 0) (from : OpKey → ℕ) (rows : List (OpKey × Operation)) (places : List ℕ) (before now : List (Option ℕ)) (sets : AreSetAt so from rows places before now) (has : HasTimeOrPlace so rows places before) where
  pub moves : ((o : OpKey) → Told (so o)) → (old : OpKey → Option ℕ) → AreTimesOf old rows before → (new : OpKey → Option ℕ) × AreTimesAfter so from old new × AreTimesOf new rows now
  moves told old were =
      let new : OpKey → Option ℕ = λ o. time_after (old o) (told o) (from o) in (
        new,
        λ o. is_time_after (old o) (told o) (from o),
        λ i o op at.
            let was = were i o op at in
            let h = sets.each i o op (old o) at was in
            let time : IsTimeAfter (so o) (from o) (old o) h.0 = elim h.2 [
              | inr after ↦ after
              | inl same ↦ elim (told o) [
                | inr never ↦ subst (λ (w : Option ℕ). IsTimeAfter (so o) (from o) (old o) w) (sym same) (stays (so o) (from o) (old o) never)
                | inl is ↦ elim (has i o op at is) [
                  | inr here ↦ sets.here i o op (old o) h.0 here at was h.1
                  | inl timed_so ↦ (
                      let e : old o ≡ Some timed_so.0 = same_Some (old o) (Some timed_so.0) (sym was ∙ timed_so.1) in
                      subst (λ (w : Option ℕ). IsTimeAfter (so o) (from o) w h.0) (sym e) (same ∙ e))
                ]
              ]
            ] in
            h.1 ∙ ap Some (one_time (so o) (from o) (old o) h.0 (new o) time (is_time_after (old o) (told o) (from o))),
      )

  pub have_times : length before ≡ length rows → HaveTimes so rows now
  have_times size i o op at is = elim (has i o op at is) [
    | inl known ↦ (
        let h = sets.each i o op (Some known.0) at known.1 in
        (known.0, h.1 ∙ ap Some (still_timed (so o) (from o) known.0 h.0 h.2)))
    | inr here ↦ (
        let within = slice_get_within rows i (o, op) at in
        let y = get_or before i None in
        let was = slice_get-get_or before i None (omega (arith, within, size)) in
        let h = sets.each i o op y at was in
        let t = timed (so o) (from o) y h.0 is (sets.here i o op y h.0 here at was h.1) in
        (t.0, h.1 ∙ ap Some t.1))
  ]
