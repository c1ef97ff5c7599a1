-- The first request of a forecast.
use Rattle.std.proofs.Common.{◌≡◌, inl, inr, refl, sym, ◌∙◌, ap, subst, arith, add-one, ℕ, zero, suc, ◌+◌, List, [], ◌∷◌, ◌++◌, All, length, length-append, take, drop, get_or, map, slice_get, option_map, Option, Some, None}
use Rattle.std.proofs.lemmas.List.{length-map, take-append-le, take_all}
use Rattle.std.proofs.lemmas.List.Elements.{Contains-append_cases}
use Rattle.std.proofs.lemmas.Option.{none-some, same_Some, slice_get-get_or, slice_get-map, slice_get_within}
use Rattle.std.specs.FinMap.{entries, get, get-empty}
use Rattle.plan_basics.proofs.Members.{at_place, contains_cases, contains_none, place_of}
use Rattle.plan_basics.specs.Keys.{name_cmp, operation_cmp}
use Rattle.plan_basics.specs.declared.keys.OpKey.{OpKey}
use Rattle.plan_model.specs.Contents.{Contents, Operation, nothing}
use Rattle.plan_model.specs.Plan.{Plan}
use Rattle.plan_forecast.specs.Ahead.{Ahead, AreTimesAfter, IsForecast, IsGoing, LeadsOn, LeadsTo, before_it, counted_from, start_by, start_of, starts_in, tick, unknown}
use Rattle.plan_records.specs.Answer.{accepted}
use Rattle.plan_records.specs.Step.{Step}
use Rattle.plan_records.specs.declared.Request.{Request}
use Rattle.forecasting.specs.Times.{AreTimesOf}
use Rattle.forecasting.specs.Adds.{AreLasting}
use Rattle.forecasting.specs.InMemory.{IsInMemory, IsLike, NoTimes, times_by}
use Rattle.derived_figures.specs.start_choice.specs.plan_status.proofs.LoadedRows.{row_found}
use Rattle.forecasting.proofs.AfterRequest.{Completes, MovesTimes, no_rows}
use Rattle.forecasting.proofs.Keeping.{step_like, times_still}

pub none_first : NoTimes 0 []
none_first = record { size = refl; none = λ i z e. absurd (contains_none z (at_place [] i z e)) }

pub none_next : (n : ℕ) (xs : List (Option ℕ)) → NoTimes n xs → NoTimes (n + 1) (xs ++ None ∷ [])
none_next n xs h = record {
  size = (let s = h.size in let l = length-append xs (None ∷ []) in omega (arith, s, l));
  none = λ i z e. elim (Contains-append_cases xs (None ∷ []) z (at_place (xs ++ None ∷ []) i z e)) [
    | inl before ↦ (let p = place_of xs z before in h.none p.0 z p.1)
    | inr last ↦ elim (contains_cases None [] z last) [ inl same ↦ sym same | inr never ↦ absurd (contains_none z never) ]
  ];
}

-- what counts of the known start of a row's operation
abbrev pub start_at : (OpKey → Option ℕ) → OpKey × Operation → Option ℕ
start_at known row = start_by row.1.mark row.1.not_before (known row.0)

pub times_are : (P : Contents) (known : OpKey → Option ℕ) (times : List (Option ℕ)) → times ≡ times_by known (entries P.operations) → AreTimesOf (starts_in P known) (entries P.operations) times
times_are P known times is i o op at =
    ap (λ xs. slice_get xs i) is ∙ slice_get-map (start_at known) (entries P.operations) i ∙ ap (option_map (start_at known)) at
    ∙ ap (λ z. Some (start_of z (known o))) (sym (row_found P i o op at))

pub times_size : (known : OpKey → Option ℕ) (rows : List (OpKey × Operation)) (times : List (Option ℕ)) → times ≡ times_by known rows → length times ≡ length rows
times_size known rows times is = ap length is ∙ length-map rows (start_at known)

pub nothing_listed : {X : Type 0} (P : X → Type 0) (xs : List X) → xs ≡ [] → All P xs
nothing_listed P xs empty k d less = absurd (let none = ap length empty in omega (arith, none, less))

no_elements : {X : Type 0} (xs : List X) → length xs ≡ 0 → xs ≡ []
no_elements [] e = refl
no_elements (x ∷ xs) e = absurd (omega (arith, e))

pub no_known : (P : Contents) → P ≡ nothing → (known : OpKey → Option ℕ) (times : List (Option ℕ)) → times ≡ [] → times ≡ times_by known (entries P.operations)
no_known P none known times empty = empty ∙ ap (times_by known) (sym (no_elements (entries P.operations) (no_rows P none)))

mapped_next : {X Y : Type 0} (f : X → Y) (xs : List X) (i : ℕ) (x : X) → slice_get xs i ≡ Some x → map f (take i xs) ++ f x ∷ [] ≡ map f (take (suc i) xs)
mapped_next f [] i x e = absurd (none-some x e)
mapped_next f (y ∷ xs) zero x e = ap (λ z. f z ∷ []) (sym (same_Some y x e))
mapped_next f (y ∷ xs) (suc i) x e = ap (λ zs. f y ∷ zs) (mapped_next f xs i x e)

pub known_next : (known : OpKey → Option ℕ) (rows : List (OpKey × Operation)) (i : ℕ) (row : OpKey × Operation) (times : List (Option ℕ)) (t : Option ℕ) → slice_get rows i ≡ Some row
    → t ≡ start_at known row → times ≡ times_by known (take i rows) → times ++ t ∷ [] ≡ times_by known (take (i + 1) rows)
known_next known rows i row times t at is so_far =
    subst (λ n. times ++ t ∷ [] ≡ times_by known (take n rows)) (sym (add-one i))
    (ap (λ z. times ++ z ∷ []) is ∙ ap (λ zs. zs ++ start_at known row ∷ []) so_far ∙ mapped_next (start_at known) rows i row at)

all_none : (rows : List (OpKey × Operation)) (times : List (Option ℕ)) → NoTimes (length rows) times → AreTimesOf unknown rows times
all_none rows times h i o op at =
    let less = slice_get_within rows i (o, op) at in
    let size = h.size in
    let e = slice_get-get_or times i None (omega (arith, less, size)) in
    e ∙ ap Some (h.none i (get_or times i None) e)

pub no_lasting : (P : Contents) → P ≡ nothing → (from until : ℕ) (turns : List ℕ) → AreLasting P from until turns
no_lasting P none from until turns c low high (inl (w, ws, x, found, opens)) = absurd (none-some ws (sym (get-empty name_cmp w) ∙ ap (λ (Q : Contents). get Q.workstations w) (sym none) ∙ found))
no_lasting P none from until turns c low high (inr (o, (op, found, is))) = absurd (none-some op (sym (get-empty operation_cmp o) ∙ ap (λ (Q : Contents). get Q.operations o) (sym none) ∙ found))

-- what counts of known starts has the size of the plan after the first request too
pub first_size : (P after : Plan) (m : ℕ) (chosen : List OpKey) → Step P (tick m) (accepted chosen) after → (begun : List (Option ℕ)) (known : OpKey → Option ℕ) → begun ≡ times_by known (entries P.contents.operations) → length begun ≡ length (entries after.contents.operations)
first_size P after m chosen step begun known is = times_size known (entries P.contents.operations) begun is ∙ sym (step_like P after (tick m) chosen tt step).count

module _ (P after : Plan) (m : ℕ) (chosen : List OpKey) (step : Step P (tick m) (accepted chosen) after) (begun ended begun' ended' : List (Option ℕ))
    (known : OpKey → Option ℕ) (known_begun : begun ≡ times_by known (entries P.contents.operations)) (none_ended : NoTimes (length (entries after.contents.operations)) ended)
    (begun_size : length begun' ≡ length begun) (ended_size : length ended' ≡ length ended) (since : MovesTimes IsGoing (counted_from after.contents m) begun begun' after.contents) (done : MovesTimes Completes (λ o. m) ended ended' after.contents) where
  first_clock : after.clock ≡ m
  first_clock = ap (λ (X : Plan). X.clock) step.is_after

  pub first_like : IsLike P.contents after.contents
  first_like = step_like P after (tick m) chosen tt step

  pub first_made : (mid : Ahead) × LeadsTo (before_it P known) (tick m) mid × IsInMemory mid after begun' ended'
  first_made =
      let a = since (starts_in P.contents known) (times_still P.contents after.contents first_like (starts_in P.contents known) begun (times_are P.contents known begun known_begun)) in
      let b = done unknown (all_none (entries after.contents.operations) ended none_ended) in (
        record { plan = after; since = a.0; done = b.0 },
        record {
          chosen = chosen;
          step = step;
          since = subst (λ k. AreTimesAfter (IsGoing after.contents) (counted_from after.contents k) (starts_in P.contents known) a.0) (sym first_clock) a.1;
          done = subst (λ k. AreTimesAfter (Completes after.contents) (λ o. k) unknown b.0) (sym first_clock) b.1;
        },
        record {
          plan = refl;
          loaded = ap (λ (X : Plan). X.loaded) step.is_after;
          begun_size = begun_size ∙ times_size known (entries P.contents.operations) begun known_begun ∙ sym first_like.count;
          ended_size = ended_size ∙ none_ended.size;
          since = a.2;
          done = b.2;
        },
      )

  pub whole : (until : ℕ) (last : Plan) (begun'' ended'' : List (Option ℕ)) (items kept none : List Request) (q : Request) → kept ≡ none ++ q ∷ [] → none ≡ [] → q ≡ tick m
      → ((s : Ahead) → IsInMemory s after begun' ended' → (qs : List Request) × (t : Ahead) × (items ≡ kept ++ qs) × LeadsOn until s qs t × IsInMemory t last begun'' ended'')
      → (t : Ahead) × IsForecast P known m until items t × IsInMemory t last begun'' ended''
  whole until last begun'' ended'' items kept none q is empty first on =
      let mid = first_made in
      let r = on mid.0 mid.2 in
      let all : items ≡ tick m ∷ r.0 = r.2 ∙ ap (λ xs. xs ++ r.0) (is ∙ ap (λ xs. xs ++ q ∷ []) empty) ∙ ap (λ z. z ∷ r.0) first in
      (r.1, (mid.0, r.0, all, mid.1, r.3), r.4)

-- what is written over a whole list is what stands there then
pub written : (n : ℕ) (new old : List (Option ℕ)) → length new ≡ n → take n (new ++ drop (length new) old) ≡ new
written n new old e = take-append-le n new (drop (length new) old) (omega (arith, e)) ∙ take_all n new (omega (arith, e))
