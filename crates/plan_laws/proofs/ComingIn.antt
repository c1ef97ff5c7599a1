-- Added occurrences and added pairs keep a plan sound.
use Rattle.std.proofs.Common.{◌≡◌, ◌≢◌, ◌⊎◌, inl, inr, refl, sym, ◌∙◌, ap, subst, true≢false, true, false, Option, Some, None, is_some}
use Rattle.std.proofs.lemmas.Bool.{or_cases}
use Rattle.std.specs.Ordering.{eq_by_cmp}
use Rattle.std.specs.Cmp.{IsTotalOrder}
use Rattle.std.specs.FinMap.{FinMap, get, contains_key}
use Rattle.std.specs.FinSet as set
use Rattle.plan_basics.specs.declared.Refusal.TheVariants as refusal
use Rattle.status_rules.specs.declared.Mark.TheVariants as mark
use Rattle.plan_records.specs.declared.What.TheVariants as what
use Rattle.std.specs.declared.cmp.Ordering.{Ordering}
use Rattle.plan_basics.specs.Keys.{Name, occurrence_cmp_total, operation_cmp_total}
use Rattle.plan_basics.specs.declared.Refusal.{Refusal}
use Rattle.plan_basics.specs.declared.keys.OpKey.{OpKey}
use Rattle.plan_laws.proofs.Entries.{same_operation}
use Rattle.plan_laws.proofs.Leaving.{left_is_sound}
use Rattle.plan_laws.proofs.Pairs.{pair_cmp_total, pair_same}
use Rattle.plan_laws.proofs.Flags.{waiting_not_satisfied, waiting_unmarked}
use Rattle.plan_records.specs.plan_drafts.proofs.Tables.{is_found}
use Rattle.std.proofs.lemmas.Option.{same_Some}
use Rattle.plan_records.specs.plan_model.specs.Holdings.{Holds, holds_resource}
use Rattle.plan_records.specs.plan_model.specs.Contents.{Contents, IsInPlan, IsLive, IsPairOf, LivePredecessor, Occurrences, Operation, Operations, Pairs, AddedParts, pair_cmp}
use Rattle.plan_records.specs.plan_model.specs.Revise.{get-joined, joined, or_else}
use Rattle.plan_records.specs.plan_model.specs.Status.{AllPredecessorsSatisfied, IsSatisfied, IsWaitingOrReady}
use Rattle.plan_records.specs.plan_model.specs.Valid.{AreOccurrences, IsSound, IsUntouched, IsValid, MayBear}
use Rattle.plan_records.specs.Acceptance.{IsNew, IsOld, MayBeAdded}
use Rattle.plan_records.specs.Changes.{with_added}
use Rattle.plan_records.specs.plan_drafts.specs.Drafts.{IsExtension, IsOwn}
use Rattle.plan_records.specs.Laws.{ChangeKeepsSound}
use Rattle.special_resources.proofs.Amounts.{no_more}
use Rattle.special_resources.specs.Holders.{Usage}
use Rattle.status_rules.specs.LeastSet.{by_all_before, by_given}
use Rattle.status_rules.specs.Table.{marked_status}

module _ (P : Contents) (sound : IsSound P) (occurrences : Occurrences) (operations : Operations) (pairs : Pairs) where
  abbrev grown : Contents
  grown = record P { occurrences = occurrences; operations = operations; pairs = pairs }

  -- what was there stays; what is new is untouched, and of new occurrences; new pairs lead to nothing that is under way
  pub record Grows : Type 0 where
    pub valid : IsValid grown
    pub old : (o : OpKey) (x : Operation) → get P.operations o ≡ Some x → get operations o ≡ Some x
    pub from : (o : OpKey) (x : Operation) → get operations o ≡ Some x → (get P.operations o ≡ Some x) ⊎ (IsUntouched x × (contains_key P.occurrences o.occurrence ≡ false))
    pub onto : (p o : OpKey) → IsPairOf pairs p o → IsPairOf P.pairs p o ⊎ (IsInPlan P o → IsWaitingOrReady P o)

  module _ (g : Grows) where
    was_live : (p q : OpKey) → IsPairOf P.pairs p q → IsLive grown p → LivePredecessor P p q
    was_live p q e live =
        let known = is_found (get P.operations p) (sound.valid.pairs p q e).0 in
        (e, (known.0, known.1, subst (λ z. z.mark ≢ mark.Deleted) (same_Some live.0 known.0 (sym live.1 ∙ g.old p known.0 known.1)) live.2))

    still : {q : OpKey} → IsSatisfied P q → IsSatisfied grown q
    still {q} (by_given h) = by_given (h.0, g.old q h.0 h.1, h.2)
    still {q} (by_all_before h before) =
        by_all_before (h.0, g.old q h.0 h.1, h.2)
        (λ p live. elim (g.onto p q live.0) [
          | inl e ↦ still (before p (was_live p q e live.1))
          | inr late ↦ absurd (waiting_not_satisfied P sound q h.0 h.1 (late (h.0, h.1, tt)) (by_all_before h before))
        ])

    all_still : (q : OpKey) (x : Operation) → get P.operations q ≡ Some x → (x.mark ≢ mark.Unmarked) → AllPredecessorsSatisfied P q → AllPredecessorsSatisfied grown q
    all_still q x e apart all p live = elim (g.onto p q live.0) [
      | inl old ↦ still (all p (was_live p q old live.1))
      | inr late ↦ absurd (apart (waiting_unmarked P sound q x e (late (x, e, tt))))
    ]

    held_before : (q : OpKey) (r : Name) (x : Usage) → Holds grown q r x → Holds P q r x
    held_before q r x h = elim (g.from q h.0 h.1) [
      | inl e ↦ (h.0, e, h.2)
      | inr new ↦ absurd (true≢false (sym (ap (λ z. holds_resource x.keep (marked_status z)) (sym new.0.0) ∙ h.2.2)))
    ]

    pub growth_is_sound : IsSound grown
    growth_is_sound = record {
      valid = g.valid;
      in_order = λ q h. elim (g.from q h.0 h.1) [
        | inl e ↦ all_still q h.0 e h.2.0 (sound.in_order q (h.0, e, h.2))
        | inr new ↦ absurd (h.2.0 new.0.0)
      ];
      compatible = λ a b r x y apart ha hb. sound.compatible a b r x y apart (held_before a r x ha) (held_before b r y hb);
      within = λ r stock known. no_more same_operation r stock.quantity (Holds P) (Holds grown) (λ q x h. held_before q r x h) (sound.within r stock known);
      held = λ q x e h. elim (g.from q x e) [ inl old ↦ sound.held q x old h | inr new ↦ absurd (true≢false (sym h ∙ new.0.1)) ];
      marks = λ q x a e w. elim (g.from q x e) [ inl old ↦ sound.marks q x a old w | inr new ↦ subst (MayBear a) (sym new.0.0) tt ];
      deleted = λ a b e ha x hb. elim (g.from a ha.0 ha.1) [
        | inl a_old ↦ elim (g.from b x hb) [
          | inl b_old ↦ sound.deleted a b e (ha.0, a_old, ha.2) x b_old
          | inr b_new ↦ absurd (true≢false (sym (sound.valid.occurrences.each_operation a ha.0 a_old).1 ∙ ap (contains_key P.occurrences) e ∙ b_new.1))
        ]
        | inr a_new ↦ absurd (let k : mark.Unmarked ≡ mark.Deleted = sym a_new.0.0 ∙ ha.2 in cc)
      ];
    }

-- ---- one more pair

known_in : (P : Contents) (o : OpKey) → IsInPlan P o → contains_key P.operations o ≡ true
known_in P o h = ap is_some h.1

new_pair : (P : Contents) (p s a b : OpKey) → IsPairOf (set.insert P.pairs (p, s)) a b → ((a ≡ p) × (b ≡ s)) ⊎ IsPairOf P.pairs a b
new_pair P p s a b h = elim (or_cases (eq_by_cmp pair_cmp (a, b) (p, s)) (set.contains P.pairs (a, b)) (sym (set.contains-insert pair_cmp_total P.pairs (p, s) (a, b)) ∙ h)) [
  | inl e ↦ inl (pair_same a b p s e)
  | inr old ↦ inr old
]

pub pair_keeps_sound : (p s : OpKey) → ChangeKeepsSound (what.AddDependency p s)
pair_keeps_sound p s P Q at sound may request c =
    let known = may refusal.UnknownOperation in
    let v = sound.contents.valid in
    subst IsSound (sym c) (growth_is_sound P.contents sound.contents P.contents.occurrences P.contents.operations (set.insert P.contents.pairs (p, s)) (record {
      valid = record {
        workstations = v.workstations;
        resources = v.resources;
        occurrences = v.occurrences;
        have_workstations = v.have_workstations;
        have_resources = v.have_resources;
        amounts = v.amounts;
        pairs = λ a b h. elim (new_pair P.contents p s a b h) [
          | inl e ↦ (subst (λ z. contains_key P.contents.operations z ≡ true) (sym e.0) (known_in P.contents p known.0), subst (λ z. contains_key P.contents.operations z ≡ true) (sym e.1) (known_in P.contents s known.1))
          | inr old ↦ v.pairs a b old
        ];
        acyclic = may refusal.Cycle;
        limits = may refusal.Limit;
      };
      old = λ o x e. e;
      from = λ o x e. inl e;
      onto = λ a b h. elim (new_pair P.contents p s a b h) [
        | inl e ↦ inr (λ k. subst (IsWaitingOrReady P.contents) (sym e.1) (may refusal.WrongStatus).1)
        | inr old ↦ inl old
      ];
    }))

-- ---- an occurrence

either_map : {X : Type 0} (a b : Option X) (x : X) → or_else a b ≡ Some x → (a ≡ Some x) ⊎ (b ≡ Some x)
either_map (Some y) b x e = inl e
either_map None b x e = inr e

joined_cases : {K X : Type 0} {R : K → K → Ordering} → IsTotalOrder R → (m n : FinMap R X) (q : K) (x : X) → get (joined m n) q ≡ Some x → (get n q ≡ Some x) ⊎ (get m q ≡ Some x)
joined_cases o m n q x e = either_map (get n q) (get m q) x (sym (get-joined o m n q) ∙ e)

in_second : {X : Type 0} (a b : Option X) → is_some a ≡ true → is_some (or_else a b) ≡ true
in_second (Some x) b e = refl
in_second None b e = absurd (true≢false (sym e))

in_first : {X : Type 0} (a b : Option X) → is_some b ≡ true → is_some (or_else a b) ≡ true
in_first (Some x) b e = refl
in_first None b e = e

-- a key of the second, or of the first, is a key of both together
joined_second : {K X : Type 0} {R : K → K → Ordering} → IsTotalOrder R → (m n : FinMap R X) (q : K) → contains_key n q ≡ true → contains_key (joined m n) q ≡ true
joined_second o m n q e = ap is_some (get-joined o m n q) ∙ in_second (get n q) (get m q) e

pub joined_first : {K X : Type 0} {R : K → K → Ordering} → IsTotalOrder R → (m n : FinMap R X) (q : K) → contains_key m q ≡ true → contains_key (joined m n) q ≡ true
joined_first o m n q e = ap is_some (get-joined o m n q) ∙ in_first (get n q) (get m q) e

joined_known : {K X : Type 0} {R : K → K → Ordering} → IsTotalOrder R → (m n : FinMap R X) (q : K) → contains_key (joined m n) q ≡ true → (contains_key n q ≡ true) ⊎ (contains_key m q ≡ true)
joined_known o m n q e = let one = is_found (get (joined m n) q) e in elim (joined_cases o m n q one.0 one.1) [ inl a ↦ inl (ap is_some a) | inr b ↦ inr (ap is_some b) ]

pub only_first : {X : Type 0} (a b : Option X) (x : X) → (is_some a ≡ true → ⊥) → b ≡ Some x → or_else a b ≡ Some x
only_first (Some y) b x never e = absurd (never refl)
only_first None b x never e = e

module _ (P : Contents) (s : AddedParts) where
  -- a pair of both together is of the plan, or is added
  pub pair_cases : (p o : OpKey) → IsPairOf (with_added P s).pairs p o → IsPairOf P.pairs p o ⊎ IsPairOf s.pairs p o
  pair_cases p o h = or_cases (set.contains P.pairs (p, o)) (set.contains s.pairs (p, o)) (sym (set.contains-union pair_cmp_total P.pairs s.pairs (p, o)) ∙ h)

  -- an operation of the plan, or one that is added, is one of both together
  pub from_first : (o : OpKey) → contains_key P.operations o ≡ true → contains_key (with_added P s).operations o ≡ true
  from_first o h = joined_first operation_cmp_total P.operations s.operations o h

  from_second : (o : OpKey) → contains_key s.operations o ≡ true → contains_key (with_added P s).operations o ≡ true
  from_second o h = joined_second operation_cmp_total P.operations s.operations o h

  -- and so is what a pair that is added may join
  pub an_end : (o : OpKey) → IsNew s o ⊎ IsOld P s o → contains_key (with_added P s).operations o ≡ true
  an_end o (inl new) = from_second o new
  an_end o (inr old) = from_first o (known_in P o old.0)

-- what is in the plan is of none of the occurrences that are added
pub not_own : (P : Contents) (s : AddedParts) → IsValid P → MayBeAdded P s refusal.Duplicate → (o : OpKey) → contains_key P.operations o ≡ true → ¬ IsOwn s o
not_own P s valid new o h own =
    let known = is_found (get P.operations o) h in
    true≢false (sym (valid.occurrences.each_operation o known.0 known.1).1 ∙ new o.occurrence own)

module _ (P : Contents) (sound : IsSound P) (s : AddedParts) (addition : IsExtension s) (may : (r : Refusal) → MayBeAdded P s r) where
  own : (o : OpKey) (x : Operation) → get s.operations o ≡ Some x → IsOwn s o
  own o x e = (addition.occurrences.each_operation o x e).1

  cases : (o : OpKey) (x : Operation) → get (with_added P s).operations o ≡ Some x → (get s.operations o ≡ Some x) ⊎ (get P.operations o ≡ Some x)
  cases o x e = joined_cases operation_cmp_total P.operations s.operations o x e

  occurrences_of_both : AreOccurrences (with_added P s).occurrences (with_added P s).operations
  occurrences_of_both = record {
    each_occurrence = λ c x e. elim (joined_cases occurrence_cmp_total P.occurrences s.occurrences c x e) [
      | inl new ↦ addition.occurrences.each_occurrence c x new
      | inr old ↦ sound.valid.occurrences.each_occurrence c x old
    ];
    each_operation = λ o x e. elim (cases o x e) [
      | inl new ↦ let h = addition.occurrences.each_operation o x new in (h.0, joined_second occurrence_cmp_total P.occurrences s.occurrences o.occurrence h.1)
      | inr old ↦ let h = sound.valid.occurrences.each_operation o x old in (h.0, joined_first occurrence_cmp_total P.occurrences s.occurrences o.occurrence h.1)
    ];
    not_empty = λ c h. elim (joined_known occurrence_cmp_total P.occurrences s.occurrences c h) [
      | inl new ↦ let one = addition.occurrences.not_empty c new in (one.0, one.1, from_second P s one.0 one.2)
      | inr old ↦ let one = sound.valid.occurrences.not_empty c old in (one.0, one.1, from_first P s one.0 one.2)
    ];
  }

  pub addition_is_sound : IsSound (with_added P s)
  addition_is_sound = growth_is_sound P sound (with_added P s).occurrences (with_added P s).operations (with_added P s).pairs (record {
    valid = record {
      workstations = sound.valid.workstations;
      resources = sound.valid.resources;
      occurrences = occurrences_of_both;
      have_workstations = λ o x e. elim (cases o x e) [ inl new ↦ may refusal.UnknownWorkstation o x new | inr old ↦ sound.valid.have_workstations o x old ];
      have_resources = λ o x e r usage n. elim (cases o x e) [ inl new ↦ may refusal.UnknownResource o x new r usage n | inr old ↦ sound.valid.have_resources o x old r usage n ];
      amounts = λ o x e r usage n. elim (cases o x e) [ inl new ↦ (may refusal.Limit).1 o x new r usage n | inr old ↦ sound.valid.amounts o x old r usage n ];
      pairs = λ p o h. elim (pair_cases P s p o h) [
        | inl old ↦ let both = sound.valid.pairs p o old in (from_first P s p both.0, from_first P s o both.1)
        | inr new ↦ let both = may refusal.UnknownOperation p o new in (an_end P s p both.0, an_end P s o both.1)
      ];
      acyclic = may refusal.Cycle;
      limits = (may refusal.Limit).0;
    };
    old = λ o x e. get-joined operation_cmp_total P.operations s.operations o ∙ only_first (get s.operations o) (get P.operations o) x (λ h. let one = is_found (get s.operations o) h in not_own P s sound.valid (may refusal.Duplicate) o (ap is_some e) (own o one.0 one.1)) e;
    from = λ o x e. elim (cases o x e) [
      | inl new ↦ inr (addition.untouched o x new, may refusal.Duplicate o.occurrence (own o x new))
      | inr old ↦ inl old
    ];
    onto = λ p o h. elim (pair_cases P s p o h) [
      | inl old ↦ inl old
      | inr new ↦ inr (λ known. (may refusal.WrongStatus p o new).0 (known, not_own P s sound.valid (may refusal.Duplicate) o (known_in P o known)))
    ];
  })

pub addition_keeps_sound : (s : AddedParts) → ChangeKeepsSound (what.AddOccurrence (Some s))
addition_keeps_sound s P Q at sound may request c =
    let same : s ≡ c.0 = same_Some s c.0 c.1 in
    subst IsSound (ap (with_added P.contents) same ∙ sym c.2) (addition_is_sound P.contents sound.contents s request.extension lines)
  where
    lines : (r : Refusal) → MayBeAdded P.contents s r
    lines refusal.UnknownOperation = may refusal.UnknownOperation
    lines refusal.UnknownWorkstation = may refusal.UnknownWorkstation
    lines refusal.UnknownResource = may refusal.UnknownResource
    lines refusal.WrongStatus = may refusal.WrongStatus
    lines refusal.Duplicate = may refusal.Duplicate
    lines refusal.Cycle = may refusal.Cycle
    lines refusal.Limit = may refusal.Limit
    lines r = tt

-- occurrences leave, and others come in
pub extension_keeps_sound : (s : AddedParts) → ChangeKeepsSound (what.Extend (Some s))
extension_keeps_sound s P Q at sound may request c =
    let same : s ≡ c.0 = same_Some s c.0 c.2 in
    let sound_left : IsSound c.1 = subst IsSound (sym c.3.2) (left_is_sound P.contents c.3.0 sound.contents) in
    subst IsSound (ap (with_added c.1) same ∙ sym c.4) (addition_is_sound c.1 sound_left s request lines)
  where
    lines : (r : Refusal) → MayBeAdded c.1 s r
    lines refusal.UnknownOperation = may refusal.UnknownOperation c.1 c.3
    lines refusal.UnknownWorkstation = may refusal.UnknownWorkstation c.1 c.3
    lines refusal.UnknownResource = may refusal.UnknownResource c.1 c.3
    lines refusal.WrongStatus = may refusal.WrongStatus c.1 c.3
    lines refusal.Duplicate = may refusal.Duplicate c.1 c.3
    lines refusal.Cycle = may refusal.Cycle c.1 c.3
    lines refusal.Limit = may refusal.Limit c.1 c.3
    lines r = tt
