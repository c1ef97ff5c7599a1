-- Occurrences that leave: what is left of a sound plan is sound, whichever they are.
use Rattle.std.proofs.Common.{◌≡◌, refl, sym, ◌∙◌, ap, subst, true≢false, arith, ℕ, zero, suc, ◌+◌, ◌-◌, ◌≤◌, ◌&&◌, ◌||◌, not, Bool, true, false, cond, List, [], ◌∷◌, length, Option, Some, None, is_some}
use Rattle.std.specs.Cmp.{IsTotalOrder, both_ways, first_so, second_so}
use Rattle.std.specs.FinMap.{FinMap, IsAntisymmetric, contains_key, contains_key-keys, entries, get, get-retain_keys, keys, len, len-entries, retain_keys}
use Rattle.std.specs.FinSet as set
use Rattle.std.specs.List.{list_any}
use Rattle.std.specs.Ordering.{eq_by_cmp}
use Rattle.std.specs.declared.cmp.Ordering.{Ordering}
use Rattle.std.proofs.lemmas.Bool.{false_from_ne_true}
use Rattle.std.proofs.lemmas.Cmp.{eq_by_cmp_equiv}
use Rattle.std.proofs.lemmas.Map.Keys.{IsDistinct-from_sorted}
use Rattle.std.proofs.lemmas.Map.Made.{length-le_from_is_member}
use Rattle.std.proofs.lemmas.Option.{none-some}
use Rattle.plan_basics.specs.Keys.{Name, occurrence_cmp-IsAntisymmetric, occurrence_cmp_total, operation_cmp-IsAntisymmetric, operation_cmp_total}
use Rattle.plan_basics.specs.declared.keys.OccKey.{OccKey}
use Rattle.plan_basics.specs.declared.keys.OpKey.{OpKey}
use Rattle.plan_laws.proofs.Entries.{same_operation}
use Rattle.plan_laws.proofs.Pairs.{pair_cmp-IsAntisymmetric, pair_cmp_total}
use Rattle.operation_graph.specs.Paths.{LeadsBy, by_edge, by_more}
use Rattle.plan_records.specs.plan_drafts.proofs.Lists.{length_map}
use Rattle.plan_records.specs.plan_drafts.proofs.Tables.{is_found}
use Rattle.plan_records.specs.plan_model.proofs.Entries.{entries_in_order, keys_of-entries}
use Rattle.plan_records.specs.plan_model.specs.Contents.{Contents, IsLive, IsPairOf, LivePredecessor, Operation}
use Rattle.plan_records.specs.plan_model.specs.Holdings.{Holds}
use Rattle.plan_records.specs.plan_model.specs.Status.{AllPredecessorsSatisfied, IsSatisfied}
use Rattle.plan_records.specs.plan_model.specs.Valid.{IsAcyclic, IsSound, IsValid}
use Rattle.plan_records.specs.Changes.{LeavesOver, with_only}
use Rattle.special_resources.proofs.Amounts.{no_more as no_more_held}
use Rattle.special_resources.specs.Holders.{Usage}
use Rattle.status_rules.specs.LeastSet.{by_all_before, by_given}

-- ---- maps of which only some keys stay

module _ {K X : Type 0} {R : K → K → Ordering} (same : IsAntisymmetric R) (m : FinMap R X) (p : K → Bool) where
  found_by : (q : K) → get (retain_keys m p) q ≡ cond (p q) (get m q) None
  found_by q = get-retain_keys m p q (λ x e. ap p (sym (same q x e)))

  by_test : (b : Bool) (x : Option X) (v : X) → cond b x None ≡ Some v → (b ≡ true) × (x ≡ Some v)
  by_test true x v e = (refl, e)
  by_test false x v e = absurd (none-some v e)

  -- what stays is what was there
  pub was_there : (q : K) (v : X) → get (retain_keys m p) q ≡ Some v → (p q ≡ true) × (get m q ≡ Some v)
  was_there q v e = by_test (p q) (get m q) v (sym (found_by q) ∙ e)

  pub stays_there : (q : K) (v : X) → p q ≡ true → get m q ≡ Some v → get (retain_keys m p) q ≡ Some v
  stays_there q v t e = found_by q ∙ ap (λ b. cond b (get m q) None) t ∙ e

  pub was_known : (q : K) → contains_key (retain_keys m p) q ≡ true → (p q ≡ true) × (contains_key m q ≡ true)
  was_known q h = let one = is_found (get (retain_keys m p) q) h in let w = was_there q one.0 one.1 in (w.0, ap is_some w.1)

  pub stays_known : (q : K) → p q ≡ true → contains_key m q ≡ true → contains_key (retain_keys m p) q ≡ true
  stays_known q t h = let one = is_found (get m q) h in ap is_some (stays_there q one.0 t one.1)

-- no more stay than were there
module _ {K X : Type 0} {R : K → K → Ordering} (o : IsTotalOrder R) (same : IsAntisymmetric R) where
  len_keys : (m : FinMap R X) → length (keys m) ≡ len m
  len_keys m = ap length (keys_of-entries R m) ∙ length_map (λ e. e.0) (entries m) ∙ sym (len-entries m)

  pub fewer : (m : FinMap R X) (p : K → Bool) → len (retain_keys m p) ≤ len m
  fewer m p =
      let among = length-le_from_is_member (eq_by_cmp_equiv o) (keys (retain_keys m p)) (keys m) (IsDistinct-from_sorted R (keys (retain_keys m p)) (entries_in_order R (retain_keys m p)))
      (λ q h. sym (contains_key-keys m q) ∙ (was_known same m p q (contains_key-keys (retain_keys m p) q ∙ h)).1) in
      omega (arith, among, len_keys (retain_keys m p), len_keys m)

-- a set whose members are another's has no more, where the other's members are listed
module _ {K : Type 0} {R : K → K → Ordering} (o : IsTotalOrder R) (same : IsAntisymmetric R) where
  not_empty : (s : set.FinSet R) (k : K) → set.contains s k ≡ true → set.len s ≡ 0 → ⊥
  not_empty s k h e = true≢false (sym h ∙ ap (λ t. set.contains t k) (set.empty_of_len s e) ∙ set.contains-empty R k)

  len_by : (b : Bool) (n : ℕ) → (b ≡ true → n ≡ 0 → ⊥) → cond b (n - 1) n + cond b 1 0 ≡ n
  len_by true zero some = absurd (some refl refl)
  len_by true (suc n) some = omega arith
  len_by false n some = omega arith

  len_removed : (s : set.FinSet R) (k : K) → set.len (set.remove s k) + cond (set.contains s k) 1 0 ≡ set.len s
  len_removed s k = ap (λ n. n + cond (set.contains s k) 1 0) (set.len-remove o s k) ∙ len_by (set.contains s k) (set.len s) (not_empty s k)

  in_rest : (b c : Bool) → (not b && c) ≡ true → (b ≡ false) × (c ≡ true)
  in_rest true c h = absurd (true≢false (sym h))
  in_rest false c h = (refl, h)

  in_both : (b c d : Bool) → (not b && c) ≡ true → (c ≡ true → d ≡ true) → (not b && d) ≡ true
  in_both true c d h f = absurd (true≢false (sym h))
  in_both false c d h f = f h

  less : (b c : Bool) → (b ≡ true → c ≡ true) → cond b 1 0 ≤ cond c 1 0
  less false c f = omega arith
  less true c f = let e = f refl in subst (λ z. 1 ≤ cond z 1 0) (sym e) (omega arith)

  pub no_more : (ks : List K) (s t : set.FinSet R) → ((q : K) → set.contains t q ≡ true → set.contains s q ≡ true) → ((q : K) → set.contains s q ≡ true → list_any (eq_by_cmp R q) ks ≡ true) → set.len t ≤ set.len s
  no_more [] s t within listed =
      let none : (q : K) → set.contains t q ≡ set.contains (set.empty {R = R}) q =
      λ q. false_from_ne_true (set.contains t q) (λ h. true≢false (sym (listed q (within q h)))) ∙ sym (set.contains-empty R q) in
      let empty : set.len t ≡ 0 = ap set.len (set.same_set o same t set.empty none) ∙ set.len-empty R in
      omega (arith, empty)
  no_more (k ∷ ks) s t within listed =
      let fewer = no_more ks (set.remove s k) (set.remove t k)
      (λ q h. set.contains-remove o s k q ∙ in_both (eq_by_cmp R q k) (set.contains t q) (set.contains s q) (sym (set.contains-remove o t k q) ∙ h) (within q))
      (λ q h. let both = in_rest (eq_by_cmp R q k) (set.contains s q) (sym (set.contains-remove o s k q) ∙ h) in
      ap (λ b. b || list_any (eq_by_cmp R q) ks) (sym both.0) ∙ listed q both.1) in
      let one = less (set.contains t k) (set.contains s k) (within k) in
      omega (arith, fewer, one, len_removed s k, len_removed t k)

module _ (P : Contents) (stays : OccKey → Bool) where
  abbrev pub left : Contents
  left = with_only stays P

  abbrev op_stays : OpKey → Bool
  op_stays o = stays o.occurrence

  abbrev pair_stays : OpKey × OpKey → Bool
  pair_stays x = stays x.0.occurrence && stays x.1.occurrence

  pub was : (o : OpKey) (x : Operation) → get left.operations o ≡ Some x → (op_stays o ≡ true) × (get P.operations o ≡ Some x)
  was = was_there operation_cmp-IsAntisymmetric P.operations op_stays

  pub still : (o : OpKey) (x : Operation) → op_stays o ≡ true → get P.operations o ≡ Some x → get left.operations o ≡ Some x
  still = stays_there operation_cmp-IsAntisymmetric P.operations op_stays

  -- a pair that stays was there, and both its ends stay
  pub pair_was : (p o : OpKey) → IsPairOf left.pairs p o → IsPairOf P.pairs p o × ((op_stays p ≡ true) × (op_stays o ≡ true))
  pair_was p o h =
      let both : (set.contains P.pairs (p, o) && pair_stays (p, o)) ≡ true =
      sym (set.contains-retain P.pairs pair_stays (p, o) (λ x e. ap pair_stays (sym (pair_cmp-IsAntisymmetric (p, o) x e)))) ∙ h in
      let ends = second_so (set.contains P.pairs (p, o)) (pair_stays (p, o)) both in
      (first_so (set.contains P.pairs (p, o)) (pair_stays (p, o)) both, (first_so (op_stays p) (op_stays o) ends, second_so (op_stays p) (op_stays o) ends))

  was_live : (p : OpKey) → IsLive left p → IsLive P p
  was_live p (x, e, live) = (x, (was p x e).1, live)

  was_before : (p o : OpKey) → LivePredecessor left p o → LivePredecessor P p o
  was_before p o h = ((pair_was p o h.0).0, was_live p h.1)

  -- what stays and was satisfied is so: its predecessors are fewer
  pub still_satisfied : {o : OpKey} → op_stays o ≡ true → IsSatisfied P o → IsSatisfied left o
  still_satisfied {o} t (by_given h) = by_given (h.0, still o h.0 t h.1, h.2)
  still_satisfied {o} t (by_all_before h before) =
      by_all_before (h.0, still o h.0 t h.1, h.2) (λ p live. still_satisfied (pair_was p o live.0).1.0 (before p (was_before p o live)))

  pub all_still : (o : OpKey) → AllPredecessorsSatisfied P o → AllPredecessorsSatisfied left o
  all_still o all p live = still_satisfied (pair_was p o live.0).1.0 (all p (was_before p o live))

  pub held_before : (o : OpKey) (r : Name) (x : Usage) → Holds left o r x → Holds P o r x
  held_before o r x h = (h.0, (was o h.0 h.1).1, h.2)

  was_path : {a b : OpKey} → LeadsBy (IsPairOf left.pairs) a b → LeadsBy (IsPairOf P.pairs) a b
  was_path (by_edge e) = by_edge (pair_was _ _ e).0
  was_path (by_more e rest) = by_more (pair_was _ _ e).0 (was_path rest)

  pub left_acyclic : IsAcyclic P.pairs → IsAcyclic left.pairs
  left_acyclic acyclic o path = acyclic o (was_path path)

  fewer_pairs : set.len (set.retain P.pairs pair_stays) ≤ set.len P.pairs
  fewer_pairs = no_more pair_cmp_total pair_cmp-IsAntisymmetric (set.items P.pairs) P.pairs (set.retain P.pairs pair_stays) (λ q h. (pair_was q.0 q.1 h).0) (λ q h. sym (set.contains-items P.pairs q) ∙ h)

  pub left_valid : IsValid P → IsValid left
  left_valid v = record {
    workstations = v.workstations;
    resources = v.resources;
    occurrences = record {
      each_occurrence = λ c x e. v.occurrences.each_occurrence c x (was_there occurrence_cmp-IsAntisymmetric P.occurrences stays c x e).1;
      each_operation = λ o x e.
          let w = was o x e in
          let h = v.occurrences.each_operation o x w.1 in
          (h.0, stays_known occurrence_cmp-IsAntisymmetric P.occurrences stays o.occurrence w.0 h.1);
      not_empty = λ c h.
          let w = was_known occurrence_cmp-IsAntisymmetric P.occurrences stays c h in
          let one = v.occurrences.not_empty c w.1 in
          (one.0, one.1, stays_known operation_cmp-IsAntisymmetric P.operations op_stays one.0 (ap stays one.1 ∙ w.0) one.2);
    };
    have_workstations = λ o x e. v.have_workstations o x (was o x e).1;
    have_resources = λ o x e. v.have_resources o x (was o x e).1;
    amounts = λ o x e. v.amounts o x (was o x e).1;
    pairs = λ p o h.
        let w = pair_was p o h in
        let both = v.pairs p o w.0 in
        let known = stays_known operation_cmp-IsAntisymmetric P.operations op_stays in
        (known p w.1.0 both.0, known o w.1.1 both.1);
    acyclic = left_acyclic v.acyclic;
    limits = record {
      workstations = v.limits.workstations;
      resources = v.limits.resources;
      occurrences = omega (arith, fewer occurrence_cmp_total occurrence_cmp-IsAntisymmetric P.occurrences stays, v.limits.occurrences);
      operations = omega (arith, fewer operation_cmp_total operation_cmp-IsAntisymmetric P.operations op_stays, v.limits.operations);
      pairs = omega (arith, fewer_pairs, v.limits.pairs);
    };
  }

  pub left_is_sound : IsSound P → IsSound left
  left_is_sound sound = record {
    valid = left_valid sound.valid;
    in_order = λ o h. all_still o (sound.in_order o (h.0, (was o h.0 h.1).1, h.2));
    compatible = λ a b r x y apart ha hb. sound.compatible a b r x y apart (held_before a r x ha) (held_before b r y hb);
    within = λ r stock known. no_more_held same_operation r stock.quantity (Holds P) (Holds left) (λ q x h. held_before q r x h) (sound.within r stock known);
    held = λ o x e. sound.held o x (was o x e).1;
    marks = λ o x a e. sound.marks o x a (was o x e).1;
    deleted = λ a b e ha x hb. sound.deleted a b e (ha.0, (was a ha.0 ha.1).1, ha.2) x (was b x hb).1;
  }

-- what is left is one
pub one_left : (P a b : Contents) → LeavesOver P a → LeavesOver P b → a ≡ b
one_left P a b x y =
    let same : x.0 ≡ y.0 = λ i c. both_ways (x.0 c) (y.0 c) (λ e. (y.1 c).1 ((x.1 c).0 e)) (λ e. (x.1 c).1 ((y.1 c).0 e)) i in
    x.2 ∙ ap (λ t. with_only t P) same ∙ sym y.2
