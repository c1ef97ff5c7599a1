-- A request that is made again at once changes nothing.
use Rattle.std.proofs.Common.{◌≡◌, ◌≢◌, refl, sym, ◌∙◌, ap, subst, true≢false, Bool, true, false, ◌||◌, ℕ, ℤ, List, [], Some, None, cond, ◌↔◌}
use Rattle.std.proofs.lemmas.Option.{same_Some}
use Rattle.std.specs.FinMap.{contains_key, get}
use Rattle.std.specs.FinSet as set
use Rattle.std.specs.Ordering.{eq_by_cmp}
use Rattle.plan_basics.specs.Keys.{name_cmp, name_cmp-IsAntisymmetric, name_cmp_total, occurrence_cmp, occurrence_cmp_total}
use Rattle.plan_basics.specs.Refusals.{NoneRefuses}
use Rattle.plan_basics.specs.declared.Refusal.{Refusal}
use Rattle.plan_basics.specs.declared.Refusal.TheVariants as refusal
use Rattle.plan_basics.specs.declared.keys.OccKey.{OccKey}
use Rattle.plan_basics.specs.declared.keys.OpKey.{OpKey}
use Rattle.status_rules.specs.declared.Mark.{Mark}
use Rattle.status_rules.specs.declared.Mark.TheVariants as mark
use Rattle.workstations.specs.Workstations.{with_intervals}
use Rattle.plan_model.specs.Contents.{AddedParts, Contents, Operation, IsInPlan, Pairs, pair_cmp, with_availability}
use Rattle.plan_model.specs.Revise.{revise}
use Rattle.plan_model.specs.Starts.{Reaches}
use Rattle.plan_model.specs.Status.{IsUnderWay}
use Rattle.plan_model.specs.Valid.{IsAcyclic, IsValid}
use Rattle.plan_model.specs.declared.Stock.{Stock}
use Rattle.plan_model.specs.Plan.{Plan, IsSoundPlan}
use Rattle.plan_model.specs.Ready.{IsChosen, named, with_mark}
use Rattle.plan_drafts.specs.Drafts.{IsExtension}
use Rattle.plan_laws.proofs.Every.{every_change_keeps_sound}
use Rattle.plan_laws.proofs.Kept.{named_none}
use Rattle.plan_laws.proofs.Pairs.{pair_cmp-IsAntisymmetric, pair_cmp_total}
use Rattle.plan_laws.proofs.Single.{one_step}
use Rattle.plan_records.specs.Acceptance.{MayBeAccepted, MayBeAdded, minute_of}
use Rattle.plan_records.specs.Answer.{Answer, accepted, refused}
use Rattle.plan_records.specs.Changes.{Changes, IsOver, IsRequest, LeavesOver, is_at, revised, with_added, with_only}
use Rattle.plan_records.specs.Step.{IsAccepted, Step}
use Rattle.plan_records.specs.declared.Request.{Request}
use Rattle.plan_records.specs.declared.What.{What}
use Rattle.plan_records.specs.declared.What.TheVariants as what
use Rattle.plan_repeats.specs.Repeats.{RepeatsChangeNothing, RepeatsNameNothing}
use Rattle.plan_repeats.proofs.Adding.{joined_known, some_key}
use Rattle.plan_repeats.proofs.Rerunning.{IsRerunnable, rerun_twice}
use Rattle.plan_repeats.proofs.Extending.{extended_twice}
use Rattle.plan_repeats.proofs.NoneMore.{none_more}
use Rattle.plan_repeats.proofs.Twice.{made_twice, marked_twice, named_if, set_twice}

-- the plan that a request at m leaves
abbrev pub left_at : ℕ → List OpKey → Contents → Plan
left_at m chosen changed = record { loaded = true; clock = m; contents = named chosen changed }

-- what the request changes again, once it was accepted and what was chosen is named, is nothing
abbrev pub ChangesNoMore : What → Type 0
ChangesNoMore w =
    (P : Plan) (Q N : Contents) (at : ℤ) (chosen : List OpKey) → IsSoundPlan P
    → NoneRefuses (MayBeAccepted P (record { at = at; what = w })) → IsRequest w → Changes P.contents w Q → IsChosen Q (minute_of at) chosen
    → NoneRefuses (MayBeAccepted (left_at (minute_of at) chosen Q) (record { at = at; what = w })) → Changes (named chosen Q) w N → N ≡ named chosen Q

module _ (test : OpKey → Bool) (P Q N : Contents) (m : ℕ) (chosen : List OpKey) where
  -- a mark
  marked_again : (M : Mark) → M ≢ mark.Unmarked → Q ≡ revised test (with_mark M) P → IsChosen Q m chosen → N ≡ revised test (with_mark M) (named chosen Q) → N ≡ named chosen Q
  marked_again M apart c choice d = subst (λ X. IsChosen X m chosen → N ≡ revised test (with_mark M) (named chosen X) → N ≡ named chosen X) (sym c) (λ h e. e ∙ marked_twice test P m chosen M apart h) choice d

  -- a flag
  set_again : (f : Operation → Operation) → ((b : Bool) (x : Operation) → f (named_if b (f x)) ≡ named_if b (f x)) → Q ≡ revised test f P → N ≡ revised test f (named chosen Q) → N ≡ named chosen Q
  set_again f stays c d = subst (λ X. N ≡ revised test f (named chosen X) → N ≡ named chosen X) (sym c) (λ e. e ∙ set_twice test P m chosen f stays) d

-- a pair that is put in twice
pair_twice : (pairs : Pairs) (x : OpKey × OpKey) → set.insert (set.insert pairs x) x ≡ set.insert pairs x
pair_twice pairs x = set.same_set pair_cmp_total pair_cmp-IsAntisymmetric (set.insert (set.insert pairs x) x) (set.insert pairs x) (λ q.
    set.contains-insert pair_cmp_total (set.insert pairs x) x q
    ∙ ap (λ b. eq_by_cmp pair_cmp q x || b) (set.contains-insert pair_cmp_total pairs x q)
    ∙ absorbed (eq_by_cmp pair_cmp q x) (set.contains pairs q)
    ∙ sym (set.contains-insert pair_cmp_total pairs x q))
  where
    absorbed : (a b : Bool) → (a || (a || b)) ≡ (a || b)
    absorbed true b = refl
    absorbed false b = refl

held_stays : (h b : Bool) (x : Operation) → record (named_if b (record x { held = h })) { held = h } ≡ named_if b (record x { held = h })
held_stays h true x = refl
held_stays h false x = refl

nop_stays : (n b : Bool) (x : Operation) → record (named_if b (record x { nop = n })) { nop = n } ≡ named_if b (record x { nop = n })
nop_stays n true x = refl
nop_stays n false x = refl

-- what is asked of an operation of the plan
line : (P : Contents) (o : OpKey) {A : Type 0} → IsInPlan P o → ((op : Operation) → get P.operations o ≡ Some op → A) → A
line P o known asked = asked known.0 known.1

-- a rerun
rerun_again : (P Q N : Contents) (m : ℕ) (chosen : List OpKey) (o : OpKey) (test : OpKey → Bool) → ((q : OpKey) → (test q ≡ true) ↔ Reaches P o q) → Q ≡ revised test (with_mark mark.Unmarked) P → IsChosen Q m chosen → IsAcyclic P.pairs → IsRerunnable P o
    → IsRerunnable (named chosen Q) o → ((q : OpKey) → q ≢ o → Reaches (named chosen Q) o q → ¬ IsUnderWay (named chosen Q) q)
    → (test_later : OpKey → Bool) → ((q : OpKey) → (test_later q ≡ true) ↔ Reaches (named chosen Q) o q) → N ≡ revised test_later (with_mark mark.Unmarked) (named chosen Q) → N ≡ named chosen Q
rerun_again P Q N m chosen o test reached is choice acyclic before again none test_later reached_later d =
    d ∙ subst (λ X. IsChosen X m chosen → IsRerunnable (named chosen X) o → ((q : OpKey) → q ≢ o → Reaches (named chosen X) o q → ¬ IsUnderWay (named chosen X) q)
    → ((q : OpKey) → (test_later q ≡ true) ↔ Reaches (named chosen X) o q) → revised test_later (with_mark mark.Unmarked) (named chosen X) ≡ named chosen X) (sym is)
    (λ h a n r. rerun_twice P acyclic o before test reached m chosen h a n test_later r) choice again none reached_later

-- an extension
extend_again : (P : Contents) → IsValid P → (s : AddedParts) → IsExtension s → (left Q left_later N : Contents) (m : ℕ) (chosen : List OpKey)
    → LeavesOver P left → Q ≡ with_added left s → MayBeAdded left s refusal.Duplicate → MayBeAdded left s refusal.Cycle → IsChosen Q m chosen
    → LeavesOver (named chosen Q) left_later → MayBeAdded left_later s refusal.Duplicate → N ≡ with_added left_later s → N ≡ named chosen Q
extend_again P valid s extension left Q left_later N m chosen leaves is new acyclic choice leaves_later new_later d =
    let grown : Contents = with_added (with_only leaves.0 P) s in
    let to_grown : Q ≡ grown = is ∙ ap (λ X. with_added X s) leaves.2 in
    let to_left : left_later ≡ with_only leaves_later.0 (named chosen grown) = leaves_later.2 ∙ ap (λ X. with_only leaves_later.0 (named chosen X)) to_grown in
    d ∙ ap (λ X. with_added X s) to_left
    ∙ extended_twice P valid leaves.0 leaves.1 s extension
    (subst (λ X. MayBeAdded X s refusal.Duplicate) leaves.2 new) (subst (λ X. MayBeAdded X s refusal.Cycle) leaves.2 acyclic)
    m chosen (subst (λ X. IsChosen X m chosen) to_grown choice)
    leaves_later.0 (subst (λ X. (c : OccKey) → (leaves_later.0 c ≡ true) ↔ ¬ IsOver (named chosen X) c) to_grown leaves_later.1)
    (subst (λ X. MayBeAdded X s refusal.Duplicate) to_left new_later)
    ∙ ap (named chosen) (sym to_grown)

changes_no_more : (w : What) → ChangesNoMore w
changes_no_more (what.Load draft) P Q N at chosen sound may request c choice again d = absurd (true≢false (again refusal.Loaded tt))
changes_no_more what.Tick P Q N at chosen sound may request c choice again d = d
changes_no_more (what.Started o) P Q N at chosen sound may request c choice again d = marked_again (is_at o) P.contents Q N (minute_of at) chosen mark.Running (λ e. cc) c choice d
changes_no_more (what.Ended o) P Q N at chosen sound may request c choice again d = marked_again (is_at o) P.contents Q N (minute_of at) chosen mark.Done (λ e. cc) c choice d
changes_no_more (what.Error o code) P Q N at chosen sound may request c choice again d = marked_again (is_at o) P.contents Q N (minute_of at) chosen (mark.Error code) (λ e. cc) c choice d
changes_no_more (what.Interrupted o) P Q N at chosen sound may request c choice again d = marked_again (is_at o) P.contents Q N (minute_of at) chosen mark.Interrupted (λ e. cc) c choice d
changes_no_more (what.Unknown o) P Q N at chosen sound may request c choice again d = marked_again (is_at o) P.contents Q N (minute_of at) chosen mark.Undecided (λ e. cc) c choice d
changes_no_more (what.Complete o) P Q N at chosen sound may request c choice again d = marked_again (is_at o) P.contents Q N (minute_of at) chosen mark.Done (λ e. cc) c choice d
changes_no_more (what.DeleteOccurrence k) P Q N at chosen sound may request c choice again d =
    marked_again (λ o. eq_by_cmp occurrence_cmp o.occurrence k) P.contents Q N (minute_of at) chosen mark.Deleted (λ e. cc) c choice d
changes_no_more (what.Hold o) P Q N at chosen sound may request c choice again d = set_again (is_at o) P.contents Q N (minute_of at) chosen (λ op. record op { held = true }) (held_stays true) c d
changes_no_more (what.Release o) P Q N at chosen sound may request c choice again d = set_again (is_at o) P.contents Q N (minute_of at) chosen (λ op. record op { held = false }) (held_stays false) c d
changes_no_more (what.Nop o) P Q N at chosen sound may request c choice again d = set_again (is_at o) P.contents Q N (minute_of at) chosen (λ op. record op { nop = true }) (nop_stays true) c d
changes_no_more (what.Unnop o) P Q N at chosen sound may request c choice again d = set_again (is_at o) P.contents Q N (minute_of at) chosen (λ op. record op { nop = false }) (nop_stays false) c d
changes_no_more (what.Rerun o) P Q N at chosen sound may request c choice again d = rerun_again P.contents Q N (minute_of at) chosen o c.0 c.1 c.2 choice sound.contents.valid.acyclic (line P.contents o (may refusal.UnknownOperation) (may refusal.WrongStatus))
    (line (named chosen Q) o (again refusal.UnknownOperation) (again refusal.WrongStatus)) (line (named chosen Q) o (again refusal.UnknownOperation) (again refusal.Running)) d.0 d.1 d.2
changes_no_more (what.AddOccurrence None) P Q N at chosen sound may request c choice again d = absurd (again refusal.BadPlan)
changes_no_more (what.AddOccurrence (Some s)) P Q N at chosen sound may request c choice again d =
    let key = some_key occurrence_cmp_total s.occurrences request.one in
    let there : contains_key Q.occurrences key.0 ≡ true = subst (λ X. contains_key X.occurrences key.0 ≡ true) (sym c.2) (joined_known occurrence_cmp_total P.contents.occurrences c.0.occurrences key.0 (subst (λ a. contains_key a.occurrences key.0 ≡ true) (same_Some s c.0 c.1) key.1)) in
    absurd (true≢false (sym there ∙ again refusal.Duplicate key.0 key.1))
changes_no_more (what.Extend None) P Q N at chosen sound may request c choice again d = absurd (again refusal.BadPlan)
changes_no_more (what.Extend (Some s)) P Q N at chosen sound may request c choice again d =
    extend_again P.contents sound.contents.valid s request c.1 Q d.1 N (minute_of at) chosen c.3 (c.4 ∙ ap (with_added c.1) (same_Some c.0 s (sym c.2))) (may refusal.Duplicate c.1 c.3) (may refusal.Cycle c.1 c.3) choice
    d.3 (again refusal.Duplicate d.1 d.3) (d.4 ∙ ap (with_added d.1) (same_Some d.0 s (sym d.2)))
changes_no_more (what.AddDependency p s) P Q N at chosen sound may request c choice again d =
    d ∙ subst (λ X. record (named chosen X) { pairs = set.insert X.pairs (p, s) } ≡ named chosen X) (sym c)
    (let same = pair_twice P.contents.pairs (p, s) in λ i. record (named chosen P.contents) { pairs = same i })
changes_no_more (what.SetAvailable r available) P Q N at chosen sound may request c choice again d =
    d ∙ subst (λ X. record (named chosen X) { resources = revise (with_availability r available) X.resources } ≡ named chosen X) (sym c)
    (let same = made_twice name_cmp_total name_cmp-IsAntisymmetric (λ n. eq_by_cmp name_cmp n r) (λ (stock : Stock). record stock { available = available }) (λ v. refl) P.contents.resources in
    λ i. record (named chosen P.contents) { resources = same i })
changes_no_more (what.ReplaceIntervals w items) P Q N at chosen sound may request c choice again d =
    d ∙ subst (λ X. record (named chosen X) { workstations = revise (λ v ws. cond (eq_by_cmp name_cmp v w) (with_intervals items.items ws) ws) X.workstations } ≡ named chosen X) (sym c)
    (let same = made_twice name_cmp_total name_cmp-IsAntisymmetric (λ v. eq_by_cmp name_cmp v w) (with_intervals items.items) (λ v. refl) P.contents.workstations in
    λ i. record (named chosen P.contents) { workstations = same i })

-- accepted twice
module _ (P : Plan) (q : Request) (first second : List OpKey) (after again : Plan) (sound : IsSoundPlan P) (a : IsAccepted (MayBeAccepted P q) P q first after) (b : IsAccepted (MayBeAccepted after q) after q second again) where
  same_contents : b.changed ≡ named first a.changed
  same_contents =
      changes_no_more q.what P a.changed b.changed q.at first sound a.none_refuses a.is_request a.changes a.is_chosen
      (subst (λ (x : Plan). NoneRefuses (MayBeAccepted x q)) a.is_after b.none_refuses) (subst (λ (x : Plan). Changes x.contents q.what b.changed) a.is_after b.changes)

  nothing_named : second ≡ []
  nothing_named =
      let valid = (every_change_keeps_sound q.what P a.changed q.at sound a.none_refuses a.is_request a.changes).valid in
      none_more a.changed valid (minute_of q.at) first a.is_chosen second (subst (λ x. IsChosen x (minute_of q.at) second) same_contents b.is_chosen)

  same_plan : again ≡ after
  same_plan =
      b.is_after ∙ (λ i. left_at (minute_of q.at) (nothing_named i) (same_contents i))
      ∙ ap (λ (x : Contents). record { loaded = true; clock = minute_of q.at; contents = x }) (named_none (named first a.changed)) ∙ sym a.is_after

-- refused, and made again: it is the same request to the same plan
refused_again : (P after again : Plan) (q : Request) (r : Refusal) (second : Answer) → Step P q (refused r) after → Step after q second again → (second ≡ refused r) × (again ≡ after)
refused_again P after again q r second a b = one_step P again after q second (refused r) (subst (λ (x : Plan). Step x q second again) a.is_after b) a

-- whatever it is answered
pub repeats_change_nothing : RepeatsChangeNothing
repeats_change_nothing P after again q (refused r) second sound a b = (refused_again P after again q r second a b).1
repeats_change_nothing P after again q (accepted first) (refused r) sound a b = b.is_after
repeats_change_nothing P after again q (accepted first) (accepted second) sound a b = same_plan P q first second after again sound a b

-- and where it is accepted again
pub repeats_name_nothing : RepeatsNameNothing
repeats_name_nothing P after again q (refused r) named sound a b = let e : accepted named ≡ refused r = (refused_again P after again q r (accepted named) a b).0 in absurd (cc)
repeats_name_nothing P after again q (accepted first) named sound a b = nothing_named P q first named after again sound a b
