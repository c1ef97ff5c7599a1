-- Requests at the desk, one after another.
use Rattle.std.proofs.Common.{◌≡◌, refl, subst, subst₂, sym, ◌∙◌, Bool, true, false, ◌||◌, List, [], ◌∷◌, ◌++◌, map, IsTrue}
use Rattle.std.proofs.lemmas.Bool.{true≢false}
use Rattle.std.proofs.lemmas.List.Folds.{list_any-append}
use Rattle.std.specs.List.{list_any}
use Rattle.sqlite.specs.Effect.{Database}
use Rattle.sqlite.specs.State.{State as StoreState}
use Rattle.plan_basics.specs.declared.Refusal.{Refusal}
use Rattle.plan_core.proofs.Answering.{plain_accepted}
use Rattle.plan_core.specs.Provided.{StartsAreProvided}
use Rattle.tracker_receipts.specs.plan_laws.proofs.Runs.{accepted_alone}
use Rattle.plan_records.specs.Answer.{Answer, refused}
use Rattle.plan_records.specs.Run.{Answers, Run, State, Usable, accepted_replies, plain, usable}
use Rattle.plan_records.specs.Schedules.{IsDeskState}
use Rattle.plan_records.specs.declared.Request.{Request}
use Rattle.desk_tables.specs.Desk.{HoldsState}
use Rattle.desk_tables.specs.Runs.{AcceptedAreAnswered, AreAnswered, StartsAreProvidedIn, TablesFollow}
use Rattle.desk_tables.specs.Shut.{IsOpenAfterAll, may_have_shut}

-- one more
pub starts_more : (s mid t : State) (u v w : Usable) (requests : List Request) (answers : List Answer) (q : Request) (reply : Answer)
    → StartsAreProvidedIn s u requests answers mid v → Answers mid v (plain q) reply t w → IsDeskState t → StartsAreProvided mid.plan q reply t.plan
    → StartsAreProvidedIn s u (requests ++ q ∷ []) (answers ++ reply ∷ []) t w
starts_more s mid t u v w [] [] q reply run answers_ legal starts = (
  t,
  w,
  subst₂ (λ z y. Answers z y (plain q) reply t w) run.0 run.1 answers_,
  legal,
  subst (λ (z : State). StartsAreProvided z.plan q reply t.plan) run.0 starts,
  (refl, refl),
)
starts_more s mid t u v w [] (x ∷ answers) q reply run answers_ legal starts = absurd run
starts_more s mid t u v w (r ∷ requests) [] q reply run answers_ legal starts = absurd run
starts_more s mid t u v w (r ∷ requests) (x ∷ answers) q reply run answers_ legal starts =
    (run.0, run.1, run.2, run.3, run.4, starts_more run.0 mid t run.1 v w requests answers q reply run.5 answers_ legal starts)

-- the tables after one more
pub tables_more : (s mid t : State) (u v w : Usable) (requests : List Request) (answers : List Answer) (q : Request) (reply : Answer) (before between after : Database)
    → TablesFollow s u requests answers before mid v between → Answers mid v (plain q) reply t w → HoldsState t after → ((r : Refusal) → reply ≡ refused r → after ≡ between)
    → TablesFollow s u (requests ++ q ∷ []) (answers ++ reply ∷ []) before t w after
tables_more s mid t u v w [] [] q reply before between after run answers_ held stays = (
  t,
  w,
  after,
  subst₂ (λ z y. Answers z y (plain q) reply t w) run.0 run.1 answers_,
  held,
  (λ r is. stays r is ∙ run.2),
  (refl, refl, refl),
)
tables_more s mid t u v w [] (x ∷ answers) q reply before between after run answers_ held stays = absurd run
tables_more s mid t u v w (r ∷ requests) [] q reply before between after run answers_ held stays = absurd run
tables_more s mid t u v w (r ∷ requests) (x ∷ answers) q reply before between after run answers_ held stays =
    (run.0, run.1, run.2, run.3, run.4, run.5, tables_more run.0 mid t run.1 v w requests answers q reply run.2 between after run.6 answers_ held stays)

-- ---- whether the store is open

-- one answer more of which none may have shut the store
either : (a b : Bool) → (a || b) ≡ false → (a ≡ false) × (b ≡ false)
either false b e = (refl, e)
either true b e = absurd (true≢false e)

pub none_shut : (answers : List Answer) (x : Answer) → list_any may_have_shut (answers ++ x ∷ []) ≡ false → (list_any may_have_shut answers ≡ false) × (may_have_shut x ≡ false)
none_shut answers x e =
    let both = either (list_any may_have_shut answers) (may_have_shut x || false) (sym (list_any-append may_have_shut answers (x ∷ [])) ∙ e) in
    (both.0, (either (may_have_shut x) false both.1).0)

-- where it has to be open after some answers, and is after any others, it is
pub open_after : (answers : List Answer) (new : StoreState) → IsOpenAfterAll answers new → (list_any may_have_shut answers ≡ false → IsTrue new.is_open) → IsTrue new.is_open
open_after answers new told others = at (list_any may_have_shut answers) refl
  where
    at : (b : Bool) → list_any may_have_shut answers ≡ b → IsTrue new.is_open
    at true is = told is
    at false is = others is

-- the accepted requests alone
pub accepted_answered : (s t : State) (u v : Usable) (requests : List Request) (answers : List Answer) → AreAnswered s u requests answers t v → AcceptedAreAnswered s requests answers t
accepted_answered s t u v requests answers all =
    subst (λ calls. Run s usable calls (accepted_replies answers) t usable) (plain_accepted requests answers) (accepted_alone s t u v (map plain requests) answers all)
