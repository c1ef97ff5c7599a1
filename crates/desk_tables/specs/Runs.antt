-- What requests one after another are answered, and the plans that they lead through.
use Rattle.std.specs.Prelude.{◌≡◌, List, [], ◌∷◌, map}
use Rattle.sqlite.specs.Effect.{Database}
use Rattle.plan_basics.specs.declared.Refusal.{Refusal}
use Rattle.plan_records.specs.Answer.{Answer, refused}
use Rattle.plan_records.specs.Run.{Answers, Run, State, Usable, accepted_replies, plain, usable}
use Rattle.plan_records.specs.Schedules.{IsDeskState}
use Rattle.plan_records.specs.declared.Request.{Request}
use Rattle.plan_core.specs.Provided.{StartsAreProvided}
use Rattle.plan_core.specs.State.{accepted_requests}
use Rattle.desk_tables.specs.Desk.{HoldsState}

-- these are the answers to the requests in their order, and the state and the usability at their end: each is answered by a step of the state that the one before left, or by want of memory or a fault of the store, nothing changed; after a fault nothing is carried out
abbrev pub AreAnswered : State → Usable → List Request → List Answer → State → Usable → Type 0
AreAnswered s u requests answers t v = Run s u (map plain requests) answers t v

-- the accepted requests alone are answered the same, and lead to the same state
abbrev pub AcceptedAreAnswered : State → List Request → List Answer → State → Type 0
AcceptedAreAnswered s requests answers t = AreAnswered s usable (accepted_requests requests answers) (accepted_replies answers) t usable

-- each request is answered so and leaves a sound plan with well formed receipts, and for whatever becomes started by it there was all that it needs then
abbrev pub StartsAreProvidedIn : State → Usable → List Request → List Answer → State → Usable → Type 0
StartsAreProvidedIn s u [] [] t v = (t ≡ s) × (v ≡ u)
StartsAreProvidedIn s u (q ∷ requests) (reply ∷ answers) t v =
    (mid : State) × (w : Usable) × Answers s u (plain q) reply mid w × IsDeskState mid × StartsAreProvided s.plan q reply mid.plan × StartsAreProvidedIn mid w requests answers t v
StartsAreProvidedIn s u [] (reply ∷ answers) t v = ⊥
StartsAreProvidedIn s u (q ∷ requests) [] t v = ⊥

-- the tables that requests lead through, one after each: they hold the rows of the state then, and a refused request leaves those that were there
abbrev pub TablesFollow : State → Usable → List Request → List Answer → Database → State → Usable → Database → Type 0
TablesFollow s u [] [] before t v after = (t ≡ s) × (v ≡ u) × (after ≡ before)
TablesFollow s u (q ∷ requests) (reply ∷ answers) before t v after =
    (mid : State) × (w : Usable) × (db : Database) × Answers s u (plain q) reply mid w × HoldsState mid db × ((r : Refusal) → reply ≡ refused r → db ≡ before) × TablesFollow mid w requests answers db t v after
TablesFollow s u [] (reply ∷ answers) before t v after = ⊥
TablesFollow s u (q ∷ requests) [] before t v after = ⊥
