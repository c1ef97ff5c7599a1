-- Playing a text line by line: what was shown so far, and how what comes after it goes on.
use Rattle.std.proofs.Common.{◌≡◌, ℕ, ◌+◌, ◌≤◌, ◌||◌, Bool, true, false, List, [], ◌++◌, length, append_assoc, append-nil, refl, inl, inr, sym, subst, arith, ℤ, Option, Result, Ok, Err, IfOk, IfErr}
use Rattle.std.specs.Io.KnownBytes.{Appends}
use Rattle.std.proofs.KnownBytes.{Appends-nil, Appends-trans}
use Rattle.plan_basics.specs.Minutes.{IsShownAs}
use Rattle.plan_basics.specs.declared.Refusal.{Refusal}
use Rattle.plan_basics.specs.declared.keys.OpKey.{OpKey}
use Rattle.plan_records.specs.plan_model.specs.Contents.{Contents}
use Rattle.plan_records.specs.Answer.{Answer, accepted, refused}
use Rattle.plan_records.specs.Run.{Answers, State, Usable, plain}
use Rattle.plan_records.specs.declared.Request.{Request}
use Rattle.command_desks.specs.desk_tables.specs.Desk.{usability}
use Rattle.command_answers.specs.request_json.specs.Requests.{ReadsAsRequest}
use Rattle.command_answers.specs.Statuses.{IsOfSurroundings}
use Rattle.command_answers.specs.Answers.{IsShown, answer_text}
use Rattle.command_answers.specs.Given.{IsNoRequest}
use Rattle.command_answers.specs.Opened.{IsFaultOfNone, IsWhyNoDesk, IsNoneShown}
use Rattle.command_answers.specs.Lines.{IsFirstLine, IsNumberShown, number_line}
use Rattle.request_commands.specs.Turns.{IsLinePlayed, IsPlanPlayed, IsPlayed, IsTurnShown, Plays, PlaysLine, breaks_off, goes_on, joined, no_more, turn_head}
use Rattle.command_desks.specs.Loaded.{IsLoadRefusal, IsLoaded}
use Rattle.command_answers.specs.declared.endings.Ending.{Ending}
use Rattle.command_answers.specs.declared.endings.Ending.TheVariants as ending
use Rattle.command_answers.specs.declared.endings.Fault.{Fault}
use Rattle.command_answers.specs.declared.endings.Fault.TheVariants as fault
use Rattle.command_answers.specs.declared.endings.NoDesk.{NoDesk}
use Rattle.command_answers.proofs.FirstLines.{shorter}
use Rattle.command_desks.proofs.Unloaded.{unloaded}

-- refused by either of two is refused by the one and then by the other
joined-or : (b c : Bool) (outcome : Result Ending Fault) → joined (b || c) outcome ≡ joined b (joined c outcome)
joined-or false c outcome = refl
joined-or true false (Ok e) = refl
joined-or true true (Ok e) = refl
joined-or true false (Err f) = refl
joined-or true true (Err f) = refl

-- what isn't a request breaks off whatever was refused before it
joined-Err : (b : Bool) (f : Fault) → joined b (Err f) ≡ Err f
joined-Err false f = refl
joined-Err true f = refl

-- of a text that is played from a state: the lines before `rest` have shown this, and what comes after them goes on
pub record SoFar (text : List ℕ) (s : State) (u : Usable) (old now : Option (List ℕ)) (number : ℕ) (rest : List ℕ) (t : State) (v : Usable) (refused : Bool) : Type 0 where
  pub shown : List ℕ
  pub appended : Appends old now shown
  pub leads : (more : List ℕ) (outcome : Result Ending Fault) → Plays number rest t v more outcome → Plays 0 text s u (shown ++ more) (joined refused outcome)
  pub counted : number + length rest ≤ length text

-- nothing was played
pub so_far_begins : (text : List ℕ) (s : State) (u : Usable) (old : Option (List ℕ)) → SoFar text s u old old 0 text s u false
so_far_begins text s u old = record {
  shown = [];
  appended = Appends-nil old;
  leads = λ (more : List ℕ) (outcome : Result Ending Fault) (p : Plays 0 text s u more outcome). p;
  counted = omega arith;
}

module _ (text : List ℕ) (s : State) (u : Usable) (old now : Option (List ℕ)) (number : ℕ) (rest : List ℕ) (t : State) (v : Usable) (refused : Bool) (so_far : SoFar text s u old now number rest t v refused) where
  -- one line more
  pub so_far_goes_on : (first after : List ℕ) (shown : List ℕ) (refuses : Bool) (x : State) (y : Usable) (new : Option (List ℕ))
      → IsFirstLine rest first after → PlaysLine (number + 1) first t v shown refuses x y → Appends now new shown
      → SoFar text s u old new (number + 1) after x y (refused || refuses)
  so_far_goes_on first after shown refuses x y new cut plays appends = record {
    shown = so_far.shown ++ shown;
    appended = Appends-trans old now new so_far.shown shown so_far.appended appends;
    leads = λ (more : List ℕ) (outcome : Result Ending Fault) (p : Plays (number + 1) after x y more outcome).
        let step = goes_on number rest first after t v shown more refuses x y outcome cut plays p in
        rw (append_assoc so_far.shown shown more, joined-or refused refuses outcome) (so_far.leads (shown ++ more) (joined refuses outcome) step);
    counted = let less = shorter rest first after cut in omega (arith, so_far.counted);
  }

  -- no line is left
  pub so_far_ends : rest ≡ [] → (e : Ending) → Ok e ≡ joined refused (Ok ending.Done) → IsPlayed text s u old now (Ok e)
  so_far_ends none e is =
      let last : Plays number rest t v [] (Ok ending.Done) = rw none (no_more number t v) in
      let whole : Plays 0 text s u so_far.shown (Ok e) = rw (is, ← append-nil so_far.shown) (so_far.leads [] (Ok ending.Done) last) in
      (so_far.shown, whole, so_far.appended)

  -- a line isn't played, or can't be
  pub so_far_breaks_off : (first after : List ℕ) (f : Fault) (x : State) (y : Usable) (new : Option (List ℕ))
      → IsFirstLine rest first after → IsLinePlayed (number + 1) first t v now new (Err f) x y → IsPlayed text s u old new (Err f)
  so_far_breaks_off first after fault.Request x y new cut (no_request, appends) =
      let step = breaks_off number rest first after t v cut no_request in
      let whole : Plays 0 text s u (so_far.shown ++ number_line (number + 1)) (Err fault.Request) = rw (← joined-Err refused fault.Request) (so_far.leads (number_line (number + 1)) (Err fault.Request) step) in
      (so_far.shown ++ number_line (number + 1), whole, Appends-trans old now new so_far.shown (number_line (number + 1)) so_far.appended appends)
  so_far_breaks_off first after fault.Encoding x y new cut of = of
  so_far_breaks_off first after fault.Words x y new cut of = of
  so_far_breaks_off first after fault.Moment x y new cut of = of
  so_far_breaks_off first after fault.File x y new cut of = of
  so_far_breaks_off first after fault.Network x y new cut of = of
  so_far_breaks_off first after fault.Memory x y new cut of = of

-- a line's fault of the surroundings
pub line_fails : (n : ℕ) (text : List ℕ) (s : State) (u : Usable) (old new : Option (List ℕ)) (r : Result Bool Fault) (f : Fault) (t : State) (v : Usable)
    → r ≡ Err f → IsOfSurroundings f → IsLinePlayed n text s u old new r t v
line_fails n text s u old new r f t v is of = subst (λ x. IsLinePlayed n text s u old new x t v) (sym is) (by f of)
  where
    by : (g : Fault) → IsOfSurroundings g → IsLinePlayed n text s u old new (Err g) t v
    by fault.Request h = absurd (omega (arith, h))
    by fault.Encoding h = h
    by fault.Words h = h
    by fault.Moment h = h
    by fault.File h = h
    by fault.Network h = h
    by fault.Memory h = h

-- a request was answered, and the answer was shown
pub turn_answered : (q : Request) (a : Answer) (s : State) (u : Usable) (old new : Option (List ℕ)) (r : Result Bool Fault) (t : State) (v : Usable)
    → Answers s u (plain q) a t v → IfOk r (IsTurnShown a old new)
    → IfOk r (λ refuses. (b : Answer) × Answers s u (plain q) b t v × IsTurnShown b old new refuses)
turn_answered q a s u old new (Ok refuses) t v answers shown = (a, answers, shown)
turn_answered q a s u old new (Err f) t v answers shown = tt

-- the head of a line was shown, and then the answer to its request
pub turn_played : (n : ℕ) (q : Request) (moment : List ℕ) (s : State) (u : Usable) (old between new : Option (List ℕ)) (r : Result Bool Fault) (t : State) (v : Usable)
    → IsShownAs q.at moment → Appends old between (turn_head n moment)
    → IfOk r (λ refuses. (a : Answer) × Answers s u (plain q) a t v × IsTurnShown a between new refuses) → IfErr r IsOfSurroundings
    → (line : List ℕ) → ReadsAsRequest line q → IsLinePlayed n line s u old new r t v
turn_played n q moment s u old between new (Ok refuses) t v at head (a, answers, told) of line reads =
    (turn_head n moment ++ answer_text a, inr (q, reads, moment, at, a, answers, refl, told.1), Appends-trans old between new (turn_head n moment) (answer_text a) head told.0)
turn_played n q moment s u old between new (Err f) t v at head played of line reads = line_fails n line s u old new (Err f) f t v refl of

-- a line is no request, and its number was shown
pub line_unread : (n : ℕ) (line : List ℕ) (s : State) (u : Usable) (old new : Option (List ℕ)) (r : Result Bool Fault)
    → IsNoRequest line → IsNumberShown n old new r → IsLinePlayed n line s u old new r s u
line_unread n line s u old new (Ok refuses) none shown = absurd shown
line_unread n line s u old new (Err fault.Request) none shown = (none, shown)
line_unread n line s u old new (Err fault.Encoding) none of = of
line_unread n line s u old new (Err fault.Words) none of = of
line_unread n line s u old new (Err fault.Moment) none of = of
line_unread n line s u old new (Err fault.File) none of = of
line_unread n line s u old new (Err fault.Network) none of = of
line_unread n line s u old new (Err fault.Memory) none of = of

module _ (at : ℤ) (found : Option Contents) (text : List ℕ) (old new : Option (List ℕ)) where
  -- a fault of the surroundings
  plan_at_fault : (f : Fault) → IsOfSurroundings f → IsPlanPlayed at found text old new (Err f)
  plan_at_fault fault.Request h = absurd (omega (arith, h))
  plan_at_fault fault.Encoding h = h
  plan_at_fault fault.Words h = h
  plan_at_fault fault.Moment h = h
  plan_at_fault fault.File h = h
  plan_at_fault fault.Network h = h
  plan_at_fault fault.Memory h = h

  -- the plan was loaded, and the text played
  pub plan_played : (named : List OpKey) (s : State) (b : Bool) (r : Result Ending Fault)
      → IsLoaded at found (accepted named) s → b ≡ true → IsPlayed text s (usability b) old new r → IsPlanPlayed at found text old new r
  plan_played named s true (Ok e) loads is played = inl (named, s, loads, played)
  plan_played named s true (Err fault.Request) loads is played = (named, s, loads, played)
  plan_played named s true (Err fault.Encoding) loads is played = played
  plan_played named s true (Err fault.Words) loads is played = played
  plan_played named s true (Err fault.Moment) loads is played = played
  plan_played named s true (Err fault.File) loads is played = played
  plan_played named s true (Err fault.Network) loads is played = played
  plan_played named s true (Err fault.Memory) loads is played = played
  plan_played named s false r loads is played = absurd (cc)

  -- why there is no desk was shown, or its fault handed on
  pub plan_unplayed : (none : NoDesk) (r : Result Ending Fault)
      → IsWhyNoDesk (IsLoadRefusal at found) none → IfOk r (IsNoneShown none old new) → IfErr r (IsFaultOfNone none) → IsPlanPlayed at found text old new r
  plan_unplayed =
      unloaded at found old new (IsPlanPlayed at found text old new)
      (λ (e : Ending) (was : (q : Refusal) × IsLoadRefusal at found q × IsShown (refused q) old new e). inr was) plan_at_fault
