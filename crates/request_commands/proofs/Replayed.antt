-- Taking a journal line by line: what was shown so far, and how what comes after it goes on.
use Rattle.std.proofs.Common.{◌≡◌, ◌≢◌, ◌∙◌, ℕ, ◌+◌, ◌≤◌, List, [], ◌++◌, length, append_assoc, refl, inl, inr, sym, arith, ℤ, Bool, true, false, Option, Some, None, Vec, Global, Result, Ok, Err, IfOk, IfErr}
use Rattle.std.specs.Io.KnownBytes.{Appends}
use Rattle.std.proofs.KnownBytes.{Appends-nil, Appends-trans}
use Rattle.std.proofs.lemmas.Result.{IfOk-weaker}
use Rattle.plan_basics.specs.declared.Refusal.{Refusal}
use Rattle.plan_basics.specs.declared.keys.OpKey.{OpKey}
use Rattle.plan_records.specs.plan_model.specs.Contents.{Contents}
use Rattle.plan_records.specs.Answer.{accepted, refused}
use Rattle.plan_records.specs.Run.{State}
use Rattle.desk_journal.specs.Entries.{IsEntry}
use Rattle.desk_journal.specs.declared.entries.Entry.{Entry}
use Rattle.desk_journal.specs.declared.entries.Entry.TheVariants as entry
use Rattle.http_messages.specs.declared.asking.Asked.{Asked}
use Rattle.http_messages.specs.declared.asking.Asked.TheVariants as asked
use Rattle.tracker_http.specs.Exchange.{Seen}
use Rattle.tracker_http.specs.Guard.{TellsWithin}
use Rattle.command_desks.specs.desk_tables.specs.Desk.{usability}
use Rattle.tracker_http.specs.declared.told.Told.{Told}
use Rattle.tracker_http.specs.Journalled.{told_line}
use Rattle.command_answers.specs.Answers.{IsShown, line}
use Rattle.command_answers.specs.Opened.{IsFaultOfNone, IsWhyNoDesk, IsNoneShown}
use Rattle.command_answers.specs.Statuses.{IsOfSurroundings}
use Rattle.command_answers.specs.declared.endings.Ending.{Ending}
use Rattle.command_answers.specs.declared.endings.Ending.TheVariants as ending
use Rattle.command_answers.specs.declared.endings.Fault.{Fault}
use Rattle.command_answers.specs.declared.endings.Fault.TheVariants as fault
use Rattle.command_answers.specs.declared.endings.NoDesk.{NoDesk}
use Rattle.command_answers.specs.Lines.{IsFirstLine, IsNumberShown, number_line}
use Rattle.command_desks.specs.Loaded.{IsLoadRefusal, IsLoaded}
use Rattle.request_commands.specs.Replays.{Compares, HasNoPlace, IsEntryTaken, IsLineTaken, IsOutcome, IsPlanReplayed, IsReplayed, Replays, Takes, TakesAnswer, TakesLine, acted_line, breaks_off, goes_on, no_more, parting_lines, parts, same_line, unanswered}
use Rattle.request_commands.specs.declared.replaying.Outcome.TheVariants as outcome
use Rattle.request_commands.specs.declared.replaying.Step.{Step}
use Rattle.request_commands.specs.declared.replaying.Step.TheVariants as step
use Rattle.request_commands.specs.declared.replaying.Waiting.{Waiting}
use Rattle.command_answers.proofs.FirstLines.{shorter}
use Rattle.command_desks.proofs.Unloaded.{unloaded}

-- of a journal that is taken at a desk: the lines before `rest` have shown this, and what comes after them goes on
pub record SoFarTaken (text : List ℕ) (s : Seen) (old now : Option (List ℕ)) (number : ℕ) (w : Option Waiting) (rest : List ℕ) (t : Seen) : Type 0 where
  pub shown : List ℕ
  pub appended : Appends old now shown
  pub leads : (more : List ℕ) (outcome : Result Ending Fault) → Replays number w rest t more outcome → Replays 0 None text s (shown ++ more) outcome
  pub counted : number + length rest ≤ length text

-- nothing was taken
pub taking_begins : (text : List ℕ) (s : Seen) (old : Option (List ℕ)) → SoFarTaken text s old old 0 None text s
taking_begins text s old = record {
  shown = [];
  appended = Appends-nil old;
  leads = λ (more : List ℕ) (outcome : Result Ending Fault) (p : Replays 0 None text s more outcome). p;
  counted = omega arith;
}

module _ (text : List ℕ) (s : Seen) (old now : Option (List ℕ)) (number : ℕ) (w : Option Waiting) (rest : List ℕ) (t : Seen) (so_far : SoFarTaken text s old now number w rest t) where
  -- one line more
  pub taking_goes_on : (first after : List ℕ) (shown : List ℕ) (v : Option Waiting) (x : Seen) (new : Option (List ℕ))
      → IsFirstLine rest first after → TakesLine (number + 1) w first t shown (step.GoesOn v) x → Appends now new shown
      → SoFarTaken text s old new (number + 1) v after x
  taking_goes_on first after shown v x new cut takes appends = record {
    shown = so_far.shown ++ shown;
    appended = Appends-trans old now new so_far.shown shown so_far.appended appends;
    leads = λ (more : List ℕ) (outcome : Result Ending Fault) (p : Replays (number + 1) v after x more outcome).
        let next = goes_on number w rest first after t shown more v x outcome cut takes p in
        rw (append_assoc so_far.shown shown more) (so_far.leads (shown ++ more) outcome next);
    counted = let less = shorter rest first after cut in omega (arith, so_far.counted);
  }

  -- the answers part at a line
  pub taking_parts : (first after : List ℕ) (shown : List ℕ) (x : Seen) (new : Option (List ℕ))
      → IsFirstLine rest first after → TakesLine (number + 1) w first t shown step.Parts x → Appends now new shown
      → IsReplayed text s old new (Ok ending.Refused)
  taking_parts first after shown x new cut takes appends =
      let last = parts number w rest first after t shown x cut takes in
      (so_far.shown ++ shown, so_far.leads shown (Ok ending.Refused) last, Appends-trans old now new so_far.shown shown so_far.appended appends)

  -- a line isn't taken, or can't be
  pub taking_breaks_off : (first after : List ℕ) (f : Fault) (x : Seen) (new : Option (List ℕ))
      → IsFirstLine rest first after → IsLineTaken (number + 1) w first t now new (Err f) x → IsReplayed text s old new (Err f)
  taking_breaks_off first after fault.Request x new cut (misplaced, appends) =
      let last = breaks_off number w rest first after t cut misplaced in
      (so_far.shown ++ number_line (number + 1), so_far.leads (number_line (number + 1)) (Err fault.Request) last, Appends-trans old now new so_far.shown (number_line (number + 1)) so_far.appended appends)
  taking_breaks_off first after fault.Encoding x new cut of = of
  taking_breaks_off first after fault.Words x new cut of = of
  taking_breaks_off first after fault.Moment x new cut of = of
  taking_breaks_off first after fault.File x new cut of = of
  taking_breaks_off first after fault.Network x new cut of = of
  taking_breaks_off first after fault.Memory x new cut of = of

-- a fault of the surroundings
pub replay_fails : (text : List ℕ) (s : Seen) (old new : Option (List ℕ)) (f : Fault) → IsOfSurroundings f → IsReplayed text s old new (Err f)
replay_fails text s old new fault.Request h = absurd (omega (arith, h))
replay_fails text s old new fault.Encoding h = h
replay_fails text s old new fault.Words h = h
replay_fails text s old new fault.Moment h = h
replay_fails text s old new fault.File h = h
replay_fails text s old new fault.Network h = h
replay_fails text s old new fault.Memory h = h

-- no line is left
pub taking_ends : (text : List ℕ) (s : Seen) (old now new : Option (List ℕ)) (number : ℕ) (w : Option Waiting) (rest : List ℕ) (t : Seen) (r : Result Ending Fault)
    → SoFarTaken text s old now number w rest t → rest ≡ []
    → IfOk r (λ e. Appends now new (unanswered w ++ same_line number) × (e ≡ ending.Done)) → IfErr r IsOfSurroundings
    → IsReplayed text s old new r
taking_ends text s old now new number w rest t (Ok e) so_far none (appends, done) of =
    let last : Replays number w rest t (unanswered w ++ same_line number) (Ok e) = rw (none, done) (no_more number w t) in
    (so_far.shown ++ (unanswered w ++ same_line number), so_far.leads (unanswered w ++ same_line number) (Ok e) last, Appends-trans old now new so_far.shown (unanswered w ++ same_line number) so_far.appended appends)
taking_ends text s old now new number w rest t (Err f) so_far none shown of = replay_fails text s old new f of

module _ (n : ℕ) (w : Option Waiting) (text : List ℕ) (x : Entry) (s : Seen) (old new : Option (List ℕ)) (t : Seen) where
  -- a fault of the surroundings
  pub entry_fails : (f : Fault) → IsOfSurroundings f → IsEntryTaken n w text x s old new (Err f) t
  entry_fails fault.Request h = absurd (omega (arith, h))
  entry_fails fault.Encoding h = h
  entry_fails fault.Words h = h
  entry_fails fault.Moment h = h
  entry_fails fault.File h = h
  entry_fails fault.Network h = h
  entry_fails fault.Memory h = h

  -- it was taken, or the surroundings are at fault
  pub entry_taken : (r : Result Step Fault) → IfOk r (λ e. (shown : List ℕ) × Takes n w text x s shown e t × Appends old new shown) → IfErr r IsOfSurroundings → IsEntryTaken n w text x s old new r t
  entry_taken (Ok e) taken of = taken
  entry_taken (Err f) taken of = entry_fails f of

  -- it has no place, and its line's number was shown
  pub entry_misplaced : (r : Result Step Fault) → HasNoPlace w x → IsNumberShown n old new r → IsEntryTaken n w text x s old new r t
  entry_misplaced (Ok e) none shown = absurd shown
  entry_misplaced (Err fault.Request) none shown = (none, shown)
  entry_misplaced (Err fault.Encoding) none of = of
  entry_misplaced (Err fault.Words) none of = of
  entry_misplaced (Err fault.Moment) none of = of
  entry_misplaced (Err fault.File) none of = of
  entry_misplaced (Err fault.Network) none of = of
  entry_misplaced (Err fault.Memory) none of = of

  -- so, of the line that says it
  pub line_taken : (r : Result Step Fault) → IsEntry text x → IsEntryTaken n w text x s old new r t → IsLineTaken n w text s old new r t
  line_taken (Ok e) says (shown, takes, appends) = (shown, (x, says, takes), appends)
  line_taken (Err fault.Request) says (none, appends) = ((x, says, none), appends)
  line_taken (Err fault.Encoding) says of = of
  line_taken (Err fault.Words) says of = of
  line_taken (Err fault.Moment) says of = of
  line_taken (Err fault.File) says of = of
  line_taken (Err fault.Network) says of = of
  line_taken (Err fault.Memory) says of = of

module _ (n : ℕ) (w : Option Waiting) (text : List ℕ) (x : Entry) (s : Seen) (old new : Option (List ℕ)) (t : Seen) (r : Result Step Fault) (of : IfErr r IsOfSurroundings) where
  -- a tracker's report is taken
  pub report_taken : (body : Vec ℕ Global) → x ≡ entry.Report body
      → IfOk r (λ e. Appends old new (unanswered w) × (e ≡ step.GoesOn (Some (record { number = n; asked = asked.Report body })))) → t ≡ s
      → IsEntryTaken n w text x s old new r t
  report_taken body is taken same =
      entry_taken n w text x s old new t r
      (IfOk-weaker r (λ e. Appends old new (unanswered w) × (e ≡ step.GoesOn (Some (record { number = n; asked = asked.Report body }))))
      (λ e. (shown : List ℕ) × Takes n w text x s shown e t × Appends old new shown)
      (λ (e : Step) (was : Appends old new (unanswered w) × (e ≡ step.GoesOn (Some (record { number = n; asked = asked.Report body })))).
      (unanswered w, rw is (refl, was.1, same), was.0)) taken) of

  -- an operator's request
  pub operator_taken : (body : Vec ℕ Global) → x ≡ entry.Operator body
      → IfOk r (λ e. Appends old new (unanswered w) × (e ≡ step.GoesOn (Some (record { number = n; asked = asked.Operator body })))) → t ≡ s
      → IsEntryTaken n w text x s old new r t
  operator_taken body is taken same =
      entry_taken n w text x s old new t r
      (IfOk-weaker r (λ e. Appends old new (unanswered w) × (e ≡ step.GoesOn (Some (record { number = n; asked = asked.Operator body }))))
      (λ e. (shown : List ℕ) × Takes n w text x s shown e t × Appends old new shown)
      (λ (e : Step) (was : Appends old new (unanswered w) × (e ≡ step.GoesOn (Some (record { number = n; asked = asked.Operator body })))).
      (unanswered w, rw is (refl, was.1, same), was.0)) taken) of

  -- the answer of a request that waits for it
  pub answer_taken : (v : Waiting) (status : ℕ) → x ≡ entry.Answer status → w ≡ Some v
      → IfOk r (λ e. (shown : List ℕ) × TakesAnswer n v status text s shown e t × Appends old new shown)
      → IsEntryTaken n w text x s old new r t
  answer_taken v status is waits taken =
      entry_taken n w text x s old new t r
      (IfOk-weaker r (λ e. (shown : List ℕ) × TakesAnswer n v status text s shown e t × Appends old new shown)
      (λ e. (shown : List ℕ) × Takes n w text x s shown e t × Appends old new shown)
      (λ (e : Step) (was : (shown : List ℕ) × TakesAnswer n v status text s shown e t × Appends old new shown).
      (was.0, rw (is, waits) was.1, was.2)) taken) of

-- a line that was cut short is passed over
pub cut_taken : (n : ℕ) (w : Option Waiting) (text : List ℕ) (x : Entry) (s : Seen) (old : Option (List ℕ)) → x ≡ entry.Cut → IsEntryTaken n w text x s old old (Ok (step.GoesOn w)) s
cut_taken n w text x s old is = ([], rw is (refl, refl, refl), Appends-nil old)

-- an answer that no request waits for has no place, and what is no line of a journal hasn't
pub answer_misplaced : (w : Option Waiting) (status : ℕ) → w ≡ None → HasNoPlace w (entry.Answer status)
answer_misplaced None status is = tt
answer_misplaced (Some v) status is = absurd (cc)

pub other_misplaced : (w : Option Waiting) (x : Entry) → x ≡ entry.Other → HasNoPlace w x
other_misplaced None x is = rw is tt
other_misplaced (Some v) x is = rw is tt

module _ (n : ℕ) (w : Waiting) (status : ℕ) (text : List ℕ) (s : Seen) (old new : Option (List ℕ)) where
  -- what was accepted is carried out
  pub accepted_taken : (t : Seen) (r : Result Step Fault) → IsOutcome status outcome.Accepted
      → IfOk r (λ e. (shown : List ℕ) × ((x : Told) × TellsWithin None w.asked s x t × Compares n text x shown e) × Appends old new shown)
      → IfOk r (λ e. (shown : List ℕ) × TakesAnswer n w status text s shown e t × Appends old new shown)
  accepted_taken t r is carried =
      IfOk-weaker r (λ e. (shown : List ℕ) × ((x : Told) × TellsWithin None w.asked s x t × Compares n text x shown e) × Appends old new shown)
      (λ e. (shown : List ℕ) × TakesAnswer n w status text s shown e t × Appends old new shown)
      (λ (e : Step) (was : (shown : List ℕ) × ((x : Told) × TellsWithin None w.asked s x t × Compares n text x shown e) × Appends old new shown).
      (was.0, inl (is, was.1.0, was.1.1, was.1.2), was.2)) carried

  -- a store failed
  pub failed_taken : (r : Result Step Fault) → IsOutcome status outcome.Failed
      → IfOk r (λ e. Appends old new (acted_line w.number) × (e ≡ step.GoesOn None))
      → IfOk r (λ e. (shown : List ℕ) × TakesAnswer n w status text s shown e s × Appends old new shown)
  failed_taken r is told =
      IfOk-weaker r (λ e. Appends old new (acted_line w.number) × (e ≡ step.GoesOn None))
      (λ e. (shown : List ℕ) × TakesAnswer n w status text s shown e s × Appends old new shown)
      (λ (e : Step) (was : Appends old new (acted_line w.number) × (e ≡ step.GoesOn None)). (acted_line w.number, inr (inl (is, refl, was.1, refl)), was.0)) told

  -- nothing is carried out
  pub refused_taken : IsOutcome status outcome.Refused
      → (shown : List ℕ) × TakesAnswer n w status text s shown (step.GoesOn None) s × Appends old old shown
  refused_taken is = ([], inr (inr (is, refl, refl, refl)), Appends-nil old)

-- what is told at a desk is compared
pub carried : (n : ℕ) (text : List ℕ) (a : Asked) (s t : Seen) (x : Told) (old new : Option (List ℕ)) (r : Result Step Fault) → TellsWithin None a s x t
    → IfOk r (λ e. (shown : List ℕ) × Compares n text x shown e × Appends old new shown)
    → IfOk r (λ e. (shown : List ℕ) × ((y : Told) × TellsWithin None a s y t × Compares n text y shown e) × Appends old new shown)
carried n text a s t x old new r tells compared =
    IfOk-weaker r (λ e. (shown : List ℕ) × Compares n text x shown e × Appends old new shown)
    (λ e. (shown : List ℕ) × ((y : Told) × TellsWithin None a s y t × Compares n text y shown e) × Appends old new shown)
    (λ (e : Step) (was : (shown : List ℕ) × Compares n text x shown e × Appends old new shown). (was.0, (x, tells, was.1), was.2)) compared

module _ (n : ℕ) (text : List ℕ) (x : Told) (told : List ℕ) (is : told ≡ told_line x) (old new : Option (List ℕ)) where
  -- the answers are the same
  pub same_answer : told ≡ line text → (shown : List ℕ) × Compares n text x shown (step.GoesOn None) × Appends old old shown
  same_answer same = ([], inl (sym is ∙ same, refl, refl), Appends-nil old)

  -- they part
  pub other_answer : (r : Result Step Fault) → told ≢ line text → IfOk r (λ e. Appends old new (parting_lines n x) × (e ≡ step.Parts))
      → IfOk r (λ e. (shown : List ℕ) × Compares n text x shown e × Appends old new shown)
  other_answer r other parted =
      IfOk-weaker r (λ e. Appends old new (parting_lines n x) × (e ≡ step.Parts)) (λ e. (shown : List ℕ) × Compares n text x shown e × Appends old new shown)
      (λ (e : Step) (was : Appends old new (parting_lines n x) × (e ≡ step.Parts)). (parting_lines n x, inr (λ q. other (is ∙ q), refl, was.1), was.0)) parted

module _ (at : ℤ) (found : Option Contents) (text : List ℕ) (old new : Option (List ℕ)) where
  -- a fault of the surroundings
  plan_fails : (f : Fault) → IsOfSurroundings f → IsPlanReplayed at found text old new (Err f)
  plan_fails fault.Request h = absurd (omega (arith, h))
  plan_fails fault.Encoding h = h
  plan_fails fault.Words h = h
  plan_fails fault.Moment h = h
  plan_fails fault.File h = h
  plan_fails fault.Network h = h
  plan_fails fault.Memory h = h

  -- the plan was loaded, and the journal taken
  pub plan_replayed : (named : List OpKey) (s : State) (b : Bool) (r : Result Ending Fault)
      → IsLoaded at found (accepted named) s → b ≡ true → IsReplayed text (record { state = s; usable = usability b }) old new r → IsPlanReplayed at found text old new r
  plan_replayed named s true (Ok e) loads is replayed = inl (named, s, loads, replayed)
  plan_replayed named s true (Err fault.Request) loads is replayed = (named, s, loads, replayed)
  plan_replayed named s true (Err fault.Encoding) loads is replayed = replayed
  plan_replayed named s true (Err fault.Words) loads is replayed = replayed
  plan_replayed named s true (Err fault.Moment) loads is replayed = replayed
  plan_replayed named s true (Err fault.File) loads is replayed = replayed
  plan_replayed named s true (Err fault.Network) loads is replayed = replayed
  plan_replayed named s true (Err fault.Memory) loads is replayed = replayed
  plan_replayed named s false r loads is replayed = absurd (cc)

  -- why there is no desk was shown, or its fault handed on
  pub plan_unreplayed : (none : NoDesk) (r : Result Ending Fault)
      → IsWhyNoDesk (IsLoadRefusal at found) none → IfOk r (IsNoneShown none old new) → IfErr r (IsFaultOfNone none) → IsPlanReplayed at found text old new r
  plan_unreplayed =
      unloaded at found old new (IsPlanReplayed at found text old new)
      (λ (e : Ending) (was : (q : Refusal) × IsLoadRefusal at found q × IsShown (refused q) old new e). inr was) plan_fails
