use Rattle.std.proofs.Common.{rules, refl, subst, List, ◌≡◌, ◌+◌, ◌++◌, ◌∷◌, [], take, map, cond, length, length-append, sym, ap, ◌∙◌, arith}
use Rattle.std.specs.Prelude.{⊤}
use Rattle.std.specs.List.{list_any}
use Rattle.std.specs.Result.{is_ok}
use Rattle.std.proofs.lemmas.List.{map-append, take_all, take_more}
use Rattle.sqlite.proofs.StateLemmas.{survives_then}
use Rattle.sqlite.specs.Held.{state}
use Rattle.sqlite.specs.State.{HasCleanDisk}
use Rattle.plan_core.proofs.Answering.{run_more}
use Rattle.plan_records.specs.Answer.{answer_of}
use Rattle.plan_records.specs.Run.{plain}
use Rattle.plan_records.specs.declared.Reply.{Reply}
use Rattle.plan_records.specs.declared.Request.{Request}
use Rattle.desk_tables.proofs.Running.{accepted_answered, none_shut, open_after, starts_more, tables_more}
use Rattle.desk_tables.specs.Desk.{HasTables, IsClean, state_of, usability}
use Rattle.desk_tables.specs.Runs.{AreAnswered, StartsAreProvidedIn, TablesFollow}
use Rattle.desk_tables.specs.Shut.{may_have_shut}
use Rattle.plan_writes.proofs.Within.{survives_same}
use Rattle.desk_tables.proofs.runs.run_all.Goals as goal

pub loop-request-init : goal.loop-request-init
loop-request-init g c =
    let d = c.args.desk.now in
    let none = c.in_ok-replies.ensures.items in
    record {
      so_far = subst (λ (xs : List Reply). AreAnswered (state_of d) (usability d.is_usable) [] (map answer_of xs) (state_of d) (usability d.is_usable)) (sym none) (refl, refl);
      sound = c.alloc.ensures.sound;
      clean = λ clean. clean;
      is_open = λ clean was none. was;
      survives = survives_same (state g.S.Store d.conn) (λ _. ⊤);
      tables = c.alloc.ensures.tables;
      follow = λ clean has. subst (λ (xs : List Reply). TablesFollow (state_of d) (usability d.is_usable) [] (map answer_of xs) (state g.S.Store d.conn).committed (state_of d) (usability d.is_usable) (state g.S.Store d.conn).committed) (sym none) (refl, refl, refl);
      provided = subst (λ (xs : List Reply). StartsAreProvidedIn (state_of d) (usability d.is_usable) [] (map answer_of xs) (state_of d) (usability d.is_usable)) (sym none) (refl, refl);
      told = search rules;
      room = search rules;
    }

pub loop-request-preserved : goal.loop-request-preserved
loop-request-preserved g c =
    let i = c.loop-request.request-index in
    let requests = c.args.requests.now in
    let item = c.request-item.result in
    let replies = c.loop-request.replies.items in
    let reply = c.call-reply.result in
    let first = c.args.desk.now in
    let old = c.loop-request.desk in
    let new = c.call-reply.new.self in
    let items : c.push.new.self.items ≡ replies ++ reply ∷ [] = c.push.ensures.items ∙ ap (λ r. cond (is_ok r) (replies ++ reply ∷ []) replies) c.unwrap.ensures in
    let front : take (i + 1) requests ≡ take i requests ++ item ∷ [] = take_more requests i item c.loop-request-test.true ∙ ap (λ (r : Request). take i requests ++ r ∷ []) (sym c.request-item.is) in
    let calls : map plain (take (i + 1) requests) ≡ map plain (take i requests) ++ plain item ∷ [] = ap (map plain) front ∙ map-append plain (take i requests) (item ∷ []) in
    let answers : map answer_of c.push.new.self.items ≡ map answer_of replies ++ answer_of reply ∷ [] = ap (map answer_of) items ∙ map-append answer_of replies (reply ∷ []) in
    let far = c.loop-request.invariant in
    let called = c.call-reply.ensures in
    let held = λ (clean : IsClean (state g.S.Store new.conn)) (has : HasTables (state g.S.Store old.conn)). called.tables clean.0 (called.clean clean).1 (λ _. clean.1) has in
    record {
      so_far = rw (calls, answers) (run_more (state_of first) (state_of old) (state_of new) (usability first.is_usable) (usability old.is_usable) (usability new.is_usable) (map plain (take i requests)) (map answer_of replies) (plain item) (answer_of reply) far.so_far c.call-reply.ensures.answers);
      sound = c.call-reply.ensures.sound;
      clean = λ clean. far.clean (called.clean clean);
      is_open = λ clean was none.
          let late : HasCleanDisk (state g.S.Store old.conn) = omega (arith, clean, called.survives.clean) in
          let both = none_shut (map answer_of replies) (answer_of reply) (sym (ap (list_any may_have_shut) answers) ∙ none) in
          called.is_open clean (far.is_open late was both.0) both.1;
      survives = survives_then (state g.S.Store first.conn) (state g.S.Store old.conn) (state g.S.Store new.conn) (λ _. ⊤) _ (λ _. ⊤) (λ _ db it. tt) (λ _ db it. tt) far.survives called.survives;
      tables = λ clean has. held clean (far.tables (called.clean clean) has).stores.schema_is;
      follow = λ clean has.
          let was = called.clean clean in
          rw (front, answers) (tables_more (state_of first) (state_of old) (state_of new) (usability first.is_usable) (usability old.is_usable) (usability new.is_usable) (take i requests) (map answer_of replies) item (answer_of reply)
          (state g.S.Store first.conn).committed (state g.S.Store old.conn).committed (state g.S.Store new.conn).committed (far.follow was has) called.answers (held clean (far.tables was has).stores.schema_is) (λ r is. called.refused clean.0 r is (λ _. clean.1)));
      provided = rw (front, answers) (starts_more (state_of first) (state_of old) (state_of new) (usability first.is_usable) (usability old.is_usable) (usability new.is_usable) (take i requests) (map answer_of replies) item (answer_of reply) far.provided c.call-reply.ensures.answers c.call-reply.ensures.sound c.call-reply.ensures.starts);
      told = omega (arith, ap length items, length-append replies (reply ∷ []), far.told, c.push.new.self.ok.0, c.loop-request.replies.ok.0);
      room = omega (arith, c.push.ensures.capacity, far.room);
    }

pub returns-clause-alone : goal.returns-clause-alone
returns-clause-alone g c =
    let d = c.args.desk.now in
    let after = c.loop-request.desk in
    let requests = c.args.requests.now in
    let answers = map answer_of c.loop-request.replies.items in
    let whole = take_all c.loop-request.request-index requests (let ge = c.loop-request-test.false in omega (arith, ge)) in
    accepted_answered (state_of d) (state_of after) (usability d.is_usable) (usability after.is_usable) requests answers
    (subst (λ (qs : List Request). AreAnswered (state_of d) (usability d.is_usable) qs answers (state_of after) (usability after.is_usable)) whole c.loop-request.invariant.so_far)

pub returns-clause-tables : goal.returns-clause-tables
returns-clause-tables g c clean was told has =
    let far = c.loop-request.invariant in
    far.tables (clean, open_after (map answer_of c.loop-request.replies.items) (state g.S.Store c.loop-request.desk.conn) told (far.is_open clean was)) has

pub returns-clause-refused : goal.returns-clause-refused
returns-clause-refused g c clean was told has =
    let d = c.args.desk.now in
    let after = c.loop-request.desk in
    let requests = c.args.requests.now in
    let answers = map answer_of c.loop-request.replies.items in
    let far = c.loop-request.invariant in
    let whole = take_all c.loop-request.request-index requests (let ge = c.loop-request-test.false in omega (arith, ge)) in
    subst (λ (qs : List Request). TablesFollow (state_of d) (usability d.is_usable) qs answers (state g.S.Store d.conn).committed (state_of after) (usability after.is_usable) (state g.S.Store after.conn).committed) whole
    (far.follow (clean, open_after answers (state g.S.Store after.conn) told (far.is_open clean was)) has)
