use Rattle.std.proofs.Common.{refl, sym, ap, ◌∙◌}
use Rattle.plan_shows.specs.Values.{IsListed}
use Rattle.plan_shows.specs.Views.{IsOfOccurrence, IsStarted}
use Rattle.plan_reports.specs.Texts.{errors_text, late_text, occurrences_text, ready_text}
use Rattle.plan_reports.proofs.OneText.{one_list, one_list_of_errors, one_list_of_late, one_list_of_occurrences, one_ready}
use Rattle.plan_reports.proofs.laws.one_text.Goals as goal

pub returns-clause-ready : goal.returns-clause-ready
returns-clause-ready c = λ P sound w a b x y. x.2 ∙ ap (ready_text w P.clock) (one_ready P.contents sound.contents.valid w x.0 y.0 x.1 y.1) ∙ sym y.2

pub returns-clause-occurrences : goal.returns-clause-occurrences
returns-clause-occurrences c = λ P sound a b x y. x.2 ∙ ap (occurrences_text P.clock) (one_list_of_occurrences P.contents sound.contents.valid x.0 y.0 x.1 y.1) ∙ sym y.2

pub returns-clause-errors : goal.returns-clause-errors
returns-clause-errors c = λ P sound a b x y. x.2 ∙ ap (errors_text P.clock) (one_list_of_errors P.contents sound.contents.valid x.0 y.0 x.1 y.1) ∙ sym y.2

pub returns-clause-late : goal.returns-clause-late
returns-clause-late c = λ P sound a b x y. x.2 ∙ ap (late_text P.clock) (one_list_of_late P sound.contents.valid x.0 y.0 x.1 y.1) ∙ sym y.2

pub returns-clause-started : goal.returns-clause-started
returns-clause-started c = λ P sound T a b x y. rw (x.2, one_list P.contents sound.contents.valid (IsStarted P.contents) x.0 y.0 x.1 y.1, y.2) refl

pub returns-clause-operations : goal.returns-clause-operations
returns-clause-operations c = λ P sound T k a b x y. rw (x.2, one_list P.contents sound.contents.valid (IsOfOccurrence P.contents k) x.0 y.0 x.1 y.1, y.2) refl

pub returns-clause-listed : goal.returns-clause-listed
returns-clause-listed c = λ P sound w a b x y. rw (x.2, one_list P.contents sound.contents.valid (IsListed w P.contents) x.0 y.0 x.1 y.1, y.2) refl
