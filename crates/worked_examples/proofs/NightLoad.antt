-- The night's plan is loaded at 21:00, and nothing is named.
use Rattle.std.proofs.Common.{arith, ◌≡◌, inl, refl, sym, ◌∙◌, ap, pos, true, false, true≢false, [], ◌∷◌, Some}
use Rattle.std.specs.FinMap.{get, get-from_entries}
use Rattle.plan_basics.specs.declared.Attr.TheVariants as attribute
use Rattle.plan_basics.specs.declared.keys.OpKey.{OpKey}
use Rattle.plan_basics.specs.Keys.{occurrence_cmp_total}
use Rattle.ready_list.specs.declared.ReadyKey.{ReadyKey}
use Rattle.plan_model.specs.Contents.{Operation, attribute_at}
use Rattle.plan_model.specs.Ready.{IsChosen, IsEntry, IsOnAutomatic, named}
use Rattle.plan_model.specs.Starts.{IsAllowedToStart}
use Rattle.plan_model.specs.Status.{IsReady}
use Rattle.std.proofs.lemmas.Option.{same_Some}
use Rattle.worked_examples.specs.Day.{morning}
use Rattle.worked_examples.specs.Night.{loading, night, night_occurrences, payroll, payroll_at}
use Rattle.worked_examples.specs.Statements.{LoadOfTheNight}
use Rattle.worked_examples.proofs.Entries.{one_ready}
use Rattle.worked_examples.proofs.Facts.{waiting_is_not_ready}
use Rattle.worked_examples.proofs.Lists.{each_split}
use Rattle.worked_examples.proofs.NightDraft.{night_is_draft, of_five}
use Rattle.worked_examples.proofs.NightRefusals.{on_setp}
use Rattle.worked_examples.proofs.NightReports.{found_at, p5, p10, p20, p30, p40, statuses_when_loaded}
use Rattle.worked_examples.proofs.NightStarts.{latest_5}
use Rattle.worked_examples.proofs.Steps.{load_names}

abbrev first_key : ReadyKey
first_key = record { latest = pos 27437939; priority = 5; duration = 10; op = payroll_at 5 }

first_entry : IsEntry night first_key
first_entry = (inl statuses_when_loaded.0, latest_5, (p5, found_at (payroll_at 5), refl), (record { priority = 5; deadline = morning }, get-from_entries occurrence_cmp_total night_occurrences payroll, refl))

-- the others wait
only_first : (o : OpKey) (op : Operation) → get night.operations o ≡ Some op → IsReady night o → o ≡ payroll_at 5
only_first = of_five (λ o op. IsReady night o → o ≡ payroll_at 5)
    (λ ready. refl)
    (λ ready. absurd (waiting_is_not_ready night (payroll_at 10) p10 (found_at (payroll_at 10)) refl statuses_when_loaded.1 ready))
    (λ ready. absurd (waiting_is_not_ready night (payroll_at 20) p20 (found_at (payroll_at 20)) refl statuses_when_loaded.2 ready))
    (λ ready. absurd (waiting_is_not_ready night (payroll_at 30) p30 (found_at (payroll_at 30)) refl statuses_when_loaded.3 ready))
    (λ ready. absurd (waiting_is_not_ready night (payroll_at 40) p40 (found_at (payroll_at 40)) refl statuses_when_loaded.4 ready))

-- SETP isn't automatic
not_automatic : IsOnAutomatic night (payroll_at 5) → ⊥
not_automatic h =
    let e : h.0 ≡ p5 = same_Some h.0 p5 (sym h.1 ∙ found_at (payroll_at 5)) in
    let a : attribute.StartAndCompletion ≡ attribute.Automatic = same_Some attribute.StartAndCompletion attribute.Automatic (sym on_setp ∙ ap (λ op. attribute_at night op.workstation) (sym e) ∙ h.2) in
    cc

none_chosen : IsChosen night loading []
none_chosen = record {
  ready = first_key ∷ [];
  is_ready_list = one_ready night first_key first_entry only_first;
  choice = record {
    in_order = refl;
    on_automatic = λ o has. absurd (let e : true ≡ false = sym has in true≢false e);
    members = λ before after o split. each_split [] (λ bs x. IsAllowedToStart (named bs night) x loading) tt before after o split;
    others = λ before after o split on left. absurd (each_split (payroll_at 5 ∷ []) (λ bs x. IsOnAutomatic night x → ⊥) (not_automatic, tt) before after o split on);
  };
}

pub load_of_the_night : LoadOfTheNight
load_of_the_night = load_names night loading (omega arith) [] none_chosen night_is_draft
