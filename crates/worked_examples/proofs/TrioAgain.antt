-- A tick that is made again names nothing: both servers are given out.
use Rattle.std.proofs.Common.{arith, ◌≡◌, inl, refl, sym, ◌∙◌, ap, subst, pos, [], ◌∷◌, List, Some}
use Rattle.std.specs.FinMap.{find, from_entries, get, get-from_entries}
use Rattle.plan_basics.specs.declared.keys.OpKey.{OpKey}
use Rattle.plan_basics.specs.Keys.{operation_cmp, operation_cmp_total, operation_cmp-IsAntisymmetric}
use Rattle.status_rules.specs.declared.Mark.TheVariants as mark
use Rattle.status_rules.specs.declared.Status.TheVariants as status
use Rattle.plan_model.specs.Contents.{Contents, Operation}
use Rattle.plan_model.specs.Ready.{IsChosen, IsEntry, named, with_mark}
use Rattle.plan_model.specs.Starts.{IsAllowedToStart}
use Rattle.plan_model.specs.Status.{IsReady}
use Rattle.plan_model.proofs.Looks.{as_named}
use Rattle.plan_records.specs.declared.Request.{Request}
use Rattle.plan_records.specs.declared.What.TheVariants as what
use Rattle.plan_records.specs.Answer.{accepted}
use Rattle.plan_records.specs.Step.{Step}
use Rattle.plan_laws.proofs.Kept.{named_none}
use Rattle.worked_examples.specs.Day.{evening, loaded_at, morning}
use Rattle.worked_examples.specs.Statements.{TickTwice}
use Rattle.worked_examples.specs.Trio.{Terms, aaa, bbb, by_latest_start, ccc, four, half_past_three, occurrence_by, operation_by, terms, trio_operations}
use Rattle.worked_examples.proofs.Entries.{one_ready}
use Rattle.worked_examples.proofs.Facts.{marked_is_not_ready}
use Rattle.worked_examples.proofs.Lists.{revise_written}
use Rattle.worked_examples.proofs.Literal.{each_entry}
use Rattle.worked_examples.proofs.Starts.{starts_last}
use Rattle.worked_examples.proofs.Steps.{tick_names}
use Rattle.worked_examples.proofs.TrioChoice.{chosen_by}
use Rattle.worked_examples.proofs.TrioList.{arrives_then, found_at, key_of, no_pair, no_server_then, occurrence_at}
use Rattle.worked_examples.proofs.TrioRows.{tick_that_names}

-- the three on their terms
abbrev terms_of_aaa : Terms
terms_of_aaa = terms 5 four 30 0

abbrev terms_of_bbb : Terms
terms_of_bbb = terms 5 half_past_three 30 0

abbrev terms_of_ccc : Terms
terms_of_ccc = terms 9 morning 30 0

-- the two that the first tick names
abbrev both : List OpKey
both = ccc ∷ bbb ∷ []

-- the three operations once CCC's and BBB's are named
abbrev operations_then : List (OpKey × Operation)
operations_then = (aaa, operation_by terms_of_aaa) ∷ (bbb, with_mark mark.Named (operation_by terms_of_bbb)) ∷ (ccc, with_mark mark.Named (operation_by terms_of_ccc)) ∷ []

-- the plan with them named
abbrev after : Contents
after = named both by_latest_start

written : after.operations ≡ from_entries operations_then
written = revise_written operation_cmp_total operation_cmp-IsAntisymmetric (as_named both) (trio_operations terms_of_aaa terms_of_bbb terms_of_ccc)

found_then : (o : OpKey) → get after.operations o ≡ find operation_cmp o operations_then
found_then o = ap (λ m. get m o) written ∙ get-from_entries operation_cmp_total operations_then o

of_three : (Q : OpKey → Operation → Type 0) → Q aaa (operation_by terms_of_aaa) → Q bbb (with_mark mark.Named (operation_by terms_of_bbb)) → Q ccc (with_mark mark.Named (operation_by terms_of_ccc))
    → (o : OpKey) (op : Operation) → get after.operations o ≡ Some op → Q o op
of_three Q a b c o op is = each_entry operation_cmp_total operation_cmp-IsAntisymmetric operations_then Q (a, (b, (c, tt))) o op (sym (ap (λ m. get m o) written) ∙ is)

aaa_is : get by_latest_start.operations aaa ≡ Some (operation_by terms_of_aaa)
aaa_is = found_at terms_of_aaa terms_of_bbb terms_of_ccc aaa

-- AAA's is still ready
aaa_entry : IsEntry after (key_of aaa terms_of_aaa)
aaa_entry = (
  inl (arrives_then terms_of_aaa terms_of_bbb terms_of_ccc both aaa terms_of_aaa refl aaa_is),
  starts_last after aaa (operation_by terms_of_aaa) (found_then aaa) (λ b h. no_pair terms_of_aaa terms_of_bbb terms_of_ccc aaa b h),
  (operation_by terms_of_aaa, found_then aaa, refl),
  (occurrence_by terms_of_aaa, occurrence_at terms_of_aaa terms_of_bbb terms_of_ccc aaa, refl),
)

only_aaa : (o : OpKey) (op : Operation) → get after.operations o ≡ Some op → IsReady after o → o ≡ aaa
only_aaa = of_three (λ o op. IsReady after o → o ≡ aaa)
    (λ ready. refl)
    (λ ready. absurd (marked_is_not_ready after bbb (with_mark mark.Named (operation_by terms_of_bbb)) status.Started (found_then bbb) refl (λ e. cc) (λ e. cc) (λ e. cc) ready))
    (λ ready. absurd (marked_is_not_ready after ccc (with_mark mark.Named (operation_by terms_of_ccc)) status.Started (found_then ccc) refl (λ e. cc) (λ e. cc) (λ e. cc) ready))

-- and finds no server
passed : IsAllowedToStart (named [] after) aaa evening → ⊥
passed may = no_server_then terms_of_aaa terms_of_bbb terms_of_ccc both aaa terms_of_aaa refl aaa_is (omega arith) (subst (λ P. IsAllowedToStart P aaa evening) (named_none after) may)

nothing_chosen : IsChosen after evening []
nothing_chosen = chosen_by after evening (key_of aaa terms_of_aaa ∷ []) [] (one_ready after (key_of aaa terms_of_aaa) aaa_entry only_aaa) refl tt tt (λ left. passed, tt)

-- the tick
abbrev ticking : Request
ticking = record { at = pos evening; what = what.Tick }

tick_again : Step (loaded_at evening after) ticking (accepted []) (loaded_at evening after)
tick_again = subst (λ P. Step (loaded_at evening after) ticking (accepted []) (loaded_at evening P)) (named_none after) (tick_names after evening (omega arith) [] nothing_chosen evening (omega arith))

pub tick_twice : TickTwice
tick_twice = (tick_that_names, tick_again)
