use Rattle.std.proofs.Common.{◌≡◌, ◌<◌, true, false, eqb, sym, subst, length}
use Rattle.std.specs.FinMap.{len}
use Rattle.plan_model.specs.Contents.{Contents}
use Rattle.plan_drafts.specs.Records.{Denotes}
use Rattle.plan_denotation.proofs.Denoting.{are_denoted, denoted_items, no_entry, some_entry}
use Rattle.plan_denotation.proofs.Unique.{one_plan_of_items}
use Rattle.plan_denotation.proofs.drafts.draft_of_items.Goals as goal
use Rattle.plan_denotation.proofs.drafts.draft_of_items.Goals.{then-is_empty-via-then-is_empty, then-is_empty-via-else-is_empty+then-is_empty-2}

pub returns-in_default-clause-denoted : goal.returns-in_default-clause-denoted
returns-in_default-clause-denoted c = λ records said P d. (rw c.in_default.is at c.in_ok-parts.ensures) P (denoted_items records c.args.items.now said P d)

pub returns-then-is_empty-clause-denoted : goal.returns-then-is_empty-clause-denoted
returns-then-is_empty-clause-denoted c = λ records said P d.
    let are = (rw c.in-Some.is at c.in_ok-parts.ensures).0 in
    let same = one_plan_of_items c.args.items.now c.in-Some.parts.contents P are (denoted_items records c.args.items.now said P d) in
    elim c.then-is_empty.branch [
      | then-is_empty-via-then-is_empty w ↦ no_entry c.in-Some.parts.contents.workstations (subst (λ xs. true ≡ eqb (length xs) 0) c.workstations.ensures.rows w.if-is_empty.ensures) (subst (λ (Q : Contents). 0 < len Q.workstations) (sym same) d.some_workstation)
      | then-is_empty-via-else-is_empty+then-is_empty-2 w ↦ no_entry c.in-Some.parts.contents.occurrences (subst (λ xs. true ≡ eqb (length xs) 0) w.occurrences.ensures.rows w.if-is_empty-2.ensures) (subst (λ (Q : Contents). 0 < len Q.occurrences) (sym same) d.some_occurrence)
    ]

pub returns-clause-denoted : goal.returns-clause-denoted
returns-clause-denoted c = λ records said.
    subst (λ (P : Contents). Denotes records P) (sym c.of_parts.ensures)
    (are_denoted records c.args.items.now said c.in-Some.parts.contents (rw c.in-Some.is at c.in_ok-parts.ensures).0
    (some_entry c.in-Some.parts.contents.workstations (subst (λ xs. false ≡ eqb (length xs) 0) c.workstations.ensures.rows c.if-is_empty.ensures))
    (some_entry c.in-Some.parts.contents.occurrences (subst (λ xs. false ≡ eqb (length xs) 0) c.occurrences.ensures.rows c.if-is_empty-2.ensures)))
