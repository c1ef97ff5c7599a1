use Rattle.std.proofs.Common.{◌≡◌, ◌<◌, true, false, eqb, sym, subst, refl, true≢false, length}
use Rattle.std.specs.FinMap.{len}
use Rattle.plan_model.specs.Contents.{Contents}
use Rattle.plan_denotation.proofs.Denoting.{no_entry, some_entry}
use Rattle.plan_denotation.proofs.Unique.{one_plan_of_items}
use Rattle.record_faults.proofs.denoting.items_make_some.Goals as goal

pub returns-then-is_empty : goal.returns-then-is_empty
returns-then-is_empty c =
    let are = rw c.in-Some.is at c.in_ok-contents.ensures in (
      λ e. absurd (true≢false (sym e)),
      λ m.
          let same = one_plan_of_items c.args.items.now c.in-Some.contents m.0 are m.1 in
          absurd (no_entry c.in-Some.contents.workstations (subst (λ xs. true ≡ eqb (length xs) 0) c.workstations.ensures.rows c.if-is_empty.ensures) (subst (λ (Q : Contents). 0 < len Q.workstations) (sym same) m.2)),
    )

pub returns-then-is_empty-2 : goal.returns-then-is_empty-2
returns-then-is_empty-2 c =
    let are = rw c.in-Some.is at c.in_ok-contents.ensures in (
      λ e. absurd (true≢false (sym e)),
      λ m.
          let same = one_plan_of_items c.args.items.now c.in-Some.contents m.0 are m.1 in
          absurd (no_entry c.in-Some.contents.occurrences (subst (λ xs. true ≡ eqb (length xs) 0) c.occurrences.ensures.rows c.if-is_empty-2.ensures) (subst (λ (Q : Contents). 0 < len Q.occurrences) (sym same) m.3)),
    )

pub returns : goal.returns
returns c =
    let are = rw c.in-Some.is at c.in_ok-contents.ensures in
    let stations = some_entry c.in-Some.contents.workstations (subst (λ xs. false ≡ eqb (length xs) 0) c.workstations.ensures.rows c.if-is_empty.ensures) in
    let occurrences = some_entry c.in-Some.contents.occurrences (subst (λ xs. false ≡ eqb (length xs) 0) c.occurrences.ensures.rows c.if-is_empty-2.ensures) in
    (λ _. (c.in-Some.contents, are, stations, occurrences), λ _. refl)
