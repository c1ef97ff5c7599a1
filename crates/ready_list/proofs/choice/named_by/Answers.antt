use Rattle.std.proofs.Common.{◌≡◌, inr, true, false, sym, ◌∙◌, subst, List, ◌+◌, drop}
use Rattle.std.proofs.lemmas.List.{drop_all}
use Rattle.std.proofs.lemmas.Result.{err_from_is_err_and}
use Rattle.ready_list.specs.declared.entry.ReadyEntry.{ReadyEntry}
use Rattle.ready_list.specs.Entries.{is_automatic}
use Rattle.ready_list.proofs.Turns.{GoesOn, next_left, not_asked, names, passes, stops, ends}
use Rattle.ready_list.proofs.choice.named_by.Goals as goal
use Rattle.ready_list.proofs.choice.named_by.Goals.{then-starts_operations+in_ok-name+then-branch+in_ok-add, else-starts_operations, else-starts_operations-via-then-starts_operations+in_ok-name+else-branch, else-starts_operations-via-else-starts_operations}

pub loop-entry-preserved : goal.loop-entry-preserved
loop-entry-preserved g c =
    let answers = g.G.Gate.answers in
    let refuses = g.G.Gate.refuses in
    let all = c.args.entries.now in
    let e = c.entry-item.result in
    let left : List ReadyEntry = drop (c.loop-entry.entry-index + 1) all in
    let now = c.loop-entry.gate in
    let named = c.loop-entry.named.items in
    let start = c.args.gate.now in
    let source = c.loop-entry.invariant.source in
    let so_far = next_left answers refuses all start c.loop-entry.entry-index e now named c.loop-entry-test.true c.entry-item.is c.loop-entry.invariant.goes_on in
    elim c.if-starts_operations.branch [
      | then-starts_operations+in_ok-name+then-branch+in_ok-add w ↦
          let on : is_automatic e.attr ≡ true = sym c.starts_operations.ensures ∙ w.if-starts_operations.true in
          let said : answers now e true w.name.new.self = subst (λ b. answers now e b w.name.new.self) w.if-branch.true w.in_ok-name.ensures.answered in
          rw (w.gate-is, w.named-is, w.in_ok-add.ensures) (record { source = w.in_ok-name.ensures.source ∙ source; goes_on = names answers refuses all start e left now named so_far on w.name.new.self said })
      | else-starts_operations w ↦ elim w.else-starts_operations.branch [
        | else-starts_operations-via-then-starts_operations+in_ok-name+else-branch w' ↦
            let on : is_automatic e.attr ≡ true = sym c.starts_operations.ensures ∙ w'.if-starts_operations.true in
            let said : answers now e false w'.name.new.self = subst (λ b. answers now e b w'.name.new.self) w'.if-branch.false w'.in_ok-name.ensures.answered in
            rw (w.gate-is, w.named-is, w'.gate-is) (record { source = w'.in_ok-name.ensures.source ∙ source; goes_on = passes answers refuses all start e left now named so_far on w'.name.new.self said })
        | else-starts_operations-via-else-starts_operations w' ↦
            let off : is_automatic e.attr ≡ false = sym c.starts_operations.ensures ∙ w'.if-starts_operations.false in
            rw (w.gate-is, w.named-is, w'.gate-is) (record { source = source; goes_on = not_asked answers refuses all start e left now named so_far off })
      ]
    ]

pub returns-clause-named : goal.returns-clause-named
returns-clause-named g c =
    ends g.G.Gate.answers g.G.Gate.refuses c.args.entries.now c.args.gate.now c.loop-entry.gate c.loop-entry.named.items
    (subst (λ (es : List ReadyEntry). GoesOn g.G.Gate.answers g.G.Gate.refuses c.args.entries.now es c.args.gate.now c.loop-entry.gate c.loop-entry.named.items) (drop_all c.loop-entry.entry-index c.args.entries.now c.loop-entry-test.false) c.loop-entry.invariant.goes_on)

pub returns-in_err-name-clause-refused : goal.returns-in_err-name-clause-refused
returns-in_err-name-clause-refused g c =
    let answers = g.G.Gate.answers in
    let refuses = g.G.Gate.refuses in
    let all = c.args.entries.now in
    let start = c.args.gate.now in
    let e = c.entry-item.result in
    let left : List ReadyEntry = drop (c.loop-entry.entry-index + 1) all in
    let so_far = next_left answers refuses all start c.loop-entry.entry-index e c.loop-entry.gate c.loop-entry.named.items c.loop-entry-test.true c.entry-item.is c.loop-entry.invariant.goes_on in
    let on : is_automatic e.attr ≡ true = sym c.starts_operations.ensures ∙ c.if-starts_operations.true in
    let p = err_from_is_err_and c.from_residual.result c.from_residual.ensures.1 in
    rw (p.1, p.2) (inr (stops answers refuses all start e left c.loop-entry.gate c.loop-entry.named.items so_far on c.in_err-name.field-0.0 c.in_err-name.ensures.refused))
