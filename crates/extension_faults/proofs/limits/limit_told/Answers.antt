use Rattle.std.proofs.Common.{◌+◌, arith, ap}
use Rattle.extension_faults.proofs.Excess.{counted_within, few_there, none_there, one_there}
use Rattle.extension_faults.proofs.limits.limit_told.Goals as goal

pub overflow_add-count : goal.overflow_add-count
overflow_add-count c =
    let within = counted_within c.args.group.now c.args.said.now in
    let is = c.count_of.ensures in
    omega (arith, within, is, c.requires)

pub returns-in_default : goal.returns-in_default
returns-in_default c = λ f. none_there c.args.said.now c.args.group.now c.args.staying c.last_of.result c.in_default.is c.last_of.ensures f

pub returns-then-count-most : goal.returns-then-count-most
returns-then-count-most c = λ f.
    few_there c.args.said.now c.args.group.now c.args.staying (c.args.staying + c.count_of.result) c.most-most.result (ap (λ n. c.args.staying + n) c.count_of.ensures) c.most-most.ensures c.if-count-most.true f

pub returns : goal.returns
returns c =
    one_there c.args.said.now c.args.group.now c.args.staying (c.args.staying + c.count_of.result) c.most-most.result c.in-Some.place c.args.faults.now.items c.extend_from_slice.new.self.items
    (ap (λ n. c.args.staying + n) c.count_of.ensures) c.most-most.ensures c.if-count-most.false c.in-Some.ensures c.in_ok-extend_from_slice.ensures.items
