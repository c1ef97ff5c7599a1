use Rattle.std.proofs.Common.{FitsSigned, inl, to_z-of_z, w64}
use Rattle.plan_records.specs.Answer.{accepted, refused}
use Rattle.desk_tables.specs.Desk.{state_of, usability}
use Rattle.command_desks.proofs.NewDesks.{loaded}
use Rattle.command_desks.proofs.loaded.desk_with.Goals as goal

pub returns-in-Accepted-clause-loaded : goal.returns-in-Accepted-clause-loaded
returns-in-Accepted-clause-loaded g c =
    let fits : FitsSigned w64 c.args.at = c.ranges.at in (
      c.in-Accepted.named.items,
      loaded (state_of c.args.desk) c.args.desk.is_usable c.args.at c.args.draft (accepted c.in-Accepted.named.items) (state_of c.load_reply.new.desk)
          (usability c.load_reply.new.desk.is_usable) c.requires.empty c.requires.usable (simp to_z-of_z at c.in-Accepted.ensures),
    )

pub returns-in-Refused-clause-refused : goal.returns-in-Refused-clause-refused
returns-in-Refused-clause-refused g c =
    let fits : FitsSigned w64 c.args.at = c.ranges.at in
    inl (
      state_of c.load_reply.new.desk,
      loaded (state_of c.args.desk) c.args.desk.is_usable c.args.at c.args.draft (refused c.in-Refused.refusal) (state_of c.load_reply.new.desk)
          (usability c.load_reply.new.desk.is_usable) c.requires.empty c.requires.usable (simp to_z-of_z at c.in-Refused.ensures),
    )
