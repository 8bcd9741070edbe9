use Rattle.std.proofs.Common.{◌≡◌, ◌++◌, sym, subst, OnOk}
use Rattle.plan_audit.proofs.Slots.{starts_at, reaches}
use Rattle.plan_audit.proofs.starts.put_job_start.Goals as goal

pub returns-in-Some : goal.returns-in-Some
returns-in-Some c =
    subst (λ line. OnOk c.put_slot.result (c.put_slot.new.output.items ≡ c.args.output.now.items ++ line))
    (sym (starts_at c.args.devices.now c.args.class.now c.args.job c.in-Some.found.0 c.in-Some.found.1 c.start_of.ensures.timetable c.requires.known c.in-Some.ensures.start))
    c.put_slot.ensures

pub returns-in-None : goal.returns-in-None
returns-in-None c = absurd (reaches c.args.class.now.problem c.args.class.now.priced.way c.args.job c.requires.proved.is_way c.requires.known c.in-None.ensures.start)
