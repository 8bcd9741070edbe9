use Rattle.std.proofs.Common.{sym}
use Rattle.spool.specs.Calls.{marked_by}
use Rattle.spool.proofs.Entries.{changed_place, keyed_at}
use Rattle.spool.proofs.Finished.{marked_keeps}
use Rattle.spool.proofs.Unfinished.{few_at}
use Rattle.spool.proofs.FinishedFirst.{first_at}
use Rattle.spool.proofs.Sound.{marked_sound, sound_at}
use Rattle.spool.proofs.spool.Spool.mark_by.Goals as goal

pub invariant_of-self-2 : goal.invariant_of-self-2
invariant_of-self-2 c = (
  keyed_at c.args.place 0 c.self.inside.next c.self.inside.entries.entries c.in-Some.spooled.now c.mark_by.new.self c.self.invariant.0 (sym (c.in-Some.ensures {u = tt}).value) c.mark_by.ensures.same_job,
  c.self.invariant.1,
  c.self.invariant.2,
  few_at (marked_by c.args.printers.now c.args.stranded.now) (marked_keeps c.args.printers.now c.args.stranded.now) c.args.place c.self.inside.entries.entries c.in-Some.spooled.now c.mark_by.new.self (sym (c.in-Some.ensures {u = tt}).value) c.mark_by.ensures.after c.self.invariant.3,
  sound_at (marked_by c.args.printers.now c.args.stranded.now) (marked_sound c.args.printers.now c.args.stranded.now) c.args.place c.self.inside.entries.entries c.in-Some.spooled.now c.mark_by.new.self (sym (c.in-Some.ensures {u = tt}).value) c.mark_by.ensures.after c.self.invariant.4,
  first_at (marked_by c.args.printers.now c.args.stranded.now) (marked_keeps c.args.printers.now c.args.stranded.now) c.self.inside.leading c.args.place c.self.inside.entries.entries c.in-Some.spooled.now c.mark_by.new.self (sym (c.in-Some.ensures {u = tt}).value) c.mark_by.ensures.after c.self.invariant.5,
)

pub returns : goal.returns
returns c =
    changed_place c.args.place c.self.inside.next c.self.inside.entries.entries c.args.self.now c.in-Some.spooled.now c.mark_by.new.self (marked_by c.args.printers.now c.args.stranded.now) c.self.view_is (sym (c.in-Some.ensures {u = tt}).value) c.mark_by.ensures.after
