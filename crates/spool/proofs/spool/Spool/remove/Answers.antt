use Rattle.std.proofs.Common.{◌∙◌, ap, List, remove}
use Rattle.spool.specs.Spooled.{SpooledRecord}
use Rattle.spool.specs.Jobs.{SpoolRecord}
use Rattle.spool.proofs.Entries.{keyed_remove, jobs_remove}
use Rattle.spool.proofs.Unfinished.{few_removed}
use Rattle.spool.proofs.FinishedFirst.{first_removed}
use Rattle.spool.proofs.Sound.{sound_removed}
use Rattle.spool.proofs.spool.Spool.remove.Goals as goal

pub invariant_of-self : goal.invariant_of-self
invariant_of-self c =
    (rw c.shift_remove_index-removed.ensures.entries (keyed_remove c.args.place 0 c.self.inside.next c.self.inside.entries.entries c.self.invariant.0), c.self.invariant.1, c.self.invariant.2, rw c.shift_remove_index-removed.ensures.entries (few_removed c.args.place c.self.inside.entries.entries c.self.invariant.3), rw c.shift_remove_index-removed.ensures.entries (sound_removed c.args.place c.self.inside.entries.entries c.self.invariant.4), rw c.shift_remove_index-removed.ensures.entries (first_removed c.self.inside.leading c.leading_without-self-inside.result c.args.place c.self.inside.entries.entries c.leading_without-self-inside.ensures.among c.leading_without-self-inside.ensures.tail c.self.invariant.5))

pub returns : goal.returns
returns c =
    rw c.shift_remove_index-removed.ensures.entries
    (ap (λ (js : List SpooledRecord). record { jobs = js; next = c.self.inside.next }) (jobs_remove c.args.place c.self.inside.entries.entries)
    ∙ ap (λ (s : SpoolRecord). record { jobs = remove s.jobs c.args.place; next = s.next }) c.self.view_is)
