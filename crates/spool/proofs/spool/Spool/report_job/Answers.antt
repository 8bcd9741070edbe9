use Rattle.std.proofs.Common.{◌∙◌, ap, sym, subst, [], Option}
use Rattle.std.specs.Option.{option_map_or}
use Rattle.spool.specs.Spooled.{SpooledRecord, reported, handed_out}
use Rattle.spool.specs.Jobs.{SpoolRecord, jobs_of}
use Rattle.spool.proofs.Entries.{changed_at, unchanged_at, found_at, keyed_set}
use Rattle.spool.proofs.Finished.{reported_keeps}
use Rattle.spool.proofs.Unfinished.{few_set}
use Rattle.spool.proofs.FinishedFirst.{first_set}
use Rattle.spool.proofs.Sound.{reported_sound, sound_set}
use Rattle.spool.proofs.Ids.{reported_id}
use Rattle.spool.proofs.OnDevice.{reported_on, stay_with, others_with}
use Rattle.spool.specs.OnDevice.{AllStay, OthersStay}
use Rattle.spool.proofs.spool.Spool.report_job.Goals as goal

pub returns-in_default-clause-jobs : goal.returns-in_default-clause-jobs
returns-in_default-clause-jobs c =
    ap (λ m. record { jobs = jobs_of m.entries; next = c.self.inside.next }) c.get_mut.follows.holds-at-none
    ∙ unchanged_at c.args.id c.number.result c.self.inside.next c.self.inside.entries.entries c.args.self.now (reported c.args.change c.args.now) c.number.ensures.value c.self.invariant.0 c.self.view_is (sym (c.in_default.ensures {u = tt}).value)

pub invariant_of-self : goal.invariant_of-self
invariant_of-self c = rw c.get_mut.follows.holds-at-none c.self.invariant

pub invariant_of-self-2 : goal.invariant_of-self-2
invariant_of-self-2 c = (
  rw (c.get_mut.follows.holds c.report.new.self).0 (keyed_set c.number.result 0 c.self.inside.next c.self.inside.entries.entries c.in-Some.spooled.now c.report.new.self c.self.invariant.0 (sym (c.in-Some.ensures {u = tt}).value) c.report.ensures.same_job),
  c.self.invariant.1,
  c.self.invariant.2,
  rw (c.get_mut.follows.holds c.report.new.self).0 (few_set (reported c.args.change c.args.now) (reported_keeps c.args.change c.args.now) c.number.result c.self.inside.next c.self.inside.entries.entries c.in-Some.spooled.now c.report.new.self c.self.invariant.0 (sym (c.in-Some.ensures {u = tt}).value) c.report.ensures.after c.self.invariant.3),
  rw (c.get_mut.follows.holds c.report.new.self).0 (sound_set (reported c.args.change c.args.now) (reported_sound c.args.change c.args.now) c.number.result c.self.inside.next c.self.inside.entries.entries c.in-Some.spooled.now c.report.new.self c.self.invariant.0 (sym (c.in-Some.ensures {u = tt}).value) c.report.ensures.after c.self.invariant.4),
  rw (c.get_mut.follows.holds c.report.new.self).0 (first_set (reported c.args.change c.args.now) (reported_keeps c.args.change c.args.now) c.self.inside.leading c.number.result c.self.inside.next c.self.inside.entries.entries c.in-Some.spooled.now c.report.new.self c.self.invariant.0 (sym (c.in-Some.ensures {u = tt}).value) c.report.ensures.after c.self.invariant.5),
)

pub returns-clause-jobs : goal.returns-clause-jobs
returns-clause-jobs c =
    rw (c.get_mut.follows.holds c.report.new.self).0
    (changed_at c.args.id c.number.result c.self.inside.next c.self.inside.entries.entries c.args.self.now c.in-Some.spooled.now c.report.new.self (reported c.args.change c.args.now) c.number.ensures.value c.self.invariant.0 c.self.view_is (sym (c.in-Some.ensures {u = tt}).value) c.report.ensures.after)

pub returns-in_default-clause-documents : goal.returns-in_default-clause-documents
returns-in_default-clause-documents c =
    c.new.ensures.items
    ∙ ap (λ (o : Option SpooledRecord). option_map_or (handed_out c.args.change) o [])
    (found_at c.args.id c.number.result c.self.inside.next c.self.inside.entries.entries c.args.self.now _ c.number.ensures.value c.self.invariant.0 c.self.view_is (c.in_default.ensures {u = tt}).value)

pub returns-clause-documents : goal.returns-clause-documents
returns-clause-documents c =
    c.report.ensures.documents
    ∙ ap (λ (o : Option SpooledRecord). option_map_or (handed_out c.args.change) o [])
    (found_at c.args.id c.number.result c.self.inside.next c.self.inside.entries.entries c.args.self.now _ c.number.ensures.value c.self.invariant.0 c.self.view_is (c.in-Some.ensures {u = tt}).value)

pub returns-in_default-clause-others : goal.returns-in_default-clause-others
returns-in_default-clause-others c =
    subst (λ (s : SpoolRecord). OthersStay c.args.id c.args.self.now.jobs s.jobs) (sym (returns-in_default-clause-jobs c)) (others_with c.args.id (reported c.args.change c.args.now) (reported_id c.args.change c.args.now) c.args.self.now.jobs)

pub returns-in_default-clause-stay : goal.returns-in_default-clause-stay
returns-in_default-clause-stay c goes_on =
    subst (λ (s : SpoolRecord). AllStay c.args.self.now.jobs s.jobs) (sym (returns-in_default-clause-jobs c)) (stay_with c.args.id (reported c.args.change c.args.now) (reported_on c.args.change c.args.now goes_on) c.args.self.now.jobs)

pub returns-clause-others : goal.returns-clause-others
returns-clause-others c =
    subst (λ (s : SpoolRecord). OthersStay c.args.id c.args.self.now.jobs s.jobs) (sym (returns-clause-jobs c)) (others_with c.args.id (reported c.args.change c.args.now) (reported_id c.args.change c.args.now) c.args.self.now.jobs)

pub returns-clause-stay : goal.returns-clause-stay
returns-clause-stay c goes_on =
    subst (λ (s : SpoolRecord). AllStay c.args.self.now.jobs s.jobs) (sym (returns-clause-jobs c)) (stay_with c.args.id (reported c.args.change c.args.now) (reported_on c.args.change c.args.now goes_on) c.args.self.now.jobs)
