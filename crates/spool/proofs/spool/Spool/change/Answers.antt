use Rattle.std.proofs.Common.{◌∙◌, ap, sym, subst, Option}
use Rattle.spool.specs.Spooled.{SpooledRecord, changed}
use Rattle.spool.specs.Calls.{allows}
use Rattle.spool.specs.Jobs.{SpoolRecord, jobs_of}
use Rattle.spool.proofs.Entries.{changed_at, unchanged_at, found_at, same_at, keyed_set, err_map}
use Rattle.spool.proofs.Finished.{changed_keeps}
use Rattle.spool.proofs.Unfinished.{few_set}
use Rattle.spool.proofs.FinishedFirst.{first_set}
use Rattle.spool.proofs.Sound.{changed_sound, sound_set}
use Rattle.spool.proofs.OnDevice.{changed_on, stay_with}
use Rattle.spool.specs.OnDevice.{AllStay}
use Rattle.spool.proofs.spool.Spool.change.Goals as goal

pub returns-in_default-clause-after : goal.returns-in_default-clause-after
returns-in_default-clause-after c =
    ap (λ m. record { jobs = jobs_of m.entries; next = c.self.inside.next }) c.get_mut.follows.holds-at-none
    ∙ unchanged_at c.args.id c.number.result c.self.inside.next c.self.inside.entries.entries c.args.self.now (changed c.args.change c.args.now) c.number.ensures.value c.self.invariant.0 c.self.view_is (sym (c.in_default.ensures {u = tt}).value)

pub invariant_of-self : goal.invariant_of-self
invariant_of-self c = rw c.get_mut.follows.holds-at-none c.self.invariant

pub invariant_of-self-2 : goal.invariant_of-self-2
invariant_of-self-2 c = (
  rw (c.get_mut.follows.holds c.change.new.self).0 (keyed_set c.number.result 0 c.self.inside.next c.self.inside.entries.entries c.in-Some.spooled.now c.change.new.self c.self.invariant.0 (sym (c.in-Some.ensures {u = tt}).value) c.change.ensures.same_job),
  c.self.invariant.1,
  c.self.invariant.2,
  rw (c.get_mut.follows.holds c.change.new.self).0 (few_set (changed c.args.change c.args.now) (changed_keeps c.args.change c.args.now) c.number.result c.self.inside.next c.self.inside.entries.entries c.in-Some.spooled.now c.change.new.self c.self.invariant.0 (sym (c.in-Some.ensures {u = tt}).value) c.change.ensures.after c.self.invariant.3),
  rw (c.get_mut.follows.holds c.change.new.self).0 (sound_set (changed c.args.change c.args.now) (changed_sound c.args.change c.args.now) c.number.result c.self.inside.next c.self.inside.entries.entries c.in-Some.spooled.now c.change.new.self c.self.invariant.0 (sym (c.in-Some.ensures {u = tt}).value) c.change.ensures.after c.self.invariant.4),
  rw (c.get_mut.follows.holds c.change.new.self).0 (first_set (changed c.args.change c.args.now) (changed_keeps c.args.change c.args.now) c.self.inside.leading c.number.result c.self.inside.next c.self.inside.entries.entries c.in-Some.spooled.now c.change.new.self c.self.invariant.0 (sym (c.in-Some.ensures {u = tt}).value) c.change.ensures.after c.self.invariant.5),
)

pub returns-clause-after : goal.returns-clause-after
returns-clause-after c =
    rw (c.get_mut.follows.holds c.change.new.self).0
    (changed_at c.args.id c.number.result c.self.inside.next c.self.inside.entries.entries c.args.self.now c.in-Some.spooled.now c.change.new.self (changed c.args.change c.args.now) c.number.ensures.value c.self.invariant.0 c.self.view_is (sym (c.in-Some.ensures {u = tt}).value) c.change.ensures.after)

pub returns-in_default-clause-kept : goal.returns-in_default-clause-kept
returns-in_default-clause-kept c =
    ap (λ m. record { jobs = jobs_of m.entries; next = c.self.inside.next }) c.get_mut.follows.holds-at-none ∙ c.self.view_is

pub returns-in_default-clause-possible : goal.returns-in_default-clause-possible
returns-in_default-clause-possible c =
    ap (λ (o : Option SpooledRecord). allows c.args.change c.args.now o)
    (found_at c.args.id c.number.result c.self.inside.next c.self.inside.entries.entries c.args.self.now _ c.number.ensures.value c.self.invariant.0 c.self.view_is (c.in_default.ensures {u = tt}).value)

pub returns-clause-possible : goal.returns-clause-possible
returns-clause-possible c =
    c.change.ensures.possible
    ∙ ap (λ (o : Option SpooledRecord). allows c.args.change c.args.now o)
    (found_at c.args.id c.number.result c.self.inside.next c.self.inside.entries.entries c.args.self.now _ c.number.ensures.value c.self.invariant.0 c.self.view_is (c.in-Some.ensures {u = tt}).value)

pub returns-clause-kept : goal.returns-clause-kept
returns-clause-kept c =
    err_map c.change.result
    (λ same. rw (c.get_mut.follows.holds c.change.new.self).0
    (same_at c.number.result c.self.inside.next c.self.inside.entries.entries c.args.self.now c.in-Some.spooled.now c.change.new.self c.self.invariant.0 c.self.view_is (sym (c.in-Some.ensures {u = tt}).value) same))
    c.change.ensures.kept

pub returns-in_default-clause-stay : goal.returns-in_default-clause-stay
returns-in_default-clause-stay c =
    subst (λ (s : SpoolRecord). AllStay c.args.self.now.jobs s.jobs) (sym (returns-in_default-clause-after c)) (stay_with c.args.id (changed c.args.change c.args.now) (changed_on c.args.change c.args.now) c.args.self.now.jobs)

pub returns-clause-stay : goal.returns-clause-stay
returns-clause-stay c =
    subst (λ (s : SpoolRecord). AllStay c.args.self.now.jobs s.jobs) (sym (returns-clause-after c)) (stay_with c.args.id (changed c.args.change c.args.now) (changed_on c.args.change c.args.now) c.args.self.now.jobs)
