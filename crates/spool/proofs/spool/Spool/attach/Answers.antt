use Rattle.std.proofs.Common.{◌<◌, ◌≤◌, ◌+◌, refl, sym, subst, length, Option}
use Rattle.std.specs.Prelude.{IfSome}
use Rattle.base_types.specs.declared.limits.TheConstants.Limits.{JOB_DOCUMENTS, JOB_OCTETS}
use Rattle.spool.specs.Spooled.{SpooledRecord, attached}
use Rattle.spool.proofs.Entries.{changed_at, found_at, same_at, keyed_set, ok_map, err_map}
use Rattle.spool.proofs.Finished.{attached_keeps, same_keeps}
use Rattle.spool.proofs.Unfinished.{few_set, either_way}
use Rattle.spool.proofs.FinishedFirst.{first_set}
use Rattle.spool.proofs.Sound.{attached_sound, same_sound, sound_set}
use Rattle.spool.proofs.OnDevice.{others_with}
use Rattle.spool.specs.OnDevice.{OthersStay}
use Rattle.spool.specs.Jobs.{SpoolRecord}
use Rattle.spool.proofs.spool.Spool.attach.Goals as goal

pub invariant_of-self-2 : goal.invariant_of-self-2
invariant_of-self-2 c = (
  rw (c.get_mut.follows.holds c.attach.new.self).0 (keyed_set c.number.result 0 c.self.inside.next c.self.inside.entries.entries c.in-Some.spooled.now c.attach.new.self c.self.invariant.0 (sym (c.in-Some.ensures {u = tt}).value) c.attach.ensures.same_job),
  c.self.invariant.1,
  c.self.invariant.2,
  rw (c.get_mut.follows.holds c.attach.new.self).0
      (either_way c.attach.result
      (λ after. few_set (attached c.args.document c.args.now) (attached_keeps c.args.document c.args.now) c.number.result c.self.inside.next c.self.inside.entries.entries c.in-Some.spooled.now c.attach.new.self c.self.invariant.0 (sym (c.in-Some.ensures {u = tt}).value) after c.self.invariant.3)
      (λ same. few_set (λ s. s) same_keeps c.number.result c.self.inside.next c.self.inside.entries.entries c.in-Some.spooled.now c.attach.new.self c.self.invariant.0 (sym (c.in-Some.ensures {u = tt}).value) same c.self.invariant.3)
      c.attach.ensures.ok c.attach.ensures.kept),
  rw (c.get_mut.follows.holds c.attach.new.self).0
      (either_way c.attach.result
      (λ after. sound_set (attached c.args.document c.args.now) (attached_sound c.args.document c.args.now) c.number.result c.self.inside.next c.self.inside.entries.entries c.in-Some.spooled.now c.attach.new.self c.self.invariant.0 (sym (c.in-Some.ensures {u = tt}).value) after c.self.invariant.4)
      (λ same. sound_set (λ s. s) same_sound c.number.result c.self.inside.next c.self.inside.entries.entries c.in-Some.spooled.now c.attach.new.self c.self.invariant.0 (sym (c.in-Some.ensures {u = tt}).value) same c.self.invariant.4)
      c.attach.ensures.ok c.attach.ensures.kept),
  rw (c.get_mut.follows.holds c.attach.new.self).0
      (either_way c.attach.result
      (λ after. first_set (attached c.args.document c.args.now) (attached_keeps c.args.document c.args.now) c.self.inside.leading c.number.result c.self.inside.next c.self.inside.entries.entries c.in-Some.spooled.now c.attach.new.self c.self.invariant.0 (sym (c.in-Some.ensures {u = tt}).value) after c.self.invariant.5)
      (λ same. first_set (λ s. s) same_keeps c.self.inside.leading c.number.result c.self.inside.next c.self.inside.entries.entries c.in-Some.spooled.now c.attach.new.self c.self.invariant.0 (sym (c.in-Some.ensures {u = tt}).value) same c.self.invariant.5)
      c.attach.ensures.ok c.attach.ensures.kept),
)

pub returns-clause-ok : goal.returns-clause-ok
returns-clause-ok c =
    ok_map c.attach.result
    (λ after. rw (c.get_mut.follows.holds c.attach.new.self).0
    (changed_at c.args.id c.number.result c.self.inside.next c.self.inside.entries.entries c.args.self.now c.in-Some.spooled.now c.attach.new.self (attached c.args.document c.args.now) c.number.ensures.value c.self.invariant.0 c.self.view_is (sym (c.in-Some.ensures {u = tt}).value) after))
    c.attach.ensures.ok

pub returns-clause-kept : goal.returns-clause-kept
returns-clause-kept c =
    err_map c.attach.result
    (λ same. rw (c.get_mut.follows.holds c.attach.new.self).0
    (same_at c.number.result c.self.inside.next c.self.inside.entries.entries c.args.self.now c.in-Some.spooled.now c.attach.new.self c.self.invariant.0 c.self.view_is (sym (c.in-Some.ensures {u = tt}).value) same))
    c.attach.ensures.kept

pub attach-requires-clause-documents : goal.attach-requires-clause-documents
attach-requires-clause-documents c =
    (subst (λ (o : Option SpooledRecord). IfSome o (λ s. (s.job.documents < JOB_DOCUMENTS) × (s.job.octets + length c.args.document.contents ≤ JOB_OCTETS)))
    (sym (found_at c.args.id c.number.result c.self.inside.next c.self.inside.entries.entries c.args.self.now _ c.number.ensures.value c.self.invariant.0 c.self.view_is (c.in-Some.ensures {u = tt}).value))
    c.requires).0

pub attach-requires-clause-octets : goal.attach-requires-clause-octets
attach-requires-clause-octets c =
    (subst (λ (o : Option SpooledRecord). IfSome o (λ s. (s.job.documents < JOB_DOCUMENTS) × (s.job.octets + length c.args.document.contents ≤ JOB_OCTETS)))
    (sym (found_at c.args.id c.number.result c.self.inside.next c.self.inside.entries.entries c.args.self.now _ c.number.ensures.value c.self.invariant.0 c.self.view_is (c.in-Some.ensures {u = tt}).value))
    c.requires).1

pub returns-clause-others : goal.returns-clause-others
returns-clause-others c =
    ok_map c.attach.result
    (λ after. rw (c.get_mut.follows.holds c.attach.new.self).0
    (subst (λ (s : SpoolRecord). OthersStay c.args.id c.args.self.now.jobs s.jobs)
    (sym (changed_at c.args.id c.number.result c.self.inside.next c.self.inside.entries.entries c.args.self.now c.in-Some.spooled.now c.attach.new.self (attached c.args.document c.args.now) c.number.ensures.value c.self.invariant.0 c.self.view_is (sym (c.in-Some.ensures {u = tt}).value) after))
    (others_with c.args.id (attached c.args.document c.args.now) (λ x. refl) c.args.self.now.jobs)))
    c.attach.ensures.ok
