use Rattle.std.proofs.Common.{◌≡◌, ◌<◌, ◌≤◌, ◌++◌, List, ap, length, map, take, drop, arith, sym, subst}
use Rattle.std.proofs.lemmas.List.{take_all, drop_all, append-nil}
use Rattle.spool.specs.Jobs.{SpoolRecord}
use Rattle.spool.specs.OnDevice.{AllStay}
use Rattle.spool.proofs.OnDevice.{marked_on, stay_map}
use Rattle.spool.specs.Calls.{marked_by}
use Rattle.spool.specs.Spooled.{SpooledRecord}
use Rattle.spool.proofs.MappedJobs.{changed_more}
use Rattle.spool.proofs.FinishedFirst.{marked_after}
use Rattle.spool.proofs.spool.Spool.mark.Goals as goal

pub loop-place-init : goal.loop-place-init
loop-place-init c =
    let jobs = c.args.self.now.jobs in
    sym (ap (λ (js : List SpooledRecord). record c.args.self.now { jobs = js }) (marked_after c.args.printers.now c.args.stranded.now c.leading-place.result jobs c.leading-place.ensures.finished))

pub loop-place-preserved : goal.loop-place-preserved
loop-place-preserved c =
    let inside : c.loop-place.place < length c.args.self.now.jobs = omega (arith, c.loop-place-test.true, c.len-place-end.ensures) in
    changed_more (marked_by c.args.printers.now c.args.stranded.now) c.args.self.now c.loop-place.self c.mark_by.new.self c.loop-place.place inside c.loop-place.invariant c.mark_by.ensures

pub returns-clause-stay : goal.returns-clause-stay
returns-clause-stay c =
    let f = marked_by c.args.printers.now c.args.stranded.now in
    let jobs = c.args.self.now.jobs in
    let place = c.loop-place.place in
    let end : length jobs ≤ place = omega (arith, c.loop-place-test.false, c.len-place-end.ensures) in
    let all : map f (take place jobs) ++ drop place jobs ≡ map f jobs = rw (take_all place jobs end, drop_all place jobs end) (append-nil (map f jobs)) in
    subst (λ (s : SpoolRecord). AllStay jobs s.jobs) (sym c.loop-place.invariant) (rw all (stay_map f (marked_on c.args.printers.now c.args.stranded.now) jobs))
