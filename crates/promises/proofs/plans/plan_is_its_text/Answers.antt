use Rattle.print_room.specs.State.{State}
use Rattle.plan_text.proofs.Back.{plan_back}
use Rattle.promises.specs.Passes.{named_plan}
use Rattle.promises.proofs.Range.{good_in_range}
use Rattle.promises.proofs.plans.plan_is_its_text.Goals as goal

pub returns : goal.returns
returns g c = λ now plan good.
    let s : State = c.args.core.now in
    record {
      read_back = plan_back (named_plan s.settings plan) (good_in_range s now plan c.is_kept.ensures.room c.is_kept.ensures.spool good);
      checked = good.checked;
    }
