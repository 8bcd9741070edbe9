use Rattle.std.proofs.Common.{rules}
use Rattle.plan_problem.proofs.Filters.{none_is_able}
use Rattle.plan_problem.proofs.able_device.able.Goals as goal

pub returns-then-contains : goal.returns-then-contains
returns-then-contains c = none_is_able c.args.needs.now c.args.device c.args.now.now c.args.printer.now c.is_none.result (search rules) (search rules)
