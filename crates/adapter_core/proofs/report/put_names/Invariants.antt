use Rattle.std.proofs.Common.{◌≡◌, ◌++◌, drop}
use Rattle.adapter_core.specs.Reports.{listed}
use Rattle.adapter_core.proofs.report.put_names.Given as goal

abbrev pub invariant-loop-name : goal.invariant-loop-name
invariant-loop-name l = l.line.items ++ listed l.separator (drop l.name-index l.names) ≡ l.fn.line.items ++ listed 32 l.names
