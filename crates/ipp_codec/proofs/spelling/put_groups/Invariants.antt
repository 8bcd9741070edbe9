use Rattle.std.proofs.Common.{◌≡◌, ◌++◌, drop}
use Rattle.std.specs.List.{AllByRecursion}
use Rattle.ipp_codec.specs.Written.{groups_written}
use Rattle.ipp_codec.specs.Grammar.{IsGroup}
use Rattle.ipp_codec.proofs.spelling.put_groups.Given as goal

abbrev pub invariant-loop-group : goal.invariant-loop-group
invariant-loop-group l =
    (l.out.items ++ groups_written (drop l.group-index l.groups) ≡ l.fn.out.items ++ groups_written l.groups)
    × AllByRecursion IsGroup (drop l.group-index l.groups)
