use Rattle.std.proofs.Common.{◌↔◌, drop}
use Rattle.std.specs.List.{AllByRecursion}
use Rattle.ipp_codec.specs.Grammar.{IsGroup}
use Rattle.ipp_codec.proofs.spelling.are_groups.Given as goal

abbrev pub invariant-loop-group : goal.invariant-loop-group
invariant-loop-group l = AllByRecursion IsGroup l.groups ↔ AllByRecursion IsGroup (drop l.group-index l.groups)
