use Rattle.std.proofs.Common.{◌↔◌, drop}
use Rattle.std.specs.List.{AllByRecursion}
use Rattle.ipp_codec.specs.Grammar.{IsAttribute}
use Rattle.ipp_codec.proofs.spelling.are_attributes.Given as goal

abbrev pub invariant-loop-attribute : goal.invariant-loop-attribute
invariant-loop-attribute l = AllByRecursion IsAttribute l.attributes ↔ AllByRecursion IsAttribute (drop l.attribute-index l.attributes)
