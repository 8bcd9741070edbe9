use Rattle.std.proofs.Common.{◌≡◌, ◌++◌, drop}
use Rattle.std.specs.List.{AllByRecursion}
use Rattle.ipp_codec.specs.Written.{attributes_written}
use Rattle.ipp_codec.specs.Grammar.{IsAttribute}
use Rattle.ipp_codec.proofs.spelling.put_attributes.Given as goal

abbrev pub invariant-loop-attribute : goal.invariant-loop-attribute
invariant-loop-attribute l =
    (l.out.items ++ attributes_written (drop l.attribute-index l.attributes) ≡ l.fn.out.items ++ attributes_written l.attributes)
    × AllByRecursion IsAttribute (drop l.attribute-index l.attributes)
