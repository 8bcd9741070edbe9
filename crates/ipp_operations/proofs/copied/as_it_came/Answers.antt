use Rattle.std.proofs.Common.{sym, subst}
use Rattle.ipp_codec.specs.Grammar.{IsAttribute}
use Rattle.ipp_codec.specs.Views.{attribute_shown, group_shown}
use Rattle.ipp_operations.proofs.Spelt.{shown_is, attribute_is}
use Rattle.ipp_operations.proofs.copied.as_it_came.Goals as goal

pub alone-requires : goal.alone-requires
alone-requires c =
    subst IsAttribute (sym (c.in_ok-to_owned-in-Some.ensures {u = tt}))
    (shown_is IsAttribute attribute_shown c.attribute_of.result c.in-Some.attribute _ c.attribute_of.ensures c.in-Some.is (attribute_is c.args.which (group_shown c.args.group.now) c.requires))
