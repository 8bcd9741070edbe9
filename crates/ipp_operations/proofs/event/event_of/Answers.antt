use Rattle.ipp_codec.specs.Grammar.{IsGroup}
use Rattle.ipp_codec.specs.Views.{group_shown, message_shown}
use Rattle.ipp_operations.proofs.Spelt.{shown_is, operation_group_is}
use Rattle.ipp_operations.proofs.event.event_of.Goals as goal

pub event_of_group-requires-clause-group : goal.event_of_group-requires-clause-group
event_of_group-requires-clause-group c = shown_is IsGroup group_shown c.operation_group.result c.in-Some.group _ c.operation_group.ensures c.in-Some.is (operation_group_is (message_shown c.args.message.now) c.requires)
