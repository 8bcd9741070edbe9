use Rattle.ipp_codec.specs.Grammar.{IsGroup}
use Rattle.ipp_codec.specs.Views.{group_shown, message_shown}
use Rattle.ipp_operations.proofs.Spelt.{shown_is, job_group_is}
use Rattle.ipp_operations.proofs.request.job_attributes.Goals as goal

pub first_of_each-requires : goal.first_of_each-requires
first_of_each-requires c = shown_is IsGroup group_shown c.job_group.result c.in-Some.group _ c.job_group.ensures c.in-Some.is (job_group_is (message_shown c.args.message.now) c.requires)
