use Rattle.ipp_codec.specs.Owned.{value_owned, members_owned}
use Rattle.ipp_codec.proofs.ElementViews.{collection_shown}
use Rattle.ipp_codec.proofs.owning.+own.Goals as goal

pub own_value-returns-in_ok-members : goal.own_value-returns-in_ok-members
own_value-returns-in_ok-members t c =
    collection_shown (value_owned c.collection.result) (members_owned c.in_ok-members.members.items) c.args.value c.if-value-eq-BEGIN_COLLECTION.true c.collection.ensures c.in_ok-members.ensures
