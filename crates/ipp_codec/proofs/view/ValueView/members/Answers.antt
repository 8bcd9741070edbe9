use Rattle.ipp_codec.proofs.ElementViews.{no_members}
use Rattle.ipp_codec.proofs.view.ValueView.members.Goals as goal

pub returns-else-self-eq-BEGIN_COLLECTION : goal.returns-else-self-eq-BEGIN_COLLECTION
returns-else-self-eq-BEGIN_COLLECTION c = no_members c.args.self.now c.if-self-eq-BEGIN_COLLECTION.false
