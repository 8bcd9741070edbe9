use Rattle.std.proofs.Common.{arith}
use Rattle.ipp_codec.proofs.Texts.{no_text_shown}
use Rattle.ipp_codec.proofs.view.ValueView.as_text.Goals as goal

pub returns-in-53-clause-none : goal.returns-in-53-clause-none
returns-in-53-clause-none c none = no_text_shown c.args.self.now (omega arith) (omega arith) (c.text_of.ensures.none none)
