use Rattle.ipp_codec.specs.Views.{message_shown}
use Rattle.ipp_codec.proofs.ViewedMessage.{decoded_found, decoded_only, long_found}
use Rattle.ipp_codec.proofs.head.decode.Goals as goal

pub view_of-requires : goal.view_of-requires
view_of-requires c = long_found c.args.bytes.now c.in-Ok.length ((c.in-Ok.ensures {u = tt}).found)

pub returns-in-Ok-clause-found : goal.returns-in-Ok-clause-found
returns-in-Ok-clause-found c = decoded_found c.args.bytes.now c.in-Ok.length (message_shown c.view_of.result) ((c.in-Ok.ensures {u = tt}).found) c.view_of.ensures

pub returns-in-Ok-clause-only : goal.returns-in-Ok-clause-only
returns-in-Ok-clause-only c = λ n m le spells.
    decoded_only c.args.bytes.now c.in-Ok.length (message_shown c.view_of.result) ((c.in-Ok.ensures {u = tt}).found) c.view_of.ensures n m ((c.in-Ok.ensures {u = tt}).only n m le spells) spells
