use Rattle.daemon.proofs.Turns.{idles_first}
use Rattle.daemon.proofs.run.run.Goals as goal

pub returns : goal.returns
returns g c =
    let (moments, served, count) = c.take_turns.ensures in
    (moments, idles_first moments c.args.server.now c.recorder_of-recorder.new.server c.take_turns.new.server c.recorder_of-recorder.ensures served, count)
