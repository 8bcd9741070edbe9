use Rattle.std.proofs.Common.{refl}
use Rattle.device_link.proofs.reader.LinkReader.new.Goals as goal

pub returns : goal.returns
returns c = record { left = c.new.result; leads = (refl, c.new.ensures); kept = refl }
