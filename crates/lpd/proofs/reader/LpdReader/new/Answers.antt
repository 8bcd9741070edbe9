use Rattle.std.proofs.Common.{refl, inr}
use Rattle.lpd.proofs.reader.LpdReader.new.Goals as goal

pub returns : goal.returns
returns c = record { left = c.new.result; leads = (refl, c.new.ensures); kept = inr refl }
