use Rattle.std.proofs.Common.{zero, refl, inr}
use Rattle.http_front.proofs.reader.HttpReader.new.Goals as goal

pub returns : goal.returns
returns c = record { left = c.new.result; leads = (zero, (refl, refl, c.new.ensures)); kept = inr refl }
