use Rattle.std.proofs.Common.{rules, ◌≡◌, []}
use Rattle.http_front.specs.Stream.{past_body}
use Rattle.http_front.proofs.ReaderPlace.{body_fed}
use Rattle.http_front.proofs.reader.HttpReader.hear_body.Goals as goal

pub returns : goal.returns
returns c = λ stream given segment long reaches.
    let old = c.args.self.now in
    let new : c.pass.new.self ≡ record { part = []; rest = []; awaited = past_body c.args.count old.awaited } = search (rules, c.pass.ensures, c.past_body.ensures, c.awaited.ensures, c.requires.0) in
    body_fed old c.pass.new.self c.args.count stream given segment c.requires new long reaches
