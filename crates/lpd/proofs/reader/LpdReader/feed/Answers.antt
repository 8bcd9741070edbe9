use Rattle.std.proofs.Common.{sym, ◌≡◌, ◌∙◌, true}
use Rattle.lpd.specs.Stream.{is_over}
use Rattle.lpd.proofs.ReaderPlace.{fed_by, reaches_still}
use Rattle.lpd.proofs.reader.LpdReader.feed.Goals as goal

pub returns-then-is_over-clause-fed : goal.returns-then-is_over-clause-fed
returns-then-is_over-clause-fed c =
    let over : is_over c.args.self.now ≡ true = sym c.is_over.ensures ∙ c.if-is_over.true in
    λ stream given reaches. reaches_still stream given c.args.segment.now c.args.self.now over reaches

pub returns-clause-fed : goal.returns-clause-fed
returns-clause-fed c = fed_by c.args.self.now c.append.new.self c.args.segment.now c.append.result c.append.ensures.ok
