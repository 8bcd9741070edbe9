use Rattle.std.proofs.Common.{subst, sym, ◌≡◌, ◌∙◌}
use Rattle.http_front.specs.declared.chunk.ChunkEnd.TheVariants as end
use Rattle.http_front.specs.declared.reader.Step.TheVariants as step
use Rattle.http_front.specs.Chunk.{chunk_end}
use Rattle.http_front.specs.Stream.{Steps}
use Rattle.http_front.proofs.Prefixes.{chunk_within, breaks_chunk, ends_chunk}
use Rattle.http_front.proofs.reader.HttpReader.end_chunk.Goals as goal

pub returns-in-Broken : goal.returns-in-Broken
returns-in-Broken c =
    let at : chunk_end c.args.self.now.rest ≡ end.Broken = rw (sym c.rest.ensures) (sym c.chunk_end.ensures ∙ c.in-Broken.is) in
    rw (c.refuse.ensures.state, c.refuse.ensures.answer) (breaks_chunk c.args.self.now c.args.room c.args.closes c.requires at)

pub returns-in-Whole : goal.returns-in-Whole
returns-in-Whole c =
    let at : chunk_end c.args.self.now.rest ≡ end.Whole = rw (sym c.rest.ensures) (sym c.chunk_end.ensures ∙ c.in-Whole.is) in
    subst (λ new. Steps c.args.self.now step.Passes new) (sym c.pass.ensures) (ends_chunk c.args.self.now c.args.room c.args.closes c.requires at)

pub pass-requires : goal.pass-requires
pass-requires c =
    let at : chunk_end c.args.self.now.rest ≡ end.Whole = rw (sym c.rest.ensures) (sym c.chunk_end.ensures ∙ c.in-Whole.is) in
    chunk_within c.args.self.now.rest at
