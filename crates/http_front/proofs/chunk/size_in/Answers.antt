use Rattle.std.proofs.Common.{◌≡◌, length, length-append, ◌+◌, [], arith, ap, ◌∙◌, ℕ, List, rules}
use Rattle.httparse.specs.Grammar.{print_chunk_line, ChunkLine, ReadsChunkLine}
use Rattle.httparse.specs.Spans.{IsChunkLineAt}
use Rattle.httparse.proofs.ChunkLemmas.{chunk_line_unique}
use Rattle.http_front.proofs.chunk.size_in.Goals as goal

-- a line at the beginning that is not all of the bytes leaves no line that is
two_lengths : (bytes : List ℕ) (count size : ℕ) → ((l : ChunkLine) × IsChunkLineAt bytes count size l) → (l : ChunkLine) → ReadsChunkLine bytes l [] → count ≡ length bytes
two_lengths bytes count size found l whole =
    let same = chunk_line_unique bytes found.0 l _ [] found.1.reads whole in
    let total : length bytes ≡ length (print_chunk_line found.0) + 0 =
    ap (λ xs. length xs) found.1.reads.1 ∙ length-append (print_chunk_line found.0) _ ∙ ap (λ xs. length (print_chunk_line found.0) + length xs) same.1 in
    omega (arith, total, found.1.len_is)

pub returns-in_default : goal.returns-in_default
returns-in_default c = λ l whole.
    let found : (l : ChunkLine) × IsChunkLineAt c.args.line.now c.in-Ok-Complete.length c.in-Ok-Complete.size l = search rules in
    absurd (c.if-length-line.false (two_lengths c.args.line.now c.in-Ok-Complete.length c.in-Ok-Complete.size found l whole))
