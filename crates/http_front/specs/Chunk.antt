-- The line before a chunk, which has its size, and the end of a chunk (RFC 9112, section 7.1).
use Rattle.std.specs.Prelude.{ℕ, ◌≡◌, ◌==◌, ◌&&◌, if◌then◌else◌, List, [], ◌∷◌, Option, Some, None}
use Rattle.httparse.specs.Grammar.{ChunkLine, ReadsChunkLine, chunk_size}
use Rattle.http_front.specs.declared.chunk.ChunkEnd.{ChunkEnd}
use Rattle.http_front.specs.declared.chunk.ChunkEnd.TheVariants.{Whole, Broken, Unfinished}

-- the size in a chunk line, where the bytes are one line of the grammar; None where they aren't
abbrev pub IsSizeOf : List ℕ → Option ℕ → Type 0
IsSizeOf bytes (Some size) = (line : ChunkLine) × ReadsChunkLine bytes line [] × (size ≡ chunk_size line)
IsSizeOf bytes None = (line : ChunkLine) → ReadsChunkLine bytes line [] → ⊥

-- the two bytes CR LF at the end of a chunk
abbrev pub chunk_end : List ℕ → ChunkEnd
chunk_end [] = Unfinished
chunk_end (first ∷ []) = if first == 13 then Unfinished else Broken
chunk_end (first ∷ second ∷ rest) = if (first == 13) && (second == 10) then Whole else Broken
