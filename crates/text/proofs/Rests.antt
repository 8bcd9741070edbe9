-- The rest of bytes after which more bytes are added.
use Rattle.std.specs.Prelude.{ℕ, ◌≡◌, ◌≤◌, ◌++◌, List, length, drop}
use Rattle.std.proofs.lemmas.List.{drop-append-le}

pub rest_with : (start : ℕ) (bytes segment : List ℕ) → start ≤ length bytes → drop start (bytes ++ segment) ≡ drop start bytes ++ segment
rest_with start bytes segment within = drop-append-le start bytes segment within
