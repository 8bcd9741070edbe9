-- A job that is the one that was saved, and octets that are the same segment by segment.
use Rattle.std.proofs.Common.{◌≡◌, ◌≤◌, ◌+◌, ℕ, List, length, take, drop, ap, sym, ◌∙◌, refl}
use Rattle.std.proofs.lemmas.List.{take-append-le}
use Rattle.std.proofs.Math.Seq.{take-add}
use Rattle.settings_file.specs.Settings.{ServerSettings}
use Rattle.spool.specs.Spooled.{SpooledRecord}
use Rattle.octets.specs.Document.{IsPrefixOf}
use Rattle.journal.specs.Saved.{SavedRecord, saved_of}
use Rattle.journal.specs.Alike.{IsSentAlike, IsPrintedAlike}

-- a job that is alike in all its parts is the one that was saved, but for its id
pub same_job : (settings : ServerSettings) (spooled : SpooledRecord) (saved : SavedRecord) → IsSentAlike spooled.job saved → IsPrintedAlike settings spooled.job.needs saved → spooled.documents ≡ saved.documents → saved_of settings spooled ≡ record saved { id = spooled.job.id }
same_job settings spooled saved sent printed documents =
    let owner = sent.owner in
    let name = sent.name in
    let priority = sent.priority in
    let impressions = sent.impressions in
    let held = sent.held in
    let incoming = sent.incoming in
    let printer = printed.printer in
    let copies = printed.copies in
    let sides = printed.sides in
    let finishings = printed.finishings in
    let media = printed.media in
    cc

-- the beginning of a segment is a prefix of the octets from its place on
prefix_of : (segment octets : List ℕ) (count : ℕ) → IsPrefixOf segment octets → count ≤ length segment → take count octets ≡ take count segment
prefix_of segment octets count prefix within =
    ap (take count) prefix.prefix.1 ∙ take-append-le count segment prefix.prefix.0 within

-- octets that are the same up to a place, and in segments from there on
pub same_further : (first second : List ℕ) (start count : ℕ) (segment other : List ℕ) → IsPrefixOf segment (drop start first) → IsPrefixOf other (drop start second) → count ≤ length segment → count ≤ length other → take count segment ≡ take count other → take start first ≡ take start second → take (start + count) first ≡ take (start + count) second
same_further first second start count segment other one two within_segment within_other same before =
    let here : take count (drop start first) ≡ take count (drop start second) = prefix_of segment _ count one within_segment ∙ same ∙ sym (prefix_of other _ count two within_other) in
    rw (take-add start count first, take-add start count second, before, here) refl
