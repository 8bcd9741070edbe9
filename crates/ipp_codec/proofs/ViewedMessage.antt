-- The view of a message that bytes spell.
use Rattle.std.proofs.Common.{◌≡◌, ℕ, ◌-◌, ◌≤◌, List, [], ◌∷◌, ◌++◌, length, take, drop, refl, sym, ap, subst, ◌∙◌, arith, get_or}
use Rattle.std.specs.Int.{w16, w32, from_be_bytes}
use Rattle.std.proofs.lemmas.Nat.{from_be_bytes-to_be_bytes_2, from_be_bytes-to_be_bytes_4}
use Rattle.std.proofs.lemmas.List.{length-append, take_at, take-append-drop}
use Rattle.base_types.specs.declared.limits.TheConstants.Limits.{IPP_HEAD_BYTES}
use Rattle.ipp_codec.specs.declared.place.Place.TheVariants.{Outside}
use Rattle.ipp_codec.specs.Message.{IppMessage}
use Rattle.ipp_codec.specs.Spelling.{Element, bytes_of, elements, spelling}
use Rattle.ipp_codec.specs.Grammar.{IsMessage, Spells}
use Rattle.ipp_codec.specs.Shown.{Level, levels_of, top}
use Rattle.ipp_codec.specs.Views.{level}
use Rattle.ipp_codec.proofs.Tree.{read_groups, groups_follow}
use Rattle.ipp_codec.proofs.ElementViews.{elements_in-bytes_of}
use Rattle.ipp_codec.proofs.Heads.{message_of}
use Rattle.ipp_codec.proofs.Once.{one_spelling}

-- the groups that a head's body shows
groups_shown : (m : IppMessage) → IsMessage m → (level (bytes_of (elements m.groups))).groups ≡ m.groups
groups_shown m is =
    let follows = groups_follow m.groups Outside refl is.groups in
    ap (λ (xs : List Element). (top (levels_of xs)).groups) (elements_in-bytes_of Outside (elements m.groups) (length (bytes_of (elements m.groups))) follows (omega arith))
    ∙ ap (λ (l : Level). l.groups) (read_groups m.groups is.groups)

-- the body of a head is between its eight bytes and the last
body_is : (m : IppMessage) → take (length (spelling m) - 9) (drop 8 (spelling m)) ≡ bytes_of (elements m.groups)
body_is m =
    let long : length (spelling m) - 9 ≡ length (bytes_of (elements m.groups)) = omega (arith, length-append (bytes_of (elements m.groups)) (3 ∷ [])) in
    ap (λ (n : ℕ). take n (bytes_of (elements m.groups) ++ 3 ∷ [])) long ∙ take_at (bytes_of (elements m.groups)) (3 ∷ []) (length (bytes_of (elements m.groups))) refl

-- a head has nine bytes at least
pub long_head : (bytes : List ℕ) (m : IppMessage) → Spells bytes m → 9 ≤ length bytes
long_head bytes m spells = omega (arith, ap length spells.1, length-append (bytes_of (elements m.groups)) (3 ∷ []))

pub view_shown : (bytes : List ℕ) (code id : ℕ) (body : List ℕ) → code ≡ from_be_bytes w16 (get_or bytes 2 0 ∷ get_or bytes 3 0 ∷ [])
    → id ≡ from_be_bytes w32 (get_or bytes 4 0 ∷ get_or bytes 5 0 ∷ get_or bytes 6 0 ∷ get_or bytes 7 0 ∷ [])
    → body ≡ take (length bytes - 9) (drop 8 bytes) → (m : IppMessage) → Spells bytes m
    → message_of (get_or bytes 0 0) (get_or bytes 1 0) code id (level body).groups ≡ m
view_shown bytes code id body code_is id_is body_is' m spells =
    let is = spells.1 in
    let major : get_or bytes 0 0 ≡ m.major = ap (λ (l : List ℕ). get_or l 0 0) is in
    let minor : get_or bytes 1 0 ≡ m.minor = ap (λ (l : List ℕ). get_or l 1 0) is in
    let code' : code ≡ m.code = code_is ∙ ap (λ (l : List ℕ). from_be_bytes w16 (get_or l 2 0 ∷ get_or l 3 0 ∷ [])) is ∙ from_be_bytes-to_be_bytes_2 m.code spells.0.code in
    let id' : id ≡ m.request_id = id_is ∙ ap (λ (l : List ℕ). from_be_bytes w32 (get_or l 4 0 ∷ get_or l 5 0 ∷ get_or l 6 0 ∷ get_or l 7 0 ∷ [])) is ∙ from_be_bytes-to_be_bytes_4 m.request_id spells.0.request_id in
    let groups : (level body).groups ≡ m.groups = ap (λ (b : List ℕ). (level b).groups) (body_is' ∙ ap (λ (l : List ℕ). take (length l - 9) (drop 8 l)) is ∙ body_is m) ∙ groups_shown m spells.0 in
    rw (major, minor, code', id', groups) refl

-- two messages that begin the same bytes are one
one_prefix : (bytes : List ℕ) (n k : ℕ) (m p : IppMessage) → Spells (take n bytes) m → Spells (take k bytes) p → m ≡ p
one_prefix bytes n k m p a b =
    let first : bytes ≡ spelling m ++ drop n bytes = sym (take-append-drop n bytes) ∙ ap (λ (l : List ℕ). l ++ drop n bytes) a.1 in
    let second : bytes ≡ spelling p ++ drop k bytes = sym (take-append-drop k bytes) ∙ ap (λ (l : List ℕ). l ++ drop k bytes) b.1 in
    (one_spelling m p (drop n bytes) (drop k bytes) a.0 b.0 (sym first ∙ second)).0

-- a length, with the bytes in which it was found
abbrev IsFound : List ℕ → ℕ → Type 0
IsFound bytes n = (n ≤ IPP_HEAD_BYTES) × (n ≤ length bytes) × ((m : IppMessage) × Spells (take n bytes) m)

pub long_found : (bytes : List ℕ) (n : ℕ) → IsFound bytes n → 9 ≤ length (take n bytes)
long_found bytes n (short, fits, (m, spells)) = long_head (take n bytes) m spells

pub decoded_found : (bytes : List ℕ) (n : ℕ) (shown : IppMessage) → IsFound bytes n → ((m : IppMessage) → Spells (take n bytes) m → shown ≡ m) → (n ≤ IPP_HEAD_BYTES) × (n ≤ length bytes) × Spells (take n bytes) shown
decoded_found bytes n shown (short, fits, (m, spells)) shows = (short, fits, subst (λ (k : IppMessage). Spells (take n bytes) k) (sym (shows m spells)) spells)

pub decoded_only : (bytes : List ℕ) (n : ℕ) (shown : IppMessage) → IsFound bytes n → ((m : IppMessage) → Spells (take n bytes) m → shown ≡ m) → (k : ℕ) (m : IppMessage) → n ≡ length (spelling m) → Spells (take k bytes) m → (n ≡ length (spelling m)) × (shown ≡ m)
decoded_only bytes n shown (short, fits, (p, spelled)) shows k m long spells = (long, shows p spelled ∙ one_prefix bytes n k p m spelled spells)
