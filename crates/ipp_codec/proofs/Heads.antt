-- From the elements of a body to the message of a head.
use Rattle.std.proofs.Common.{◌≡◌, ℕ, suc, ◌+◌, ◌-◌, ◌*◌, ◌^◌, ◌<◌, ◌≤◌, List, [], ◌∷◌, ◌++◌, length, take, drop, Ok, Err, refl, sym, ap, ◌∙◌, append_assoc, arith, inr, get_or}
use Rattle.std.specs.List.{AllByRecursion}
use Rattle.std.specs.Int.{w16, w32, to_be_bytes, from_be_bytes}
use Rattle.std.proofs.lemmas.Nat.{be_bytes_2, be_bytes_4}
use Rattle.std.proofs.lemmas.List.{length-append, length-take-le, take_rest}
use Rattle.ipp_codec.specs.declared.fault.CodecFault.{CodecFault}
use Rattle.ipp_codec.specs.Message.{IppMessage, IppGroup}
use Rattle.ipp_codec.specs.Spelling.{Element, bytes_of, spelling}
use Rattle.ipp_codec.specs.Grammar.{IsGroup, IsMessage}
use Rattle.ipp_codec.specs.FirstFault.{FirstFault}
use Rattle.ipp_codec.specs.Reading.{Walks}
use Rattle.ipp_codec.specs.Decoding.{Lengths}
use Rattle.ipp_codec.proofs.Fields.{IsBytes, IsBytes-take}
use Rattle.ipp_codec.proofs.GroupsHaveSpelling.{groups_of, groups_only, can_end}

-- the four numbers of a view
abbrev pub prefix : ℕ → ℕ → ℕ → ℕ → List ℕ
prefix major minor code id = major ∷ minor ∷ (to_be_bytes w16 code ++ to_be_bytes w32 id)

pub record AreNumbers (a b c d : ℕ) : Type 0 where
  pub major : a < 256
  pub minor : b < 256
  pub code : c < 2 ^ 16
  pub request_id : d < 2 ^ 32

-- the message of these numbers and groups
abbrev pub message_of : ℕ → ℕ → ℕ → ℕ → List IppGroup → IppMessage
message_of major minor code id groups = record { major = major; minor = minor; code = code; request_id = id; groups = groups }

is_message : (major minor code id : ℕ) (groups : List IppGroup) → AreNumbers major minor code id → AllByRecursion IsGroup groups → IsMessage (message_of major minor code id groups)
is_message major minor code id groups numbers fit = record { major = numbers.major; minor = numbers.minor; code = numbers.code; request_id = numbers.request_id; groups = fit }

head_found : (bytes body : List ℕ) (major minor code id len : ℕ) → AreNumbers major minor code id → bytes ≡ prefix major minor code id ++ body → Walks body (Ok len) → Lengths bytes (Ok (8 + len + 1))
head_found bytes body major minor code id len numbers split walks =
    let es = walks.0 in
    let spelled = groups_only es walks.2 walks.5 in
    let m = message_of major minor code id (groups_of es) in
    let spelling-is : spelling m ≡ prefix major minor code id ++ (bytes_of es ++ 3 ∷ []) = ap (λ (xs : List Element). prefix major minor code id ++ (bytes_of xs ++ 3 ∷ [])) spelled.0 in
    let parts : bytes ≡ spelling m ++ walks.1 = split ∙ ap (λ (b : List ℕ). prefix major minor code id ++ b) (walks.3 ∙ sym (append_assoc (bytes_of es) (3 ∷ []) walks.1)) ∙ sym (append_assoc (prefix major minor code id) (bytes_of es ++ 3 ∷ []) walks.1) ∙ ap (λ (b : List ℕ). b ++ walks.1) (sym spelling-is) in
    let long : length (spelling m) ≡ 8 + len + 1 = ap length spelling-is ∙ omega (arith, length-append (bytes_of es) (3 ∷ []), walks.4) in
    (m, walks.1, is_message major minor code id (groups_of es) numbers spelled.1, parts, sym long)

head_fails : (bytes body : List ℕ) (major minor code id : ℕ) (f : CodecFault) → AreNumbers major minor code id → bytes ≡ prefix major minor code id ++ body → Walks body (Err f) → FirstFault bytes f
head_fails bytes body major minor code id f numbers split walks =
    let es = walks.0 in
    let rest = can_end es walks.2 in
    let spelled = groups_only (es ++ rest.0) rest.1 rest.2 in
    inr (record {
      message = message_of major minor code id (groups_of (es ++ rest.0));
      before = es;
      tail = rest.0;
      part = walks.1;
      is_message = is_message major minor code id (groups_of (es ++ rest.0)) numbers spelled.1;
      split = spelled.0;
      joined = split ∙ ap (λ (b : List ℕ). prefix major minor code id ++ b) walks.3;
      first = walks.4;
    })

numbers_fit : (a b c0 c1 r0 r1 r2 r3 code id : ℕ) → a < 256 → b < 256 → c0 < 256 → c1 < 256 → r0 < 256 → r1 < 256 → r2 < 256 → r3 < 256
    → code ≡ c0 * 256 + c1 → id ≡ r0 * 16777216 + r1 * 65536 + r2 * 256 + r3 → AreNumbers a b code id
numbers_fit a b c0 c1 r0 r1 r2 r3 code id ha hb hc0 hc1 hr0 hr1 hr2 hr3 code-is id-is = record { major = ha; minor = hb; code = omega arith; request_id = omega arith }

-- the first eight bytes
split_header : (bytes : List ℕ) (code id : ℕ) → IsBytes bytes → 8 ≤ length bytes
    → code ≡ from_be_bytes w16 (get_or bytes 2 0 ∷ get_or bytes 3 0 ∷ [])
    → id ≡ from_be_bytes w32 (get_or bytes 4 0 ∷ get_or bytes 5 0 ∷ get_or bytes 6 0 ∷ get_or bytes 7 0 ∷ [])
    → AreNumbers (get_or bytes 0 0) (get_or bytes 1 0) code id × (bytes ≡ prefix (get_or bytes 0 0) (get_or bytes 1 0) code id ++ drop 8 bytes)
split_header (a ∷ b ∷ c0 ∷ c1 ∷ r0 ∷ r1 ∷ r2 ∷ r3 ∷ rest) code id fits long code-is id-is =
    let c : to_be_bytes w16 code ≡ c0 ∷ c1 ∷ [] = be_bytes_2 (c0 ∷ c1 ∷ []) code refl (IsBytes-take 2 (c0 ∷ c1 ∷ r0 ∷ r1 ∷ r2 ∷ r3 ∷ rest) (λ i. fits (suc (suc i)))) code-is in
    let r : to_be_bytes w32 id ≡ r0 ∷ r1 ∷ r2 ∷ r3 ∷ [] = be_bytes_4 (r0 ∷ r1 ∷ r2 ∷ r3 ∷ []) id refl (IsBytes-take 4 (r0 ∷ r1 ∷ r2 ∷ r3 ∷ rest) (λ i. fits (suc (suc (suc (suc i)))))) id-is in (
      numbers_fit a b c0 c1 r0 r1 r2 r3 code id (fits 0) (fits 1) (fits 2) (fits 3) (fits 4) (fits 5) (fits 6) (fits 7) code-is id-is,
      sym (ap (λ (t : List ℕ). a ∷ b ∷ ((t ++ to_be_bytes w32 id) ++ rest)) c ∙ ap (λ (t : List ℕ). a ∷ b ∷ ((c0 ∷ c1 ∷ t) ++ rest)) r),
    )
split_header bytes code id fits long code-is id-is = absurd (omega (arith, long))

-- the slice after the first eight bytes
pub tail : (bytes : List ℕ) → take (length bytes - 8) (drop 8 bytes) ≡ drop 8 bytes
tail bytes = take_rest bytes 8

-- the result of a walk after the header
pub lengths : (bytes : List ℕ) (len : ℕ) → IsBytes bytes → 8 ≤ length bytes → Walks (drop 8 bytes) (Ok len) → Lengths bytes (Ok (8 + len + 1))
lengths bytes len fits long walks =
    let split = split_header bytes _ _ fits long refl refl in
    head_found bytes (drop 8 bytes) _ _ _ _ len split.0 split.1 walks

-- the result of a walk with a fault
pub failed : (bytes : List ℕ) (f : CodecFault) → IsBytes bytes → 8 ≤ length bytes → Walks (drop 8 bytes) (Err f) → FirstFault bytes f
failed bytes f fits long walks =
    let split = split_header bytes _ _ fits long refl refl in
    head_fails bytes (drop 8 bytes) _ _ _ _ f split.0 split.1 walks

-- a walk ends within the bytes
pub walked : (body : List ℕ) (len : ℕ) → Walks body (Ok len) → length (take len body) ≡ len
walked body len walks =
    length-take-le len body (omega (arith, walks.4, ap length walks.3, length-append (bytes_of walks.0) (3 ∷ walks.1)))
