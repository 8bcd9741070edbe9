-- Short bytes need no memory if no bytes wait.
use Rattle.std.proofs.Common.{◌≡◌, ◌≤◌, ◌<◌, arith, ℕ, Bool, true, false, List, [], ◌∷◌, ◌++◌, length, decimal, refl, sym, ◌∙◌, ap, subst, Option, Some, inl, inr}
use Rattle.std.specs.Prelude.{nat_lt}
use Rattle.std.proofs.lemmas.Bool.Decides.{nat_tests}
use Rattle.std.proofs.lemmas.List.{length-append}
use Rattle.std.proofs.lemmas.Fmt.{length-decimal-le}
use Rattle.http_front.specs.Reply.{opening, ending, head, continue_head}
use Rattle.http_front.specs.declared.refusal.HttpRejection.{HttpRejection}
use Rattle.http_front.specs.declared.refusal.HttpRejection.TheVariants.{BadRequest, MethodNotAllowed, ContentTooLarge, UnsupportedMediaType, ExpectationFailed, HeadTooLarge, NotImplemented}
use Rattle.events.specs.declared.status.Status.{Status}
use Rattle.ipp_operations.specs.Reply.{refusal_bytes}
use Rattle.server.specs.Rel.{Nothing, If}
use Rattle.server.specs.Enqueuing.{EnqueuesOpen, EnqueuesAt}
use Rattle.connections.specs.Reply.{http_reply, refusal_head}
use Rattle.server.specs.Law.{AreKept, AreOwed}
use Rattle.connections.specs.declared.queue.TheConstants.{RESERVED_BYTES}
use Rattle.connections.specs.Entry.{Entry, needs_memory}
use Rattle.connections.specs.Steps.{http_status}

-- ---- bytes with room in the reserve

not_above : (most n : ℕ) → n ≤ most → nat_lt most n ≡ false
not_above most n short = grind (arith, nat_tests, short)

kept : (bytes : List ℕ) → length bytes ≤ 256 → AreKept bytes
kept bytes short key e l hs l' there whole none it =
    let fits : needs_memory bytes e ≡ false = ap (λ (w : List ℕ). nat_lt RESERVED_BYTES (length (w ++ bytes))) none ∙ not_above RESERVED_BYTES (length bytes) short in
    let found : EnqueuesAt (needs_memory bytes) key bytes (Some e) l hs l' = subst (λ (o : Option Entry). EnqueuesAt (needs_memory bytes) key bytes o l hs l') there it in
    let here : EnqueuesOpen (needs_memory bytes e) key bytes e l hs l' = subst (λ (t : Bool). If t Nothing (EnqueuesOpen (needs_memory bytes e) key bytes e) l hs l') whole found in
    subst (λ (t : Bool). EnqueuesOpen t key bytes e l hs l') fits here

owed : (bytes : List ℕ) → length bytes ≤ 256 → AreOwed bytes
owed bytes short e what new none (inl it) = it
owed bytes short e what new none (inr (broke, needs, is)) =
    let fits : needs_memory bytes e ≡ false = ap (λ (w : List ℕ). nat_lt RESERVED_BYTES (length (w ++ bytes))) none ∙ not_above RESERVED_BYTES (length bytes) short in
    let never : true ≡ false = sym needs ∙ fits in
    absurd (cc)

-- ---- the lengths of the bytes

within : (bytes : List ℕ) (most : ℕ) → nat_lt most (length bytes) ≡ false → length bytes ≤ most
within bytes most is = grind (arith, nat_tests, is)

ending_short : (closes : Bool) → length (ending closes) ≤ 23
ending_short true = within (ending true) 23 refl
ending_short false = within (ending false) 23 refl

-- the bytes before a length of at most two digits, the digits, and the bytes after them
parts_short : (first number last : List ℕ) → length first ≤ 64 → length number ≤ 2 → length last ≤ 23 → length (first ++ (number ++ last)) ≤ 89
parts_short first number last one two three = omega (arith, length-append first (number ++ last), length-append number last, one, two, three)

-- the length of the head of a reply, if its body has fewer than 100 bytes
head_short : (closes : Bool) (count : ℕ) → count < 100 → length (head 200 count closes) ≤ 89
head_short closes count few = parts_short (opening 200) (decimal count) (ending closes) (within (opening 200) 64 refl) (length-decimal-le 2 count (omega arith) few (omega (arith, few))) (ending_short closes)

both_short : (head body : List ℕ) → length head ≤ 89 → length body ≤ 72 → length (head ++ body) ≤ 161
both_short head body one two = omega (arith, length-append head body, one, two)

reply_short : (closes : Bool) (bytes : List ℕ) → length bytes ≤ 72 → length (http_reply closes bytes) ≤ 161
unfolding http_reply
reply_short closes bytes short = both_short (head 200 (length bytes) closes) bytes (head_short closes (length bytes) (omega (arith, short))) short

-- the length of a reply of a status alone
status_short : (closes : Bool) (status : Status) (request : ℕ) → length (http_status closes status request) ≤ 161
unfolding http_status
status_short closes status request = reply_short closes (refusal_bytes status request) (within (refusal_bytes status request) 72 refl)

no_length : length (decimal 0) ≤ 2
no_length = length-decimal-le 2 0 (omega arith) (omega arith) (omega arith)

refused_short : (first : List ℕ) → length first ≤ 64 → length (first ++ (decimal 0 ++ ending true)) ≤ 89
refused_short first short = parts_short first (decimal 0) (ending true) short no_length (ending_short true)

-- the length of the head of a refusal
refusal_short : (refusal : HttpRejection) → length (refusal_head refusal) ≤ 89
unfolding refusal_head
refusal_short BadRequest = refused_short (opening 400) (within (opening 400) 64 refl)
refusal_short MethodNotAllowed = refused_short (opening 405) (within (opening 405) 64 refl)
refusal_short ContentTooLarge = refused_short (opening 413) (within (opening 413) 64 refl)
refusal_short UnsupportedMediaType = refused_short (opening 415) (within (opening 415) 64 refl)
refusal_short ExpectationFailed = refused_short (opening 417) (within (opening 417) 64 refl)
refusal_short HeadTooLarge = refused_short (opening 431) (within (opening 431) 64 refl)
refusal_short NotImplemented = refused_short (opening 501) (within (opening 501) 64 refl)

-- ---- the short bytes become due

pub status_kept : (closes : Bool) (status : Status) (request : ℕ) → AreKept (http_status closes status request)
status_kept closes status request = kept (http_status closes status request) (omega (arith, status_short closes status request))

pub status_owed : (closes : Bool) (status : Status) (request : ℕ) → AreOwed (http_status closes status request)
status_owed closes status request = owed (http_status closes status request) (omega (arith, status_short closes status request))

pub refusal_owed : (refusal : HttpRejection) → AreOwed (refusal_head refusal)
refusal_owed refusal = owed (refusal_head refusal) (omega (arith, refusal_short refusal))

pub continue_owed : AreOwed continue_head
continue_owed = owed continue_head (within continue_head 256 refl)

pub byte_owed : (byte : ℕ) → AreOwed (byte ∷ [])
byte_owed byte = owed (byte ∷ []) (within (byte ∷ []) 256 refl)

pub byte_kept : (byte : ℕ) → AreKept (byte ∷ [])
byte_kept byte = kept (byte ∷ []) (within (byte ∷ []) 256 refl)
