-- The results of the parser of heads, and their meanings.
use Rattle.std.specs.Prelude.{ℕ, ◌≡◌, ◌+◌, ◌<◌, ◌⊎◌, List, [], length, drop, Err}
use Rattle.std.proofs.Common.{arith, refl, sym, ap, ◌∙◌, inl, inr, length-append}
use Rattle.std.proofs.lemmas.List.{length-map}
use Rattle.httparse.specs.Grammar.{RequestHead, Field, ReadsRequest, print_request}
use Rattle.httparse.specs.Spans.{name_and_value}
use Rattle.httparse.specs.Borrowed.{header_parts, HoldsRequest}
use Rattle.httparse.specs.declared.borrowed.Header.{Header}
use Rattle.httparse.specs.declared.borrowed.Request as parsed
use Rattle.httparse.proofs.GrammarLemmas.{request_unique}
use Rattle.base_types.specs.declared.limits.TheConstants.Limits.{HTTP_FIELDS}
use Rattle.http_front.specs.declared.refusal.HttpRejection.TheVariants.{BadRequest}
use Rattle.http_front.specs.Head.{Asks}

-- a head at the beginning that is all of the bytes leaves nothing
all_read : (bytes : List ℕ) (count : ℕ) (r : parsed.Request) (h k : RequestHead) → HoldsRequest bytes count r h → ReadsRequest bytes k [] → (h ≡ k) × (count ≡ length bytes)
all_read bytes count r h k held whole =
    let same = request_unique bytes h k (drop count bytes) [] held.reads whole in
    let total : length bytes ≡ length (print_request h) + 0 =
    ap (λ xs. length xs) held.reads.1 ∙ length-append (print_request h) (drop count bytes) ∙ ap (λ xs. length (print_request h) + length xs) same.1 in
    (same.0, omega (arith, total, held.len_is))

fields_held : (bytes : List ℕ) (count : ℕ) (r : parsed.Request) (h : RequestHead) → HoldsRequest bytes count r h → length r.headers.now ≡ length h.fields
fields_held bytes count r h held =
    sym (length-map r.headers.now (λ (x : Header). header_parts x)) ∙ ap (λ xs. length xs) held.fields ∙ length-map h.fields (λ (f : Field). name_and_value f)

pub asks_other : (bytes : List ℕ) (count : ℕ) (r : parsed.Request) (h : RequestHead) → HoldsRequest bytes count r h → ((count ≡ length bytes → ⊥) ⊎ (HTTP_FIELDS < length r.headers.now)) → Asks bytes (Err BadRequest)
asks_other bytes count r h held other = inr (
  λ k head.
      let same = all_read bytes count r h k held head.0 in
      let many : length r.headers.now ≡ length k.fields = fields_held bytes count r h held ∙ ap (λ (x : RequestHead). length x.fields) same.0 in
      elim other [ inl short ↦ short same.1 | inr more ↦ omega (arith, more, many, head.1) ],
  refl,
)
