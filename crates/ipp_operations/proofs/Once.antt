-- A body asks one thing: by its one first fault, or by the one message that its first bytes spell.
use Rattle.std.proofs.Common.{◌≡◌, ◌<◌, ◌≤◌, ◌++◌, ℕ, suc, zero, true, false, nat_le, List, [], ◌∷◌, length, take, drop, min, Option, Some, None, Result, Ok, Err, MatchOption, MatchResult, refl, sym, ap, subst, ◌∙◌, inl, inr, arith}
use Rattle.std.proofs.lemmas.List.{take-append-drop, take_min}
use Rattle.std.proofs.Math.Seq.{take-length}
use Rattle.base_types.specs.declared.limits.TheConstants.Limits.{IPP_HEAD_BYTES}
use Rattle.ipp_codec.specs.declared.fault.CodecFault.{CodecFault}
use Rattle.ipp_codec.specs.declared.fault.CodecFault.TheVariants.{Short, BadTag, BadLength, BadValue, LooseValue, BadCollection, TooDeep, TooLarge}
use Rattle.ipp_codec.specs.Message.{IppMessage}
use Rattle.ipp_codec.specs.Spelling.{spelling}
use Rattle.ipp_codec.specs.Grammar.{IsMessage, Spells}
use Rattle.ipp_codec.specs.FirstFault.{FirstFault, HeadFault}
use Rattle.ipp_codec.specs.Decoding.{fault_within}
use Rattle.printer_objects.specs.declared.operation.Operation.{Operation}
use Rattle.events.specs.declared.event.Event.{Event}
use Rattle.events.specs.declared.status.Status.{Status}
use Rattle.ipp_operations.specs.declared.header.Header.{Header}
use Rattle.ipp_operations.specs.declared.parsed_request.ParsedRequest.{ParsedRequest}
use Rattle.ipp_operations.specs.declared.parsed_request.ParsedRequest.TheVariants.{TooShort, Refused}
use Rattle.ipp_operations.specs.ParsedRequest.{header_of, operation_of, status_of, Requests, answered, AsksBy, AsksUnder, Asks}
use Rattle.ipp_operations.specs.Event.{event_of}

-- the codec's three laws
pub record Laws : Type 0 where
  pub one_spelling : (m k : IppMessage) (x y : List ℕ) → IsMessage m → IsMessage k → spelling m ++ x ≡ spelling k ++ y → (m ≡ k) × (x ≡ y)
  pub one_fault : (bytes : List ℕ) (f g : CodecFault) → FirstFault bytes f → FirstFault bytes g → f ≡ g
  pub no_fault : (bytes : List ℕ) (f : CodecFault) (m : IppMessage) (y : List ℕ) → FirstFault bytes f → IsMessage m → bytes ≡ spelling m ++ y → ⊥

-- a fault within the limit, and the fault that it is answered as
record Within (bytes : List ℕ) (f : CodecFault) : Type 0 where
  pub first : CodecFault
  pub found : FirstFault (take IPP_HEAD_BYTES bytes) first
  pub is : f ≡ fault_within first (nat_le IPP_HEAD_BYTES (length bytes))

take_all : (n : ℕ) (xs : List ℕ) → length xs ≤ n → take n xs ≡ xs
take_all n xs le = sym (take_min n xs) ∙ ap (λ k. take k xs) (let e : min n (length xs) ≡ length xs = omega arith in e) ∙ take-length xs

take_within : (n m : ℕ) (xs : List ℕ) → n ≤ m → take n (take m xs) ≡ take n xs
take_within zero m xs le = refl
take_within (suc n) zero xs le = absurd (omega arith)
take_within (suc n) (suc m) [] le = refl
take_within (suc n) (suc m) (x ∷ xs) le = ap (λ ys. x ∷ ys) (take_within n m xs (omega arith))

is_below : (n m : ℕ) → m < n → nat_le n m ≡ false
is_below n m lt = grind arith

is_from : (n m : ℕ) → n ≤ m → nat_le n m ≡ true
is_from n m le = grind arith

within : (bytes : List ℕ) (f : CodecFault) → HeadFault bytes f → Within bytes f
within bytes Short h = record {
  first = Short;
  found = subst (λ xs. FirstFault xs Short) (sym (take_all IPP_HEAD_BYTES bytes (omega (arith, h.0)))) h.1;
  is = ap (λ b. fault_within Short b) (sym (is_below IPP_HEAD_BYTES (length bytes) h.0));
}
within bytes TooLarge h = record {
  first = Short;
  found = h.1;
  is = ap (λ b. fault_within Short b) (sym (is_from IPP_HEAD_BYTES (length bytes) h.0));
}
within bytes BadTag h = record { first = BadTag; found = h; is = refl }
within bytes BadLength h = record { first = BadLength; found = h; is = refl }
within bytes BadValue h = record { first = BadValue; found = h; is = refl }
within bytes LooseValue h = record { first = LooseValue; found = h; is = refl }
within bytes BadCollection h = record { first = BadCollection; found = h; is = refl }
within bytes TooDeep h = record { first = TooDeep; found = h; is = refl }

same_fault : Laws → (bytes : List ℕ) (f g : CodecFault) → HeadFault bytes f → HeadFault bytes g → f ≡ g
same_fault laws bytes f g h k =
    let a = within bytes f h in
    let b = within bytes g k in
    a.is ∙ ap (λ x. fault_within x (nat_le IPP_HEAD_BYTES (length bytes))) (laws.one_fault _ _ _ a.found b.found) ∙ sym b.is

no_message : Laws → (bytes : List ℕ) (f : CodecFault) (n : ℕ) (m : IppMessage) → HeadFault bytes f → n ≤ IPP_HEAD_BYTES → Spells (take n bytes) m → ⊥
no_message laws bytes f n m h le s =
    let a = within bytes f h in
    let prefix = take IPP_HEAD_BYTES bytes in
    laws.no_fault prefix a.first m (drop n prefix) a.found s.0
    (sym (take-append-drop n prefix) ∙ ap (λ xs. xs ++ drop n prefix) (take_within n IPP_HEAD_BYTES bytes le ∙ s.1))

spelt : (bytes : List ℕ) (n : ℕ) (m : IppMessage) → Spells (take n bytes) m → spelling m ++ drop n bytes ≡ bytes
spelt bytes n m s = ap (λ xs. xs ++ drop n bytes) (sym s.1) ∙ take-append-drop n bytes

same_request : Laws → (asked : Operation) (body : List ℕ) (given parsed : Result Event Status) → Requests asked body given → Requests asked body parsed → given ≡ parsed
same_request laws asked body given parsed (inl a) (inl b) = a.2 ∙ ap (λ f. Err (status_of f)) (same_fault laws body a.0 b.0 a.1 b.1) ∙ sym b.2
same_request laws asked body given parsed (inl a) (inr b) = absurd (no_message laws body a.0 b.0 b.1 a.1 b.2 b.3)
same_request laws asked body given parsed (inr a) (inl b) = absurd (no_message laws body b.0 a.0 a.1 b.1 a.2 a.3)
same_request laws asked body given parsed (inr a) (inr b) =
    let same = laws.one_spelling a.1 b.1 (drop a.0 body) (drop b.0 body) a.3.0 b.3.0 (spelt body a.0 a.1 a.3 ∙ sym (spelt body b.0 b.1 b.3)) in
    a.4 ∙ ap (λ m. event_of asked m (drop a.0 body)) same.0 ∙ ap (λ d. event_of asked b.1 d) same.1 ∙ sym b.4

abbrev Under : Result Operation Status → ℕ → List ℕ → ParsedRequest → Type 0
Under operation id body asked =
    MatchResult operation (λ o. AsksBy o id body asked) (λ status. asked ≡ Refused status id)

same_under : Laws → (operation : Result Operation Status) (id : ℕ) (body : List ℕ) (given parsed : ParsedRequest) → Under operation id body given → Under operation id body parsed → given ≡ parsed
same_under laws (Ok o) id body given parsed a b = a.2 ∙ ap (λ r. answered id r) (same_request laws o body a.0 b.0 a.1 b.1) ∙ sym b.2
same_under laws (Err status) id body given parsed a b = a ∙ sym b

abbrev At : Option Header → List ℕ → ParsedRequest → Type 0
At header body asked = MatchOption header (asked ≡ TooShort) (λ h. AsksUnder h body asked)

same_at : Laws → (header : Option Header) (body : List ℕ) (given parsed : ParsedRequest) → At header body given → At header body parsed → given ≡ parsed
same_at laws None body given parsed a b = a ∙ sym b
same_at laws (Some h) body given parsed a b = same_under laws (operation_of h) h.request_id body given parsed a b

pub same_asked : Laws → (body : List ℕ) (given parsed : ParsedRequest) → Asks body given → Asks body parsed → given ≡ parsed
same_asked laws body given parsed a b = same_at laws (header_of body) body given parsed a b
