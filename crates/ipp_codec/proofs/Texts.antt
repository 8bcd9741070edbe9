-- Texts with a language.
use Rattle.std.proofs.Common.{◌≡◌, ◌≢◌, ℕ, ◌<◌, List, [], ◌++◌, length, eqb, false, true, Ok, Err, refl, ap, subst, ◌∙◌, arith, inl, inr}
use Rattle.std.proofs.lemmas.Bool.{ne_eqb, eqb-true, eqb-false}
use Rattle.std.proofs.lemmas.List.{append-nil, nil_from_length}
use Rattle.ipp_codec.specs.declared.fault.CodecFault.{CodecFault}
use Rattle.ipp_codec.specs.declared.view.ValueView.{ValueView}
use Rattle.ipp_codec.specs.Message.{IppValue, plain}
use Rattle.ipp_codec.specs.Spelling.{counted}
use Rattle.ipp_codec.specs.Reading.{counted_at}
use Rattle.ipp_codec.specs.Typed.{HasText, HoldsText}
use Rattle.ipp_codec.specs.Views.{value_shown}
use Rattle.ipp_codec.proofs.Fields.{IsBytes, counted_takes}
use Rattle.ipp_codec.proofs.Parts.{no_language, no_text, nothing_left}

pub has_text : (bytes a r b s : List ℕ) → IsBytes bytes → counted_at bytes ≡ Ok (a, r) → counted_at r ≡ Ok (b, s) → eqb (length s) 0 ≡ true → HasText bytes b
has_text bytes a r b s fits e f empty =
    let p = counted_takes bytes a r fits e in
    let q = counted_takes r b s p.rest_fits f in
    let none : s ≡ [] = nil_from_length s (eqb-true _ _ empty) in
    (a, p.below, q.below, p.joined ∙ ap (λ (t : List ℕ). counted a ++ t) (q.joined ∙ ap (λ (t : List ℕ). counted b ++ t) none ∙ append-nil (counted b)))

pub lacks_language : (bytes : List ℕ) (f : CodecFault) → counted_at bytes ≡ Err f → (text : List ℕ) → ¬ (HasText bytes text)
lacks_language bytes f e text w = no_language bytes f e (w.0, text, w.1, w.2, w.3)

pub lacks_text : (bytes a r : List ℕ) (f : CodecFault) → counted_at bytes ≡ Ok (a, r) → counted_at r ≡ Err f → (text : List ℕ) → ¬ (HasText bytes text)
lacks_text bytes a r f e g text w = no_text bytes a r f e g (w.0, text, w.1, w.2, w.3)

pub goes_past : (bytes a r b s : List ℕ) → counted_at bytes ≡ Ok (a, r) → counted_at r ≡ Ok (b, s) → eqb (length s) 0 ≡ false → (text : List ℕ) → ¬ (HasText bytes text)
goes_past bytes a r b s e f some text w = eqb-false _ _ some (ap length (nothing_left bytes a r b s e f (w.0, text, w.1, w.2, w.3)))

plain_shown : (v : ValueView) → v.tag ≢ 0x34 → value_shown v ≡ plain v.tag v.content.now
plain_shown v other = let t : eqb v.tag 0x34 ≡ false = ne_eqb _ _ other in rw t refl

holds_none : (tag : ℕ) (bytes : List ℕ) → tag < 0x41 → ((text : List ℕ) → ¬ (HasText bytes text)) → (text : List ℕ) → ¬ (HoldsText (plain tag bytes) text)
holds_none tag bytes t none text (inl (inl h, is)) = omega (arith, t, h)
holds_none tag bytes t none text (inl (inr h, is)) = omega (arith, t, h)
holds_none tag bytes t none text (inr has) = none text has.1

pub no_text_shown : (v : ValueView) → 0x34 < v.tag → v.tag < 0x41 → ((text : List ℕ) → ¬ (HasText v.content.now text)) → (text : List ℕ) → ¬ (HoldsText (value_shown v) text)
no_text_shown v low high none text holds =
    holds_none v.tag v.content.now high none text (subst (λ (w : IppValue). HoldsText w text) (plain_shown v (λ h. omega (arith, h, low))) holds)
