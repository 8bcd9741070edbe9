-- A counted field that is read is the field that was written, and a written field is read again.
use Rattle.std.proofs.Common.{◌≡◌, ℕ, suc, ◌+◌, ◌*◌, ◌/◌, ◌%◌, ◌<◌, ◌≤◌, Bool, true, false, cond, ltb, leb, List, [], ◌∷◌, ◌++◌, length, get_or, take, drop, Result, Ok, Err, refl, sym, ap, subst, arith, inl, inr, ◌⊎◌}
use Rattle.std.proofs.lemmas.Bool.{cases_lt, ltb-false, ltb-true, le-ltb, leb-true, leb-false, lt-leb}
use Rattle.std.proofs.lemmas.List.{take_at, drop_at, take-append-drop, length-append, length-take, get_or-drop, get_or-take, get_or_past}
use Rattle.ipp_codec.specs.declared.fault.CodecFault.{CodecFault}
use Rattle.ipp_codec.specs.declared.fault.CodecFault.TheVariants.{Short, BadLength}
use Rattle.ipp_codec.specs.Spelling.{counted}
use Rattle.ipp_codec.specs.FirstFault.{IsCut, IsTooLong}
use Rattle.ipp_codec.specs.Reading.{counted_at}

abbrev pub IsBytes : List ℕ → Type 0
IsBytes bytes = (i : ℕ) → get_or bytes i 0 < 256

pub IsBytes-drop : (n : ℕ) (bytes : List ℕ) → IsBytes bytes → IsBytes (drop n bytes)
IsBytes-drop n bytes h i = rw get_or-drop (h (n + i))

pub IsBytes-take : (n : ℕ) (bytes : List ℕ) → IsBytes bytes → IsBytes (take n bytes)
IsBytes-take n bytes h i =
    elim (cases_lt i n) [
      | inl lt ↦ rw (get_or-take n bytes i 0 lt) (h i)
      | inr le ↦ rw (get_or_past (take n bytes) i 0 (omega (arith, length-take n bytes))) (omega arith)
    ]

pub IsBytes-rest : (b : ℕ) (bytes : List ℕ) → IsBytes (b ∷ bytes) → IsBytes bytes
IsBytes-rest b bytes h i = h (suc i)

-- which way a test went
pub chosen : {A : Type 0} (b : Bool) (x y z : A) → cond b x y ≡ z → ((b ≡ true) × (x ≡ z)) ⊎ ((b ≡ false) × (y ≡ z))
chosen true x y z e = inl (refl, e)
chosen false x y z e = inr (refl, e)

abbrev Read : Type 0
Read = Result (List ℕ × List ℕ) CodecFault

pub record IsCounted (bytes field rest : List ℕ) : Type 0 where
  pub joined : bytes ≡ counted field ++ rest
  pub below : length field < 0x8000
  pub rest_fits : IsBytes rest

-- the bytes of a number below 0x8000
cells : (high low n : ℕ) → high < 128 → low < 256 → n ≡ 256 * high + low → (n / 256 % 256 ≡ high) × (n % 256 ≡ low)
cells high low n h l e = (omega arith, omega arith)

pub counted_takes : (bytes field rest : List ℕ) → IsBytes bytes → counted_at bytes ≡ Ok (field, rest) → IsCounted bytes field rest
unfolding counted_at
counted_takes [] field rest fits e = absurd cc
counted_takes (_ ∷ []) field rest fits e = absurd cc
counted_takes (high ∷ low ∷ bytes) field rest fits e =
    let n = 256 * high + low in
    elim (chosen (leb 128 high) (Err BadLength) _ (Ok (field, rest)) e) [
      | inl h ↦ absurd cc
      | inr h ↦ elim (chosen (ltb (length bytes) n) (Err Short) (Ok (take n bytes, drop n bytes)) (Ok (field, rest)) h.1) [
        | inl g ↦ absurd cc
        | inr g ↦
            let long : n ≤ length bytes = ltb-false _ _ g.0 in
            let len : length (take n bytes) ≡ n = omega (arith, length-take n bytes) in
            let small : high < 128 = leb-false _ _ h.0 in
            let both = cells high low (length (take n bytes)) small (fits 1) len in
            let whole : IsCounted (high ∷ low ∷ bytes) (take n bytes) (drop n bytes) = record {
              joined = rw (both.0, both.1) (ap (λ (t : List ℕ). high ∷ low ∷ t) (sym (take-append-drop n bytes)));
              below = omega (arith, fits 1);
              rest_fits = IsBytes-drop n bytes (λ i. fits (suc (suc i)));
            } in
            let same : (take n bytes, drop n bytes) ≡ (field, rest) = cc in
            subst (λ (p : List ℕ × List ℕ). IsCounted (high ∷ low ∷ bytes) p.0 p.1) same whole
      ]
    ]

pub counted_again : (field rest : List ℕ) → length field < 0x8000 → counted_at (counted field ++ rest) ≡ Ok (field, rest)
unfolding counted_at
counted_again field rest lt =
    let n : 256 * (length field / 256 % 256) + length field % 256 ≡ length field = omega arith in
    let short : leb 128 (length field / 256 % 256) ≡ false = lt-leb _ _ (omega arith) in
    let long : ltb (length (field ++ rest)) (length field) ≡ false = le-ltb _ _ (omega (arith, length-append field rest)) in
    rw (short, n, long, take_at field rest (length field) refl, drop_at field rest (length field) refl) refl

-- why a counted field isn't read
pub counted_fault : (bytes : List ℕ) (f : CodecFault) → counted_at bytes ≡ Err f → ((f ≡ Short) × IsCut bytes) ⊎ ((f ≡ BadLength) × IsTooLong bytes)
unfolding counted_at
counted_fault [] f e = inl (cc, tt)
counted_fault (b ∷ []) f e = inl (cc, tt)
counted_fault (high ∷ low ∷ bytes) f e =
    elim (chosen (leb 128 high) (Err BadLength) _ (Err f) e) [
      | inl h ↦ inr (cc, leb-true _ _ h.0)
      | inr h ↦ elim (chosen (ltb (length bytes) (256 * high + low)) (Err Short) (Ok (take (256 * high + low) bytes, drop (256 * high + low) bytes)) (Err f) h.1) [
        | inl g ↦ inl (cc, (leb-false _ _ h.0, ltb-true _ _ g.0))
        | inr g ↦ absurd cc
      ]
    ]
