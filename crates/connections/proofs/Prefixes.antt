-- Prefixes of octets, part after part.
use Rattle.std.proofs.Common.{◌≡◌, ◌+◌, ◌≤◌, ℕ, List, [], ◌++◌, length, drop, refl, sym, ap, subst, ◌∙◌, append_assoc, arith}
use Rattle.std.proofs.lemmas.List.{append-nil, length-append, length-drop, drop-drop, drop_at}
use Rattle.octets.specs.Document.{IsPrefixOf}

-- a prefix of octets is no longer than these octets
pub prefix_within : (segment octets : List ℕ) (start : ℕ) → start ≤ length octets → IsPrefixOf segment (drop start octets) → start + length segment ≤ length octets
prefix_within segment octets start low is = omega (arith, low, ap length is.prefix.1, length-append segment is.prefix.0, length-drop start octets)

pub prefix_at_most : (segment octets : List ℕ) → IsPrefixOf segment octets → length segment ≤ length octets
prefix_at_most segment octets is = omega (arith, ap length is.prefix.1, length-append segment is.prefix.0)

-- a part, and a prefix of the octets after it
pub part_more : (octets part more : List ℕ) (start tail : ℕ) → IsPrefixOf part (drop start octets) → tail ≡ start + length part → IsPrefixOf more (drop tail octets) → IsPrefixOf (part ++ more) (drop start octets)
part_more octets part more start tail is next goes_on =
    let left = is.prefix.0 in
    let rest : drop tail octets ≡ left =
    ap (λ (n : ℕ). drop n octets) next ∙ sym (drop-drop (length part) start octets)
    ∙ ap (λ (l : List ℕ). drop (length part) l) is.prefix.1 ∙ drop_at part left (length part) refl in
    record {
      prefix = (goes_on.prefix.0, is.prefix.1 ∙ ap (λ (l : List ℕ). part ++ l) (sym rest ∙ goes_on.prefix.1) ∙ sym (append_assoc part more goes_on.prefix.0));
      some = λ some. omega (arith, is.some some, length-append part more);
    }

-- the last part, and nothing after it
pub part_alone : (octets part : List ℕ) (start : ℕ) → IsPrefixOf part (drop start octets) → IsPrefixOf (part ++ []) (drop start octets)
part_alone octets part start is = subst (λ (l : List ℕ). IsPrefixOf l (drop start octets)) (sym (append-nil part)) is
