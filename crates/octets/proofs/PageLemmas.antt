-- Octets in pages: the octets put after them, and the place of an octet.
use Rattle.std.proofs.Common.{◌≡◌, ℕ, zero, suc, ◌+◌, ◌*◌, ◌/◌, ◌%◌, ◌<◌, ◌≤◌, List, [], ◌∷◌, ◌++◌, length, drop, get_or, refl, sym, ap, subst, ◌∙◌, append_assoc, arith}
use Rattle.std.specs.List.{AllByRecursion}
use Rattle.std.proofs.lemmas.List.{append-nil, length-append, length-drop, drop-append-le, drop_at, drop-drop}
use Rattle.octets.specs.declared.page.TheConstants.{PAGE_BYTES}
use Rattle.octets.specs.Document.{IsPrefixOf}
use Rattle.octets.specs.Pages.{joined, IsFull}

joined-append : (pages more : List (List ℕ)) → joined (pages ++ more) ≡ joined pages ++ joined more
joined-append [] more = refl
joined-append (page ∷ pages) more = ap (λ (l : List ℕ). page ++ l) (joined-append pages more) ∙ sym (append_assoc page (joined pages) (joined more))

pub full-append : (pages more : List (List ℕ)) → AllByRecursion IsFull pages → AllByRecursion IsFull more → AllByRecursion IsFull (pages ++ more)
full-append [] more a b = b
full-append (page ∷ pages) more a b = (a.0, full-append pages more a.1 b)

-- one page more
pub one_more : (octets : List ℕ) (pages : List (List ℕ)) (page rest tail : List ℕ) → octets ≡ joined pages ++ rest → rest ≡ page ++ tail → octets ≡ joined (pages ++ page ∷ []) ++ tail
one_more octets pages page rest tail is cut =
    is ∙ ap (λ (l : List ℕ). joined pages ++ l) cut ∙ sym (append_assoc (joined pages) page tail)
    ∙ ap (λ (l : List ℕ). l ++ tail) (sym (joined-append pages (page ∷ []) ∙ ap (λ (l : List ℕ). joined pages ++ l) (append-nil page)))

-- a last page that is filled, and pages after it
pub gone_on : (pages later : List (List ℕ)) (last prefix tail end segment : List ℕ) → tail ≡ joined later ++ end → segment ≡ prefix ++ tail → joined (pages ++ (last ++ prefix) ∷ later) ++ end ≡ (joined pages ++ last) ++ segment
gone_on pages later last prefix tail end segment is cut =
    ap (λ (l : List ℕ). l ++ end) (joined-append pages ((last ++ prefix) ∷ later))
    ∙ append_assoc (joined pages) ((last ++ prefix) ++ joined later) end
    ∙ ap (λ (l : List ℕ). joined pages ++ l) (append_assoc (last ++ prefix) (joined later) end ∙ ap (λ (l : List ℕ). (last ++ prefix) ++ l) (sym is) ∙ append_assoc last prefix tail ∙ ap (λ (l : List ℕ). last ++ l) (sym cut))
    ∙ sym (append_assoc (joined pages) last segment)

pub length-joined : (pages : List (List ℕ)) → AllByRecursion IsFull pages → length (joined pages) ≡ length pages * PAGE_BYTES
length-joined [] full = refl
length-joined (page ∷ pages) full = omega (arith, length-append page (joined pages), full.0, length-joined pages full.1)

-- from a place of a page on its octets are the prefix
abbrev IsAt : ℕ → List ℕ → List ℕ → Type 0
IsAt place page octets = (place ≤ length page) × IsPrefixOf (drop place page) octets

-- the octets from a place of a page on
page_at : (pages : List (List ℕ)) (end : List ℕ) (i r : ℕ) (d : List ℕ) → AllByRecursion IsFull pages → i < length pages → r < PAGE_BYTES → IsAt r (get_or pages i d) (drop (i * PAGE_BYTES + r) (joined pages ++ end))
page_at [] end i r d full low fits = absurd (omega (arith, low))
page_at (page ∷ pages) end zero r d full low fits =
    let place : zero * PAGE_BYTES + r ≡ r = omega arith in
    let cut : drop r ((page ++ joined pages) ++ end) ≡ drop r page ++ (joined pages ++ end) =
    ap (λ (l : List ℕ). drop r l) (append_assoc page (joined pages) end) ∙ drop-append-le r page (joined pages ++ end) (omega (arith, full.0, fits)) in (
      omega (arith, full.0, fits),
      record {
        prefix = (joined pages ++ end, ap (λ (n : ℕ). drop n ((page ++ joined pages) ++ end)) place ∙ cut);
        some = λ h. omega (arith, length-drop r page, full.0, fits);
      },
    )
page_at (page ∷ pages) end (suc i) r d full low fits =
    let place : suc i * PAGE_BYTES + r ≡ PAGE_BYTES + (i * PAGE_BYTES + r) = omega arith in
    let passed : drop (suc i * PAGE_BYTES + r) ((page ++ joined pages) ++ end) ≡ drop (i * PAGE_BYTES + r) (joined pages ++ end) =
    ap (λ (n : ℕ). drop n ((page ++ joined pages) ++ end)) place
    ∙ ap (λ (l : List ℕ). drop (PAGE_BYTES + (i * PAGE_BYTES + r)) l) (append_assoc page (joined pages) end)
    ∙ sym (drop-drop (i * PAGE_BYTES + r) PAGE_BYTES (page ++ (joined pages ++ end)))
    ∙ ap (λ (l : List ℕ). drop (i * PAGE_BYTES + r) l) (drop_at page (joined pages ++ end) PAGE_BYTES full.0) in
    subst (λ (l : List ℕ). IsAt r (get_or pages i d) l) (sym passed) (page_at pages end i r d full.1 (omega (arith, low)) fits)

pub in_page : (pages : List (List ℕ)) (end : List ℕ) (start : ℕ) (d : List ℕ) → AllByRecursion IsFull pages → start / PAGE_BYTES < length pages → IsAt (start % PAGE_BYTES) (get_or pages (start / PAGE_BYTES) d) (drop start (joined pages ++ end))
in_page pages end start d full low =
    let place : start / PAGE_BYTES * PAGE_BYTES + start % PAGE_BYTES ≡ start = omega arith in
    subst (λ (n : ℕ). IsAt (start % PAGE_BYTES) (get_or pages (start / PAGE_BYTES) d) (drop n (joined pages ++ end))) place
    (page_at pages end (start / PAGE_BYTES) (start % PAGE_BYTES) d full low (omega arith))

-- the octets from a place of the last page on
pub in_last : (pages : List (List ℕ)) (end : List ℕ) (start : ℕ) → AllByRecursion IsFull pages → length end < PAGE_BYTES → start ≤ length (joined pages ++ end) → length pages ≤ start / PAGE_BYTES → IsAt (start % PAGE_BYTES) end (drop start (joined pages ++ end))
in_last pages end start full room within high =
    let before : length (joined pages) ≡ length pages * PAGE_BYTES = length-joined pages full in
    let place : start ≡ length (joined pages) + start % PAGE_BYTES = omega (arith, before, high, room, within, length-append (joined pages) end) in
    let passed : drop start (joined pages ++ end) ≡ drop (start % PAGE_BYTES) end =
    ap (λ (n : ℕ). drop n (joined pages ++ end)) place
    ∙ sym (drop-drop (start % PAGE_BYTES) (length (joined pages)) (joined pages ++ end))
    ∙ ap (λ (l : List ℕ). drop (start % PAGE_BYTES) l) (drop_at (joined pages) end (length (joined pages)) refl) in (
      omega (arith, place, within, length-append (joined pages) end),
      record {
        prefix = ([], passed ∙ sym (append-nil (drop (start % PAGE_BYTES) end)));
        some = λ h. omega (arith, h, ap length passed);
      },
    )
