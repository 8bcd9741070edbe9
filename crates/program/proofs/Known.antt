-- Known bytes over several writes and reads.
use Rattle.std.proofs.Common.{◌≡◌, ℕ, List, [], ◌∷◌, ◌++◌, Option, Some, None, refl, sym, ap, ◌∙◌}
use Rattle.std.specs.Io.KnownBytes.{Appends, Consumes}

append_assoc : (xs ys zs : List ℕ) → (xs ++ ys) ++ zs ≡ xs ++ (ys ++ zs)
append_assoc [] ys zs = refl
append_assoc (x ∷ xs) ys zs = ap (λ l. x ∷ l) (append_assoc xs ys zs)

-- one write after another
pub appends_more : (a b c : Option (List ℕ)) (xs ys : List ℕ) → Appends a b xs → Appends b c ys → Appends a c (xs ++ ys)
appends_more None b c xs ys h k = tt
appends_more (Some p) None c xs ys h k = absurd h
appends_more (Some p) (Some q) None xs ys h k = absurd k
appends_more (Some p) (Some q) (Some r) xs ys h k = k ∙ ap (λ l. l ++ ys) h ∙ append_assoc p xs ys

-- one read after another
pub consumes_more : (a b c : Option (List ℕ)) (xs ys : List ℕ) → Consumes a b xs → Consumes b c ys → Consumes a c (xs ++ ys)
consumes_more None b c xs ys h k = tt
consumes_more (Some p) None c xs ys h k = absurd h
consumes_more (Some p) (Some q) None xs ys h k = absurd k
consumes_more (Some p) (Some q) (Some r) xs ys h k = h ∙ ap (λ l. xs ++ l) k ∙ sym (append_assoc xs ys r)
