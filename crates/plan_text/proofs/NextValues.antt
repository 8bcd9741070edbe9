-- The words of a list, read one after another.
use Rattle.std.proofs.Common.{◌≡◌, ℕ, ◌+◌, ◌<◌, List, [], ◌∷◌, ◌++◌, Result, Ok, Err, Bor, map, drop, length, get_or, refl, ap, append_assoc}
use Rattle.std.proofs.lemmas.List.{drop_more}
use Rattle.text.specs.Steps.{◌>>=◌}
use Rattle.plan_text.specs.declared.fault.TextFault.{TextFault}
use Rattle.plan_text.specs.Reading.{with_prefix}

after_prefix : {X : Type 0} (prefix : List X) (x : X) (rest : Result (List X) TextFault) → with_prefix (prefix ++ x ∷ []) rest ≡ with_prefix prefix (rest >>= λ xs. Ok (x ∷ xs))
after_prefix prefix x (Ok xs) = ap Ok (append_assoc prefix (x ∷ []) xs)
after_prefix prefix x (Err fault) = refl

-- the value of the next word, after those before
pub next_value : {X : Type 0} (one : List ℕ → Result X TextFault) (all : List (List ℕ) → Result (List X) TextFault) →
    ((word : List ℕ) (words : List (List ℕ)) → all (word ∷ words) ≡ (one word >>= λ x. (all words >>= λ xs. Ok (x ∷ xs)))) →
    (prefix : List X) (words : List (Bor (List ℕ))) (i : ℕ) (d : Bor (List ℕ)) (x : X) →
    i < length words → Ok x ≡ one (get_or words i d).now →
    with_prefix (prefix ++ x ∷ []) (all (map (λ word. word.now) (drop (i + 1) words))) ≡ with_prefix prefix (all (map (λ word. word.now) (drop i words)))
next_value one all step prefix words i d x inside read =
    let rest = map (λ word. word.now) (drop (i + 1) words) in
    rw (drop_more words i d inside, step (get_or words i d).now rest, ← read) (after_prefix prefix x (all rest))
