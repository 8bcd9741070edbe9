-- The words of a line, counted.
use Rattle.std.proofs.Common.{◌≡◌, ◌≢◌, ℕ, ◌<◌, List, [], ◌∷◌, length, map, drop, get_or, Ok, Err, refl, arith}
use Rattle.plan_text.specs.declared.fault.TextFault.TheVariants.{BadLine}
use Rattle.plan_text.specs.Line.{PlanLine, only_word, first_word, alone_at}

pub one_word : {A : Type 0} (f : A → List ℕ) (words : List A) (d : A) → length words ≡ 1 → only_word (map f words) ≡ Ok (f (get_or words 0 d))
one_word f [] d e = absurd (omega (arith, e))
one_word f (word ∷ []) d e = refl
one_word f (word ∷ next ∷ words) d e = absurd (omega (arith, e))

pub not_one_word : {A : Type 0} (f : A → List ℕ) (words : List A) → length words ≢ 1 → only_word (map f words) ≡ Err BadLine
not_one_word f [] e = refl
not_one_word f (word ∷ []) e = absurd (e refl)
not_one_word f (word ∷ next ∷ words) e = refl

pub some_word : {A : Type 0} (f : A → List ℕ) (words : List A) (d : A) → 0 < length words → first_word (map f words) ≡ Ok (f (get_or words 0 d), map f (drop 1 words))
some_word f [] d e = absurd (omega (arith, e))
some_word f (word ∷ words) d e = refl

pub no_word : {A : Type 0} (f : A → List ℕ) (words : List A) → length words ≡ 0 → first_word (map f words) ≡ Err BadLine
no_word f [] e = refl
no_word f (word ∷ words) e = absurd (omega (arith, e))

pub alone : {A : Type 0} (line : PlanLine) (f : A → List ℕ) (words : List A) → length words ≡ 0 → alone_at line (map f words) ≡ Ok line
alone line f [] e = refl
alone line f (word ∷ words) e = absurd (omega (arith, e))

pub not_alone : {A : Type 0} (line : PlanLine) (f : A → List ℕ) (words : List A) → length words ≢ 0 → alone_at line (map f words) ≡ Err BadLine
not_alone line f [] e = absurd (e refl)
not_alone line f (word ∷ words) e = refl
