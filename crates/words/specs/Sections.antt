-- Document 01, 'A batch': the words of parts that are given as values, and of a section of them.
use Rattle.std.specs.Prelude.{List, [], ◌∷◌, ◌++◌, ℕ, length}

unfoldable pub all_words : {A : Type 0} → (A → List ℕ) → List A → List ℕ
all_words words [] = []
all_words words (a ∷ l) = words a ++ all_words words l

-- 'Two sections, each after its count'
abbrev pub section_words : {A : Type 0} → (A → List ℕ) → List A → List ℕ
section_words words l = length l ∷ all_words words l
