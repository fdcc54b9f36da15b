-- The words that the judge and the analyser's readings are answered with.
use Rattle.std.specs.Prelude.{List, [], ◌∷◌, ℕ, Float}
use Rattle.refusal.specs.Outcome.{Outcome}
use Rattle.refusal.specs.Outcome.Outcome.{given}
use Rattle.reading.specs.declared.Reading.{Reading}
use Rattle.reading.specs.declared.Words.{Words}
use Rattle.reading.specs.Readings.{analysed_of, words_of}
use Rattle.judge.specs.Judgements.{Four, four_words, judgement_of}
use Rattle.analyser.specs.Codes.{and_then}

-- a record: 'its verdicts', or the number of the first of its own tests, 1 to 7, that refuses it
unfoldable pub judged_words : List ℕ → Outcome (List ℕ)
judged_words s = and_then (judgement_of s) (λ (v : Four). given (four_words v))

-- 'a mark and the bits of an f32'
abbrev pub pair_of : Words → List ℕ
pair_of w = w.mark ∷ w.bits ∷ []

unfoldable pub reading_words : Reading → Outcome (List ℕ)
reading_words r = and_then (words_of r) (λ (w : Words). given (pair_of w))

-- 'the analyser itself holds a float value and a float limit for each reading': the reading that they become, as a record has it
unfoldable pub analysed_words : Float → Float → Outcome (List ℕ)
analysed_words value limit = and_then (analysed_of value limit) reading_words
