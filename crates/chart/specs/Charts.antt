-- Document 01, 'Charts': what is answered to a chart alone.
use Rattle.std.specs.Prelude.{List, [], ◌∷◌, ◌++◌, ℕ, zero, suc, ◌-◌, length, get_or}
use Rattle.refusal.specs.Outcome.{Outcome}
use Rattle.refusal.specs.Outcome.Outcome.{given}
use Rattle.chart.specs.Values.{tested}
use Rattle.chart.specs.Setups.{SetupTerms, setup_of}
use Rattle.chart.specs.Rules.{signal_at}

-- the words of the first k later values
unfoldable pub first_words : SetupTerms → List ℕ → ℕ → List ℕ
first_words f later zero = []
first_words f later (suc k) = first_words f later k ++ (signal_at f later k ∷ [])

-- 'One output word per later value.'
unfoldable pub signal_words : List ℕ → List ℕ → List ℕ
signal_words setup later = first_words (setup_of setup) later (length later)

-- the last of them; 'a chart without later values has no signal'
unfoldable pub last_word : List ℕ → List ℕ → ℕ
last_word setup later = get_or (signal_words setup later) (length later - 1) 0

-- what is answered. 'a chart alone, two slices without an element, 9, 10, 13': the tests 9 and 10 of its values come first
unfoldable pub signals_of : List ℕ → List ℕ → Outcome (List ℕ)
signals_of setup later = tested setup later (given (signal_words setup later))

unfoldable pub last_signal_of : List ℕ → List ℕ → Outcome ℕ
last_signal_of setup later = tested setup later (given (last_word setup later))
