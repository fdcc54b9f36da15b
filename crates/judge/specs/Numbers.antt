-- Document 01, 'The four checks': 'Verdicts: 0 not applicable, 1 within, 2 outside, 3 undecided, 4 a needed reading is missing.'
use Rattle.std.specs.Prelude.{ℕ}
use Rattle.judge.specs.declared.Verdict.{Verdict}
use Rattle.judge.specs.declared.Verdict.TheVariants as verdict

abbrev pub verdict_number : Verdict → ℕ
verdict_number verdict.NotApplicable = 0
verdict_number verdict.Within = 1
verdict_number verdict.Outside = 2
verdict_number verdict.Undecided = 3
verdict_number verdict.Missing = 4
