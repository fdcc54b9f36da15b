-- For the crates above: the last signal of a chart whose counts fit.
use mathlib.Core.Path.{◌≡◌}
use mathlib.Core.Bool.{true, false, ◌&&◌}
use mathlib.Core.List.{List}
use Prim.Native.Nat.{ℕ}
use lib.ListN.{length}
use Rattle.refusal.specs.Outcome.Outcome.{given, refused}
use Rattle.refusal.specs.Numbers.{number_of}
use Rattle.refusal.specs.declared.Refusal.TheVariants as refusal
use Rattle.chart.specs.Values.{all_values, counts_fit}
use Rattle.chart.proofs.ValueLaws.{values-refused}
use Rattle.chart.specs.Charts.{last_word, last_signal_of}
use Rattle.chart.proofs.ValidLaws as valid

module _ (a l : List ℕ) (fits : counts_fit (length a) (length l) ≡ true) where
  pub last-given : all_values a ≡ true → all_values l ≡ true → last_signal_of a l ≡ given (last_word a l)
  last-given p q = valid.last-given (record { counts = fits; setup = p; later = q })

  pub last-refused : (all_values a && all_values l) ≡ false → last_signal_of a l ≡ refused (number_of refusal.Chart)
  unfolding last_signal_of
  last-refused e = values-refused a l (given (last_word a l)) fits e
