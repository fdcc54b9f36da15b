-- What is answered to a chart's values that the tests refuse, and to those that they accept.
use mathlib.Core.Path.{◌≡◌, sym}
use mathlib.Core.List.{List, ◌++◌}
use Prim.Native.Nat.{ℕ, ◌≤◌, ◌<◌}
use lib.ListN.{length, take, drop}
use Rattle.refusal.specs.Outcome.Outcome.{given, refused}
use Rattle.refusal.specs.Numbers.{number_of}
use Rattle.refusal.specs.declared.Refusal.TheVariants as refusal
use Rattle.refusal.proofs.LentLaws as lent
use Rattle.refusal.proofs.LentLaws.{Answers}
use Rattle.chart.specs.Values.{tested}
use Rattle.chart.proofs.ValueLaws.{Valid, valid-passes, refused-for-all}
use Rattle.chart.specs.Setups.{setup_of}
use Rattle.chart.specs.Charts.{first_words, signal_words, signals_of, last_word, last_signal_of}
use Rattle.chart.proofs.WordLaws.{length-words, all-written}

module _ (a l : List ℕ) {A : Type 0} (x : A) {n : ℕ} (e : refused n ≡ tested a l (given x)) where
  pub signals-refused : refused n ≡ signals_of a l
  unfolding signals_of
  signals-refused = refused-for-all a l x e (given (signal_words a l))

  pub last-refused : refused n ≡ last_signal_of a l
  unfolding last_signal_of
  last-refused = refused-for-all a l x e (given (last_word a l))

module _ {a l : List ℕ} (v : Valid a l) where
  pub last-given : last_signal_of a l ≡ given (last_word a l)
  unfolding last_signal_of
  last-given = valid-passes a l (given (last_word a l)) v

  signals-given : signals_of a l ≡ given (signal_words a l)
  unfolding signals_of
  signals-given = valid-passes a l (given (signal_words a l)) v

  -- the two ways out of the call that writes its signal words
  module _ (old : List ℕ) where
    pub too_short : length old < length l → Answers (signals_of a l) old (refused (number_of refusal.OutputLength)) old
    too_short h = lent.too_short (signals_of a l) old (signal_words a l) signals-given (rw (length-words a l) h)

    pub written : (out : List ℕ) {i : ℕ} → length l ≤ length old → i ≡ length l → length out ≤ i → take i out ≡ first_words (setup_of a) l i
        → Answers (signals_of a l) old (given (length l)) (out ++ drop (length l) old)
    written out {i} h e short p =
        let n = length-words a l in
        lent.written (signals_of a l) old (signal_words a l) signals-given (rw n h) (sym n) (rw (n, all-written a l out e short p))
