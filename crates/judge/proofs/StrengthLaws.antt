-- The ionic strength of every choice is between the least and the greatest of the record, so y² by its root is in the bracket.
use mathlib.Core.Path.{refl}
use mathlib.Core.List.{List}
use Prim.Native.Nat.{ℕ, ◌*◌, ◌≤◌}
use native.Mathlib.Nat.{le_trans, mul-le-mul_right}
use native.Mathlib.Omega.{arith}
use Rattle.activity.specs.Truth.{Holds}
use Rattle.activity.proofs.Laws.{bracket-holds}
use Rattle.hydrogen.specs.Floors.{floor_at, is_whole}
use Rattle.record.specs.Record.{readings, ph_of, alkalinity_of}
use Rattle.record.proofs.AcceptedLaws.{Valid}
use Rattle.solution.specs.Ions.{strength_added}
use Rattle.solution.specs.Solutions.{SumRanges, sum_ranges_of, least_at, greatest_at}
use Rattle.solution.proofs.SumLaws.{sum_over, sum-under}
use Rattle.solution.proofs.SolutionLaws.{record-bounded}
use Rattle.judge.specs.Choices.{Choice, Among}
use Rattle.judge.specs.Ranges.{correction_with, ranges_of}
use Rattle.judge.specs.Conductivity.{strength_of}
use Rattle.judge.specs.Truth.{ActivityTruth}
use Rattle.judge.proofs.Mixing.{hydrogen-low, hydrogen-high}
use Rattle.judge.proofs.CorrectionLaws.{weak, weaker}

module _ (s : List ℕ) where
  abbrev x : SumRanges
  x = sum_ranges_of s

  module _ (c : Choice) (a : Among (ranges_of s) c) where
    strength-over : x.least.strength * c.divisor ≤ strength_of (alkalinity_of s) c
    strength-over =
        omega (
          arith,
          hydrogen-low (is_whole (ph_of s)) (floor_at (ph_of s)) c.hydrogen c.divisor a.hydrogen,
          sum_over strength_added (least_at s) c.amount c.divisor readings a.values.over,
        )

    strength-under : strength_of (alkalinity_of s) c ≤ x.most.strength * c.divisor
    strength-under =
        omega (
          arith,
          hydrogen-high (is_whole (ph_of s)) (floor_at (ph_of s)) c.hydrogen c.divisor a.hydrogen,
          sum-under strength_added (greatest_at s) c.amount c.divisor readings a.values.under,
        )

  module _ (valid : Valid s) where
    holds : Holds x.least.strength x.most.strength
    holds = let b = record-bounded s valid in bracket-holds x.least.strength x.most.strength (weaker x b) (weak x b)

    pub activity-truth : ActivityTruth s
    unfolding correction_with
    activity-truth =
        record {
          over = λ c a. (holds.at-root (strength_of (alkalinity_of s) c) c.divisor a.values.divides (strength-over c a) (strength-under c a)).0;
          under = λ c a. (holds.at-root (strength_of (alkalinity_of s) c) c.divisor a.values.divides (strength-over c a) (strength-under c a)).1;
          billionths = refl;
          weak = λ c a. le_trans (strength-under c a) (mul-le-mul_right c.divisor (weak x (record-bounded s valid)));
        }
