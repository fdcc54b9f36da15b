-- Sums are the same where each of them is, and ranges of sums where both ends are.
use mathlib.Core.Path.{◌≡◌}
use Rattle.solution.specs.Solutions.{Sums, SumRanges}

pub record Same (x y : Sums) : Type 0 where
  pub cations : x.cations ≡ y.cations
  pub anions : x.anions ≡ y.anions
  pub calculated : x.calculated ≡ y.calculated
  pub measured : x.measured ≡ y.measured
  pub strength : x.strength ≡ y.strength
  pub sodium : x.sodium ≡ y.sodium
  pub chloride : x.chloride ≡ y.chloride
  pub mineral : x.mineral ≡ y.mineral
  pub total : x.total ≡ y.total

pub same-sums : {x y : Sums} → Same x y → x ≡ y
same-sums s =
    λ i.
    record {
      cations = s.cations i;
      anions = s.anions i;
      calculated = s.calculated i;
      measured = s.measured i;
      strength = s.strength i;
      sodium = s.sodium i;
      chloride = s.chloride i;
      mineral = s.mineral i;
      total = s.total i;
    }

pub same-ranges : {x y : SumRanges} → x.known ≡ y.known → x.whole ≡ y.whole → x.least ≡ y.least → x.most ≡ y.most → x ≡ y
same-ranges a b c d = λ i. record { known = a i; whole = b i; least = c i; most = d i }
