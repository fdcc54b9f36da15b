-- Choices among ranges: hydrogen by one rule for both kinds of pH, whole amounts, and m parts of one choice with n of another.
-- Ranges that are proper have choices.
use mathlib.Core.Path.{◌≡◌}
use mathlib.Core.Bool.{Bool, true, false}
use Prim.Native.Nat.{ℕ, ◌+◌, ◌-◌, ◌*◌, ◌≤◌, ◌<◌}
use native.Mathlib.Nat.{add-mul, mul-le-mul_left, mul-le-mul_right, mul-pos, le_refl}
use native.Mathlib.Omega.{arith}
use Rattle.solution.specs.Solutions.{gap}
use Rattle.judge.specs.Choices.{InBracket, Ranges, Choice, Hydrogen, Among}

-- hydrogen is from e above h to e below h + e, e the gap
pub hydrogen-low : (b : Bool) (h n d : ℕ) → Hydrogen b h n d → h * d + gap b ≤ n
hydrogen-low true h n d e = omega arith
hydrogen-low false h n d e = omega arith

pub hydrogen-high : (b : Bool) (h n d : ℕ) → Hydrogen b h n d → n + gap b ≤ (h + gap b) * d
hydrogen-high true h n d e = omega (arith, add-mul h 0 d)
hydrogen-high false h n d e = omega arith

hydrogen-of : (b : Bool) (h n d : ℕ) → h * d + gap b ≤ n → n + gap b ≤ (h + gap b) * d → Hydrogen b h n d
hydrogen-of true h n d x y = omega (arith, add-mul h 0 d)
hydrogen-of false h n d x y = omega arith

-- m parts of one choice and n of another with the same divisor, at the correction of the first
abbrev pub mix : Choice → Choice → ℕ → ℕ → Choice
mix x z m n =
    record {
      divisor = x.divisor * (m + n);
      amount = λ i. x.amount i * m + z.amount i * n;
      hydrogen = x.hydrogen * m + z.hydrogen * n;
      correction = x.correction;
      correction_divisor = x.correction_divisor;
    }

-- what is over l d + e at both is over it in the mixture
mix-over : (l d e a b m n : ℕ) → 0 < m + n → l * d + e ≤ a → l * d + e ≤ b → l * (d * (m + n)) + e ≤ a * m + b * n
mix-over l d e a b m n z x y = omega (arith, mul-le-mul_right m x, mul-le-mul_right n y, mul-le-mul_left e z)

mix-under : (g d e a b m n : ℕ) → 0 < m + n → a + e ≤ g * d → b + e ≤ g * d → a * m + b * n + e ≤ g * (d * (m + n))
mix-under g d e a b m n z x y = omega (arith, mul-le-mul_right m x, mul-le-mul_right n y, mul-le-mul_left e z)

module _ (r : Ranges) (x z : Choice) (same : z.divisor ≡ x.divisor) (a : Among r x) (b : Among r z) (m n : ℕ) (some : 0 < m + n) where
  pub mixed-among : Among r (mix x z m n)
  mixed-among =
      let d : ℕ = x.divisor in
      let h : ℕ = r.floor in
      let e : ℕ = gap r.whole in
      let z' : Choice =
      record { divisor = d; amount = z.amount; hydrogen = z.hydrogen; correction = z.correction; correction_divisor = z.correction_divisor } in
      let b' : Among r z' = rw same at b in
      let v = a.values in
      let v' = b'.values in
      record {
        values =
            record {
              divides = mul-pos v.divides some;
              over = λ i.
                  omega (arith, mix-over (r.least i) d 0 (x.amount i) (z.amount i) m n some (omega (arith, v.over i)) (omega (arith, v'.over i)));
              under = λ i.
                  omega (arith, mix-under (r.greatest i) d 0 (x.amount i) (z.amount i) m n some (omega (arith, v.under i)) (omega (arith, v'.under i)));
              correction = v.correction;
            };
        hydrogen =
            hydrogen-of r.whole h (x.hydrogen * m + z.hydrogen * n) (d * (m + n))
            (mix-over h d e x.hydrogen z.hydrogen m n some
            (hydrogen-low r.whole h x.hydrogen d a.hydrogen) (hydrogen-low r.whole h z.hydrogen d b'.hydrogen))
            (mix-under (h + e) d e x.hydrogen z.hydrogen m n some
            (hydrogen-high r.whole h x.hydrogen d a.hydrogen) (hydrogen-high r.whole h z.hydrogen d b'.hydrogen));
      }

-- the least is not above the greatest, and the correction is above 0
pub record Proper (r : Ranges) : Type 0 where
  pub ordered : (i : ℕ) → r.least i ≤ r.greatest i
  pub unit : 0 < r.correction.unit
  pub some : 0 < r.correction.least
  pub bracket : r.correction.least ≤ r.correction.most

-- whole amounts with hydrogen n / k and the correction y / d
abbrev pub at : (ℕ → ℕ) → ℕ → ℕ → ℕ → ℕ → Choice
at a k n y d = record { divisor = k; amount = λ i. a i * k; hydrogen = n; correction = y; correction_divisor = d }

-- hydrogen a k-th above its low end, and a k-th below its high end, or the floor itself
abbrev pub lowest : Ranges → ℕ → ℕ
lowest r k = r.floor * k + gap r.whole

abbrev pub highest : Ranges → ℕ → ℕ
highest r k = (r.floor + gap r.whole) * k - gap r.whole

module _ (r : Ranges) (w : Proper r) where
  -- the correction: m parts of its least and n of its most; its least; its most
  pub correction-mix : (m n : ℕ) → 0 < m + n → InBracket r.correction (r.correction.least * m + r.correction.most * n) (r.correction.unit * (m + n))
  correction-mix m n some =
      record {
        divides = mul-pos w.unit some;
        over = omega (arith, mul-le-mul_left (r.correction.unit * n) w.bracket);
        under = omega (arith, mul-le-mul_left (r.correction.unit * m) w.bracket);
      }

  pub correction-least : InBracket r.correction r.correction.least r.correction.unit
  correction-least = record { divides = w.unit; over = omega arith; under = omega (arith, mul-le-mul_left r.correction.unit w.bracket) }

  pub correction-most : InBracket r.correction r.correction.most r.correction.unit
  correction-most = record { divides = w.unit; over = omega (arith, mul-le-mul_left r.correction.unit w.bracket); under = omega arith }

module _ (r : Ranges) (a : ℕ → ℕ) (over : (i : ℕ) → r.least i ≤ a i) (under : (i : ℕ) → a i ≤ r.greatest i) (k : ℕ) (two : 2 ≤ k) (y d : ℕ)
    (q : InBracket r.correction y d) where
  at-among : (n : ℕ) → r.floor * k + gap r.whole ≤ n → n + gap r.whole ≤ (r.floor + gap r.whole) * k → Among r (at a k n y d)
  at-among n low high =
      record {
        values =
            record {
              divides = omega arith;
              over = λ i. mul-le-mul_right k (over i);
              under = λ i. mul-le-mul_right k (under i);
              correction = q;
            };
        hydrogen = hydrogen-of r.whole r.floor n k low high;
      }

  pub low-among : Among r (at a k (lowest r k) y d)
  low-among = at-among (lowest r k) (le_refl _) (omega (arith, mul-le-mul_left (gap r.whole) two))

  pub high-among : Among r (at a k (highest r k) y d)
  high-among = at-among (highest r k) (omega (arith, mul-le-mul_left (gap r.whole) two)) (omega (arith, mul-le-mul_left (gap r.whole) two))
