-- 10^9 y² lies in the bracket at every root between the lower and the upper one.
use mathlib.Core.Path.{◌≡◌, sym, ap, ◌∙◌}
use Prim.Native.Nat.{ℕ, ◌+◌, ◌-◌, ◌*◌, ◌^◌, ◌≤◌, ◌<◌}
use native.Mathlib.Nat.{le_trans, le_of_lt, pow-le-pow_left, pow-le-pow_right, mul_comm, mul-le-mul_right, le_of_mul-le-mul_right}
use native.Mathlib.Omega.{arith}
use Rattle.activity.specs.Strength.{strongest, lower_root, upper_root}
use Rattle.activity.specs.Exponent.{top, bottom, million, thousand, lower_exponent, upper_exponent}
use Rattle.activity.specs.Floors.{places, thousandth_power, power, floor_at}
use Rattle.activity.specs.Brackets.{lower_end, upper_end}
use Rattle.activity.specs.Truth.{ActivityAtLeast, ActivityAtMost, UpToHalf, SquareAtMost, SquareAtLeast, TrueAtLeast, TrueAtMost, Holds}
use Rattle.activity.specs.Steps.{greatest_root}
use Rattle.activity.proofs.Powers.{pow-mul, le-back, square-back}
use Rattle.activity.proofs.RootLaws.{lower-root, upper-root, lower-root-small, upper-root-small}
use Rattle.activity.proofs.Grows.{not-falling, top-most, bottom-positive}
use Rattle.activity.proofs.ExponentLaws.{not-above-more, not-below-less, lower-exponent, upper-exponent, lower-exponent-small, upper-exponent-small}
use Rattle.activity.proofs.FloorLaws.{floor-of-power, floor-next}

-- the two exponents of 10, over one divisor: m is 9000 − n, and s is 9 b − t
over-one : (m n s t b : ℕ) → m + n ≡ places * thousand → s + t ≡ places * b → thousand * t ≤ n * b → m * b ≤ s * thousand
over-one m n s t b em es h = omega (arith, ap (λ (x : ℕ). x * b) em)

under_one : (m n s t b : ℕ) → m + n ≡ places * thousand → s + t ≡ places * b → n * b ≤ thousand * t → s * thousand ≤ m * b
under_one m n s t b em es h = omega (arith, ap (λ (x : ℕ). x * b) em)

-- x against 10^(9 − n/1000), and so against 10^(9 − t/b) where t / b is at most, or at least, n / 1000
module _ (x n t b : ℕ) (small : n ≤ places * thousand) (most : t ≤ b) where
  swap : thousandth_power (x ^ b) ≡ thousandth_power x ^ b
  swap = sym (pow-mul x b thousand) ∙ ap (λ (m : ℕ). x ^ m) (mul_comm b thousand) ∙ pow-mul x thousand b

  tens : thousandth_power (10 ^ (places * b - t)) ≡ 10 ^ ((places * b - t) * thousand)
  tens = sym (pow-mul 10 (places * b - t) thousand)

  thousandths : power n ^ b ≡ 10 ^ ((places * thousand - n) * b)
  unfolding power
  thousandths = sym (pow-mul 10 (places * thousand - n) b)

  at_least : thousandth_power x ≤ power n → thousand * t ≤ n * b → x ^ b ≤ 10 ^ (places * b - t)
  at_least l h =
      le-back (rw (swap, tens) (le_trans (pow-le-pow_left l b) (rw thousandths (pow-le-pow_right {n = 10} (omega arith) fewer))))
    where
      fewer : (places * thousand - n) * b ≤ (places * b - t) * thousand
      fewer = over-one (places * thousand - n) n (places * b - t) t b (omega arith) (omega arith) h

  at_most : power n ≤ thousandth_power x → n * b ≤ thousand * t → 10 ^ (places * b - t) ≤ x ^ b
  at_most l h =
      le-back (rw (swap, tens) (le_trans (rw thousandths (pow-le-pow_right {n = 10} (omega arith) more)) (pow-le-pow_left l b)))
    where
      more : (places * b - t) * thousand ≤ (places * thousand - n) * b
      more = under_one (places * thousand - n) n (places * b - t) t b (omega arith) (omega arith) h

-- at a fraction a / b up to the upper root
module _ (greatest a b : ℕ) (weak : greatest ≤ strongest) (r : million * a ≤ upper_root greatest * b) where
  up-to-half : UpToHalf a b
  up-to-half = omega (arith, mul-le-mul_right b (upper-root-small greatest weak))

  over : ActivityAtLeast a b (lower_end greatest)
  unfolding lower_end
  over =
      at_least (floor_at n) n (top a b) (bottom a b) (omega (arith, upper-exponent-small k k-small)) (top-most a b)
      (floor-of-power n).one
      (not-below-less n (top a b) (bottom a b) (top k million) (bottom k million) (bottom-positive k million (omega arith))
      (not-falling a b k million up-to-half (omega (arith, k-small)) (omega arith))
      (upper-exponent k).one)
    where
      k : ℕ
      k = upper_root greatest

      n : ℕ
      n = upper_exponent (upper_root greatest)

      k-small : k ≤ greatest_root
      k-small = upper-root-small greatest weak

-- at a fraction from the lower root on
under : (least a b : ℕ) → least ≤ strongest → lower_root least * b ≤ million * a → UpToHalf a b → ActivityAtMost a b (upper_end least)
unfolding upper_end
under least a b weak r half =
    at_most (floor_at n + 1) n (top a b) (bottom a b) (omega (arith, lower-exponent-small k k-small)) (top-most a b)
    (le_of_lt (floor-next n))
    (not-above-more n (top k million) (bottom k million) (top a b) (bottom a b) (bottom-positive k million (omega arith))
    (not-falling k million a b (omega (arith, k-small)) half (omega arith))
    (lower-exponent k).one)
  where
    k : ℕ
    k = lower_root least

    n : ℕ
    n = lower_exponent (lower_root least)

    k-small : k ≤ greatest_root
    k-small = lower-root-small least weak

-- a fraction not above the root of a strength is not above the upper root of a greater one; and the other way round
module _ (w q a b : ℕ) (divides : 0 < q) where
  below-upper : (greatest : ℕ) → w ≤ greatest * q → SquareAtMost a b w q → million * a ≤ upper_root greatest * b
  below-upper greatest g h =
      square-back (million * a) (upper_root greatest * b)
      (le_of_mul-le-mul_right {k = q}
      (omega (arith, h, mul-le-mul_right (b * b) g, mul-le-mul_right (b * b * q) (upper-root greatest).one))
      divides)

  above_lower : (least : ℕ) → least * q ≤ w → SquareAtLeast a b w q → lower_root least * b ≤ million * a
  above_lower least l h =
      square-back (lower_root least * b) (million * a)
      (le_of_mul-le-mul_right {k = q}
      (omega (arith, h, mul-le-mul_right (b * b) l, mul-le-mul_right (b * b * q) (lower-root least).one))
      divides)

module _ (least greatest : ℕ) (l : least ≤ strongest) (g : greatest ≤ strongest) where
  at-root : (w q : ℕ) → 0 < q → least * q ≤ w → w ≤ greatest * q
      → TrueAtLeast w q (lower_end greatest) × TrueAtMost w q (upper_end least)
  at-root w q z from to = (
    λ a b y h. over greatest a b g (below-upper w q a b z greatest to h),
    λ a b y half h. under least a b l (above_lower w q a b z least from h) half,
  )

  at-fraction : (a b : ℕ) → 0 < b → SquareAtLeast a b least 1 → SquareAtMost a b greatest 1
      → ActivityAtLeast a b (lower_end greatest) × ActivityAtMost a b (upper_end least)
  at-fraction a b z from to =
      let r : million * a ≤ upper_root greatest * b = below-upper greatest 1 a b (omega arith) greatest (omega arith) to in (
        over greatest a b g r,
        under least a b l (above_lower least 1 a b (omega arith) least (omega arith) from) (up-to-half greatest a b g r),
      )

  pub bracket-holds : Holds least greatest
  bracket-holds = record { at-root = at-root; at-fraction = at-fraction }
