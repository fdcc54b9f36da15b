-- The corner tests as laws of whole numbers: what a test at a corner says of every pair of sums between the corners, and of a pair
-- a k-th off it.
use mathlib.Core.Path.{◌≡◌, refl, ap}
use mathlib.Core.Bool.{Bool, true, false}
use Prim.Native.Nat.{ℕ, ◌+◌, ◌*◌, ◌≤◌, ◌<◌}
use native.Mathlib.Nat.{mul-le-mul_left, mul-le-mul_right, mul-le-mul, mul-pos, le_of_mul-le-mul_left, lt_of_mul-lt-mul_left, eq_of_mul-eq-mul_left}
use native.Mathlib.Omega.{arith}
use Rattle.solution.specs.Solutions.{gap}

-- sums X and Y, d times, between the corners. A u of hydrogen adds q to X
pub record Between (b : Bool) (q x₀ x₁ y₀ y₁ d X Y : ℕ) : Type 0 where
  pub divides : 0 < d
  pub low : x₀ * d + q * gap b ≤ X
  pub high : X + q * gap b ≤ x₁ * d
  pub low' : y₀ * d ≤ Y
  pub high' : Y ≤ y₁ * d

-- the first sum multiplied by F / G, u times which is from f₀ to f₁: both sums u G times
product-low : (g f₀ u F G q x₀ d X : ℕ) → 0 < G → f₀ * G ≤ u * F → x₀ * d + q * g ≤ X → f₀ * x₀ * (G * d) + f₀ * q * g ≤ u * (F * X)
product-low g f₀ u F G q x₀ d X some low h = omega (arith, mul-le-mul low h, mul-le-mul_left (f₀ * q * g) some)

product_high : (g f₀ f₁ u F G q x₁ d X : ℕ) → 0 < G → f₀ * G ≤ u * F → u * F ≤ f₁ * G → X + q * g ≤ x₁ * d
    → u * (F * X) + f₀ * q * g ≤ f₁ * x₁ * (G * d)
product_high g f₀ f₁ u F G q x₁ d X some low high h = omega (arith, mul-le-mul high h, mul-le-mul_left (f₀ * q * g) some, mul-le-mul_right (q * g) low)

pub scaled : {b : Bool} {q x₀ x₁ y₀ y₁ d X Y : ℕ} (f₀ f₁ u F G : ℕ) → 0 < G → f₀ * G ≤ u * F → u * F ≤ f₁ * G → Between b q x₀ x₁ y₀ y₁ d X Y
    → Between b (f₀ * q) (f₀ * x₀) (f₁ * x₁) (u * y₀) (u * y₁) (G * d) (u * (F * X)) (u * (G * Y))
scaled {b} {q} {x₀} {x₁} {y₀} {y₁} {d} {X} {Y} f₀ f₁ u F G some low high w =
    record {
      divides = mul-pos some w.divides;
      low = product-low (gap b) f₀ u F G q x₀ d X some low w.low;
      high = product_high (gap b) f₀ f₁ u F G q x₁ d X some low high w.high;
      low' = omega (arith, mul-le-mul_left (u * G) w.low');
      high' = omega (arith, mul-le-mul_left (u * G) w.high');
    }

-- a common factor left out
pub unscaled : (u s l X Y : ℕ) → 0 < u → s * (u * X) ≤ l * (u * Y) → s * X ≤ l * Y
unscaled u s l X Y some h = le_of_mul-le-mul_left {k = u} (omega arith) some

pub unscaled-lt : (u s l X Y : ℕ) → s * (u * X) < l * (u * Y) → s * X < l * Y
unscaled-lt u s l X Y h = lt_of_mul-lt-mul_left u (omega arith)

module _ {q x₀ x₁ y₀ y₁ d X Y : ℕ} (s l : ℕ) where
  -- the best corner fails: all fail
  pub all-over : (b : Bool) → 0 < s → (b ≡ false → 0 < q) → Between b q x₀ x₁ y₀ y₁ d X Y → l * y₁ < s * x₀ + gap b → l * Y < s * X
  all-over true pos hq w h = omega (arith, mul-le-mul_right d h, mul-le-mul_left s w.low, mul-le-mul_left l w.high')
  all-over false pos hq w h = omega (arith, mul-pos pos (hq refl), mul-le-mul_right d h, mul-le-mul_left s w.low, mul-le-mul_left l w.high')

  pub all_under : (b : Bool) → 0 < l → (b ≡ false → 0 < q) → Between b q x₀ x₁ y₀ y₁ d X Y → l * x₁ < s * y₀ + gap b → l * X < s * Y
  all_under true pos hq w h = omega (arith, mul-le-mul_right d h, mul-le-mul_left l w.high, mul-le-mul_left s w.low')
  all_under false pos hq w h = omega (arith, mul-pos pos (hq refl), mul-le-mul_right d h, mul-le-mul_left l w.high, mul-le-mul_left s w.low')

  -- the worst corner passes: all pass
  pub all-high : {b : Bool} → Between b q x₀ x₁ y₀ y₁ d X Y → s * x₁ ≤ l * y₀ → s * X ≤ l * Y
  all-high w h = omega (arith, mul-le-mul_right d h, mul-le-mul_left s w.high, mul-le-mul_left l w.low')

  pub all-low : {b : Bool} → Between b q x₀ x₁ y₀ y₁ d X Y → s * y₁ ≤ l * x₀ → s * Y ≤ l * X
  all-low w h = omega (arith, mul-le-mul_right d h, mul-le-mul_left l w.low, mul-le-mul_left s w.high')

-- a k-th off a corner, where a k-th of hydrogen adds less than 1 to f times the first sum
module _ (q k f g : ℕ) (room : f * q < k) where
  pub near-low : (x y : ℕ) (b : Bool) → f * x + gap b ≤ g * y → f * (x * k + q * gap b) ≤ g * (y * k)
  near-low x y true h = omega (arith, mul-le-mul_right k h)
  near-low x y false h = omega (arith, mul-le-mul_right k h)

  pub near-low-under : (x y : ℕ) (b : Bool) → f * x < g * y → f * (x * k + q * gap b) < g * (y * k)
  near-low-under x y true h = omega (arith, mul-le-mul_right k h)
  near-low-under x y false h = omega (arith, mul-le-mul_right k h)

  pub near-high : (x y X : ℕ) (b : Bool) → X + q * gap b ≡ x * k → g * y + gap b ≤ f * x → g * (y * k) ≤ f * X
  near-high x y X true e h = omega (arith, mul-le-mul_right k h, ap (λ (u : ℕ). f * u) e)
  near-high x y X false e h = omega (arith, mul-le-mul_right k h, ap (λ (u : ℕ). f * u) e)

  pub near-high-over : (x y X : ℕ) (b : Bool) → X + q * gap b ≡ x * k → g * y < f * x → g * (y * k) < f * X
  near-high-over x y X true e h = omega (arith, mul-le-mul_right k h, ap (λ (u : ℕ). f * u) e)
  near-high-over x y X false e h = omega (arith, mul-le-mul_right k h, ap (λ (u : ℕ). f * u) e)

-- on the least ratio s' / l', the window s' / l' to l / s not being empty
pub on-least : (s l s' l' X Y : ℕ) → 0 < l' → s * s' ≤ l * l' → l' * X ≡ s' * Y → s * X ≤ l * Y
on-least s l s' l' X Y pos le e = le_of_mul-le-mul_left {k = l'} (omega (arith, mul-le-mul_right Y le, ap (λ (u : ℕ). s * u) e)) pos

-- A / B is U / M, and F / G is M / U
joined : (A B F G U M : ℕ) → 0 < U → A * M ≡ B * U → F * U ≡ G * M → A * F ≡ B * G
joined A B F G U M some e f = eq_of_mul-eq-mul_left U some (A * F) (B * G) (omega (arith, ap (λ (t : ℕ). G * t) e, ap (λ (t : ℕ). A * t) f))

-- m parts of a factor f₀ / u and n of f₁ / u make the factor F / G, at which X / Y is on the least ratio
pub factor-on-least : (l s X Y f₀ f₁ u F G m n : ℕ) → 0 < u * (m + n) → l * f₀ * X * m + l * f₁ * X * n ≡ s * u * Y * m + s * u * Y * n
    → F * (u * (m + n)) ≡ G * (f₀ * m + f₁ * n) → l * (F * X) ≡ s * (G * Y)
factor-on-least l s X Y f₀ f₁ u F G m n some e f =
    let same : l * X * (f₀ * m + f₁ * n) ≡ s * Y * (u * (m + n)) = omega arith in
    let h : l * X * F ≡ s * Y * G = joined (l * X) (s * Y) F G (u * (m + n)) (f₀ * m + f₁ * n) some same f in
    omega arith

-- a sum a k-th off a corner, times a factor
pub times-low : (f x k q g : ℕ) → f * (x * k + q * g) ≡ f * x * k + f * q * g
times-low f x k q g = omega arith

pub times-high : (f X x k q g : ℕ) → X + q * g ≡ x * k → f * X + f * q * g ≡ f * x * k
times-high f X x k q g e = omega (arith, ap (λ (t : ℕ). f * t) e)

-- products in another order
pub group : (l f X s u Y : ℕ) → l * f * X ≡ s * u * Y → l * (f * X) ≡ s * (u * Y)
group l f X s u Y e = omega arith

pub group-le : (l f X s u Y : ℕ) → l * f * X ≤ s * u * Y → l * (f * X) ≤ s * (u * Y)
group-le l f X s u Y e = omega arith

pub parted-le : (s u y k l f X : ℕ) → s * (u * y * k) ≤ l * (f * X) → s * u * (y * k) ≤ l * f * X
parted-le s u y k l f X e = omega arith
