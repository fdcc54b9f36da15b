-- The verdict of a check by corners is the verdict by every choice.
use mathlib.Core.Path.{◌≡◌, refl, sym, ap}
use mathlib.Core.Bool.{Bool, false}
use mathlib.Core.Logic.{◌⊎◌}
use Prim.Native.Nat.{ℕ, ◌+◌, ◌*◌, ◌≤◌, ◌<◌}
use native.Mathlib.Nat.{mul-le-mul_left, mul_assoc, mul-pos, le_refl, le_of_eq, not-le_of_lt}
use native.Mathlib.Decide.{dec_le}
use native.Mathlib.Omega.{arith}
use Rattle.solution.specs.Solutions.{gap}
use Rattle.judge.specs.Choices.{Bracket, InBracket, Ranges, Choice, Among}
use Rattle.judge.specs.Verdicts.{Judged}
use Rattle.judge.specs.Verdicts.Judged.{every, none, mixed}
use Rattle.judge.specs.Corners.{part_of, part_at, Check, first_of, factor, factor_divisor, bracket_of, ends_reached, least_first, most_first, Passes, passes_of}
use Rattle.judge.proofs.Crossing.{Crossing, crossing, on_line}
use Rattle.judge.proofs.Mixing.{hydrogen-low, hydrogen-high, mix, mixed-among, at, lowest, highest, Proper, correction-mix, correction-least, correction-most, low-among, high-among}
use Rattle.judge.proofs.FactorLaws.{counts, added, unit-some, least-some, divisor-some, factor-over, factor-under, factor-least, factor-most, divisor-unit, factor-mix}
use Rattle.judge.proofs.Deciding.{Decided, deciding}
use Rattle.judge.proofs.NearCorners.{Between, scaled, unscaled, unscaled-lt, all-over, all_under, all-high, all-low, near-low, near-low-under, near-high, near-high-over, on-least, factor-on-least, times-low, times-high, group, group-le, parted-le}
use Rattle.judge.proofs.PartLaws.{part-over, part-under, part-as, part-mix, first-mix, sel, sel-first, sel-second, sel-over, sel-under}

-- what a check has to be: the factors are positive, the window is not empty, no reading is in both sums
pub record Sound (k : Check) : Type 0 where
  pub high : 0 < k.window.high.denominator
  pub low : 0 < k.window.low.denominator
  pub window : k.window.high.denominator * k.window.low.numerator ≤ k.window.high.numerator * k.window.low.denominator
  pub disjoint : (i : ℕ) → (k.first.weight i ≡ 0) ⊎ (k.second.weight i ≡ 0)

module _ (k : Check) (o : Sound k) (r : Ranges) (w : Proper r) where
  abbrev b : Bool
  b = ends_reached k r

  abbrev q : ℕ
  q = k.hydrogen

  abbrev t : Bracket
  t = r.correction

  abbrev x₀ : ℕ
  x₀ = least_first k r

  abbrev x₁ : ℕ
  x₁ = most_first k r

  abbrev y₀ : ℕ
  y₀ = part_at k.second r.least

  abbrev y₁ : ℕ
  y₁ = part_at k.second r.greatest

  -- the bracket of the first sum's factor
  abbrev f₀ : ℕ
  f₀ = (bracket_of k.corrected r).least

  abbrev f₁ : ℕ
  f₁ = (bracket_of k.corrected r).most

  abbrev u : ℕ
  u = (bracket_of k.corrected r).unit

  -- the factors of the window
  abbrev s : ℕ
  s = k.window.high.denominator

  abbrev l : ℕ
  l = k.window.high.numerator

  abbrev s' : ℕ
  s' = k.window.low.numerator

  abbrev l' : ℕ
  l' = k.window.low.denominator

  -- the two sums of a choice, and the factor of the first
  abbrev X : Choice → ℕ
  X c = first_of k c

  abbrev Y : Choice → ℕ
  Y c = part_of k.second c

  abbrev F : Choice → ℕ
  F c = factor k.corrected c

  abbrev G : Choice → ℕ
  G c = factor_divisor k.corrected c

  some : 0 < u
  some = unit-some r w k.corrected

  open-counts : b ≡ false → 0 < f₀ * q
  open-counts e = mul-pos (least-some r w k.corrected) (counts q r.whole e)

  plain : (c : Choice) → Among r c → Between b q x₀ x₁ y₀ y₁ c.divisor (X c) (Y c)
  plain c a =
      let d : ℕ = c.divisor in
      record {
        divides = a.values.divides;
        low =
            omega (
              arith,
              added q r.whole,
              part-over k.first r c a.values,
              mul-le-mul_left q (hydrogen-low r.whole r.floor c.hydrogen d a.hydrogen),
            );
        high =
            omega (
              arith,
              added q r.whole,
              part-under k.first r c a.values,
              mul-le-mul_left q (hydrogen-high r.whole r.floor c.hydrogen d a.hydrogen),
            );
        low' = part-over k.second r c a.values;
        high' = part-under k.second r c a.values;
      }

  sums : (c : Choice) → Among r c → Between b (f₀ * q) (f₀ * x₀) (f₁ * x₁) (u * y₀) (u * y₁) (G c * c.divisor) (u * (F c * X c)) (u * (G c * Y c))
  sums c a =
      scaled f₀ f₁ u (F c) (G c) (divisor-some r c a.values k.corrected) (factor-over r c a.values k.corrected)
      (factor-under r c a.values k.corrected) (plain c a)

  -- near two corners, hydrogen a K-th off: x has the first sum low and the second high, at the least correction; z the first high
  -- and the second low, at any
  abbrev K : ℕ
  K = 2 + (s * (f₀ * q) + l' * (f₀ * q) + (s * (f₁ * q) + l' * (f₁ * q)))

  abbrev down : ℕ → ℕ
  down i = sel (o.disjoint i) (r.least i) (r.greatest i)

  abbrev up : ℕ → ℕ
  up i = sel (o.disjoint i) (r.greatest i) (r.least i)

  abbrev x : Choice
  x = at down K (lowest r K) t.least t.unit

  x-among : Among r x
  x-among =
      low-among r down (λ i. sel-over (o.disjoint i) _ _ _ (le_refl _) (w.ordered i)) (λ i. sel-under (o.disjoint i) _ _ _ (w.ordered i) (le_refl _))
      K (omega arith) t.least t.unit (correction-least r w)

  abbrev z : ℕ → ℕ → Choice
  z y d = at up K (highest r K) y d

  z-among : (y d : ℕ) → InBracket t y d → Among r (z y d)
  z-among =
      high-among r up (λ i. sel-over (o.disjoint i) _ _ _ (w.ordered i) (le_refl _)) (λ i. sel-under (o.disjoint i) _ _ _ (le_refl _) (w.ordered i))
      K (omega arith)

  -- at the least correction, and at the greatest
  abbrev z₀ : Choice
  z₀ = z t.least t.unit

  abbrev z₁ : Choice
  z₁ = z t.most t.unit

  z₀-among : Among r z₀
  z₀-among = z-among t.least t.unit (correction-least r w)

  z₁-among : Among r z₁
  z₁-among = z-among t.most t.unit (correction-most r w)

  x-first : X x ≡ x₀ * K + q * gap b
  x-first =
      omega (
        arith,
        added q r.whole,
        part-as k.first down r.least K (lowest r K) t.least t.unit (λ i. sel-first (o.disjoint i) (r.least i) (r.greatest i)),
      )

  x-second : Y x ≡ y₁ * K
  x-second =
      part-as k.second down r.greatest K (lowest r K) t.least t.unit (λ i. sel-second (o.disjoint i) (r.least i) (r.greatest i))

  z-first : (y d : ℕ) → X (z y d) + q * gap b ≡ x₁ * K
  z-first y d =
      let e : ℕ = gap r.whole in
      let h : highest r K + e ≡ (r.floor + e) * K = omega (arith, mul-le-mul_left {m = 1} {n = K} e (omega arith)) in
      omega (
        arith,
        added q r.whole,
        part-as k.first up r.greatest K (highest r K) y d (λ i. sel-first (o.disjoint i) (r.greatest i) (r.least i)),
        ap (λ (v : ℕ). q * v) h,
      )

  z-second : (y d : ℕ) → Y (z y d) ≡ y₀ * K
  z-second y d = part-as k.second up r.least K (highest r K) y d (λ i. sel-second (o.disjoint i) (r.greatest i) (r.least i))

  -- with the factor
  x-top : F x * X x ≡ f₀ * x₀ * K + f₀ * q * gap b
  x-top = rw (factor-least r x k.corrected refl, x-first) (times-low f₀ x₀ K q (gap b))

  x-bottom : G x * Y x ≡ u * y₁ * K
  x-bottom = rw (divisor-unit r x k.corrected refl, x-second) (sym (mul_assoc u y₁ K))

  z-top : f₁ * X z₁ + f₁ * q * gap b ≡ f₁ * x₁ * K
  z-top = times-high f₁ (X z₁) x₁ K q (gap b) (z-first t.most t.unit)

  z-bottom : G z₁ * Y z₁ ≡ u * y₀ * K
  z-bottom = rw (divisor-unit r z₁ k.corrected refl, z-second t.most t.unit) (sym (mul_assoc u y₀ K))

  -- a choice on the least ratio of the window
  on-window : (c : Choice) → l' * (F c * X c) ≡ s' * (G c * Y c) → Passes k c
  on-window c e = record { high = on-least s l s' l' (F c * X c) (G c * Y c) o.low o.window e; low = le_of_eq (sym e) }

  -- between x and z, at the least factor
  crossed : Crossing (l' * f₀ * X x) (s' * u * Y x) (l' * f₀ * X z₀) (s' * u * Y z₀) → (c : Choice) × (Among r c × Passes k c)
  crossed v =
      let c : Choice = mix x z₀ v.m v.n in
      let same : l' * f₀ * X c ≡ s' * u * Y c =
      on_line (l' * f₀) (s' * u) (X x) (X z₀) (Y x) (Y z₀) (X c) (Y c) v.m v.n
      (first-mix k x z₀ refl v.m v.n) (part-mix k.second x z₀ refl v.m v.n) v.equal in (
        c,
        (
          mixed-among r x z₀ refl x-among z₀-among v.m v.n v.some,
          on-window c (rw (factor-least r c k.corrected refl, divisor-unit r c k.corrected refl) (group l' f₀ (X c) s' u (Y c) same)),
        ),
      )

  -- at z, between the least and the greatest factor
  crossed-factor : Crossing (l' * f₀ * X z₀) (s' * u * Y z₀) (l' * f₁ * X z₀) (s' * u * Y z₀) → (c : Choice) × (Among r c × Passes k c)
  crossed-factor v =
      let y : ℕ = t.least * v.m + t.most * v.n in
      let d : ℕ = t.unit * (v.m + v.n) in
      let c : Choice = z y d in (
        c,
        (
          z-among y d (correction-mix r w v.m v.n v.some),
          on-window c
              (factor-on-least l' s' (X c) (Y c) f₀ f₁ u (F c) (G c) v.m v.n (mul-pos some v.some) v.equal
              (factor-mix r c k.corrected v.m v.n refl refl)),
        ),
      )

  some-pass : s * (f₀ * x₀) + gap b ≤ l * (u * y₁) → s' * (u * y₀) + gap b ≤ l' * (f₁ * x₁) → (c : Choice) × (Among r c × Passes k c)
  some-pass h h' = go (dec_le (s' * u * Y x) (l' * f₀ * X x)) (dec_le (s' * u * Y z₀) (l' * f₀ * X z₀))
    where
      high : s * (F x * X x) ≤ l * (G x * Y x)
      high = rw (x-top, x-bottom) (near-low (f₀ * q) K s l (omega arith) (f₀ * x₀) (u * y₁) b h)

      last : s' * u * Y z₀ ≤ l' * f₁ * X z₀
      last =
          rw (z-second t.least t.unit)
          (parted-le s' u y₀ K l' f₁ (X z₁) (near-high (f₁ * q) K l' s' (omega arith) (f₁ * x₁) (u * y₀) (f₁ * X z₁) b z-top h'))

      go : Dec (s' * u * Y x ≤ l' * f₀ * X x) → Dec (s' * u * Y z₀ ≤ l' * f₀ * X z₀) → (c : Choice) × (Among r c × Passes k c)
      go (yes v) d =
          let low : s' * (G x * Y x) ≤ l' * (F x * X x) =
          rw (factor-least r x k.corrected refl, divisor-unit r x k.corrected refl) (group-le s' u (Y x) l' f₀ (X x) v) in
          (x, (x-among, record { high = high; low = low }))
      go (no v) (yes d) = crossed (crossing _ _ _ _ (omega (arith, v)) d)
      go (no v) (no d) = crossed-factor (crossing _ _ _ _ (omega (arith, d)) last)

  z-fails : l * (u * y₀) < s * (f₁ * x₁) → Passes k z₁ → ⊥
  z-fails h v =
      not-le_of_lt
      (rw (z-bottom, factor-most r z₁ k.corrected refl) (near-high-over (f₁ * q) K s l (omega arith) (f₁ * x₁) (u * y₀) (f₁ * X z₁) b z-top h)) v.high

  x-fails : l' * (f₀ * x₀) < s' * (u * y₁) → Passes k x → ⊥
  x-fails h v = not-le_of_lt (rw (x-top, x-bottom) (near-low-under (f₀ * q) K l' s' (omega arith) (f₀ * x₀) (u * y₁) b h)) v.low

  judged : {v : ℕ} → Decided k.window (gap b) (f₀ * x₀) (f₁ * x₁) (u * y₀) (u * y₁) v → Judged Choice (Among r) (Passes k) v
  judged (Decided.over h) =
      none (λ c a v. not-le_of_lt (unscaled-lt u l s (G c * Y c) (F c * X c) (all-over s l b o.high open-counts (sums c a) h)) v.high)
  judged (Decided.under h) =
      none (λ c a v. not-le_of_lt (unscaled-lt u l' s' (F c * X c) (G c * Y c) (all_under s' l' b o.low open-counts (sums c a) h)) v.low)
  judged (Decided.parted a d h) = let p = some-pass a d in mixed p.0 p.1.0 p.1.1 z₁ z₁-among (z-fails h)
  judged (Decided.parted' a d h) = let p = some-pass a d in mixed p.0 p.1.0 p.1.1 x x-among (x-fails h)
  judged (Decided.within h h') =
      every (λ c a.
      record {
        high = unscaled u s l (F c * X c) (G c * Y c) some (all-high s l (sums c a) h);
        low = unscaled u s' l' (G c * Y c) (F c * X c) some (all-low s' l' (sums c a) h');
      })

  pub passes-judged : Judged Choice (Among r) (Passes k) (passes_of k r)
  passes-judged = judged (deciding k.window b (f₀ * x₀) (f₁ * x₁) (u * y₀) (u * y₁))

  -- there is a choice, so no other verdict is true of every choice
  pub a-choice : (c : Choice) × Among r c
  a-choice = (x, x-among)
