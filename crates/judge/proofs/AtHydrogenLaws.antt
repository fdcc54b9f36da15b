-- A verdict of 1 or 2 is true of true hydrogen, at every choice of amounts and of a correction.
use mathlib.Core.Path.{◌≡◌, refl, sym, ◌∙◌}
use mathlib.Core.Bool.{Bool, true, false, true≢false}
use Prim.Native.Nat.{ℕ, ◌+◌, ◌*◌, ◌≤◌, ◌<◌}
use native.Mathlib.Nat.{mul-pos, mul-le-mul_left, add-zero, le_refl}
use native.Mathlib.Omega.{arith}
use lib.IntN.{ℤ, pos, sub_ℕ}
use Rattle.hydrogen.specs.Floors.{is_whole, floor_at}
use Rattle.hydrogen.specs.TrueHydrogen.{HAtMost, HAtLeast, Ordered, HydrogenAt}
use Rattle.solution.specs.Solutions.{gap}
use Rattle.judge.specs.Choices.{Ranges, Choice, Values}
use Rattle.judge.specs.AtHydrogen.{AtH}
use Rattle.judge.specs.Corners.{part_of, part_at, Check, factor, factor_divisor, bracket_of, least_first, most_first, passes_of}
use Rattle.judge.proofs.Mixing.{Proper}
use Rattle.judge.proofs.FactorLaws.{counting, unit-some, divisor-some, factor-over, factor-under, factor-some}
use Rattle.judge.proofs.Deciding.{Decided, deciding}
use Rattle.judge.proofs.NearCorners.{Between, scaled, unscaled, unscaled-lt, all-over, all_under, all-high, all-low}
use Rattle.judge.proofs.PartLaws.{part-over, part-under}
use Rattle.judge.proofs.CornerLaws.{Sound}
use Rattle.judge.proofs.BoundLaws.{most-whole, least-whole, bounds_of}

-- where H is: from h to h + e, e the gap, and at neither end where e is 1
pub record Located (p h : ℕ) (b : Bool) : Type 0 where
  pub low : HAtLeast p (pos h) 1
  pub high : HAtMost p (pos (h + gap b)) 1
  pub above : b ≡ false → HAtMost p (pos h) 1 → ⊥
  pub below : b ≡ false → HAtLeast p (pos (h + gap b)) 1 → ⊥

pub located : (p : ℕ) → HydrogenAt p → (b : Bool) → is_whole p ≡ b → Located p (floor_at p) b
located p w true e =
    let i = w.placed.whole e in
    record { low = i.0; high = rw (add-zero (floor_at p)) i.1; above = λ z. absurd (true≢false z); below = λ z. absurd (true≢false z) }
located p w false e =
    let i = w.placed.above (λ t. true≢false (sym t ∙ e)) in
    record { low = i.0; high = w.placed.below.0; above = λ z. i.1; below = λ z. w.placed.below.1 }

-- the bound that f F (q H d + X) against g G Y sets for H, where the test holds or fails at an end of where H is
module _ (p h : ℕ) (o : Ordered p) (d : ℕ) (divides : 0 < d) (q X Y F G f g : ℕ) (counts : 0 < f * (F * q) * d) where
  abbrev bound : ℤ
  bound = sub_ℕ (g * (G * Y)) (f * (F * X))

  abbrev per : ℕ
  per = f * (F * q) * d

  abbrev at : ℕ → ℕ
  at n = f * (F * (q * (n * d) + X))

  most-holds : (b : Bool) → Located p h b → at (h + gap b) ≤ g * (G * Y) → HAtMost p bound per
  most-holds b w l = o.greater (pos (h + gap b)) 1 bound per (omega arith) counts w.high ((most-whole d divides q X Y F G f g (h + gap b)).1 l)

  least-holds : (b : Bool) → Located p h b → g * (G * Y) ≤ at h → HAtLeast p bound per
  least-holds b w l = o.less (pos h) 1 bound per (omega arith) counts w.low ((least-whole d divides q X Y F G f g h).1 l)

  most-fails : Located p h true → g * (G * Y) < at h → HAtMost p bound per → ⊥
  most-fails w l m = omega (arith, (most-whole d divides q X Y F G f g h).0 (o.through (pos h) 1 bound per (omega arith) counts w.low m))

  most-passed : Located p h false → g * (G * Y) ≤ at h → HAtMost p bound per → ⊥
  most-passed w l m = w.above refl (o.greater bound per (pos h) 1 counts (omega arith) m ((least-whole d divides q X Y F G f g h).1 l))

  least-fails : Located p h true → at (h + 0) < g * (G * Y) → HAtLeast p bound per → ⊥
  least-fails w l m = omega (arith, (least-whole d divides q X Y F G f g (h + 0)).0 (o.through bound per (pos (h + 0)) 1 counts (omega arith) m w.high))

  least-passed : Located p h false → at (h + 1) ≤ g * (G * Y) → HAtLeast p bound per → ⊥
  least-passed w l m = w.below refl (o.less bound per (pos (h + 1)) 1 counts (omega arith) m ((most-whole d divides q X Y F G f g (h + 1)).1 l))

-- what a verdict of 1 or 2 tells of a statement
pub record Tells (Q : Type 0) (v : ℕ) : Type 0 where
  pub within : v ≡ 1 → Q
  pub outside : v ≡ 2 → Q → ⊥

module _ (k : Check) (sound : Sound k) (hydrogen : 0 < k.hydrogen) (r : Ranges) (proper : Proper r) (p : ℕ) (o : Ordered p)
    (c : Choice) (a : Values r c) where
  abbrev d : ℕ
  d = c.divisor

  abbrev q : ℕ
  q = k.hydrogen

  abbrev h : ℕ
  h = r.floor

  -- the two sums of the choice but for hydrogen, and what the first is multiplied by
  abbrev X : ℕ
  X = part_of k.first c

  abbrev Y : ℕ
  Y = part_of k.second c

  abbrev F : ℕ
  F = factor k.corrected c

  abbrev G : ℕ
  G = factor_divisor k.corrected c

  -- the corners of them
  abbrev u : ℕ
  u = (bracket_of k.corrected r).unit

  abbrev x₀ : ℕ
  x₀ = (bracket_of k.corrected r).least * least_first k r

  abbrev x₁ : ℕ
  x₁ = (bracket_of k.corrected r).most * most_first k r

  abbrev y₀ : ℕ
  y₀ = u * part_at k.second r.least

  abbrev y₁ : ℕ
  y₁ = u * part_at k.second r.greatest

  some : 0 < u
  some = unit-some r proper k.corrected

  high : 0 < k.window.high.denominator * (F * q) * d
  high = mul-pos (mul-pos sound.high (mul-pos (factor-some r c a proper k.corrected) hydrogen)) a.divides

  low : 0 < k.window.low.denominator * (F * q) * d
  low = mul-pos (mul-pos sound.low (mul-pos (factor-some r c a proper k.corrected) hydrogen)) a.divides

  -- the sums with hydrogen at a whole number from the floor to the end of the gap
  sums : (n : ℕ) → h ≤ n → n ≤ h + gap r.whole
      → Between true ((bracket_of k.corrected r).least * q) x₀ x₁ y₀ y₁ (G * d) (u * (F * (q * (n * d) + X))) (u * (G * Y))
  sums n l m =
      scaled (bracket_of k.corrected r).least (bracket_of k.corrected r).most u F G
      (divisor-some r c a k.corrected) (factor-over r c a k.corrected) (factor-under r c a k.corrected)
      (record {
        divides = a.divides;
        low = omega (arith, part-over k.first r c a, mul-le-mul_left (q * d) l);
        high = omega (arith, part-under k.first r c a, mul-le-mul_left (q * d) m);
        low' = part-over k.second r c a;
        high' = part-under k.second r c a;
      })

  -- each test at the ends of where H is
  over : (b : Bool) → Located p h b → k.window.high.numerator * y₁ < k.window.high.denominator * x₀ + gap b → AtH p (bounds_of k c) → ⊥
  over true w l z =
      most-fails p h o d a.divides q X Y F G _ _ high w
      (unscaled-lt u _ _ (G * Y) _ (all-over _ _ true sound.high (λ i. absurd (true≢false i)) (sums h (le_refl _) (omega arith)) l)) z.most
  over false w l z =
      most-passed p h o d a.divides q X Y F G _ _ high w
      (unscaled u _ _ (G * Y) _ some (all-low _ _ (sums h (le_refl _) (omega arith)) (omega arith))) z.most

  under : (b : Bool) → r.whole ≡ b → Located p h b → k.window.low.denominator * x₁ < k.window.low.numerator * y₀ + gap b → AtH p (bounds_of k c) → ⊥
  under true e w l z =
      least-fails p h o d a.divides q X Y F G _ _ low w
      (unscaled-lt u _ _ _ (G * Y) (all_under _ _ true sound.low (λ i. absurd (true≢false i)) (sums (h + 0) (omega arith) (omega arith)) l)) z.least
  under false e w l z =
      least-passed p h o d a.divides q X Y F G _ _ low w
      (unscaled u _ _ _ (G * Y) some (all-high _ _ (sums (h + 1) (omega arith) (rw e (le_refl _))) (omega arith))) z.least

  module _ (w : Located p h r.whole) where
    tells : {v : ℕ} → Decided k.window (gap r.whole) x₀ x₁ y₀ y₁ v → Tells (AtH p (bounds_of k c)) v
    tells (Decided.over l) = record { within = λ e. absurd (omega arith); outside = λ e. over r.whole w l }
    tells (Decided.under l) = record { within = λ e. absurd (omega arith); outside = λ e. under r.whole refl w l }
    tells (Decided.parted _ _ _) = record { within = λ e. absurd (omega arith); outside = λ e. absurd (omega arith) }
    tells (Decided.parted' _ _ _) = record { within = λ e. absurd (omega arith); outside = λ e. absurd (omega arith) }
    tells (Decided.within l l') =
        record {
          within = λ e.
              record {
                most =
                    most-holds p h o d a.divides q X Y F G _ _ high r.whole w
                    (unscaled u _ _ _ (G * Y) some (all-high _ _ (sums (h + gap r.whole) (omega arith) (le_refl _)) l));
                least =
                    least-holds p h o d a.divides q X Y F G _ _ low r.whole w
                    (unscaled u _ _ (G * Y) _ some (all-low _ _ (sums h (le_refl _) (omega arith)) l'));
              };
          outside = λ e. absurd (omega arith);
        }

    pub passes-tells : Tells (AtH p (bounds_of k c)) (passes_of k r)
    passes-tells = rw (counting q r.whole hydrogen) (tells (deciding k.window r.whole x₀ x₁ y₀ y₁))
