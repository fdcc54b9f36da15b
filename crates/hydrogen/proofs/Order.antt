-- H has one place among all fractions.
use mathlib.Core.Logic.{◌⊎◌, inl, inr}
use Prim.Native.Nat.{ℕ, ◌*◌, ◌≤◌, ◌<◌}
use native.Mathlib.Nat.{le_trans, mul-one, mul_right_comm, mul-le-mul_right, le_of_mul-le-mul_right}
use native.Mathlib.Decide.{dec_le}
use native.Mathlib.Omega.{arith}
use lib.IntN.{ℤ, pos, negsuc}
use Rattle.hydrogen.specs.Floors.{hundredth, power}
use Rattle.hydrogen.specs.TrueHydrogen.{HAtMost, HAtLeast, FractionLe, Ordered}
use Rattle.hydrogen.proofs.Powers.{of-product, keeps-le, keeps-some, le-back}

-- i / b is at most j / d and that is at most k / f, so i / b is at most k / f
chain : (i b j d k f : ℕ) → 0 < d → i * d ≤ j * b → j * f ≤ k * d → i * f ≤ k * b
chain i b j d k f z e g =
    le_of_mul-le-mul_right {m = i * f} {n = k * b} {k = d}
    (rw (mul_right_comm i f d, mul_right_comm k b d)
    (le_trans (mul-le-mul_right f e) (rw (mul_right_comm j b f) (mul-le-mul_right b g))))
    z

-- the order of two fractions is that of their hundredth powers
powers-le : (a b c d : ℕ) → a * d ≤ c * b → hundredth a * hundredth d ≤ hundredth c * hundredth b
powers-le a b c d e = rw (← of-product a d, ← of-product c b) (keeps-le e)

powers-le-back : (a b c d : ℕ) → hundredth a * hundredth d ≤ hundredth c * hundredth b → a * d ≤ c * b
powers-le-back a b c d e = le-back (rw (of-product a d, of-product c b) e)

module _ (p : ℕ) where
  total : (a : ℤ) (b : ℕ) → 0 < b → HAtMost p a b ⊎ HAtLeast p a b
  total (pos a) b z = go (dec_le (power p * hundredth b) (hundredth a))
    where
      go : Dec (power p * hundredth b ≤ hundredth a) → HAtMost p (pos a) b ⊎ HAtLeast p (pos a) b
      go (yes e) = inl e
      go (no f) = inr (omega (arith, f))
  total (negsuc a) b z = inr tt

  greater : (a : ℤ) (b : ℕ) (c : ℤ) (d : ℕ) → 0 < b → 0 < d → HAtMost p a b → FractionLe a b c d → HAtMost p c d
  greater (pos a) b (pos c) d y z m e =
      rw (mul-one (hundredth c)) at
      (chain (power p) 1 (hundredth a) (hundredth b) (hundredth c) (hundredth d) (keeps-some b y)
      (rw (mul-one (hundredth a)) m)
      (powers-le a b c d e))
  greater (pos a) b (negsuc c) d y z m e = e
  greater (negsuc a) b c d y z m e = absurd m

  less : (a : ℤ) (b : ℕ) (c : ℤ) (d : ℕ) → 0 < b → 0 < d → HAtLeast p a b → FractionLe c d a b → HAtLeast p c d
  less (pos a) b (pos c) d y z m e =
      rw (mul-one (hundredth c)) at
      (chain (hundredth c) (hundredth d) (hundredth a) (hundredth b) (power p) 1 (keeps-some b y)
      (powers-le c d a b e)
      (rw (mul-one (hundredth a)) m))
  less (negsuc a) b (pos c) d y z m e = absurd e
  less a b (negsuc c) d y z m e = tt

  through : (a : ℤ) (b : ℕ) (c : ℤ) (d : ℕ) → 0 < b → 0 < d → HAtLeast p a b → HAtMost p c d → FractionLe a b c d
  through (pos a) b (pos c) d y z l m =
      powers-le-back a b c d
      (chain (hundredth a) (hundredth b) (power p) 1 (hundredth c) (hundredth d) (omega arith)
      (rw (mul-one (hundredth a)) l)
      (rw (mul-one (hundredth c)) m))
  through (negsuc a) b (pos c) d y z l m = tt
  through a b (negsuc c) d y z l m = absurd m

  pub ordered : Ordered p
  ordered = record { total = total; greater = greater; less = less; through = through }
