-- Hundredth powers: of a product, and that they keep the order of numbers, both ways.
use mathlib.Core.Path.{◌≡◌}
use Prim.Native.Nat.{ℕ, ◌*◌, ◌≤◌, ◌<◌}
use native.Mathlib.Nat.{pow-le-pow_left, one-le-pow}
use native.Mathlib.Omega.{arith}
use Rattle.std.proofs.lemmas.Nat.{mul-pow}
use Rattle.refusal.proofs.Powers.{power-lt-back, power-le-back, le-power}
use Rattle.hydrogen.specs.Floors.{hundredth}

pub of-product : (a b : ℕ) → hundredth (a * b) ≡ hundredth a * hundredth b
of-product a b = mul-pow a b _

pub keeps-le : {a b : ℕ} → a ≤ b → hundredth a ≤ hundredth b
keeps-le l = pow-le-pow_left l _

pub keeps-some : (a : ℕ) → 0 < a → 0 < hundredth a
keeps-some a l = one-le-pow _ a l

-- of two numbers, the one with the smaller hundredth power is the smaller
pub lt_back : {a b : ℕ} → hundredth a < hundredth b → a < b
lt_back h = power-lt-back _ h

pub le-back : {a b : ℕ} → hundredth a ≤ hundredth b → a ≤ b
le-back h = power-le-back _ (omega arith) h

pub le-own-power : (a : ℕ) → a ≤ hundredth a
le-own-power a = le-power a _ (omega arith)
