-- The two ends of the bracket, step by step from the strength: root, exponent, floor.
use mathlib.Core.Path.{◌≡◌}
use Prim.Native.Nat.{ℕ, ◌+◌}
use Rattle.activity.specs.Strength.{lower_root, upper_root}
use Rattle.activity.specs.Exponent.{lower_exponent, upper_exponent}
use Rattle.activity.specs.Floors.{floor_at}
use Rattle.activity.specs.Brackets.{lower_end, upper_end}

pub lower-end-from : (greatest : ℕ) {k n x : ℕ} → k ≡ upper_root greatest → n ≡ upper_exponent k → x ≡ floor_at n
    → x ≡ lower_end greatest
unfolding lower_end
lower-end-from greatest root exponent floor = cc

pub upper-end-from : (least : ℕ) {k n x : ℕ} → k ≡ lower_root least → n ≡ lower_exponent k → x ≡ floor_at n
    → x + 1 ≡ upper_end least
unfolding upper_end
upper-end-from least root exponent floor = cc
