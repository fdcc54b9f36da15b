-- What other crates cite: what is true of H at p, what the floor's answer tells, and fractions against the bound (t − s) / k.
use mathlib.Core.Path.{◌≡◌, ap}
use mathlib.Core.Bool.{or-true}
use mathlib.Core.Logic.{◌↔◌, ◌⊎◌, inl, inr, ⊎_elim}
use Prim.Native.Nat.{ℕ, ◌+◌, ◌-◌, ◌*◌, ◌^◌, ◌≤◌, ◌<◌}
use native.Mathlib.Nat.{le_trans, pow-le-pow_right, sub-add_cancel, mul-le-mul_left}
use native.Mathlib.Decide.{dec_lt}
use native.Mathlib.Omega.{arith}
use lib.Dec.{ltb, lit≤, lit<}
use lib.IntN.{pos, sub_ℕ}
use borrow.Author.Tests.{lt-ltb, le-ltb}
use Rattle.refusal.specs.Outcome.Outcome.{given, refused}
use Rattle.refusal.specs.Numbers.{number_of}
use Rattle.refusal.specs.declared.Refusal.TheVariants as refusal
use Rattle.hydrogen.specs.Floors.{least_ph, greatest_ph, hundredth, power, floor_at, most_floor, floor_of}
use Rattle.hydrogen.specs.TrueHydrogen.{FractionLe, FloorRule, HydrogenAt}
use Rattle.hydrogen.proofs.Root as root
use Rattle.hydrogen.proofs.Rule.{floor-rule}
use Rattle.hydrogen.proofs.Placing.{placing}
use Rattle.hydrogen.proofs.Order.{ordered}

-- at every p in range
pub hydrogen-at : (p : ℕ) → least_ph ≤ p → p ≤ greatest_ph → HydrogenAt p
hydrogen-at p l u = record { rule = floor-rule p l u; placed = placing p (floor_at p) (floor-rule p l u); ordered = ordered p }

-- the two bounds name the floor
pub floor-is : (p h : ℕ) → hundredth h ≤ power p → power p < hundredth (h + 1) → floor_at p ≡ h
floor-is p h low high = root.floor-is p h low high

-- the floor at the least pH, by its rule, and that no floor is above it: what the hundredth power is up to falls as p rises
pub floor-at-least : floor_at least_ph ≡ most_floor
unfolding power
floor-at-least = root.floor-is least_ph most_floor (lit≤ tt) (lit< tt)

falls : (b n l p : ℕ) → 0 < b → l ≤ p → b ^ (n - p) ≤ b ^ (n - l)
falls b n l p some h = let fewer : n - p ≤ n - l = omega arith in pow-le-pow_right some fewer

power-falls : (p : ℕ) → least_ph ≤ p → power p ≤ power least_ph
unfolding power
power-falls p h = falls _ _ least_ph p (omega arith) h

pub floor-most : (p : ℕ) → least_ph ≤ p → p ≤ greatest_ph → floor_at p ≤ most_floor
floor-most p l u =
    let least : FloorRule least_ph (floor_at least_ph) = floor-rule least_ph (omega arith) (omega arith) in
    rw (← floor-at-least) (least.greatest (floor_at p) (le_trans (floor-rule p l u).low (power-falls p l)))

-- the floor's answer, by the range of p
pub floor-in-range : (p : ℕ) → least_ph ≤ p → p ≤ greatest_ph → floor_of p ≡ given (floor_at p)
unfolding floor_of
floor-in-range p l u = rw (le-ltb p least_ph l, le-ltb greatest_ph p u)

pub floor-out-of-range : (p : ℕ) → (p < least_ph) ⊎ (greatest_ph < p) → floor_of p ≡ refused (number_of refusal.Ph)
unfolding floor_of
floor-out-of-range p = ⊎_elim (λ a. rw (lt-ltb p least_ph a)) (λ b. rw (lt-ltb greatest_ph p b, or-true (ltb p least_ph)))

-- p is out of its range or in it
range-of : (p : ℕ) → ((p < least_ph) ⊎ (greatest_ph < p)) ⊎ ((least_ph ≤ p) × (p ≤ greatest_ph))
range-of p = go (dec_lt p least_ph) (dec_lt greatest_ph p)
  where
    go : Dec (p < least_ph) → Dec (greatest_ph < p) → ((p < least_ph) ⊎ (greatest_ph < p)) ⊎ ((least_ph ≤ p) × (p ≤ greatest_ph))
    go (yes a) b = inl (inl a)
    go (no a) (yes b) = inl (inr b)
    go (no a) (no b) = inr (omega (arith, a), omega (arith, b))

-- a floor was given: p is in its range, and it is the floor at p
pub record FloorGiven (p h : ℕ) : Type 0 where
  pub least : least_ph ≤ p
  pub most : p ≤ greatest_ph
  pub is : h ≡ floor_at p

pub floor-given : (p h : ℕ) → floor_of p ≡ given h → FloorGiven p h
floor-given p h e =
    ⊎_elim (λ o. cc (floor-out-of-range p o))
    (λ i. record { least = i.0; most = i.1; is = cc (floor-in-range p i.0 i.1) })
    (range-of p)

-- the floor was refused: p is out of its range, and the number is that of the pH
pub record FloorRefused (p n : ℕ) : Type 0 where
  pub out : (p < least_ph) ⊎ (greatest_ph < p)
  pub number : n ≡ number_of refusal.Ph

pub floor-refused : (p n : ℕ) → floor_of p ≡ refused n → FloorRefused p n
floor-refused p n e =
    ⊎_elim (λ o. record { out = o; number = cc (floor-out-of-range p o) })
    (λ i. cc (floor-in-range p i.0 i.1))
    (range-of p)

-- a difference, x times
pub difference-times : (t s x : ℕ) → s ≤ t → (t - s) * x + s * x ≡ t * x
difference-times t s x h = omega (arith, ap (λ (u : ℕ). u * x) (sub-add_cancel h))

-- a fraction n / d against the bound (t − s) / k of a check, which may be negative
module _ (n d k s t : ℕ) (divides : 0 < d) where
  -- n / d is at most (t − s) / k exactly when k n + s d is at most t d
  pub at-most-bound : FractionLe (pos n) d (sub_ℕ t s) k ↔ (k * n + s * d ≤ t * d)
  at-most-bound = go (dec_lt t s)
    where
      go : Dec (t < s) → FractionLe (pos n) d (sub_ℕ t s) k ↔ (k * n + s * d ≤ t * d)
      go (yes a) = rw (lt-ltb t s a) (λ e. absurd e, λ e. omega (arith, mul-le-mul_left d a))
      go (no a) =
          let b : s ≤ t = omega (arith, a) in
          rw (le-ltb t s b) (λ e. omega (arith, difference-times t s d b), λ e. omega (arith, difference-times t s d b))

  -- n / d is at least (t − s) / k exactly when t d is at most k n + s d
  pub at-least-bound : FractionLe (sub_ℕ t s) k (pos n) d ↔ (t * d ≤ k * n + s * d)
  at-least-bound = go (dec_lt t s)
    where
      go : Dec (t < s) → FractionLe (sub_ℕ t s) k (pos n) d ↔ (t * d ≤ k * n + s * d)
      go (yes a) = rw (lt-ltb t s a) (λ e. omega (arith, mul-le-mul_left d a), λ e. tt)
      go (no a) =
          let b : s ≤ t = omega (arith, a) in
          rw (le-ltb t s b) (λ e. omega (arith, difference-times t s d b), λ e. omega (arith, difference-times t s d b))
