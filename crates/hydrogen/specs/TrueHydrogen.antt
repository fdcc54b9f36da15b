-- Document 01, 'Hydrogen': true hydrogen H at p, compared with fractions, and where its floor stands to it.
-- In a fraction a / b, a is a whole number of either sign and b a natural number above 0.
use Rattle.std.specs.Prelude.{◌≡◌, ◌↔◌, ◌⊎◌, ℕ, suc, ◌+◌, ◌*◌, ◌≤◌, ◌<◌, ℤ, pos, negsuc}
use Rattle.hydrogen.specs.Floors.{WholePh, hundredth, power, floor_at}

-- 'H is at most the fraction A/B exactly when A isn't negative and 10^(1500−p) × B^100 is at most A^100'
abbrev pub HAtMost : ℕ → ℤ → ℕ → Type 0
HAtMost p (pos a) b = power p * hundredth b ≤ hundredth a
HAtMost p (negsuc a) b = ⊥

-- 'H is at least A/B exactly when A is negative or 10^(1500−p) × B^100 is at least A^100'
abbrev pub HAtLeast : ℕ → ℤ → ℕ → Type 0
HAtLeast p (pos a) b = hundredth a ≤ power p * hundredth b
HAtLeast p (negsuc a) b = Unit {0}

-- H is a / b; H is above a / b; H is below a / b
abbrev pub HIs : ℕ → ℤ → ℕ → Type 0
HIs p a b = HAtLeast p a b × HAtMost p a b

abbrev pub HAbove : ℕ → ℤ → ℕ → Type 0
HAbove p a b = HAtLeast p a b × (HAtMost p a b → ⊥)

abbrev pub HBelow : ℕ → ℤ → ℕ → Type 0
HBelow p a b = HAtMost p a b × (HAtLeast p a b → ⊥)

-- the fraction a / b is at most c / d: a × d is at most c × b. `negsuc n` is −(n + 1)
abbrev pub FractionLe : ℤ → ℕ → ℤ → ℕ → Type 0
FractionLe (pos a) b (pos c) d = a * d ≤ c * b
FractionLe (pos a) b (negsuc c) d = ⊥
FractionLe (negsuc a) b (pos c) d = Unit {0}
FractionLe (negsuc a) b (negsuc c) d = suc c * b ≤ suc a * d

-- h is the floor at p: 'the greatest whole number whose hundredth power is at most 10^(1500−p)'
pub record FloorRule (p h : ℕ) : Type 0 where
  -- its hundredth power is at most that
  pub low : hundredth h ≤ power p
  -- the next number's is above it
  pub high : power p < hundredth (h + 1)
  -- it is equal to that exactly where p is a multiple of 100
  pub exact : WholePh p ↔ (hundredth h ≡ power p)
  -- no number whose hundredth power is at most that is greater
  pub greatest : (x : ℕ) → hundredth x ≤ power p → x ≤ h

-- where H stands to h and h + 1
pub record Placed (p h : ℕ) : Type 0 where
  -- 'where p is a multiple of 100, H is h exactly'
  pub whole : WholePh p → HIs p (pos h) 1
  -- 'otherwise H lies strictly between h and h + 1': it is above h
  pub above : (WholePh p → ⊥) → HAbove p (pos h) 1
  -- and below h + 1, as it is at every p
  pub below : HBelow p (pos (h + 1)) 1

-- H has one place among all fractions
pub record Ordered (p : ℕ) : Type 0 where
  -- H is at most or at least each
  pub total : (a : ℤ) (b : ℕ) → 0 < b → HAtMost p a b ⊎ HAtLeast p a b
  -- H is at most a / b, which is at most c / d: H is at most c / d
  pub greater : (a : ℤ) (b : ℕ) (c : ℤ) (d : ℕ) → 0 < b → 0 < d → HAtMost p a b → FractionLe a b c d → HAtMost p c d
  -- H is at least a / b, which is at least c / d: H is at least c / d
  pub less : (a : ℤ) (b : ℕ) (c : ℤ) (d : ℕ) → 0 < b → 0 < d → HAtLeast p a b → FractionLe c d a b → HAtLeast p c d
  -- H is at least a / b and at most c / d: a / b is at most c / d
  pub through : (a : ℤ) (b : ℕ) (c : ℤ) (d : ℕ) → 0 < b → 0 < d → HAtLeast p a b → HAtMost p c d → FractionLe a b c d

-- what document 01 says of H at p and its floor
pub record HydrogenAt (p : ℕ) : Type 0 where
  -- the floor is the greatest whole number that its rule allows
  pub rule : FloorRule p (floor_at p)
  -- H is the floor, or strictly between it and the next number
  pub placed : Placed p (floor_at p)
  -- 'at most' and 'at least' give H one place
  pub ordered : Ordered p
