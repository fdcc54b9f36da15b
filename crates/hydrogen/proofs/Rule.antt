-- The floor has its rule: three of its clauses are the definition's, and `Exact` tells where its hundredth power is the power of H.
use Prim.Native.Nat.{ℕ, ◌≤◌}
use Rattle.hydrogen.specs.Floors.{least_ph, greatest_ph, floor_at}
use Rattle.hydrogen.specs.TrueHydrogen.{FloorRule}
use Rattle.hydrogen.proofs.Root.{floor-low, floor-high, floor-greatest}
use Rattle.hydrogen.proofs.Exact.{floor-exact}

pub floor-rule : (p : ℕ) → least_ph ≤ p → p ≤ greatest_ph → FloorRule p (floor_at p)
floor-rule p l u = record { low = floor-low p; high = floor-high p; exact = floor-exact p l u; greatest = floor-greatest p }
