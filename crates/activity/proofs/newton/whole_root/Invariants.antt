use Prim.Native.Nat.{◌+◌, ◌*◌, ◌≤◌, ◌<◌}
use Rattle.activity.specs.Steps.{greatest_root}
use Rattle.activity.proofs.newton.whole_root.Given as goal

abbrev pub invariant-loop-root : goal.invariant-loop-root
invariant-loop-root l = (l.x < (l.root + 1) * (l.root + 1)) × (l.root ≤ greatest_root)

abbrev pub decreases-loop-root : goal.decreases-loop-root
decreases-loop-root l = l.root
