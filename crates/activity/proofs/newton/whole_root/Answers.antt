-- `activity::newton::whole_root` meets its contract: a guess is never below the root, and where its square is not above x, it is the root.
use Prim.Native.Nat.{ℕ, ◌*◌, ◌<◌}
use native.Mathlib.Omega.{arith}
use Rattle.activity.specs.Steps.{greatest_root}
use Rattle.activity.proofs.NewtonLaws.{some-above, step-above, step-below, capped}
use Rattle.activity.proofs.newton.whole_root.Goals as goal

pub loop-root-init : goal.loop-root-init
loop-root-init c =
    rw (c.min-root.ensures, c.step.ensures) (capped c.args.x _ greatest_root (omega arith) (step-above _ c.start.result c.start.ensures.0), omega arith)

pub loop-root-preserved : goal.loop-root-preserved
loop-root-preserved c =
    let root : ℕ = c.loop-root.root in
    let above : c.args.x < root * root = c.loop-root-test.true in
    rw c.step-root.ensures (step-above _ root (some-above _ root above), omega (arith, step-below _ root above))
