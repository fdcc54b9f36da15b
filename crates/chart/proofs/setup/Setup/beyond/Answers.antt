-- Both products fit 64 bits by what is known of the setup and the value.
use Prim.Native.Nat.{◌-◌, ◌*◌}
use native.Mathlib.Nat.{mul_assoc}
use native.Mathlib.Omega.{arith}
use Rattle.chart.specs.Setups.{square, beyond}
use Rattle.chart.proofs.RoomLaws.{right-fits}
use Rattle.chart.proofs.setup.Setup.beyond.Goals as goal

pub overflow_mul-result-4 : goal.overflow_mul-result-4
overflow_mul-result-4 c = omega (arith, right-fits c.self.invariant c.requires.1 (rw c.from.ensures at c.abs_diff-gap.ensures))

pub returns : goal.returns
unfolding beyond
returns c =
    let f = c.self.inside in
    rw (
      ← c.self.view_is,
      c.abs_diff-gap.ensures,
      c.from.ensures,
      c.self.invariant.limit,
      mul_assoc (square c.args.k) f.n (f.n * f.squares - square f.sum),
    )
