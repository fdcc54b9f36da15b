-- `hydrogen::hundreds::floor` meets its contract: the floor at p is made from its entry.
use mathlib.Core.Path.{◌≡◌, sym, ap, ◌∙◌}
use Prim.Native.Nat.{ℕ, ◌^◌, ◌<◌}
use native.Mathlib.Nat.{zero-add}
use native.Mathlib.Omega.{arith}
use lib.Dec.{eqb}
use lib.ListN.{get_or}
use borrow.Author.Rules.{rules}
use Rattle.std.proofs.Math.Facts.{eqb_yes}
use Rattle.refusal.proofs.Tables.{at}
use Rattle.hydrogen.specs.declared.hundreds.TheConstants.{TENS}
use Rattle.hydrogen.proofs.HundredLaws.{divides-by-ten, hundreds_to, floor-from-entry}
use Rattle.hydrogen.proofs.hundreds.floor.Goals as goal

-- the list has the powers of ten
power : (k : ℕ) → k < 9 → get_or TENS k 0 ≡ 10 ^ k
power k h = eqb_yes (at (λ i x. eqb x (10 ^ i)) TENS 0 tt k h) ∙ ap (λ (i : ℕ). 10 ^ i) (zero-add k)

pub returns : goal.returns
returns c = record {
  answer = rw (c.entry-first.ensures, power (hundreds_to c.args.p) (omega arith)) (sym (floor-from-entry c.args.p (search rules) (search rules)));
  law = divides-by-ten;
}
