-- Both ends are those of the fields, which are bounded.
use Rattle.record.specs.Tested.{fields_in}
use Rattle.solution.proofs.BoundLaws.{held-bounded}
use Rattle.solution.proofs.MadeLaws.{lowest-ranged, highest-ranged, both-made}
use Rattle.solution.proofs.both_ends.of_ranged.Goals as goal

pub sums-least-requires : goal.sums-least-requires
sums-least-requires c = search lowest-ranged

pub sums-most-requires : goal.sums-most-requires
sums-most-requires c = search highest-ranged

-- before the fact of the sums, so that a wrong sum is told first
pub returns : goal.returns
returns c = both-made _ _ c.requires c.is_whole-whole.ensures c.highest.ensures c.are_present-known.ensures c.sums-least.ensures c.sums-most.ensures

pub invariant_of-result : goal.invariant_of-result
invariant_of-result c =
    rw (both-made _ _ c.requires c.is_whole-whole.ensures c.highest.ensures c.are_present-known.ensures c.sums-least.ensures c.sums-most.ensures)
    (record { bounded = held-bounded (fields_in c.args.own) c.args.floor c.requires })
