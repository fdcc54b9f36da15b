-- Every offer leaves fewer words.
use Rattle.std.proofs.Common.{length}
use Rattle.replay.proofs.dockets.offers.Given as goal

abbrev pub decreases-loop-count : goal.decreases-loop-count
decreases-loop-count g l = length l.rest
