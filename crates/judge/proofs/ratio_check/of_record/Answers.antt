-- There is room for the ratios.
use Rattle.judge.proofs.RoomLaws.{ratio-room}
use Rattle.judge.proofs.ratio_check.of_record.Goals as goal

pub decide-requires : goal.decide-requires
decide-requires c = rw (c.of-least.ensures, c.of-most.ensures) (ratio-room _ c.args.solution.bounded)
