-- There is room for the ratios.
use Rattle.judge.proofs.RoomLaws.{balance-room}
use Rattle.judge.proofs.balance_check.of_record.Goals as goal

pub decide-requires : goal.decide-requires
decide-requires c = rw (c.window_at.ensures, c.of-least.ensures, c.of-most.ensures) (balance-room _ c.args.solution.bounded _)
