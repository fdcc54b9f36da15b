-- `activity::root::Root::lower` meets its contract: the whole root of a 2,000th of the strength is its lower root.
use Rattle.activity.proofs.RootLaws.{lower-root-from}
use Rattle.activity.proofs.root.Root.lower.Goals as goal

pub returns : goal.returns
returns c = lower-root-from c.args.strength _ c.whole_root.ensures.0 c.whole_root.ensures.1
