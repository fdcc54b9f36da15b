-- The range is the definition's.
use Rattle.record.proofs.is_element.Goals as goal

pub returns : goal.returns
returns c = c.in_range.ensures
