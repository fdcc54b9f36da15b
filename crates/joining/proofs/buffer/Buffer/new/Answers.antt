-- No chart, and no words.
use mathlib.Core.Path.{refl}
use Rattle.joining.proofs.FilledLaws.{holds_none}
use Rattle.joining.proofs.buffer.Buffer.new.Goals as goal

pub returns : goal.returns
returns c = holds_none _ refl refl
