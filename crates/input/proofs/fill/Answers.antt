-- What was read is in the first places of the buffer, and the words made of it are what unpacking it gives.
use Rattle.std.proofs.Common.{rules}
use Rattle.input.proofs.CameLaws.{came}
use Rattle.input.proofs.fill.Goals as goal

pub returns-clause-came : goal.returns-clause-came
returns-clause-came g c =
    let told = c.unpack-whole.ensures in
    came c.args.words.now _ c.read_full-got.result (search rules) (search rules) (search rules) told.answer told.lent told.inside
