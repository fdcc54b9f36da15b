-- The bytes are too many for the lent ones, or stand at their start.
use Rattle.joining.proofs.FileLaws.{bytes-short, bytes-written}
use Rattle.joining.proofs.files.lend.Goals as goal

pub returns-then-out-words : goal.returns-then-out-words
returns-then-out-words c =
    let said = bytes-short _ _ c.if-out-words.true in
    record { answer = said.0; lent = said.1 }

pub returns : goal.returns
returns c =
    let said = bytes-written _ c.args.out.now c.if-out-words.false c.pack.ensures.answer c.pack.ensures.lent in
    record { answer = said.0; lent = said.1 }
