-- Each check is handed the fields and their sums.
use Rattle.judge.proofs.AnswerWays.{verdicts-made}
use Rattle.judge.proofs.checks.verdicts.Goals as goal

pub returns : goal.returns
returns c = search verdicts-made
