-- What each of the calls says, of records tested once.
use mathlib.Core.Path.{ap₂, ◌∙◌}
use Rattle.record.specs.Tested.{OwnTests}
use Rattle.agreement.specs.Compared.{compared_of}
use Rattle.agreement.proofs.Laws.{compared_is}
use Rattle.judge.specs.Repeats.{compared_by}
use Rattle.judge.proofs.JudgeLaws.{by_value}
use Rattle.judge.proofs.RepeatLaws.{compared-held}
use Rattle.judge.proofs.judge_repeat.Goals as goal

pub returns : goal.returns
returns c =
    let earlier : OwnTests _ c.test-one.result = record { answered = c.test-one.ensures } in
    let later : OwnTests _ c.test-other.result = record { answered = c.test-other.ensures } in
    let agreement = c.compare-agreement.ensures ∙ ap₂ compared_of c.test-one.ensures c.test-other.ensures ∙ compared_is _ _ in record { judged = c.judge_tested-judgement.ensures ∙ by_value _ later; compared = c.comparison-comparison.ensures ∙ ap₂ compared_by agreement c.same_sample-same.ensures ∙ compared-held earlier later }
