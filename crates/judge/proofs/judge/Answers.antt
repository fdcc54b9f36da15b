-- A record is judged as it is held by value, and the verdicts that are told of it are true and survive finer readings.
use mathlib.Core.Path.{sym, ◌∙◌}
use Rattle.judge.proofs.JudgeLaws.{by_value, told, told-finer}
use Rattle.judge.proofs.FinerExamples.{changes}
use Rattle.judge.proofs.judge.Goals as goal

pub returns : goal.returns
returns c =
    let s = c.args.words.now in
    let e = c.judge_tested.ensures ∙ by_value s {own = c.test.result} (record { answered = c.test.ensures }) in
    record { answer = e; truth = λ v h. told s v (sym e ∙ h); survives = λ v h. told-finer s v (sym e ∙ h); changes = changes }
