-- No solution is too strong for a bracket, and the products by its ends have room.
use borrow.Author.Tests.{not-false}
use Rattle.judge.specs.ByValue.{conductivity_in}
use Rattle.judge.proofs.CorrectionLaws.{not-strong, least-fits, most-fits, least-made, most-made}
use Rattle.judge.proofs.RoundingLaws.{corrected-decided}
use Rattle.judge.proofs.RoomLaws.{conductivity-room}
use Rattle.judge.proofs.conductivity_check.of_record.Goals as goal

pub returns-in_default : goal.returns-in_default
returns-in_default c = absurd (not-strong _ c.args.solution.bounded c.bracket.ensures.answer c.in_default.is)

pub times-smallest-requires : goal.times-smallest-requires
times-smallest-requires c = least-fits _ c.args.solution.bounded c.bracket.ensures.answer c.in-Some.is

pub times-largest-requires : goal.times-largest-requires
times-largest-requires c = most-fits _ c.args.solution.bounded c.bracket.ensures.answer c.in-Some.is

pub decide-requires : goal.decide-requires
decide-requires c =
    let bounded = c.args.solution.bounded in
    let given = c.bracket.ensures.answer in
    let is = c.in-Some.is in
    rw (
      c.window_at.ensures,
      c.of-least.ensures,
      c.of-most.ensures,
      least-made _ bounded given is c.times-smallest.ensures,
      most-made _ bounded given is c.times-largest.ensures,
    ) (conductivity-room _ bounded _)

pub returns : goal.returns
unfolding conductivity_in
returns c =
    let bounded = c.args.solution.bounded in
    let given = c.bracket.ensures.answer in
    let is = c.in-Some.is in
    let corrected = corrected-decided _ bounded _
    (rw (
      c.window_at.ensures,
      c.of-most.ensures,
      c.of-least.ensures,
      least-made _ bounded given is c.times-smallest.ensures,
      most-made _ bounded given is c.times-largest.ensures,
    ) at c.decide.ensures) in
    rw (not-false _ c.if-not-solution.false) corrected
