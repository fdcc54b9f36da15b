-- A float in range is no NaN.
use mathlib.Core.Path.{sym, ap, ◌∙◌}
use Rattle.reading.specs.Readings.{is_in_range}
use Rattle.reading.proofs.RangeLaws.{not-nan}
use Rattle.reading.proofs.Reading.words.Goals as goal

pub float_to_bits-mark : goal.float_to_bits-mark
float_to_bits-mark c = not-nan 0 _ (sym (c.if-not-is_in_range.ensures ∙ ap is_in_range c.in-Measured.is))

pub float_to_bits-mark-in-Below : goal.float_to_bits-mark-in-Below
float_to_bits-mark-in-Below c = not-nan 1 _ (sym (c.if-not-is_in_range.ensures ∙ ap is_in_range c.in-Below.is))
