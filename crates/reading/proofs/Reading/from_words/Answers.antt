-- A pattern in range is no NaN's.
use mathlib.Core.Path.{sym}
use Rattle.reading.proofs.RangeLaws.{not-nan-pattern}
use Rattle.reading.proofs.Reading.from_words.Goals as goal

pub float_from_bits-result : goal.float_from_bits-result
float_from_bits-result c = not-nan-pattern 0 c.args.bits (sym c.if-is_value_pattern.ensures)

pub float_from_bits-result-in-2 : goal.float_from_bits-result-in-2
float_from_bits-result-in-2 c = not-nan-pattern 1 c.args.bits (sym c.if-is_limit_pattern.ensures)
