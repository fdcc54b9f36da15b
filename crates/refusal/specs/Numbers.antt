-- Document 01, 'Refusals that come from the input' and 'Refusals that come from the state', 1, 2 and 12 as document 02 (ii) reads
-- them, and document 02 (iii), '14 setup values differ; 15 joined counts exceed 01's ranges': the number of each.
use Rattle.std.specs.Prelude.{ℕ}
use Rattle.refusal.specs.declared.Refusal.{Refusal}
use Rattle.refusal.specs.declared.Refusal.TheVariants as refusal

abbrev pub number_of : Refusal → ℕ
-- from the input: a record is not 26 words long
number_of refusal.RecordLength = 1
-- the sample number, the whole one, is out of range
number_of refusal.SampleNumber = 2
-- no such kind
number_of refusal.Kind = 3
-- the pH is out of range
number_of refusal.Ph = 4
-- the measured conductivity is out of range
number_of refusal.Conductivity = 5
-- the alkalinity is out of range
number_of refusal.Alkalinity = 6
-- a reading's mark or value
number_of refusal.Reading = 7
-- a batch ends early or has words left over
number_of refusal.BatchLength = 8
-- a count beyond its range
number_of refusal.Count = 9
-- a chart's element out of range or repeated, or a value out of range
number_of refusal.Chart = 10
-- from the state: the docket is closed, or is one that no offers produce
number_of refusal.DocketClosed = 11
-- the whole number or the kind differs from the record held
number_of refusal.OtherSample = 12
-- the output is shorter than the answer
number_of refusal.OutputLength = 13
-- of two batches that are joined: the setup values of a chart in both differ
number_of refusal.SetupDiffers = 14
-- a chart's joined later values, or the joined samples, are too many
number_of refusal.JoinedCount = 15
