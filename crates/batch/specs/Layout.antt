-- Document 01, 'A batch': the words of a batch that is given as a value; and the statement that reading and writing undo each
-- other.
use Rattle.std.specs.Prelude.{◌≡◌, List, ◌++◌, ℕ, ◌≤◌, length}
use Rattle.refusal.specs.Outcome.Outcome.{given}
use Rattle.judge.specs.Judgements.{judgement_of}
use Rattle.words.specs.Each.{Every}
use Rattle.words.specs.Sections.{section_words}
use Rattle.chart_section.specs.ChartSection.{chart_words}
use Rattle.chart_section.specs.Valid.{ValidCharts}
use Rattle.batch.specs.Batches.{Sample, Batch, most_samples, batch_of}
use Rattle.batch.specs.Input.{most_words}

abbrev pub sample_words : Sample → List ℕ
sample_words a = a.words

-- its verdicts are those on its record
abbrev pub Judged : Sample → Type 0
Judged a = judgement_of a.words ≡ given a.verdicts

-- 'Two sections': the charts, then the samples
unfoldable pub layout : Batch → List ℕ
layout b = section_words chart_words b.charts ++ section_words sample_words b.samples

-- what was read is what its layout writes, no word of it lost or changed
abbrev pub ReadsItsLayout : Type 0
ReadsItsLayout = (s : List ℕ) (b : Batch) → batch_of s ≡ given b → s ≡ layout b

-- a batch that document 01 allows, given as a value
pub record ValidBatch (b : Batch) : Type 0 where
  pub charts : ValidCharts b.charts
  -- 'samples (0 to 400 records)', each with the verdicts on it
  pub few : length b.samples ≤ most_samples
  pub judged : Every Judged b.samples

-- what was read is such a batch
abbrev pub ReadsAValidBatch : Type 0
ReadsAValidBatch = (s : List ℕ) (b : Batch) → batch_of s ≡ given b → ValidBatch b

-- and every such batch is read from its layout
abbrev pub LayoutIsRead : Type 0
LayoutIsRead = (b : Batch) → ValidBatch b → batch_of (layout b) ≡ given b

-- and no batch has more words than the longest
abbrev pub LayoutFits : Type 0
LayoutFits = (b : Batch) → ValidBatch b → length (layout b) ≤ most_words

-- so reading and writing undo each other, both ways
pub record LayoutLaws : Type 0 where
  pub reads : ReadsItsLayout
  pub valid : ReadsAValidBatch
  pub back : LayoutIsRead
  pub fits : LayoutFits
