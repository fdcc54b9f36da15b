-- What is read back: a sample from its record, and a valid batch from its layout; and how many words that has at most.
use mathlib.Core.Path.{◌≡◌, sym, ap, ◌∙◌}
use mathlib.Core.List.{List, [], ◌∷◌, ◌++◌, append-nil}
use Prim.Native.Nat.{◌+◌, ◌*◌, ◌≤◌}
use native.Mathlib.Omega.{arith}
use lib.ListN.{length, length-append}
use lib.Seq.{take_at, drop_at}
use borrow.Author.Tests.{le-leb}
use Rattle.record.specs.Record.{record_words}
use Rattle.judge.proofs.Laws.{judged-length}
use Rattle.words.specs.Each.{Every}
use Rattle.words.specs.FromFront.{taken}
use Rattle.words.specs.Sections.{section_words}
use Rattle.words.proofs.EachLaws.{every-each}
use Rattle.words.proofs.SectionLaws.{words-most}
use Rattle.words.proofs.BackLaws.{Returns, section-back}
use Rattle.words.proofs.ManyLaws.{then-taken}
use Rattle.chart_section.specs.ChartSection.{chart_words}
use Rattle.chart_section.proofs.StandLaws.{charts-most}
use Rattle.chart_section.proofs.BackLaws.{charts-back}
use Rattle.batch.specs.Batches.{Sample, Batch, most_samples, sample_of, samples_of, batch_of}
use Rattle.batch.specs.Layout.{sample_words, Judged, layout, ValidBatch, LayoutIsRead, LayoutFits}

sample-back : Returns (λ before. Judged) sample_words (λ before. sample_of)
unfolding sample_of
sample-back before a rest j =
    let n = judged-length a.words a.verdicts j in
    let long : record_words ≤ length (a.words ++ rest) = omega (arith, n, length-append a.words rest) in
    rw (le-leb record_words (length (a.words ++ rest)) long, take_at a.words rest record_words n, drop_at a.words rest record_words n, j)

samples-back : (b : Batch) → ValidBatch b → samples_of (section_words sample_words b.samples) ≡ taken b.samples []
samples-back b v =
    ap samples_of (sym (append-nil (section_words sample_words b.samples)))
    ∙ section-back (λ before. Judged) sample_words _ sample-back most_samples b.samples [] v.few (every-each (λ before. Judged) Judged (λ before a j. j) [] b.samples v.judged)

pub layout-is-read : LayoutIsRead
unfolding batch_of layout
layout-is-read b v = then-taken _ (charts-back b.charts (section_words sample_words b.samples) v.charts) ∙ then-taken _ (samples-back b v)

-- ---- how many words

record-most : (ss : List Sample) → Every Judged ss → Every (λ a. length a.words ≤ record_words) ss
record-most [] j = tt
record-most (a ∷ ss) j = (omega (arith, judged-length a.words a.verdicts j.0), record-most ss j.1)

pub samples-most : (b : Batch) → ValidBatch b → length (section_words sample_words b.samples) ≤ 1 + most_samples * record_words
samples-most b v = omega (arith, v.few, words-most sample_words record_words b.samples (record-most b.samples v.judged))

pub layout-fits : LayoutFits
unfolding layout
layout-fits b v =
    omega (
      arith,
      length-append (section_words chart_words b.charts) (section_words sample_words b.samples),
      charts-most b.charts v.charts,
      samples-most b v,
    )
