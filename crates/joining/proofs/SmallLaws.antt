-- Where the words of two batches have 32 bits, so have those of the joined batch.
use mathlib.Core.Path.{◌≡◌, refl}
use mathlib.Core.List.{List, [], ◌∷◌, ◌++◌, map}
use Prim.Native.Nat.{◌^◌, ◌<◌}
use native.Mathlib.Omega.{arith}
use lib.ListN.{length}
use Rattle.chart.proofs.ValueLaws.{counts-within}
use Rattle.words.specs.Each.{Every}
use Rattle.words.specs.Sections.{all_words, section_words}
use Rattle.words.proofs.EachLaws.{every_append, every-parts}
use Rattle.words.proofs.SectionLaws.{words_append, words-parts, parts-words}
use Rattle.words.proofs.PackedLaws.{Word}
use Rattle.chart_section.specs.ChartSection.{Chart, chart_words}
use Rattle.batch.specs.Batches.{Batch}
use Rattle.batch.specs.Layout.{sample_words, layout, ValidBatch}
use Rattle.joining.specs.Charts.{Match, key_of, match_in, joined_with, joined_chart, only_in, joined_charts}
use Rattle.joining.specs.Joins.{joined}
use Rattle.joining.proofs.OnlyLaws.{InRange, valid-parts, every-only}
use Rattle.joining.proofs.ChartLaws.{found-has}

-- ---- charts

abbrev ChartSmall : Chart → Type 0
ChartSmall c = Every Word (chart_words c)

joined_small : (c : Chart) (m : Match) → ChartSmall c → ((d : Chart) → m ≡ Match.both d → ChartSmall d) → InRange (joined_with c m) → ChartSmall (joined_with c m)
joined_small c Match.alone s q v = s
joined_small c (Match.both d) s q v =
    let own = every-parts Word c.setup c.later s.1.1.1 in
    let other = every-parts Word d.setup d.later (q d refl).1.1.1 in
    let few : length (c.later ++ d.later) < 2 ^ 32 = omega (arith, (counts-within (length c.setup) (length (c.later ++ d.later)) v.counts).2) in
    (s.0, (s.1.0, (few, every_append Word c.setup (c.later ++ d.later) own.0 (every_append Word c.later d.later own.1 other.1))))

firsts-small : (first second : List Chart) → Every ChartSmall second → Every ChartSmall first → Every InRange (map (joined_chart second) first)
    → Every ChartSmall (map (joined_chart second) first)
firsts-small [] second q p v = tt
firsts-small (c ∷ cs) second q p v =
    (joined_small c (match_in second (key_of c)) p.0 (λ d e. found-has ChartSmall second (key_of c) d q e) v.0, firsts-small cs second q p.1 v.1)

charts-small : (first second : List Chart) → Every InRange (joined_charts first second) → Every Word (all_words chart_words first) → Every Word (all_words chart_words second)
    → Every Word (all_words chart_words (joined_charts first second))
charts-small first second v p q =
    let ones = words-parts chart_words Word first p in
    let others = words-parts chart_words Word second q in
    let ranges = every-parts InRange (map (joined_chart second) first) (only_in first second) v in
    parts-words chart_words Word (joined_charts first second)
    (every_append ChartSmall (map (joined_chart second) first) (only_in first second)
    (firsts-small first second others ones ranges.0)
    (every-only ChartSmall first second others))

-- ---- the joined batch

pub layout-small : (a b : Batch) → ValidBatch (joined a b) → Every Word (layout a) → Every Word (layout b) → Every Word (layout (joined a b))
unfolding layout
layout-small a b v p q =
    let one = every-parts Word (section_words chart_words a.charts) (section_words sample_words a.samples) p in
    let other = every-parts Word (section_words chart_words b.charts) (section_words sample_words b.samples) q in
    let ranges = (valid-parts [] (joined a b).charts v.charts.each).1 in
    let charts = charts-small a.charts b.charts ranges one.0.1 other.0.1 in
    let samples : Every Word (all_words sample_words (joined a b).samples) =
    rw (words_append sample_words a.samples b.samples)
    (every_append Word (all_words sample_words a.samples) (all_words sample_words b.samples) one.1.1 other.1.1) in
    every_append Word (section_words chart_words (joined a b).charts) (section_words sample_words (joined a b).samples)
    (omega (arith, v.charts.few), charts) (omega (arith, v.few), samples)
