-- Document 01, 'A batch', with the limit of document 02 (ii): which bytes a program reads as the words of a batch.
use Rattle.std.specs.Prelude.{Bool, ◌&&◌, List, ◌≡◌, ℕ, ◌+◌, ◌*◌, ◌%◌, leb, eqb, length}
use Rattle.record.specs.Record.{record_words}
use Rattle.words.specs.Words.{word_bytes}
use Rattle.chart_section.specs.ChartSection.{most_charts, most_chart}
use Rattle.batch.specs.Batches.{most_samples}

-- 'Two sections, each after its count: charts (0 to 10: element .., setup count, later count, values), then samples (0 to 400
-- records)': the words of a batch that has the most of all
abbrev pub most_words : ℕ
most_words = (1 + most_charts * most_chart) + (1 + most_samples * record_words)

abbrev pub most_bytes : ℕ
most_bytes = word_bytes * most_words

-- that is document 02's: 'the limit on input bytes becomes 46,848'
abbrev pub ByteLimit : Type 0
ByteLimit = most_bytes ≡ 46_848

-- 'Bytes not a multiple of 4, or over' that limit, 'give 8 before any other test': those that are read
unfoldable pub is_input : List ℕ → Bool
is_input b = eqb (length b % word_bytes) 0 && leb (length b) most_bytes
