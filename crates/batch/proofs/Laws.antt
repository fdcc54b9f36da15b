-- For the crates above: what was read of a batch, and what every answer keeps to.
use mathlib.Core.Path.{◌≡◌, refl, sym}
use mathlib.Core.Bool.{Bool, true, false, cond}
use mathlib.Core.List.{List, [], ◌∷◌}
use Prim.Native.Nat.{ℕ, zero, suc, ◌+◌, ◌*◌, ◌^◌, ◌<◌}
use native.Mathlib.Omega.{arith}
use lib.Dec.{lit≤}
use lib.ListN.{length, length-drop}
use lib.Seq.{take_at, drop-append-add}
use Rattle.refusal.specs.Outcome.{Outcome}
use Rattle.refusal.specs.Outcome.Outcome.{given, refused}
use Rattle.refusal.proofs.Outcomes.{never}
use Rattle.judge.proofs.Laws.{judged-valid, judged-most}
use Rattle.words.specs.Each.{Every}
use Rattle.chart_section.specs.ChartSection.{Chart}
use Rattle.batch.specs.Batches.{Sample, Batch, batch_of}
use Rattle.batch.specs.Rows.{number_width, flag_width, row_widths, row_words, flagged, row_of, rows_of, answer_of, answered_by, batch_answer, row_at, row_fields, SmallRow, Listed}
use Rattle.batch.specs.Layout.{Judged, LayoutLaws}
use Rattle.batch.proofs.TakenLaws.{batch-read}
use Rattle.batch.proofs.BackLaws.{layout-is-read, layout-fits}

-- ---- a row has the words of its fields, and each field is within its width

row-length : (cs : List Chart) (a : Sample) → length (row_of cs a) ≡ row_words
row-length cs a = refl

rows-length : (cs : List Chart) (ss : List Sample) → length (rows_of cs ss) ≡ row_words * length ss
unfolding rows_of
rows-length cs [] = refl
rows-length cs (a ∷ ss) = omega (arith, rows-length cs ss)

-- as many fields as widths, whatever the words of the row
pub fields-count : (row : List ℕ) → length row ≡ row_words → length (row_fields row) ≡ length row_widths
unfolding row_fields
fields-count row h = omega (arith, length-drop number_width.words row)

flag-within : (b : Bool) → cond b 1 0 < 10 ^ flag_width.digits
flag-within true = lit≤ tt
flag-within false = lit≤ tt

-- the row of a judged record
row_small : (cs : List Chart) (a : Sample) → Judged a → SmallRow (row_of cs a)
unfolding row_fields
row_small cs a j =
    let number = (judged-valid a.words a.verdicts j).number.1 in
    let most = judged-most a.words a.verdicts j in
    (omega arith, (omega arith, (omega arith, (omega arith, (omega arith, (flag-within (flagged cs a.words), tt))))))

-- it is the row that stands there
rows-small : (cs : List Chart) (ss : List Sample) → Every Judged ss → (i : ℕ) → i < length ss → SmallRow (row_at (rows_of cs ss) (row_words * i))
unfolding rows_of
rows-small cs [] j i l = absurd (omega arith)
rows-small cs (a ∷ ss) j zero l = rw (take_at (row_of cs a) (rows_of cs ss) row_words (row-length cs a)) (row_small cs a j.0)
rows-small cs (a ∷ ss) j (suc i) l =
    let e : row_words * suc i ≡ length (row_of cs a) + row_words * i = omega (arith, row-length cs a) in
    rw (e, drop-append-add (row_of cs a) (rows_of cs ss) (row_words * i)) (rows-small cs ss j.1 i (omega arith))

answered : (x : Outcome Batch) (w : List ℕ) → answered_by x ≡ given w → (b : Batch) × (x ≡ given b) × (answer_of b ≡ w)
answered (given b) w e = let same : answer_of b ≡ w = cc in (b, refl, same)
answered (refused n) w e = never e

-- at most 400 rows, and each field of a row within its width
pub answer-listed : (s w : List ℕ) → batch_answer s ≡ given w → Listed w
unfolding batch_answer
answer-listed s w e =
    let t = answered (batch_of s) w e in
    let b = t.0 in
    let r = (batch-read s b t.1).valid in
    rw (sym t.2)
    (record {
      count = r.few;
      size = omega (arith, rows-length b.charts b.samples);
      rows = λ i l. rw (drop-append-add (length b.samples ∷ []) (rows_of b.charts b.samples) (row_words * i))
          (rows-small b.charts b.samples r.judged i l);
    })

-- reading and writing undo each other
pub layout-laws : LayoutLaws
layout-laws = record { reads = λ s b e. (batch-read s b e).words; valid = λ s b e. (batch-read s b e).valid; back = layout-is-read; fits = layout-fits }
