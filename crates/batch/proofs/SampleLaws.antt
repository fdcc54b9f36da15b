-- The rows made of the samples, from the start of the loop over them to each of its ends.
use mathlib.Core.Path.{◌≡◌, refl, sym, ap, ap₂, ◌∙◌}
use mathlib.Core.Bool.{Bool}
use mathlib.Core.List.{List, [], ◌∷◌, ◌++◌, append_assoc, append-nil}
use Prim.Native.Nat.{ℕ, ◌+◌, ◌*◌, ◌≤◌}
use native.Mathlib.Omega.{arith}
use lib.ListN.{length, get_or, take, length-append}
use lib.Seq.{take-suc}
use Rattle.refusal.specs.Outcome.Outcome.{given, refused}
use Rattle.refusal.specs.Numbers.{number_of}
use Rattle.refusal.specs.declared.Refusal.{Refusal}
use Rattle.record.specs.declared.TestedRecord.{TestedRecord}
use Rattle.record.specs.Record.{has_reading}
use Rattle.record.specs.Tested.{Fields, fields_in, terms_of, OwnTests, has_reading_in}
use Rattle.record.proofs.AcceptedLaws.{Valid}
use Rattle.record.proofs.TestedLaws.{tested-fields, tested-reading}
use Rattle.judge.specs.Judgements.{Four}
use Rattle.judge.specs.ByValue.{judged_of}
use Rattle.judge.proofs.Laws.{judged-valid, judged-by-value}
use Rattle.chart_section.specs.declared.columns.ChartSignal.{ChartSignal}
use Rattle.batch.specs.Batches.{Sample, most_samples}
use Rattle.batch.specs.Rows.{row_words, most_answer, row_with}
use Rattle.refusal.specs.Lent.{placed}
use Rattle.batch.specs.Steps.{row_in, row_by, rows_by, TakenFrom, NoneFrom, samples_answer}
use Rattle.batch.proofs.FlagLaws.{flag-alike}
use Rattle.batch.proofs.ReadingLaws.{Left, walk-begins, next-left, record-refused, walk-refused, walk-done}
use Rattle.refusal.proofs.PlaceLaws.{placed-take, length-placed}
use Rattle.words.specs.Placing.{placed_within}
use Rattle.words.proofs.Laws.{placed-all}

-- ---- rows

-- a row by the fields of a record that was tested and judged is the row of its words
module _ {w : List ℕ} (own : TestedRecord) (t : OwnTests w own) {v : Four} (e : judged_of (terms_of own) ≡ given v) where
  valid : Valid w
  valid = judged-valid w v (sym (judged-by-value w t) ∙ e)

  row-by-value : (cs : List ChartSignal) → row_in own v cs ≡ row_by cs (record { words = w; verdicts = v })
  row-by-value cs =
      ap₂ (λ (n : ℕ) (flag : Bool). row_with n v flag) (ap (λ (f : Fields). f.number) (tested-fields t valid))
      (flag-alike cs (has_reading_in (fields_in own)) (has_reading w) (tested-reading t valid))

rows_more : (cs : List ChartSignal) (before : List Sample) (a : Sample) → rows_by cs (before ++ a ∷ []) ≡ rows_by cs before ++ row_by cs a
unfolding rows_by
rows_more cs [] a = append-nil (row_by cs a)
rows_more cs (b ∷ before) a = rw (rows_more cs before a) (sym (append_assoc (row_by cs b) (rows_by cs before) (row_by cs a)))

-- ---- the loop

-- of count samples those before have been read, n are to come in the rest of the words, and the rows so far are the first words of
-- the buffer
pub record Making (words : List ℕ) (cs : List ChartSignal) (buffer : List ℕ) (size n : ℕ) (rest : List ℕ) : Type 0 where
  pub count : ℕ
  pub few : count ≤ most_samples
  pub room : length buffer ≡ most_answer
  pub before : List Sample
  pub counted : length before + n ≡ count
  pub made : size ≡ 1 + row_words * length before
  pub left : Left words n rest before
  pub rows : take size buffer ≡ count ∷ rows_by cs before

pub making-begins : (words : List ℕ) (cs : List ChartSignal) (buffer : List ℕ) (n : ℕ) (rest : List ℕ)
    → words ≡ n ∷ rest → n ≤ most_samples → length buffer ≡ most_answer → get_or buffer 0 0 ≡ n → Making words cs buffer 1 n rest
unfolding rows_by
making-begins words cs buffer n rest e l b f =
    record {
      count = n;
      few = l;
      room = b;
      before = [];
      counted = omega arith;
      made = refl;
      left = walk-begins words n rest e l;
      rows = take-suc buffer 0 0 (omega arith) ∙ ap (λ (k : ℕ). k ∷ []) f;
    }

module _ (words : List ℕ) (cs : List ChartSignal) (buffer : List ℕ) (size n : ℕ) (rest : List ℕ) (m : Making words cs buffer size n rest) where
  -- there is room for one more row
  pub making-fits : (n' : ℕ) → n ≡ n' + 1 → size + row_words ≤ most_answer
  making-fits n' e = omega (arith, m.few, m.made, m.counted)

  -- the ways out
  abbrev told : List Sample → List ℕ
  told ss = length ss ∷ rows_by cs ss

  module _ {w rest' : List ℕ} (n' : ℕ) (h : TakenFrom n rest w n' rest') (own : TestedRecord) (t : OwnTests w own) where
    -- a turn: the sample is taken, and its row placed
    pub making-next : (v : Four) (row after : List ℕ) → judged_of (terms_of own) ≡ given v → row ≡ row_in own v cs → after ≡ placed_within buffer size row
        → Making words cs after (size + row_words) n' rest'
    making-next v row after e r put =
        let a : Sample = record { words = w; verdicts = v } in
        let is : row ≡ row_by cs a = r ∙ row-by-value own t e cs in
        let whole : length row ≡ row_words = ap length is in
        let fits : size + length row ≤ length buffer = omega (arith, making-fits n' h.0, m.room, whole) in
        let p = put ∙ placed-all buffer size row fits in
        let longer = length-append m.before (a ∷ []) in
        record {
          count = m.count;
          few = m.few;
          room = ap length p ∙ length-placed buffer size row fits ∙ m.room;
          before = m.before ++ a ∷ [];
          counted = omega (arith, m.counted, h.0, longer);
          made = omega (arith, m.made, longer);
          left = next-left words n rest m.before m.left n' h v (sym (judged-by-value w t) ∙ e);
          rows = ap (take (size + row_words)) p
              ∙ ap (λ (k : ℕ). take (size + k) (placed buffer size row)) (sym whole)
              ∙ placed-take buffer row size fits
              ∙ ap (λ (l : List ℕ). l ++ row) m.rows
              ∙ ap (λ (l : List ℕ). m.count ∷ (rows_by cs m.before ++ l)) is
              ∙ ap (λ (l : List ℕ). m.count ∷ l) (sym (rows_more cs m.before a));
        }

    pub making-refused : {k : ℕ} → judged_of (terms_of own) ≡ refused k → samples_answer cs words ≡ refused k
    making-refused e = record-refused words n rest m.before m.left told n' h (sym (judged-by-value w t) ∙ e)

  pub making-none : {why : Refusal} → NoneFrom n rest why → samples_answer cs words ≡ refused (number_of why)
  making-none h = walk-refused words n rest m.before m.left told h

  pub making-done : n ≡ 0 → length rest ≡ 0 → samples_answer cs words ≡ given (take size buffer)
  making-done e h =
      let all : length m.before ≡ m.count = omega (arith, m.counted, e) in
      walk-done words n rest m.before m.left told e h
      ∙ ap given (ap (λ (k : ℕ). k ∷ rows_by cs m.before) all ∙ sym m.rows)
