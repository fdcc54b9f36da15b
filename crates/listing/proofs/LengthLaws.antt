-- No text is longer than the line of the count and a line for each of the most samples, by the widths of their fields; a refusal's
-- line is shorter.
use mathlib.Core.Bool.{Bool, true, false, ◌&&◌}
use mathlib.Core.Path.{◌≡◌, refl}
use mathlib.Core.List.{List, [], ◌∷◌}
use Prim.Native.Nat.{ℕ, zero, suc, ◌+◌, ◌*◌, ◌≤◌, ◌<◌}
use native.Mathlib.Omega.{arith}
use borrow.Author.Tests.{leb-true}
use lib.Dec.{leb}
use lib.ListN.{length, get_or, take, drop, length-append}
use lib.Seq.{drop-drop}
use Rattle.refusal.specs.declared.Refusal.TheVariants as refusal
use Rattle.refusal.specs.Numbers.{number_of}
use Rattle.refusal.specs.Outcome.{Outcome, demand}
use Rattle.refusal.specs.Outcome.Outcome.{given, refused}
use Rattle.refusal.proofs.Outcomes.{never}
use Rattle.refusal.proofs.Testing.{both}
use Rattle.words.specs.Words.{words_of}
use Rattle.batch.specs.Rows.{Width, row_widths, row_words, batch_answer, row_at, row_fields, FieldsFit, SmallRow, Listed}
use Rattle.batch.proofs.Laws.{answer-listed}
use Rattle.batch.specs.Input.{is_input}
use Rattle.listing.specs.Decimal.{decimal}
use Rattle.listing.specs.Listing.{ending, line, row_line, row_lines, listing_text, refused_word, refused_text, text_of, list_text, count_width, longest_line, most_text, TextFits}
use Rattle.listing.proofs.DecimalLaws.{decimal-within, decimal-most}

-- a field, and the byte that ends it
length-field : (field : ℕ) (rest : List ℕ) → length (line (field ∷ rest)) ≡ length (decimal field) + 1 + length (line rest)
unfolding line
length-field field rest = omega (arith, length-append (decimal field) (ending (length rest) ∷ line rest))

length_none : length (line []) ≡ 0
unfolding line
length_none = refl

-- each field has a digit at least
some_digits : List Width → Bool
some_digits [] = true
some_digits (width ∷ widths) = leb 1 width.digits && some_digits widths

-- a line of fields, each within its width
line-fits : (widths : List Width) (fields : List ℕ) → some_digits widths ≡ true → FieldsFit widths fields → length (line fields) ≤ longest_line widths
unfolding some_digits
line-fits [] [] some fit = omega (arith, length_none)
line-fits [] (field ∷ rest) some fit = elim fit [ ]
line-fits (width ∷ widths) [] some fit = elim fit [ ]
line-fits (width ∷ widths) (field ∷ rest) some fit =
    let each = both (leb 1 width.digits) (some_digits widths) some in
    omega (
      arith,
      length-field field rest,
      decimal-within width.digits field (leb-true 1 width.digits each.0) fit.0,
      line-fits widths rest each.1 fit.1,
    )

pub refused-fits : (n : ℕ) → length (refused_text n) ≤ most_text
unfolding refused_text
refused-fits n = omega (arith, length-append refused_word (line (n ∷ [])), length-field n [], length_none, decimal-most n)

-- a row, and rows one after another
row_fits : (row : List ℕ) → SmallRow row → length (row_line row) ≤ longest_line row_widths
unfolding row_line some_digits
row_fits row small = line-fits row_widths (row_fields row) refl small

rows_fit : (n : ℕ) (w : List ℕ) → ((i : ℕ) → i < n → SmallRow (row_at w (row_words * i))) → length (row_lines n w) ≤ longest_line row_widths * n
unfolding row_lines
rows_fit zero w small = omega arith
rows_fit (suc n) w small =
    let first : List ℕ = row_line (take row_words w) in
    let others : List ℕ = drop row_words w in
    let each : (i : ℕ) → i < n → SmallRow (row_at others (row_words * i)) =
    λ i l.
    let e : row_words + row_words * i ≡ row_words * suc i = omega arith in
    rw (drop-drop (row_words * i) row_words w, e) (small (suc i) (omega arith))
    in
    omega (
      arith,
      length-append first (row_lines n others),
      row_fits (take row_words w) (small 0 (omega arith)),
      rows_fit n others each,
    )

pub listed-fits : (w : List ℕ) → Listed w → length (listing_text w) ≤ most_text
unfolding listing_text some_digits
listed-fits w listed =
    let count : ℕ = get_or w 0 0 in
    let first : List ℕ = line (count ∷ []) in
    let rows : List ℕ = row_lines count (drop 1 w) in
    let each : (i : ℕ) → i < count → SmallRow (row_at (drop 1 w) (row_words * i)) =
    λ i l. rw (drop-drop (row_words * i) 1 w) (listed.rows i l)
    in
    omega (
      arith,
      length-append first rows,
      line-fits (count_width ∷ []) (count ∷ []) refl (omega (arith, listed.count), tt),
      rows_fit count (drop 1 w) each,
      listed.count,
    )

-- the text of an answer, and of the bytes
answer-fits : (answer : Outcome (List ℕ)) → ((w : List ℕ) → answer ≡ given w → Listed w) → length (text_of answer) ≤ most_text
unfolding text_of
answer-fits (given w) listed = listed-fits w (listed w refl)
answer-fits (refused n) listed = refused-fits n

tested-fits : (t : Bool) (s : List ℕ) → length (text_of (demand t (number_of refusal.BatchLength) (batch_answer s))) ≤ most_text
tested-fits true s = answer-fits (batch_answer s) (answer-listed s)
tested-fits false s = answer-fits (refused (number_of refusal.BatchLength)) (λ w e. never e)

pub text-fits : TextFits
unfolding list_text
text-fits bytes = tested-fits (is_input bytes) (words_of bytes)
