-- Numbers in base ten: that they are written as the library prints them, how many digits there are, and that the text says the number.
use mathlib.Core.Path.{◌≡◌, refl, sym, ◌∙◌}
use mathlib.Core.List.{List, [], ◌∷◌, ◌++◌}
use Prim.Native.Nat.{ℕ, zero, suc, ◌+◌, ◌-◌, ◌*◌, ◌/◌, ◌%◌, ◌^◌, ◌≤◌, ◌<◌}
use native.Mathlib.Decide.{dec_lt}
use native.Mathlib.Nat.{pow-suc}
use native.Mathlib.Omega.{arith}
use borrow.Author.Tests.{lt-ltb, le-ltb}
use lib.ListN.{length, get_or, length-append, get_or-append}
use lib.Seq.{get_or-append_seam}
use Rattle.std.specs.Fmt as printed
use Rattle.std.proofs.lemmas.Fmt.{decimal_from_appends_wide, length-decimal-le_wide, decimal_by_steps_wide}
use Rattle.listing.specs.Decimal.{code_of_zero, digit, decimal_from, most_digits, decimal, read_from, Spelled, DecimalTruth}

-- one digit, or the last after the others
pub one-digit : (k n : ℕ) → n < 10 → decimal_from (suc k) n ≡ digit n ∷ []
unfolding decimal_from
one-digit k n h = simp (lt-ltb n 10 h)

more-digits : (k n : ℕ) → 10 ≤ n → decimal_from (suc k) n ≡ decimal_from k (n / 10) ++ (digit (n % 10) ∷ [])
unfolding decimal_from
more-digits k n h = simp (le-ltb n 10 h)

-- a number of at most so many digits is written as the library prints it
pub decimal-printed : (n : ℕ) → n < 10 ^ most_digits → printed.decimal n ≡ decimal n
unfolding decimal
decimal-printed n h =
    let small : n < 10 ^ 64 = omega (arith, h) in
    sym (decimal_from_appends_wide decimal_from (record { one = one-digit; more = more-digits }) most_digits n small (length-decimal-le_wide most_digits n (omega arith) h small))

-- as many digits at most as the bound of the number has
at_most : (k j n : ℕ) → n < 10 ^ suc j → Dec (n < 10) → length (decimal_from k n) ≤ suc j
unfolding decimal_from
at_most zero j n h d = omega arith
at_most (suc k) j n h (yes l) = rw (one-digit k n l) (omega arith)
at_most (suc k) zero n h (no l) = absurd (l h)
at_most (suc k) (suc j) n h (no l) =
    let fewer : n / 10 < 10 ^ suc j = omega (arith, pow-suc 10 (suc j)) in
    rw (more-digits k n (omega arith))
    (omega (arith, length-append (decimal_from k (n / 10)) (digit (n % 10) ∷ []), at_most k j (n / 10) fewer (dec_lt (n / 10) 10)))

few : (k n : ℕ) → Dec (n < 10) → length (decimal_from k n) ≤ k
unfolding decimal_from
few zero n d = omega arith
few (suc k) n (yes l) = rw (one-digit k n l) (omega arith)
few (suc k) n (no l) =
    rw (more-digits k n (omega arith))
    (omega (arith, length-append (decimal_from k (n / 10)) (digit (n % 10) ∷ []), few k (n / 10) (dec_lt (n / 10) 10)))

pub decimal-within : (digits n : ℕ) → 1 ≤ digits → n < 10 ^ digits → length (decimal n) ≤ digits
unfolding decimal
decimal-within zero n some h = absurd (omega arith)
decimal-within (suc j) n some h = at_most most_digits j n h (dec_lt n 10)

pub decimal-most : (n : ℕ) → length (decimal n) ≤ most_digits
unfolding decimal
decimal-most n = few most_digits n (dec_lt n 10)

-- what a text says with one digit more at its end
read-last : (before code : ℕ) (text : List ℕ) → read_from before (text ++ (code ∷ [])) ≡ 10 * read_from before text + (code - code_of_zero)
unfolding read_from
read-last before code [] = refl
read-last before code (first ∷ text) = read-last (10 * before + (first - code_of_zero)) code text

abbrev IsDigit : ℕ → Type 0
IsDigit code = (code_of_zero ≤ code) × (code ≤ code_of_zero + 9)

-- what holds of each place of a list, and of one element more at its end, holds of each place of both
digits_more : (text : List ℕ) (code : ℕ) → ((k : ℕ) → k < length text → IsDigit (get_or text k 0)) → IsDigit code
    → (k : ℕ) → Dec (k < length text) → k < length (text ++ (code ∷ [])) → IsDigit (get_or (text ++ (code ∷ [])) k 0)
digits_more text code each is k (yes l) h = rw (get_or-append text (code ∷ []) 0 k l) (each k l)
digits_more text code each is k (no l) h =
    let e : k ≡ length text = omega (arith, length-append text (code ∷ [])) in
    rw (e, get_or-append_seam text code [] 0) is

front-more : (n code : ℕ) (text : List ℕ) → 0 < n → Spelled n text → code_of_zero < get_or (text ++ (code ∷ [])) 0 0
unfolding read_from
front-more n code [] h s = absurd (omega (arith, s.some))
front-more n code (first ∷ []) h s = omega (arith, s.reads)
front-more n code (first ∷ next ∷ text) h s = s.front (omega arith)

spelled-more : (n : ℕ) (text : List ℕ) → 10 ≤ n → Spelled (n / 10) text → Spelled n (text ++ (digit (n % 10) ∷ []))
spelled-more n text h s = record {
  reads = read-last 0 (digit (n % 10)) text ∙ omega (arith, s.reads);
  digits = λ k l. digits_more text (digit (n % 10)) s.digits (omega arith, omega arith) k (dec_lt k (length text)) l;
  some = omega (arith, length-append text (digit (n % 10) ∷ []));
  front = λ l. front-more (n / 10) (digit (n % 10)) text (omega arith) s;
}

spelled-one : (n : ℕ) → n < 10 → Spelled n (digit n ∷ [])
unfolding read_from
spelled-one n h = record {
  reads = omega arith;
  digits = λ k l. digits_more [] (digit n) (λ j m. absurd (omega arith)) (omega arith, omega arith) k (no (λ m. omega arith)) l;
  some = omega arith;
  front = λ l. absurd (omega arith);
}

pub decimal-truth : DecimalTruth
decimal-truth n h = rw (← decimal-printed n h) (decimal_by_steps_wide Spelled spelled-one spelled-more n (omega (arith, h)))
