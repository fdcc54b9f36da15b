-- Writing a text part after part, each to the start of what is left of it: what is left to write, over what is written, gives the
-- whole.
use mathlib.Core.Path.{◌≡◌, refl, sym, ap, ◌∙◌}
use mathlib.Core.List.{List, [], ◌++◌, append_assoc, append-nil}
use Prim.Native.Nat.{ℕ, ◌+◌, ◌-◌, ◌≤◌}
use native.Mathlib.Omega.{arith}
use lib.ListN.{length, take, drop, length-append, length-drop, drop_of_length-le}
use lib.Seq.{drop-drop, take_all}
use Rattle.refusal.specs.Lent.{placed}
use Rattle.refusal.proofs.PlaceLaws.{placed-front, placed-none, length-placed, placed-then}

-- the text from a place on, as the code lends it
abbrev pub rest_of : List ℕ → ℕ → List ℕ
rest_of text next = take (length text - next) (drop next text)

-- and with other bytes there
abbrev pub with_rest : List ℕ → ℕ → List ℕ → List ℕ
with_rest text next new = take next text ++ (new ++ drop (length text - next) (drop next text))

pub rest-is : (text : List ℕ) (next : ℕ) → rest_of text next ≡ drop next text
rest-is text next = take_all (length text - next) (drop next text) (omega (arith, length-drop next text))

-- What is left to write has room, and gives, over what is written, the whole at the start of the text as it was before.
pub record Left (before whole text : List ℕ) (next : ℕ) (rest : List ℕ) : Type 0 where
  pub long : length text ≡ length before
  pub fits : next + length rest ≤ length text
  pub ends : next + length rest ≡ length whole
  pub gives : placed text next rest ≡ whole ++ drop (length whole) before

-- it begins with a part, and more comes after that
pub record Begins (rest part more : List ℕ) : Type 0 where
  pub with : rest ≡ part ++ more

pub left-all : (before whole : List ℕ) → length whole ≤ length before → Left before whole before 0 whole
left-all before whole h = record { long = refl; fits = omega (arith, h); ends = omega arith; gives = placed-front before whole }

module _ {before whole text : List ℕ} {next : ℕ} where
  pub left-none : Left before whole text next [] → (next ≡ length whole) × (text ≡ whole ++ drop (length whole) before)
  left-none left = (omega (arith, left.ends), sym (placed-none text next) ∙ left.gives)

  module _ {rest part more : List ℕ} (left : Left before whole text next rest) (b : Begins rest part more) where
    lengths : length rest ≡ length part + length more
    lengths = ap length b.with ∙ length-append part more

    -- there is room for the part
    pub left-room : length part ≤ length (rest_of text next)
    left-room = rw (rest-is text next) (omega (arith, left.fits, lengths, length-drop next text))

    -- once it is written, the rest is left
    left-put : {text' : List ℕ} {next' : ℕ} → text' ≡ placed text next part → next' ≡ next + length part → Left before whole text' next' more
    left-put {text'} t n =
        let room : next + length part ≤ length text = omega (arith, left.fits, lengths) in
        let same : length text' ≡ length text = ap length t ∙ length-placed text next part room in
        record {
          long = same ∙ left.long;
          fits = omega (arith, left.fits, lengths);
          ends = omega (arith, left.ends, lengths);
          gives =
              rw (t, n) (placed-then text next part more room ∙ ap (λ (s : List ℕ). placed text next s) (sym b.with) ∙ left.gives);
        }

    pub left-next : {new : List ℕ} {n : ℕ} → new ≡ part ++ drop (length part) (rest_of text next) → n ≡ length part
        → Left before whole (with_rest text next new) (next + n) more
    left-next {new} w n =
        let none : drop (length text - next) (drop next text) ≡ [] = drop_of_length-le (drop next text) (omega (arith, length-drop next text)) in
        left-put
        (rw (none, append-nil new, w, rest-is text next, drop-drop (length part) next text) (sym (append_assoc (take next text) part (drop (next + length part) text))))
        (ap (λ (k : ℕ). next + k) n)

-- the first part of all, written to the start of the text
pub first-room : {whole part more : List ℕ} {n : ℕ} → length whole ≤ n → Begins whole part more → length part ≤ n
first-room {whole} {part} {more} h b = omega (arith, h, ap length b.with, length-append part more)

pub left-first : {before whole part more text' : List ℕ} {next' : ℕ} → length whole ≤ length before → Begins whole part more
    → text' ≡ part ++ drop (length part) before → next' ≡ length part → Left before whole text' next' more
left-first {before} {whole} {part} h b t n = left-put (left-all before whole h) b (t ∙ sym (placed-front before part)) (omega (arith, n))
