-- The joined batch written to the lent slice, five runs of words one behind another; and the ways out before that.
use mathlib.Core.Path.{◌≡◌, refl, sym, ap, subst, ◌∙◌}
use mathlib.Core.List.{List, [], ◌∷◌, ◌++◌, append_assoc}
use Prim.Native.Nat.{ℕ, ◌+◌, ◌-◌, ◌≤◌, ◌<◌}
use native.Mathlib.Omega.{arith}
use borrow.Author.Tests.{le-leb, lt-leb}
use lib.ListN.{length, get_or, take, drop, length-append, length-drop}
use Rattle.refusal.specs.Outcome.{Outcome}
use Rattle.refusal.specs.Outcome.Outcome.{given, refused}
use Rattle.refusal.specs.Numbers.{number_of}
use Rattle.refusal.specs.Lent.{placed}
use Rattle.refusal.specs.declared.Refusal.TheVariants as refusal
use Rattle.refusal.proofs.LentLaws.{Answers, refused-before, too_short, written as written-whole}
use Rattle.refusal.proofs.PlaceLaws.{placed-front}
use Rattle.words.specs.Placing.{placed_within}
use Rattle.words.proofs.Laws.{placed-all, placed-behind}
use Rattle.words.proofs.SliceLaws.{rest_of}
use Rattle.batch.specs.Batches.{most_samples}
use Rattle.joining.specs.Steps.{finished}

module _ (count : ℕ) (charts first second old : List ℕ) where
  abbrev samples : ℕ
  samples = get_or first 0 0 + get_or second 0 0

  abbrev words : List ℕ
  words = (count ∷ charts) ++ (samples ∷ (drop 1 first ++ drop 1 second))

  abbrev size : ℕ
  size = 1 + length charts + length first + length second - 1

  pub write-over : most_samples < samples → Answers (finished count charts first second) old (refused (number_of refusal.JoinedCount)) old
  unfolding finished
  write-over h = refused-before (finished count charts first second) old (number_of refusal.JoinedCount) (sym (rw (lt-leb samples most_samples h)))

  module _ (few : samples ≤ most_samples) (f : 1 ≤ length first) (s : 1 ≤ length second) where
    whole : finished count charts first second ≡ given words
    unfolding finished
    whole = rw (le-leb samples most_samples few)

    long : length words ≡ size
    long =
        omega (
          arith,
          length-append (count ∷ charts) (samples ∷ (drop 1 first ++ drop 1 second)),
          length-append (drop 1 first) (drop 1 second),
          length-drop 1 first,
          length-drop 1 second,
        )

    pub write-short : length old < size → Answers (finished count charts first second) old (refused (number_of refusal.OutputLength)) old
    write-short h = too_short (finished count charts first second) old words whole (omega (arith, long))

    pub write-whole : size ≤ length old → (a b c d e : List ℕ)
        → a ≡ placed_within old 0 (count ∷ [])
        → b ≡ placed_within a 1 charts
        → c ≡ placed_within b (1 + length charts) (samples ∷ [])
        → d ≡ placed_within c (1 + length charts + 1) (take (length first - 1) (drop 1 first))
        → e ≡ placed_within d (1 + length charts + length first) (take (length second - 1) (drop 1 second))
        → Answers (finished count charts first second) old (given size) e
    write-whole h a b c d e p₁ p₂ p₃ p₄ p₅ =
        let front : List ℕ = take (length first - 1) (drop 1 first) in
        let back : List ℕ = take (length second - 1) (drop 1 second) in
        let same₁ : front ≡ drop 1 first = rest_of first 1 in
        let same₂ : back ≡ drop 1 second = rest_of second 1 in
        let l₁ : length front ≡ length first - 1 = ap length same₁ ∙ length-drop 1 first in
        let l₂ : length back ≡ length second - 1 = ap length same₂ ∙ length-drop 1 second in
        let two : List ℕ = (count ∷ charts) ++ samples ∷ [] in
        let l₃ : length two ≡ 1 + length charts + 1 = length-append (count ∷ charts) (samples ∷ []) ∙ omega arith in
        let three : List ℕ = two ++ front in
        let l₄ : length three ≡ 1 + length charts + 1 + (length first - 1) = length-append two front ∙ omega (arith, l₁, l₃) in
        let first_run : a ≡ placed old 0 (count ∷ []) = p₁ ∙ placed-all old 0 (count ∷ []) (omega arith) in
        let second_run : b ≡ placed old 0 (count ∷ charts) = placed-behind old 0 1 (count ∷ []) charts (omega arith) first_run refl p₂ in
        let third-run : c ≡ placed old 0 two = placed-behind old 0 (1 + length charts) (count ∷ charts) (samples ∷ []) (omega arith) second_run (omega arith) p₃ in
        let fourth-run : d ≡ placed old 0 three = placed-behind old 0 (1 + length charts + 1) two front (omega arith) third-run (omega arith) p₄ in
        let fifth-run : e ≡ placed old 0 (three ++ back) = placed-behind old 0 (1 + length charts + length first) three back (omega arith) fourth-run (omega arith) p₅ in
        let all : three ++ back ≡ words =
        rw (same₁, same₂)
        (append_assoc two (drop 1 first) (drop 1 second) ∙ append_assoc (count ∷ charts) (samples ∷ []) (drop 1 first ++ drop 1 second))
        in
        written-whole (finished count charts first second) old words whole (omega (arith, long)) (sym long)
        (fifth-run ∙ ap (placed old 0) all ∙ placed-front old words)

-- the same of charts that are lent under another name
pub write_same : (count : ℕ) (first second old : List ℕ) {charts held : List ℕ} {x : Outcome ℕ} {new : List ℕ} → charts ≡ held
    → Answers (finished count charts first second) old x new → Answers (finished count held first second) old x new
write_same count first second old {charts} {held} {x} {new} e d = subst (λ (w : List ℕ). Answers (finished count w first second) old x new) e d
