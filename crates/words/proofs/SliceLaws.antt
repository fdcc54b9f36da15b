-- Parts of a slice, as the code lends them: `&s[at..]`, `&s[from..from + n]` and `&s[0..n]`.
use mathlib.Core.Path.{◌≡◌, ap, ◌∙◌}
use mathlib.Core.List.{List}
use Prim.Native.Nat.{ℕ, ◌+◌, ◌-◌, ◌≤◌}
use native.Mathlib.Omega.{arith}
use native.Mathlib.Nat.{add-sub_cancel_left}
use lib.ListN.{length, take, drop, length-drop}
use lib.Seq.{drop-drop}
use Rattle.std.proofs.lemmas.List.{take_rest}

module _ (s : List ℕ) where
  -- `&s[at..]`, and what is behind the first words of it
  pub rest_of : (at : ℕ) → take (length s - at) (drop at s) ≡ drop at s
  rest_of at = take_rest s at

  pub rest-behind : (at n : ℕ) → drop n (take (length s - at) (drop at s)) ≡ drop (at + n) s
  rest-behind at n = ap (drop n) (rest_of at) ∙ drop-drop n at s

  pub rest-fits : (at n : ℕ) → at ≤ length s → n ≤ length (take (length s - at) (drop at s)) → at + n ≤ length s
  rest-fits at n h k = omega (arith, ap length (rest_of at), length-drop at s)

  -- `&s[from..from + n]`
  pub part_of : (from n : ℕ) → take (from + n - from) (drop from s) ≡ take n (drop from s)
  part_of from n = ap (λ (k : ℕ). take k (drop from s)) (add-sub_cancel_left from n)

  -- `&s[0..n]`
  pub front_of : (n : ℕ) → take (n - 0) (drop 0 s) ≡ take n s
  front_of n = let e : n - 0 ≡ n = omega arith in ap (λ (k : ℕ). take k s) e
