-- The parts of a chart at the front of words; and words put behind those that the buffer holds, a chart as four runs of them.
use mathlib.Core.Path.{◌≡◌, refl, sym, ap, ◌∙◌}
use mathlib.Core.List.{List, [], ◌∷◌, ◌++◌, append_assoc, append-nil}
use Prim.Native.Nat.{ℕ, ◌+◌, ◌≤◌}
use lib.ListN.{length, get_or, take, drop, length-append}
use lib.Seq.{drop-drop}
use Rattle.refusal.proofs.PlaceLaws.{placed-take}
use Rattle.words.specs.Placing.{placed_within}
use Rattle.words.proofs.Laws.{placed-all}
use Rattle.chart_section.specs.ChartSection.{Chart, head_words, chart_words}
use Rattle.joining.specs.Steps.{chart_size, more_later}

-- the head's words are the first of all
pub heads : (s : List ℕ) → (get_or (take head_words s) 0 0 ≡ get_or s 0 0) × (get_or (take head_words s) 1 0 ≡ get_or s 1 0) × (get_or (take head_words s) 2 0 ≡ get_or s 2 0)
heads [] = (refl, refl, refl)
heads (a ∷ []) = (refl, refl, refl)
heads (a ∷ b ∷ []) = (refl, refl, refl)
heads (a ∷ b ∷ c ∷ s) = (refl, refl, refl)

-- what is behind the head, then the setup values, then the later ones
pub split_rest : (s : List ℕ) {head values laters rest : List ℕ} → head ≡ take head_words s → values ≡ drop head_words s
    → laters ≡ drop (get_or head 1 0) values → rest ≡ drop (get_or head 2 0) laters → rest ≡ drop (chart_size s) s
split_rest s {head} h v l r =
    let heads = heads s in
    let setup : get_or head 1 0 ≡ get_or s 1 0 = ap (λ (t : List ℕ). get_or t 1 0) h ∙ heads.1 in
    let later : get_or head 2 0 ≡ get_or s 2 0 = ap (λ (t : List ℕ). get_or t 2 0) h ∙ heads.2 in
    r
    ∙ rw (l, v, setup, later) (ap (drop (get_or s 2 0)) (drop-drop (get_or s 1 0) head_words s) ∙ drop-drop (get_or s 2 0) (head_words + get_or s 1 0) s)

pub put_behind : (old : List ℕ) (size : ℕ) {next : List ℕ} (t : List ℕ) → size + length t ≤ length old → next ≡ placed_within old size t
    → take (size + length t) next ≡ take size old ++ t
put_behind old size t h e = ap (take (size + length t)) (e ∙ placed-all old size t h) ∙ placed-take old t size h

module _ (c : Chart) (more : List ℕ) where
  pub put_whole : (held h₁ h₂ h₃ h₄ : List ℕ) {n m : ℕ} → n ≡ length c.setup → m ≡ length c.later + length more
      → h₁ ≡ held ++ (c.element ∷ n ∷ m ∷ []) → h₂ ≡ h₁ ++ c.setup → h₃ ≡ h₂ ++ c.later → h₄ ≡ h₃ ++ more → h₄ ≡ held ++ chart_words (more_later c more)
  put_whole held h₁ h₂ h₃ h₄ {n} {m} e f p₁ p₂ p₃ p₄ =
      let head : List ℕ = c.element ∷ n ∷ m ∷ [] in
      let laters : m ≡ length (c.later ++ more) = f ∙ sym (length-append c.later more) in
      p₄
      ∙ ap (λ (l : List ℕ). l ++ more) (p₃ ∙ ap (λ (l : List ℕ). l ++ c.later) (p₂ ∙ ap (λ (l : List ℕ). l ++ c.setup) p₁))
      ∙ append_assoc ((held ++ head) ++ c.setup) c.later more
      ∙ append_assoc (held ++ head) c.setup (c.later ++ more)
      ∙ append_assoc held head (c.setup ++ (c.later ++ more))
      ∙ rw (e, laters)

pub no_more : (c : Chart) → more_later c [] ≡ c
no_more c = rw (append-nil c.later)
