-- The buffer of joined charts with one chart more.
use mathlib.Core.Path.{◌≡◌, ap, ◌∙◌}
use mathlib.Core.List.{List, [], ◌∷◌, ◌++◌, append-nil}
use Prim.Native.Nat.{ℕ}
use native.Mathlib.Omega.{arith}
use lib.ListN.{length-append}
use Rattle.words.specs.Sections.{all_words}
use Rattle.words.proofs.SectionLaws.{words_append}
use Rattle.chart_section.specs.ChartSection.{Chart, chart_words}
use Rattle.joining.specs.declared.buffer.Buffer.{Buffer}
use Rattle.joining.specs.Steps.{Holds, Put}

pub holds_none : (b : Buffer) → b.size ≡ 0 → b.count ≡ 0 → Holds b []
unfolding all_words
holds_none b size count = record { counted = count; words = rw size }

words_more : (l : List Chart) (c : Chart) → all_words chart_words (l ++ c ∷ []) ≡ all_words chart_words l ++ chart_words c
unfolding all_words
words_more l c = words_append chart_words l (c ∷ []) ∙ ap (λ (t : List ℕ). all_words chart_words l ++ t) (append-nil (chart_words c))

pub holds-more : {old new : Buffer} (held : List Chart) (c : Chart) → Holds old held → Put old new c → Holds new (held ++ c ∷ [])
holds-more held c h p =
    record {
      counted = omega (arith, p.counted, h.counted, length-append held (c ∷ []));
      words = p.words ∙ rw (h.words, words_more held c);
    }
