-- A chart joined with what the other batch has for its key: the ways out of the code's steps.
use mathlib.Core.Path.{◌≡◌, refl}
use mathlib.Core.List.{List, [], ◌∷◌}
use Prim.Native.Nat.{ℕ}
use Rattle.std.specs.Prelude.{Ok}
use Rattle.std.specs.Str.{bytes_eq}
use Rattle.chart_section.specs.ChartSection.{Chart}
use Rattle.joining.specs.declared.buffer.Buffer.{Buffer}
use Rattle.joining.specs.Charts.{Match, same_values}
use Rattle.joining.specs.Steps.{more_later, Put, ChartSaid}
use Rattle.joining.proofs.PutLaws.{no_more}

-- `==` on slices is the document's test
pub same_as : (a b : List ℕ) → same_values a b ≡ bytes_eq a b
unfolding same_values
same_as [] [] = refl
same_as [] (y ∷ b) = refl
same_as (x ∷ a) [] = refl
same_as (x ∷ a) (y ∷ b) = rw (same_as a b)

-- ---- a chart in one alone

pub put-own : (c : Chart) {old new : Buffer} → Put old new (more_later c []) → Put old new c
put-own c put = rw (no_more c) at put

pub alone-joined : (c : Chart) {old new : Buffer} → Put old new (more_later c []) → ChartSaid (Ok tt) c Match.alone old new
alone-joined c put = (put-own c put, λ rest. refl)
