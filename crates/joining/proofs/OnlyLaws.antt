-- Charts that pass their tests, by their elements and by their values; and the charts of a second list that are not in a first.
use mathlib.Core.Path.{◌≡◌, refl, sym, ◌∙◌}
use mathlib.Core.Bool.{Bool, true, false, ◌||◌, not, cond}
use mathlib.Core.List.{List, [], ◌∷◌, ◌++◌, append_assoc, append-nil, map-append}
use Prim.Native.Nat.{ℕ}
use native.Mathlib.Omega.{arith}
use lib.Dec.{eqb}
use Rattle.refusal.proofs.Testing.{both}
use Rattle.record.specs.Record.{is_element}
use Rattle.chart.proofs.ValueLaws.{Valid}
use Rattle.words.specs.Each.{Every, EachAfter}
use Rattle.chart_section.specs.ChartSection.{Chart, elements_of, member, is_new_element}
use Rattle.chart_section.specs.Valid.{ValidAfter}
use Rattle.chart_section.proofs.NewLaws.{New, member-append}
use Rattle.joining.specs.Charts.{Match, key_of, match_in, unless_matched, only_in}

-- ---- valid charts: new elements, and each with its counts and values in range

abbrev pub InRange : Chart → Type 0
InRange c = Valid c.setup c.later

elements-more : (before : List Chart) (c : Chart) → elements_of (before ++ c ∷ []) ≡ elements_of before ++ c.element ∷ []
elements-more before c = map-append (λ (c : Chart). c.element) before (c ∷ [])

pub valid-parts : (before cs : List Chart) → EachAfter ValidAfter before cs → New (elements_of before) (elements_of cs) × Every InRange cs
valid-parts before [] v = (tt, tt)
valid-parts before (c ∷ cs) v =
    let r = valid-parts (before ++ c ∷ []) cs v.1 in
    let n : New (elements_of before ++ c.element ∷ []) (elements_of cs) = rw (elements-more before c) at r.0 in
    ((v.0.new, n), (record { counts = v.0.counts; setup = v.0.setup; later = v.0.later }, r.1))

pub parts-valid : (before cs : List Chart) → New (elements_of before) (elements_of cs) → Every InRange cs → EachAfter ValidAfter before cs
parts-valid before [] n r = tt
parts-valid before (c ∷ cs) n r =
    let m : New (elements_of (before ++ c ∷ [])) (elements_of cs) = rw (elements-more before c) n.1 in
    (record { new = n.0; counts = r.0.counts; setup = r.0.setup; later = r.0.later }, parts-valid (before ++ c ∷ []) cs m r.1)

-- ---- the charts that are not in the first

-- what is found nowhere is no member
alone-member : (cs : List Chart) (e : ℕ) → match_in cs e ≡ Match.alone → member e (elements_of cs) ≡ false
unfolding match_in member
alone-member [] e h = refl
alone-member (c ∷ cs) e h = go (eqb c.element e) h (alone-member cs e)
  where
    go : (b : Bool) → cond b (Match.both c) (match_in cs e) ≡ Match.alone → (match_in cs e ≡ Match.alone → member e (elements_of cs) ≡ false)
        → (b || member e (elements_of cs)) ≡ false
    go true h rec = let z : ◌≡◌ {A = ℕ} 0 1 = cc in absurd (omega arith)
    go false h rec = rec h

pub every-only : (P : Chart → Type 0) (cs ds : List Chart) → Every P ds → Every P (only_in cs ds)
unfolding only_in
every-only P cs [] p = tt
every-only P cs (d ∷ ds) p = go (match_in cs (key_of d)) (every-only P cs ds p.1)
  where
    go : (m : Match) → Every P (only_in cs ds) → Every P (unless_matched m d (only_in cs ds))
    go Match.alone r = (p.0, r)
    go (Match.both c) r = r

-- an element is new to those of the first and to those kept, where it is new to all those seen
new-kept : (used kept seen : List ℕ) (e : ℕ) → member e used ≡ false → (member e kept ≡ true → member e seen ≡ true) → is_new_element seen e ≡ true
    → is_new_element (used ++ kept) e ≡ true
new-kept used kept seen e m k n =
    let p = both (is_element e) (not (member e seen)) n in
    rw (p.0, member-append e used kept, m) (go (member e kept) (member e seen) k p.1)
  where
    go : (a b : Bool) → (a ≡ true → b ≡ true) → not b ≡ true → not a ≡ true
    go false b f h = refl
    go true b f h = let z : b ≡ true = f refl in rw z at h

abbrev Within : List ℕ → List ℕ → Type 0
Within kept seen = (k : ℕ) → member k kept ≡ true → member k seen ≡ true

or_left : (a b c : Bool) → (a ≡ true → b ≡ true) → (a || c) ≡ true → (b || c) ≡ true
or_left true b c f h = rw (f refl)
or_left false true c f h = refl
or_left false false c f h = h

both-more : (kept seen : List ℕ) (e : ℕ) → Within kept seen → Within (kept ++ e ∷ []) (seen ++ e ∷ [])
both-more kept seen e w k m =
    member-append k seen (e ∷ []) ∙ or_left (member k kept) (member k seen) (member k (e ∷ [])) (w k) (sym (member-append k kept (e ∷ [])) ∙ m)

seen_more : (kept seen : List ℕ) (e : ℕ) → Within kept seen → Within kept (seen ++ e ∷ [])
seen_more kept seen e w k m = member-append k seen (e ∷ []) ∙ rw (w k m)

new-only : (cs : List Chart) (kept seen : List ℕ) (ds : List Chart) → Within kept seen → New seen (elements_of ds)
    → New (elements_of cs ++ kept) (elements_of (only_in cs ds))
unfolding only_in
new-only cs kept seen [] w n = tt
new-only cs kept seen (d ∷ ds) w n =
    go (match_in cs (key_of d)) refl
    (new-only cs kept (seen ++ d.element ∷ []) ds (seen_more kept seen d.element w) n.1)
    (new-only cs (kept ++ d.element ∷ []) (seen ++ d.element ∷ []) ds (both-more kept seen d.element w) n.1)
  where
    go : (m : Match) → match_in cs (key_of d) ≡ m
        → New (elements_of cs ++ kept) (elements_of (only_in cs ds))
        → New (elements_of cs ++ (kept ++ d.element ∷ [])) (elements_of (only_in cs ds))
        → New (elements_of cs ++ kept) (elements_of (unless_matched m d (only_in cs ds)))
    go Match.alone m skip keep =
        (new-kept (elements_of cs) kept seen d.element (alone-member cs d.element m) (w d.element) n.0, rw (append_assoc (elements_of cs) kept (d.element ∷ [])) keep)
    go (Match.both c) m skip keep = skip

none_within : Within [] []
none_within k m = m

-- the elements of the first and then those that are only in the second
pub new-joined : (first second : List Chart) → New [] (elements_of second) → New (elements_of first) (elements_of (only_in first second))
new-joined first second n = rw append-nil at (new-only first [] [] second none_within n)
