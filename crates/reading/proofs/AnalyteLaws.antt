-- A reading with its amount: its mass by its case, what it is in and out of range, and what was given or refused.
use mathlib.Core.Path.{◌≡◌, refl, sym, ap, ◌∙◌}
use mathlib.Core.Bool.{true, false, true≢false}
use Prim.Native.Nat.{ℕ}
use lib.Ieee.{Float}
use Rattle.std.specs.Bool.{then_some}
use Rattle.refusal.specs.Outcome.{Outcome}
use Rattle.refusal.specs.Outcome.Outcome.{given, refused}
use Rattle.refusal.proofs.Outcomes.{never}
use Rattle.reading.specs.declared.Reading.{Reading}
use Rattle.reading.specs.declared.Reading.TheVariants.{Missing, Measured, Below}
use Rattle.reading.specs.declared.Analyte.{Analyte}
use Rattle.reading.specs.Ranges.{is_value, is_limit}
use Rattle.reading.specs.Readings.{is_in_range, InRange}
use Rattle.reading.specs.Amounts.{value_mass, half_mass, value_amount, half_amount, amount_of}
use Rattle.reading.specs.Analytes.{present, mass_of, limit_of, analyte_of, with_amount}
use Rattle.reading.specs.Answers.{amount_in}

-- ---- the mass of a reading in range
pub missing-mass : 0 ≡ mass_of Missing
unfolding mass_of
missing-mass = refl

pub measured-mass : (x : Float) → is_value x ≡ true → value_mass x ≡ mass_of (Measured x)
unfolding mass_of value_amount
measured-mass x h = rw h

pub below-mass : (x : Float) → is_limit x ≡ true → half_mass x ≡ mass_of (Below x)
unfolding mass_of half_amount
below-mass x h = rw h

-- nothing of a limit out of range
pub none_below : (x : Float) → is_limit x ≡ false → 0 ≡ mass_of (Below x)
unfolding mass_of half_amount
none_below x h = rw h

-- ---- its amount, by whether it is in range and there
pub none-out-of-range : (r : Reading) → is_in_range r ≡ false → refused 7 ≡ amount_of r
unfolding value_amount half_amount
none-out-of-range Missing h = absurd (true≢false h)
none-out-of-range (Measured x) h = rw h
none-out-of-range (Below x) h = rw h

pub given-in-range : (r : Reading) → InRange r → given (amount_in (then_some (present r) (analyte_of r).mass)) ≡ amount_of r
unfolding mass_of value_amount half_amount
given-in-range Missing h = refl
given-in-range (Measured x) h = rw h
given-in-range (Below x) h = rw h

-- ---- a reading with its amounts
pub with-amounts : {r q : Reading} {m l : ℕ} → q ≡ r → m ≡ mass_of q → l ≡ limit_of q → record { reading = q; mass = record { 0 = m }; limit = record { 0 = l } } ≡ analyte_of r
with-amounts is e f = rw (sym is, e, f)

-- ---- what an answer tells
pub was-analyte : (o : Outcome Reading) (a : Analyte) → given a ≡ with_amount o → (o ≡ given a.reading) × (a ≡ analyte_of a.reading)
unfolding with_amount
was-analyte (given r) a e = let z : a ≡ analyte_of r = cc in (ap given (sym (ap (λ (b : Analyte). b.reading) z)), z ∙ ap analyte_of (sym (ap (λ (b : Analyte). b.reading) z)))
was-analyte (refused n) a e = never (sym e)

pub was-none : (o : Outcome Reading) (n : ℕ) → refused n ≡ with_amount o → o ≡ refused n
unfolding with_amount
was-none (given r) n e = never e
was-none (refused k) n e = let z : n ≡ k = cc in ap refused (sym z)
