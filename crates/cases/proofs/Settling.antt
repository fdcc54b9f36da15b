-- Every case of the table holds: one test for each kind of case, computed over the whole table, and one law that turns it into the
-- case.
use mathlib.Core.Path.{◌≡◌, refl, sym, ap, subst, ◌∙◌}
use mathlib.Core.Bool.{Bool, true, ◌&&◌, true≢false}
use mathlib.Core.List.{List, [], ◌∷◌}
use Prim.Native.Nat.{ℕ, ◌+◌, ◌^◌}
use lib.Dec.{T, leb, ltb, eqb, leb→le, ltb→lt, eqb→eq}
use lib.Ieee.{Float, binary32, of_bits}
use lib.Ieee.Bits.{is_true}
use lib.Ieee.Fits.{and_l, and_r}
use Rattle.refusal.specs.Outcome.{Outcome, is_given}
use Rattle.refusal.specs.Outcome.Outcome.{given, refused}
use Rattle.hydrogen.specs.Floors.{least_ph, greatest_ph, hundredth, power, floor_at, floor_of}
use Rattle.hydrogen.proofs.Laws.{floor-in-range, floor-is}
use Rattle.reading.specs.Ranges.{in_range, is_value}
use Rattle.reading.specs.Readings.{missing_from, measured_from, reading_of}
use Rattle.reading.specs.Amounts.{Amount, nearest, value_mass, value_amount}
use Rattle.reading.specs.Analytes.{mass_of, range_of}
use Rattle.record.specs.Record.{sample_number, ph_of, read_at, reading_at, all_below, accepted, accepted_rest}
use Rattle.solution.specs.Solutions.{ions_known}
use Rattle.solution.specs.Ions.{cation_factor, anion_factor, conductance, sum}
use Rattle.judge.specs.Ranges.{ranges_with}
use Rattle.judge.specs.Corners.{decided}
use Rattle.judge.specs.IonBalance.{balance_applies, balance_limit, ion_balance_over}
use Rattle.judge.specs.Conductivity.{conductivity_limit, conductivity_over, plain_check, plain_verdict}
use Rattle.judge.specs.Judgements.{judgement_of}
use Rattle.record.proofs.AcceptedLaws.{Valid, accepted-given, valid-accepted}
use Rattle.judge.proofs.Laws.{valid-judged, plain-judged}
use Rattle.cases.specs.Cases.{Case, bare, printed, balance_in, plain_of, PlainJudged, Holds, cases, Settled}

-- h is the greatest number whose hundredth power is at most that of H
abbrev is_floor : ℕ → ℕ → Bool
is_floor p h = leb (hundredth h) (power p) && ltb (power p) (hundredth (h + 1))

abbrev in_ph_range : ℕ → Bool
in_ph_range p = leb least_ph p && leb p greatest_ph

floor-is-at : (p h : ℕ) → T (is_floor p h) → floor_at p ≡ h
floor-is-at p h t =
    let low : Bool = leb (hundredth h) (power p) in
    let high : Bool = ltb (power p) (hundredth (h + 1)) in
    floor-is p h (leb→le (hundredth h) (power p) (and_l low high t)) (ltb→lt (power p) (hundredth (h + 1)) (and_r low high t))

floor-case : (p h : ℕ) → T (in_ph_range p && is_floor p h) → floor_of p ≡ given h
floor-case p h t =
    let r = and_l (in_ph_range p) (is_floor p h) t in
    floor-in-range p (leb→le least_ph p (and_l (leb least_ph p) (leb p greatest_ph) r)) (leb→le p greatest_ph (and_r (leb least_ph p) (leb p greatest_ph) r))
    ∙ ap given (floor-is-at p h (and_r (in_ph_range p) (is_floor p h) t))

-- x is in range, and its amount is m
amount-case : (x : Float) (m : ℕ) → T (is_value x && eqb (value_mass x) m) → value_amount x ≡ given (Amount.mass m)
unfolding value_amount
amount-case x m t = rw (is_true (is_value x) (and_l (is_value x) (eqb (value_mass x) m) t), eqb→eq (value_mass x) m (and_r (is_value x) (eqb (value_mass x) m) t))

-- both kinds of record have p 500, whose floor is 10^10. The check's verdict with a floor in place of the definition's, which is
-- never computed
abbrev p500 : ℕ
p500 = 500

abbrev floor500 : ℕ
floor500 = 10 ^ 10

abbrev balance_at : List ℕ → ℕ
balance_at s = ion_balance_over s (ranges_with s floor500)

abbrev plain_at : List ℕ → ℕ
plain_at s = conductivity_over plain_check s (ranges_with s floor500)

abbrev nothing : Outcome ℕ
nothing = given 0

-- the record's own tests accept it, and its pH is 5
abbrev is_accepted : List ℕ → Bool
is_accepted s = is_given (accepted s nothing) && (eqb (ph_of s) p500 && is_floor p500 floor500)

module _ (s : List ℕ) (t : T (is_accepted s)) where
  rest : T (eqb (ph_of s) p500 && is_floor p500 floor500)
  rest = and_r (is_given (accepted s nothing)) (eqb (ph_of s) p500 && is_floor p500 floor500) t

  valid : Valid s
  valid = was-accepted (accepted s nothing) refl (is_true _ (and_l (is_given (accepted s nothing)) (eqb (ph_of s) p500 && is_floor p500 floor500) t))
    where
      was-accepted : (o : Outcome ℕ) → accepted s nothing ≡ o → is_given o ≡ true → Valid s
      was-accepted (given x) e h = (accepted-given s nothing x e).0
      was-accepted (refused n) e h = absurd (true≢false (sym h))

  floor-at : floor_at (ph_of s) ≡ floor500
  floor-at =
      ap floor_at (eqb→eq (ph_of s) p500 (and_l (eqb (ph_of s) p500) (is_floor p500 floor500) rest))
      ∙ floor-is-at p500 floor500 (and_r (eqb (ph_of s) p500) (is_floor p500 floor500) rest)

  balance-case : (v : ℕ) → T (eqb (balance_at s) v) → balance_in (judgement_of s) ≡ given v
  balance-case v e = ap balance_in (valid-judged s valid) ∙ ap given (rw floor-at (eqb→eq (balance_at s) v e))

  plain-case : (v : ℕ) → T (ions_known s && eqb (plain_at s) v) → (plain_of s ≡ given v) × PlainJudged s v
  plain-case v e =
      let is : plain_verdict s ≡ v = rw floor-at (eqb→eq (plain_at s) v (and_r (ions_known s) (eqb (plain_at s) v) e)) in (
        valid-accepted s (given (plain_verdict s)) valid ∙ ap given is,
        subst (PlainJudged s) is (plain-judged s valid (is_true (ions_known s) (and_l (ions_known s) (eqb (plain_at s) v) e))),
      )

-- ---- the table
abbrev test : Case → Bool
test (Case.floor p h) = in_ph_range p && is_floor p h
test (Case.amount bits m) = is_value (of_bits binary32 bits) && eqb (value_mass (of_bits binary32 bits)) m
test (Case.balance measured alkalinity v) = is_accepted (bare measured alkalinity) && eqb (balance_at (bare measured alkalinity)) v
test (Case.conductivity measured v) = is_accepted (printed measured) && (ions_known (printed measured) && eqb (plain_at (printed measured)) v)

holds : (c : Case) → T (test c) → Holds c
holds (Case.floor p h) t = floor-case p h t
holds (Case.amount bits m) t = amount-case (of_bits binary32 bits) m t
holds (Case.balance measured alkalinity v) t =
    let s : List ℕ = bare measured alkalinity in
    balance-case s (and_l (is_accepted s) (eqb (balance_at s) v) t) v (and_r (is_accepted s) (eqb (balance_at s) v) t)
holds (Case.conductivity measured v) t =
    let s : List ℕ = printed measured in
    let r : Bool = ions_known s && eqb (plain_at s) v in
    plain-case s (and_l (is_accepted s) r t) v (and_r (is_accepted s) r t)

abbrev tests : List Case → Bool
tests [] = true
tests (c ∷ cs) = test c && tests cs

settle : (cs : List Case) → T (tests cs) → Settled cs
settle [] t = tt
settle (c ∷ cs) t = (holds c (and_l (test c) (tests cs) t), settle cs (and_r (test c) (tests cs) t))

pub settled : Settled cases
unfolding cases power in_range value_mass nearest of_bits accepted accepted_rest sample_number all_below read_at reading_at reading_of missing_from measured_from mass_of range_of value_amount sum cation_factor anion_factor conductance balance_applies balance_limit conductivity_limit decided
settled = settle cases tt
