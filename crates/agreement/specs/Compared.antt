-- When two records agree, by their fields as the record's own tests hand them on. `Laws` say that this is the agreement of the
-- records.
use Rattle.std.specs.Prelude.{Bool, false, cond, not, List, ℕ}
use Rattle.refusal.specs.Outcome.{Outcome}
use Rattle.refusal.specs.Outcome.Outcome.{given, refused}
use Rattle.reading.specs.declared.Analyte.{Analyte}
use Rattle.reading.specs.Analytes.{present}
use Rattle.record.specs.declared.TestedRecord.{TestedRecord}
use Rattle.record.specs.Record.{ions, all_below}
use Rattle.record.specs.Tested.{Fields, TestedTerms, analyte_at, fields_in}
use Rattle.agreement.specs.Agreement.{ph_agrees, agrees_by}

abbrev pub analytes_agree : Analyte → Analyte → Bool
analytes_agree a b = cond (present a.reading) (cond (present b.reading) (agrees_by a.mass.0 b.mass.0) false) (not (present b.reading))

abbrev pub ions_agree_at : List Analyte → List Analyte → ℕ → Bool
ions_agree_at a b i = analytes_agree (analyte_at a i) (analyte_at b i)

abbrev pub fields_agree : Fields → Fields → Bool
fields_agree a b =
    cond (ph_agrees a.ph b.ph)
    (cond (agrees_by a.conductivity b.conductivity)
    (cond (agrees_by a.alkalinity b.alkalinity) (all_below (ions_agree_at a.analytes b.analytes) ions) false)
    false)
    false

abbrev pub agrees_in : TestedRecord → TestedRecord → Bool
agrees_in a b = fields_agree (fields_in a) (fields_in b)

-- by how the tests of each ended: the first is refused before the second
abbrev pub compared_by : Outcome ℕ → Outcome ℕ → Bool → Outcome Bool
compared_by (given h) (given k) agree = given agree
compared_by (given h) (refused n) agree = refused n
compared_by (refused n) o agree = refused n

unfoldable pub compared_of : TestedTerms → TestedTerms → Outcome Bool
compared_of a b = compared_by a.tested b.tested (fields_agree a.fields b.fields)
