-- Document 01, 'The four checks': what is answered to a record that is held by value, whatever its fields are: a promise of
-- `judge_tested`, which is handed no words. Where the fields are those of a record, this is the record's own judgement
-- (`Judgements.judgement_of`), as a law says. A check takes its sums from `solution`, which gives none to fields that no record has:
-- then no ion is known, and every sum is 0, so that ion balance, where it applies, and conductivity are 4, and the two other checks
-- 1 where they apply and their readings are there.
use Rattle.std.specs.Prelude.{true, ◌&&◌, ℕ, ◌*◌}
use Rattle.refusal.specs.Outcome.{Outcome}
use Rattle.refusal.specs.Outcome.Outcome.{given, refused}
use Rattle.reading.specs.declared.Analyte.{Analyte}
use Rattle.reading.specs.Analytes.{present, range_of}
use Rattle.record.specs.Record.{ammonium, sodium, nitrate, chloride, total_nitrogen, organic_carbon}
use Rattle.record.specs.Tested.{Fields, TestedTerms, analyte_at}
use Rattle.solution.specs.Solutions.{SumRanges}
use Rattle.solution.specs.ByValue.{sum_ranges_by}
use Rattle.judge.specs.declared.window.Window.{Window}
use Rattle.judge.specs.Verdicts.{applied}
use Rattle.judge.specs.Choices.{Bracket}
use Rattle.judge.specs.Corners.{decided}
use Rattle.judge.specs.Ranges.{correction_in}
use Rattle.judge.specs.IonBalance.{balance_applies, balance_limit, balance_window}
use Rattle.judge.specs.Conductivity.{conductivity_limit, conductivity_window}
use Rattle.judge.specs.Ratios.{ratio_applies, sodium_chloride_window, nitrogen_window}
use Rattle.judge.specs.Judgements.{Four}

-- the verdict on conductivity by a window and a bracket of y²
abbrev pub corrected_by : Bracket → Window → SumRanges → ℕ
corrected_by b w x =
    decided w x.whole (b.least * x.least.calculated) (b.most * x.most.calculated) (b.unit * x.least.measured) (b.unit * x.most.measured)

-- each check by what it looks at, and the sums: kind, organic carbon and measured conductivity; measured conductivity alone; kind,
-- sodium and chloride; total nitrogen, nitrate and ammonium
unfoldable pub balance_in : ℕ → Analyte → ℕ → SumRanges → ℕ
balance_in kind carbon measured x =
    applied (balance_applies kind (present carbon.reading) carbon.mass.0) x.known
    (decided (balance_window (balance_limit measured)) x.whole x.least.cations x.most.cations x.least.anions x.most.anions)

unfoldable pub conductivity_in : ℕ → SumRanges → ℕ
conductivity_in measured x = applied true x.known (corrected_by (correction_in x) (conductivity_window (conductivity_limit measured)) x)

unfoldable pub ratio_in : ℕ → Analyte → Analyte → SumRanges → ℕ
ratio_in kind na cl x =
    applied (ratio_applies kind (present cl.reading) (range_of cl).least) (present cl.reading && present na.reading)
    (decided sodium_chloride_window true x.least.sodium x.most.sodium x.least.chloride x.most.chloride)

unfoldable pub nitrogen_in : Analyte → Analyte → Analyte → SumRanges → ℕ
nitrogen_in total nitrate ammonium x =
    applied (present total.reading) (present nitrate.reading && present ammonium.reading)
    (decided nitrogen_window true x.least.mineral x.most.mineral x.least.total x.most.total)

-- all four of fields and their sums
abbrev pub verdicts_in : Fields → SumRanges → Four
verdicts_in f x =
    record {
      balance = balance_in f.kind (analyte_at f.analytes organic_carbon) f.conductivity x;
      conductivity = conductivity_in f.conductivity x;
      ratio = ratio_in f.kind (analyte_at f.analytes sodium) (analyte_at f.analytes chloride) x;
      nitrogen = nitrogen_in (analyte_at f.analytes total_nitrogen) (analyte_at f.analytes nitrate) (analyte_at f.analytes ammonium) x;
    }

-- by how the record's own tests ended: the verdicts with the floor of hydrogen that they gave, or the number of the test that
-- refused it
abbrev pub judged_by : Outcome ℕ → Fields → Outcome Four
judged_by (given floor) f = given (verdicts_in f (sum_ranges_by f floor))
judged_by (refused n) f = refused n

unfoldable pub judged_of : TestedTerms → Outcome Four
judged_of t = judged_by t.tested t.fields
