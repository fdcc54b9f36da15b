-- The columns of the code's table are the definition's, entry by entry.
use mathlib.Core.Path.{sym}
use Rattle.std.proofs.Math.ListN.{get_or-map}
use Rattle.solution.specs.declared.ions.TheConstants.{TABLE}
use Rattle.solution.specs.declared.ions.Row.{Row}
use Rattle.solution.specs.Ions.{cation_factor, anion_factor, conductance, charge_number}
use Rattle.solution.proofs.ions.row_at.Goals as goal

-- the row past the table's last
past : Row
past = record { cation = 0; anion = 0; conductance = 0; number = 0 }

pub returns : goal.returns
unfolding cation_factor anion_factor conductance charge_number past
returns c =
    record {
      cation = sym (get_or-map (λ (r : Row). r.cation) TABLE c.args.ion past);
      anion = sym (get_or-map (λ (r : Row). r.anion) TABLE c.args.ion past);
      conductance = sym (get_or-map (λ (r : Row). r.conductance) TABLE c.args.ion past);
      number = sym (get_or-map (λ (r : Row). r.number) TABLE c.args.ion past);
    }
