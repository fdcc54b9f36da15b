-- The sums of a solution, for the clauses of functions: the struct's own fact of its sums is of its fields, by `Solutions.ends_in`.
use Rattle.solution.specs.declared.Solution.{Solution}
use Rattle.solution.specs.Solutions.{SumRanges, ends_in}

abbrev pub sum_ranges_in : Solution → SumRanges
sum_ranges_in x = ends_in x.known x.whole x.least x.most
