-- What the calls of the domain of intervals compute.
use Rattle.sk_lattice.specs.Domain.{Domain}
use Rattle.sk_lattice.specs.Thresholds.{LEAST, GREATEST}
use Rattle.sk_interval.specs.declared.bounds.Interval.{Interval}
use Rattle.sk_interval.specs.declared.bounds.Interval.TheVariants.{Empty}
use Rattle.sk_interval.specs.Cuts.{cut, interval_holds, interval_is_empty, interval_leq, hull, both, intersection}
use Rattle.sk_interval.specs.Arithmetic.{bounds_arith, interval_neg}
use Rattle.sk_interval.specs.Comparisons.{interval_compare, left_bounds, right_bounds}
use Rattle.sk_interval.specs.Widening.{interval_widen, interval_rank}

-- the domain of intervals
abbrev pub interval_domain : Domain Interval
interval_domain = record {
  empty = Empty;
  any = cut LEAST GREATEST;
  of = λ n. cut n n;
  holds = interval_holds;
  is_empty = interval_is_empty;
  leq = interval_leq;
  join = hull;
  meet = intersection;
  widen = interval_widen;
  rank = interval_rank;
  arith = λ op. both (bounds_arith op);
  neg = interval_neg;
  compare = interval_compare;
  refine = λ op a b. (both (left_bounds op) a b, both (right_bounds op) a b);
}
