-- The laws of the domain of intervals.
use Rattle.std.proofs.Common.{◌≡◌, Bool, true, false}
use Rattle.std.proofs.lemmas.Bool.{false≢true}
use Rattle.sk_lattice.specs.DomainLaws.{DomainLaws, SoundLaws, MonotoneLaws, FiniteLaw}
use Rattle.sk_interval.specs.Intervals.{interval_domain}
use Rattle.sk_interval.specs.Laws.Sets.{order, bound_laws}
use Rattle.sk_interval.specs.Laws.Arith.{arith_holds, arith_leq, neg_holds, neg_leq}
use Rattle.sk_interval.specs.Laws.Compare.{compare_holds, compare_leq, refine_left, refine_right, refine_left_leq, refine_right_leq}
use Rattle.sk_interval.specs.Laws.Widen.{widening}
pub mod Sets
pub mod Corners
pub mod Arith
pub mod Compare
pub mod Marks
pub mod Widen
pub mod Texts

sound : SoundLaws interval_domain
sound = record {
  arith_holds = arith_holds;
  neg_holds = neg_holds;
  compare_holds = compare_holds;
  refine_left = refine_left;
  refine_right = refine_right;
}

monotone : MonotoneLaws interval_domain
monotone = record {
  arith_leq = arith_leq;
  neg_leq = neg_leq;
  compare_leq = compare_leq;
  refine_left_leq = refine_left_leq;
  refine_right_leq = refine_right_leq;
}

-- intervals are a domain
pub interval_laws : DomainLaws interval_domain
interval_laws = record { order = order; bounds = bound_laws; sound = sound; monotone = monotone; widening = widening }

pub interval_finite : FiniteLaw false interval_domain
interval_finite e = absurd (false≢true e)
