-- What holds of abstract tuples over every domain that meets the laws.
use Rattle.std.specs.Prelude.{◌≡◌, ℤ, true, Some, List}
use Rattle.sk_value.specs.declared.flow.Flow.{Flow}
use Rattle.sk_lattice.specs.declared.flow.AbsFlow.{AbsFlow}
use Rattle.sk_lattice.specs.Covers.{tuple_covers}
use Rattle.sk_lattice.specs.Domain.{Domain}
use Rattle.sk_lattice.specs.Empty.{is_proper}
use Rattle.sk_lattice.specs.Merge.{Join, Widen, tuple_merge, tuple_meet}
use Rattle.sk_lattice.specs.Thresholds.{IsThresholds}
use Rattle.sk_lattice.specs.Order.{tuple_leq, tuples_fit}

-- a meet that is there and covers a tuple
pub record MeetCovers {D : Type 0} (d : Domain D) (a b : List (AbsFlow D)) (t : List Flow) : Type 0 where
  pub meet : List (AbsFlow D)
  pub is : tuple_meet d a b ≡ Some meet
  pub covers : tuple_covers d meet t ≡ true

-- a meet that is there and lies above a tuple
pub record MeetAbove {D : Type 0} (d : Domain D) (a b c : List (AbsFlow D)) : Type 0 where
  pub meet : List (AbsFlow D)
  pub is : tuple_meet d a b ≡ Some meet
  pub above : tuple_leq d c meet ≡ true

-- tuples are ordered part by part, with least upper and greatest lower bounds, and what is covered goes with the order
pub record TupleLaws {D : Type 0} (d : Domain D) : Type 0 where
  pub leq_refl : (a : List (AbsFlow D)) → tuple_leq d a a ≡ true
  pub leq_trans : (a b c : List (AbsFlow D)) → tuple_leq d a b ≡ true → tuple_leq d b c ≡ true → tuple_leq d a c ≡ true
  pub leq_antisym : (a b : List (AbsFlow D)) → tuple_leq d a b ≡ true → tuple_leq d b a ≡ true → a ≡ b
  pub covers_more : (a b : List (AbsFlow D)) (t : List Flow) → tuple_leq d a b ≡ true → tuple_covers d a t ≡ true → tuple_covers d b t ≡ true
  pub join_left : (a b : List (AbsFlow D)) → tuples_fit a b ≡ true → tuple_leq d a (tuple_merge d Join a b) ≡ true
  pub join_right : (a b : List (AbsFlow D)) → tuples_fit a b ≡ true → tuple_leq d b (tuple_merge d Join a b) ≡ true
  pub join_least : (a b c : List (AbsFlow D)) → tuple_leq d a c ≡ true → tuple_leq d b c ≡ true → tuple_leq d (tuple_merge d Join a b) c ≡ true
  pub widen_left : (marks : List ℤ) → IsThresholds marks → (a b : List (AbsFlow D)) → tuples_fit a b ≡ true → tuple_leq d a (tuple_merge d (Widen marks) a b) ≡ true
  pub widen_right : (marks : List ℤ) → IsThresholds marks → (a b : List (AbsFlow D)) → tuples_fit a b ≡ true → tuple_leq d b (tuple_merge d (Widen marks) a b) ≡ true
  pub meet_left : (a b m : List (AbsFlow D)) → tuples_fit a b ≡ true → tuple_meet d a b ≡ Some m → tuple_leq d m a ≡ true
  pub meet_right : (a b m : List (AbsFlow D)) → tuples_fit a b ≡ true → tuple_meet d a b ≡ Some m → tuple_leq d m b ≡ true
  pub meet_covers : (a b : List (AbsFlow D)) (t : List Flow) → tuple_covers d a t ≡ true → tuple_covers d b t ≡ true → MeetCovers d a b t
  pub meet_greatest : (a b c : List (AbsFlow D)) → is_proper d c ≡ true → tuple_leq d c a ≡ true → tuple_leq d c b ≡ true → MeetAbove d a b c
  pub meet_proper : (a b m : List (AbsFlow D)) → tuples_fit a b ≡ true → tuple_meet d a b ≡ Some m → is_proper d m ≡ true
  pub proper_more : (a b : List (AbsFlow D)) → tuple_leq d a b ≡ true → is_proper d a ≡ true → is_proper d b ≡ true
