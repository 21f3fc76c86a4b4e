-- The laws that every numeric domain meets.
use Rattle.std.specs.Prelude.{◌≡◌, ◌≢◌, ◌<◌, ◌≤◌, ℤ, neg_ℤ, Bool, true, false, List}
use Rattle.sk_value.specs.declared.arith.Arith.{Arith}
use Rattle.sk_value.specs.declared.arith.Compare.{Compare}
use Rattle.sk_value.specs.declared.arith.Refine.{Refine}
use Rattle.sk_lattice.specs.Domain.{Domain}
use Rattle.sk_value.specs.Numbers.{IsNumber, Gives, compares, keeps}
use Rattle.sk_lattice.specs.Thresholds.{IsThresholds}
use Rattle.sk_lattice.specs.Truth.{bool_holds, bool_leq}

-- `leq` is an order with a least and a greatest element, and what a lesser element holds the greater holds
pub record OrderLaws {E : Type 0} (d : Domain E) : Type 0 where
  pub leq_refl : (a : E) → d.leq a a ≡ true
  pub leq_trans : (a b c : E) → d.leq a b ≡ true → d.leq b c ≡ true → d.leq a c ≡ true
  pub leq_antisym : (a b : E) → d.leq a b ≡ true → d.leq b a ≡ true → a ≡ b
  pub leq_holds : (a b : E) (n : ℤ) → d.leq a b ≡ true → d.holds a n ≡ true → d.holds b n ≡ true
  pub leq_any : (a : E) → d.leq a d.any ≡ true
  pub empty_leq : (a : E) → d.leq d.empty a ≡ true
  pub any_holds : (n : ℤ) → IsNumber n → d.holds d.any n ≡ true
  pub empty_holds : (n : ℤ) → d.holds d.empty n ≡ false
  pub of_holds : (n : ℤ) → IsNumber n → d.holds (d.of n) n ≡ true
  pub empty_is_empty : d.is_empty d.empty ≡ true
  pub is_empty_only : (a : E) → d.is_empty a ≡ true → a ≡ d.empty

-- `join` is the least upper bound and `meet` the greatest lower bound
pub record BoundLaws {E : Type 0} (d : Domain E) : Type 0 where
  pub join_left : (a b : E) → d.leq a (d.join a b) ≡ true
  pub join_right : (a b : E) → d.leq b (d.join a b) ≡ true
  pub join_least : (a b c : E) → d.leq a c ≡ true → d.leq b c ≡ true → d.leq (d.join a b) c ≡ true
  pub meet_left : (a b : E) → d.leq (d.meet a b) a ≡ true
  pub meet_right : (a b : E) → d.leq (d.meet a b) b ≡ true
  pub meet_greatest : (a b c : E) → d.leq c a ≡ true → d.leq c b ≡ true → d.leq c (d.meet a b) ≡ true
  pub meet_holds : (a b : E) (n : ℤ) → d.holds a n ≡ true → d.holds b n ≡ true → d.holds (d.meet a b) n ≡ true

-- every operation holds every result of its numbers
pub record SoundLaws {E : Type 0} (d : Domain E) : Type 0 where
  pub arith_holds : (op : Arith) (a b : E) (m n r : ℤ) → d.holds a m ≡ true → d.holds b n ≡ true → Gives op m n r → IsNumber r → d.holds (d.arith op a b) r ≡ true
  pub neg_holds : (a : E) (n : ℤ) → IsNumber (neg_ℤ n) → d.holds a n ≡ true → d.holds (d.neg a) (neg_ℤ n) ≡ true
  pub compare_holds : (op : Compare) (a b : E) (m n : ℤ) → d.holds a m ≡ true → d.holds b n ≡ true → bool_holds (d.compare op a b) (compares op m n) ≡ true
  pub refine_left : (op : Refine) (a b : E) (m n : ℤ) → d.holds a m ≡ true → d.holds b n ≡ true → keeps op m n ≡ true → d.holds (d.refine op a b).0 m ≡ true
  pub refine_right : (op : Refine) (a b : E) (m n : ℤ) → d.holds a m ≡ true → d.holds b n ≡ true → keeps op m n ≡ true → d.holds (d.refine op a b).1 n ≡ true

-- greater arguments give a greater or equal result
pub record MonotoneLaws {E : Type 0} (d : Domain E) : Type 0 where
  pub arith_leq : (op : Arith) (a a2 b b2 : E) → d.leq a a2 ≡ true → d.leq b b2 ≡ true → d.leq (d.arith op a b) (d.arith op a2 b2) ≡ true
  pub neg_leq : (a a2 : E) → d.leq a a2 ≡ true → d.leq (d.neg a) (d.neg a2) ≡ true
  pub compare_leq : (op : Compare) (a a2 b b2 : E) → d.leq a a2 ≡ true → d.leq b b2 ≡ true → bool_leq (d.compare op a b) (d.compare op a2 b2) ≡ true
  pub refine_left_leq : (op : Refine) (a a2 b b2 : E) → d.leq a a2 ≡ true → d.leq b b2 ≡ true → d.leq (d.refine op a b).0 (d.refine op a2 b2).0 ≡ true
  pub refine_right_leq : (op : Refine) (a a2 b b2 : E) → d.leq a a2 ≡ true → d.leq b b2 ≡ true → d.leq (d.refine op a b).1 (d.refine op a2 b2).1 ≡ true

-- a widening is an upper bound, sees only what is new, and lowers the rank where it changes its first argument
pub record WidenLaws {E : Type 0} (d : Domain E) (marks : List ℤ) : Type 0 where
  pub widen_left : (a b : E) → d.leq a (d.widen a b marks) ≡ true
  pub widen_right : (a b : E) → d.leq b (d.widen a b marks) ≡ true
  pub widen_new : (a b c : E) → d.leq c a ≡ true → d.widen a (d.join b c) marks ≡ d.widen a b marks
  pub rank_falls : (a b : E) → d.widen a b marks ≢ a → d.rank (d.widen a b marks) marks < d.rank a marks
  pub rank_at_most : (a : E) → d.rank a marks ≤ d.rank d.empty marks

-- all laws of a domain
pub record DomainLaws {E : Type 0} (d : Domain E) : Type 0 where
  pub order : OrderLaws d
  pub bounds : BoundLaws d
  pub sound : SoundLaws d
  pub monotone : MonotoneLaws d
  pub widening : (marks : List ℤ) → IsThresholds marks → WidenLaws d marks

-- where the domain is finite, every widening is the join
abbrev pub FiniteLaw : {E : Type 0} → Bool → Domain E → Type 0
FiniteLaw {E} finite d = finite ≡ true → (a b : E) (marks : List ℤ) → IsThresholds marks → d.widen a b marks ≡ d.join a b
