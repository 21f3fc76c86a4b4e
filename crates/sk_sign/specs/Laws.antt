-- The laws of the domain of signs.
use Rattle.std.proofs.Common.{◌≡◌, ◌≢◌, ℕ, ◌+◌, ◌<◌, ◌≤◌, ℤ, pos, zero, suc, negsuc, neg_ℤ, Bool, true, false, not, ◌&&◌, ◌||◌, cond, List, refl, sym, ap, ◌∙◌, ◌⊎◌, inl, inr, arith}
use Rattle.std.proofs.lemmas.Bool.{and_parts, and_from, or_cases, or_left, or_right, false≢true}
use Rattle.sk_value.specs.declared.arith.Arith.{Arith}
use Rattle.sk_value.specs.declared.arith.Compare.{Compare}
use Rattle.sk_value.specs.declared.arith.Refine.{Refine}
use Rattle.sk_lattice.specs.declared.truth.AbsBool.{AbsBool}
use Rattle.sk_value.specs.Numbers.{compares}
use Rattle.sk_lattice.specs.DomainLaws.{OrderLaws, BoundLaws, SoundLaws, MonotoneLaws, WidenLaws, DomainLaws, FiniteLaw}
use Rattle.sk_sign.specs.declared.sign.Sign.{Sign}
use Rattle.sk_sign.specs.Sets as set
use Rattle.sk_sign.specs.Signs.{One, Negative, Zero, Positive, one_of, has, both, common, single, single_truth, single_left, single_right, sign_leq, lacking, sign_domain}
use Rattle.sk_sign.specs.Laws.Sets.{has_more, leq_by_members, has_set_of, has_just, union_has, union_leq, truth_has, truth_leq, same_bits}
use Rattle.sk_sign.specs.Laws.Numbers.{single_holds, compare_at, allowed_at, negated}
pub mod Sets
pub mod Texts
pub mod Numbers

both_ways_or : (a b : Bool) → (a ≡ true → b ≡ true) → (b ≡ true → a ≡ true) → a ≡ b
both_ways_or true b h k = sym (h refl)
both_ways_or false true h k = k refl
both_ways_or false false h k = refl

antisym : (a b : Sign) → sign_leq a b ≡ true → sign_leq b a ≡ true → a ≡ b
antisym a b h k =
    let at : (p : One) → has a p ≡ has b p = λ p. both_ways_or (has a p) (has b p) (has_more a b h p) (has_more b a k p) in
    same_bits a.negative b.negative a.zero b.zero a.positive b.positive (at Negative) (at Zero) (at Positive)

in_all : (p : One) → has set.any p ≡ true
in_all Negative = refl
in_all Zero = refl
in_all Positive = refl

in_none : (p : One) → has set.none p ≡ false
in_none Negative = refl
in_none Zero = refl
in_none Positive = refl

not_true : (x : Bool) → not x ≡ true → x ≡ false
not_true true h = sym h
not_true false h = refl

only_empty : (a : Sign) → (not a.negative && (not a.zero && not a.positive)) ≡ true → a ≡ set.none
only_empty a h =
    let parts = and_parts _ _ h in
    let rest = and_parts _ _ parts.1 in
    same_bits a.negative false a.zero false a.positive false (not_true _ parts.0) (not_true _ rest.0) (not_true _ rest.1)

order : OrderLaws sign_domain
order = record {
  leq_refl = λ a. leq_by_members a a (λ p e. e);
  leq_trans = λ a b c h k. leq_by_members a c (λ p e. has_more b c k p (has_more a b h p e));
  leq_antisym = antisym;
  leq_holds = λ a b n h e. has_more a b h (one_of n) e;
  leq_any = λ a. leq_by_members a set.any (λ p e. in_all p);
  empty_leq = λ a. leq_by_members set.none a (λ p e. absurd (false≢true (sym (in_none p) ∙ e)));
  any_holds = λ n _. in_all (one_of n);
  empty_holds = λ n. in_none (one_of n);
  of_holds = λ n _. has_just (one_of n);
  empty_is_empty = refl;
  is_empty_only = only_empty;
}

in_both : (a b : Sign) (p : One) → has (both a b) p ≡ (has a p || has b p)
in_both a b p = has_set_of (λ p. has a p || has b p) p

in_common : (a b : Sign) (p : One) → has (common a b) p ≡ (has a p && has b p)
in_common a b p = has_set_of (λ p. has a p && has b p) p

either : {Q : Type 0} (x y : Bool) → (x || y) ≡ true → (x ≡ true → Q) → (y ≡ true → Q) → Q
either true y e h k = h refl
either false y e h k = k e

bounds : BoundLaws sign_domain
bounds = record {
  join_left = λ a b. leq_by_members a (both a b) (λ p e. rw (in_both a b p) (or_left _ _ e));
  join_right = λ a b. leq_by_members b (both a b) (λ p e. rw (in_both a b p) (or_right _ _ e));
  join_least = λ a b c h k. leq_by_members (both a b) c (λ p e. either (has a p) (has b p) (sym (in_both a b p) ∙ e) (has_more a c h p) (has_more b c k p));
  meet_left = λ a b. leq_by_members (common a b) a (λ p e. (and_parts (has a p) (has b p) (sym (in_common a b p) ∙ e)).0);
  meet_right = λ a b. leq_by_members (common a b) b (λ p e. (and_parts (has a p) (has b p) (sym (in_common a b p) ∙ e)).1);
  meet_greatest = λ a b c h k. leq_by_members c (common a b) (λ p e. rw (in_common a b p) (and_from _ _ (has_more c a h p e) (has_more c b k p e)));
  meet_holds = λ a b n h k. rw (in_common a b (one_of n)) (and_from _ _ h k);
}

neg_more : (a b : Sign) → sign_leq a b ≡ true → sign_leq (set.signs a.positive a.zero a.negative) (set.signs b.positive b.zero b.negative) ≡ true
neg_more a b h =
    leq_by_members (set.signs a.positive a.zero a.negative) (set.signs b.positive b.zero b.negative)
    (elim [ Negative ↦ λ e. has_more a b h Positive e | Zero ↦ λ e. has_more a b h Zero e | Positive ↦ λ e. has_more a b h Negative e ])

sound : SoundLaws sign_domain
sound = record {
  arith_holds = λ op a b m n r h k e _. union_has (single op) a b (one_of m) (one_of n) (one_of r) h k (single_holds op m n r e);
  neg_holds = λ a n _ h. negated a n h;
  compare_holds = λ op a b m n h k. truth_has (single_truth op) a b (one_of m) (one_of n) (compares op m n) h k (compare_at op m n);
  refine_left = λ op a b m n h k e. union_has (single_left op) a b (one_of m) (one_of n) (one_of m) h k (rw (allowed_at op m n e) (has_just (one_of m)));
  refine_right = λ op a b m n h k e. union_has (single_right op) a b (one_of m) (one_of n) (one_of n) h k (rw (allowed_at op m n e) (has_just (one_of n)));
}

monotone : MonotoneLaws sign_domain
monotone = record {
  arith_leq = λ op a a2 b b2 h k. union_leq (single op) a a2 b b2 h k;
  neg_leq = λ a a2 h. neg_more a a2 h;
  compare_leq = λ op a a2 b b2 h k. truth_leq (single_truth op) a a2 b b2 h k;
  refine_left_leq = λ op a a2 b b2 h k. union_leq (single_left op) a a2 b b2 h k;
  refine_right_leq = λ op a a2 b b2 h k. union_leq (single_right op) a a2 b b2 h k;
}

-- a union with a subset added
joined_new : (a b c : Sign) → sign_leq c a ≡ true → both a (both b c) ≡ both a b
joined_new a b c h =
    antisym (both a (both b c)) (both a b)
    (bounds.join_least a (both b c) (both a b) (bounds.join_left a b) (bounds.join_least b c (both a b) (bounds.join_right a b) (order.leq_trans c a (both a b) h (bounds.join_left a b))))
    (bounds.join_least a b (both a (both b c)) (bounds.join_left a (both b c)) (order.leq_trans b (both b c) (both a (both b c)) (bounds.join_left b c) (bounds.join_right a (both b c))))

-- one member's part of the rank
part : (x y : Bool) → (cond (x || y) 0 1 < cond x 0 1) ⊎ ((x || y) ≡ x)
part true y = inr refl
part false true = inl (omega arith)
part false false = inr refl

part_most : (x y : Bool) → cond (x || y) 0 1 ≤ cond x 0 1
part_most true y = omega arith
part_most false true = omega arith
part_most false false = omega arith

falls : (a b : Sign) → both a b ≢ a → lacking (both a b) < lacking a
falls a b h =
    let n = part_most a.negative b.negative in
    let z = part_most a.zero b.zero in
    let p = part_most a.positive b.positive in
    elim (part a.negative b.negative) [
      | inl lt ↦ omega arith
      | inr e ↦ elim (part a.zero b.zero) [
        | inl lt ↦ omega arith
        | inr f ↦ elim (part a.positive b.positive) [
          | inl lt ↦ omega arith
          | inr g ↦ absurd (h (same_bits _ _ _ _ _ _ e f g))
        ]
      ]
    ]

at_most_one : (x : Bool) → cond x 0 1 ≤ 1
at_most_one true = omega arith
at_most_one false = omega arith

at_most : (a : Sign) → lacking a ≤ 3
at_most a = omega (arith, at_most_one a.negative, at_most_one a.zero, at_most_one a.positive)

widening : (marks : List ℤ) → WidenLaws sign_domain marks
widening marks = record {
  widen_left = bounds.join_left;
  widen_right = bounds.join_right;
  widen_new = joined_new;
  rank_falls = falls;
  rank_at_most = at_most;
}

pub sign_laws : DomainLaws sign_domain
sign_laws = record {
  order = order;
  bounds = bounds;
  sound = sound;
  monotone = monotone;
  widening = λ marks _. widening marks;
}

pub sign_finite : FiniteLaw true sign_domain
sign_finite _ a b marks _ = refl
