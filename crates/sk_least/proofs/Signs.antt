-- The operations on signs are least.
use Rattle.std.proofs.Common.{◌≡◌, ℤ, pos, negsuc, zero, suc, Bool, true, false, not, ◌&&◌, refl, sym, subst, lit<}
use Rattle.std.proofs.lemmas.Bool.{false≢true}
use Rattle.sk_value.specs.declared.arith.Arith.{Arith}
use Rattle.sk_value.specs.declared.arith.Compare.{Compare}
use Rattle.sk_value.specs.declared.arith.Refine.{Refine}
use Rattle.sk_value.specs.Numbers.{IsNumber}
use Rattle.sk_lattice.specs.declared.truth.AbsBool.{AbsBool}
use Rattle.sk_lattice.specs.Truth.{bool_holds, bool_leq}
use Rattle.sk_lattice.proofs.Parts.{bool_leq_by}
use Rattle.sk_sign.specs.declared.sign.Sign.{Sign}
use Rattle.sk_sign.specs.Sets as set
use Rattle.sk_sign.specs.Signs.{Zero, one_of, has, just, sign_domain}
use Rattle.sk_sign.specs.Best.{SignsAreBest}
use Rattle.sk_sign.specs.Inclusion.{OrderIsInclusion}
use Rattle.sk_sign.specs.Laws.Sets.{just_only}
use Rattle.sk_least.specs.Domains.{Held, HoldsResults, HoldsNegations, HasAnswers, HoldsFirsts, HoldsSeconds, SignsAreLeast}

held : (a : Sign) (n : ℤ) → IsNumber n → sign_domain.holds a n ≡ true → Held sign_domain a n
held a n p h = record { fits = p; held = h }

-- a number of each set that isn't empty
filled : (n z p : Bool) → (not n && (not z && not p)) ≡ false → (k : ℤ) × Held sign_domain (set.signs n z p) k
filled true z p h = (negsuc 0, held (set.signs true z p) (negsuc 0) (record { sfits = lit< tt }) refl)
filled false true p h = (pos 0, held (set.signs false true p) (pos 0) (record { sfits = lit< tt }) refl)
filled false false true h = (pos 1, held (set.signs false false true) (pos 1) (record { sfits = lit< tt }) refl)
filled false false false h = absurd (false≢true (sym h))

zero_alone : (n : ℤ) → has (just Zero) (one_of n) ≡ true → n ≡ pos 0
zero_alone (negsuc n) h = absurd (false≢true h)
zero_alone (pos zero) h = refl
zero_alone (pos (suc n)) h = absurd (false≢true h)

module _ (best : SignsAreBest) (inclusion : OrderIsInclusion) where
  -- a set lies below another that holds a number of each sign of the first
  by_signs : (a c : Sign) → ((n : ℤ) → sign_domain.holds a n ≡ true → sign_domain.holds c n ≡ true) → sign_domain.leq a c ≡ true
  by_signs a c h = (inclusion a c).1 (λ n _. h n)

  arith : (op : Arith) (a b c : Sign) → HoldsResults sign_domain op a b c → sign_domain.leq (sign_domain.arith op a b) c ≡ true
  arith op a b c step = by_signs (sign_domain.arith op a b) c (λ n h.
      let w = (best.arith op a b (one_of n)).0 h in
      let g = w.gives in
      subst (λ s. has c s ≡ true) g.sign (step w.left w.right g.result (held a w.left w.left_fits w.in_left) (held b w.right w.right_fits w.in_right) g.gives.gives g.gives.result))

  neg : (a c : Sign) → HoldsNegations sign_domain a c → sign_domain.leq (sign_domain.neg a) c ≡ true
  neg a c step = by_signs (sign_domain.neg a) c (λ n h.
      let w = (best.neg a (one_of n)).0 h in
      subst (λ s. has c s ≡ true) w.sign (step w.number (held a w.number w.fits w.member) w.negated_fits))

  compare : (op : Compare) (a b : Sign) (c : AbsBool) → HasAnswers sign_domain op a b c → bool_leq (sign_domain.compare op a b) c ≡ true
  compare op a b c step = bool_leq_by (sign_domain.compare op a b) c (λ t h.
      let w = (best.compare op a b t).0 h in
      subst (λ s. bool_holds c s ≡ true) w.gives (step w.left w.right (held a w.left w.left_fits w.in_left) (held b w.right w.right_fits w.in_right)))

  left : (op : Refine) (a b c : Sign) → HoldsFirsts sign_domain op a b c → sign_domain.leq (sign_domain.refine op a b).0 c ≡ true
  left op a b c step = by_signs (sign_domain.refine op a b).0 c (λ n h.
      let w = (best.left op a b (one_of n)).0 h in
      subst (λ s. has c s ≡ true) w.gives.sign (step w.left w.right (held a w.left w.left_fits w.in_left) (held b w.right w.right_fits w.in_right) w.gives.kept))

  right : (op : Refine) (a b c : Sign) → HoldsSeconds sign_domain op a b c → sign_domain.leq (sign_domain.refine op a b).1 c ≡ true
  right op a b c step = by_signs (sign_domain.refine op a b).1 c (λ n h.
      let w = (best.right op a b (one_of n)).0 h in
      subst (λ s. has c s ≡ true) w.gives.sign (step w.left w.right (held a w.left w.left_fits w.in_left) (held b w.right w.right_fits w.in_right) w.gives.kept))

  pub signs_least : SignsAreLeast
  signs_least = record {
    filled = λ a h. filled a.negative a.zero a.positive h;
    inclusion = λ a c h. (inclusion a c).1 (λ n p e. h n (held a n p e));
    of = λ n c p h. by_signs (just (one_of n)) c (λ m e. subst (λ s. has c s ≡ true) (just_only (one_of n) (one_of m) e) h);
    zero_alone = zero_alone;
    arith = λ op a b c _. arith op a b c;
    neg = neg;
    compare = compare;
    refine_left = left;
    refine_right = right;
  }
