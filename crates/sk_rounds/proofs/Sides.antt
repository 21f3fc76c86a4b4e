-- Sides: none, or a tuple; their order, joins and growth, and the weight that falls.
use Rattle.std.proofs.Common.{◌≡◌, ℕ, ◌<◌, ◌≤◌, true, false, ◌||◌, Option, Some, None, nat_le, refl, sym, ap, subst, inl, inr, arith}
use Rattle.std.proofs.lemmas.Bool.{false≢true, true≢false, cond_both, cond-true, cond-false, or_cases, leb-true, both_ways}
use Rattle.sk_rounds.specs.Walks.{Side, Walks, WalksLaws, side_leq, FitSide}
use Rattle.sk_rounds.specs.Rounds.{side_join, stretch, grown, raised}

pub weight : {K E : Type 0} → Walks K E → Option E → ℕ
weight w None = w.cap
weight w (Some a) = w.rank a

module _ (K E : Type 0) (w : Walks K E) (laws : WalksLaws w) where
  pub side_refl : (x : Option E) → side_leq w x x ≡ true
  side_refl None = refl
  side_refl (Some a) = laws.order.leq_refl a

  pub side_trans : (x y z : Option E) → side_leq w x y ≡ true → side_leq w y z ≡ true → side_leq w x z ≡ true
  side_trans None y z p q = refl
  side_trans (Some a) (Some b) (Some c) p q = laws.order.leq_trans a b c p q
  side_trans (Some a) (Some b) None p q = absurd (false≢true q)
  side_trans (Some a) None z p q = absurd (false≢true p)

  pub side_antisym : (x y : Option E) → side_leq w x y ≡ true → side_leq w y x ≡ true → x ≡ y
  side_antisym None None p q = refl
  side_antisym None (Some b) p q = absurd (false≢true q)
  side_antisym (Some a) None p q = absurd (false≢true p)
  side_antisym (Some a) (Some b) p q = ap Some (laws.order.leq_antisym a b p q)

  pub side_join_left : (k : K) (p : Side) (x y : Option E) → FitSide w k p x → FitSide w k p y → side_leq w x (side_join w x y) ≡ true
  side_join_left k p x None f g = side_refl x
  side_join_left k p None (Some b) f g = refl
  side_join_left k p (Some a) (Some b) f g = laws.order.join_left k p a b f g

  pub side_join_right : (k : K) (p : Side) (x y : Option E) → FitSide w k p x → FitSide w k p y → side_leq w y (side_join w x y) ≡ true
  side_join_right k p x None f g = refl
  side_join_right k p None (Some b) f g = laws.order.leq_refl b
  side_join_right k p (Some a) (Some b) f g = laws.order.join_right k p a b f g

  pub side_join_least : (x y z : Option E) → side_leq w x z ≡ true → side_leq w y z ≡ true → side_leq w (side_join w x y) z ≡ true
  side_join_least x None z p q = p
  side_join_least None (Some b) z p q = q
  side_join_least (Some a) (Some b) None p q = absurd (false≢true q)
  side_join_least (Some a) (Some b) (Some c) p q = laws.order.join_least a b c p q

  pub side_join_fits : (k : K) (p : Side) (x y : Option E) → FitSide w k p x → FitSide w k p y → FitSide w k p (side_join w x y)
  side_join_fits k p x None f g = f
  side_join_fits k p None (Some b) f g = g
  side_join_fits k p (Some a) (Some b) f g = laws.order.join_fits k p a b f g

  stretch_fits : (r : ℕ) (k : K) (p : Side) (a b : E) → w.fits k p a ≡ true → w.fits k p b ≡ true → w.fits k p (stretch w r a b) ≡ true
  stretch_fits r k p a b f g =
      cond_both (nat_le r 3 || w.is_finite) (w.join a b) (w.widen a (w.join a b)) (λ z. w.fits k p z ≡ true) (λ _. laws.order.join_fits k p a b f g) (λ _. laws.widening.widen_fits k p a (w.join a b) f (laws.order.join_fits k p a b f g))

  stretch_left : (r : ℕ) (k : K) (p : Side) (a b : E) → w.fits k p a ≡ true → w.fits k p b ≡ true → w.leq a (stretch w r a b) ≡ true
  stretch_left r k p a b f g =
      cond_both (nat_le r 3 || w.is_finite) (w.join a b) (w.widen a (w.join a b)) (λ z. w.leq a z ≡ true) (λ _. laws.order.join_left k p a b f g) (λ _. laws.widening.widen_left k p a (w.join a b) f (laws.order.join_fits k p a b f g))

  widened_right : (k : K) (p : Side) (a b : E) → w.fits k p a ≡ true → w.fits k p b ≡ true → w.leq b (w.widen a (w.join a b)) ≡ true
  widened_right k p a b f g =
      laws.order.leq_trans b (w.join a b) (w.widen a (w.join a b)) (laws.order.join_right k p a b f g) (laws.widening.widen_right k p a (w.join a b) f (laws.order.join_fits k p a b f g))

  stretch_right : (r : ℕ) (k : K) (p : Side) (a b : E) → w.fits k p a ≡ true → w.fits k p b ≡ true → w.leq b (stretch w r a b) ≡ true
  stretch_right r k p a b f g =
      cond_both (nat_le r 3 || w.is_finite) (w.join a b) (w.widen a (w.join a b)) (λ z. w.leq b z ≡ true) (λ _. laws.order.join_right k p a b f g) (λ _. widened_right k p a b f g)

  stretch_least : w.is_finite ≡ true → (r : ℕ) (a b c : E) → w.leq a c ≡ true → w.leq b c ≡ true → w.leq (stretch w r a b) c ≡ true
  stretch_least fin r a b c p q =
      let j = laws.order.join_least a b c p q in
      cond_both (nat_le r 3 || w.is_finite) (w.join a b) (w.widen a (w.join a b)) (λ z. w.leq z c ≡ true) (λ _. j) (λ _. subst (λ z. w.leq z c ≡ true) (sym (laws.widening.widen_finite fin a (w.join a b))) (laws.order.join_least a (w.join a b) c p j))

  -- an upper bound that is the first is above the second
  above_both : (a b z : E) → z ≡ a → w.leq b z ≡ true → w.leq b a ≡ false → ⊥
  above_both a b z e h n = both_ways (w.leq b a) n (subst (λ x. w.leq b x ≡ true) e h)

  pub join_falls : w.is_finite ≡ true → (k : K) (p : Side) (a b : E) → w.fits k p a ≡ true → w.fits k p b ≡ true → w.leq b a ≡ false → w.rank (w.join a b) < w.rank a
  join_falls fin k p a b f g n =
      let e = laws.widening.widen_finite fin a b in
      subst (λ z. w.rank z < w.rank a) e (laws.widening.rank_falls k p a b f g (λ h. above_both a b (w.widen a b) h (laws.widening.widen_right k p a b f g) n))

  stretch_falls : (r : ℕ) (k : K) (p : Side) (a b : E) → 3 < r → w.fits k p a ≡ true → w.fits k p b ≡ true → w.leq b a ≡ false → w.rank (stretch w r a b) < w.rank a
  stretch_falls r k p a b late f g n =
      cond_both (nat_le r 3 || w.is_finite) (w.join a b) (w.widen a (w.join a b)) (λ z. w.rank z < w.rank a)
      (λ e. elim (or_cases (nat_le r 3) w.is_finite e) [
        | inl h ↦ absurd (omega (arith, leb-true r 3 h))
        | inr fin ↦ join_falls fin k p a b f g n
      ])
      (λ _. laws.widening.rank_falls k p a (w.join a b) f (laws.order.join_fits k p a b f g) (λ h. above_both a b (w.widen a (w.join a b)) h (widened_right k p a b f g) n))

  grown_fits : (r : ℕ) (k : K) (p : Side) (x y : Option E) → FitSide w k p x → FitSide w k p y → FitSide w k p (grown w r x y)
  grown_fits r k p x None f g = f
  grown_fits r k p None (Some b) f g = g
  grown_fits r k p (Some a) (Some b) f g = stretch_fits r k p a b f g

  grown_left : (r : ℕ) (k : K) (p : Side) (x y : Option E) → FitSide w k p x → FitSide w k p y → side_leq w x (grown w r x y) ≡ true
  grown_left r k p x None f g = side_refl x
  grown_left r k p None (Some b) f g = refl
  grown_left r k p (Some a) (Some b) f g = stretch_left r k p a b f g

  grown_right : (r : ℕ) (k : K) (p : Side) (x y : Option E) → FitSide w k p x → FitSide w k p y → side_leq w y (grown w r x y) ≡ true
  grown_right r k p x None f g = refl
  grown_right r k p None (Some b) f g = laws.order.leq_refl b
  grown_right r k p (Some a) (Some b) f g = stretch_right r k p a b f g

  grown_least : w.is_finite ≡ true → (r : ℕ) (x y z : Option E) → side_leq w x z ≡ true → side_leq w y z ≡ true → side_leq w (grown w r x y) z ≡ true
  grown_least fin r x None z p q = p
  grown_least fin r None (Some b) z p q = q
  grown_least fin r (Some a) (Some b) None p q = absurd (false≢true q)
  grown_least fin r (Some a) (Some b) (Some c) p q = stretch_least fin r a b c p q

  grown_falls : (r : ℕ) (k : K) (p : Side) (x y : Option E) → 3 < r → FitSide w k p x → FitSide w k p y → side_leq w y x ≡ false → weight w (grown w r x y) < weight w x
  unfolding weight
  grown_falls r k p x None late f g n = absurd (true≢false n)
  grown_falls r k p None (Some b) late f g n = laws.widening.rank_capped k p b g
  grown_falls r k p (Some a) (Some b) late f g n = stretch_falls r k p a b late f g n

  -- one side in a round
  pub raised_fits : (r : ℕ) (k : K) (p : Side) (x y : Option E) → FitSide w k p x → FitSide w k p y → FitSide w k p (raised w r x y)
  raised_fits r k p x y f g = cond_both (side_leq w y x) x (grown w r x y) (FitSide w k p) (λ _. f) (λ _. grown_fits r k p x y f g)

  pub raised_left : (r : ℕ) (k : K) (p : Side) (x y : Option E) → FitSide w k p x → FitSide w k p y → side_leq w x (raised w r x y) ≡ true
  raised_left r k p x y f g = cond_both (side_leq w y x) x (grown w r x y) (λ z. side_leq w x z ≡ true) (λ _. side_refl x) (λ _. grown_left r k p x y f g)

  pub raised_right : (r : ℕ) (k : K) (p : Side) (x y : Option E) → FitSide w k p x → FitSide w k p y → side_leq w y (raised w r x y) ≡ true
  raised_right r k p x y f g = cond_both (side_leq w y x) x (grown w r x y) (λ z. side_leq w y z ≡ true) (λ e. e) (λ _. grown_right r k p x y f g)

  pub raised_least : w.is_finite ≡ true → (r : ℕ) (x y z : Option E) → side_leq w x z ≡ true → side_leq w y z ≡ true → side_leq w (raised w r x y) z ≡ true
  raised_least fin r x y z p q = cond_both (side_leq w y x) x (grown w r x y) (λ u. side_leq w u z ≡ true) (λ _. p) (λ _. grown_least fin r x y z p q)

  pub raised_stays : (r : ℕ) (x y : Option E) → side_leq w y x ≡ true → raised w r x y ≡ x
  raised_stays r x y e = cond-true (side_leq w y x) x (grown w r x y) e

  pub raised_falls : (r : ℕ) (k : K) (p : Side) (x y : Option E) → 3 < r → FitSide w k p x → FitSide w k p y → side_leq w y x ≡ false → weight w (raised w r x y) < weight w x
  raised_falls r k p x y late f g n = subst (λ z. weight w z < weight w x) (sym (cond-false (side_leq w y x) x (grown w r x y) n)) (grown_falls r k p x y late f g n)

  pub weight_capped : (k : K) (p : Side) (x : Option E) → FitSide w k p x → weight w x ≤ w.cap
  unfolding weight
  weight_capped k p None f = omega arith
  weight_capped k p (Some a) f = omega (arith, laws.widening.rank_capped k p a f)

  -- on finite domains a greater side that isn't the same weighs less
  pub finite_falls : w.is_finite ≡ true → (k : K) (p : Side) (x y : Option E) → FitSide w k p x → FitSide w k p y → side_leq w x y ≡ true → side_leq w y x ≡ false → weight w y < weight w x
  unfolding weight
  finite_falls fin k p x None f g le n = absurd (true≢false n)
  finite_falls fin k p None (Some b) f g le n = laws.widening.rank_capped k p b g
  finite_falls fin k p (Some a) (Some b) f g le n =
      let e : w.join a b ≡ b = laws.order.leq_antisym (w.join a b) b (laws.order.join_least a b b le (laws.order.leq_refl b)) (laws.order.join_right k p a b f g) in
      subst (λ z. w.rank z < w.rank a) e (join_falls fin k p a b f g n)
