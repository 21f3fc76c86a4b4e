-- The laws of truth sets, values and cells, part by part.
use Rattle.std.proofs.Common.{◌≡◌, ℤ, Bool, true, false, not, ◌&&◌, ◌||◌, Option, Some, None, refl, sym, ◌∙◌, ap, inl, inr}
use Rattle.std.proofs.lemmas.Bool.{and_parts, and_from, or_left, or_right, false≢true, both_ways, and_cases, and_left, and_right, not-false}
use Rattle.sk_value.specs.declared.value.Value.{Value}
use Rattle.sk_value.specs.declared.value.Value.TheVariants as value
use Rattle.sk_lattice.specs.declared.truth.AbsBool.{AbsBool}
use Rattle.sk_lattice.specs.declared.value.AbsVal.{AbsVal}
use Rattle.sk_lattice.specs.declared.cell.AbsCell.{AbsCell}
use Rattle.sk_lattice.specs.Thresholds.{IsThresholds}
use Rattle.sk_lattice.specs.Domain.{Domain}
use Rattle.sk_lattice.specs.DomainLaws.{DomainLaws}
use Rattle.sk_lattice.specs.Truth.{bool_holds, bool_leq, bool_is_empty}
use Rattle.sk_lattice.specs.Empty.{val_is_empty, cell_is_empty}
use Rattle.sk_lattice.specs.Order.{val_leq, cell_leq}
use Rattle.sk_lattice.specs.Covers.{val_covers, cell_covers}
use Rattle.sk_lattice.specs.Merge.{Way, Join, Meet, Widen, num_merge, mark_merge, bool_merge, val_merge, cell_merge}

pub implies : (x y : Bool) → (not x || y) ≡ true → x ≡ true → y ≡ true
implies true y h e = h
implies false y h e = absurd (false≢true e)

pub implied : (x y : Bool) → (x ≡ true → y ≡ true) → (not x || y) ≡ true
implied true y h = h refl
implied false y h = refl

and_false : (x y : Bool) → y ≡ false → (x && y) ≡ false
and_false true y e = e
and_false false y e = refl

pub false_from : (x : Bool) → (x ≡ true → ⊥) → x ≡ false
false_from true h = absurd (h refl)
false_from false h = refl

-- the ways that give what lies above both
abbrev pub Above : Way → Type 0
Above Join = Unit {0}
Above Meet = ⊥
Above (Widen marks) = IsThresholds marks

pub mark_left : (m : Way) → Above m → (x y : Bool) → x ≡ true → mark_merge m x y ≡ true
mark_left Join _ x y e = or_left x y e
mark_left (Widen marks) _ x y e = or_left x y e
mark_left Meet h x y e = absurd h

pub mark_right : (m : Way) → Above m → (x y : Bool) → y ≡ true → mark_merge m x y ≡ true
mark_right Join _ x y e = or_right x y e
mark_right (Widen marks) _ x y e = or_right x y e
mark_right Meet h x y e = absurd h

-- truth sets by their members
pub bool_more : (a b : AbsBool) → bool_leq a b ≡ true → (t : Bool) → bool_holds a t ≡ true → bool_holds b t ≡ true
bool_more a b h true e = implies a.has_true b.has_true (and_parts _ _ h).0 e
bool_more a b h false e = implies a.has_false b.has_false (and_parts _ _ h).1 e

pub bool_leq_by : (a b : AbsBool) → ((t : Bool) → bool_holds a t ≡ true → bool_holds b t ≡ true) → bool_leq a b ≡ true
bool_leq_by a b h = and_from _ _ (implied a.has_true b.has_true (h true)) (implied a.has_false b.has_false (h false))

pub bool_merge_holds : (m : Way) (a b : AbsBool) (t : Bool) → bool_holds (bool_merge m a b) t ≡ mark_merge m (bool_holds a t) (bool_holds b t)
bool_merge_holds m a b true = refl
bool_merge_holds m a b false = refl

pub bool_nonempty : (a : AbsBool) (t : Bool) → bool_holds a t ≡ true → bool_is_empty a ≡ false
bool_nonempty a true e = ap (λ x. not x && not a.has_false) e
bool_nonempty a false e = and_false (not a.has_true) (not a.has_false) (ap not e)

pub bool_leq_refl : (a : AbsBool) → bool_leq a a ≡ true
bool_leq_refl a = bool_leq_by a a (λ t e. e)

pub bool_leq_trans : (a b c : AbsBool) → bool_leq a b ≡ true → bool_leq b c ≡ true → bool_leq a c ≡ true
bool_leq_trans a b c h k = bool_leq_by a c (λ t e. bool_more b c k t (bool_more a b h t e))

pub bool_left : (m : Way) → Above m → (a b : AbsBool) → bool_leq a (bool_merge m a b) ≡ true
bool_left m h a b = bool_leq_by a (bool_merge m a b) (λ t e. bool_merge_holds m a b t ∙ mark_left m h (bool_holds a t) (bool_holds b t) e)

pub bool_right : (m : Way) → Above m → (a b : AbsBool) → bool_leq b (bool_merge m a b) ≡ true
bool_right m h a b = bool_leq_by b (bool_merge m a b) (λ t e. bool_merge_holds m a b t ∙ mark_right m h (bool_holds a t) (bool_holds b t) e)

pub either : {Q : Type 0} (x y : Bool) → (x || y) ≡ true → (x ≡ true → Q) → (y ≡ true → Q) → Q
either true y e h k = h refl
either false y e h k = k e

pub bool_least : (a b c : AbsBool) → bool_leq a c ≡ true → bool_leq b c ≡ true → bool_leq (bool_merge Join a b) c ≡ true
bool_least a b c h k =
    bool_leq_by (bool_merge Join a b) c (λ t e. either (bool_holds a t) (bool_holds b t) (sym (bool_merge_holds Join a b t) ∙ e) (bool_more a c h t) (bool_more b c k t))

pub bool_meet_left : (a b : AbsBool) → bool_leq (bool_merge Meet a b) a ≡ true
bool_meet_left a b = bool_leq_by (bool_merge Meet a b) a (λ t e. (and_parts (bool_holds a t) (bool_holds b t) (sym (bool_merge_holds Meet a b t) ∙ e)).0)

pub bool_meet_right : (a b : AbsBool) → bool_leq (bool_merge Meet a b) b ≡ true
bool_meet_right a b = bool_leq_by (bool_merge Meet a b) b (λ t e. (and_parts (bool_holds a t) (bool_holds b t) (sym (bool_merge_holds Meet a b t) ∙ e)).1)

pub bool_meet_holds : (a b : AbsBool) (t : Bool) → bool_holds a t ≡ true → bool_holds b t ≡ true → bool_holds (bool_merge Meet a b) t ≡ true
bool_meet_holds a b t h k = bool_merge_holds Meet a b t ∙ and_from _ _ h k

pub bool_greatest : (a b c : AbsBool) → bool_leq c a ≡ true → bool_leq c b ≡ true → bool_leq c (bool_merge Meet a b) ≡ true
bool_greatest a b c h k = bool_leq_by c (bool_merge Meet a b) (λ t e. bool_merge_holds Meet a b t ∙ and_from _ _ (bool_more c a h t e) (bool_more c b k t e))

pub bool_filled : (a b : AbsBool) → bool_leq a b ≡ true → bool_is_empty a ≡ false → bool_is_empty b ≡ false
bool_filled a b h e =
    elim (and_cases (not a.has_true) (not a.has_false) e) [
      | inl f ↦ bool_nonempty b true (bool_more a b h true (not-false a.has_true f))
      | inr f ↦ bool_nonempty b false (bool_more a b h false (not-false a.has_false f))
    ]

module _ (D : Type 0) (d : Domain D) (laws : DomainLaws d) where
  pub num_left : (m : Way) → Above m → (a b : D) → d.leq a (num_merge d m a b) ≡ true
  num_left Join _ a b = laws.bounds.join_left a b
  num_left (Widen marks) h a b = (laws.widening marks h).widen_left a b
  num_left Meet h a b = absurd h

  pub num_right : (m : Way) → Above m → (a b : D) → d.leq b (num_merge d m a b) ≡ true
  num_right Join _ a b = laws.bounds.join_right a b
  num_right (Widen marks) h a b = (laws.widening marks h).widen_right a b
  num_right Meet h a b = absurd h

  pub num_nonempty : (a : D) (n : ℤ) → d.holds a n ≡ true → d.is_empty a ≡ false
  num_nonempty a n e = false_from (d.is_empty a) (λ h. both_ways (d.holds a n) (ap (λ x. d.holds x n) (laws.order.is_empty_only a h) ∙ laws.order.empty_holds n) e)

  pub val_leq_refl : (a : AbsVal D) → val_leq d a a ≡ true
  val_leq_refl a = and_from _ _ (laws.order.leq_refl a.num) (bool_leq_refl a.truth)

  pub val_leq_trans : (a b c : AbsVal D) → val_leq d a b ≡ true → val_leq d b c ≡ true → val_leq d a c ≡ true
  val_leq_trans a b c h k =
      let x = and_parts _ _ h in
      let y = and_parts _ _ k in
      and_from _ _ (laws.order.leq_trans a.num b.num c.num x.0 y.0) (bool_leq_trans a.truth b.truth c.truth x.1 y.1)

  pub val_covers_more : (a b : AbsVal D) (v : Value) → val_leq d a b ≡ true → val_covers d a v ≡ true → val_covers d b v ≡ true
  val_covers_more a b (value.Int n) h e = laws.order.leq_holds a.num b.num n (and_parts _ _ h).0 e
  val_covers_more a b (value.Bool t) h e = bool_more a.truth b.truth (and_parts _ _ h).1 t e

  pub val_left : (m : Way) → Above m → (a b : AbsVal D) → val_leq d a (val_merge d m a b) ≡ true
  val_left m h a b = and_from _ _ (num_left m h a.num b.num) (bool_left m h a.truth b.truth)

  pub val_right : (m : Way) → Above m → (a b : AbsVal D) → val_leq d b (val_merge d m a b) ≡ true
  val_right m h a b = and_from _ _ (num_right m h a.num b.num) (bool_right m h a.truth b.truth)

  pub val_least : (a b c : AbsVal D) → val_leq d a c ≡ true → val_leq d b c ≡ true → val_leq d (val_merge d Join a b) c ≡ true
  val_least a b c h k =
      let x = and_parts _ _ h in
      let y = and_parts _ _ k in
      and_from _ _ (laws.bounds.join_least a.num b.num c.num x.0 y.0) (bool_least a.truth b.truth c.truth x.1 y.1)

  pub val_meet_left : (a b : AbsVal D) → val_leq d (val_merge d Meet a b) a ≡ true
  val_meet_left a b = and_from _ _ (laws.bounds.meet_left a.num b.num) (bool_meet_left a.truth b.truth)

  pub val_meet_right : (a b : AbsVal D) → val_leq d (val_merge d Meet a b) b ≡ true
  val_meet_right a b = and_from _ _ (laws.bounds.meet_right a.num b.num) (bool_meet_right a.truth b.truth)

  pub val_meet_covers : (a b : AbsVal D) (v : Value) → val_covers d a v ≡ true → val_covers d b v ≡ true → val_covers d (val_merge d Meet a b) v ≡ true
  val_meet_covers a b (value.Int n) h k = laws.bounds.meet_holds a.num b.num n h k
  val_meet_covers a b (value.Bool t) h k = bool_meet_holds a.truth b.truth t h k

  pub val_nonempty : (a : AbsVal D) (v : Value) → val_covers d a v ≡ true → val_is_empty d a ≡ false
  val_nonempty a (value.Int n) e = ap (λ x. x && bool_is_empty a.truth) (num_nonempty a.num n e)
  val_nonempty a (value.Bool t) e = and_false (d.is_empty a.num) (bool_is_empty a.truth) (bool_nonempty a.truth t e)

  pub cell_leq_refl : (a : AbsCell D) → cell_leq d a a ≡ true
  cell_leq_refl a = and_from _ _ (val_leq_refl a.val) (implied a.unset a.unset (λ e. e))

  pub cell_leq_trans : (a b c : AbsCell D) → cell_leq d a b ≡ true → cell_leq d b c ≡ true → cell_leq d a c ≡ true
  cell_leq_trans a b c h k =
      let x = and_parts _ _ h in
      let y = and_parts _ _ k in
      and_from _ _ (val_leq_trans a.val b.val c.val x.0 y.0) (implied a.unset c.unset (λ e. implies b.unset c.unset y.1 (implies a.unset b.unset x.1 e)))

  pub cell_covers_more : (a b : AbsCell D) (v : Option Value) → cell_leq d a b ≡ true → cell_covers d a v ≡ true → cell_covers d b v ≡ true
  cell_covers_more a b (Some v) h e = val_covers_more a.val b.val v (and_parts _ _ h).0 e
  cell_covers_more a b None h e = implies a.unset b.unset (and_parts _ _ h).1 e

  pub cell_left : (m : Way) → Above m → (a b : AbsCell D) → cell_leq d a (cell_merge d m a b) ≡ true
  cell_left m h a b = and_from _ _ (val_left m h a.val b.val) (implied a.unset (mark_merge m a.unset b.unset) (mark_left m h a.unset b.unset))

  pub cell_right : (m : Way) → Above m → (a b : AbsCell D) → cell_leq d b (cell_merge d m a b) ≡ true
  cell_right m h a b = and_from _ _ (val_right m h a.val b.val) (implied b.unset (mark_merge m a.unset b.unset) (mark_right m h a.unset b.unset))

  pub cell_least : (a b c : AbsCell D) → cell_leq d a c ≡ true → cell_leq d b c ≡ true → cell_leq d (cell_merge d Join a b) c ≡ true
  cell_least a b c h k =
      let x = and_parts _ _ h in
      let y = and_parts _ _ k in
      and_from _ _ (val_least a.val b.val c.val x.0 y.0) (implied (a.unset || b.unset) c.unset (λ e. either a.unset b.unset e (implies a.unset c.unset x.1) (implies b.unset c.unset y.1)))

  pub cell_meet_left : (a b : AbsCell D) → cell_leq d (cell_merge d Meet a b) a ≡ true
  cell_meet_left a b = and_from _ _ (val_meet_left a.val b.val) (implied (a.unset && b.unset) a.unset (λ e. (and_parts _ _ e).0))

  pub cell_meet_right : (a b : AbsCell D) → cell_leq d (cell_merge d Meet a b) b ≡ true
  cell_meet_right a b = and_from _ _ (val_meet_right a.val b.val) (implied (a.unset && b.unset) b.unset (λ e. (and_parts _ _ e).1))

  pub cell_meet_covers : (a b : AbsCell D) (v : Option Value) → cell_covers d a v ≡ true → cell_covers d b v ≡ true → cell_covers d (cell_merge d Meet a b) v ≡ true
  cell_meet_covers a b (Some v) h k = val_meet_covers a.val b.val v h k
  cell_meet_covers a b None h k = and_from _ _ h k

  pub cell_nonempty : (a : AbsCell D) (v : Option Value) → cell_covers d a v ≡ true → cell_is_empty d a ≡ false
  cell_nonempty a (Some v) e = ap (λ x. x && not a.unset) (val_nonempty a.val v e)
  cell_nonempty a None e = and_false (val_is_empty d a.val) (not a.unset) (ap not e)

  -- what lies above what isn't empty isn't empty
  pub num_filled : (a b : D) → d.leq a b ≡ true → d.is_empty a ≡ false → d.is_empty b ≡ false
  num_filled a b h e =
      false_from (d.is_empty b) (λ f.
      let same : b ≡ d.empty = laws.order.is_empty_only b f in
      let low : d.leq a d.empty ≡ true = sym (ap (λ x. d.leq a x) same) ∙ h in
      both_ways (d.is_empty a) e (ap d.is_empty (laws.order.leq_antisym a d.empty low (laws.order.empty_leq a)) ∙ laws.order.empty_is_empty))

  pub val_filled : (a b : AbsVal D) → val_leq d a b ≡ true → val_is_empty d a ≡ false → val_is_empty d b ≡ false
  val_filled a b h e =
      let parts = and_parts _ _ h in
      elim (and_cases (d.is_empty a.num) (bool_is_empty a.truth) e) [
        | inl f ↦ and_left _ _ (num_filled a.num b.num parts.0 f)
        | inr f ↦ and_right _ _ (bool_filled a.truth b.truth parts.1 f)
      ]

  pub cell_filled : (a b : AbsCell D) → cell_leq d a b ≡ true → cell_is_empty d a ≡ false → cell_is_empty d b ≡ false
  cell_filled a b h e =
      let parts = and_parts _ _ h in
      elim (and_cases (val_is_empty d a.val) (not a.unset) e) [
        | inl f ↦ and_left _ _ (val_filled a.val b.val parts.0 f)
        | inr f ↦ and_right _ _ (ap not (implies a.unset b.unset parts.1 (not-false a.unset f)))
      ]

  pub val_greatest : (a b c : AbsVal D) → val_leq d c a ≡ true → val_leq d c b ≡ true → val_leq d c (val_merge d Meet a b) ≡ true
  val_greatest a b c h k =
      let x = and_parts _ _ h in
      let y = and_parts _ _ k in
      and_from _ _ (laws.bounds.meet_greatest a.num b.num c.num x.0 y.0) (bool_greatest a.truth b.truth c.truth x.1 y.1)

  pub cell_greatest : (a b c : AbsCell D) → cell_leq d c a ≡ true → cell_leq d c b ≡ true → cell_leq d c (cell_merge d Meet a b) ≡ true
  cell_greatest a b c h k =
      let x = and_parts _ _ h in
      let y = and_parts _ _ k in
      and_from _ _ (val_greatest a.val b.val c.val x.0 y.0) (implied c.unset (a.unset && b.unset) (λ e. and_from _ _ (implies c.unset a.unset x.1 e) (implies c.unset b.unset y.1 e)))
