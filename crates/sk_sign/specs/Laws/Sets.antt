-- Sets of signs by their members.
use Rattle.std.proofs.Common.{◌≡◌, Bool, true, false, not, ◌&&◌, ◌||◌, refl, inl, inr}
use Rattle.std.proofs.lemmas.Bool.{and_parts, and_from, or_cases, or_left, or_right, false≢true}
use Rattle.sk_sign.specs.declared.sign.Sign.{Sign}
use Rattle.sk_sign.specs.Sets.{signs}
use Rattle.sk_sign.specs.Signs.{One, Negative, Zero, Positive, has, set_of, just, some_one, some_pair, union, sign_leq, truth_union}
use Rattle.sk_lattice.specs.declared.truth.AbsBool.{AbsBool}
use Rattle.sk_lattice.specs.Truth.{bool_holds, bool_leq}

pub implies : (x y : Bool) → (not x || y) ≡ true → x ≡ true → y ≡ true
implies true y h e = h
implies false y h e = absurd (false≢true e)

pub implied : (x y : Bool) → (x ≡ true → y ≡ true) → (not x || y) ≡ true
implied true y h = h refl
implied false y h = refl

-- what a greater set has
pub has_more : (a b : Sign) → sign_leq a b ≡ true → (p : One) → has a p ≡ true → has b p ≡ true
has_more a b h Negative e = implies a.negative b.negative (and_parts _ _ h).0 e
has_more a b h Zero e = implies a.zero b.zero (and_parts _ _ (and_parts _ _ h).1).0 e
has_more a b h Positive e = implies a.positive b.positive (and_parts _ _ (and_parts _ _ h).1).1 e

pub leq_by_members : (a b : Sign) → ((p : One) → has a p ≡ true → has b p ≡ true) → sign_leq a b ≡ true
leq_by_members a b h =
    and_from _ _ (implied a.negative b.negative (h Negative)) (and_from _ _ (implied a.zero b.zero (h Zero)) (implied a.positive b.positive (h Positive)))

pub has_set_of : (f : One → Bool) (p : One) → has (set_of f) p ≡ f p
has_set_of f Negative = refl
has_set_of f Zero = refl
has_set_of f Positive = refl

pub some_one_by : (s : Sign) (f : One → Bool) (p : One) → has s p ≡ true → f p ≡ true → some_one s f ≡ true
some_one_by s f Negative e h = or_left _ _ (and_from _ _ e h)
some_one_by s f Zero e h = or_right _ _ (or_left _ _ (and_from _ _ e h))
some_one_by s f Positive e h = or_right _ _ (or_right _ _ (and_from _ _ e h))

-- a sign of a set that passes a test
pub record Found (s : Sign) (f : One → Bool) : Type 0 where
  pub one : One
  pub member : has s one ≡ true
  pub passes : f one ≡ true

found_at : (s : Sign) (f : One → Bool) (p : One) → (has s p && f p) ≡ true → Found s f
found_at s f p h = record { one = p; member = (and_parts _ _ h).0; passes = (and_parts _ _ h).1 }

pub found : (s : Sign) (f : One → Bool) → some_one s f ≡ true → Found s f
found s f h =
    elim (or_cases _ _ h) [
      | inl e ↦ found_at s f Negative e
      | inr r ↦ elim (or_cases _ _ r) [ inl e ↦ found_at s f Zero e | inr e ↦ found_at s f Positive e ]
    ]

pub some_one_more : (a b : Sign) (f g : One → Bool) → sign_leq a b ≡ true → ((p : One) → f p ≡ true → g p ≡ true) → some_one a f ≡ true → some_one b g ≡ true
some_one_more a b f g h k e = let w = found a f e in some_one_by b g w.one (has_more a b h w.one w.member) (k w.one w.passes)

pub some_pair_more : (a a2 b b2 : Sign) (f : One → One → Bool) → sign_leq a a2 ≡ true → sign_leq b b2 ≡ true → some_pair a b f ≡ true → some_pair a2 b2 f ≡ true
some_pair_more a a2 b b2 f h k =
    some_one_more a a2 (λ p. some_one b (λ q. f p q)) (λ p. some_one b2 (λ q. f p q)) h (λ p. some_one_more b b2 (f p) (f p) k (λ q e. e))

pub some_pair_by : (a b : Sign) (f : One → One → Bool) (p q : One) → has a p ≡ true → has b q ≡ true → f p q ≡ true → some_pair a b f ≡ true
some_pair_by a b f p q h k e = some_one_by a (λ p. some_one b (λ q. f p q)) p h (some_one_by b (f p) q k e)

-- the set of one sign has it, and no other
pub has_just : (p : One) → has (just p) p ≡ true
has_just Negative = refl
has_just Zero = refl
has_just Positive = refl

pub just_only : (p r : One) → has (just p) r ≡ true → p ≡ r
just_only Negative Negative h = refl
just_only Zero Zero h = refl
just_only Positive Positive h = refl
just_only _ _ h = cc

-- the union has a sign that the entry of a pair of members has
pub union_has : (f : One → One → Sign) (a b : Sign) (p q r : One) → has a p ≡ true → has b q ≡ true → has (f p q) r ≡ true → has (union f a b) r ≡ true
union_has f a b p q r h k e = rw (has_set_of (λ r. some_pair a b (λ p q. has (f p q) r)) r) (some_pair_by a b (λ p q. has (f p q) r) p q h k e)

-- and only such signs
pub record Pair (f : One → One → Sign) (a b : Sign) (r : One) : Type 0 where
  pub left : One
  pub right : One
  pub in_left : has a left ≡ true
  pub in_right : has b right ≡ true
  pub entry : has (f left right) r ≡ true

pub union_pair : (f : One → One → Sign) (a b : Sign) (r : One) → has (union f a b) r ≡ true → Pair f a b r
union_pair f a b r h =
    let w = found a (λ p. some_one b (λ q. has (f p q) r)) (rw (← has_set_of (λ r. some_pair a b (λ p q. has (f p q) r)) r) h) in
    let v = found b (λ q. has (f w.one q) r) w.passes in
    record { left = w.one; right = v.one; in_left = w.member; in_right = v.member; entry = v.passes }

pub union_leq : (f : One → One → Sign) (a a2 b b2 : Sign) → sign_leq a a2 ≡ true → sign_leq b b2 ≡ true → sign_leq (union f a b) (union f a2 b2) ≡ true
union_leq f a a2 b b2 h k =
    leq_by_members (union f a b) (union f a2 b2) (λ r e.
    let w = union_pair f a b r e in
    union_has f a2 b2 w.left w.right r (has_more a a2 h w.left w.in_left) (has_more b b2 k w.right w.in_right) w.entry)

-- the union of sets of truth values
pub truth_has : (f : One → One → AbsBool) (a b : Sign) (p q : One) (t : Bool) → has a p ≡ true → has b q ≡ true → bool_holds (f p q) t ≡ true → bool_holds (truth_union f a b) t ≡ true
truth_has f a b p q true h k e = some_pair_by a b (λ p q. (f p q).has_true) p q h k e
truth_has f a b p q false h k e = some_pair_by a b (λ p q. (f p q).has_false) p q h k e

pub truth_leq : (f : One → One → AbsBool) (a a2 b b2 : Sign) → sign_leq a a2 ≡ true → sign_leq b b2 ≡ true → bool_leq (truth_union f a b) (truth_union f a2 b2) ≡ true
truth_leq f a a2 b b2 h k =
    and_from _ _
    (implied (truth_union f a b).has_true (truth_union f a2 b2).has_true (some_pair_more a a2 b b2 (λ p q. (f p q).has_true) h k))
    (implied (truth_union f a b).has_false (truth_union f a2 b2).has_false (some_pair_more a a2 b b2 (λ p q. (f p q).has_false) h k))

-- two sets with the same members are one
pub same_bits : (n n2 z z2 p p2 : Bool) → n ≡ n2 → z ≡ z2 → p ≡ p2 → signs n z p ≡ signs n2 z2 p2
same_bits n n2 z z2 p p2 e f g = cc
