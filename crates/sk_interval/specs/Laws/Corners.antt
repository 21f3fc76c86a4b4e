-- Results of an operation between its results at the ends.
use Rattle.std.proofs.Common.{◌≡◌, ℕ, suc, ◌*◌, ◌/◌, ◌<◌, ◌≤◌, ℤ, pos, negsuc, ◌*ℤ◌, neg_ℤ, ◌≤ℤ◌, ◌<ℤ◌, refl, sym, arith}
use Rattle.std.proofs.Math.Nat.{div-mul-le_self, mul-le-mul_left, mul-le-mul_right}
use Rattle.std.proofs.Math.IntN.{*ℤ_comm, *ℤ-negsuc, neg_ℤ-neg_ℤ}
use Rattle.std.proofs.lemmas.Nat.{le-div}
use Rattle.std.specs.Prelude.{int_div}
use Rattle.std.specs.Int.{int_max, int_min}
use Rattle.std.proofs.lemmas.Int.{ints, clamps}
use Rattle.sk_interval.specs.Arithmetic.{corners}

-- r lies between p and q, whichever is the lesser
pub record Between (p q r : ℤ) : Type 0 where
  pub above : int_min p q ≤ℤ r
  pub below : r ≤ℤ int_max p q

rising : (p r q : ℤ) → p ≤ℤ r → r ≤ℤ q → Between p q r
rising p r q h k = record { above = omega (arith, ints, clamps); below = omega (arith, ints, clamps) }

falling : (p r q : ℤ) → q ≤ℤ r → r ≤ℤ p → Between p q r
falling p r q h k = record { above = omega (arith, ints, clamps); below = omega (arith, ints, clamps) }

-- the part from x to y lies within the part from a to b
pub record Ends (a b x y : ℤ) : Type 0 where
  pub low : a ≤ℤ x
  pub ordered : x ≤ℤ y
  pub high : y ≤ℤ b

min_low : (p q r s t : ℤ) → int_min p q ≤ℤ t → int_min (int_min p q) (int_min r s) ≤ℤ t
min_low p q r s t h = omega (arith, ints, clamps)

-- a value between two values, each of them between two others, lies between the least and the greatest of the four
pub record Inside (p q r s t : ℤ) : Type 0 where
  pub above : int_min (int_min p q) (int_min r s) ≤ℤ t
  pub below : t ≤ℤ int_max (int_max p q) (int_max r s)

between_twice : (p q r s u v t : ℤ) → Between p q u → Between r s v → Between u v t → Inside p q r s t
between_twice p q r s u v t h k l = record { above = omega (arith, ints, clamps); below = omega (arith, ints, clamps) }

module _ (f : ℤ → ℤ → ℤ) (Good : ℤ → Type 0)
    (first : (a x b y : ℤ) → Good y → a ≤ℤ x → x ≤ℤ b → Between (f a y) (f b y) (f x y))
    (second : (x c y d : ℤ) → Good c → Good d → c ≤ℤ y → y ≤ℤ d → Between (f x c) (f x d) (f x y))
  where
    -- a result lies between the least and the greatest of the four results at the ends
    pub corners_inside : (a b c d x y : ℤ) → Good c → Good y → Good d → a ≤ℤ x → x ≤ℤ b → c ≤ℤ y → y ≤ℤ d → Inside (f a c) (f a d) (f b c) (f b d) (f x y)
    corners_inside a b c d x y good_c good_y good_d h k l m =
        between_twice (f a c) (f a d) (f b c) (f b d) (f a y) (f b y) (f x y)
        (second a c y d good_c good_d l m)
        (second b c y d good_c good_d l m)
        (first a x b y good_y h k)

    pub corners_above : (a b c d x y : ℤ) → Good c → Good y → Good d → a ≤ℤ x → x ≤ℤ b → c ≤ℤ y → y ≤ℤ d → (corners f a b c d).low ≤ℤ f x y
    corners_above a b c d x y good_c good_y good_d h k l m = (corners_inside a b c d x y good_c good_y good_d h k l m).above

    pub corners_below : (a b c d x y : ℤ) → Good c → Good y → Good d → a ≤ℤ x → x ≤ℤ b → c ≤ℤ y → y ≤ℤ d → f x y ≤ℤ (corners f a b c d).high
    corners_below a b c d x y good_c good_y good_d h k l m = (corners_inside a b c d x y good_c good_y good_d h k l m).below

    -- lesser parts have their corners within
    pub corners_low : (a b c d a2 b2 c2 d2 : ℤ) → Good c → Good d → Good c2 → Good d2 → Ends a2 b2 a b → Ends c2 d2 c d → (corners f a2 b2 c2 d2).low ≤ℤ (corners f a b c d).low
    corners_low a b c d a2 b2 c2 d2 gc gd gc2 gd2 p q =
        least_of _ (f a c) (f a d) (f b c) (f b d)
        (corners_above a2 b2 c2 d2 a c gc2 gc gd2 p.low (omega (arith, ints)) q.low (omega (arith, ints)))
        (corners_above a2 b2 c2 d2 a d gc2 gd gd2 p.low (omega (arith, ints)) (omega (arith, ints)) q.high)
        (corners_above a2 b2 c2 d2 b c gc2 gc gd2 (omega (arith, ints)) p.high q.low (omega (arith, ints)))
        (corners_above a2 b2 c2 d2 b d gc2 gd gd2 (omega (arith, ints)) p.high (omega (arith, ints)) q.high)
      where
        least_of : (t p q r s : ℤ) → t ≤ℤ p → t ≤ℤ q → t ≤ℤ r → t ≤ℤ s → t ≤ℤ int_min (int_min p q) (int_min r s)
        least_of t p q r s h k l m = omega (arith, ints, clamps)

    pub corners_high : (a b c d a2 b2 c2 d2 : ℤ) → Good c → Good d → Good c2 → Good d2 → Ends a2 b2 a b → Ends c2 d2 c d → (corners f a b c d).high ≤ℤ (corners f a2 b2 c2 d2).high
    corners_high a b c d a2 b2 c2 d2 gc gd gc2 gd2 p q =
        greatest_of _ (f a c) (f a d) (f b c) (f b d)
        (corners_below a2 b2 c2 d2 a c gc2 gc gd2 p.low (omega (arith, ints)) q.low (omega (arith, ints)))
        (corners_below a2 b2 c2 d2 a d gc2 gd gd2 p.low (omega (arith, ints)) (omega (arith, ints)) q.high)
        (corners_below a2 b2 c2 d2 b c gc2 gc gd2 (omega (arith, ints)) p.high q.low (omega (arith, ints)))
        (corners_below a2 b2 c2 d2 b d gc2 gd gd2 (omega (arith, ints)) p.high (omega (arith, ints)) q.high)
      where
        greatest_of : (t p q r s : ℤ) → p ≤ℤ t → q ≤ℤ t → r ≤ℤ t → s ≤ℤ t → int_max (int_max p q) (int_max r s) ≤ℤ t
        greatest_of t p q r s h k l m = omega (arith, ints, clamps)

-- products rise or fall with each factor
product_rises : (a x : ℤ) (n : ℕ) → a ≤ℤ x → (a *ℤ pos n) ≤ℤ (x *ℤ pos n)
product_rises (pos a) (pos x) n h = let k : a ≤ x = omega (arith, ints) in let m : a * n ≤ x * n = mul-le-mul_right n k in omega (arith, ints)
product_rises (pos a) (negsuc x) n h = absurd (omega (arith, ints))
product_rises (negsuc a) (pos x) n h = omega (arith, ints)
product_rises (negsuc a) (negsuc x) n h = let k : suc x ≤ suc a = omega (arith, ints) in let m : suc x * n ≤ suc a * n = mul-le-mul_right n k in omega (arith, ints)

product_falls : (a x : ℤ) (n : ℕ) → a ≤ℤ x → (x *ℤ negsuc n) ≤ℤ (a *ℤ negsuc n)
product_falls a x n h = rw (*ℤ-negsuc a n, *ℤ-negsuc x n) (neg_falls (a *ℤ pos (suc n)) (x *ℤ pos (suc n)) (product_rises a x (suc n) h))
  where
    neg_falls : (p q : ℤ) → p ≤ℤ q → neg_ℤ q ≤ℤ neg_ℤ p
    neg_falls p q h = omega (arith, ints)

pub product_first : (a x b y : ℤ) → a ≤ℤ x → x ≤ℤ b → Between (a *ℤ y) (b *ℤ y) (x *ℤ y)
product_first a x b (pos n) h k = rising (a *ℤ pos n) (x *ℤ pos n) (b *ℤ pos n) (product_rises a x n h) (product_rises x b n k)
product_first a x b (negsuc n) h k = falling (a *ℤ negsuc n) (x *ℤ negsuc n) (b *ℤ negsuc n) (product_falls x b n k) (product_falls a x n h)

pub product_second : (x c y d : ℤ) → c ≤ℤ y → y ≤ℤ d → Between (x *ℤ c) (x *ℤ d) (x *ℤ y)
product_second x c y d h k = rw (*ℤ_comm x c, *ℤ_comm x d, *ℤ_comm x y) (product_first c y d x h k)

-- quotients rise with the dividend, and come nearer to zero as the divisor goes away from it
quotient_less : (m n k : ℕ) → 0 < k → m ≤ n → m / k ≤ n / k
quotient_less m n k h l = let p = div-mul-le_self m k in le-div (m / k) n k h (omega arith)

quotient_more : (m n k : ℕ) → 0 < n → n ≤ k → m / k ≤ m / n
quotient_more m n k h l =
    let p : m / k * k ≤ m = div-mul-le_self m k in
    let q : m / k * n ≤ m / k * k = mul-le-mul_left (m / k) l in
    le-div (m / k) m n h (omega arith)

quotient_rises : (a x : ℤ) (n : ℕ) → 0 < n → a ≤ℤ x → int_div a (pos n) ≤ℤ int_div x (pos n)
quotient_rises (pos a) (pos x) n p h = let k = quotient_less a x n p (omega (arith, ints)) in omega (arith, ints)
quotient_rises (pos a) (negsuc x) n p h = absurd (omega (arith, ints))
quotient_rises (negsuc a) (pos x) n p h = omega (arith, ints)
quotient_rises (negsuc a) (negsuc x) n p h = let k = quotient_less (suc x) (suc a) n p (omega (arith, ints)) in omega (arith, ints)

-- a quotient by a negative divisor
turned : (a : ℤ) (n : ℕ) → int_div a (negsuc n) ≡ neg_ℤ (int_div a (pos (suc n)))
turned (pos a) n = refl
turned (negsuc a) n = sym (neg_ℤ-neg_ℤ (pos (suc a / suc n)))

neg_between : (p q r : ℤ) → Between p q r → Between (neg_ℤ p) (neg_ℤ q) (neg_ℤ r)
neg_between p q r h = record { above = omega (arith, ints, clamps); below = omega (arith, ints, clamps) }

swapped : (p q r : ℤ) → Between p q r → Between q p r
swapped p q r h = record { above = omega (arith, ints, clamps); below = omega (arith, ints, clamps) }

-- by a positive divisor
abbrev pub Positive : ℤ → Type 0
Positive y = pos 0 <ℤ y

abbrev pub Negative : ℤ → Type 0
Negative y = y <ℤ pos 0

pub positive_first : (a x b y : ℤ) → Positive y → a ≤ℤ x → x ≤ℤ b → Between (int_div a y) (int_div b y) (int_div x y)
positive_first a x b (pos n) p h k =
    let q : 0 < n = omega (arith, ints) in
    rising (int_div a (pos n)) (int_div x (pos n)) (int_div b (pos n)) (quotient_rises a x n q h) (quotient_rises x b n q k)
positive_first a x b (negsuc n) p h k = absurd (omega (arith, ints))

quotient_nearer : (x : ℤ) (c y d : ℕ) → 0 < c → c ≤ y → y ≤ d → Between (int_div x (pos c)) (int_div x (pos d)) (int_div x (pos y))
quotient_nearer (pos a) c y d p h k =
    let l = quotient_more a c y p h in
    let m = quotient_more a y d (omega arith) k in
    falling (pos (a / c)) (pos (a / y)) (pos (a / d)) (omega (arith, ints)) (omega (arith, ints))
quotient_nearer (negsuc a) c y d p h k =
    let l = quotient_more (suc a) c y p h in
    let m = quotient_more (suc a) y d (omega arith) k in
    rising (neg_ℤ (pos (suc a / c))) (neg_ℤ (pos (suc a / y))) (neg_ℤ (pos (suc a / d))) (omega (arith, ints)) (omega (arith, ints))

pub positive_second : (x c y d : ℤ) → Positive c → Positive d → c ≤ℤ y → y ≤ℤ d → Between (int_div x c) (int_div x d) (int_div x y)
positive_second x (pos c) (pos y) (pos d) p q h k = quotient_nearer x c y d (omega (arith, ints)) (omega (arith, ints)) (omega (arith, ints))
positive_second x (negsuc c) y d p q h k = absurd (omega (arith, ints))
positive_second x (pos c) (negsuc y) d p q h k = absurd (omega (arith, ints))
positive_second x (pos c) (pos y) (negsuc d) p q h k = absurd (omega (arith, ints))

pub negative_first : (a x b y : ℤ) → Negative y → a ≤ℤ x → x ≤ℤ b → Between (int_div a y) (int_div b y) (int_div x y)
negative_first a x b (pos n) p h k = absurd (omega (arith, ints))
negative_first a x b (negsuc n) p h k =
    rw (turned a n, turned b n, turned x n)
    (neg_between (int_div a (pos (suc n))) (int_div b (pos (suc n))) (int_div x (pos (suc n))) (positive_first a x b (pos (suc n)) (omega (arith, ints)) h k))

pub negative_second : (x c y d : ℤ) → Negative c → Negative d → c ≤ℤ y → y ≤ℤ d → Between (int_div x c) (int_div x d) (int_div x y)
negative_second x (negsuc c) (negsuc y) (negsuc d) p q h k =
    rw (turned x c, turned x d, turned x y)
    (neg_between (int_div x (pos (suc c))) (int_div x (pos (suc d))) (int_div x (pos (suc y)))
    (swapped (int_div x (pos (suc d))) (int_div x (pos (suc c))) (int_div x (pos (suc y)))
    (quotient_nearer x (suc d) (suc y) (suc c) (omega arith) (omega (arith, ints)) (omega (arith, ints)))))
negative_second x (pos c) y d p q h k = absurd (omega (arith, ints))
negative_second x (negsuc c) (pos y) (negsuc d) p q h k = absurd (omega (arith, ints))
negative_second x (negsuc c) y (pos d) p q h k = absurd (omega (arith, ints))
