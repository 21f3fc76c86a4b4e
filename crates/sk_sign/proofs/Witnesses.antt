-- Small numbers that give each sign of each entry.
use Rattle.std.proofs.Common.{◌≡◌, ◌≢◌, ℤ, pos, negsuc, Bool, true, false, refl, lit<, arith}
use Rattle.std.proofs.lemmas.Int.{ints}
use Rattle.sk_value.specs.declared.arith.Arith.{Arith}
use Rattle.sk_value.specs.declared.arith.Arith.TheVariants.{Add, Sub, Mul, Div, Rem, Pick}
use Rattle.sk_value.specs.declared.arith.Compare.{Compare}
use Rattle.sk_value.specs.declared.arith.Compare.TheVariants.{Lt, Le, Eq}
use Rattle.sk_value.specs.declared.arith.Refine.{Refine}
use Rattle.sk_value.specs.declared.arith.Refine.TheVariants.{Below, AtLeast, Same, Differ}
use Rattle.sk_value.specs.Numbers.{IsNumber, Gives, compares, keeps}
use Rattle.sk_lattice.specs.Truth.{bool_holds}
use Rattle.sk_sign.specs.Sets as set
use Rattle.sk_sign.specs.Best.{GiveSign}
use Rattle.sk_sign.specs.Signs.{One, Negative, Zero, Positive, one_of, has, single, single_truth, allows}

-- two numbers of two signs of which the fact holds
pub record Witness (G : ℤ → ℤ → Type 0) (p q : One) : Type 0 where
  pub left : ℤ
  pub right : ℤ
  pub left_fits : IsNumber left
  pub right_fits : IsNumber right
  pub left_sign : one_of left ≡ p
  pub right_sign : one_of right ≡ q
  pub gives : G left right

abbrev m2 : ℤ
m2 = negsuc 1

abbrev m1 : ℤ
m1 = negsuc 0

abbrev p0 : ℤ
p0 = pos 0

abbrev p1 : ℤ
p1 = pos 1

abbrev p2 : ℤ
p2 = pos 2

fits_m2 : IsNumber m2
fits_m2 = record { sfits = lit< tt }

fits_m1 : IsNumber m1
fits_m1 = record { sfits = lit< tt }

fits_p0 : IsNumber p0
fits_p0 = record { sfits = lit< tt }

fits_p1 : IsNumber p1
fits_p1 = record { sfits = lit< tt }

fits_p2 : IsNumber p2
fits_p2 = record { sfits = lit< tt }

ne_m2 : m2 ≢ pos 0
ne_m2 e = omega (arith, ints)

ne_m1 : m1 ≢ pos 0
ne_m1 e = omega (arith, ints)

ne_p1 : p1 ≢ pos 0
ne_p1 e = omega (arith, ints)

ne_p2 : p2 ≢ pos 0
ne_p2 e = omega (arith, ints)

pair : (G : ℤ → ℤ → Type 0) (m n : ℤ) → IsNumber m → IsNumber n → G m n → Witness G (one_of m) (one_of n)
pair G m n f g e = record { left = m; right = n; left_fits = f; right_fits = g; left_sign = refl; right_sign = refl; gives = e }

made : (op : Arith) (m n v : ℤ) → IsNumber m → IsNumber n → IsNumber v → Gives op m n v → Witness (GiveSign op (one_of v)) (one_of m) (one_of n)
made op m n v f g k e = pair (GiveSign op (one_of v)) m n f g (record { result = v; gives = record { left = f; right = g; result = k; gives = e }; sign = refl })

compared : (op : Compare) (t : Bool) (m n : ℤ) → IsNumber m → IsNumber n → compares op m n ≡ t → Witness (λ m n. compares op m n ≡ t) (one_of m) (one_of n)
compared op t = pair (λ m n. compares op m n ≡ t)

kept : (op : Refine) (m n : ℤ) → IsNumber m → IsNumber n → keeps op m n ≡ true → Witness (λ m n. keeps op m n ≡ true) (one_of m) (one_of n)
kept op = pair (λ m n. keeps op m n ≡ true)

pub not_in_none : (t : One) → has set.none t ≡ true → ⊥
not_in_none Negative h = cc
not_in_none Zero h = cc
not_in_none Positive h = cc

pub arith_at : (op : Arith) (p q r : One) → has (single op p q) r ≡ true → Witness (GiveSign op r) p q
arith_at Add Negative Negative Negative h = made Add m1 m1 m2 fits_m1 fits_m1 fits_m2 refl
arith_at Add Negative Zero Negative h = made Add m1 p0 m1 fits_m1 fits_p0 fits_m1 refl
arith_at Add Negative Positive Negative h = made Add m2 p1 m1 fits_m2 fits_p1 fits_m1 refl
arith_at Add Negative Positive Zero h = made Add m1 p1 p0 fits_m1 fits_p1 fits_p0 refl
arith_at Add Negative Positive Positive h = made Add m1 p2 p1 fits_m1 fits_p2 fits_p1 refl
arith_at Add Zero Negative Negative h = made Add p0 m1 m1 fits_p0 fits_m1 fits_m1 refl
arith_at Add Zero Zero Zero h = made Add p0 p0 p0 fits_p0 fits_p0 fits_p0 refl
arith_at Add Zero Positive Positive h = made Add p0 p1 p1 fits_p0 fits_p1 fits_p1 refl
arith_at Add Positive Negative Negative h = made Add p1 m2 m1 fits_p1 fits_m2 fits_m1 refl
arith_at Add Positive Negative Zero h = made Add p1 m1 p0 fits_p1 fits_m1 fits_p0 refl
arith_at Add Positive Negative Positive h = made Add p2 m1 p1 fits_p2 fits_m1 fits_p1 refl
arith_at Add Positive Zero Positive h = made Add p1 p0 p1 fits_p1 fits_p0 fits_p1 refl
arith_at Add Positive Positive Positive h = made Add p1 p1 p2 fits_p1 fits_p1 fits_p2 refl
arith_at Sub Negative Negative Negative h = made Sub m2 m1 m1 fits_m2 fits_m1 fits_m1 refl
arith_at Sub Negative Negative Zero h = made Sub m1 m1 p0 fits_m1 fits_m1 fits_p0 refl
arith_at Sub Negative Negative Positive h = made Sub m1 m2 p1 fits_m1 fits_m2 fits_p1 refl
arith_at Sub Negative Zero Negative h = made Sub m1 p0 m1 fits_m1 fits_p0 fits_m1 refl
arith_at Sub Negative Positive Negative h = made Sub m1 p1 m2 fits_m1 fits_p1 fits_m2 refl
arith_at Sub Zero Negative Positive h = made Sub p0 m1 p1 fits_p0 fits_m1 fits_p1 refl
arith_at Sub Zero Zero Zero h = made Sub p0 p0 p0 fits_p0 fits_p0 fits_p0 refl
arith_at Sub Zero Positive Negative h = made Sub p0 p1 m1 fits_p0 fits_p1 fits_m1 refl
arith_at Sub Positive Negative Positive h = made Sub p1 m1 p2 fits_p1 fits_m1 fits_p2 refl
arith_at Sub Positive Zero Positive h = made Sub p1 p0 p1 fits_p1 fits_p0 fits_p1 refl
arith_at Sub Positive Positive Negative h = made Sub p1 p2 m1 fits_p1 fits_p2 fits_m1 refl
arith_at Sub Positive Positive Zero h = made Sub p1 p1 p0 fits_p1 fits_p1 fits_p0 refl
arith_at Sub Positive Positive Positive h = made Sub p2 p1 p1 fits_p2 fits_p1 fits_p1 refl
arith_at Mul Negative Negative Positive h = made Mul m1 m1 p1 fits_m1 fits_m1 fits_p1 refl
arith_at Mul Negative Zero Zero h = made Mul m1 p0 p0 fits_m1 fits_p0 fits_p0 refl
arith_at Mul Negative Positive Negative h = made Mul m1 p1 m1 fits_m1 fits_p1 fits_m1 refl
arith_at Mul Zero Negative Zero h = made Mul p0 m1 p0 fits_p0 fits_m1 fits_p0 refl
arith_at Mul Zero Zero Zero h = made Mul p0 p0 p0 fits_p0 fits_p0 fits_p0 refl
arith_at Mul Zero Positive Zero h = made Mul p0 p1 p0 fits_p0 fits_p1 fits_p0 refl
arith_at Mul Positive Negative Negative h = made Mul p1 m1 m1 fits_p1 fits_m1 fits_m1 refl
arith_at Mul Positive Zero Zero h = made Mul p1 p0 p0 fits_p1 fits_p0 fits_p0 refl
arith_at Mul Positive Positive Positive h = made Mul p1 p1 p1 fits_p1 fits_p1 fits_p1 refl
arith_at Div Negative Negative Zero h = made Div m1 m2 p0 fits_m1 fits_m2 fits_p0 (ne_m2, refl)
arith_at Div Negative Negative Positive h = made Div m1 m1 p1 fits_m1 fits_m1 fits_p1 (ne_m1, refl)
arith_at Div Negative Zero t h = absurd (not_in_none t h)
arith_at Div Negative Positive Negative h = made Div m1 p1 m1 fits_m1 fits_p1 fits_m1 (ne_p1, refl)
arith_at Div Negative Positive Zero h = made Div m1 p2 p0 fits_m1 fits_p2 fits_p0 (ne_p2, refl)
arith_at Div Zero Negative Zero h = made Div p0 m1 p0 fits_p0 fits_m1 fits_p0 (ne_m1, refl)
arith_at Div Zero Zero t h = absurd (not_in_none t h)
arith_at Div Zero Positive Zero h = made Div p0 p1 p0 fits_p0 fits_p1 fits_p0 (ne_p1, refl)
arith_at Div Positive Negative Negative h = made Div p1 m1 m1 fits_p1 fits_m1 fits_m1 (ne_m1, refl)
arith_at Div Positive Negative Zero h = made Div p1 m2 p0 fits_p1 fits_m2 fits_p0 (ne_m2, refl)
arith_at Div Positive Zero t h = absurd (not_in_none t h)
arith_at Div Positive Positive Zero h = made Div p1 p2 p0 fits_p1 fits_p2 fits_p0 (ne_p2, refl)
arith_at Div Positive Positive Positive h = made Div p1 p1 p1 fits_p1 fits_p1 fits_p1 (ne_p1, refl)
arith_at Rem Negative Negative Negative h = made Rem m1 m2 m1 fits_m1 fits_m2 fits_m1 (ne_m2, refl)
arith_at Rem Negative Negative Zero h = made Rem m1 m1 p0 fits_m1 fits_m1 fits_p0 (ne_m1, refl)
arith_at Rem Negative Zero t h = absurd (not_in_none t h)
arith_at Rem Negative Positive Negative h = made Rem m1 p2 m1 fits_m1 fits_p2 fits_m1 (ne_p2, refl)
arith_at Rem Negative Positive Zero h = made Rem m1 p1 p0 fits_m1 fits_p1 fits_p0 (ne_p1, refl)
arith_at Rem Zero Negative Zero h = made Rem p0 m1 p0 fits_p0 fits_m1 fits_p0 (ne_m1, refl)
arith_at Rem Zero Zero t h = absurd (not_in_none t h)
arith_at Rem Zero Positive Zero h = made Rem p0 p1 p0 fits_p0 fits_p1 fits_p0 (ne_p1, refl)
arith_at Rem Positive Negative Zero h = made Rem p1 m1 p0 fits_p1 fits_m1 fits_p0 (ne_m1, refl)
arith_at Rem Positive Negative Positive h = made Rem p1 m2 p1 fits_p1 fits_m2 fits_p1 (ne_m2, refl)
arith_at Rem Positive Zero t h = absurd (not_in_none t h)
arith_at Rem Positive Positive Zero h = made Rem p1 p1 p0 fits_p1 fits_p1 fits_p0 (ne_p1, refl)
arith_at Rem Positive Positive Positive h = made Rem p1 p2 p1 fits_p1 fits_p2 fits_p1 (ne_p2, refl)
arith_at Pick Negative Negative Negative h = made Pick m1 m1 m1 fits_m1 fits_m1 fits_m1 (omega (arith, ints), omega (arith, ints), omega (arith, ints))
arith_at Pick Negative Zero Negative h = made Pick m1 p0 m1 fits_m1 fits_p0 fits_m1 (omega (arith, ints), omega (arith, ints), omega (arith, ints))
arith_at Pick Negative Zero Zero h = made Pick m1 p0 p0 fits_m1 fits_p0 fits_p0 (omega (arith, ints), omega (arith, ints), omega (arith, ints))
arith_at Pick Negative Positive Negative h = made Pick m1 p1 m1 fits_m1 fits_p1 fits_m1 (omega (arith, ints), omega (arith, ints), omega (arith, ints))
arith_at Pick Negative Positive Zero h = made Pick m1 p1 p0 fits_m1 fits_p1 fits_p0 (omega (arith, ints), omega (arith, ints), omega (arith, ints))
arith_at Pick Negative Positive Positive h = made Pick m1 p1 p1 fits_m1 fits_p1 fits_p1 (omega (arith, ints), omega (arith, ints), omega (arith, ints))
arith_at Pick Zero Negative t h = absurd (not_in_none t h)
arith_at Pick Zero Zero Zero h = made Pick p0 p0 p0 fits_p0 fits_p0 fits_p0 (omega (arith, ints), omega (arith, ints), omega (arith, ints))
arith_at Pick Zero Positive Zero h = made Pick p0 p1 p0 fits_p0 fits_p1 fits_p0 (omega (arith, ints), omega (arith, ints), omega (arith, ints))
arith_at Pick Zero Positive Positive h = made Pick p0 p1 p1 fits_p0 fits_p1 fits_p1 (omega (arith, ints), omega (arith, ints), omega (arith, ints))
arith_at Pick Positive Negative t h = absurd (not_in_none t h)
arith_at Pick Positive Zero t h = absurd (not_in_none t h)
arith_at Pick Positive Positive Positive h = made Pick p1 p1 p1 fits_p1 fits_p1 fits_p1 (omega (arith, ints), omega (arith, ints), omega (arith, ints))
arith_at _ _ _ _ h = cc

pub compare_at : (op : Compare) (p q : One) (t : Bool) → bool_holds (single_truth op p q) t ≡ true → Witness (λ m n. compares op m n ≡ t) p q
compare_at Lt Negative Negative true h = compared Lt true m2 m1 fits_m2 fits_m1 refl
compare_at Lt Negative Negative false h = compared Lt false m1 m1 fits_m1 fits_m1 refl
compare_at Lt Negative Zero true h = compared Lt true m1 p0 fits_m1 fits_p0 refl
compare_at Lt Negative Positive true h = compared Lt true m1 p1 fits_m1 fits_p1 refl
compare_at Lt Zero Negative false h = compared Lt false p0 m1 fits_p0 fits_m1 refl
compare_at Lt Zero Zero false h = compared Lt false p0 p0 fits_p0 fits_p0 refl
compare_at Lt Zero Positive true h = compared Lt true p0 p1 fits_p0 fits_p1 refl
compare_at Lt Positive Negative false h = compared Lt false p1 m1 fits_p1 fits_m1 refl
compare_at Lt Positive Zero false h = compared Lt false p1 p0 fits_p1 fits_p0 refl
compare_at Lt Positive Positive true h = compared Lt true p1 p2 fits_p1 fits_p2 refl
compare_at Lt Positive Positive false h = compared Lt false p1 p1 fits_p1 fits_p1 refl
compare_at Le Negative Negative true h = compared Le true m1 m1 fits_m1 fits_m1 refl
compare_at Le Negative Negative false h = compared Le false m1 m2 fits_m1 fits_m2 refl
compare_at Le Negative Zero true h = compared Le true m1 p0 fits_m1 fits_p0 refl
compare_at Le Negative Positive true h = compared Le true m1 p1 fits_m1 fits_p1 refl
compare_at Le Zero Negative false h = compared Le false p0 m1 fits_p0 fits_m1 refl
compare_at Le Zero Zero true h = compared Le true p0 p0 fits_p0 fits_p0 refl
compare_at Le Zero Positive true h = compared Le true p0 p1 fits_p0 fits_p1 refl
compare_at Le Positive Negative false h = compared Le false p1 m1 fits_p1 fits_m1 refl
compare_at Le Positive Zero false h = compared Le false p1 p0 fits_p1 fits_p0 refl
compare_at Le Positive Positive true h = compared Le true p1 p1 fits_p1 fits_p1 refl
compare_at Le Positive Positive false h = compared Le false p2 p1 fits_p2 fits_p1 refl
compare_at Eq Negative Negative true h = compared Eq true m1 m1 fits_m1 fits_m1 refl
compare_at Eq Negative Negative false h = compared Eq false m1 m2 fits_m1 fits_m2 refl
compare_at Eq Negative Zero false h = compared Eq false m1 p0 fits_m1 fits_p0 refl
compare_at Eq Negative Positive false h = compared Eq false m1 p1 fits_m1 fits_p1 refl
compare_at Eq Zero Negative false h = compared Eq false p0 m1 fits_p0 fits_m1 refl
compare_at Eq Zero Zero true h = compared Eq true p0 p0 fits_p0 fits_p0 refl
compare_at Eq Zero Positive false h = compared Eq false p0 p1 fits_p0 fits_p1 refl
compare_at Eq Positive Negative false h = compared Eq false p1 m1 fits_p1 fits_m1 refl
compare_at Eq Positive Zero false h = compared Eq false p1 p0 fits_p1 fits_p0 refl
compare_at Eq Positive Positive true h = compared Eq true p1 p1 fits_p1 fits_p1 refl
compare_at Eq Positive Positive false h = compared Eq false p1 p2 fits_p1 fits_p2 refl
compare_at _ _ _ _ h = cc

pub keeps_at : (op : Refine) (p q : One) → allows op p q ≡ true → Witness (λ m n. keeps op m n ≡ true) p q
keeps_at Below Negative Negative h = kept Below m2 m1 fits_m2 fits_m1 refl
keeps_at Below Negative Zero h = kept Below m1 p0 fits_m1 fits_p0 refl
keeps_at Below Negative Positive h = kept Below m1 p1 fits_m1 fits_p1 refl
keeps_at Below Zero Positive h = kept Below p0 p1 fits_p0 fits_p1 refl
keeps_at Below Positive Positive h = kept Below p1 p2 fits_p1 fits_p2 refl
keeps_at AtLeast Negative Negative h = kept AtLeast m1 m1 fits_m1 fits_m1 refl
keeps_at AtLeast Zero Negative h = kept AtLeast p0 m1 fits_p0 fits_m1 refl
keeps_at AtLeast Zero Zero h = kept AtLeast p0 p0 fits_p0 fits_p0 refl
keeps_at AtLeast Positive Negative h = kept AtLeast p1 m1 fits_p1 fits_m1 refl
keeps_at AtLeast Positive Zero h = kept AtLeast p1 p0 fits_p1 fits_p0 refl
keeps_at AtLeast Positive Positive h = kept AtLeast p1 p1 fits_p1 fits_p1 refl
keeps_at Same Negative Negative h = kept Same m1 m1 fits_m1 fits_m1 refl
keeps_at Same Zero Zero h = kept Same p0 p0 fits_p0 fits_p0 refl
keeps_at Same Positive Positive h = kept Same p1 p1 fits_p1 fits_p1 refl
keeps_at Differ Negative Negative h = kept Differ m1 m2 fits_m1 fits_m2 refl
keeps_at Differ Negative Zero h = kept Differ m1 p0 fits_m1 fits_p0 refl
keeps_at Differ Negative Positive h = kept Differ m1 p1 fits_m1 fits_p1 refl
keeps_at Differ Zero Negative h = kept Differ p0 m1 fits_p0 fits_m1 refl
keeps_at Differ Zero Positive h = kept Differ p0 p1 fits_p0 fits_p1 refl
keeps_at Differ Positive Negative h = kept Differ p1 m1 fits_p1 fits_m1 refl
keeps_at Differ Positive Zero h = kept Differ p1 p0 fits_p1 fits_p0 refl
keeps_at Differ Positive Positive h = kept Differ p1 p2 fits_p1 fits_p2 refl
keeps_at _ _ _ h = cc
