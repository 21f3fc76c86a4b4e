-- Relations of lists and of options, place by place.
use Rattle.std.proofs.Common.{◌≡◌, ℕ, zero, suc, ◌<◌, Bool, true, List, [], ◌∷◌, Option, Some, None, Result, Ok, Err, refl, sym, subst, arith}
use Rattle.std.specs.Result.{IfOk}
use Rattle.std.specs.Prelude.{slice_get, slice_set}
use Rattle.std.specs.List.{AllByRecursion, AllZip, list_all}
use Rattle.std.specs.Option.{option_map, option_and_then}
use Rattle.std.proofs.lemmas.Bool.{and_parts, and_from}
use lib.Pointwise.{pointwise}
use Rattle.sk_deriv.specs.Env.{all_of}
use Rattle.sk_solve.specs.Climbing.{zip_sum}

-- an entry of one list changed
pub set_left : {A B : Type 0} (R : A → B → Type 0) (xs : List A) (ys : List B) (i : ℕ) (x : A) → AllZip R xs ys → ((y : B) → slice_get ys i ≡ Some y → R x y) → AllZip R (slice_set xs i x) ys
set_left R [] [] i x h r = tt
set_left R [] (y ∷ ys) i x h r = absurd h
set_left R (a ∷ xs) [] i x h r = absurd h
set_left R (a ∷ xs) (y ∷ ys) zero x h r = (r y refl, h.1)
set_left R (a ∷ xs) (y ∷ ys) (suc i) x h r = (h.0, set_left R xs ys i x h.1 r)

pub set_right : {A B : Type 0} (R : A → B → Type 0) (xs : List A) (ys : List B) (i : ℕ) (y : B) → AllZip R xs ys → ((x : A) → slice_get xs i ≡ Some x → R x y) → AllZip R xs (slice_set ys i y)
set_right R [] [] i y h r = tt
set_right R [] (b ∷ ys) i y h r = absurd h
set_right R (x ∷ xs) [] i y h r = absurd h
set_right R (x ∷ xs) (b ∷ ys) zero y h r = (r x refl, h.1)
set_right R (x ∷ xs) (b ∷ ys) (suc i) y h r = (h.0, set_right R xs ys i y h.1 r)

-- the entry beside another one
pub record Beside {A B : Type 0} (R : A → B → Type 0) (x : A) (ys : List B) (i : ℕ) : Type 0 where
  pub other : B
  pub is : slice_get ys i ≡ Some other
  pub related : R x other

pub beside : {A B : Type 0} (R : A → B → Type 0) (xs : List A) (ys : List B) (i : ℕ) (x : A) → AllZip R xs ys → slice_get xs i ≡ Some x → Beside R x ys i
beside R [] ys i x h e = absurd cc
beside R (a ∷ xs) [] i x h e = absurd h
beside R (a ∷ xs) (y ∷ ys) zero x h e = let same : a ≡ x = cc in record { other = y; is = refl; related = subst (λ z. R z y) same h.0 }
beside R (a ∷ xs) (y ∷ ys) (suc i) x h e = let b = beside R xs ys i x h.1 e in record { other = b.other; is = b.is; related = b.related }

pub both_at : {A B : Type 0} (R : A → B → Type 0) (xs : List A) (ys : List B) (i : ℕ) (x : A) (y : B) → AllZip R xs ys → slice_get xs i ≡ Some x → slice_get ys i ≡ Some y → R x y
both_at R [] ys i x y h e k = absurd cc
both_at R (a ∷ xs) [] i x y h e k = absurd h
both_at R (a ∷ xs) (b ∷ ys) zero x y h e k = let same : a ≡ x = cc in let other : b ≡ y = cc in subst (λ z. R z y) same (subst (R a) other h.0)
both_at R (a ∷ xs) (b ∷ ys) (suc i) x y h e k = both_at R xs ys i x y h.1 e k

-- the entry at a place has what all have
pub each_at : {A : Type 0} (P : A → Type 0) (xs : List A) (i : ℕ) (x : A) → AllByRecursion P xs → slice_get xs i ≡ Some x → P x
each_at P [] i x h e = absurd cc
each_at P (y ∷ xs) zero x h e = let same : y ≡ x = cc in subst P same h.0
each_at P (y ∷ xs) (suc i) x h e = each_at P xs i x h.1 e

pub one_passes : {A : Type 0} (f : A → Bool) (xs : List A) (i : ℕ) (x : A) → list_all f xs ≡ true → slice_get xs i ≡ Some x → f x ≡ true
one_passes f [] i x h e = absurd cc
one_passes f (y ∷ xs) zero x h e = let same : y ≡ x = cc in subst (λ z. f z ≡ true) same (and_parts (f y) (list_all f xs) h).0
one_passes f (y ∷ xs) (suc i) x h e = one_passes f xs i x (and_parts (f y) (list_all f xs) h).1 e

-- an entry that ranks lower lowers the sum
pub sum_falls : {A B : Type 0} (f : A → B → ℕ) (xs : List A) (ys : List B) (i : ℕ) (x : A) (y z : B) → slice_get xs i ≡ Some x → slice_get ys i ≡ Some y → f x z < f x y → zip_sum f xs (slice_set ys i z) < zip_sum f xs ys
sum_falls f [] ys i x y z h k l = absurd cc
sum_falls f (a ∷ xs) [] i x y z h k l = absurd cc
sum_falls f (a ∷ xs) (b ∷ ys) zero x y z h k l =
    let same : a ≡ x = cc in
    let other : b ≡ y = cc in
    let first : f a z < f a b = subst (λ v. f v z < f v b) (sym same) (subst (λ w. f x z < f x w) (sym other) l) in
    omega (arith, first)
sum_falls f (a ∷ xs) (b ∷ ys) (suc i) x y z h k l = omega (arith, sum_falls f xs ys i x y z h k l)

pub same_some : {A : Type 0} {x y : A} → Some x ≡ Some y → x ≡ y
same_some e = cc

-- what two facts of a result give together
pub both_ok : {T E : Type 0} (r : Result T E) (P Q R : T → Type 0) → ((v : T) → P v → Q v → R v) → IfOk r P → IfOk r Q → IfOk r R
both_ok (Ok v) P Q R f p q = f v p q
both_ok (Err e) P Q R f p q = tt

-- what the first option has, the second has too, in this relation
abbrev pub Matches : {A B : Type 0} → (A → B → Type 0) → Option A → Option B → Type 0
Matches R None p = Unit {0}
Matches R (Some x) None = ⊥
Matches R (Some x) (Some y) = R x y

pub matches_then : {A B C E : Type 0} (R : A → B → Type 0) (S : C → E → Type 0) (f : A → Option C) (g : B → Option E) → ((x : A) (y : B) → R x y → Matches S (f x) (g y)) → (o : Option A) (p : Option B) → Matches R o p → Matches S (option_and_then f o) (option_and_then g p)
matches_then R S f g step None p h = tt
matches_then R S f g step (Some x) None h = absurd h
matches_then R S f g step (Some x) (Some y) h = step x y h

pub matches_map : {A B C E : Type 0} (R : A → B → Type 0) (S : C → E → Type 0) (f : A → C) (g : B → E) → ((x : A) (y : B) → R x y → S (f x) (g y)) → (o : Option A) (p : Option B) → Matches R o p → Matches S (option_map f o) (option_map g p)
matches_map R S f g step None p h = tt
matches_map R S f g step (Some x) None h = absurd h
matches_map R S f g step (Some x) (Some y) h = step x y h

pub matches_all : {A B C : Type 0} (R : B → C → Type 0) (f : A → Option B) (g : A → Option C) → ((a : A) → Matches R (f a) (g a)) → (xs : List A) → Matches (AllZip R) (all_of f xs) (all_of g xs)
matches_all R f g step [] = tt
matches_all R f g step (x ∷ xs) =
    matches_then R (AllZip R) _ _ (λ b c r. matches_map (AllZip R) (AllZip R) (λ ys. b ∷ ys) (λ ys. c ∷ ys) (λ ys zs p. (r, p)) (all_of f xs) (all_of g xs) (matches_all R f g step xs)) (f x) (g x) (step x)

-- what an option has, if anything, has this
abbrev pub IfThere : {A : Type 0} → (A → Type 0) → Option A → Type 0
IfThere P None = Unit {0}
IfThere P (Some x) = P x

-- all that are there have what each of them has at its place
pub all_there : {A B C : Type 0} (Q : C → B → Type 0) (f : A → Option B) (ss : List C) (xs : List A) → AllZip (λ s x. IfThere (Q s) (f x)) ss xs → IfThere (AllZip Q ss) (all_of f xs)
all_there Q f [] [] h = tt
all_there Q f [] (x ∷ xs) h = absurd h
all_there Q f (s ∷ ss) [] h = absurd h
all_there Q f (s ∷ ss) (x ∷ xs) h = both (f x) (all_of f xs) h.0 (all_there Q f ss xs h.1)
  where
    both : (o : Option _) (os : Option (List _)) → IfThere (Q s) o → IfThere (AllZip Q ss) os → IfThere (AllZip Q (s ∷ ss)) (option_and_then (λ y. option_map (λ ys. y ∷ ys) os) o)
    both None os a b = tt
    both (Some y) None a b = tt
    both (Some y) (Some ys) a b = (a, b)

-- pairs by a test and by the relation that it is true
pub pairs_from : {A B : Type 0} (f : A → B → Bool) (xs : List A) (ys : List B) → AllZip (λ x y. f x y ≡ true) xs ys → pointwise f xs ys ≡ true
pairs_from f [] [] h = refl
pairs_from f [] (y ∷ ys) h = absurd h
pairs_from f (x ∷ xs) [] h = absurd h
pairs_from f (x ∷ xs) (y ∷ ys) h = and_from _ _ h.0 (pairs_from f xs ys h.1)

pub pairs_to : {A B : Type 0} (f : A → B → Bool) (xs : List A) (ys : List B) → pointwise f xs ys ≡ true → AllZip (λ x y. f x y ≡ true) xs ys
pairs_to f [] [] h = tt
pairs_to f [] (y ∷ ys) h = absurd cc
pairs_to f (x ∷ xs) [] h = absurd cc
pairs_to f (x ∷ xs) (y ∷ ys) h = let p = and_parts _ _ h in (p.0, pairs_to f xs ys p.1)

pub zip_more : {A B : Type 0} (R S : A → B → Type 0) → ((x : A) (y : B) → R x y → S x y) → (xs : List A) (ys : List B) → AllZip R xs ys → AllZip S xs ys
zip_more R S step [] [] h = tt
zip_more R S step [] (y ∷ ys) h = absurd h
zip_more R S step (x ∷ xs) [] h = absurd h
zip_more R S step (x ∷ xs) (y ∷ ys) h = (step x y h.0, zip_more R S step xs ys h.1)
