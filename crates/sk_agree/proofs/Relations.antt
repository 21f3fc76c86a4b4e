-- Relations of lists and of options.
use Rattle.std.proofs.Common.{◌≡◌, ℕ, zero, suc, Bool, true, List, [], ◌∷◌, ◌++◌, length, map, filter_map, Option, Some, None, refl, ap, subst}
use Rattle.std.specs.Prelude.{slice_get, slice_set, unwrap_or}
use Rattle.std.specs.List.{AllZip, list_all, cons_option}
use Rattle.std.specs.Option.{option_map, option_and_then}
use Rattle.std.proofs.lemmas.Bool.{and_parts, and_from}
use lib.Pointwise.{pointwise}
use Rattle.sk_deriv.specs.Env.{all_of}

-- Lists.

pub zip_set : {A B : Type 0} (R : A → B → Type 0) (xs : List A) (ys : List B) (i : ℕ) (x : A) (y : B) → AllZip R xs ys → R x y → AllZip R (slice_set xs i x) (slice_set ys i y)
zip_set R [] [] i x y h r = tt
zip_set R [] (b ∷ ys) i x y h r = absurd h
zip_set R (a ∷ xs) [] i x y h r = absurd h
zip_set R (a ∷ xs) (b ∷ ys) zero x y h r = (r, h.1)
zip_set R (a ∷ xs) (b ∷ ys) (suc i) x y h r = (h.0, zip_set R xs ys i x y h.1 r)

pub zip_more : {A B : Type 0} (R S : A → B → Type 0) → ((x : A) (y : B) → R x y → S x y) → (xs : List A) (ys : List B) → AllZip R xs ys → AllZip S xs ys
zip_more R S step [] [] h = tt
zip_more R S step [] (y ∷ ys) h = absurd h
zip_more R S step (x ∷ xs) [] h = absurd h
zip_more R S step (x ∷ xs) (y ∷ ys) h = (step x y h.0, zip_more R S step xs ys h.1)

pub zip_append : {A B : Type 0} (R : A → B → Type 0) (xs : List A) (ys : List B) (us : List A) (vs : List B) → AllZip R xs ys → AllZip R us vs → AllZip R (xs ++ us) (ys ++ vs)
zip_append R [] [] us vs h k = k
zip_append R [] (y ∷ ys) us vs h k = absurd h
zip_append R (x ∷ xs) [] us vs h k = absurd h
zip_append R (x ∷ xs) (y ∷ ys) us vs h k = (h.0, zip_append R xs ys us vs h.1 k)

-- pairs by a test and by the relation that it is true
pub zip_from_test : {A B : Type 0} (f : A → B → Bool) (xs : List A) (ys : List B) → pointwise f xs ys ≡ true → AllZip (λ x y. f x y ≡ true) xs ys
zip_from_test f [] [] h = tt
zip_from_test f [] (y ∷ ys) h = absurd cc
zip_from_test f (x ∷ xs) [] h = absurd cc
zip_from_test f (x ∷ xs) (y ∷ ys) h = let p = and_parts _ _ h in (p.0, zip_from_test f xs ys p.1)

pub test_from_zip : {A B : Type 0} (f : A → B → Bool) (xs : List A) (ys : List B) → AllZip (λ x y. f x y ≡ true) xs ys → pointwise f xs ys ≡ true
test_from_zip f [] [] h = refl
test_from_zip f [] (y ∷ ys) h = absurd h
test_from_zip f (x ∷ xs) [] h = absurd h
test_from_zip f (x ∷ xs) (y ∷ ys) h = and_from _ _ h.0 (test_from_zip f xs ys h.1)

pub same_from_zip : {A : Type 0} (xs ys : List A) → AllZip (λ (x y : A). x ≡ y) xs ys → xs ≡ ys
same_from_zip [] [] h = refl
same_from_zip [] (y ∷ ys) h = absurd h
same_from_zip (x ∷ xs) [] h = absurd h
same_from_zip (x ∷ xs) (y ∷ ys) h = λ i. h.0 i ∷ same_from_zip xs ys h.1 i

pub zip_same : {A : Type 0} (R : A → A → Type 0) → ((x : A) → R x x) → (xs : List A) → AllZip R xs xs
zip_same R step [] = tt
zip_same R step (x ∷ xs) = (step x, zip_same R step xs)

-- what f gives at the entries of the first list stands in the second
pub zip_from_map : {A B : Type 0} (f : A → Option B) (xs : List A) (ys : List B) → map f xs ≡ map Some ys → AllZip (λ x y. f x ≡ Some y) xs ys
zip_from_map f [] [] e = tt
zip_from_map f [] (y ∷ ys) e = absurd cc
zip_from_map f (x ∷ xs) [] e = absurd cc
zip_from_map f (x ∷ xs) (y ∷ ys) e = let first : f x ≡ Some y = cc in let rest : map f xs ≡ map Some ys = cc in (first, zip_from_map f xs ys rest)

-- tests of lists put together
pub list_all_parts : {A : Type 0} (test : A → Bool) (xs ys : List A) → list_all test (xs ++ ys) ≡ true → (list_all test xs ≡ true) × (list_all test ys ≡ true)
list_all_parts test [] ys h = (refl, h)
list_all_parts test (x ∷ xs) ys h = let p = and_parts _ _ h in let q = list_all_parts test xs ys p.1 in (and_from _ _ p.0 q.0, q.1)

pub list_all_both : {A : Type 0} (test : A → Bool) (xs ys : List A) → list_all test xs ≡ true → list_all test ys ≡ true → list_all test (xs ++ ys) ≡ true
list_all_both test [] ys h k = k
list_all_both test (x ∷ xs) ys h k = let p = and_parts _ _ h in and_from _ _ p.0 (list_all_both test xs ys p.1 k)

-- Options.

-- what is there in the first option is there in the second, and the relation holds of both
abbrev pub Matches : {A B : Type 0} → (A → B → Type 0) → Option A → Option B → Type 0
Matches R None p = Unit {0}
Matches R (Some x) None = ⊥
Matches R (Some x) (Some y) = R x y

-- it holds of what is there
abbrev pub IfThere : {X : Type 0} → (X → Type 0) → Option X → Type 0
IfThere R None = Unit {0}
IfThere R (Some x) = R x

-- something is there, and it holds of that
abbrev pub Has : {X : Type 0} → (X → Type 0) → Option X → Type 0
Has R None = ⊥
Has R (Some x) = R x

pub matches_then : {A B C E : Type 0} (R : A → B → Type 0) (S : C → E → Type 0) (f : A → Option C) (g : B → Option E) → ((x : A) (y : B) → R x y → Matches S (f x) (g y)) → (o : Option A) (p : Option B) → Matches R o p → Matches S (option_and_then f o) (option_and_then g p)
matches_then R S f g step None p h = tt
matches_then R S f g step (Some x) None h = absurd h
matches_then R S f g step (Some x) (Some y) h = step x y h

pub matches_map : {A B C E : Type 0} (R : A → B → Type 0) (S : C → E → Type 0) (f : A → C) (g : B → E) → ((x : A) (y : B) → R x y → S (f x) (g y)) → (o : Option A) (p : Option B) → Matches R o p → Matches S (option_map f o) (option_map g p)
matches_map R S f g step None p h = tt
matches_map R S f g step (Some x) None h = absurd h
matches_map R S f g step (Some x) (Some y) h = step x y h

pub matches_at : {A B : Type 0} (R : A → B → Type 0) (xs : List (Option A)) (ys : List (Option B)) (i : ℕ) → AllZip (Matches R) xs ys → Matches R (unwrap_or (slice_get xs i) None) (unwrap_or (slice_get ys i) None)
matches_at R [] [] i h = tt
matches_at R [] (y ∷ ys) i h = absurd h
matches_at R (x ∷ xs) [] i h = absurd h
matches_at R (x ∷ xs) (y ∷ ys) zero h = h.0
matches_at R (x ∷ xs) (y ∷ ys) (suc i) h = matches_at R xs ys i h.1

-- What f gives at all entries, and what is read at what g gives there.
module _ {A B C O : Type 0} (Q : B → C → Type 0) (f : A → Option B) (g : A → Option O) (read : O → Option C) (step : (x : A) → Matches (λ b o. Has (Q b) (read o)) (f x) (g x)) where
  all_read_at : (o : Option B) (p : Option O) (os : Option (List B)) (rest : List O) → Matches (λ b o. Has (Q b) (read o)) o p → Matches (AllZip Q) os (all_of read rest) →
      Matches (AllZip Q) (option_and_then (λ y. option_map (λ ys. y ∷ ys) os) o) (all_of read (cons_option p rest))
  all_read_at None p os rest h k = tt
  all_read_at (Some b) None os rest h k = absurd h
  all_read_at (Some b) (Some o) os rest h k = at (read o) h
    where
      at : (r : Option C) → Has (Q b) r → Matches (AllZip Q) (option_map (λ ys. b ∷ ys) os) (option_and_then (λ y. option_map (λ ys. y ∷ ys) (all_of read rest)) r)
      at None h = absurd h
      at (Some c) h = matches_map (AllZip Q) (AllZip Q) (λ ys. b ∷ ys) (λ ys. c ∷ ys) (λ xs ys z. (h, z)) os (all_of read rest) k

  pub all_read : (xs : List A) → Matches (AllZip Q) (all_of f xs) (all_of read (filter_map g xs))
  all_read [] = tt
  all_read (x ∷ xs) = all_read_at (f x) (g x) (all_of f xs) (filter_map g xs) (step x) (all_read xs)

-- as many as there are entries
pub all_of_long : {A B : Type 0} (f : A → Option B) (xs : List A) (ys : List B) → all_of f xs ≡ Some ys → length ys ≡ length xs
all_of_long f [] [] e = refl
all_of_long f [] (y ∷ ys) e = absurd cc
all_of_long {A} {B} f (x ∷ xs) ys e = at (f x) (all_of f xs) (all_of_long f xs) refl e
  where
    at : (o : Option B) (os : Option (List B)) → ((zs : List B) → all_of f xs ≡ Some zs → length zs ≡ length xs) → all_of f xs ≡ os → option_and_then (λ y. option_map (λ ys. y ∷ ys) os) o ≡ Some ys → length ys ≡ suc (length xs)
    at None os step k e = absurd cc
    at (Some y) None step k e = absurd cc
    at (Some y) (Some zs) step k e = let same : y ∷ zs ≡ ys = cc in subst (λ l. length l ≡ suc (length xs)) same (ap suc (step zs k))
