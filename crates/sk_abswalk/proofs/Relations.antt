-- Relations of lists and of options, and facts on the end of a walk.
use Rattle.std.proofs.Common.{◌≡◌, ℕ, zero, suc, ◌+◌, ◌<◌, ◌≤◌, Bool, true, List, [], ◌∷◌, ◌++◌, length, Option, Some, None, refl, subst, arith, ◌⊎◌, inl, inr}
use Rattle.std.specs.Prelude.{slice_get, slice_set, unwrap_or}
use Rattle.std.specs.List.{AllByRecursion, AllZip}
use Rattle.std.specs.Option.{option_map, option_and_then}
use Rattle.std.proofs.lemmas.Bool.{and_parts, and_from, cases_eq}
use lib.Pointwise.{pointwise}
use Rattle.sk_def.specs.Layout.{branch_places}
use Rattle.sk_deriv.specs.Env.{all_of}
use Rattle.sk_abswalk.specs.Walk.{Ends, uncovered, ill, with, Walk, go_on, in_world}

-- Lists.

pub zip_set : {A B : Type 0} (R : A → B → Type 0) (xs : List A) (ys : List B) (i : ℕ) (x : A) (y : B) → AllZip R xs ys → R x y → AllZip R (slice_set xs i x) (slice_set ys i y)
zip_set R [] [] i x y h r = tt
zip_set R [] (b ∷ ys) i x y h r = absurd h
zip_set R (a ∷ xs) [] i x y h r = absurd h
zip_set R (a ∷ xs) (b ∷ ys) zero x y h r = (r, h.1)
zip_set R (a ∷ xs) (b ∷ ys) (suc i) x y h r = (h.0, zip_set R xs ys i x y h.1 r)

pub zip_turned : {A B : Type 0} (R : A → B → Type 0) (xs : List A) (ys : List B) → AllZip R xs ys → AllZip (λ y x. R x y) ys xs
zip_turned R [] [] h = tt
zip_turned R [] (y ∷ ys) h = absurd h
zip_turned R (x ∷ xs) [] h = absurd h
zip_turned R (x ∷ xs) (y ∷ ys) h = (h.0, zip_turned R xs ys h.1)

pub zip_more : {A B : Type 0} (R S : A → B → Type 0) → ((x : A) (y : B) → R x y → S x y) → (xs : List A) (ys : List B) → AllZip R xs ys → AllZip S xs ys
zip_more R S step [] [] h = tt
zip_more R S step [] (y ∷ ys) h = absurd h
zip_more R S step (x ∷ xs) [] h = absurd h
zip_more R S step (x ∷ xs) (y ∷ ys) h = (step x y h.0, zip_more R S step xs ys h.1)

-- pairs by a test and by the relation that it is true
pub zip_from_test : {A B : Type 0} (f : A → B → Bool) (xs : List A) (ys : List B) → pointwise f xs ys ≡ true → AllZip (λ x y. f x y ≡ true) xs ys
zip_from_test f [] [] h = tt
zip_from_test f [] (y ∷ ys) h = absurd cc
zip_from_test f (x ∷ xs) [] h = absurd cc
zip_from_test f (x ∷ xs) (y ∷ ys) h = let p = and_parts _ _ h in (p.0, zip_from_test f xs ys p.1)

pub test_from_zip : {A B : Type 0} (f : A → B → Bool) (xs : List A) (ys : List B) → AllZip (λ x y. f x y ≡ true) xs ys → pointwise f xs ys ≡ true
test_from_zip f [] [] h = refl
test_from_zip f [] (y ∷ ys) h = absurd h
test_from_zip f (x ∷ xs) [] h = absurd h
test_from_zip f (x ∷ xs) (y ∷ ys) h = and_from _ _ h.0 (test_from_zip f xs ys h.1)

-- the entry at a place has what all have
pub each_at : {A : Type 0} (P : A → Type 0) (xs : List A) (k : ℕ) (x : A) → AllByRecursion P xs → slice_get xs k ≡ Some x → P x
each_at P [] k x h e = absurd cc
each_at P (y ∷ xs) zero x h e = let same : y ≡ x = cc in subst P same h.0
each_at P (y ∷ xs) (suc k) x h e = each_at P xs k x h.1 e

pub each_set : {A : Type 0} (P : A → Type 0) (xs : List A) (i : ℕ) (x : A) → AllByRecursion P xs → P x → AllByRecursion P (slice_set xs i x)
each_set P [] i x h p = tt
each_set P (y ∷ xs) zero x h p = (p, h.1)
each_set P (y ∷ xs) (suc i) x h p = (h.0, each_set P xs i x h.1 p)

pub each_append : {A : Type 0} (P : A → Type 0) (xs ys : List A) → AllByRecursion P xs → AllByRecursion P ys → AllByRecursion P (xs ++ ys)
each_append P [] ys h k = k
each_append P (x ∷ xs) ys h k = (h.0, each_append P xs ys h.1 k)

pub each_split : {A : Type 0} (P : A → Type 0) (xs ys : List A) → AllByRecursion P (xs ++ ys) → AllByRecursion P xs × AllByRecursion P ys
each_split P [] ys h = (tt, h)
each_split P (x ∷ xs) ys h = let p = each_split P xs ys h.1 in ((h.0, p.0), p.1)

pub each_more : {A : Type 0} (P Q : A → Type 0) → ((x : A) → P x → Q x) → (xs : List A) → AllByRecursion P xs → AllByRecursion Q xs
each_more P Q step [] h = tt
each_more P Q step (x ∷ xs) h = (step x h.0, each_more P Q step xs h.1)

-- a place stands in a list of places
abbrev pub IsIn : ℕ → List ℕ → Type 0
IsIn k [] = ⊥
IsIn k (n ∷ ns) = (k ≡ n) ⊎ IsIn k ns

pub in_places : (i k : ℕ) (counts : List ℕ) → i ≤ k → k < i + length counts → IsIn k (branch_places i counts)
in_places i k [] low high = absurd (omega arith)
in_places i k (count ∷ counts) low high =
    elim (cases_eq k i) [
      | inl same ↦ inl same
      | inr other ↦ inr (in_places (i + 1) k counts (omega arith) (omega arith))
    ]

-- Options.

-- what is there in the first option is there in the second, and the relation holds of both
abbrev pub Matches : {A B : Type 0} → (A → B → Type 0) → Option A → Option B → Type 0
Matches R None p = Unit {0}
Matches R (Some x) None = ⊥
Matches R (Some x) (Some y) = R x y

pub matches_then : {A B C E : Type 0} (R : A → B → Type 0) (S : C → E → Type 0) (f : A → Option C) (g : B → Option E) → ((x : A) (y : B) → R x y → Matches S (f x) (g y)) → (o : Option A) (p : Option B) → Matches R o p → Matches S (option_and_then f o) (option_and_then g p)
matches_then R S f g step None p h = tt
matches_then R S f g step (Some x) None h = absurd h
matches_then R S f g step (Some x) (Some y) h = step x y h

pub matches_map : {A B C E : Type 0} (R : A → B → Type 0) (S : C → E → Type 0) (f : A → C) (g : B → E) → ((x : A) (y : B) → R x y → S (f x) (g y)) → (o : Option A) (p : Option B) → Matches R o p → Matches S (option_map f o) (option_map g p)
matches_map R S f g step None p h = tt
matches_map R S f g step (Some x) None h = absurd h
matches_map R S f g step (Some x) (Some y) h = step x y h

pub matches_all : {A B C : Type 0} (R : B → C → Type 0) (f : A → Option B) (g : A → Option C) → ((a : A) → Matches R (f a) (g a)) → (xs : List A) → Matches (AllZip R) (all_of f xs) (all_of g xs)
matches_all R f g step [] = tt
matches_all R f g step (x ∷ xs) =
    matches_then R (AllZip R) _ _ (λ b c r. matches_map (AllZip R) (AllZip R) (λ ys. b ∷ ys) (λ ys. c ∷ ys) (λ ys zs p. (r, p)) (all_of f xs) (all_of g xs) (matches_all R f g step xs)) (f x) (g x) (step x)

pub matches_at : {A B : Type 0} (R : A → B → Type 0) (xs : List (Option A)) (ys : List (Option B)) (i : ℕ) → AllZip (Matches R) xs ys → Matches R (unwrap_or (slice_get xs i) None) (unwrap_or (slice_get ys i) None)
matches_at R [] [] i h = tt
matches_at R [] (y ∷ ys) i h = absurd h
matches_at R (x ∷ xs) [] i h = absurd h
matches_at R (x ∷ xs) (y ∷ ys) zero h = h.0
matches_at R (x ∷ xs) (y ∷ ys) (suc i) h = matches_at R xs ys i h.1

-- it holds of what is there
abbrev pub IfThere : {X : Type 0} → (X → Type 0) → Option X → Type 0
IfThere R None = Unit {0}
IfThere R (Some x) = R x

-- something is there, and it holds of that
abbrev pub Has : {X : Type 0} → (X → Type 0) → Option X → Type 0
Has R None = ⊥
Has R (Some x) = R x

-- Ends of walks.

-- a fact on the end of a walk that got there
abbrev pub Holds : {D X : Type 0} → (Option X → Type 0) → Ends D X → Type 0
Holds P (uncovered c) = Unit {0}
Holds P ill = Unit {0}
Holds P (with o) = P o

pub holds_after : {D X Y : Type 0} (P : Option X → Type 0) (Q : Option Y → Type 0) (asked : List _) (ends : Ends D X) (next : Option X → Walk D Y) → Holds P ends → ((o : Option X) → P o → Holds Q (next o).ends) → Holds Q (go_on asked ends next).ends
holds_after P Q asked (uncovered c) next h step = tt
holds_after P Q asked ill next h step = tt
holds_after P Q asked (with o) next h step = step o h

pub holds_after_world : {D X Y : Type 0} (R : X → Type 0) (Q : Option Y → Type 0) (asked : List _) (ends : Ends D X) (next : X → Walk D Y) → Holds (Has R) ends → ((x : X) → R x → Holds Q (next x).ends) → Holds Q (go_on asked ends (in_world next)).ends
holds_after_world R Q asked (uncovered c) next h step = tt
holds_after_world R Q asked ill next h step = tt
holds_after_world R Q asked (with None) next h step = absurd h
holds_after_world R Q asked (with (Some x)) next h step = step x h
