-- Lists of lists.
use Rattle.std.proofs.Common.{◌≡◌, List, [], ◌∷◌, ◌++◌, map, refl, ap, ap₂, ◌∙◌, append-nil}
use Rattle.std.specs.List.{flat_map}
use Rattle.std.proofs.lemmas.List.{map-append}
use Rattle.std.proofs.lemmas.List.Concat.{flat_map-append}

pub map-flat_map : {A B C : Type 0} (g : B → C) (f : A → List B) (xs : List A) → map g (flat_map f xs) ≡ flat_map (λ x. map g (f x)) xs
map-flat_map g f [] = refl
map-flat_map g f (x ∷ xs) = map-append g (f x) (flat_map f xs) ∙ ap (λ ys. map g (f x) ++ ys) (map-flat_map g f xs)

pub flat_map-flat_map : {A B C : Type 0} (g : B → List C) (f : A → List B) (xs : List A) → flat_map g (flat_map f xs) ≡ flat_map (λ x. flat_map g (f x)) xs
flat_map-flat_map g f [] = refl
flat_map-flat_map g f (x ∷ xs) = flat_map-append g (f x) (flat_map f xs) ∙ ap (λ ys. flat_map g (f x) ++ ys) (flat_map-flat_map g f xs)

pub flat_map-cong : {A B : Type 0} (f g : A → List B) → ((x : A) → f x ≡ g x) → (xs : List A) → flat_map f xs ≡ flat_map g xs
flat_map-cong f g e [] = refl
flat_map-cong f g e (x ∷ xs) = ap₂ (λ a b. a ++ b) (e x) (flat_map-cong f g e xs)

pub map-cong : {A B : Type 0} (f g : A → B) → ((x : A) → f x ≡ g x) → (xs : List A) → map f xs ≡ map g xs
map-cong f g e [] = refl
map-cong {A} {B} f g e (x ∷ xs) = ap₂ (λ (a : B). λ (b : List B). a ∷ b) (e x) (map-cong f g e xs)

pub map-same : {A : Type 0} (f : A → A) → ((x : A) → f x ≡ x) → (xs : List A) → map f xs ≡ xs
map-same f e [] = refl
map-same {A} f e (x ∷ xs) = ap₂ (λ (a : A). λ (b : List A). a ∷ b) (e x) (map-same f e xs)

pub flat_map_one : {A B : Type 0} (f : A → List B) (x : A) → flat_map f (x ∷ []) ≡ f x
flat_map_one f x = append-nil (f x)
