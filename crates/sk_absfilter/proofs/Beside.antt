-- Lists of which each entry stands beside one of a short list.
use Rattle.std.proofs.Common.{List, [], ◌∷◌}
use Rattle.std.specs.List.{AllZip}

pub beside_one : {A B : Type 0} (R : A → B → Type 0) (P : List A → Type 0) (u : B) → ((a : A) → R a u → P (a ∷ [])) → (xs : List A) → AllZip R xs (u ∷ []) → P xs
beside_one R P u k [] h = absurd h
beside_one R P u k (a ∷ []) h = k a h.0
beside_one R P u k (a ∷ b ∷ xs) h = absurd h.1

pub beside_two : {A B : Type 0} (R : A → B → Type 0) (P : List A → Type 0) (u v : B) → ((a b : A) → R a u → R b v → P (a ∷ b ∷ [])) → (xs : List A) → AllZip R xs (u ∷ v ∷ []) → P xs
beside_two R P u v k [] h = absurd h
beside_two R P u v k (a ∷ xs) h = beside_one R (λ r. P (a ∷ r)) v (λ b r. k a b h.0 r) xs h.1

pub beside_three : {A B : Type 0} (R : A → B → Type 0) (P : List A → Type 0) (u v w : B) → ((a b c : A) → R a u → R b v → R c w → P (a ∷ b ∷ c ∷ [])) → (xs : List A) → AllZip R xs (u ∷ v ∷ w ∷ []) → P xs
beside_three R P u v w k [] h = absurd h
beside_three R P u v w k (a ∷ xs) h = beside_two R (λ r. P (a ∷ r)) v w (λ b c r s. k a b c h.0 r s) xs h.1

pub flipped : {A B : Type 0} (R : A → B → Type 0) (xs : List A) (ys : List B) → AllZip R xs ys → AllZip (λ y x. R x y) ys xs
flipped R [] [] h = tt
flipped R [] (y ∷ ys) h = absurd h
flipped R (x ∷ xs) [] h = absurd h
flipped R (x ∷ xs) (y ∷ ys) h = (h.0, flipped R xs ys h.1)
