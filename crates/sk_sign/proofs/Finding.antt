-- The first entry that passes a test, place by place.
use Rattle.std.proofs.Common.{◌≡◌, ℕ, suc, ◌+◌, ◌<◌, Bool, true, false, cond, List, length, get_or, drop, Option, Some, sym, ap, ◌∙◌, add-one, drop-cons}
use Rattle.std.specs.Prelude.{find}

find_at : {A : Type 0} (p : A → Bool) (xs : List A) (at : ℕ) (d : A) → at < length xs → find p (drop at xs) ≡ cond (p (get_or xs at d)) (Some (get_or xs at d)) (find p (drop (suc at) xs))
find_at p xs at d h = ap (find p) (drop-cons xs at d h)

pub find_hit : {A : Type 0} (p : A → Bool) (xs : List A) (at : ℕ) (d : A) → at < length xs → find p xs ≡ find p (drop at xs) → p (get_or xs at d) ≡ true → Some (get_or xs at d) ≡ find p xs
find_hit p xs at d h same t = sym (same ∙ find_at p xs at d h ∙ ap (λ b. cond b (Some (get_or xs at d)) (find p (drop (suc at) xs))) t)

pub find_miss : {A : Type 0} (p : A → Bool) (xs : List A) (at : ℕ) (d : A) → at < length xs → find p xs ≡ find p (drop at xs) → p (get_or xs at d) ≡ false → find p xs ≡ find p (drop (at + 1) xs)
find_miss p xs at d h same t = rw add-one (same ∙ find_at p xs at d h ∙ ap (λ b. cond b (Some (get_or xs at d)) (find p (drop (suc at) xs))) t)
