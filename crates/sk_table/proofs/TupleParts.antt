-- Flows that are moved into a tuple one by one.
use Rattle.std.proofs.Common.{◌≡◌, Bool, true, false, List, [], ◌∷◌, ◌++◌, refl, ap, ◌∙◌, sym, append_assoc}
use Rattle.std.specs.Prelude.{◌&&◌, ◌||◌}
use Rattle.std.specs.List.{list_all, list_any}

parts : (a b : Bool) → a && b ≡ true → (a ≡ true) × (b ≡ true)
parts true b h = (refl, h)
parts false b h = absurd (cc)

pub rest_clean : {A : Type 0} (p : A → Bool) (xs ys : List A) (x : A) → xs ≡ x ∷ ys → list_all p xs ≡ true → list_all p ys ≡ true
rest_clean p xs ys x e h = (parts (p x) (list_all p ys) (sym (ap (list_all p) e) ∙ h)).1

both_false : (b c e : Bool) → b || c ≡ false → (c ≡ false → e ≡ false) → b || e ≡ false
both_false true c e h k = absurd (cc)
both_false false c e h k = k h

none_in : {A : Type 0} (p : A → Bool) (xs : List A) (x : A) → list_any p xs ≡ false → p x ≡ false → list_any p (xs ++ x ∷ []) ≡ false
none_in p [] x h k = rw k refl
none_in p (first ∷ xs) x h k = both_false (p first) _ _ h (λ later. none_in p xs x later k)

pub none_more : {A : Type 0} (p : A → Bool) (xs now : List A) (x : A) → list_any p xs ≡ false → p x ≡ false → now ≡ xs ++ x ∷ [] → list_any p now ≡ false
none_more p xs now x h k e = ap (list_any p) e ∙ none_in p xs x h k

pub moved : {A : Type 0} (front now rest later all : List A) (x : A) → front ++ rest ≡ all → rest ≡ x ∷ later → now ≡ front ++ x ∷ [] → now ++ later ≡ all
moved front now rest later all x h e k = ap (λ l. l ++ later) k ∙ append_assoc front (x ∷ []) later ∙ ap (λ l. front ++ l) (sym e) ∙ h
