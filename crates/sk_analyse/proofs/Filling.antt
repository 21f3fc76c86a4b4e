-- Slots that are filled key by key.
use Rattle.std.proofs.Common.{◌≡◌, ℕ, ◌+◌, ◌<◌, true, false, ◌||◌, List, ◌∷◌, drop, get_or, length, ◌∙◌, ap, subst, inl, inr}
use Rattle.std.specs.Prelude.{if◌then◌else◌}
use Rattle.std.specs.List.{list_any}
use Rattle.std.proofs.lemmas.Bool.{cases_Bool, cond-true, cond-false, both_ways, false_from_ne_true}
use Rattle.std.proofs.lemmas.List.{drop_more}
use Rattle.sk_abswalk.specs.Reading.{Key, same_key}
use Rattle.sk_abswalk.proofs.Keys.{same_key_refl, same_key_only}

-- every key that isn't left to come has its side
abbrev pub Filled : {X : Type 0} → (Key → X) → (Key → X) → List Key → Type 0
Filled f side rest = (k : Key) → list_any (same_key k) rest ≡ false → side k ≡ f k

other_way : (j k : Key) → same_key j k ≡ false → same_key k j ≡ false
other_way j k n = false_from_ne_true (same_key k j) (λ e. both_ways (same_key j k) n (subst (λ i. same_key i k ≡ true) (same_key_only k j e) (same_key_refl k)))

-- one more has it
pub fills : {X : Type 0} (f side next : Key → X) (j : Key) (rest : List Key) (x : X) → ((k : Key) → next k ≡ (if same_key j k then x else side k)) → x ≡ f j → Filled f side (j ∷ rest) → Filled f next rest
fills f side next j rest x written is h k n =
    elim (cases_Bool (same_key j k)) [
      | inl y ↦ written k ∙ cond-true (same_key j k) x (side k) y ∙ is ∙ ap f (same_key_only j k y)
      | inr o ↦ written k ∙ cond-false (same_key j k) x (side k) o ∙ h k (ap (λ b. b || list_any (same_key k) rest) (other_way j k o) ∙ n)
    ]

-- the next key, and those that are left
pub key_split : (items list : List Key) (i : ℕ) (k : Key) → items ≡ list → i < length items → drop i list ≡ get_or items i k ∷ drop (i + 1) list
key_split items list i k e lt = subst (λ l. drop i l ≡ get_or items i k ∷ drop (i + 1) l) e (drop_more items i k lt)
