-- The first entry that fails a test.
use Rattle.std.proofs.Common.{◌≡◌, ℕ, ◌+◌, Bool, true, false, not, cond, List, [], ◌∷◌, ◌++◌, length, Option, Some, refl, ap, subst, ◌∙◌, arith}
use Rattle.std.specs.Prelude.{find, All}
use Rattle.std.specs.List.{enumerate_from}
use Rattle.std.proofs.lemmas.Option.{same_Some}
use Rattle.std.proofs.lemmas.List.Elements.{All-head, All-tail, All-nil, All-cons}
use Rattle.sk_reasons.specs.Noes.{FirstFails}

module _ {A : Type 0} (test : A → Bool) where
  abbrev found : ℕ → List A → Option (ℕ × A)
  found n xs = find (λ e. not (test e.1)) (enumerate_from n xs)

  abbrev passes : A → Type 0
  passes y = test y ≡ true

  -- the same from any number on
  record FailsFrom (n : ℕ) (xs : List A) (number : ℕ) (x : A) : Type 0 where
    before : List A
    after : List A
    entries_are : xs ≡ before ++ x ∷ after
    number_is : number ≡ n + length before
    others_pass : All passes before
    fails : test x ≡ false

  fails_from : (n : ℕ) (xs : List A) (number : ℕ) (x : A) → found n xs ≡ Some (number, x) → FailsFrom n xs number x
  fails_from n [] number x e = absurd (cc e)
  fails_from n (y ∷ xs) number x e = by (test y) refl (fails_from (n + 1) xs number x) e where
    by : (b : Bool) → test y ≡ b → (found (n + 1) xs ≡ Some (number, x) → FailsFrom (n + 1) xs number x) → cond (not b) (Some (n, y)) (found (n + 1) xs) ≡ Some (number, x) → FailsFrom n (y ∷ xs) number x
    by false t inner e =
        let pair = same_Some (n, y) (number, x) e in
        let same : y ≡ x = ap (λ p. p.1) pair in
        let here : n ≡ number = ap (λ p. p.0) pair in
        record { before = []; after = xs; entries_are = ap (λ z. z ∷ xs) same; number_is = omega (arith, here); others_pass = All-nil passes; fails = subst (λ z. test z ≡ false) same t }
    by true t inner e =
        let later = inner e in
        record {
          before = y ∷ later.before;
          after = later.after;
          entries_are = ap (λ ys. y ∷ ys) later.entries_are;
          number_is = omega (arith, later.number_is);
          others_pass = All-cons passes y later.before t later.others_pass;
          fails = later.fails;
        }

  found_from : (n : ℕ) (before : List A) (x : A) (after : List A) → All passes before → test x ≡ false → found n (before ++ x ∷ after) ≡ Some (n + length before, x)
  found_from n [] x after h f =
      let here : n ≡ n + 0 = omega arith in
      ap (λ b. cond (not b) (Some (n, x)) (found (n + 1) after)) f ∙ ap (λ k. Some (k, x)) here
  found_from n (y ∷ before) x after h f =
      let later = found_from (n + 1) before x after (All-tail passes y before h) f in
      let here : n + 1 + length before ≡ n + length (y ∷ before) = omega arith in
      ap (λ b. cond (not b) (Some (n, y)) (found (n + 1) (before ++ x ∷ after))) (All-head passes y before h) ∙ later ∙ ap (λ k. Some (k, x)) here

  -- what is found from 1 on is the first that fails
  pub first_fails : (xs : List A) (number : ℕ) (x : A) → found 1 xs ≡ Some (number, x) → FirstFails test xs number x
  first_fails xs number x e =
      let f = fails_from 1 xs number x e in
      record { before = f.before; after = f.after; entries_are = f.entries_are; number_is = omega (arith, f.number_is); others_pass = f.others_pass; fails = f.fails }

  -- the first that fails is found from 1 on
  pub fails_first : (xs : List A) (number : ℕ) (x : A) → FirstFails test xs number x → found 1 xs ≡ Some (number, x)
  fails_first xs number x f =
      let here : 1 + length f.before ≡ number = omega (arith, f.number_is) in
      ap (found 1) f.entries_are ∙ found_from 1 f.before x f.after f.others_pass f.fails ∙ ap (λ k. Some (k, x)) here
