-- What operations give on sets of truth values holds what they give on the members, and is greater for greater sets.
use Rattle.std.proofs.Common.{◌≡◌, Bool, true, false, not, ◌&&◌, refl, ap}
use Rattle.std.proofs.lemmas.Bool.{and_parts, and_from, or_left, or_right}
use Rattle.sk_lattice.specs.declared.truth.AbsBool.{AbsBool}
use Rattle.sk_lattice.specs.Truth.{bool_holds, bool_leq}
use Rattle.sk_lattice.proofs.Parts.{either, bool_more, bool_leq_by}
use Rattle.sk_absfilter.specs.Truths.{some_passes, truths_given, truths_of_pairs}

-- a member that passes
member_passes : (a : AbsBool) (test : Bool → Bool) (t : Bool) → bool_holds a t ≡ true → test t ≡ true → some_passes a test ≡ true
member_passes a test true h e = or_left _ _ (and_from _ _ h e)
member_passes a test false h e = or_right _ _ (and_from _ _ h e)

-- the truth value of a test, by its value
given_at : (f : Bool → Bool) (a : AbsBool) (t u : Bool) → f t ≡ u → bool_holds a t ≡ true → bool_holds (truths_given f a) u ≡ true
given_at f a t true e h = member_passes a f t h e
given_at f a t false e h = member_passes a (λ x. not (f x)) t h (ap not e)

pub given_holds : (f : Bool → Bool) (a : AbsBool) (t : Bool) → bool_holds a t ≡ true → bool_holds (truths_given f a) (f t) ≡ true
given_holds f a t h = given_at f a t (f t) refl h

pairs_at : (f : Bool → Bool → Bool) (a b : AbsBool) (s t u : Bool) → f s t ≡ u → bool_holds a s ≡ true → bool_holds b t ≡ true → bool_holds (truths_of_pairs f a b) u ≡ true
pairs_at f a b s t true e h k = member_passes a (λ x. some_passes b (f x)) s h (member_passes b (f s) t k e)
pairs_at f a b s t false e h k = member_passes a (λ x. some_passes b (λ y. not (f x y))) s h (member_passes b (λ y. not (f s y)) t k (ap not e))

pub pairs_hold : (f : Bool → Bool → Bool) (a b : AbsBool) (s t : Bool) → bool_holds a s ≡ true → bool_holds b t ≡ true → bool_holds (truths_of_pairs f a b) (f s t) ≡ true
pairs_hold f a b s t h k = pairs_at f a b s t (f s t) refl h k

-- what passes of a set passes of a greater one, by a test that more pass
passes_more : (a x : AbsBool) (test wider : Bool → Bool) → bool_leq a x ≡ true → ((t : Bool) → test t ≡ true → wider t ≡ true) → some_passes a test ≡ true → some_passes x wider ≡ true
passes_more a x test wider h step e =
    either (a.has_true && test true) (a.has_false && test false) e
    (λ p. member_passes x wider true (bool_more a x h true (and_parts _ _ p).0) (step true (and_parts _ _ p).1))
    (λ p. member_passes x wider false (bool_more a x h false (and_parts _ _ p).0) (step false (and_parts _ _ p).1))

pub given_more : (f : Bool → Bool) (a x : AbsBool) → bool_leq a x ≡ true → bool_leq (truths_given f a) (truths_given f x) ≡ true
given_more f a x h = bool_leq_by (truths_given f a) (truths_given f x) at where
  at : (t : Bool) → bool_holds (truths_given f a) t ≡ true → bool_holds (truths_given f x) t ≡ true
  at true e = passes_more a x f f h (λ t e. e) e
  at false e = passes_more a x (λ t. not (f t)) (λ t. not (f t)) h (λ t e. e) e

pub pairs_more : (f : Bool → Bool → Bool) (a x b y : AbsBool) → bool_leq a x ≡ true → bool_leq b y ≡ true → bool_leq (truths_of_pairs f a b) (truths_of_pairs f x y) ≡ true
pairs_more f a x b y h k = bool_leq_by (truths_of_pairs f a b) (truths_of_pairs f x y) at where
  at : (t : Bool) → bool_holds (truths_of_pairs f a b) t ≡ true → bool_holds (truths_of_pairs f x y) t ≡ true
  at true e = passes_more a x (λ s. some_passes b (f s)) (λ s. some_passes y (f s)) h (λ s. passes_more b y (f s) (f s) k (λ t e. e)) e
  at false e = passes_more a x (λ s. some_passes b (λ t. not (f s t))) (λ s. some_passes y (λ t. not (f s t))) h (λ s. passes_more b y (λ t. not (f s t)) (λ t. not (f s t)) k (λ t e. e)) e
