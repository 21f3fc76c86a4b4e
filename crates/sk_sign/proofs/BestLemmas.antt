-- Signs are best.
use Rattle.std.proofs.Common.{◌≡◌, ℤ, pos, negsuc, Bool, true, false, cond, refl, sym, ◌∙◌, ap, subst, lit<}
use Rattle.std.specs.Bool.{Decides}
use Rattle.sk_value.specs.declared.arith.Arith.{Arith}
use Rattle.sk_value.specs.declared.arith.Compare.{Compare}
use Rattle.sk_value.specs.declared.arith.Refine.{Refine}
use Rattle.sk_value.specs.Numbers.{compares}
use Rattle.sk_lattice.specs.declared.truth.AbsBool.{AbsBool}
use Rattle.sk_lattice.specs.Truth.{bool_holds}
use Rattle.sk_sign.specs.declared.sign.Sign.{Sign}
use Rattle.sk_sign.specs.Sets as set
use Rattle.sk_sign.specs.Signs.{One, Negative, Zero, Positive, one_of, has, just, single, single_truth, single_left, single_right, allows, some_one, some_pair, union, truth_union}
use Rattle.sk_sign.specs.Laws.{sign_laws}
use Rattle.sk_sign.specs.Laws.Numbers.{single_holds, compare_at as compared_at, allowed_at}
use Rattle.sk_sign.specs.Laws.Sets.{found, has_set_of, has_just, just_only, some_pair_by}
use Rattle.sk_sign.specs.Best.{NumbersGive, GiveSign, KeepSign, NegGives, SignsAreBest}
use Rattle.sk_sign.proofs.Witnesses.{Witness, arith_at, compare_at, keeps_at, not_in_none}

-- A test of pairs of signs that passes just where numbers of them have a fact passes for some pair of two sets just
-- where numbers of the sets have it.
pairs_are_best : (f : One → One → Bool) (G : ℤ → ℤ → Type 0) → ((p q : One) → f p q ≡ true → Witness G p q) → ((m n : ℤ) → G m n → f (one_of m) (one_of n) ≡ true) → (a b : Sign) → Decides (some_pair a b f) (NumbersGive G a b)
pairs_are_best f G witness sound a b = (there, λ w. some_pair_by a b f (one_of w.left) (one_of w.right) w.in_left w.in_right (sound w.left w.right w.gives))
  where
    there : some_pair a b f ≡ true → NumbersGive G a b
    there h =
        let p = found a (λ p. some_one b (λ q. f p q)) h in
        let q = found b (f p.one) p.passes in
        let w = witness p.one q.one q.passes in
        record {
          left = w.left;
          right = w.right;
          left_fits = w.left_fits;
          right_fits = w.right_fits;
          in_left = ap (has a) w.left_sign ∙ p.member;
          in_right = ap (has b) w.right_sign ∙ q.member;
          gives = w.gives;
        }

-- the union of the entries of all pairs is best
union_is_best : (f : One → One → Sign) (r : One) (G : ℤ → ℤ → Type 0) → ((p q : One) → has (f p q) r ≡ true → Witness G p q) → ((m n : ℤ) → G m n → has (f (one_of m) (one_of n)) r ≡ true) → (a b : Sign) → Decides (has (union f a b) r) (NumbersGive G a b)
union_is_best f r G witness sound a b =
    subst (λ (t : Bool). Decides t (NumbersGive G a b)) (sym (has_set_of (λ r. some_pair a b (λ p q. has (f p q) r)) r)) (pairs_are_best (λ p q. has (f p q) r) G witness sound a b)

truth_union_is_best : (f : One → One → AbsBool) (t : Bool) (G : ℤ → ℤ → Type 0) → ((p q : One) → bool_holds (f p q) t ≡ true → Witness G p q) → ((m n : ℤ) → G m n → bool_holds (f (one_of m) (one_of n)) t ≡ true) → (a b : Sign) → Decides (bool_holds (truth_union f a b) t) (NumbersGive G a b)
truth_union_is_best f true G witness sound a b = pairs_are_best (λ p q. (f p q).has_true) G witness sound a b
truth_union_is_best f false G witness sound a b = pairs_are_best (λ p q. (f p q).has_false) G witness sound a b

arith : (op : Arith) (a b : Sign) (r : One) → Decides (has (union (single op) a b) r) (NumbersGive (GiveSign op r) a b)
arith op a b r =
    union_is_best (single op) r (GiveSign op r) (λ p q. arith_at op p q r)
    (λ m n g. subst (λ s. has (single op (one_of m) (one_of n)) s ≡ true) g.sign (single_holds op m n g.result g.gives.gives)) a b

compare : (op : Compare) (a b : Sign) (t : Bool) → Decides (bool_holds (truth_union (single_truth op) a b) t) (NumbersGive (λ m n. compares op m n ≡ t) a b)
compare op a b t =
    truth_union_is_best (single_truth op) t (λ m n. compares op m n ≡ t) (λ p q. compare_at op p q t)
    (λ m n e. subst (λ s. bool_holds (single_truth op (one_of m) (one_of n)) s ≡ true) e (compared_at op m n)) a b

-- a sign in the entry of a side
entry_kept : (t : Bool) (p r : One) → has (cond t (just p) set.none) r ≡ true → (t ≡ true) × (p ≡ r)
entry_kept true p r h = (refl, just_only p r h)
entry_kept false p r h = absurd (not_in_none r h)

left_at : (op : Refine) (r p q : One) → has (single_left op p q) r ≡ true → Witness (λ m n. KeepSign op r m n m) p q
left_at op r p q h =
    let e = entry_kept (allows op p q) p r h in
    let w = keeps_at op p q e.0 in
    record { left = w.left; right = w.right; left_fits = w.left_fits; right_fits = w.right_fits; left_sign = w.left_sign; right_sign = w.right_sign; gives = record { kept = w.gives; sign = w.left_sign ∙ e.1 } }

right_at : (op : Refine) (r p q : One) → has (single_right op p q) r ≡ true → Witness (λ m n. KeepSign op r m n n) p q
right_at op r p q h =
    let e = entry_kept (allows op p q) q r h in
    let w = keeps_at op p q e.0 in
    record { left = w.left; right = w.right; left_fits = w.left_fits; right_fits = w.right_fits; left_sign = w.left_sign; right_sign = w.right_sign; gives = record { kept = w.gives; sign = w.right_sign ∙ e.1 } }

left : (op : Refine) (a b : Sign) (r : One) → Decides (has (union (single_left op) a b) r) (NumbersGive (λ m n. KeepSign op r m n m) a b)
left op a b r =
    union_is_best (single_left op) r (λ m n. KeepSign op r m n m) (left_at op r)
    (λ m n g. subst (λ s. has (single_left op (one_of m) (one_of n)) s ≡ true) g.sign (rw (allowed_at op m n g.kept) (has_just (one_of m)))) a b

right : (op : Refine) (a b : Sign) (r : One) → Decides (has (union (single_right op) a b) r) (NumbersGive (λ m n. KeepSign op r m n n) a b)
right op a b r =
    union_is_best (single_right op) r (λ m n. KeepSign op r m n n) (right_at op r)
    (λ m n g. subst (λ s. has (single_right op (one_of m) (one_of n)) s ≡ true) g.sign (rw (allowed_at op m n g.kept) (has_just (one_of n)))) a b

neg_there : (a : Sign) (r : One) → has (set.signs a.positive a.zero a.negative) r ≡ true → NegGives a r
neg_there a Negative h = record { number = pos 1; fits = record { sfits = lit< tt }; negated_fits = record { sfits = lit< tt }; member = h; sign = refl }
neg_there a Zero h = record { number = pos 0; fits = record { sfits = lit< tt }; negated_fits = record { sfits = lit< tt }; member = h; sign = refl }
neg_there a Positive h = record { number = negsuc 0; fits = record { sfits = lit< tt }; negated_fits = record { sfits = lit< tt }; member = h; sign = refl }

neg_only : (a : Sign) (r : One) → NegGives a r → has (set.signs a.positive a.zero a.negative) r ≡ true
neg_only a r w = ap (has (set.signs a.positive a.zero a.negative)) (sym w.sign) ∙ sign_laws.sound.neg_holds a w.number w.negated_fits w.member

pub signs_are_best : SignsAreBest
signs_are_best = record {
  arith = arith;
  neg = λ a r. (neg_there a r, neg_only a r);
  compare = compare;
  left = left;
  right = right;
}
