-- Results from a longer listing: the first derivation of each outputs is kept.
use Rattle.std.proofs.Common.{◌≡◌, ◌≢◌, ℕ, List, [], ◌∷◌, ◌++◌, get_or, map, ◌⊎◌, inl, inr, refl, ap, sym, subst, ◌∙◌}
use Rattle.std.specs.List.{All}
use Rattle.sk_deriv.specs.declared.call.Call.{Call}
use Rattle.sk_filter.specs.Arguments.{Values}
use Rattle.sk_deriv.specs.Tree.{Derivation, outs_of, word, IsBefore}
use Rattle.sk_deriv.specs.Moves.{Setting}
use Rattle.sk_deriv.specs.Results.{DerivesWithin, Outcome, Results}
use Rattle.sk_deriv.specs.Listing.{derivations}
use Rattle.sk_deriv.proofs.Sorted.{Member, member_at, member_map, member_of_map, contains_from_member}
use Rattle.sk_deriv.proofs.Members.{member_append_left, member_append_right, member_of_append, InOrder, InOrder-append, AllPairs-from_order}
use Rattle.sk_deriv.proofs.TrailOrder.{TreeBefore}
use Rattle.sk_deriv.proofs.Derivations.{exact}
use Rattle.sk_deriv.proofs.WordOrder.{IsBefore-irreflexive, IsBefore-trans}
use Rattle.sk_deriv.proofs.OneResult.{before_from_apart}

abbrev pub outs_in : Outcome → Values
outs_in x = x.0

-- of each outputs in the list, the first derivation
pub record Kept (ts : List Derivation) (xs : List Outcome) : Type 0 where
  pub taken : (x : Outcome) → Member x xs → Member x.1 ts × (outs_of x.1 ≡ x.0)
  pub every : (t : Derivation) → Member t ts → Member (outs_of t) (map outs_in xs)
  pub first : (t : Derivation) (x : Outcome) → Member t ts → Member x xs → outs_of t ≡ x.0 → TreeBefore t x.1 → ⊥
  pub apart : InOrder (λ (x y : Outcome). x.0 ≢ y.0) xs
  pub in_order : InOrder (λ (x y : Outcome). TreeBefore x.1 y.1) xs

order_cases : {X : Type 0} (R : X → X → Type 0) (xs : List X) (a b : X) → InOrder R xs → Member a xs → Member b xs → (a ≡ b) ⊎ (R a b ⊎ R b a)
order_cases R [] a b h m n = absurd m
order_cases R (x ∷ xs) a b h (inl e) (inl f) = inl (e ∙ sym f)
order_cases R (x ∷ xs) a b h (inl e) (inr n) = inr (inl (subst (λ w. R w b) (sym e) (h.0 b n)))
order_cases R (x ∷ xs) a b h (inr m) (inl f) = inr (inr (subst (λ w. R w a) (sym f) (h.0 a m)))
order_cases R (x ∷ xs) a b h (inr m) (inr n) = order_cases R xs a b h.1 m n

All-from_member : {X : Type 0} (P : X → Type 0) (xs : List X) → ((x : X) → Member x xs → P x) → All P xs
All-from_member P xs h k d l = h (get_or xs k d) (member_at xs k d l)

not_before : (t u : Derivation) → TreeBefore t u → IsBefore (word u) (word t) → ⊥
not_before t u h b = IsBefore-irreflexive (word t) (IsBefore-trans (word t) (word u) (word t) (before_from_apart t u h) b)

order_weaker : {X : Type 0} (R S : X → X → Type 0) → ((x y : X) → R x y → S x y) → (xs : List X) → InOrder R xs → InOrder S xs
order_weaker R S f [] h = tt
order_weaker R S f (x ∷ xs) h = ((λ y m. f x y (h.0 y m)), order_weaker R S f xs h.1)

module _ (s : Setting) (c : Call) (n : ℕ) (xs : List Outcome) (k : Kept (derivations s n c) xs) where
  none_less : (t : Derivation) → DerivesWithin s c n t → (x : Outcome) → Member x xs → outs_of t ≡ x.0 → IsBefore (word t) (word x.1) → ⊥
  none_less t d x m e b =
      let of_t = (exact s n).complete_at c t d in
      elim (order_cases TreeBefore (derivations s n c) t x.1 ((exact s n).ordered_at c) of_t (k.taken x m).0) [
        | inl same ↦ IsBefore-irreflexive (word x.1) (subst (λ w. IsBefore (word w) (word x.1)) same b)
        | inr (inl h) ↦ k.first t x of_t m e h
        | inr (inr h) ↦ not_before x.1 t h b
      ]

  pub results_from_kept : Results s c n xs
  results_from_kept = record {
    derived = All-from_member (λ (x : Outcome). DerivesWithin s c n x.1 × (outs_of x.1 ≡ x.0)) xs (λ x m. ((exact s n).sound_at c x.1 (k.taken x m).0, (k.taken x m).1));
    found = λ t d. contains_from_member (map outs_in xs) (outs_of t) (k.every t ((exact s n).complete_at c t d));
    once = AllPairs-from_order (λ (x y : Outcome). x.0 ≢ y.0) xs k.apart;
    least = λ t d. All-from_member (λ (x : Outcome). outs_of t ≡ x.0 → IsBefore (word t) (word x.1) → ⊥) xs (none_less t d);
    increasing = AllPairs-from_order (λ (x y : Outcome). IsBefore (word x.1) (word y.1)) xs
        (order_weaker (λ (x y : Outcome). TreeBefore x.1 y.1) (λ (x y : Outcome). IsBefore (word x.1) (word y.1)) (λ x y. before_from_apart x.1 y.1) xs k.in_order);
  }

pub kept_none : Kept [] []
kept_none = record { taken = λ x m. absurd m; every = λ t m. absurd m; first = λ t x m. absurd m; apart = tt; in_order = tt }

before_last : {X : Type 0} (R : X → X → Type 0) (xs : List X) (y x : X) → InOrder R (xs ++ y ∷ []) → Member x xs → R x y
before_last R [] y x h m = absurd m
before_last R (z ∷ xs) y x h (inl e) = subst (λ w. R w y) (sym e) (h.0 y (member_append_right y xs (y ∷ []) (inl refl)))
before_last R (z ∷ xs) y x h (inr m) = before_last R xs y x h.1 m

module _ (ts : List Derivation) (xs : List Outcome) (t : Derivation) (k : Kept ts xs) (sorted : InOrder TreeBefore (ts ++ t ∷ [])) where
  -- one that comes later is not before one that is kept
  late : (x : Outcome) → Member x xs → TreeBefore t x.1 → ⊥
  late x m h = not_before x.1 t (before_last TreeBefore ts t x.1 sorted (k.taken x m).0) (before_from_apart t x.1 h)

  first_still : (u : Derivation) (x : Outcome) → Member u (ts ++ t ∷ []) → Member x xs → outs_of u ≡ x.0 → TreeBefore u x.1 → ⊥
  first_still u x m n e h = elim (member_of_append u ts (t ∷ []) m) [
    | inl a ↦ k.first u x a n e h
    | inr (inl same) ↦ late x n (subst (λ w. TreeBefore w x.1) same h)
    | inr (inr b) ↦ b
  ]

  -- outputs that are there already
  pub kept_seen : Member (outs_of t) (map outs_in xs) → Kept (ts ++ t ∷ []) xs
  kept_seen seen = record {
    taken = λ x m. (member_append_left x.1 ts (t ∷ []) (k.taken x m).0, (k.taken x m).1);
    every = λ u m. elim (member_of_append u ts (t ∷ []) m) [ inl a ↦ k.every u a | inr (inl e) ↦ subst (λ w. Member (outs_of w) (map outs_in xs)) (sym e) seen | inr (inr b) ↦ absurd b ];
    first = first_still;
    apart = k.apart;
    in_order = k.in_order;
  }

  abbrev new : Outcome
  new = (outs_of t, t)

  still_in : (v : Values) → Member v (map outs_in xs) → Member v (map outs_in (xs ++ new ∷ []))
  still_in v m =
      let r = member_of_map outs_in xs v m in
      subst (λ w. Member w (map outs_in (xs ++ new ∷ []))) (sym r.2) (member_map outs_in (xs ++ new ∷ []) r.0 (member_append_left r.0 xs (new ∷ []) r.1))

  taken_new : (x : Outcome) → x ≡ new → Member x.1 (ts ++ t ∷ []) × (outs_of x.1 ≡ x.0)
  taken_new x e = subst (λ (w : Outcome). Member w.1 (ts ++ t ∷ []) × (outs_of w.1 ≡ w.0)) (sym e) (member_append_right t ts (t ∷ []) (inl refl), refl)

  -- outputs that are new
  module _ (is_new : Member (outs_of t) (map outs_in xs) → ⊥) where
    first_new : (u : Derivation) → Member u (ts ++ t ∷ []) → outs_of u ≡ outs_of t → TreeBefore u t → ⊥
    first_new u m e h = elim (member_of_append u ts (t ∷ []) m) [
      | inl a ↦ is_new (subst (λ w. Member w (map outs_in xs)) e (k.every u a))
      | inr (inl same) ↦ IsBefore-irreflexive (word t) (before_from_apart t t (subst (λ w. TreeBefore w t) same h))
      | inr (inr b) ↦ b
    ]

    first_or_new : (u : Derivation) (x : Outcome) → Member u (ts ++ t ∷ []) → Member x xs ⊎ Member x (new ∷ []) → outs_of u ≡ x.0 → TreeBefore u x.1 → ⊥
    first_or_new u x m (inl a) e h = first_still u x m a e h
    first_or_new u x m (inr (inl same)) e h = first_new u m (e ∙ ap outs_in same) (subst (λ (w : Outcome). TreeBefore u w.1) same h)
    first_or_new u x m (inr (inr b)) e h = b

    pub kept_new : Kept (ts ++ t ∷ []) (xs ++ (outs_of t, t) ∷ [])
    kept_new = record {
      taken = λ x m. elim (member_of_append x xs (new ∷ []) m) [ inl a ↦ (member_append_left x.1 ts (t ∷ []) (k.taken x a).0, (k.taken x a).1) | inr (inl e) ↦ taken_new x e | inr (inr b) ↦ absurd b ];
      every = λ u m. elim (member_of_append u ts (t ∷ []) m) [
        | inl a ↦ still_in (outs_of u) (k.every u a)
        | inr (inl e) ↦ subst (λ w. Member (outs_of w) (map outs_in (xs ++ new ∷ []))) (sym e) (member_map outs_in (xs ++ new ∷ []) new (member_append_right new xs (new ∷ []) (inl refl)))
        | inr (inr b) ↦ absurd b
      ];
      first = λ u x m n e h. first_or_new u x m (member_of_append x xs (new ∷ []) n) e h;
      apart = InOrder-append (λ (x y : Outcome). x.0 ≢ y.0) xs (new ∷ []) k.apart ((λ y m. absurd m), tt)
          (λ x y m n e. elim n [ inl same ↦ is_new (subst (λ w. Member w (map outs_in xs)) (e ∙ ap outs_in same) (member_map outs_in xs x m)) | inr b ↦ b ]);
      in_order = InOrder-append (λ (x y : Outcome). TreeBefore x.1 y.1) xs (new ∷ []) k.in_order ((λ y m. absurd m), tt)
          (λ x y m n. elim n [ inl same ↦ subst (λ (w : Outcome). TreeBefore x.1 w.1) (sym same) (before_last TreeBefore ts t x.1 sorted (k.taken x m).0) | inr b ↦ absurd b ]);
    }
