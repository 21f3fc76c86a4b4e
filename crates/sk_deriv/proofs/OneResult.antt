-- The law of the listing, and results of a call that has at most one derivation.
use Rattle.std.proofs.Common.{◌≡◌, ℕ, List, [], ◌∷◌, inl, inr, refl, ap, sym, subst, arith}
use Rattle.std.proofs.lemmas.List.{append-nil}
use Rattle.std.proofs.lemmas.List.Elements.{All-nil, All-cons}
use Rattle.sk_deriv.specs.Tree.{Derivation, outs_of, word, IsBefore}
use Rattle.sk_deriv.specs.Moves.{Setting}
use Rattle.sk_deriv.specs.declared.call.Call.{Call}
use Rattle.sk_deriv.specs.Results.{DerivesWithin, Outcome, Results}
use Rattle.sk_deriv.specs.Listing.{derivations, ListingIsExact}
use Rattle.sk_deriv.proofs.Sorted.{Member, contains_from_member, member_from_contains}
use Rattle.sk_deriv.proofs.Members.{InOrder, AllPairs-from_order}
use Rattle.sk_deriv.proofs.TrailOrder.{TreeBefore}
use Rattle.sk_deriv.proofs.Derivations.{exact}
use Rattle.sk_deriv.proofs.WordOrder.{IsBefore-irreflexive}

pub before_from_apart : (t u : Derivation) → TreeBefore t u → IsBefore (word t) (word u)
before_from_apart t u h = let g = h [] [] in rw (append-nil (word t), append-nil (word u)) at g

in_order : (ts : List Derivation) → InOrder TreeBefore ts → InOrder (λ t u. IsBefore (word t) (word u)) ts
in_order [] h = tt
in_order (t ∷ ts) h = ((λ u m. before_from_apart t u (h.0 u m)), in_order ts h.1)

pub listing_is_exact : ListingIsExact
listing_is_exact s c n =
    let e = exact s n in (
      (λ t. ((λ d. contains_from_member (derivations s n c) t (e.complete_at c t d)), (λ m. e.sound_at c t (member_from_contains (derivations s n c) t m)))),
      AllPairs-from_order (λ t u. IsBefore (word t) (word u)) (derivations s n c) (in_order (derivations s n c) (e.ordered_at c)),
    )

module _ (s : Setting) (c : Call) (n : ℕ) where
  no_member : (t : Derivation) → derivations s n c ≡ [] → DerivesWithin s c n t → ⊥
  no_member t e d = subst (λ w. Member t w) e ((exact s n).complete_at c t d)

  pub results_none : derivations s n c ≡ [] → Results s c n []
  results_none e = record {
    derived = All-nil _;
    found = λ t d. absurd (no_member t e d);
    once = λ i j d l m. absurd (omega arith);
    least = λ t d. absurd (no_member t e d);
    increasing = λ i j d l m. absurd (omega arith);
  }

  only_member : (t u : Derivation) → derivations s n c ≡ t ∷ [] → DerivesWithin s c n u → u ≡ t
  only_member t u e d = only_of (subst (λ w. Member u w) e ((exact s n).complete_at c u d))
    where
      only_of : Member u (t ∷ []) → u ≡ t
      only_of m = elim m [ inl h ↦ h | inr h ↦ absurd h ]

  is_derived : (t : Derivation) → derivations s n c ≡ t ∷ [] → DerivesWithin s c n t
  is_derived t e = (exact s n).sound_at c t (subst (λ w. Member t w) (sym e) (inl refl))

  pub results_one : (t : Derivation) → derivations s n c ≡ t ∷ [] → Results s c n ((outs_of t, t) ∷ [])
  results_one t e =
      let x : Outcome = (outs_of t, t) in
      record {
        derived = All-cons (λ (y : Outcome). DerivesWithin s c n y.1 × (outs_of y.1 ≡ y.0)) x [] (is_derived t e, refl) (All-nil _);
        found = λ u d. (0, omega arith, ap outs_of (sym (only_member t u e d)));
        once = λ i j d l m. absurd (omega arith);
        least = λ u d. All-cons (λ (y : Outcome). outs_of u ≡ y.0 → IsBefore (word u) (word y.1) → ⊥) x []
            (λ f h. IsBefore-irreflexive (word t) (subst (λ w. IsBefore (word w) (word t)) (only_member t u e d) h)) (All-nil _);
        increasing = λ i j d l m. absurd (omega arith);
      }
