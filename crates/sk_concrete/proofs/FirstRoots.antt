-- Of each outputs the first derivation.
use Rattle.std.proofs.Common.{◌≡◌, ℕ, zero, suc, ◌+◌, ◌<◌, ◌≤◌, List, [], ◌∷◌, ◌++◌, length, take, get_or, map, inl, inr, refl, ap, sym, subst, ◌∙◌, arith, add-one}
use Rattle.std.specs.List.{All}
use Rattle.std.proofs.lemmas.List.{map-append}
use Rattle.sk_filter.specs.Arguments.{Values}
use Rattle.sk_deriv.specs.declared.call.Call.{Call}
use Rattle.sk_deriv.specs.declared.forest.Node.{Node}
use Rattle.sk_deriv.specs.Forest.{nothing, tree_at}
use Rattle.sk_deriv.specs.Tree.{Derivation, outs_of}
use Rattle.sk_deriv.specs.Moves.{Setting}
use Rattle.sk_deriv.specs.Results.{Outcome, Results}
use Rattle.sk_deriv.specs.Listing.{derivations, outcomes}
use Rattle.sk_deriv.proofs.Sorted.{Member, member_of_map}
use Rattle.sk_deriv.proofs.Members.{InOrder}
use Rattle.sk_deriv.proofs.TrailOrder.{TreeBefore}
use Rattle.sk_deriv.proofs.Derivations.{exact}
use Rattle.sk_deriv.proofs.FirstOfEach.{Kept, kept_none, kept_seen, kept_new, outs_in, results_from_kept}
use Rattle.sk_concrete.specs.declared.world.Tree.{Tree}
use Rattle.sk_concrete.specs.Trees.{IsAmong, Stand}
use Rattle.sk_concrete.proofs.There.{All-join, All-cons, All-none}

-- the first so many, with the next one
take_suc : {A : Type 0} (xs : List A) (k : ℕ) (d : A) → k < length xs → take (suc k) xs ≡ take k xs ++ get_or xs k d ∷ []
take_suc [] k d l = absurd (omega (arith, l))
take_suc (x ∷ xs) zero d l = refl
take_suc {A} (x ∷ xs) (suc k) d l = ap (λ (ys : List A). x ∷ ys) (take_suc xs k d (omega (arith, l)))

take_next : {A : Type 0} (xs : List A) (k : ℕ) (d : A) → k < length xs → take (k + 1) xs ≡ take k xs ++ get_or xs k d ∷ []
take_next xs k d l = ap (λ j. take j xs) (add-one k) ∙ take_suc xs k d l

member_of_take : {A : Type 0} (k : ℕ) (xs : List A) (y : A) → Member y (take k xs) → Member y xs
member_of_take zero xs y m = absurd m
member_of_take (suc k) [] y m = absurd m
member_of_take (suc k) (x ∷ xs) y (inl e) = inl e
member_of_take (suc k) (x ∷ xs) y (inr m) = inr (member_of_take k xs y m)

order_of_take : {A : Type 0} (R : A → A → Type 0) (k : ℕ) (xs : List A) → InOrder R xs → InOrder R (take k xs)
order_of_take R zero xs h = tt
order_of_take R (suc k) [] h = tt
order_of_take R (suc k) (x ∷ xs) h = ((λ y m. h.0 y (member_of_take k xs y m)), order_of_take R k xs h.1)

module _ (nodes : List Node) where
  stand_take : (k : ℕ) (trees : List Tree) (ts : List Derivation) → Stand nodes trees ts → Stand nodes (take k trees) (take k ts)
  stand_take zero trees ts h = tt
  stand_take (suc k) [] [] h = tt
  stand_take (suc k) [] (t ∷ ts) h = absurd h
  stand_take (suc k) (tree ∷ trees) [] h = absurd h
  stand_take (suc k) (tree ∷ trees) (t ∷ ts) h = (h.0, stand_take k trees ts h.1)

  stand_length : (trees : List Tree) (ts : List Derivation) → Stand nodes trees ts → length trees ≡ length ts
  stand_length [] [] h = refl
  stand_length [] (t ∷ ts) h = absurd h
  stand_length (tree ∷ trees) [] h = absurd h
  stand_length (tree ∷ trees) (t ∷ ts) h = ap suc (stand_length trees ts h.1)

  abbrev IsOf : Tree → Derivation → Type 0
  IsOf tree t = (tree.root < length nodes) × (tree_at nodes tree.root ≡ t) × (tree.outs ≡ outs_of t)

  stand_at : (trees : List Tree) (ts : List Derivation) (k : ℕ) (tree : Tree) (t : Derivation) → Stand nodes trees ts → k < length trees → IsOf (get_or trees k tree) (get_or ts k t)
  stand_at [] ts k tree t h l = absurd (omega (arith, l))
  stand_at (u ∷ trees) [] k tree t h l = absurd h
  stand_at (u ∷ trees) (v ∷ ts) zero tree t h l = h.0
  stand_at (u ∷ trees) (v ∷ ts) (suc k) tree t h l = stand_at trees ts k tree t h.1 (omega (arith, l))

  among_listed : (trees : List Tree) (ts : List Derivation) (outs : Values) → Stand nodes trees ts → IsAmong trees outs → (t : Derivation) × Member t ts × (outs_of t ≡ outs)
  among_listed [] ts outs h a = absurd a
  among_listed (u ∷ trees) [] outs h a = absurd h
  among_listed (u ∷ trees) (t ∷ ts) outs h (inl e) = (t, inl refl, sym h.0.2 ∙ e)
  among_listed (u ∷ trees) (t ∷ ts) outs h (inr a) = let r = among_listed trees ts outs h.1 a in (r.0, inr r.1, r.2)

  listed_among : (trees : List Tree) (ts : List Derivation) (outs : Values) (t : Derivation) → Stand nodes trees ts → Member t ts → outs_of t ≡ outs → IsAmong trees outs
  listed_among [] [] outs t h m e = absurd m
  listed_among [] (v ∷ ts) outs t h m e = absurd h
  listed_among (u ∷ trees) [] outs t h m e = absurd h
  listed_among (u ∷ trees) (v ∷ ts) outs t h (inl same) e = inl (h.0.2 ∙ ap outs_of (sym same) ∙ e)
  listed_among (u ∷ trees) (v ∷ ts) outs t h (inr m) e = inr (listed_among trees ts outs t h.1 m e)

  module _ (s : Setting) (n : ℕ) (c : Call) (trees : List Tree) (stand : Stand nodes trees (derivations s n c)) where
    abbrev ts : List Derivation
    ts = derivations s n c

    abbrev kept_of : List ℕ → List Outcome
    kept_of roots = outcomes (map (tree_at nodes) roots)

    -- the roots are those of the first derivations of each outputs, among the first so many
    pub record FirstRoots (k : ℕ) (roots : List ℕ) : Type 0 where
      pub kept : Kept (take k ts) (kept_of roots)
      pub there : All (λ root. root < length nodes) roots

    pub first_none : FirstRoots 0 []
    first_none = record { kept = kept_none; there = All-none (λ root. root < length nodes) }

    pub first_all : (k : ℕ) (roots : List ℕ) → length trees ≤ k → FirstRoots k roots → Results s c n (kept_of roots)
    first_all k roots l h = results_from_kept s c n (kept_of roots) (subst (λ us. Kept us (kept_of roots)) (take_whole k ts (omega (arith, l, stand_length trees ts stand))) h.kept) where
      take_whole : (k : ℕ) (us : List Derivation) → length us ≤ k → take k us ≡ us
      take_whole zero [] m = refl
      take_whole zero (u ∷ us) m = absurd (omega (arith, m))
      take_whole (suc k) [] m = refl
      take_whole (suc k) (u ∷ us) m = ap (λ (vs : List Derivation). u ∷ vs) (take_whole k us (omega (arith, m)))

    module _ (k : ℕ) (roots : List ℕ) (tree : Tree) (l : k < length trees) (is : tree ≡ get_or trees k tree) (h : FirstRoots k roots) where
      abbrev t : Derivation
      t = get_or ts k nothing

      of : IsOf tree t
      of = subst (λ u. IsOf u t) (sym is) (stand_at trees ts k tree nothing stand l)

      next : take (k + 1) ts ≡ take k ts ++ t ∷ []
      next = take_next ts k nothing (omega (arith, l, stand_length trees ts stand))

      in_order : InOrder TreeBefore (take k ts ++ t ∷ [])
      in_order = subst (InOrder TreeBefore) next (order_of_take TreeBefore (k + 1) ts ((exact s n).ordered_at c))

      pub first_seen : IsAmong (take k trees) tree.outs → FirstRoots (k + 1) roots
      first_seen a =
          let r = among_listed (take k trees) (take k ts) tree.outs (stand_take k trees ts stand) a in
          let seen : Member (outs_of t) (map outs_in (kept_of roots)) = subst (λ v. Member v (map outs_in (kept_of roots))) (r.2 ∙ of.2) (h.kept.every r.0 r.1) in
          record { kept = subst (λ us. Kept us (kept_of roots)) (sym next) (kept_seen (take k ts) (kept_of roots) t h.kept in_order seen); there = h.there }

      is_new : (IsAmong (take k trees) tree.outs → ⊥) → Member (outs_of t) (map outs_in (kept_of roots)) → ⊥
      is_new a m =
          let r = member_of_map outs_in (kept_of roots) (outs_of t) m in
          let taken = h.kept.taken r.0 r.1 in
          a (listed_among (take k trees) (take k ts) tree.outs r.0.1 (stand_take k trees ts stand) taken.0 (taken.1 ∙ sym r.2 ∙ sym of.2))

      outcomes_more : kept_of (roots ++ tree.root ∷ []) ≡ kept_of roots ++ (outs_of t, t) ∷ []
      outcomes_more =
          ap outcomes (map-append (tree_at nodes) roots (tree.root ∷ []))
          ∙ map-append (λ (u : Derivation). let r : Outcome = (outs_of u, u) in r) (map (tree_at nodes) roots) (tree_at nodes tree.root ∷ [])
          ∙ ap (λ (u : Derivation). kept_of roots ++ (outs_of u, u) ∷ []) of.1

      pub first_new : (roots' : List ℕ) → (IsAmong (take k trees) tree.outs → ⊥) → roots' ≡ roots ++ tree.root ∷ [] → FirstRoots (k + 1) roots'
      first_new roots' a made = subst (FirstRoots (k + 1)) (sym made) (record {
        kept = subst (λ us. Kept us (kept_of (roots ++ tree.root ∷ []))) (sym next)
            (subst (Kept (take k ts ++ t ∷ [])) (sym outcomes_more) (kept_new (take k ts) (kept_of roots) t h.kept in_order (is_new a)));
        there = All-join (λ root. root < length nodes) roots (tree.root ∷ []) h.there (All-cons (λ root. root < length nodes) tree.root [] of.0 (All-none (λ root. root < length nodes)));
      })
