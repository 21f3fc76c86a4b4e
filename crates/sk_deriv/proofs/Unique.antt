-- The laws of words and of results.
use Rattle.std.proofs.Common.{◌≡◌, ℕ, List, [], ◌++◌, sym, ap, ap₂, subst, ◌∙◌}
use Rattle.std.proofs.lemmas.List.{append-nil}
use Rattle.sk_filter.specs.Arguments.{Values}
use Rattle.sk_deriv.specs.Tree.{Derivation, outs_of, word, IsBefore}
use Rattle.sk_deriv.specs.Moves.{Setting}
use Rattle.sk_deriv.specs.declared.call.Call.{Call}
use Rattle.sk_deriv.specs.Results.{Derives, DerivesWithin, Outcome, Results, WordsDecode, ResultsAreOne}
use Rattle.sk_deriv.proofs.Prefix.{decodes}
use Rattle.sk_deriv.proofs.WordOrder.{IsBefore-irreflexive, IsBefore-trans, Compared, before, same, after, compare}
use Rattle.sk_deriv.proofs.Sorted.{Member, member_from_contains, All-member, member_of_map, same_lists}

module _ (s : Setting) (c : Call) (t u : Derivation) (h : Derives s c t) (g : Derives s c u) where
  decoded : (x y : List ℕ) → word t ++ x ≡ word u ++ y → (t ≡ u) × (x ≡ y)
  decoded x y e = decodes s t u x y h.valid g.valid (h.same_hook ∙ sym g.same_hook) (h.same_point ∙ sym g.same_point) (h.same_ins ∙ sym g.same_ins) e

  pub no_proper_prefix : (rest : List ℕ) → word t ++ rest ≡ word u → rest ≡ []
  no_proper_prefix rest e = (decoded rest [] (e ∙ sym (append-nil (word u)))).1

  pub same_words_same : word t ≡ word u → t ≡ u
  same_words_same e = (decoded [] [] (ap (λ w. w ++ []) e)).0

pub words_decode : WordsDecode
words_decode s c t u h g = (no_proper_prefix s c t u h g, same_words_same s c t u h g)

-- no derivation with these outputs comes after the given one
abbrev IsNotAfter : Derivation → Outcome → Type 0
IsNotAfter t x = outs_of t ≡ x.0 → IsBefore (word t) (word x.1) → ⊥

module _ (s : Setting) (c : Call) (n : ℕ) where
  abbrev IsEntry : Outcome → Type 0
  IsEntry x = DerivesWithin s c n x.1 × (outs_of x.1 ≡ x.0)

  -- two least derivations with the same outputs are one
  least_are_one : (t u : Derivation) → Derives s c t → Derives s c u → (IsBefore (word t) (word u) → ⊥) → (IsBefore (word u) (word t) → ⊥) → Compared (word t) (word u) → t ≡ u
  least_are_one t u h g p q (before b) = absurd (p b)
  least_are_one t u h g p q (same e) = same_words_same s c t u h g e
  least_are_one t u h g p q (after b) = absurd (q b)

  member_of_other : (xs ys : List Outcome) → Results s c n xs → Results s c n ys → (x : Outcome) → Member x xs → Member x ys
  member_of_other xs ys rx ry x m =
      let hx = All-member IsEntry xs x rx.derived m in
      let found = member_of_map (λ (z : Outcome). z.0) ys (outs_of x.1) (member_from_contains _ _ (ry.found x.1 hx.0)) in
      let y = found.0 in
      let hy = All-member IsEntry ys y ry.derived found.1 in
      let outs_same : outs_of x.1 ≡ y.0 = found.2 in
      let no_less_x = All-member (IsNotAfter x.1) ys y (ry.least x.1 hx.0) found.1 outs_same in
      let no_less_y = All-member (IsNotAfter y.1) xs x (rx.least y.1 hy.0) m (hy.1 ∙ sym outs_same ∙ hx.1) in
      let tree_same : x.1 ≡ y.1 = least_are_one x.1 y.1 hx.0.derives hy.0.derives no_less_x no_less_y (compare (word x.1) (word y.1)) in
      let whole : x ≡ y = ap₂ (λ (v : Values) (t : Derivation). let o : Outcome = (v, t) in o) (sym hx.1 ∙ outs_same) tree_same in
      subst (λ z. Member z ys) (sym whole) found.1

  pub one_list : (xs ys : List Outcome) → Results s c n xs → Results s c n ys → xs ≡ ys
  one_list xs ys rx ry =
      same_lists (λ (x y : Outcome). IsBefore (word x.1) (word y.1)) (λ x h. IsBefore-irreflexive (word x.1) h)
      (λ x y z p q. IsBefore-trans (word x.1) (word y.1) (word z.1) p q) xs ys rx.increasing ry.increasing
      (member_of_other xs ys rx ry) (member_of_other ys xs ry rx)

pub results_are_one : ResultsAreOne
results_are_one s c n xs ys = one_list s c n xs ys
