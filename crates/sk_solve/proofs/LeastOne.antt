-- Assignments that lie below each other are equal.
use Rattle.std.proofs.Common.{◌≡◌, ℕ, true, List, [], ◌∷◌, Some, None, refl, ap, ap₂, sym, ◌∙◌}
use Rattle.std.specs.List.{AllZip}
use Rattle.sk_def.specs.declared.ids.HookId.{HookId}
use Rattle.sk_lattice.specs.Domain.{Domain}
use Rattle.sk_lattice.specs.Laws.{TupleLaws}
use Rattle.sk_absfilter.specs.Abstract.{Outcome}
use Rattle.sk_absfilter.specs.Laws.{outcome_leq}
use Rattle.sk_constr.specs.declared.line.KeyLines.{KeyLines}
use Rattle.sk_solve.specs.declared.assignment.Solved.{Solved}
use Rattle.sk_solve.specs.Solves.{IsOfKey, KeyLies, LeastIsOne}

module _ {D : Type 0} (d : Domain D) (laws : TupleLaws d) where
  outcome_same : (o p : Outcome D) → outcome_leq d o p ≡ true → outcome_leq d p o ≡ true → o ≡ p
  outcome_same None None h k = refl
  outcome_same None (Some b) h k = absurd (cc)
  outcome_same (Some a) None h k = absurd (cc)
  outcome_same (Some a) (Some b) h k = ap Some (laws.leq_antisym a b h k)

  positions_same : (xs ys : List (Outcome D)) → AllZip (λ o p. outcome_leq d o p ≡ true) xs ys → AllZip (λ o p. outcome_leq d o p ≡ true) ys xs → xs ≡ ys
  positions_same [] [] h k = refl
  positions_same [] (y ∷ ys) h k = absurd h
  positions_same (x ∷ xs) [] h k = absurd h
  positions_same (x ∷ xs) (y ∷ ys) h k = ap₂ (λ o os. o ∷ os) (outcome_same x y h.0 k.0) (positions_same xs ys h.1 k.1)

  same_fields : (i j : HookId) (p q : ℕ) (xs ys : List (Outcome D)) (o u : Outcome D) → i ≡ j → p ≡ q → xs ≡ ys → o ≡ u →
      ◌≡◌ {A = Solved D} (record { hook = i; point = p; positions = xs; outs = o }) (record { hook = j; point = q; positions = ys; outs = u })
  same_fields i j p q xs ys o u a b c e = rw (a, b, c, e) refl

  key_same : (names : ℕ) (key : KeyLines) (s t : Solved D) → IsOfKey d names key s → IsOfKey d names key t → KeyLies d s t → KeyLies d t s → s ≡ t
  key_same names key s t f g h k =
      same_fields s.hook t.hook s.point t.point s.positions t.positions s.outs t.outs (f.same_hook ∙ sym g.same_hook) (f.same_point ∙ sym g.same_point)
      (positions_same s.positions t.positions h.positions k.positions) (outcome_same s.outs t.outs h.outs k.outs)

  all_same : (names : ℕ) (keys : List KeyLines) (a b : List (Solved D)) → AllZip (IsOfKey d names) keys a → AllZip (IsOfKey d names) keys b → AllZip (KeyLies d) a b → AllZip (KeyLies d) b a → a ≡ b
  all_same names [] [] [] f g h k = refl
  all_same names [] (s ∷ a) b f g h k = absurd f
  all_same names [] [] (t ∷ b) f g h k = absurd g
  all_same names (key ∷ keys) [] b f g h k = absurd f
  all_same names (key ∷ keys) (s ∷ a) [] f g h k = absurd g
  all_same names (key ∷ keys) (s ∷ a) (t ∷ b) f g h k = ap₂ (λ (x : Solved D). λ (xs : List (Solved D)). x ∷ xs) (key_same names key s t f.0 g.0 h.0 k.0) (all_same names keys a b f.1 g.1 h.1 k.1)

  pub least_is_one : LeastIsOne d
  least_is_one list a b f g = all_same list.names list.keys a b f.solves.assigns g.solves.assigns (f.least b g.solves) (g.least a f.solves)
