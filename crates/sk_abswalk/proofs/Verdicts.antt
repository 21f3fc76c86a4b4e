-- Yes is the verdict exactly on accepted tables.
use Rattle.std.proofs.Common.{◌≡◌, ℕ, ◌+◌, Bool, true, not, cond, List, [], ◌∷◌, Option, Some, None, refl, sym, subst}
use Rattle.std.specs.Prelude.{find}
use Rattle.std.specs.List.{AllByRecursion, enumerate_from}
use Rattle.std.specs.Option.{option_map, option_map_or}
use Rattle.std.proofs.lemmas.Bool.{cond_both, not-false}
use Rattle.std.proofs.lemmas.List.Elements.{All-from_recursion, recursion_from_All}
use Rattle.sk_deriv.specs.Moves.{Setting}
use Rattle.sk_lattice.specs.Domain.{Domain}
use Rattle.sk_table.specs.declared.triple.Triple.{Triple}
use Rattle.sk_table.specs.declared.triple.Cover.{Cover}
use Rattle.sk_abswalk.specs.declared.verdict.Why.{Why}
use Rattle.sk_abswalk.specs.declared.verdict.Verdict.{Verdict}
use Rattle.sk_abswalk.specs.Walk.{abstract_outputs}
use Rattle.sk_abswalk.specs.Tables.{table_answer, call_of, is_justified, is_covered, IsAccepted}
use Rattle.sk_abswalk.specs.Verdict.{why_of, first_failing, covers_verdict, verdict_of, VerdictsAreRight}

module _ {A : Type 0} (test : A → Bool) where
  -- what none fails all pass
  all_pass : (n : ℕ) (xs : List A) → find (λ e. not (test e.1)) (enumerate_from n xs) ≡ None → AllByRecursion (λ x. test x ≡ true) xs
  all_pass n [] e = tt
  all_pass n (x ∷ xs) e =
      cond_both (not (test x)) (Some (n, x)) (find (λ e. not (test e.1)) (enumerate_from (n + 1) xs)) (λ o. o ≡ None → AllByRecursion (λ x. test x ≡ true) (x ∷ xs))
      (λ _ e. absurd cc) (λ h e. (not-false (test x) h, all_pass (n + 1) xs e)) e

  none_fails : (n : ℕ) (xs : List A) → AllByRecursion (λ x. test x ≡ true) xs → find (λ e. not (test e.1)) (enumerate_from n xs) ≡ None
  none_fails n [] h = refl
  none_fails n (x ∷ xs) h =
      subst (λ t. cond (not t) (Some (n, x)) (find (λ e. not (test e.1)) (enumerate_from (n + 1) xs)) ≡ None) (sym h.0) (none_fails (n + 1) xs h.1)

module _ (D : Type 0) (d : Domain D) (s : Setting) (covers : List (Cover D)) (table : List (Triple D)) where
  not_yes : (k : ℕ) (why : Option (Why D)) → option_map (Verdict.Unjustified k) why ≡ Some Verdict.Yes → ⊥
  not_yes k None e = absurd cc
  not_yes k (Some w) e = absurd cc

  -- what yes says of the triples, and of the cover lines
  justified_at : (o : Option (ℕ × Triple D)) → option_map_or (λ e. option_map (Verdict.Unjustified e.0) (why_of (abstract_outputs d (table_answer d table) s (call_of e.1)))) o (Some (covers_verdict d covers table)) ≡ Some Verdict.Yes → (o ≡ None) × (covers_verdict d covers table ≡ Verdict.Yes)
  justified_at None e = (refl, cc)
  justified_at (Some x) e = absurd (not_yes x.0 _ e)

  covered_at : (o : Option (ℕ × Cover D)) → ◌≡◌ {A = Verdict D} (option_map_or (λ e. Verdict.CoverMissing e.0) o Verdict.Yes) Verdict.Yes → o ≡ None
  covered_at None e = refl
  covered_at (Some x) e = absurd cc

  accepted : verdict_of d s covers table ≡ Some Verdict.Yes → IsAccepted d s covers table
  accepted e =
      let p = justified_at (first_failing (is_justified d s table) table) e in
      record {
        justified = All-from_recursion _ table (all_pass (is_justified d s table) 1 table p.0);
        covered = All-from_recursion _ covers (all_pass (is_covered d table) 1 covers (covered_at (first_failing (is_covered d table) covers) p.1));
      }

  yes : IsAccepted d s covers table → verdict_of d s covers table ≡ Some Verdict.Yes
  yes h =
      let first = none_fails (is_justified d s table) 1 table (recursion_from_All _ table h.justified) in
      let line = none_fails (is_covered d table) 1 covers (recursion_from_All _ covers h.covered) in
      rw (first, line) refl

pub verdicts_are_right : (D : Type 0) (d : Domain D) → VerdictsAreRight d
verdicts_are_right D d s covers table = (accepted D d s covers table, yes D d s covers table)
