-- What a verdict that isn't yes says.
use Rattle.std.specs.Prelude.{◌≡◌, ◌↔◌, ℕ, ◌+◌, Bool, true, false, List, ◌∷◌, ◌++◌, length, Some, All}
use Rattle.sk_deriv.specs.Moves.{Setting}
use Rattle.sk_lattice.specs.Domain.{Domain}
use Rattle.sk_absfilter.specs.Laws.{outcome_leq}
use Rattle.sk_table.specs.declared.triple.Triple.{Triple}
use Rattle.sk_table.specs.declared.triple.Cover.{Cover}
use Rattle.sk_abswalk.specs.declared.verdict.Why.{Why}
use Rattle.sk_abswalk.specs.declared.verdict.Verdict.{Verdict}
use Rattle.sk_abswalk.specs.Walk.{uncovered, with, abstract_outputs}
use Rattle.sk_abswalk.specs.Tables.{table_answer, call_of, is_above, is_justified, is_covered}
use Rattle.sk_abswalk.specs.Verdict.{verdict_of}

-- the entry of this number, from 1, fails the test, and all before it pass
pub record FirstFails {A : Type 0} (test : A → Bool) (xs : List A) (number : ℕ) (x : A) : Type 0 where
  pub before : List A
  pub after : List A
  pub entries_are : xs ≡ before ++ x ∷ after
  pub number_is : number ≡ length before + 1
  pub others_pass : All (λ y. test y ≡ true) before
  pub fails : test x ≡ false

-- a cause is one: the walk from the triple's inputs, answered from the table, stops at this call, and no triple of the
-- table lies above it; or it ends in these outputs, and they don't lie below the triple's
abbrev pub Explains : {D : Type 0} → Domain D → Setting → List (Triple D) → Triple D → Why D → Type 0
Explains d s table triple (Why.Uncovered hook point ins) =
    (abstract_outputs d (table_answer d table) s (call_of triple) ≡ uncovered (record { hook = hook; point = point; ins = ins }))
    × All (λ other. is_above d (record { hook = hook; point = point; ins = ins }) other ≡ false) table
Explains d s table triple (Why.Larger outs) =
    (abstract_outputs d (table_answer d table) s (call_of triple) ≡ with (Some outs)) × (outcome_leq d (Some outs) triple.outs ≡ false)

-- the triple of this number is the first that isn't justified, and this is its cause
pub record IsUnjustified {D : Type 0} (d : Domain D) (s : Setting) (table : List (Triple D)) (number : ℕ) (why : Why D) : Type 0 where
  pub triple : Triple D
  pub first : FirstFails (is_justified d s table) table number triple
  pub cause : Explains d s table triple why

-- all triples are justified, and the cover line of this number is the first that lies below none
pub record IsMissing {D : Type 0} (d : Domain D) (s : Setting) (covers : List (Cover D)) (table : List (Triple D)) (number : ℕ) : Type 0 where
  pub justified : All (λ triple. is_justified d s table triple ≡ true) table
  pub line : Cover D
  pub first : FirstFails (is_covered d table) covers number line

-- the laws of verdicts that aren't yes: each is the verdict exactly where it is so
abbrev pub UnjustifiedIsRight : {D : Type 0} → Domain D → Type 0
UnjustifiedIsRight {D} d =
    (s : Setting) (covers : List (Cover D)) (table : List (Triple D)) (number : ℕ) (why : Why D) →
    verdict_of d s covers table ≡ Some (Verdict.Unjustified number why) ↔ IsUnjustified d s table number why

abbrev pub CoverMissingIsRight : {D : Type 0} → Domain D → Type 0
CoverMissingIsRight {D} d =
    (s : Setting) (covers : List (Cover D)) (table : List (Triple D)) (number : ℕ) →
    verdict_of d s covers table ≡ Some (Verdict.CoverMissing number) ↔ IsMissing d s covers table number
