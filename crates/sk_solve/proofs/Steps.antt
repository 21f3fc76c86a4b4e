-- Steps one after another.
use Rattle.std.proofs.Common.{◌≡◌, ◌<◌, Bool, true, false, ◌||◌, List, refl, sym, ◌∙◌, subst, arith}
use Rattle.sk_lattice.specs.Domain.{Domain}
use Rattle.sk_constr.specs.declared.constraint_list.ConstraintList.{ConstraintList}
use Rattle.sk_solve.specs.declared.assignment.Solved.{Solved}
use Rattle.sk_solve.specs.Climbing.{total_rank, IsUnderway, IsStep}

module _ (D : Type 0) (d : Domain D) (list : ConstraintList D) where
  -- nothing is to be changed
  pub still_step : (H : List (Solved D) → Type 0) (a : List (Solved D)) → IsUnderway d list a → H a → IsStep d list H a a false
  still_step H a u h = record { underway = u; falls = λ e. absurd (cc); still = λ e. (refl, h) }

  -- a step brings about what follows where it changes nothing
  pub step_more : (H K : List (Solved D) → Type 0) (a b : List (Solved D)) (c : Bool) → (H a → K a) → IsStep d list H a b c → IsStep d list K a b c
  step_more H K a b c more step =
      record {
        underway = step.underway;
        falls = step.falls;
        still = λ e. let s = step.still e in (s.0, subst K (sym s.0) (more (subst H s.0 s.1)));
      }

  -- a step that changes nothing ends where it began
  pub step_here : (H : List (Solved D) → Type 0) (a b : List (Solved D)) (c : Bool) → IsStep d list H a b c → IsStep d list (λ x. H x × (x ≡ b)) a b c
  step_here H a b c step = record { underway = step.underway; falls = step.falls; still = λ e. let s = step.still e in (s.0, (s.1, refl)) }

  pub two_steps : (H K : List (Solved D) → Type 0) (a b e : List (Solved D)) (f g : Bool) → IsStep d list H a b f → IsStep d list K b e g → IsStep d list (λ x. H x × K x) a e (f || g)
  two_steps H K a b e true true s t = record { underway = t.underway; falls = λ _. omega (arith, s.falls refl, t.falls refl); still = λ z. absurd (cc) }
  two_steps H K a b e true false s t =
      let same = (t.still refl).0 in
      record { underway = t.underway; falls = λ _. subst (λ z. total_rank d list z < total_rank d list a) (sym same) (s.falls refl); still = λ z. absurd (cc) }
  two_steps H K a b e false true s t =
      let same = (s.still refl).0 in
      record { underway = t.underway; falls = λ _. subst (λ z. total_rank d list e < total_rank d list z) same (t.falls refl); still = λ z. absurd (cc) }
  two_steps H K a b e false false s t =
      let p = s.still refl in
      let q = t.still refl in
      record { underway = t.underway; falls = λ z. absurd (cc); still = λ _. (q.0 ∙ p.0, (subst H (sym q.0) p.1, q.1)) }
