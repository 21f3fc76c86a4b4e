-- The rounds that were made: each changed the table.
use Rattle.std.proofs.Common.{◌≡◌, ◌≢◌, ℕ, suc, ◌+◌, ◌<◌, ◌≤◌, refl, sym, ◌∙◌, ap₂, subst, inl, inr, arith}
use Rattle.std.proofs.lemmas.Bool.{cases_order, cases_lt}
use Rattle.sk_rounds.specs.Walks.{Table, Walks, WalksLaws}
use Rattle.sk_rounds.specs.Rounds.{first_table, next_table, table_after, round_bound, IsAnalysed}
use Rattle.sk_rounds.proofs.Ending.{ends}

pub record SoFar {K E : Type 0} (w : Walks K E) (T : Table K E) (round : ℕ) : Type 0 where
  pub made : ℕ
  pub round_is : round ≡ suc made
  pub table_is : T ≡ table_after w made
  pub changed : (m : ℕ) → m < made → table_after w (suc m) ≢ table_after w m

pub begins : {K E : Type 0} (w : Walks K E) (T : Table K E) → T ≡ first_table w → SoFar w T 1
begins w T e = record { made = 0; round_is = refl; table_is = e; changed = λ m lt. absurd (omega arith) }

next_is : {K E : Type 0} (w : Walks K E) (T U : Table K E) (round : ℕ) (s : SoFar w T round) → U ≡ next_table w round T → U ≡ table_after w (suc s.made)
next_is w T U round s e = e ∙ ap₂ (next_table w) s.round_is s.table_is

pub goes_on : {K E : Type 0} (w : Walks K E) (T U : Table K E) (round : ℕ) → SoFar w T round → U ≡ next_table w round T → U ≢ T → SoFar w U (round + 1)
goes_on w T U round s e n =
    record { made = suc s.made; round_is = omega (arith, s.round_is); table_is = next_is w T U round s e; changed = changed }
  where
    changed : (m : ℕ) → m < suc s.made → table_after w (suc m) ≢ table_after w m
    changed m lt =
        elim (cases_order m s.made) [
          | inl same ↦ subst (λ i. table_after w (suc i) ≢ table_after w i) (sym same) (λ h. n (next_is w T U round s e ∙ h ∙ sym s.table_is))
          | inr (inl less) ↦ s.changed m less
          | inr (inr more) ↦ absurd (omega arith)
        ]

pub finishes : {K E : Type 0} (w : Walks K E) (T U : Table K E) (round : ℕ) → SoFar w T round → U ≡ next_table w round T → U ≡ T → IsAnalysed w U round
finishes w T U round s e same =
    record {
      last = s.made;
      is_last = record { still = sym (next_is w T U round s e) ∙ same ∙ s.table_is; earlier = s.changed };
      table_is = same ∙ s.table_is;
      rounds_is = s.round_is;
    }

pub in_time : {K E : Type 0} (w : Walks K E) (T : Table K E) (round : ℕ) → WalksLaws w → SoFar w T round → round ≤ round_bound w
in_time {K} {E} w T round laws s =
    let e = ends K E w laws in
    elim (cases_lt e.last s.made) [
      | inl early ↦ absurd (s.changed e.last early e.is_last.still)
      | inr late ↦ omega (arith, s.round_is, e.in_time)
    ]
