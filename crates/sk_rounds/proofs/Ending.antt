-- The rounds end within the bound, in an accepted table, which on finite domains is the least.
use Rattle.std.proofs.Common.{◌≡◌, ◌≢◌, ℕ, MatchBool, zero, suc, ◌*◌, Bool, true, false, length, ◌≤◌, refl, sym, subst, inl, inr, arith}
use Rattle.std.proofs.lemmas.Bool.{cases_Bool, both_ways}
use Rattle.sk_rounds.specs.Walks.{Table, Walks, WalksLaws, Lies, FitTable}
use Rattle.sk_rounds.specs.Rounds.{is_still, demands_of, table_after, IsLast, round_bound, IsAnalysed, IsAccepted}
use Rattle.sk_rounds.specs.Laws.{EndsWithin, RoundsLaws, IsLeastAccepted, LeastLaws}
use Rattle.sk_rounds.proofs.Climbs.{Steps, row_ends, one_end}
use Rattle.sk_rounds.proofs.Bearing.{bears_from, bears_less, first_below, lies_antisym}
use Rattle.sk_rounds.proofs.Rising.{total, after_good, next_least, total_capped, next_falls, stays_lies, still_stays, lies_still}

module _ (K E : Type 0) (w : Walks K E) (laws : WalksLaws w) where
  changes_now : (r : ℕ) → is_still w (table_after w r) (demands_of w (table_after w r)) ≡ false → table_after w (suc r) ≢ table_after w r
  changes_now r e same =
      both_ways (is_still w (table_after w r) (demands_of w (table_after w r))) e
      (lies_still K E w laws (table_after w r) (demands_of w (table_after w r)) (stays_lies K E w laws (suc r) (table_after w r) (after_good K E w laws r) same))

  decided : (r : ℕ) → MatchBool (is_still w (table_after w r) (demands_of w (table_after w r))) (table_after w (suc r) ≡ table_after w r) (table_after w (suc r) ≢ table_after w r)
  decided r = at (is_still w (table_after w r) (demands_of w (table_after w r))) refl
    where
      at : (b : Bool) → is_still w (table_after w r) (demands_of w (table_after w r)) ≡ b → MatchBool b (table_after w (suc r) ≡ table_after w r) (table_after w (suc r) ≢ table_after w r)
      at true e = still_stays K E w laws (suc r) (table_after w r) (after_good K E w laws r) e
      at false e = changes_now r e

  decide : (r : ℕ) → Steps (table_after w) (total w) r
  decide r =
      elim (cases_Bool (is_still w (table_after w r) (demands_of w (table_after w r)))) [
        | inl s ↦ inl (still_stays K E w laws (suc r) (table_after w r) (after_good K E w laws r) s)
        | inr n ↦ inr (changes_now r n, λ late. next_falls K E w laws (suc r) (table_after w r) (omega arith) (after_good K E w laws r) n)
      ]

  pub ends : EndsWithin (table_after w) (round_bound w)
  ends = row_ends (table_after w) (total w) (2 * length w.keys * w.cap) (λ r. total_capped K E w laws (table_after w r) (after_good K E w laws r).fits) decide

  pub last_lies : (last : ℕ) → IsLast w last → Lies w (demands_of w (table_after w last)) (table_after w last)
  last_lies last h = stays_lies K E w laws (suc last) (table_after w last) (after_good K E w laws last) h.still

  pub last_accepted : (last : ℕ) → IsLast w last → IsAccepted w (table_after w last)
  last_accepted last h = let g = after_good K E w laws last in bears_from K E w laws (table_after w last) (table_after w last) g.fits g.outside (last_lies last h)

  -- every round's table lies below every accepted one
  pub after_least : w.is_finite ≡ true → (U : Table K E) → FitTable w U → IsAccepted w U → (r : ℕ) → Lies w (table_after w r) U
  after_least fin U f a zero = first_below K E w laws U a.covers
  after_least fin U f a (suc r) =
      let le = after_least fin U f a r in
      next_least K E w laws fin (suc r) (table_after w r) U le (bears_less K E w laws (table_after w r) U U (after_good K E w laws r).fits f le a)

  pub analysed_in_time : (table : Table K E) (rounds : ℕ) → IsAnalysed w table rounds → rounds ≤ round_bound w
  analysed_in_time table rounds a = omega (arith, a.rounds_is, one_end (table_after w) a.last ends.last a.is_last ends.is_last, ends.in_time)

  pub analysed_accepted : (table : Table K E) (rounds : ℕ) → IsAnalysed w table rounds → IsAccepted w table
  analysed_accepted table rounds a = subst (IsAccepted w) (sym a.table_is) (last_accepted a.last a.is_last)

  pub analysed_fits : (table : Table K E) (rounds : ℕ) → IsAnalysed w table rounds → FitTable w table
  analysed_fits table rounds a = subst (FitTable w) (sym a.table_is) (after_good K E w laws a.last).fits

  pub rounds_laws : RoundsLaws w
  rounds_laws =
      record {
        ends = ends;
        one_end = one_end (table_after w);
        in_time = analysed_in_time;
        accepted = analysed_accepted;
        fits = analysed_fits;
        decided = decided;
      }

  pub analysed_least : w.is_finite ≡ true → (table : Table K E) (rounds : ℕ) → IsAnalysed w table rounds → IsLeastAccepted w table
  analysed_least fin table rounds a =
      record {
        fits = analysed_fits table rounds a;
        accepted = analysed_accepted table rounds a;
        least = λ U f h. subst (λ T. Lies w T U) (sym a.table_is) (after_least fin U f h a.last);
      }

  pub least_laws : w.is_finite ≡ true → LeastLaws w
  least_laws fin =
      record {
        least = analysed_least fin;
        least_only = λ table rounds a U l.
            let t = analysed_least fin table rounds a in
            lies_antisym K E w laws U table (l.least table t.fits t.accepted) (t.least U l.fits l.accepted);
      }
