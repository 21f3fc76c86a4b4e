-- One key that calls itself with one more, over the numbers up to 3: the laws can be met, and the rounds compute.
use Rattle.std.proofs.Common.{◌≡◌, ◌≢◌, ℕ, zero, suc, ◌<◌, ◌≤◌, min, max, Bool, true, false, Option, Some, None, count_by, refl, ap, sym, arith}
use lib.Dec.{eqb}
use Rattle.std.proofs.lemmas.Bool.{eqb-true, eq-eqb, leb-true, le-leb, false≢true}
use Rattle.sk_rounds.specs.Walks.{Outputs, side_leq, FitSide, OrderLaws, WidenLaws, WalkLaws, WalksLaws}
use Rattle.sk_rounds.specs.Rounds.{table_after, IsAnalysed}
use Rattle.sk_rounds.specs.Laws.{RoundsLaws}
use Rattle.sk_rounds.specs.Marks.{CallerLaws}
use Rattle.sk_rounds.specs.SecondPhase.{MeetLaws}
use Rattle.sk_rounds.specs.Example.{with_answer, counting, counting_callers, lesser}
use Rattle.sk_rounds.proofs.Ending.{rounds_laws}

order_laws : OrderLaws counting
order_laws =
    record {
      same_refl = λ k. eq-eqb k k refl;
      same_only = λ j k e. eqb-true j k e;
      leq_refl = λ a. le-leb a a (omega arith);
      leq_trans = λ a b c p q. le-leb a c (omega (arith, leb-true a b p, leb-true b c q));
      leq_antisym = λ a b p q. omega (arith, leb-true a b p, leb-true b a q);
      join_left = λ k p a b f g. le-leb a (max a b) (omega arith);
      join_right = λ k p a b f g. le-leb b (max a b) (omega arith);
      join_least = λ a b c p q. le-leb (max a b) c (omega (arith, leb-true a c p, leb-true b c q));
      join_fits = λ k p a b f g. le-leb (max a b) 3 (omega (arith, leb-true a 3 f, leb-true b 3 g));
    }

widen_laws : WidenLaws counting
widen_laws =
    record {
      widen_left = λ k p a b f g. le-leb a (max a b) (omega arith);
      widen_right = λ k p a b f g. le-leb b (max a b) (omega arith);
      widen_fits = λ k p a b f g. le-leb (max a b) 3 (omega (arith, leb-true a 3 f, leb-true b 3 g));
      widen_finite = λ e a b. refl;
      rank_falls = λ k p a b f g n. omega (arith, leb-true a 3 f, leb-true b 3 g, n);
      rank_capped = λ k p a f. omega arith;
    }

answer_fits : (a : ℕ) (x : Option ℕ) → a ≤ 3 → FitSide counting 0 Outputs x → with_answer a x ≤ 3
answer_fits a None le f = le
answer_fits a (Some b) le f = omega (arith, leb-true b 3 f)

answer_more : (a b : ℕ) (x y : Option ℕ) → a ≤ b → side_leq counting x y ≡ true → with_answer a x ≤ with_answer b y
answer_more a b None None le e = le
answer_more a b None (Some d) le e = omega arith
answer_more a b (Some c) (Some d) le e = omega (arith, leb-true c d e)
answer_more a b (Some c) None le e = absurd (false≢true e)

side_at : (a b : ℕ) (x : Option ℕ) → a ≤ b → side_leq counting (Some b) x ≡ true → side_leq counting (Some a) x ≡ true
side_at a b None le e = e
side_at a b (Some c) le e = le-leb a c (omega (arith, leb-true b c e))

walk_laws : WalkLaws counting
walk_laws =
    record {
      covers_good = ((refl, refl), tt);
      gives_fit = λ answers k a f g. le-leb (with_answer a (answers 0)) 3 (answer_fits a (answers 0) (leb-true a 3 g) (f 0));
      calls_good = λ answers k a f g. ((refl, le-leb (min (suc a) 3) 3 (omega arith)), tt);
      gives_more = λ less more k a b f g fa fb le e. le-leb (with_answer a (less 0)) (with_answer b (more 0)) (answer_more a b (less 0) (more 0) (leb-true a b e) (le 0));
      calls_more = λ less more k a b f g fa fb le e above h. (side_at (min (suc a) 3) (min (suc b) 3) (above 0) (omega (arith, leb-true a b e)) h.0, tt);
    }

pub counting_laws : WalksLaws counting
counting_laws = record { order = order_laws; widening = widen_laws; walk = walk_laws }

counted : RoundsLaws counting
counted = rounds_laws _ _ counting counting_laws

-- the fourth round is the last that changes something
pub counting_ends : IsAnalysed counting (table_after counting 4) 5
counting_ends = record { last = 4; is_last = record { still = counted.decided 4; earlier = earlier }; table_is = refl; rounds_is = refl }
  where
    earlier : (r : ℕ) → r < 4 → table_after counting (suc r) ≢ table_after counting r
    earlier zero lt = counted.decided 0
    earlier (suc zero) lt = counted.decided 1
    earlier (suc (suc zero)) lt = counted.decided 2
    earlier (suc (suc (suc zero))) lt = counted.decided 3
    earlier (suc (suc (suc (suc r)))) lt = absurd (omega arith)

one_key : (b : Bool) → count_by (λ (j : ℕ). b) counting.keys ≤ 1
one_key true = omega arith
one_key false = omega arith

pub caller_laws : CallerLaws counting counting_callers
caller_laws =
    record {
      gives_alike = λ answers others k a h. ap (λ x. Some (with_answer a x)) (sym h.0);
      calls_alike = λ answers others k a h. refl;
      may_calls = λ answers k a. (refl, tt);
      few_callers = λ k. one_key (eqb k 0);
      some_caller = omega arith;
    }

pub meet_laws : MeetLaws counting lesser
meet_laws =
    record {
      meet_left = λ k p a b f g. le-leb (min a b) a (omega arith);
      meet_right = λ k p a b f g. le-leb (min a b) b (omega arith);
      meet_greatest = λ k p a b c f g h le ge. le-leb c (min a b) (omega (arith, leb-true c a le, leb-true c b ge));
      meet_fits = λ k p a b f g. le-leb (min a b) 3 (omega (arith, leb-true a 3 f, leb-true b 3 g));
    }
