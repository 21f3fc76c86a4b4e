-- One key that calls itself with one more, over the numbers up to 3.
use Rattle.std.specs.Prelude.{ℕ, suc, ◌-◌, min, max, true, [], ◌∷◌, Option, Some, None}
use lib.Dec.{eqb, leb}
use Rattle.sk_rounds.specs.Walks.{Walks}
use Rattle.sk_rounds.specs.Marks.{Callers}
use Rattle.sk_rounds.specs.SecondPhase.{Meet}

-- the greater of a number and an answer
abbrev pub with_answer : ℕ → Option ℕ → ℕ
with_answer a None = a
with_answer a (Some b) = max a b

abbrev pub counting : Walks ℕ ℕ
counting =
    record {
      keys = 0 ∷ [];
      same = eqb;
      covers = record { key = 0; args = 0 } ∷ [];
      gives = λ answers k a. Some (with_answer a (answers 0));
      calls = λ answers k a. record { key = 0; args = min (suc a) 3 } ∷ [];
      fits = λ k s a. leb a 3;
      leq = leb;
      join = max;
      widen = max;
      is_finite = true;
      rank = λ a. 3 - a;
      cap = 4;
    }

-- the key is called by itself alone
abbrev pub counting_callers : Callers ℕ
counting_callers = record { may_call = λ j k. eqb k 0; most_callers = 1 }

-- the meet of two numbers is the lesser
abbrev pub lesser : Meet ℕ
lesser a b = Some (min a b)
