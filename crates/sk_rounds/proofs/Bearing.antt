-- Joined calls, what a table demands, and tables that bear what another one's walks tell.
use Rattle.std.proofs.Common.{◌≡◌, true, false, cond, List, [], ◌∷◌, ◌++◌, Option, Some, None, flat_map, refl, sym, ◌∙◌, ap, subst, inl, inr}
use Rattle.std.specs.List.{AllByRecursion}
use Rattle.std.proofs.lemmas.Bool.{false≢true, cond_both, cond-true, cond-false, both_ways, cases_Bool}
use Rattle.sk_rounds.specs.Walks.{Side, Inputs, Outputs, Call, Table, Walks, WalksLaws, side_leq, Lies, is_key, FitSide, FitTable, FitAnswers, GoodCalls, CallsBelow}
use Rattle.sk_rounds.specs.Rounds.{Told, own_answer, told_at, told, side_join, join_calls, demands_of, first_table, Justified, Bears}
use Rattle.sk_rounds.proofs.Lists.{all_append, all_first, all_second, all_more, all_flat, flat_all, all_at}
use Rattle.sk_rounds.proofs.Sides.{side_refl, side_trans, side_antisym, side_join_left, side_join_right, side_join_least, side_join_fits}

-- the table has nothing but keys of the program
abbrev pub Outside : {K E : Type 0} → Walks K E → Table K E → Type 0
Outside {K} w T = (k : K) → is_key w k ≡ false → (p : Side) → T k p ≡ None

-- all that is told: the cover lines, and the calls of every key
abbrev pub all_calls : {K E : Type 0} → Walks K E → (K → Told K E) → List (Call K E)
all_calls w tells = w.covers ++ flat_map (λ j. (tells j).calls) w.keys

module _ (K E : Type 0) (w : Walks K E) (laws : WalksLaws w) where
  pub join_calls_fits : (k : K) (cs : List (Call K E)) → GoodCalls w cs → FitSide w k Inputs (join_calls w k cs)
  join_calls_fits k [] h = tt
  join_calls_fits k (c ∷ cs) h =
      let rest = join_calls_fits k cs h.1 in
      cond_both (w.same c.key k) (side_join w (Some c.args) (join_calls w k cs)) (join_calls w k cs) (FitSide w k Inputs)
      (λ e. side_join_fits K E w laws k Inputs (Some c.args) (join_calls w k cs) (subst (λ j. w.fits j Inputs c.args ≡ true) (laws.order.same_only c.key k e) h.0.1) rest)
      (λ _. rest)

  join_calls_grow : (k : K) (c : Call K E) (cs : List (Call K E)) → GoodCalls w (c ∷ cs) → side_leq w (join_calls w k cs) (join_calls w k (c ∷ cs)) ≡ true
  join_calls_grow k c cs h =
      cond_both (w.same c.key k) (side_join w (Some c.args) (join_calls w k cs)) (join_calls w k cs) (λ z. side_leq w (join_calls w k cs) z ≡ true)
      (λ e. side_join_right K E w laws k Inputs (Some c.args) (join_calls w k cs) (subst (λ j. w.fits j Inputs c.args ≡ true) (laws.order.same_only c.key k e) h.0.1) (join_calls_fits k cs h.1))
      (λ _. side_refl K E w laws (join_calls w k cs))

  pub join_calls_over : (cs : List (Call K E)) → GoodCalls w cs → CallsBelow w cs (λ j. join_calls w j cs)
  join_calls_over [] h = tt
  join_calls_over (c ∷ cs) h = (
    subst (λ z. side_leq w (Some c.args) z ≡ true) (sym (cond-true (w.same c.key c.key) (side_join w (Some c.args) (join_calls w c.key cs)) (join_calls w c.key cs) (laws.order.same_refl c.key))) (side_join_left K E w laws c.key Inputs (Some c.args) (join_calls w c.key cs) h.0.1 (join_calls_fits c.key cs h.1)),
    all_more (λ (d : Call K E). side_leq w (Some d.args) (join_calls w d.key cs) ≡ true) (λ (d : Call K E). side_leq w (Some d.args) (join_calls w d.key (c ∷ cs)) ≡ true) (λ d q. side_trans K E w laws (Some d.args) (join_calls w d.key cs) (join_calls w d.key (c ∷ cs)) q (join_calls_grow d.key c cs h)) cs (join_calls_over cs h.1),
  )

  pub join_calls_least : (cs : List (Call K E)) (above : K → Option E) → CallsBelow w cs above → (k : K) → side_leq w (join_calls w k cs) (above k) ≡ true
  join_calls_least [] above h k = refl
  join_calls_least (c ∷ cs) above h k =
      let rest = join_calls_least cs above h.1 k in
      cond_both (w.same c.key k) (side_join w (Some c.args) (join_calls w k cs)) (join_calls w k cs) (λ z. side_leq w z (above k) ≡ true)
      (λ e. side_join_least K E w laws (Some c.args) (join_calls w k cs) (above k) (subst (λ j. side_leq w (Some c.args) (above j) ≡ true) (laws.order.same_only c.key k e) h.0) rest)
      (λ _. rest)

  pub join_calls_outside : (k : K) → is_key w k ≡ false → (cs : List (Call K E)) → GoodCalls w cs → join_calls w k cs ≡ None
  join_calls_outside k out [] h = refl
  join_calls_outside k out (c ∷ cs) h =
      cond_both (w.same c.key k) (side_join w (Some c.args) (join_calls w k cs)) (join_calls w k cs) (λ z. z ≡ None)
      (λ e. absurd (both_ways (is_key w k) out (subst (λ j. is_key w j ≡ true) (laws.order.same_only c.key k e) h.0.0)))
      (λ _. join_calls_outside k out cs h.1)

  -- calls that lie below one thing lie below what lies above it
  pub calls_below_more : (cs : List (Call K E)) (above higher : K → Option E) → ((k : K) → side_leq w (above k) (higher k) ≡ true) → CallsBelow w cs above → CallsBelow w cs higher
  calls_below_more cs above higher le =
      all_more (λ (d : Call K E). side_leq w (Some d.args) (above d.key) ≡ true) (λ (d : Call K E). side_leq w (Some d.args) (higher d.key) ≡ true) (λ d q. side_trans K E w laws (Some d.args) (above d.key) (higher d.key) q (le d.key)) cs

  told_at_fits : (answers : K → Option E) → FitAnswers w answers → (k : K) (x : Option E) → FitSide w k Inputs x → FitSide w k Outputs (told_at w answers k x).gives
  told_at_fits answers f k None g = tt
  told_at_fits answers f k (Some a) g = laws.walk.gives_fit answers k a f g

  told_at_good : (answers : K → Option E) → FitAnswers w answers → (k : K) (x : Option E) → FitSide w k Inputs x → GoodCalls w (told_at w answers k x).calls
  told_at_good answers f k None g = tt
  told_at_good answers f k (Some a) g = laws.walk.calls_good answers k a f g

  pub told_fits : (T : Table K E) → FitTable w T → (k : K) → FitSide w k Outputs (told w T k).gives
  told_fits T f k = told_at_fits (own_answer T) (λ j. f j Outputs) k (T k Inputs) (f k Inputs)

  pub told_good : (T : Table K E) → FitTable w T → (k : K) → GoodCalls w (told w T k).calls
  told_good T f k = told_at_good (own_answer T) (λ j. f j Outputs) k (T k Inputs) (f k Inputs)

  all_good : (T : Table K E) → FitTable w T → GoodCalls w (all_calls w (told w T))
  all_good T f = all_append _ w.covers (flat_map (λ j. (told w T j).calls) w.keys) laws.walk.covers_good (all_flat _ (λ j. (told w T j).calls) (told_good T f) w.keys)

  pub f_fits : (T : Table K E) → FitTable w T → FitTable w (demands_of w T)
  f_fits T f k Inputs = join_calls_fits k (all_calls w (told w T)) (all_good T f)
  f_fits T f k Outputs = told_fits T f k

  -- a key that the table lacks tells nothing
  pub told_nothing : (T : Table K E) (k : K) → T k Inputs ≡ None → told w T k ≡ record { gives = None; calls = [] }
  told_nothing T k e = ap (told_at w (own_answer T) k) e

  pub f_outside : (T : Table K E) → FitTable w T → Outside w T → Outside w (demands_of w T)
  f_outside T f out k n Inputs = join_calls_outside k n (all_calls w (told w T)) (all_good T f)
  f_outside T f out k n Outputs = ap (λ (t : Told K E). t.gives) (told_nothing T k (out k n Inputs))

  pub f_below : (T U : Table K E) → Bears w T U → Lies w (demands_of w T) U
  f_below T U b k Inputs =
      join_calls_least (all_calls w (told w T)) (λ j. U j Inputs) (all_append _ w.covers (flat_map (λ j. (told w T j).calls) w.keys) b.covers (all_flat _ (λ j. (told w T j).calls) (λ j. (b.justified j).calls) w.keys)) k
  f_below T U b k Outputs = (b.justified k).gives

  pub justified_nothing : (T U : Table K E) (k : K) → T k Inputs ≡ None → Justified w T U k
  justified_nothing T U k e =
      let n = told_nothing T k e in
      record {
        calls = subst (λ (t : Told K E). CallsBelow w t.calls (λ j. U j Inputs)) (sym n) tt;
        gives = subst (λ (t : Told K E). side_leq w t.gives (U k Outputs) ≡ true) (sym n) refl;
      }

  pub bears_from : (T U : Table K E) → FitTable w T → Outside w T → Lies w (demands_of w T) U → Bears w T U
  bears_from T U f out le = record { covers = all_first _ w.covers (flat_map (λ j. (told w T j).calls) w.keys) below; justified = at }
    where
      below : CallsBelow w (all_calls w (told w T)) (λ j. U j Inputs)
      below = calls_below_more (all_calls w (told w T)) (λ j. demands_of w T j Inputs) (λ j. U j Inputs) (λ j. le j Inputs) (join_calls_over (all_calls w (told w T)) (all_good T f))

      each : AllByRecursion (λ j. CallsBelow w (told w T j).calls (λ i. U i Inputs)) w.keys
      each = flat_all _ (λ j. (told w T j).calls) w.keys (all_second _ w.covers (flat_map (λ j. (told w T j).calls) w.keys) below)

      at : (k : K) → Justified w T U k
      at k =
          elim (cases_Bool (is_key w k)) [
            | inl e ↦ record {
              calls = all_at (λ j. CallsBelow w (told w T j).calls (λ i. U i Inputs)) (w.same k) (CallsBelow w (told w T k).calls (λ i. U i Inputs)) (λ j s p. subst (λ i. CallsBelow w (told w T i).calls (λ i. U i Inputs)) (sym (laws.order.same_only k j s)) p) w.keys each e;
              gives = le k Outputs;
            }
            | inr e ↦ justified_nothing T U k (out k e Inputs)
          ]

  calls_less : (less more : K → Option E) (k : K) (x y : Option E) → FitAnswers w less → FitAnswers w more → ((j : K) → side_leq w (less j) (more j) ≡ true) → FitSide w k Inputs x → FitSide w k Inputs y → side_leq w x y ≡ true → (above : K → Option E) → CallsBelow w (told_at w more k y).calls above → CallsBelow w (told_at w less k x).calls above
  calls_less less more k None y f g le fx fy p above h = tt
  calls_less less more k (Some a) (Some b) f g le fx fy p above h = laws.walk.calls_more less more k a b f g fx fy le p above h
  calls_less less more k (Some a) None f g le fx fy p above h = absurd (false≢true p)

  pub gives_less : (less more : K → Option E) (k : K) (x y : Option E) → FitAnswers w less → FitAnswers w more → ((j : K) → side_leq w (less j) (more j) ≡ true) → FitSide w k Inputs x → FitSide w k Inputs y → side_leq w x y ≡ true → side_leq w (told_at w less k x).gives (told_at w more k y).gives ≡ true
  gives_less less more k None y f g le fx fy p = refl
  gives_less less more k (Some a) (Some b) f g le fx fy p = laws.walk.gives_more less more k a b f g fx fy le p
  gives_less less more k (Some a) None f g le fx fy p = absurd (false≢true p)

  -- what a table bears of a greater one's walks it bears of a lesser one's
  pub justified_less : (T U V : Table K E) → FitTable w T → FitTable w U → Lies w T U → (k : K) → Justified w U V k → Justified w T V k
  justified_less T U V f g le k b =
      record {
        calls = calls_less (own_answer T) (own_answer U) k (T k Inputs) (U k Inputs) (λ j. f j Outputs) (λ j. g j Outputs) (λ j. le j Outputs) (f k Inputs) (g k Inputs) (le k Inputs) (λ j. V j Inputs) b.calls;
        gives = side_trans K E w laws (told w T k).gives (told w U k).gives (V k Outputs) (gives_less (own_answer T) (own_answer U) k (T k Inputs) (U k Inputs) (λ j. f j Outputs) (λ j. g j Outputs) (λ j. le j Outputs) (f k Inputs) (g k Inputs) (le k Inputs)) b.gives;
      }

  pub bears_less : (T U V : Table K E) → FitTable w T → FitTable w U → Lies w T U → Bears w U V → Bears w T V
  bears_less T U V f g le b = record { covers = b.covers; justified = λ k. justified_less T U V f g le k (b.justified k) }

  -- the first table
  pub first_fits : FitTable w (first_table w)
  first_fits k Inputs = join_calls_fits k w.covers laws.walk.covers_good
  first_fits k Outputs = tt

  pub first_outside : Outside w (first_table w)
  first_outside k n Inputs = join_calls_outside k n w.covers laws.walk.covers_good
  first_outside k n Outputs = refl

  pub first_below : (U : Table K E) → CallsBelow w w.covers (λ j. U j Inputs) → Lies w (first_table w) U
  first_below U h k Inputs = join_calls_least w.covers (λ j. U j Inputs) h k
  first_below U h k Outputs = refl

  -- tables that lie below each other are one
  pub lies_antisym : (T U : Table K E) → Lies w T U → Lies w U T → T ≡ U
  lies_antisym T U p q = λ i k s. side_antisym K E w laws (T k s) (U k s) (p k s) (q k s) i

  pub lies_refl : (T : Table K E) → Lies w T T
  lies_refl T k p = side_refl K E w laws (T k p)

  pub lies_trans : (T U V : Table K E) → Lies w T U → Lies w U V → Lies w T V
  lies_trans T U V p q k s = side_trans K E w laws (T k s) (U k s) (V k s) (p k s) (q k s)

  -- joins in any order
  pub side_join_assoc : (k : K) (p : Side) (x y z : Option E) → FitSide w k p x → FitSide w k p y → FitSide w k p z → side_join w (side_join w x y) z ≡ side_join w x (side_join w y z)
  side_join_assoc k p x y z f g h =
      let fxy = side_join_fits K E w laws k p x y f g in
      let fyz = side_join_fits K E w laws k p y z g h in
      let l = side_join_left K E w laws k p (side_join w x y) z fxy h in
      let r = side_join_right K E w laws k p x (side_join w y z) f fyz in
      side_antisym K E w laws (side_join w (side_join w x y) z) (side_join w x (side_join w y z))
      (side_join_least K E w laws (side_join w x y) z (side_join w x (side_join w y z))
      (side_join_least K E w laws x y (side_join w x (side_join w y z)) (side_join_left K E w laws k p x (side_join w y z) f fyz) (side_trans K E w laws y (side_join w y z) (side_join w x (side_join w y z)) (side_join_left K E w laws k p y z g h) r))
      (side_trans K E w laws z (side_join w y z) (side_join w x (side_join w y z)) (side_join_right K E w laws k p y z g h) r))
      (side_join_least K E w laws x (side_join w y z) (side_join w (side_join w x y) z)
      (side_trans K E w laws x (side_join w x y) (side_join w (side_join w x y) z) (side_join_left K E w laws k p x y f g) l)
      (side_join_least K E w laws y z (side_join w (side_join w x y) z) (side_trans K E w laws y (side_join w x y) (side_join w (side_join w x y) z) (side_join_right K E w laws k p x y f g) l) (side_join_right K E w laws k p (side_join w x y) z fxy h)))

  side_join_none : (y : Option E) → side_join w None y ≡ y
  side_join_none None = refl
  side_join_none (Some b) = refl

  pub join_calls_append : (k : K) (xs ys : List (Call K E)) → GoodCalls w xs → GoodCalls w ys → join_calls w k (xs ++ ys) ≡ side_join w (join_calls w k xs) (join_calls w k ys)
  join_calls_append k [] ys g h = sym (side_join_none (join_calls w k ys))
  join_calls_append k (c ∷ xs) ys g h =
      elim (cases_Bool (w.same c.key k)) [
        | inl e ↦ cond-true (w.same c.key k) (side_join w (Some c.args) (join_calls w k (xs ++ ys))) (join_calls w k (xs ++ ys)) e
            ∙ ap (side_join w (Some c.args)) (join_calls_append k xs ys g.1 h)
            ∙ sym (side_join_assoc k Inputs (Some c.args) (join_calls w k xs) (join_calls w k ys) (subst (λ j. w.fits j Inputs c.args ≡ true) (laws.order.same_only c.key k e) g.0.1) (join_calls_fits k xs g.1) (join_calls_fits k ys h))
            ∙ ap (λ z. side_join w z (join_calls w k ys)) (sym (cond-true (w.same c.key k) (side_join w (Some c.args) (join_calls w k xs)) (join_calls w k xs) e))
        | inr n ↦ cond-false (w.same c.key k) (side_join w (Some c.args) (join_calls w k (xs ++ ys))) (join_calls w k (xs ++ ys)) n
            ∙ join_calls_append k xs ys g.1 h
            ∙ ap (λ z. side_join w z (join_calls w k ys)) (sym (cond-false (w.same c.key k) (side_join w (Some c.args) (join_calls w k xs)) (join_calls w k xs) n))
      ]

  -- one call more, as a loop joins it
  pub join_calls_push : (k : K) (xs : List (Call K E)) (c : Call K E) → GoodCalls w xs → GoodCalls w (c ∷ []) → join_calls w k (xs ++ c ∷ []) ≡ cond (w.same c.key k) (side_join w (join_calls w k xs) (Some c.args)) (join_calls w k xs)
  join_calls_push k xs c g h =
      join_calls_append k xs (c ∷ []) g h
      ∙ cond_both (w.same c.key k) (Some c.args) None (λ z. side_join w (join_calls w k xs) z ≡ cond (w.same c.key k) (side_join w (join_calls w k xs) (Some c.args)) (join_calls w k xs))
      (λ e. sym (cond-true (w.same c.key k) (side_join w (join_calls w k xs) (Some c.args)) (join_calls w k xs) e))
      (λ n. sym (cond-false (w.same c.key k) (side_join w (join_calls w k xs) (Some c.args)) (join_calls w k xs) n))
