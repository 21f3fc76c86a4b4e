-- What the rounds see of a definition, a job and a domain: keys, tuples, and the walk of a key.
use Rattle.std.specs.Prelude.{◌≡◌, ◌≢◌, ℕ, ◌<◌, Bool, true, false, List, Option, Some, None}
use Rattle.std.specs.List.{AllByRecursion, list_any}

-- the two sides of a key in a table
pub data Side : Type 0 where
  Inputs : Side
  Outputs : Side

-- a key, and the inputs that it is asked with; a cover line is one too
pub record Call (K E : Type 0) : Type 0 where
  pub key : K
  pub args : E

-- a table gives each side of a key a tuple or none; it has the keys to whose inputs it gives one
abbrev pub Table : Type 0 → Type 0 → Type 0
Table K E = K → Side → Option E

pub record Walks (K E : Type 0) : Type 0 where
  -- all keys of the program in their order, and whether two keys are one
  pub keys : List K
  pub same : K → K → Bool
  pub covers : List (Call K E)
  -- what the walk of a key from these inputs gives, and the calls that it asks, where each key answers so
  pub gives : (K → Option E) → K → E → Option E
  pub calls : (K → Option E) → K → E → List (Call K E)
  -- whether a tuple has the sorts of a side, and no empty part
  pub fits : K → Side → E → Bool
  -- the order of tuples, their joins and widenings, and a rank of each that is below the cap
  pub leq : E → E → Bool
  pub join : E → E → E
  pub widen : E → E → E
  pub is_finite : Bool
  pub rank : E → ℕ
  pub cap : ℕ

-- none lies below every tuple
abbrev pub side_leq : {K E : Type 0} → Walks K E → Option E → Option E → Bool
side_leq w None y = true
side_leq w (Some a) None = false
side_leq w (Some a) (Some b) = w.leq a b

-- each side of the first table lies below that of the second
abbrev pub Lies : {K E : Type 0} → Walks K E → Table K E → Table K E → Type 0
Lies {K} w T U = (k : K) (s : Side) → side_leq w (T k s) (U k s) ≡ true

-- whether a key is one of the program
abbrev pub is_key : {K E : Type 0} → Walks K E → K → Bool
is_key w k = list_any (w.same k) w.keys

-- none fits every side, and a tuple where the walks say so
abbrev pub FitSide : {K E : Type 0} → Walks K E → K → Side → Option E → Type 0
FitSide w k s None = Unit {0}
FitSide w k s (Some a) = w.fits k s a ≡ true

-- every tuple of the table fits its side
abbrev pub FitTable : {K E : Type 0} → Walks K E → Table K E → Type 0
FitTable {K} w T = (k : K) (s : Side) → FitSide w k s (T k s)

abbrev pub FitAnswers : {K E : Type 0} → Walks K E → (K → Option E) → Type 0
FitAnswers {K} w answers = (k : K) → FitSide w k Outputs (answers k)

-- the calls are of keys of the program, with tuples that fit
abbrev pub GoodCalls : {K E : Type 0} → Walks K E → List (Call K E) → Type 0
GoodCalls {K} {E} w = AllByRecursion (λ (c : Call K E). (is_key w c.key ≡ true) × (w.fits c.key Inputs c.args ≡ true))

-- each call lies below what stands above its key
abbrev pub CallsBelow : {K E : Type 0} → Walks K E → List (Call K E) → (K → Option E) → Type 0
CallsBelow {K} {E} w calls above = AllByRecursion (λ (c : Call K E). side_leq w (Some c.args) (above c.key) ≡ true) calls

-- `same` is equality, `leq` an order, `join` its least upper bound
pub record OrderLaws {K E : Type 0} (w : Walks K E) : Type 0 where
  pub same_refl : (k : K) → w.same k k ≡ true
  pub same_only : (j k : K) → w.same j k ≡ true → j ≡ k
  pub leq_refl : (a : E) → w.leq a a ≡ true
  pub leq_trans : (a b c : E) → w.leq a b ≡ true → w.leq b c ≡ true → w.leq a c ≡ true
  pub leq_antisym : (a b : E) → w.leq a b ≡ true → w.leq b a ≡ true → a ≡ b
  pub join_left : (k : K) (s : Side) (a b : E) → w.fits k s a ≡ true → w.fits k s b ≡ true → w.leq a (w.join a b) ≡ true
  pub join_right : (k : K) (s : Side) (a b : E) → w.fits k s a ≡ true → w.fits k s b ≡ true → w.leq b (w.join a b) ≡ true
  pub join_least : (a b c : E) → w.leq a c ≡ true → w.leq b c ≡ true → w.leq (w.join a b) c ≡ true
  pub join_fits : (k : K) (s : Side) (a b : E) → w.fits k s a ≡ true → w.fits k s b ≡ true → w.fits k s (w.join a b) ≡ true

-- a widening lies above both and lowers the rank where it changes its first argument; it is the join where the domain
-- is finite
pub record WidenLaws {K E : Type 0} (w : Walks K E) : Type 0 where
  pub widen_left : (k : K) (s : Side) (a b : E) → w.fits k s a ≡ true → w.fits k s b ≡ true → w.leq a (w.widen a b) ≡ true
  pub widen_right : (k : K) (s : Side) (a b : E) → w.fits k s a ≡ true → w.fits k s b ≡ true → w.leq b (w.widen a b) ≡ true
  pub widen_fits : (k : K) (s : Side) (a b : E) → w.fits k s a ≡ true → w.fits k s b ≡ true → w.fits k s (w.widen a b) ≡ true
  pub widen_finite : w.is_finite ≡ true → (a b : E) → w.widen a b ≡ w.join a b
  pub rank_falls : (k : K) (s : Side) (a b : E) → w.fits k s a ≡ true → w.fits k s b ≡ true → w.widen a b ≢ a → w.rank (w.widen a b) < w.rank a
  pub rank_capped : (k : K) (s : Side) (a : E) → w.fits k s a ≡ true → w.rank a < w.cap

-- walks keep to what fits, and give and ask more where they are answered and asked with more; calls are compared by
-- what lies above them
pub record WalkLaws {K E : Type 0} (w : Walks K E) : Type 0 where
  pub covers_good : GoodCalls w w.covers
  pub gives_fit : (answers : K → Option E) (k : K) (a : E) → FitAnswers w answers → w.fits k Inputs a ≡ true → FitSide w k Outputs (w.gives answers k a)
  pub calls_good : (answers : K → Option E) (k : K) (a : E) → FitAnswers w answers → w.fits k Inputs a ≡ true → GoodCalls w (w.calls answers k a)
  pub gives_more : (less more : K → Option E) (k : K) (a b : E) → FitAnswers w less → FitAnswers w more → w.fits k Inputs a ≡ true → w.fits k Inputs b ≡ true →
      ((j : K) → side_leq w (less j) (more j) ≡ true) → w.leq a b ≡ true → side_leq w (w.gives less k a) (w.gives more k b) ≡ true
  pub calls_more : (less more : K → Option E) (k : K) (a b : E) → FitAnswers w less → FitAnswers w more → w.fits k Inputs a ≡ true → w.fits k Inputs b ≡ true →
      ((j : K) → side_leq w (less j) (more j) ≡ true) → w.leq a b ≡ true →
      (above : K → Option E) → CallsBelow w (w.calls more k b) above → CallsBelow w (w.calls less k a) above

-- all that is asked of keys, tuples and walks
pub record WalksLaws {K E : Type 0} (w : Walks K E) : Type 0 where
  pub order : OrderLaws w
  pub widening : WidenLaws w
  pub walk : WalkLaws w
