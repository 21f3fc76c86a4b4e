-- Each call has a list of results to each depth.
use Rattle.std.proofs.Common.{◌≡◌, ℕ, ℤ, Bool, true, false, List, [], ◌∷◌, ◌++◌, map, Option, Some, None, ◌⊎◌, inl, inr, refl, ap, ap₂, sym, subst, append_assoc, append-nil}
use Rattle.std.specs.Ordering.{int_eq}
use Rattle.std.proofs.lemmas.Bool.Decides.{Decides-int_eq}
use Rattle.std.specs.Bool.{Decides}
use Rattle.sk_value.specs.declared.value.Value.{Value}
use Rattle.sk_value.specs.declared.flow.Flow.{Flow}
use Rattle.sk_filter.specs.Arguments.{Values}
use Rattle.sk_deriv.specs.declared.call.Call.{Call}
use Rattle.sk_deriv.specs.Tree.{Derivation, outs_of}
use Rattle.sk_deriv.specs.Moves.{Setting}
use Rattle.sk_deriv.specs.Results.{Outcome, Results}
use Rattle.sk_deriv.specs.Listing.{derivations}
use Rattle.sk_deriv.proofs.Sorted.{Member}
use Rattle.sk_deriv.proofs.Members.{InOrder, member_append_left}
use Rattle.sk_deriv.proofs.TrailOrder.{TreeBefore}
use Rattle.sk_deriv.proofs.Derivations.{exact}
use Rattle.sk_deriv.proofs.FirstOfEach.{Kept, kept_none, kept_seen, kept_new, outs_in, results_from_kept}

-- Equality of values is decided.

abbrev IsDecided : Type 0 → Type 0
IsDecided P = P ⊎ (P → ⊥)

abbrev Same : Type 0 → Type 0
Same A = (a b : A) → IsDecided (a ≡ b)

along : {P Q : Type 0} → (P → Q) → (Q → P) → IsDecided P → IsDecided Q
along f g (inl p) = inl (f p)
along f g (inr n) = inr (λ q. n (g q))

both : {P Q R : Type 0} → (P → Q → R) → (R → P) → (R → Q) → IsDecided P → IsDecided Q → IsDecided R
both f g h (inl p) (inl q) = inl (f p q)
both f g h (inl p) (inr n) = inr (λ r. n (h r))
both f g h (inr n) d = inr (λ r. n (g r))

from_test : (b : Bool) (P : Type 0) → Decides b P → IsDecided P
from_test true P h = inl (h.0 refl)
from_test false P h = inr (λ p. let e = h.1 p in cc)

int_same : Same ℤ
int_same a b = from_test (int_eq a b) (a ≡ b) (Decides-int_eq a b)

bool_same : Same Bool
bool_same true true = inl refl
bool_same true false = inr (λ e. cc)
bool_same false true = inr (λ e. cc)
bool_same false false = inl refl

value_same : Same Value
value_same (Value.Int a) (Value.Int b) = along (λ e. ap Value.Int e) (λ e. cc) (int_same a b)
value_same (Value.Int a) (Value.Bool b) = inr (λ e. cc)
value_same (Value.Bool a) (Value.Int b) = inr (λ e. cc)
value_same (Value.Bool a) (Value.Bool b) = along (λ e. ap Value.Bool e) (λ e. cc) (bool_same a b)

option_same : {A : Type 0} → Same A → Same (Option A)
option_same same None None = inl refl
option_same same None (Some b) = inr (λ e. cc)
option_same same (Some a) None = inr (λ e. cc)
option_same same (Some a) (Some b) = along (λ e. ap Some e) (λ e. cc) (same a b)

list_same : {A : Type 0} → Same A → Same (List A)
list_same same [] [] = inl refl
list_same same [] (b ∷ bs) = inr (λ e. cc)
list_same same (a ∷ xs) [] = inr (λ e. cc)
list_same same (a ∷ xs) (b ∷ bs) = both (λ e f. ap₂ (λ x. λ ys. x ∷ ys) e f) (λ e. cc) (λ e. cc) (same a b) (list_same same xs bs)

flow_same : Same Flow
flow_same (Flow.Int a) (Flow.Int b) = along (λ e. ap Flow.Int e) (λ e. cc) (int_same a b)
flow_same (Flow.Int a) (Flow.Bool b) = inr (λ e. cc)
flow_same (Flow.Int a) (Flow.Val b) = inr (λ e. cc)
flow_same (Flow.Int a) (Flow.Store b) = inr (λ e. cc)
flow_same (Flow.Bool a) (Flow.Int b) = inr (λ e. cc)
flow_same (Flow.Bool a) (Flow.Bool b) = along (λ e. ap Flow.Bool e) (λ e. cc) (bool_same a b)
flow_same (Flow.Bool a) (Flow.Val b) = inr (λ e. cc)
flow_same (Flow.Bool a) (Flow.Store b) = inr (λ e. cc)
flow_same (Flow.Val a) (Flow.Int b) = inr (λ e. cc)
flow_same (Flow.Val a) (Flow.Bool b) = inr (λ e. cc)
flow_same (Flow.Val a) (Flow.Val b) = along (λ e. ap Flow.Val e) (λ e. cc) (value_same a b)
flow_same (Flow.Val a) (Flow.Store b) = inr (λ e. cc)
flow_same (Flow.Store a) (Flow.Int b) = inr (λ e. cc)
flow_same (Flow.Store a) (Flow.Bool b) = inr (λ e. cc)
flow_same (Flow.Store a) (Flow.Val b) = inr (λ e. cc)
flow_same (Flow.Store a) (Flow.Store b) = along (λ e. ap Flow.Store e) (λ e. cc) (list_same (option_same value_same) a b)

outputs_same : Same Values
outputs_same = list_same flow_same

is_member : (v : Values) (vs : List Values) → IsDecided (Member v vs)
is_member v [] = inr (λ m. m)
is_member v (w ∷ vs) = at (outputs_same v w) (is_member v vs)
  where
    at : IsDecided (v ≡ w) → IsDecided (Member v vs) → IsDecided (Member v (w ∷ vs))
    at (inl e) d = inl (inl e)
    at (inr n) (inl m) = inl (inr m)
    at (inr n) (inr k) = inr (λ m. elim m [ inl e ↦ n e | inr h ↦ k h ])

-- Of each outputs in a list of derivations in order, the first one.

order_front : {A : Type 0} (R : A → A → Type 0) (xs ys : List A) → InOrder R (xs ++ ys) → InOrder R xs
order_front R [] ys h = tt
order_front R (x ∷ xs) ys h = ((λ y m. h.0 y (member_append_left y xs ys m)), order_front R xs ys h.1)

abbrev AreKept : List Derivation → Type 0
AreKept ts = (xs : List Outcome) × Kept ts xs

next_kept : (ts : List Derivation) (t : Derivation) → InOrder TreeBefore (ts ++ t ∷ []) → AreKept ts → AreKept (ts ++ t ∷ [])
next_kept ts t in_order (xs, k) = by (is_member (outs_of t) (map outs_in xs))
  where
    by : IsDecided (Member (outs_of t) (map outs_in xs)) → AreKept (ts ++ t ∷ [])
    by (inl seen) = (xs, kept_seen ts xs t k in_order seen)
    by (inr new) = (xs ++ (outs_of t, t) ∷ [], kept_new ts xs t k in_order new)

all_kept : (front ts : List Derivation) → InOrder TreeBefore (front ++ ts) → AreKept front → AreKept (front ++ ts)
all_kept front [] in_order k = subst AreKept (sym (append-nil front)) k
all_kept front (t ∷ ts) in_order k =
    let moved : (front ++ t ∷ []) ++ ts ≡ front ++ t ∷ ts = append_assoc front (t ∷ []) ts in
    let ordered : InOrder TreeBefore ((front ++ t ∷ []) ++ ts) = subst (InOrder TreeBefore) (sym moved) in_order in
    subst AreKept moved (all_kept (front ++ t ∷ []) ts ordered (next_kept front t (order_front TreeBefore (front ++ t ∷ []) ts ordered) k))

pub list_exists : (s : Setting) (c : Call) (n : ℕ) → (xs : List Outcome) × Results s c n xs
list_exists s c n =
    let k = all_kept [] (derivations s n c) ((exact s n).ordered_at c) ([], kept_none) in
    (k.0, results_from_kept s c n k.0 k.1)
