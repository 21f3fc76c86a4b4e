-- Environments of which no part is empty stay so.
use Rattle.std.proofs.Common.{◌≡◌, ℕ, zero, suc, Bool, true, List, [], ◌∷◌, replicate, Some, None, drop, ◌+◌, refl, subst, arith}
use Rattle.std.specs.Prelude.{slice_get, slice_set}
use Rattle.std.specs.List.{list_all}
use Rattle.std.proofs.lemmas.Bool.{and_parts, and_from}
use Rattle.sk_base.proofs.Drops.{drop_at}
use Rattle.sk_term.specs.declared.node.Child.{Child}
use Rattle.sk_deriv.specs.declared.entry.Entry.{Entry}
use Rattle.sk_def.specs.declared.ids.Var.{Var}
use Rattle.sk_deriv.specs.Env.{Env, entry_of_child, gain}
use Rattle.sk_lattice.specs.declared.flow.AbsFlow.{AbsFlow}
use Rattle.sk_lattice.specs.Domain.{Domain}
use Rattle.sk_lattice.specs.Empty.{flow_is_proper, IsTuple}
use Rattle.sk_abswalk.specs.Proper.{entry_is_proper, IsProperEnv}

all_set : {A : Type 0} (f : A → Bool) (xs : List A) (i : ℕ) (x : A) → list_all f xs ≡ true → f x ≡ true → list_all f (slice_set xs i x) ≡ true
all_set f [] i x h p = refl
all_set f (y ∷ xs) zero x h p = and_from _ _ p (and_parts _ _ h).1
all_set f (y ∷ xs) (suc i) x h p = let q = and_parts _ _ h in and_from _ _ q.0 (all_set f xs i x q.1 p)

pub passes_at : {A : Type 0} (f : A → Bool) (xs : List A) (i : ℕ) (x : A) → list_all f xs ≡ true → slice_get xs i ≡ Some x → f x ≡ true
passes_at f [] i x h e = absurd cc
passes_at f (y ∷ xs) zero x h e = let same : y ≡ x = cc in subst (λ z. f z ≡ true) same (and_parts _ _ h).0
passes_at f (y ∷ xs) (suc i) x h e = passes_at f xs i x (and_parts _ _ h).1 e

module _ (D : Type 0) (d : Domain D) where
  pub nothing_proper : (n : ℕ) → IsProperEnv d (replicate n None)
  nothing_proper zero = refl
  nothing_proper (suc n) = nothing_proper n

  child_proper : (c : Child) → entry_is_proper d (Some (entry_of_child c)) ≡ true
  child_proper (Child.Number z) = refl
  child_proper (Child.Name n) = refl
  child_proper (Child.Point p) = refl

  pub put_child_proper : (env : Env (AbsFlow D)) (i : ℕ) (c : Child) → IsProperEnv d env → IsProperEnv d (slice_set env i (Some (entry_of_child c)))
  put_child_proper env i c h = all_set (entry_is_proper d) env i _ h (child_proper c)

  pub put_flow_proper : (env : Env (AbsFlow D)) (i : ℕ) (a : AbsFlow D) → IsProperEnv d env → flow_is_proper d a ≡ true → IsProperEnv d (slice_set env i (Some (Entry.Flow a)))
  put_flow_proper env i a h p = all_set (entry_is_proper d) env i (Some (Entry.Flow a)) h p

  pub flow_of_tuple : (tuple : List (AbsFlow D)) (i : ℕ) (a : AbsFlow D) → IsTuple d tuple → slice_get tuple i ≡ Some a → flow_is_proper d a ≡ true
  flow_of_tuple tuple i a h e = passes_at (flow_is_proper d) tuple i a h.proper e

-- A flow that is gained at a place of a tuple, and those after it.
pub gain_step : {F : Type 0} (env after : Env F) (vars rest : List Var) (v : Var) (tuple : List F) (k : ℕ) (a : F) → vars ≡ v ∷ rest → slice_get tuple k ≡ Some a → after ≡ slice_set env v.0 (Some (Entry.Flow a)) → gain after rest (drop (k + 1) tuple) ≡ gain env vars (drop k tuple)
gain_step env after vars rest v tuple k a e h p = let next : k + 1 ≡ suc k = omega arith in rw (next, e, drop_at tuple k a h, p) refl
