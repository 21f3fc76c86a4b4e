-- Numbers as points of a program.
use Rattle.std.proofs.Common.{◌≡◌, ℕ, ◌≤◌, true, false, List, length, Ok, Err, refl, subst, ℤ, pos, negsuc, nat_abs, arith}
use Rattle.std.specs.Int.{FitsUnsignedBits}
use Rattle.std.proofs.lemmas.Option.{slice_get_past}
use Rattle.sk_def.specs.declared.ids.HookId.{HookId}
use Rattle.sk_def.specs.declared.def.Def.{Def}
use Rattle.sk_term.specs.declared.node.TermNode.{TermNode}
use Rattle.sk_bench.specs.declared.job.JobError.TheVariants.{WrongPoint}
use Rattle.sk_bench.specs.Jobs.{is_point, numbered_point}

module _ (d : Def) (nodes : List TermNode) (hook : HookId) where
  past_the_nodes : (point : ℕ) → length nodes ≤ point → is_point d nodes hook point ≡ false
  past_the_nodes point past = rw (slice_get_past nodes point past) refl

  pub is_such_point : (number : ℤ) (point : ℕ) → FitsUnsignedBits 16 number → point ≡ nat_abs number → is_point d nodes hook point ≡ true
      → numbered_point d nodes hook number ≡ Ok point
  unfolding numbered_point
  is_such_point (pos n) point fits same is =
      let there : is_point d nodes hook n ≡ true = subst (λ k. is_point d nodes hook k ≡ true) same is in
      rw (there, same) refl
  is_such_point (negsuc n) point fits same is = absurd fits

  pub is_no_such_point : (number : ℤ) (point : ℕ) → FitsUnsignedBits 16 number → point ≡ nat_abs number → is_point d nodes hook point ≡ false
      → numbered_point d nodes hook number ≡ Err WrongPoint
  unfolding numbered_point
  is_no_such_point (pos n) point fits same isnt =
      let there : is_point d nodes hook n ≡ false = subst (λ k. is_point d nodes hook k ≡ false) same isnt in
      rw there refl
  is_no_such_point (negsuc n) point fits same isnt = refl

  pub is_no_point : (number : ℤ) → length nodes ≤ 4096 → ¬ (FitsUnsignedBits 16 number) → numbered_point d nodes hook number ≡ Err WrongPoint
  unfolding numbered_point
  is_no_point (pos n) few unfit = rw (past_the_nodes n (let far = unfit in omega (arith, few, far))) refl
  is_no_point (negsuc n) few unfit = refl
