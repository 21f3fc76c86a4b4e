-- A least derivation has least subtrees: what a search that keeps only least derivations stands on.
use Rattle.std.proofs.Common.{◌≡◌, ℕ, ◌+◌, refl, arith}
use Rattle.sk_def.specs.declared.ids.HookId.{HookId}
use Rattle.sk_deriv.specs.declared.call.Call.{Call}
use Rattle.sk_filter.specs.Arguments.{Values}
use Rattle.sk_deriv.specs.Tree.{Derivation, derivation, Steps, done, pick, sub, hook_of, point_of, ins_of, outs_of, word, IsBefore}
use Rattle.sk_deriv.specs.Moves.{Setting}
use Rattle.sk_deriv.specs.Results.{DerivesWithin}
use Rattle.sk_deriv.specs.Exchange.{Exchanged, here, past_pick, past_sub, Improves}
use Rattle.sk_deriv.proofs.Induction.{EachSub}
use Rattle.sk_deriv.proofs.ExchangeLemmas.{exchange_keeps}

-- no derivation of the call within the height has the same outputs and a smaller word
abbrev pub IsLeast : Setting → Call → ℕ → Derivation → Type 0
IsLeast s c n t = (u : Derivation) → DerivesWithin s c n u → outs_of u ≡ outs_of t → IsBefore (word u) (word t) → ⊥

abbrev pub call_of : Derivation → Call
call_of t = record { hook = hook_of t; point = point_of t; ins = ins_of t }

-- steps into which a subtree can be put back
abbrev Whole : Setting → Call → ℕ → HookId → ℕ → Values → Values → Steps → Type 0
Whole s c n hook point ins outs steps = DerivesWithin s c (1 + n) (derivation hook point ins steps outs) × IsLeast s c (1 + n) (derivation hook point ins steps outs)

module _ (s : Setting) (c : Call) (n : ℕ) (hook : HookId) (point : ℕ) (ins outs : Values) (steps : Steps) (w : Whole s c n hook point ins outs steps) where
  least_sub : (u : Derivation) → ((v : Derivation) → (steps' : Steps) × Exchanged u v steps steps') → IsLeast s (call_of u) n u
  least_sub u put v d e b =
      let x = put v in
      let better : Improves s (1 + n) u v = record {
        valid = d.derives.valid;
        same_hook = d.derives.same_hook;
        same_point = d.derives.same_point;
        same_ins = d.derives.same_ins;
        same_outs = e;
        low = omega (arith, d.low);
        before = b;
      } in
      let r = exchange_keeps s c (1 + n) hook point ins outs steps x.0 u v w.0 x.1 better in
      w.1 (derivation hook point ins x.0 outs) r.0 refl r.1

  each_least : (rest : Steps) → ((u v : Derivation) (rest' : Steps) → Exchanged u v rest rest' → (steps' : Steps) × Exchanged u v steps steps') → EachSub (λ u. IsLeast s (call_of u) n u) rest
  each_least done put = tt
  each_least (pick k rest) put = each_least rest (λ u v rest' x. put u v (pick k rest') (past_pick x))
  each_least (sub t rest) put =
      (least_sub t (λ v. put t v (sub v rest) here), each_least rest (λ u v rest' x. put u v (sub t rest') (past_sub x)))

  -- each direct subtree is least for its own call and outputs, one level lower
  pub subtrees_least : EachSub (λ u. IsLeast s (call_of u) n u) steps
  subtrees_least = each_least steps (λ u v steps' x. (steps', x))
