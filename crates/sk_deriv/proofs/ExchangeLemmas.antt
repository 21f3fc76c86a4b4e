-- The law of exchange.
use Rattle.std.proofs.Common.{ℕ, ◌+◌, ◌<◌, ◌≤◌, List, ◌++◌, Some, ◌⊎◌, inl, inr, refl, sym, ap, ◌∙◌, arith}
use Rattle.sk_def.specs.declared.ids.HookId.{HookId}
use Rattle.sk_def.specs.declared.bone.Bone.{Bone}
use Rattle.sk_def.specs.declared.ids.Var.{Var}
use Rattle.sk_def.specs.declared.bone.Target.{Target}
use Rattle.sk_deriv.specs.Tree.{Derivation, derivation, Steps, done, hook_of, point_of, ins_of, height, greatest_height, word, word_of_steps, IsBefore}
use Rattle.sk_value.specs.declared.flow.Flow.{Flow}
use Rattle.sk_deriv.specs.Env.{Env, gain}
use Rattle.sk_deriv.specs.Moves.{Moves, no_bone, by_filter, by_choice, by_hook, by_branch, Setting, IsValid, AllValid, Answers, Replays}
use Rattle.sk_deriv.specs.declared.call.Call.{Call}
use Rattle.sk_deriv.specs.Results.{Derives}
use Rattle.sk_deriv.specs.Exchange.{Exchanged, here, past_pick, past_sub, Improves, ExchangeKeeps}
use Rattle.sk_deriv.proofs.Prefix.{from_env}
use Rattle.sk_deriv.proofs.Unique.{no_proper_prefix}
use Rattle.sk_deriv.proofs.WordOrder.{IsBefore-append, IsBefore-front}

-- the replay goes on as before, and the exchange was made or is still to come
abbrev After : (names point : ℕ) (u v : Derivation) (bones : List Bone) (env : Env Flow) (steps' : Steps) (ends : Env Flow) (rest : Steps) → Type 0
After names point u v bones env steps' ends rest =
    Moves names point bones env steps' ends rest ⊎ ((rest' : Steps) × Exchanged u v rest rest' × Moves names point bones env steps' ends rest')

module _ (s : Setting) (n point : ℕ) (u v : Derivation) (better : Improves s n u v) where
  answers_exchanged : {env : Env Flow} {hook : HookId} {args : List Var} {target : Target} → Answers point env hook args target u → Answers point env hook args target v
  answers_exchanged a = record {
    same_hook = better.same_hook ∙ a.same_hook;
    at_target = a.at_target ∙ ap Some (sym better.same_point);
    on_args = a.on_args ∙ ap Some (sym better.same_ins);
  }

  after_map : {names : ℕ} {bones bones' : List Bone} {env env' ends : Env Flow} {steps steps' rest : Steps} → ((r : Steps) → Moves names point bones env steps ends r → Moves names point bones' env' steps' ends r) → After names point u v bones env steps ends rest → After names point u v bones' env' steps' ends rest
  after_map f (inl m) = inl (f _ m)
  after_map f (inr m) = inr (m.0, m.1, f m.0 m.2)

  after_branch : {names : ℕ} {bones : List Bone} {env ends : Env Flow} {steps' middle : Steps} {Goal : Type 0} →
      (Moves names point bones env steps' ends middle → Goal) → ((r : Steps) → Exchanged u v middle r → Moves names point bones env steps' ends r → Goal) →
      After names point u v bones env steps' ends middle → Goal
  after_branch f g (inl m) = f m
  after_branch f g (inr m) = g m.0 m.1 m.2

  moves_exchanged : {names : ℕ} {bones : List Bone} {env ends : Env Flow} {steps steps' rest : Steps} → Moves names point bones env steps ends rest → Exchanged u v steps steps' → After names point u v bones env steps' ends rest
  moves_exchanged no_bone x = inr (_, x, no_bone)
  moves_exchanged (by_filter c r m) x = after_map (λ q k. by_filter c r k) (moves_exchanged m x)
  moves_exchanged (by_choice c r m) (past_pick x) = after_map (λ q k. by_choice c r k) (moves_exchanged m x)
  moves_exchanged (by_hook {outs = outs} {env = env} a m) here = inl (by_hook (answers_exchanged a) (from_env (ap (gain env outs) better.same_outs) m))
  moves_exchanged (by_hook a m) (past_sub x) = after_map (λ q k. by_hook a k) (moves_exchanged m x)
  moves_exchanged (by_branch l m o) (past_pick x) =
      after_branch (λ m'. inl (by_branch l m' o)) (λ r y m'. after_map (λ q k. by_branch l m' k) (moves_exchanged o y)) (moves_exchanged m x)

-- where no step is left, the exchange was made
whole : {names point : ℕ} {u v : Derivation} {bones : List Bone} {env ends : Env Flow} {steps' : Steps} → After names point u v bones env steps' ends done → Moves names point bones env steps' ends done
whole (inl m) = m
whole (inr m) = elim m.1 [ ]

valid_first : (s : Setting) {u v : Derivation} {steps steps' : Steps} → Exchanged u v steps steps' → AllValid s steps → IsValid s u
valid_first s here h = h.0
valid_first s (past_pick x) h = valid_first s x h
valid_first s (past_sub x) h = valid_first s x h.1

valid_exchanged : (s : Setting) {u v : Derivation} {steps steps' : Steps} → Exchanged u v steps steps' → IsValid s v → AllValid s steps → AllValid s steps'
valid_exchanged s here g h = (g, h.1)
valid_exchanged s (past_pick x) g h = valid_exchanged s x g h
valid_exchanged s (past_sub x) g h = (h.0, valid_exchanged s x g h.1)

height_exchanged : (n : ℕ) {u v : Derivation} {steps steps' : Steps} → Exchanged u v steps steps' → height v < n → 1 + greatest_height steps ≤ n → 1 + greatest_height steps' ≤ n
height_exchanged n here g h = omega arith
height_exchanged n (past_pick x) g h = height_exchanged n x g h
height_exchanged n (past_sub x) g h = omega (arith, height_exchanged n x g (omega arith))

word_exchanged : {u v : Derivation} {steps steps' : Steps} → Exchanged u v steps steps' → ((x y : List ℕ) → IsBefore (word v ++ x) (word u ++ y)) → IsBefore (word_of_steps steps') (word_of_steps steps)
word_exchanged (here {rest = rest}) g = g (word_of_steps rest) (word_of_steps rest)
word_exchanged (past_pick x) g = inr (refl, word_exchanged x g)
word_exchanged (past_sub {t = t} x) g = IsBefore-front (word t) _ _ (word_exchanged x g)

call_of : Derivation → Call
call_of t = record { hook = hook_of t; point = point_of t; ins = ins_of t }

word_improved : (s : Setting) (n : ℕ) (u v : Derivation) → IsValid s u → Improves s n u v → (x y : List ℕ) → IsBefore (word v ++ x) (word u ++ y)
unfolding call_of
word_improved s n u v h b x y =
    let by_v : Derives s (call_of u) v = record { valid = b.valid; same_hook = b.same_hook; same_point = b.same_point; same_ins = b.same_ins } in
    let by_u : Derives s (call_of u) u = record { valid = h; same_hook = refl; same_point = refl; same_ins = refl } in
    IsBefore-append (word v) (word u) x y b.before (no_proper_prefix s (call_of u) v u by_v by_u)

pub exchange_keeps : ExchangeKeeps
exchange_keeps s c n hook point ins outs steps steps' u v d x b =
    let r = d.derives.valid.0 in
    let replays : Replays s hook point ins steps' outs = record {
      ins_fit = r.ins_fit;
      node = r.node;
      node_is = r.node_is;
      rule = r.rule;
      rule_is = r.rule_is;
      ends = r.ends;
      moves = whole (moves_exchanged s n point u v b r.moves x);
      outs_are = r.outs_are;
    } in
    let valid : IsValid s (derivation hook point ins steps' outs) = (replays, valid_exchanged s x b.valid d.derives.valid.1) in (
      record {
        derives = record { valid = valid; same_hook = d.derives.same_hook; same_point = d.derives.same_point; same_ins = d.derives.same_ins };
        low = height_exchanged n x b.low d.low;
      },
      word_exchanged x (word_improved s n u v (valid_first s x d.derives.valid.1) b),
    )
