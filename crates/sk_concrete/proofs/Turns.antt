-- Turns of loops.
use Rattle.std.proofs.Common.{◌≡◌, ℕ, suc, ◌+◌, ◌<◌, List, [], ◌∷◌, ◌++◌, length, drop, get_or, Some, None, Result, Ok, Err, refl, ap, ap₂, sym, ◌∙◌, arith, true, false, cond, eqb, Option, add-one, drop-cons, append_assoc}
use Rattle.std.specs.Prelude.{is_some}
use Rattle.std.specs.List.{slice_get, slice_set}
use Rattle.std.specs.Option.{option_map, option_and_then}
use Rattle.std.proofs.lemmas.Option.{get_or_from_slice_get}
use Rattle.sk_def.specs.declared.ids.HookId.{HookId}
use Rattle.sk_def.specs.declared.ids.Var.{Var}
use Rattle.sk_def.specs.declared.bone.Target.{Target}
use Rattle.sk_term.specs.declared.node.Child.{Child}
use Rattle.sk_value.specs.declared.flow.Flow.{Flow}
use Rattle.sk_deriv.specs.declared.call.Call.{Call}
use Rattle.sk_deriv.specs.declared.entry.Entry.{Entry}
use Rattle.sk_deriv.specs.Env.{Env, entry_of, args_at, bind_children, entry_of_child}
use Rattle.sk_concrete.specs.declared.world.World.{World}
use Rattle.sk_concrete.specs.declared.world.Answer.{Answer}
use Rattle.sk_concrete.specs.Worlds.{joined_ends, merged, answered, after_worlds, call_from, by_next_answer, answers_in_order}

pub merged_turn : (exports : List Var) (ends : List (List World)) (ws list list' : List World) (k : ℕ) (w : World) → k < length ws → w ≡ get_or ws k w →
    list' ≡ list ++ joined_ends exports k w ends → list' ++ merged exports ends (k + 1) (drop (k + 1) ws) ≡ list ++ merged exports ends k (drop k ws)
merged_turn exports ends ws list list' k w l is e =
    ap₂ (λ a j. a ++ merged exports ends j (drop j ws)) e (add-one k)
    ∙ append_assoc list (joined_ends exports k w ends) (merged exports ends (suc k) (drop (suc k) ws))
    ∙ ap (λ u. list ++ (joined_ends exports k u ends ++ merged exports ends (suc k) (drop (suc k) ws))) is
    ∙ ap (λ us. list ++ merged exports ends k us) (sym (drop-cons ws k w l))

after_both : (a b : List World) (r : Result (List World × List Answer) Call) → after_worlds (a ++ b) r ≡ after_worlds a (after_worlds b r)
after_both a b (Ok p) = ap (λ ws. Ok (ws, p.1)) (append_assoc a b p.0)
after_both a b (Err c) = refl

no_answer : (handed : List Answer) → length handed ≡ 0 → handed ≡ []
no_answer [] e = refl
no_answer (answer ∷ later) e = absurd (omega (arith, e))

module _ (point : ℕ) (hook : HookId) (target : Target) (args outs : List Var) (ws : List World) (k : ℕ) (w : World) (l : k < length ws) (is : w ≡ get_or ws k w) where
  abbrev whole : List Answer → List World → Result (List World × List Answer) Call
  whole handed us = answers_in_order point hook target args outs handed us

  at_turn : (handed : List Answer) →
      whole handed (drop k ws) ≡ by_next_answer point hook target args outs handed (call_from point hook target args outs w) w (λ later. whole later (drop (k + 1) ws))
  at_turn handed =
      ap (whole handed) (drop-cons ws k w l)
      ∙ ap (λ u. whole handed (u ∷ drop (suc k) ws)) (sym is)
      ∙ ap (λ j. by_next_answer point hook target args outs handed (call_from point hook target args outs w) w (λ later. whole later (drop j ws))) (sym (add-one k))

  -- a call with no answer
  pub answers_stop : (handed : List Answer) (list : List World) (all : Result (List World × List Answer) Call) (c : Call) →
      call_from point hook target args outs w ≡ Some c → length handed ≡ 0 → all ≡ after_worlds list (whole handed (drop k ws)) → all ≡ Err c
  answers_stop handed list all c some none e =
      e ∙ ap (after_worlds list) (at_turn handed
      ∙ ap₂ (λ h o. by_next_answer point hook target args outs h o w (λ later. whole later (drop (k + 1) ws))) (no_answer handed none) some)

  -- a call to which the next answer is none
  pub answers_other : (handed later : List Answer) (answer : Answer) (list : List World) (all : Result (List World × List Answer) Call) (c : Call) →
      call_from point hook target args outs w ≡ Some c → handed ≡ answer ∷ later → eqb answer.hook.0 c.hook.0 ≡ false →
      all ≡ after_worlds list (whole handed (drop k ws)) → all ≡ Err c
  answers_other handed later answer list all c some split other e =
      e ∙ ap (after_worlds list) (at_turn handed
      ∙ ap₂ (λ h o. by_next_answer point hook target args outs h o w (λ rest. whole rest (drop (k + 1) ws))) split some
      ∙ ap (λ b. cond b (after_worlds (answered outs w answer.trees) (whole later (drop (k + 1) ws))) (Err c)) other)

  -- a call with the next answer
  pub answers_next : (handed later : List Answer) (answer : Answer) (list list' : List World) (all : Result (List World × List Answer) Call) (c : Call) →
      call_from point hook target args outs w ≡ Some c → handed ≡ answer ∷ later → eqb answer.hook.0 c.hook.0 ≡ true → list' ≡ list ++ answered outs w answer.trees →
      all ≡ after_worlds list (whole handed (drop k ws)) → all ≡ after_worlds list' (whole later (drop (k + 1) ws))
  answers_next handed later answer list list' all c some split same made e =
      e ∙ ap (after_worlds list) (at_turn handed
      ∙ ap₂ (λ h o. by_next_answer point hook target args outs h o w (λ rest. whole rest (drop (k + 1) ws))) split some
      ∙ ap (λ b. cond b (after_worlds (answered outs w answer.trees) (whole later (drop (k + 1) ws))) (Err c)) same)
      ∙ sym (after_both list (answered outs w answer.trees) (whole later (drop (k + 1) ws)))
      ∙ ap (λ us. after_worlds us (whole later (drop (k + 1) ws))) (sym made)

-- Turns of reading variables.

joined_some : {A : Type 0} (front : List A) (o : Option A) (os : Option (List A)) → is_some (option_map (λ rest. front ++ rest) (option_and_then (λ y. option_map (λ ys. y ∷ ys) os) o)) ≡ true → is_some o ≡ true
joined_some front None os h = absurd cc
joined_some front (Some x) os h = refl

-- where all of the variables are there, so is the next one
pub next_there : {F A : Type 0} (f : Entry F → Option A) (env : Env F) (vs : List Var) (k : ℕ) (v : Var) (front : List A) → k < length vs → v ≡ get_or vs k v → is_some (args_at f env vs) ≡ true →
    args_at f env vs ≡ option_map (λ rest. front ++ rest) (args_at f env (drop k vs)) → is_some (option_and_then f (entry_of env v)) ≡ true
next_there f env vs k v front l is there e =
    let at_turn : drop k vs ≡ v ∷ drop (suc k) vs = drop-cons vs k v l ∙ ap (λ u. u ∷ drop (suc k) vs) (sym is) in
    joined_some front (option_and_then f (entry_of env v)) (args_at f env (drop (suc k) vs))
    (ap is_some (sym (e ∙ ap (λ us. option_map (λ rest. front ++ rest) (args_at f env us)) at_turn)) ∙ there)

pub bind_turn : (env env' : Env Flow) (vs : List Var) (cs : List Child) (k : ℕ) (v : Var) (c : Child) → k < length vs → length vs ≡ length cs → slice_get cs k ≡ Some c →
    env' ≡ slice_set env (get_or vs k v).0 (Some (entry_of_child c)) → bind_children env' (drop (k + 1) vs) (drop (k + 1) cs) ≡ bind_children env (drop k vs) (drop k cs)
bind_turn env env' vs cs k v c l counted eq e =
    ap₂ (λ a j. bind_children a (drop j vs) (drop j cs)) e (add-one k)
    ∙ ap (λ d. bind_children env (get_or vs k v ∷ drop (suc k) vs) (d ∷ drop (suc k) cs)) (sym (get_or_from_slice_get cs k c c eq))
    ∙ sym (ap₂ (λ us ds. bind_children env us ds) (drop-cons vs k v l) (drop-cons cs k c (omega (arith, l, counted))))
