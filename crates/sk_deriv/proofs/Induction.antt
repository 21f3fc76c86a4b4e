-- Induction over derivations, and facts on all subtrees of steps.
use Rattle.std.proofs.Common.{ℕ}
use Rattle.sk_def.specs.declared.ids.HookId.{HookId}
use Rattle.sk_filter.specs.Arguments.{Values}
use Rattle.sk_deriv.specs.Tree.{Derivation, derivation, Steps, done, pick, sub}
use Rattle.sk_deriv.specs.Moves.{Moves, no_bone, by_filter, by_choice, by_hook, by_branch, Setting, IsValid, AllValid}

-- P holds of each direct subtree
abbrev pub EachSub : (Derivation → Type 0) → Steps → Type 0
EachSub P done = Unit {0}
EachSub P (pick k rest) = EachSub P rest
EachSub P (sub t rest) = P t × EachSub P rest

module _ (P : Derivation → Type 0) (step : (hook : HookId) (point : ℕ) (ins : Values) (steps : Steps) (outs : Values) → EachSub P steps → P (derivation hook point ins steps outs)) where
  mutual
    -- what holds of a derivation where it holds of its direct subtrees holds of all
    pub induction : (t : Derivation) → P t
    induction (derivation hook point ins steps outs) = step hook point ins steps outs (induction_steps steps)

    pub induction_steps : (steps : Steps) → EachSub P steps
    induction_steps done = tt
    induction_steps (pick k rest) = induction_steps rest
    induction_steps (sub t rest) = (induction t, induction_steps rest)

pub EachSub-from_valid : (s : Setting) (steps : Steps) → AllValid s steps → EachSub (IsValid s) steps
EachSub-from_valid s done h = tt
EachSub-from_valid s (pick k rest) h = EachSub-from_valid s rest h
EachSub-from_valid s (sub t rest) h = (h.0, EachSub-from_valid s rest h.1)

pub valid_from_EachSub : (s : Setting) (steps : Steps) → EachSub (IsValid s) steps → AllValid s steps
valid_from_EachSub s done h = tt
valid_from_EachSub s (pick k rest) h = valid_from_EachSub s rest h
valid_from_EachSub s (sub t rest) h = (h.0, valid_from_EachSub s rest h.1)

-- what holds of all subtrees holds of those that are left after some bones
pub EachSub-rest : (P : Derivation → Type 0) {names point : ℕ} {bones : _} {env env' : _} {steps rest : Steps} → Moves names point bones env steps env' rest → EachSub P steps → EachSub P rest
EachSub-rest P no_bone h = h
EachSub-rest P (by_filter c r m) h = EachSub-rest P m h
EachSub-rest P (by_choice c r m) h = EachSub-rest P m h
EachSub-rest P (by_hook a m) h = EachSub-rest P m h.1
EachSub-rest P (by_branch l m n) h = EachSub-rest P n (EachSub-rest P m h)

pub AllValid-rest : (s : Setting) {names point : ℕ} {bones : _} {env env' : _} {steps rest : Steps} → Moves names point bones env steps env' rest → AllValid s steps → AllValid s rest
AllValid-rest s no_bone h = h
AllValid-rest s (by_filter c r m) h = AllValid-rest s m h
AllValid-rest s (by_choice c r m) h = AllValid-rest s m h
AllValid-rest s (by_hook a m) h = AllValid-rest s m h.1
AllValid-rest s (by_branch l m n) h = AllValid-rest s n (AllValid-rest s m h)
