-- Derivations as lines of text.
use Rattle.std.specs.Prelude.{ℕ, ◌+◌, List, [], ◌++◌, codes, decimal}
use Rattle.sk_def.specs.Named.{hook_name}
use Rattle.sk_def.specs.declared.ids.HookId.{HookId}
use Rattle.sk_def.specs.declared.def.Def.{Def}
use Rattle.sk_value.specs.Texts.{tuple_text}
use Rattle.sk_filter.specs.Arguments.{Values}
use Rattle.sk_deriv.specs.Tree.{Derivation, derivation, Steps, done, pick, sub}

-- the line of a derivation at this depth, and of a pick
abbrev pub call_line : Def → List (List ℕ) → ℕ → HookId → ℕ → Values → Values → List ℕ
call_line d names depth hook point ins outs =
    decimal depth ++ codes " " ++ hook_name d hook ++ codes " " ++ decimal point ++ codes " " ++ tuple_text names ins ++ codes " -> "
    ++ tuple_text names outs ++ codes "\n"

abbrev pub pick_line : ℕ → ℕ → List ℕ
pick_line depth k = decimal depth ++ codes " pick " ++ decimal k ++ codes "\n"

abbrev mutual
  -- a derivation's line, and then the lines of its steps in order, one deeper
  pub derivation_lines : Def → List (List ℕ) → ℕ → Derivation → List ℕ
  derivation_lines d names depth (derivation hook point ins steps outs) = call_line d names depth hook point ins outs ++ steps_lines d names (depth + 1) steps

  pub steps_lines : Def → List (List ℕ) → ℕ → Steps → List ℕ
  steps_lines d names depth done = []
  steps_lines d names depth (pick k rest) = pick_line depth k ++ steps_lines d names depth rest
  steps_lines d names depth (sub t rest) = derivation_lines d names depth t ++ steps_lines d names depth rest
