-- The text of the results of a call.
use Rattle.std.specs.Prelude.{◌≡◌, ℕ, suc, List, [], ◌∷◌, ◌++◌, codes, decimal, length}
use Rattle.sk_def.specs.declared.def.Def.{Def}
use Rattle.sk_term.specs.declared.node.TermNode.{TermNode}
use Rattle.sk_value.specs.Texts.{tuple_text}
use Rattle.sk_deriv.specs.declared.call.Call.{Call}
use Rattle.sk_deriv.specs.Lines.{derivation_lines}
use Rattle.sk_deriv.specs.Moves.{Setting}
use Rattle.sk_deriv.specs.Results.{Outcome, Results}

-- what `run` is asked: the results of a call to a depth, in a program of a definition over these names
pub record Question : Type 0 where
  pub def : Def
  pub nodes : List TermNode
  pub names : List (List ℕ)
  pub call : Call
  pub depth : ℕ

abbrev pub setting_in : Question → Setting
setting_in q = record { def = q.def; nodes = q.nodes; names = length q.names }

-- a result with its number, and its derivation
abbrev pub outcome_lines : Def → List (List ℕ) → ℕ → Outcome → List ℕ
outcome_lines d names number x = codes "result " ++ decimal number ++ codes " " ++ tuple_text names x.0 ++ codes "\n" ++ derivation_lines d names 0 x.1

-- the results in order, the first of which has this number
abbrev pub outcomes_lines : Def → List (List ℕ) → ℕ → List Outcome → List ℕ
outcomes_lines d names number [] = []
outcomes_lines d names number (x ∷ xs) = outcome_lines d names number x ++ outcomes_lines d names (suc number) xs

-- the results in order from 1, and last how many there are
abbrev pub outcomes_text : Def → List (List ℕ) → List Outcome → List ℕ
outcomes_text d names xs = outcomes_lines d names 1 xs ++ codes "results " ++ decimal (length xs) ++ codes "\n"

-- the text is that of the results, of all derivations that there are
abbrev pub IsResultsText : Question → List ℕ → Type 0
IsResultsText q text = (xs : List Outcome) × Results (setting_in q) q.call q.depth xs × (text ≡ outcomes_text q.def q.names xs)
