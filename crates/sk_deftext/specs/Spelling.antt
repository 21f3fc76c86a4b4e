-- How the parts of a definition are spelled: the symbols of lists, items and bones.
use Rattle.std.specs.Prelude.{ℕ, zero, suc, List, [], ◌∷◌, ◌++◌, length, codes}
use Rattle.std.specs.List.{join_by}
use Rattle.sk_lex.specs.Symbols.{Symbol, Named, Plain}
use Rattle.sk_lex.specs.declared.token.TokenKind.TheVariants.{LeftParen, RightParen, LeftBrace, RightBrace, Comma, Colon, Arrow}
use Rattle.sk_def.specs.Filters.{filter_word}
use Rattle.sk_def.specs.Layout.{after_branches}
use Rattle.sk_def.specs.declared.bone.Bone.{Bone}
use Rattle.sk_def.specs.declared.bone.Bone.TheVariants.{Apply, Call, Either}
use Rattle.sk_def.specs.declared.def.Con.{Con}
use Rattle.sk_def.specs.declared.def.Hook.{Hook}
use Rattle.sk_def.specs.declared.def.Rule.{Rule}
use Rattle.sk_def.specs.declared.def.Def.{Def}
use Rattle.sk_deftext.specs.Canonical.{name_at, hook_word, con_word, flow_word, arg_word, var_word, target_word, branches}

-- entries in parentheses, given their words, with `,` between
abbrev pub more_symbols : {A : Type 0} → (A → List ℕ) → List A → List Symbol
more_symbols word [] = Plain RightParen ∷ []
more_symbols word (x ∷ xs) = Plain Comma ∷ Named (word x) ∷ more_symbols word xs

abbrev pub list_symbols : {A : Type 0} → (A → List ℕ) → List A → List Symbol
list_symbols word [] = Plain LeftParen ∷ Plain RightParen ∷ []
list_symbols word (x ∷ xs) = Plain LeftParen ∷ Named (word x) ∷ more_symbols word xs

-- a sort, a constructor and a hook, given the names of the sorts
abbrev pub sort_symbols : List ℕ → List Symbol
sort_symbols name = Named (codes "sort") ∷ Named name ∷ []

abbrev pub con_symbols : List (List ℕ) → Con → List Symbol
con_symbols sorts con =
    Named (codes "con") ∷ Named con.name ∷ Plain Colon ∷ Named (name_at sorts con.sort.0) ∷ list_symbols (arg_word sorts) con.args

abbrev pub hook_symbols : List (List ℕ) → Hook → List Symbol
hook_symbols sorts hook =
    Named (codes "hook") ∷ Named hook.name ∷ (list_symbols flow_word hook.inputs
    ++ (Named (name_at sorts hook.sort.0) ∷ Plain Arrow ∷ list_symbols flow_word hook.outputs))

module _ (hooks : List Hook) (vars : List (List ℕ)) where
  -- at most `size` bones, one after the other; a branch bone has the bones of its branches in braces
  abbrev pub bones_symbols : ℕ → List Bone → List Symbol
  bones_symbols size [] = []
  bones_symbols zero (bone ∷ bones) = []
  bones_symbols (suc size) (Apply filter args outs ∷ bones) =
      Named (filter_word filter) ∷ (list_symbols (var_word vars) args ++ (Plain Arrow ∷ (list_symbols (var_word vars) outs ++ bones_symbols size bones)))
  bones_symbols (suc size) (Call hook args target outs ∷ bones) =
      Named (hook_word hooks hook) ∷ (list_symbols (var_word vars) args
      ++ (Named (target_word vars target) ∷ Plain Arrow ∷ (list_symbols (var_word vars) outs ++ bones_symbols size bones)))
  bones_symbols (suc size) (Either counts exports ∷ bones) =
      Named (codes "either") ∷ Plain LeftBrace ∷ (join_by (bones_symbols size) (Plain RightBrace ∷ Named (codes "or") ∷ Plain LeftBrace ∷ []) (branches counts bones)
      ++ (Plain RightBrace ∷ Named (codes "with") ∷ (list_symbols (var_word vars) exports ++ bones_symbols size (after_branches counts bones))))

-- a rule: its hook and constructor, its lists of variables, and its bones in braces
abbrev pub rule_symbols : Def → Rule → List Symbol
rule_symbols d rule =
    Named (codes "rule") ∷ Named (hook_word d.hooks rule.hook) ∷ Named (con_word d.cons rule.con) ∷ (list_symbols (var_word rule.vars) rule.terms
    ++ (list_symbols (var_word rule.vars) rule.inputs ++ (Plain LeftBrace ∷ (bones_symbols d.hooks rule.vars (length rule.bones) rule.bones
    ++ (Plain RightBrace ∷ Plain Arrow ∷ list_symbols (var_word rule.vars) rule.outputs)))))

-- nothing is declared, and what is declared with one item more
abbrev pub no_declaration : Def
no_declaration = record { sorts = []; cons = []; hooks = []; rules = [] }

abbrev pub with_sort : Def → List ℕ → Def
with_sort now name = record { sorts = now.sorts ++ name ∷ []; cons = now.cons; hooks = now.hooks; rules = now.rules }

abbrev pub with_con : Def → Con → Def
with_con now con = record { sorts = now.sorts; cons = now.cons ++ con ∷ []; hooks = now.hooks; rules = now.rules }

abbrev pub with_hook : Def → Hook → Def
with_hook now hook = record { sorts = now.sorts; cons = now.cons; hooks = now.hooks ++ hook ∷ []; rules = now.rules }

abbrev pub with_rule : Def → Rule → Def
with_rule now rule = record { sorts = now.sorts; cons = now.cons; hooks = now.hooks; rules = now.rules ++ rule ∷ [] }
