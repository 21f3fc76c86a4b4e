-- Which definitions a text can say.
use Rattle.std.specs.Prelude.{◌≡◌, ◌⊎◌, ℕ, zero, suc, ◌<◌, ◌≤◌, Bool, true, false, ◌&&◌, List, [], ◌∷◌, ◌++◌, length, map, flat_map, All, Some, None, Ok}
use Rattle.std.specs.List.{list_all}
use Rattle.std.specs.Str.{IsUtf8, chars}
use Rattle.unicode_ident.specs.Ident.{is_xid_continue}
use Rattle.sk_base.specs.Names.{place_of_name}
use Rattle.sk_lex.specs.Tokens.{starts_word}
use Rattle.sk_def.specs.Filters.{filter_named}
use Rattle.sk_def.specs.Fits.{ListsAreShort, HasFewBranches, DefinitionFits}
use Rattle.sk_def.specs.Layout.{after_branches}
use Rattle.sk_def.specs.declared.ids.Var.{Var}
use Rattle.sk_def.specs.declared.bone.Target.{Target}
use Rattle.sk_def.specs.declared.bone.Target.TheVariants.{Own, Sub}
use Rattle.sk_def.specs.declared.bone.Bone.{Bone}
use Rattle.sk_def.specs.declared.bone.Bone.TheVariants.{Apply, Call, Either}
use Rattle.sk_def.specs.declared.def.Con.{Con}
use Rattle.sk_def.specs.declared.def.Hook.{Hook}
use Rattle.sk_def.specs.declared.def.Rule.{Rule}
use Rattle.sk_def.specs.declared.def.Def.{Def}
use Rattle.sk_deftext.specs.Words.{keyword_of, is_reserved}
use Rattle.sk_deftext.specs.Canonical.{name_at, branches}
use Rattle.sk_deftext.specs.Texts.{read_definition}
use Rattle.sk_deftext.specs.declared.source.Places.{Places}

-- characters that a word may have
abbrev pub are_word : List ℕ → Bool
are_word [] = false
are_word (c ∷ cs) = starts_word c && list_all is_xid_continue cs

-- bytes that are a word
pub record IsWord (word : List ℕ) : Type 0 where
  pub utf8 : IsUtf8 word
  pub characters : are_word (chars word) ≡ true
  pub short : length word ≤ 64

-- a name: a word that is no keyword
pub record IsName (name : List ℕ) : Type 0 where
  pub word : IsWord name
  pub plain : keyword_of name ≡ None

-- different names: each is found at its own place
pub record AreNames (names : List (List ℕ)) : Type 0 where
  pub each : All IsName names
  pub found : (place : ℕ) → place < length names → place_of_name names (name_at names place) ≡ Some place

abbrev pub target_vars : Target → List Var
target_vars Own = []
target_vars (Sub var) = var ∷ []

-- the variables of at most `size` bones, as they come in the text
abbrev pub bones_vars : ℕ → List Bone → List Var
bones_vars size [] = []
bones_vars zero (bone ∷ bones) = []
bones_vars (suc size) (Apply filter args outs ∷ bones) = args ++ (outs ++ bones_vars size bones)
bones_vars (suc size) (Call hook args target outs ∷ bones) = args ++ (target_vars target ++ (outs ++ bones_vars size bones))
bones_vars (suc size) (Either counts exports ∷ bones) =
    flat_map (bones_vars size) (branches counts bones) ++ (exports ++ bones_vars size (after_branches counts bones))

abbrev pub rule_vars : Rule → List Var
rule_vars rule = rule.terms ++ (rule.inputs ++ (bones_vars (length rule.bones) rule.bones ++ rule.outputs))

-- variables that come where so many have come before, and how many have come then: each has come before or is the next
abbrev pub Appear : ℕ → List Var → ℕ → Type 0
Appear seen [] all = seen ≡ all
Appear seen (var ∷ vars) all = ((var.0 < seen) × Appear seen vars all) ⊎ ((var.0 ≡ seen) × Appear (suc seen) vars all)

-- a rule whose variables have different names, and whose lists are within their limits
pub record RuleHasNames (rule : Rule) : Type 0 where
  pub names : AreNames rule.vars
  pub few_terms : length rule.terms ≤ 8
  pub few_inputs : length rule.inputs ≤ 8
  pub few_outputs : length rule.outputs ≤ 8
  pub short : All ListsAreShort rule.bones

-- a definition whose names a text can say
pub record HasNames (d : Def) : Type 0 where
  pub sorts : AreNames d.sorts
  pub own_sorts : All (λ name. is_reserved name ≡ false) d.sorts
  pub cons : AreNames (map (λ (con : Con). con.name) d.cons)
  pub hooks : AreNames (map (λ (hook : Hook). hook.name) d.hooks)
  pub own_hooks : All (λ (hook : Hook). filter_named hook.name ≡ None) d.hooks
  pub rules : All RuleHasNames d.rules

-- a rule whose variables are numbered by their first appearance
pub record IsInOrder (rule : Rule) : Type 0 where
  pub few_branches : All HasFewBranches rule.bones
  pub appear : Appear 0 (rule_vars rule) (length rule.vars)

-- a definition that a text can say
pub record HasText (d : Def) : Type 0 where
  pub fits : DefinitionFits d
  pub named : HasNames d
  pub in_order : All IsInOrder d.rules

-- a text says a definition, wherever its parts stand
pub record Says (text : List ℕ) (d : Def) : Type 0 where
  pub places : Places
  pub is : read_definition text ≡ Ok (record { def = d; places = places })
