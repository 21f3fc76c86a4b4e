-- Reading a definition. What is expected and the next symbol decide.
use Rattle.std.specs.Prelude.{ℕ, ◌||◌, nat_lt, pos, Bool, true, false, if◌then◌else◌, List, [], ◌∷◌, ◌++◌, length, ℤ, option_map, Option, Some, None, is_some, Result, Ok, Err, codes}
use Rattle.std.specs.Str.{bytes_eq}
use Rattle.std.specs.Ordering.{int_eq}
use Rattle.sk_base.specs.Names.{place_of_name}
use Rattle.sk_lex.specs.Run.{Turn, Rules, run_whole}
use Rattle.sk_deftext.specs.Met.{Met, met, asked, one_more}
use Rattle.sk_def.specs.Named.{place_of_con, place_of_hook}
use Rattle.sk_deftext.specs.Bodies.{rule_hook, rule_con, variable, bone, target, closing_brace, branch_begun, or_first, or_more, listed_terms, listed_inputs, with_args, finished_bone, finished_branches, finished_rule}
use Rattle.sk_lex.specs.Symbols.{Symbol, word_of, number_of, is_open, is_close, is_comma, is_colon, is_arrow, is_left_brace, is_right_brace}
use Rattle.sk_def.specs.Filters.{filter_named}
use Rattle.sk_def.specs.declared.sorts.ArgSort.{ArgSort}
use Rattle.sk_def.specs.declared.sorts.ArgSort.TheVariants as arg
use Rattle.sk_def.specs.declared.bone.Target.TheVariants.{Own}
use Rattle.sk_def.specs.declared.ids.SortId.{SortId}
use Rattle.sk_deftext.specs.Words.{keyword_in, plain_word, flow_sort_of, is_reserved}
use Rattle.sk_deftext.specs.declared.draft.Draft.{Draft}
use Rattle.sk_deftext.specs.declared.expected.Listed.{Listed}
use Rattle.sk_deftext.specs.declared.expected.Listed.TheVariants.{Arguments, Inputs, Outputs, Terms, RuleInputs, RuleOutputs, BoneArgs, BoneOuts, Exports}
use Rattle.sk_deftext.specs.declared.expected.Body.{Body}
use Rattle.sk_deftext.specs.declared.expected.Body.TheVariants.{Rule}
use Rattle.sk_deftext.specs.declared.expected.Expected.{Expected}
use Rattle.sk_deftext.specs.declared.expected.Expected.TheVariants.{Skel, Version, Item, SortName, ConName, HookName, Colon, Arrow, Open, SortUsed, First, More, Next, RuleHook, RuleCon, LeftBrace, Bones, BoneTarget, BranchOpen, OrFirst, OrMore, Closing}
use Rattle.sk_deftext.specs.declared.fault.DefError.{DefError}
use Rattle.sk_deftext.specs.declared.fault.DefError.TheVariants.{Unexpected, Unknown, Duplicate, TooMany}
use Rattle.sk_deftext.specs.declared.fault.Which.TheVariants as which
use Rattle.sk_deftext.specs.declared.word.Keyword.{Keyword}
use Rattle.sk_deftext.specs.declared.word.Keyword.TheVariants as keyword

unfoldable pub skel : Draft → Option (List ℕ) → Met
skel draft None = Err Unexpected
skel draft (Some word) = asked draft (bytes_eq word (codes "skel"))

unfoldable pub version : Draft → Option ℤ → Met
version draft None = Err Unexpected
version draft (Some value) = asked draft (int_eq value (pos 1))

-- the first word of an item, and what is expected after it
abbrev pub rule_form : List Expected
rule_form = RuleHook ∷ RuleCon ∷ Open ∷ First Terms ∷ Open ∷ First RuleInputs ∷ LeftBrace ∷ Bones Rule ∷ Closing ∷ Open ∷ First RuleOutputs ∷ Item ∷ []

unfoldable pub item : Draft → ℕ → Option Keyword → Met
item draft at None = Err Unexpected
item draft at (Some keyword.Sort) = met draft (SortName ∷ Item ∷ [])
item draft at (Some keyword.Con) = met draft (ConName ∷ Colon ∷ SortUsed ∷ Open ∷ First Arguments ∷ Item ∷ [])
item draft at (Some keyword.Hook) = met (record draft { begun = at }) (HookName ∷ Open ∷ First Inputs ∷ SortUsed ∷ Arrow ∷ Open ∷ First Outputs ∷ Item ∷ [])
item draft at (Some keyword.Rule) = met (record draft { begun = at }) rule_form
item draft at (Some other) = Err Unexpected

-- a new name, where so many stand already, and whether it is taken
abbrev pub declared : ℕ → ℕ → DefError → Bool → Met → Met
declared count most too_many taken turn =
    if nat_lt count most then (if taken then Err Duplicate else turn) else Err too_many

abbrev pub has_name : List (List ℕ) → List ℕ → Bool
has_name names word = is_some (place_of_name names word)

unfoldable pub sort_name : Draft → Option (List ℕ) → Met
sort_name draft None = Err Unexpected
sort_name draft (Some word) =
    declared (length draft.def.sorts) 16 (TooMany which.Sorts) (is_reserved word || has_name draft.def.sorts word)
    (met (record draft { def = record draft.def { sorts = draft.def.sorts ++ word ∷ [] } }) [])

-- a name begins its item; the rest of it comes later
unfoldable pub con_name : Draft → Option (List ℕ) → Met
con_name draft None = Err Unexpected
con_name draft (Some word) =
    declared (length draft.def.cons) 128 (TooMany which.Constructors) (is_some (place_of_con draft.def.cons word))
    (met (record draft { con_name = Some word }) [])

unfoldable pub hook_name : Draft → Option (List ℕ) → Met
hook_name draft None = Err Unexpected
hook_name draft (Some word) =
    declared (length draft.def.hooks) 8 (TooMany which.Hooks) (is_some (filter_named word) || is_some (place_of_hook draft.def.hooks word))
    (met (record draft { hook_name = Some word }) [])

-- the sort of a name
abbrev pub sort_named : List (List ℕ) → List ℕ → Option SortId
sort_named sorts word = option_map (λ place. record { 0 = place }) (place_of_name sorts word)

abbrev pub with_sort : Draft → Option SortId → Met
with_sort draft None = Err Unknown
with_sort draft (Some sort) = met (record draft { sort = Some sort }) []

unfoldable pub sort_used : Draft → Option (List ℕ) → Met
sort_used draft None = Err Unexpected
sort_used draft (Some word) = with_sort draft (sort_named draft.def.sorts word)

abbrev pub arg_sort_named : List (List ℕ) → List ℕ → Option ArgSort
arg_sort_named sorts word =
    if bytes_eq word (codes "number") then Some arg.Number else (if bytes_eq word (codes "name") then Some arg.Name
    else option_map arg.Term (sort_named sorts word))

-- an entry of a list, before what is expected after it
unfoldable pub argument : Draft → Option (List ℕ) → Met
argument draft None = Err Unexpected
argument draft (Some word) =
    one_more (length draft.args) 8 (TooMany which.Arguments) (arg_sort_named draft.def.sorts word)
    (λ sort. met (record draft { args = draft.args ++ sort ∷ [] }) (More Arguments ∷ []))

unfoldable pub input : Draft → Option (List ℕ) → Met
input draft None = Err Unexpected
input draft (Some word) =
    one_more (length draft.inputs) 4 (TooMany which.Flows) (flow_sort_of word)
    (λ sort. met (record draft { inputs = draft.inputs ++ sort ∷ [] }) (More Inputs ∷ []))

unfoldable pub output : Draft → Option (List ℕ) → Met
output draft None = Err Unexpected
output draft (Some word) =
    one_more (length draft.outputs) 4 (TooMany which.Flows) (flow_sort_of word)
    (λ sort. met (record draft { outputs = draft.outputs ++ sort ∷ [] }) (More Outputs ∷ []))

unfoldable pub entry : Draft → Listed → Symbol → Met
entry draft Arguments symbol = argument draft (word_of symbol)
entry draft Inputs symbol = input draft (word_of symbol)
entry draft Outputs symbol = output draft (word_of symbol)
entry draft other symbol = variable draft other (plain_word (word_of symbol))

-- the end of a list, which may be the end of its item. Without a name and a sort no item can end
abbrev pub finished_con : Draft → Option (List ℕ) → Option SortId → Met
finished_con draft None sort = Err Unexpected
finished_con draft (Some name) None = Err Unexpected
finished_con draft (Some name) (Some sort) = met (record draft {
  def = record draft.def { cons = draft.def.cons ++ record { name = name; sort = sort; args = draft.args } ∷ [] };
  con_name = None;
  args = [];
}) []

abbrev pub finished_hook : Draft → Option (List ℕ) → Option SortId → Met
finished_hook draft None sort = Err Unexpected
finished_hook draft (Some name) None = Err Unexpected
finished_hook draft (Some name) (Some sort) = met (record draft {
  def = record draft.def { hooks = draft.def.hooks ++ record { name = name; inputs = draft.inputs; sort = sort; outputs = draft.outputs } ∷ [] };
  hooks = draft.hooks ++ draft.begun ∷ [];
  hook_name = None;
  inputs = [];
  outputs = [];
}) []

unfoldable pub closed : Draft → Listed → Met
closed draft Arguments = finished_con draft draft.con_name draft.sort
closed draft Inputs = met draft []
closed draft Outputs = finished_hook draft draft.hook_name draft.sort
closed draft Terms = met (listed_terms draft) []
closed draft RuleInputs = met (listed_inputs draft) []
closed draft BoneArgs = met (with_args draft) []
closed draft BoneOuts = finished_bone draft draft.opened
closed draft Exports = finished_branches draft draft.unclosed
closed draft RuleOutputs = finished_rule draft draft.hook draft.con

unfoldable pub first : Draft → Listed → Symbol → Met
first draft listed symbol = if is_close symbol then closed draft listed else entry draft listed symbol

unfoldable pub more : Draft → Listed → Symbol → Met
more draft listed symbol =
    if is_close symbol then closed draft listed else (if is_comma symbol then met draft (Next listed ∷ []) else Err Unexpected)

-- a bone, or the `}` after the bones
abbrev pub bones : Draft → Body → ℕ → Symbol → Met
bones draft body at symbol = if is_right_brace symbol then closing_brace draft body else bone draft body at (word_of symbol)

abbrev pub branch_open : Draft → Symbol → Met
branch_open draft symbol = if is_left_brace symbol then branch_begun draft draft.unclosed else Err Unexpected

abbrev pub closing : Draft → ℕ → Symbol → Met
closing draft at symbol = if is_arrow symbol then met (record draft { closing = at }) [] else Err Unexpected

-- what comes of the symbol at a place, where this is expected
unfoldable pub step : Draft → Expected → ℕ → Symbol → Met
step draft Skel at symbol = skel draft (word_of symbol)
step draft Version at symbol = version draft (number_of symbol)
step draft Item at symbol = item draft at (keyword_in (word_of symbol))
step draft SortName at symbol = sort_name draft (plain_word (word_of symbol))
step draft ConName at symbol = con_name draft (plain_word (word_of symbol))
step draft HookName at symbol = hook_name draft (plain_word (word_of symbol))
step draft Colon at symbol = asked draft (is_colon symbol)
step draft Arrow at symbol = asked draft (is_arrow symbol)
step draft Open at symbol = asked draft (is_open symbol)
step draft SortUsed at symbol = sort_used draft (word_of symbol)
step draft (First listed) at symbol = first draft listed symbol
step draft (More listed) at symbol = more draft listed symbol
step draft (Next listed) at symbol = entry draft listed symbol
step draft RuleHook at symbol = rule_hook draft (word_of symbol)
step draft RuleCon at symbol = rule_con draft (word_of symbol)
step draft LeftBrace at symbol = asked draft (is_left_brace symbol)
step draft (Bones body) at symbol = bones draft body at symbol
step draft BoneTarget at symbol = target draft (word_of symbol)
step draft BranchOpen at symbol = branch_open draft symbol
step draft OrFirst at symbol = or_first draft (keyword_in (word_of symbol))
step draft OrMore at symbol = or_more draft (keyword_in (word_of symbol))
step draft Closing at symbol = closing draft at symbol

-- a refusal stands at its symbol
abbrev pub at_symbol : ℕ → Met → Result (Turn Expected Draft) (DefError × ℕ)
at_symbol at (Ok turn) = Ok turn
at_symbol at (Err error) = Err (error, at)

-- the text may end where an item may begin
abbrev pub may_end : Expected → Bool
may_end Item = true
may_end other = false

-- the grammar of definitions
abbrev pub definition_rules : Rules Expected Draft DefError
definition_rules = record {
  meets = λ expected draft at symbol left. at_symbol at (step draft expected at symbol);
  may_end = may_end;
  unexpected = Unexpected;
}

-- nothing was read
abbrev pub nothing : Draft
nothing = record {
  def = record { sorts = []; cons = []; hooks = []; rules = [] };
  hooks = [];
  rules = [];
  begun = 0;
  con_name = None;
  hook_name = None;
  sort = None;
  args = [];
  inputs = [];
  outputs = [];
  hook = None;
  con = None;
  vars = [];
  terms = [];
  rule_inputs = [];
  marks = [];
  closing = 0;
  bones = [];
  unclosed = [];
  opened = None;
  bone_args = [];
  target = Own;
  listed = [];
}

-- a definition's symbols: what was read, or the code and the place of the first symbol that fits no case
unfoldable pub read_symbols : List Symbol → Result Draft (DefError × ℕ)
read_symbols symbols = run_whole definition_rules (Skel ∷ Version ∷ Item ∷ []) nothing symbols
