-- The symbols of a definition read as this definition.
use Rattle.std.proofs.Common.{◌≡◌, ◌==◌, ℕ, ◌+◌, ◌<◌, ◌≤◌, Bool, true, false, ◌||◌, if◌then◌else◌, List, [], ◌∷◌, ◌++◌, length, map, take, get_or, refl, sym, ap, ap₂, subst, ◌∙◌, arith, append_assoc, length-append, Option, Some, None, Ok, Err, pos}
use Rattle.std.specs.Prelude.{codes, All, option_map, flat_map, is_some}
use Rattle.std.proofs.lemmas.Bool.{lt-ltb}
use Rattle.std.proofs.lemmas.Bool.Decides.{nat_tests}
use Rattle.std.proofs.lemmas.List.{append-nil, length-map, get_or-map, map-append}
use Rattle.std.proofs.Math.Seq.{take-length}
use Rattle.std.proofs.lemmas.Option.{unwrap_or-slice_get}
use Rattle.sk_base.specs.Answer.{◌>>=◌}
use Rattle.sk_base.specs.Names.{place_of_name}
use Rattle.sk_base.specs.declared.flow.FlowSort.{FlowSort}
use Rattle.sk_base.specs.declared.flow.FlowSort.TheVariants.{Int, Bool as Truth, Val, Store}
use Rattle.sk_lex.specs.Run.{run, ended}
use Rattle.sk_lex.specs.Symbols.{Symbol, Named, Plain, symbols}
use Rattle.sk_lex.specs.Tokens.{tokens_of}
use Rattle.sk_lex.specs.declared.token.Token.{Token}
use Rattle.sk_lex.specs.declared.token.TokenKind.TheVariants.{Number, LeftBrace, RightBrace, Arrow as Points}
use Rattle.sk_def.specs.Filters.{filter_named}
use Rattle.sk_def.specs.Fits.{ArgumentFits, ConstructorFits, HookFits, RuleFits}
use Rattle.sk_def.specs.Layout.{BonesFit}
use Rattle.sk_def.specs.Named.{place_of_con, place_of_hook}
use Rattle.sk_def.specs.declared.sorts.ArgSort.{ArgSort}
use Rattle.sk_def.specs.declared.ids.SortId.{SortId}
use Rattle.sk_def.specs.declared.ids.HookId.{HookId}
use Rattle.sk_def.specs.declared.ids.ConId.{ConId}
use Rattle.sk_def.specs.declared.ids.Var.{Var}
use Rattle.sk_def.specs.declared.bone.Target.{Target}
use Rattle.sk_def.specs.declared.bone.Target.TheVariants.{Own}
use Rattle.sk_def.specs.declared.bone.Bone.{Bone}
use Rattle.sk_def.specs.declared.def.Con.{Con}
use Rattle.sk_def.specs.declared.def.Hook.{Hook}
use Rattle.sk_def.specs.declared.def.Rule.{Rule}
use Rattle.sk_def.specs.declared.def.Def.{Def}
use Rattle.sk_deftext.specs.Canonical.{name_at, hook_word, con_word, flow_word, arg_word, var_word, definition_text}
use Rattle.sk_deftext.specs.Words.{keyword_of, unless_keyword, flow_sort_of, is_reserved}
use Rattle.sk_deftext.specs.Met.{Met, met, one_more}
use Rattle.sk_deftext.specs.Bodies as spec
use Rattle.sk_deftext.specs.Bodies.{rule_hook, rule_con, closing_brace}
use Rattle.sk_deftext.specs.Reading as read
use Rattle.sk_deftext.specs.Reading.{definition_rules, skel, version, item, sort_name, con_name, hook_name, sort_used, sort_named, argument, arg_sort_named, input, output, entry, closed, step, nothing, read_symbols}
use Rattle.sk_deftext.specs.Texts.{read_definition, lexed, located, source_of}
use Rattle.sk_deftext.specs.Written.{IsName, AreNames, Appear, RuleHasNames, IsInOrder, HasText, Says, bones_vars}
use Rattle.sk_deftext.specs.declared.draft.Draft.{Draft}
use Rattle.sk_deftext.specs.declared.expected.Expected.{Expected}
use Rattle.sk_deftext.specs.declared.expected.Expected.TheVariants as expected
use Rattle.sk_deftext.specs.declared.expected.Listed.TheVariants as listed
use Rattle.sk_deftext.specs.declared.expected.Body.TheVariants as body_of
use Rattle.sk_deftext.specs.declared.fault.DefError.{DefError}
use Rattle.sk_deftext.specs.declared.fault.DefError.TheVariants.{Unexpected, Duplicate, TooMany}
use Rattle.sk_deftext.specs.declared.fault.Which.TheVariants as which
use Rattle.sk_deftext.specs.Spelling.{no_declaration, with_sort, with_con, with_hook, with_rule, list_symbols, sort_symbols, con_symbols, hook_symbols, bones_symbols, rule_symbols}
use Rattle.sk_deftext.proofs.Said.{definition_symbols, hook_word_is, con_word_is, definition_writes}
use Rattle.sk_deftext.proofs.Spelled.{written_spells, text_tokens, text_symbols}
use Rattle.sk_deftext.proofs.Found.{con_place, hook_place, after_front, sort_found, argument_found, appears, appears_more}
use Rattle.sk_deftext.proofs.Steps.{Answer, Gets, Closes, turn, closes, colon_step, arrow_step, left_brace_step, list_gets, with_vars, terms_of_vars, inputs_of_vars, outputs_of_vars, vars_get}
use Rattle.sk_deftext.proofs.Returned.{in_body, Bones, BoneIsShort, bone_short, bones_get}

-- Turns of items.

sort_begins : (draft : Draft) (at : ℕ) → step draft expected.Item at (Named (codes "sort")) ≡ met draft (expected.SortName ∷ expected.Item ∷ [])
unfolding step item
sort_begins draft at = refl

con_begins : (draft : Draft) (at : ℕ) → step draft expected.Item at (Named (codes "con")) ≡ met draft (expected.ConName ∷ expected.Colon ∷ expected.SortUsed ∷ expected.Open ∷ expected.First listed.Arguments ∷ expected.Item ∷ [])
unfolding step item
con_begins draft at = refl

hook_begins : (draft : Draft) (at : ℕ) → step draft expected.Item at (Named (codes "hook"))
    ≡ met (record draft { begun = at }) (expected.HookName ∷ expected.Open ∷ expected.First listed.Inputs ∷ expected.SortUsed ∷ expected.Arrow ∷ expected.Open ∷ expected.First listed.Outputs ∷ expected.Item ∷ [])
unfolding step item
hook_begins draft at = refl

rule_begins : (draft : Draft) (at : ℕ) → step draft expected.Item at (Named (codes "rule")) ≡ met (record draft { begun = at }) read.rule_form
unfolding step item
rule_begins draft at = refl

is_declared : (count most : ℕ) (too_many : DefError) (taken : Bool) (turn : Met) → count < most → taken ≡ false → read.declared count most too_many taken turn ≡ turn
is_declared count most too_many taken turn few new =
    ap (λ b. if b then (if taken then Err Duplicate else turn) else Err too_many) (lt-ltb count most few) ∙ ap (λ b. if b then Err Duplicate else turn) new

sort_named_so : (draft : Draft) (at : ℕ) (name : List ℕ) → keyword_of name ≡ None → length draft.def.sorts < 16 → is_reserved name ≡ false → place_of_name draft.def.sorts name ≡ None →
    step draft expected.SortName at (Named name) ≡ met (record draft { def = record draft.def { sorts = draft.def.sorts ++ name ∷ [] } }) []
unfolding step sort_name
sort_named_so draft at name k few own new =
    ap (λ key. sort_name draft (unless_keyword name key)) k
    ∙ is_declared (length draft.def.sorts) 16 (TooMany which.Sorts) (is_reserved name || read.has_name draft.def.sorts name) (met (record draft { def = record draft.def { sorts = draft.def.sorts ++ name ∷ [] } }) [])
    few (ap₂ (λ a b. a || b) own (ap (λ (o : Option ℕ). is_some o) new))

con_named_so : (draft : Draft) (at : ℕ) (name : List ℕ) → keyword_of name ≡ None → length draft.def.cons < 128 → place_of_con draft.def.cons name ≡ None →
    step draft expected.ConName at (Named name) ≡ met (record draft { con_name = Some name }) []
unfolding step con_name
con_named_so draft at name k few new =
    ap (λ key. con_name draft (unless_keyword name key)) k
    ∙ is_declared (length draft.def.cons) 128 (TooMany which.Constructors) (is_some (place_of_con draft.def.cons name)) (met (record draft { con_name = Some name }) []) few (ap (λ (o : Option ℕ). is_some o) new)

hook_named_so : (draft : Draft) (at : ℕ) (name : List ℕ) → keyword_of name ≡ None → length draft.def.hooks < 8 → filter_named name ≡ None → place_of_hook draft.def.hooks name ≡ None →
    step draft expected.HookName at (Named name) ≡ met (record draft { hook_name = Some name }) []
unfolding step hook_name
hook_named_so draft at name k few own new =
    ap (λ key. hook_name draft (unless_keyword name key)) k
    ∙ is_declared (length draft.def.hooks) 8 (TooMany which.Hooks) (is_some (filter_named name) || is_some (place_of_hook draft.def.hooks name)) (met (record draft { hook_name = Some name }) [])
    few (ap₂ (λ a b. is_some a || is_some b) own new)

sort_is_used : (draft : Draft) (at : ℕ) (word : List ℕ) (id : SortId) → sort_named draft.def.sorts word ≡ Some id → step draft expected.SortUsed at (Named word) ≡ met (record draft { sort = Some id }) []
unfolding step sort_used
sort_is_used draft at word id e = ap (read.with_sort draft) e

argument_enters : (draft : Draft) (word : List ℕ) (sort : ArgSort) → length draft.args < 8 → arg_sort_named draft.def.sorts word ≡ Some sort →
    entry draft listed.Arguments (Named word) ≡ met (record draft { args = draft.args ++ sort ∷ [] }) (expected.More listed.Arguments ∷ [])
unfolding entry argument
argument_enters draft word sort few e =
    ap (λ o. one_more (length draft.args) 8 (TooMany which.Arguments) o (λ sort. met (record draft { args = draft.args ++ sort ∷ [] }) (expected.More listed.Arguments ∷ []))) e
    ∙ ap (λ b. if b then met (record draft { args = draft.args ++ sort ∷ [] }) (expected.More listed.Arguments ∷ []) else Err (TooMany which.Arguments)) (lt-ltb (length draft.args) 8 few)

flow_found : (sort : FlowSort) → flow_sort_of (flow_word sort) ≡ Some sort
flow_found Int = refl
flow_found Truth = refl
flow_found Val = refl
flow_found Store = refl

input_enters : (draft : Draft) (sort : FlowSort) → length draft.inputs < 4 → entry draft listed.Inputs (Named (flow_word sort)) ≡ met (record draft { inputs = draft.inputs ++ sort ∷ [] }) (expected.More listed.Inputs ∷ [])
unfolding entry input
input_enters draft sort few =
    ap (λ o. one_more (length draft.inputs) 4 (TooMany which.Flows) o (λ sort. met (record draft { inputs = draft.inputs ++ sort ∷ [] }) (expected.More listed.Inputs ∷ []))) (flow_found sort)
    ∙ ap (λ b. if b then met (record draft { inputs = draft.inputs ++ sort ∷ [] }) (expected.More listed.Inputs ∷ []) else Err (TooMany which.Flows)) (lt-ltb (length draft.inputs) 4 few)

output_enters : (draft : Draft) (sort : FlowSort) → length draft.outputs < 4 → entry draft listed.Outputs (Named (flow_word sort)) ≡ met (record draft { outputs = draft.outputs ++ sort ∷ [] }) (expected.More listed.Outputs ∷ [])
unfolding entry output
output_enters draft sort few =
    ap (λ o. one_more (length draft.outputs) 4 (TooMany which.Flows) o (λ sort. met (record draft { outputs = draft.outputs ++ sort ∷ [] }) (expected.More listed.Outputs ∷ []))) (flow_found sort)
    ∙ ap (λ b. if b then met (record draft { outputs = draft.outputs ++ sort ∷ [] }) (expected.More listed.Outputs ∷ []) else Err (TooMany which.Flows)) (lt-ltb (length draft.outputs) 4 few)

rule_hooked : (draft : Draft) (at : ℕ) (word : List ℕ) (id : HookId) → place_of_hook draft.def.hooks word ≡ Some id.0 → step draft expected.RuleHook at (Named word) ≡ met (record draft { hook = Some id }) []
unfolding step rule_hook
rule_hooked draft at word id e = ap (λ o. spec.with_hook draft (option_map (λ place. record { 0 = place }) o)) e

rule_conned : (draft : Draft) (at : ℕ) (word : List ℕ) (id : ConId) → place_of_con draft.def.cons word ≡ Some id.0 → step draft expected.RuleCon at (Named word) ≡ met (record draft { con = Some id }) []
unfolding step rule_con
rule_conned draft at word id e = ap (λ o. spec.with_con draft (option_map (λ place. record { 0 = place }) o)) e

body_closes : (draft : Draft) (at : ℕ) → step draft (expected.Bones body_of.Rule) at (Plain RightBrace) ≡ met draft []
unfolding step closing_brace
body_closes draft at = refl

rule_points : (draft : Draft) (at : ℕ) → step draft expected.Closing at (Plain Points) ≡ met (record draft { closing = at }) []
unfolding step
rule_points draft at = refl

inputs_close : (draft : Draft) → closed draft listed.Inputs ≡ met draft []
unfolding closed
inputs_close draft = refl

terms_close : (draft : Draft) → closed draft listed.Terms ≡ met (spec.listed_terms draft) []
unfolding closed
terms_close draft = refl

rule_inputs_close : (draft : Draft) → closed draft listed.RuleInputs ≡ met (spec.listed_inputs draft) []
unfolding closed
rule_inputs_close draft = refl

con_closes : (draft : Draft) → closed draft listed.Arguments ≡ read.finished_con draft draft.con_name draft.sort
unfolding closed
con_closes draft = refl

hook_closes : (draft : Draft) → closed draft listed.Outputs ≡ read.finished_hook draft draft.hook_name draft.sort
unfolding closed
hook_closes draft = refl

rule_closes : (draft : Draft) → closed draft listed.RuleOutputs ≡ spec.finished_rule draft draft.hook draft.con
unfolding closed
rule_closes draft = refl

-- a draft between items
abbrev pub idle : Def → Draft → Draft
idle d other = record other {
  def = d;
  con_name = None;
  hook_name = None;
  args = [];
  inputs = [];
  outputs = [];
  vars = [];
  terms = [];
  rule_inputs = [];
  marks = [];
  bones = [];
  unclosed = [];
  opened = None;
  bone_args = [];
  target = Own;
  listed = [];
}

-- a reading comes to an item, with so much of a definition read
pub record Idle (from : Answer) (total : ℕ) (d : Def) (left : List Symbol) : Type 0 where
  pub other : Draft
  pub gets : Gets from total (expected.Item ∷ []) (idle d other) left

nth : {A : Type 0} (done : List A) (x : A) (todo : List A) (d : A) → get_or (done ++ x ∷ todo) (length done) d ≡ x
nth [] x todo d = refl
nth (y ∷ done) x todo d = nth done x todo d

pub member : {A : Type 0} (P : A → Type 0) (xs done todo : List A) (x : A) → xs ≡ done ++ x ∷ todo → All P xs → P x
member P xs done todo x e h =
    subst P (ap (λ ys. get_or ys (length done) x) e ∙ nth done x todo x) (h (length done) x (omega (arith, ap length e, length-append done (x ∷ todo))))

shift : {A : Type 0} (xs done todo : List A) (x : A) → xs ≡ done ++ x ∷ todo → xs ≡ (done ++ x ∷ []) ++ todo
shift xs done todo x e = e ∙ sym (append_assoc done (x ∷ []) todo)

pub names_split : {A : Type 0} (name : A → List ℕ) (xs done todo : List A) (x : A) → xs ≡ done ++ x ∷ todo → map name xs ≡ map name done ++ name x ∷ map name todo
names_split name xs done todo x e = ap (map name) e ∙ map-append name done (x ∷ todo)

nth_hook : (hooks : List Hook) (place : ℕ) → place < length hooks → Hook
nth_hook [] place below = absurd (omega (arith, below))
nth_hook (hook ∷ hooks) place below = hook

-- the sort of a name that is declared
sort_of : (sorts : List (List ℕ)) → AreNames sorts → (id : SortId) → id.0 < length sorts → sort_named sorts (name_at sorts id.0) ≡ Some id
sort_of sorts names id within = sort_found sorts names id within

-- no sort that is declared has a name that is there from the start
own_name : (sorts : List (List ℕ)) → All (λ name. is_reserved name ≡ false) sorts → (place : ℕ) → place < length sorts → is_reserved (name_at sorts place) ≡ false
own_name sorts own place within =
    let P : List ℕ → Type 0 = λ name. is_reserved name ≡ false in
    subst P (sym (unwrap_or-slice_get sorts place [])) (own place [] within)

-- no hook that is declared has the name of a filter
hook_own : (hooks : List Hook) → All (λ (hook : Hook). filter_named hook.name ≡ None) hooks → (place : ℕ) → place < length hooks → filter_named (name_at (map (λ (hook : Hook). hook.name) hooks) place) ≡ None
hook_own hooks own place below =
    let name = λ (hook : Hook). hook.name in
    let hook = nth_hook hooks place below in
    let P : List ℕ → Type 0 = λ word. filter_named word ≡ None in
    subst P (sym (unwrap_or-slice_get (map name hooks) place [] ∙ get_or-map name hooks place hook [] below)) (own place hook below)

-- One item more.

module _ {from : Answer} {total : ℕ} (now : Def) where
  pub sort_get : (name : List ℕ) (left : List Symbol) → length now.sorts < 16 → keyword_of name ≡ None → is_reserved name ≡ false → place_of_name now.sorts name ≡ None →
      Idle from total now (sort_symbols name ++ left) → Idle from total (with_sort now name) left
  sort_get name left few plain own new i =
      let begun = turn i.gets (idle now i.other) (expected.SortName ∷ expected.Item ∷ []) (sort_begins (idle now i.other) i.gets.at) in
      record { other = i.other; gets = turn begun (idle (with_sort now name) i.other) [] (sort_named_so (idle now i.other) begun.at name plain few own new) }

  module _ (sort_names : AreNames now.sorts) where
    pub con_get : (con : Con) (left : List Symbol) → All (λ name. is_reserved name ≡ false) now.sorts → length now.cons < 128 → keyword_of con.name ≡ None → place_of_con now.cons con.name ≡ None → ConstructorFits (length now.sorts) con →
        Idle from total now (con_symbols now.sorts con ++ left) → Idle from total (with_con now con) left
    con_get con left own few plain new fits i =
        let first = idle now i.other in
        let g = i.gets in
        let begun = turn g first (expected.ConName ∷ expected.Colon ∷ expected.SortUsed ∷ expected.Open ∷ expected.First listed.Arguments ∷ expected.Item ∷ []) (con_begins first g.at) in
        let named_draft = record first { con_name = Some con.name } in
        let named = turn begun named_draft [] (con_named_so first begun.at con.name plain few new) in
        let coloned = turn named named_draft [] (colon_step named_draft named.at) in
        let sorted_draft = record named_draft { sort = Some con.sort } in
        let sorted = turn coloned sorted_draft [] (sort_is_used named_draft coloned.at (name_at now.sorts con.sort.0) con.sort (sort_of now.sorts sort_names con.sort fits.sort_declared)) in
        let listed_args = list_gets listed.Arguments (arg_word now.sorts) (λ (args : List ArgSort). record sorted_draft { args = args }) 8 (ArgumentFits (length now.sorts))
        (λ (so_far : List ArgSort) (x : ArgSort) (room : length so_far < 8) (good : ArgumentFits (length now.sorts) x).
        argument_enters (record sorted_draft { args = so_far }) (arg_word now.sorts x) x room (argument_found now.sorts sort_names (own_name now.sorts own) x good)) con.args fits.few_arguments fits.arguments_declared sorted in
        let after = record i.other { sort = Some con.sort } in
        record { other = after; gets = closes listed_args (idle (with_con now con) after) [] (con_closes (record sorted_draft { args = con.args })) }

    pub hook_get : (hook : Hook) (left : List Symbol) → length now.hooks < 8 → keyword_of hook.name ≡ None → filter_named hook.name ≡ None → place_of_hook now.hooks hook.name ≡ None → HookFits (length now.sorts) hook →
        Idle from total now (hook_symbols now.sorts hook ++ left) → Idle from total (with_hook now hook) left
    hook_get hook left few plain own new fits i =
        let ins = list_symbols flow_word hook.inputs in
        let outs = list_symbols flow_word hook.outputs in
        let sort = Named (name_at now.sorts hook.sort.0) in
        let group : hook_symbols now.sorts hook ++ left ≡ Named (codes "hook") ∷ Named hook.name ∷ (ins ++ (sort ∷ Plain Points ∷ (outs ++ left))) =
        ap (λ symbols. Named (codes "hook") ∷ Named hook.name ∷ symbols) (append_assoc ins (sort ∷ Plain Points ∷ outs) left) in
        let P : List Symbol → Type 0 = λ symbols. Gets from total (expected.Item ∷ []) (idle now i.other) symbols in
        let g = subst P group i.gets in
        let first = idle now i.other in
        let second = record first { begun = g.at } in
        let begun = turn g second (expected.HookName ∷ expected.Open ∷ expected.First listed.Inputs ∷ expected.SortUsed ∷ expected.Arrow ∷ expected.Open ∷ expected.First listed.Outputs ∷ expected.Item ∷ []) (hook_begins first g.at) in
        let third = record second { hook_name = Some hook.name } in
        let named = turn begun third [] (hook_named_so second begun.at hook.name plain few own new) in
        let listed_ins = list_gets listed.Inputs flow_word (λ (flows : List FlowSort). record third { inputs = flows }) 4 (λ (sort : FlowSort). Unit {0})
        (λ (so_far : List FlowSort) (x : FlowSort) (room : length so_far < 4) (good : Unit {0}). input_enters (record third { inputs = so_far }) x room) hook.inputs fits.few_inputs (λ k x within. tt) named in
        let fourth = record third { inputs = hook.inputs } in
        let read_ins = closes listed_ins fourth [] (inputs_close fourth) in
        let fifth = record fourth { sort = Some hook.sort } in
        let sorted = turn read_ins fifth [] (sort_is_used fourth read_ins.at (name_at now.sorts hook.sort.0) hook.sort (sort_of now.sorts sort_names hook.sort fits.sort_declared)) in
        let pointed = turn sorted fifth [] (arrow_step fifth sorted.at) in
        let listed_outs = list_gets listed.Outputs flow_word (λ (flows : List FlowSort). record fifth { outputs = flows }) 4 (λ (sort : FlowSort). Unit {0})
        (λ (so_far : List FlowSort) (x : FlowSort) (room : length so_far < 4) (good : Unit {0}). output_enters (record fifth { outputs = so_far }) x room) hook.outputs fits.few_outputs (λ k x within. tt) pointed in
        let after = record i.other { begun = g.at; sort = Some hook.sort; hooks = i.other.hooks ++ g.at ∷ [] } in
        record { other = after; gets = closes listed_outs (idle (with_hook now hook) after) [] (hook_closes (record fifth { outputs = hook.outputs })) }

-- Sorts, constructors and hooks in the order of the canonical text.
module _ {from : Answer} {total : ℕ} (d : Def) (h : HasText d) where
  sorts_get : (done todo : List (List ℕ)) (left : List Symbol) → d.sorts ≡ done ++ todo → Idle from total (record { sorts = done; cons = []; hooks = []; rules = [] }) (flat_map sort_symbols todo ++ left) →
      Idle from total (record { sorts = d.sorts; cons = []; hooks = []; rules = [] }) left
  sorts_get done [] left e i =
      let P : List (List ℕ) → Type 0 = λ sorts. Idle from total (record { sorts = sorts; cons = []; hooks = []; rules = [] }) left in
      subst P (sym (e ∙ append-nil done)) i
  sorts_get done (name ∷ todo) left e i =
      let now : Def = record { sorts = done; cons = []; hooks = []; rules = [] } in
      let few : length done < 16 = omega (arith, ap length e, length-append done (name ∷ todo), h.fits.few_sorts) in
      let plain = (member IsName d.sorts done todo name e h.named.sorts.each).plain in
      let own = member (λ (name : List ℕ). is_reserved name ≡ false) d.sorts done todo name e h.named.own_sorts in
      sorts_get (done ++ name ∷ []) todo left (shift d.sorts done todo name e)
      (sort_get now name (flat_map sort_symbols todo ++ left) few plain own (after_front done name todo d.sorts e h.named.sorts) i)

  cons_get : (done todo : List Con) (left : List Symbol) → d.cons ≡ done ++ todo → Idle from total (record { sorts = d.sorts; cons = done; hooks = []; rules = [] }) (flat_map (con_symbols d.sorts) todo ++ left) →
      Idle from total (record { sorts = d.sorts; cons = d.cons; hooks = []; rules = [] }) left
  cons_get done [] left e i =
      let P : List Con → Type 0 = λ cons. Idle from total (record { sorts = d.sorts; cons = cons; hooks = []; rules = [] }) left in
      subst P (sym (e ∙ append-nil done)) i
  cons_get done (con ∷ todo) left e i =
      let now : Def = record { sorts = d.sorts; cons = done; hooks = []; rules = [] } in
      let name = λ (con : Con). con.name in
      let few : length done < 128 = omega (arith, ap length e, length-append done (con ∷ todo), h.fits.few_constructors) in
      let fits = member (ConstructorFits (length d.sorts)) d.cons done todo con e h.fits.constructors_fit in
      let split = names_split name d.cons done todo con e in
      let plain = (member IsName (map name d.cons) (map name done) (map name todo) con.name split h.named.cons.each).plain in
      let new : place_of_con done con.name ≡ None = con_place done con.name ∙ after_front (map name done) con.name (map name todo) (map name d.cons) split h.named.cons in
      let rest = flat_map (con_symbols d.sorts) todo in
      let P : List Symbol → Type 0 = λ symbols. Idle from total now symbols in
      cons_get (done ++ con ∷ []) todo left (shift d.cons done todo con e)
      (con_get now h.named.sorts con (rest ++ left) h.named.own_sorts few plain new fits (subst P (append_assoc (con_symbols d.sorts con) rest left) i))

  hooks_get : (done todo : List Hook) (left : List Symbol) → d.hooks ≡ done ++ todo → Idle from total (record { sorts = d.sorts; cons = d.cons; hooks = done; rules = [] }) (flat_map (hook_symbols d.sorts) todo ++ left) →
      Idle from total (record { sorts = d.sorts; cons = d.cons; hooks = d.hooks; rules = [] }) left
  hooks_get done [] left e i =
      let P : List Hook → Type 0 = λ hooks. Idle from total (record { sorts = d.sorts; cons = d.cons; hooks = hooks; rules = [] }) left in
      subst P (sym (e ∙ append-nil done)) i
  hooks_get done (hook ∷ todo) left e i =
      let now : Def = record { sorts = d.sorts; cons = d.cons; hooks = done; rules = [] } in
      let name = λ (hook : Hook). hook.name in
      let few : length done < 8 = omega (arith, ap length e, length-append done (hook ∷ todo), h.fits.few_hooks) in
      let fits = member (HookFits (length d.sorts)) d.hooks done todo hook e h.fits.hooks_fit in
      let split = names_split name d.hooks done todo hook e in
      let plain = (member IsName (map name d.hooks) (map name done) (map name todo) hook.name split h.named.hooks.each).plain in
      let own = member (λ (hook : Hook). filter_named hook.name ≡ None) d.hooks done todo hook e h.named.own_hooks in
      let new : place_of_hook done hook.name ≡ None = hook_place done hook.name ∙ after_front (map name done) hook.name (map name todo) (map name d.hooks) split h.named.hooks in
      let rest = flat_map (hook_symbols d.sorts) todo in
      let P : List Symbol → Type 0 = λ symbols. Idle from total now symbols in
      hooks_get (done ++ hook ∷ []) todo left (shift d.hooks done todo hook e)
      (hook_get now h.named.sorts hook (rest ++ left) few plain own new fits (subst P (append_assoc (hook_symbols d.sorts hook) rest left) i))

-- The parts of a rule.

-- a rule whose outputs were read
record Outputs (from : Answer) (total : ℕ) (names : List (List ℕ)) (base : Draft) (bones : List Bone) (outputs : List Var) (left : List Symbol) : Type 0 where
  marks : List ℕ
  target : Target
  closing : ℕ
  gets : Closes from total listed.RuleOutputs (expected.Item ∷ []) (with_vars names (record (in_body names base 0 marks bones [] target) { closing = closing }) (length names) outputs) left

module _ (names : List (List ℕ)) (are : AreNames names) (most : length names ≤ 64) {from : Answer} {total : ℕ} where
  lists_get : (base : Draft) (n m : ℕ) (terms inputs : List Var) {below : List Expected} {left : List Symbol} → length terms ≤ 8 → length inputs ≤ 8 → Appear 0 terms n → Appear n inputs m → m ≤ length names →
      Gets from total (expected.Open ∷ expected.First listed.Terms ∷ expected.Open ∷ expected.First listed.RuleInputs ∷ expected.LeftBrace ∷ below) (with_vars names base 0 [])
      (list_symbols (var_word names) terms ++ (list_symbols (var_word names) inputs ++ (Plain LeftBrace ∷ left))) →
      Gets from total below (with_vars names (record base { terms = terms; rule_inputs = inputs }) m []) left
  lists_get base n m terms inputs few_terms few_inputs a b within g =
      let least : n ≤ length names = omega (arith, appears_more n m inputs b, within) in
      let terms_in = vars_get names are most base listed.Terms terms_of_vars 0 n terms few_terms a least g in
      let second = with_vars names (record base { terms = terms }) n [] in
      let termed = closes terms_in second [] (terms_close (with_vars names base n terms)) in
      let inputs_in = vars_get names are most (record base { terms = terms }) listed.RuleInputs inputs_of_vars n m inputs few_inputs b within termed in
      let third = with_vars names (record base { terms = terms; rule_inputs = inputs }) m [] in
      let inputted = closes inputs_in third [] (rule_inputs_close (with_vars names (record base { terms = terms }) m inputs)) in
      turn inputted third [] (left_brace_step third inputted.at)

  body_get : (base : Draft) (hook_names : AreNames (map (λ (hook : Hook). hook.name) base.def.hooks))
      (own_names : (place : ℕ) → place < length base.def.hooks → filter_named (name_at (map (λ (hook : Hook). hook.name) base.def.hooks) place) ≡ None)
      (n m : ℕ) (bones : List Bone) (outputs : List Var) {left : List Symbol} → BonesFit (length base.def.hooks) (length names) 8 bones → All BoneIsShort bones → length bones ≤ 64 → length outputs ≤ 8 →
      Appear n (bones_vars (length bones) bones) m → Appear m outputs (length names) →
      Gets from total (expected.Bones body_of.Rule ∷ expected.Closing ∷ expected.Open ∷ expected.First listed.RuleOutputs ∷ expected.Item ∷ []) (in_body names base n [] [] [] Own)
      (bones_symbols base.def.hooks names (length bones) bones ++ (Plain RightBrace ∷ Plain Points ∷ (list_symbols (var_word names) outputs ++ left))) →
      Outputs from total names base bones outputs left
  body_get base hook_names own_names n m bones outputs {left = left} fits short few_bones few_outputs a b g =
      let within : m ≤ length names = omega (arith, appears_more m (length names) outputs b) in
      let below = expected.Closing ∷ expected.Open ∷ expected.First listed.RuleOutputs ∷ expected.Item ∷ [] in
      let end = Plain RightBrace ∷ Plain Points ∷ (list_symbols (var_word names) outputs ++ left) in
      let start : Bones names base from total body_of.Rule below n 0 [] [] (bones_symbols base.def.hooks names (length bones) bones ++ end) = record { marks = []; target = Own; counted = refl; gets = g } in
      let body = bones_get names are most base hook_names own_names (length bones) 8 bones (omega arith) fits short n m a within body_of.Rule below end [] [] 0 (omega (arith, few_bones)) (omega arith) start in
      let sixth = in_body names base m body.marks bones [] body.target in
      let ended = turn body.gets sixth [] (body_closes sixth body.gets.at) in
      let seventh = record sixth { closing = ended.at } in
      let pointed = turn ended seventh [] (rule_points sixth ended.at) in
      record {
        marks = body.marks;
        target = body.target;
        closing = ended.at;
        gets = vars_get names are most seventh listed.RuleOutputs outputs_of_vars m (length names) outputs few_outputs b (omega arith) pointed;
      }

-- a draft whose rule has its hook and its constructor
abbrev headed : Def → Draft → Rule → ℕ → Draft
headed now other rule begun = record (idle now other) { begun = begun; hook = Some rule.hook; con = Some rule.con }

abbrev with_names : Rule → List (List ℕ) → Rule
with_names rule vars = record { hook = rule.hook; con = rule.con; vars = vars; terms = rule.terms; inputs = rule.inputs; bones = rule.bones; outputs = rule.outputs }

abbrev after_rule : Draft → Rule → ℕ → List ℕ → ℕ → Draft
after_rule other rule begun marks closing = record other {
  begun = begun;
  hook = Some rule.hook;
  con = Some rule.con;
  closing = closing;
  rules = other.rules ++ (begun ∷ (marks ++ closing ∷ [])) ∷ [];
}

rule_finishes : (now : Def) (other : Draft) (rule : Rule) (names : List (List ℕ)) (begun : ℕ) (marks : List ℕ) (target : Target) (closing : ℕ) →
    closed (with_vars names (record (in_body names (record (headed now other rule begun) { terms = rule.terms; rule_inputs = rule.inputs }) 0 marks rule.bones [] target) { closing = closing }) (length names) rule.outputs) listed.RuleOutputs
    ≡ met (idle (with_rule now (with_names rule (take (length names) names))) (after_rule other rule begun marks closing)) []
unfolding closed
rule_finishes now other rule names begun marks target closing = refl

-- what is expected after a rule's constructor
abbrev rule_rest : List Expected
rule_rest = expected.Open ∷ expected.First listed.Terms ∷ expected.Open ∷ expected.First listed.RuleInputs ∷ expected.LeftBrace ∷ expected.Bones body_of.Rule ∷ expected.Closing ∷ expected.Open ∷ expected.First listed.RuleOutputs ∷ expected.Item ∷ []

record Headed (from : Answer) (total : ℕ) (now : Def) (other : Draft) (rule : Rule) (left : List Symbol) : Type 0 where
  begun : ℕ
  gets : Gets from total rule_rest (headed now other rule begun) left

rule_grouped : (d : Def) (rule : Rule) (left : List Symbol) → rule_symbols d rule ++ left
    ≡ Named (codes "rule") ∷ Named (hook_word d.hooks rule.hook) ∷ Named (con_word d.cons rule.con) ∷ (list_symbols (var_word rule.vars) rule.terms ++ (list_symbols (var_word rule.vars) rule.inputs
    ++ (Plain LeftBrace ∷ (bones_symbols d.hooks rule.vars (length rule.bones) rule.bones ++ (Plain RightBrace ∷ Plain Points ∷ (list_symbols (var_word rule.vars) rule.outputs ++ left))))))
rule_grouped d rule left =
    let terms = list_symbols (var_word rule.vars) rule.terms in
    let ins = list_symbols (var_word rule.vars) rule.inputs in
    let outs = list_symbols (var_word rule.vars) rule.outputs in
    let bones = bones_symbols d.hooks rule.vars (length rule.bones) rule.bones in
    ap (λ symbols. Named (codes "rule") ∷ Named (hook_word d.hooks rule.hook) ∷ Named (con_word d.cons rule.con) ∷ symbols)
    (append_assoc terms (ins ++ (Plain LeftBrace ∷ (bones ++ (Plain RightBrace ∷ Plain Points ∷ outs)))) left
    ∙ ap (λ symbols. terms ++ symbols) (append_assoc ins (Plain LeftBrace ∷ (bones ++ (Plain RightBrace ∷ Plain Points ∷ outs))) left
    ∙ ap (λ symbols. ins ++ (Plain LeftBrace ∷ symbols)) (append_assoc bones (Plain RightBrace ∷ Plain Points ∷ outs) left)))

module _ {from : Answer} {total : ℕ} (now : Def) (hook_names : AreNames (map (λ (hook : Hook). hook.name) now.hooks)) (con_names : AreNames (map (λ (con : Con). con.name) now.cons)) where
  head_get : (other : Draft) (rule : Rule) (left : List Symbol) → rule.hook.0 < length now.hooks → rule.con.0 < length now.cons →
      Gets from total (expected.Item ∷ []) (idle now other) (Named (codes "rule") ∷ Named (hook_word now.hooks rule.hook) ∷ Named (con_word now.cons rule.con) ∷ left) → Headed from total now other rule left
  head_get other rule left hook_declared con_declared g =
      let inside : rule.hook.0 < length (map (λ (hook : Hook). hook.name) now.hooks) = omega (arith, hook_declared, length-map now.hooks (λ (hook : Hook). hook.name)) in
      let within : rule.con.0 < length (map (λ (con : Con). con.name) now.cons) = omega (arith, con_declared, length-map now.cons (λ (con : Con). con.name)) in
      let hooked_so : place_of_hook now.hooks (hook_word now.hooks rule.hook) ≡ Some rule.hook.0 =
      ap (place_of_hook now.hooks) (hook_word_is now.hooks rule.hook) ∙ hook_place now.hooks (name_at (map (λ (hook : Hook). hook.name) now.hooks) rule.hook.0) ∙ hook_names.found rule.hook.0 inside in
      let conned_so : place_of_con now.cons (con_word now.cons rule.con) ≡ Some rule.con.0 =
      ap (place_of_con now.cons) (con_word_is now.cons rule.con) ∙ con_place now.cons (name_at (map (λ (con : Con). con.name) now.cons) rule.con.0) ∙ con_names.found rule.con.0 within in
      let first = record (idle now other) { begun = g.at } in
      let begun = turn g first read.rule_form (rule_begins (idle now other) g.at) in
      let second = record first { hook = Some rule.hook } in
      let hooked = turn begun second [] (rule_hooked first begun.at (hook_word now.hooks rule.hook) rule.hook hooked_so) in
      record { begun = g.at; gets = turn hooked (headed now other rule g.at) [] (rule_conned second hooked.at (con_word now.cons rule.con) rule.con conned_so) }

  pub rule_get : (rule : Rule) (left : List Symbol) → All (λ (hook : Hook). filter_named hook.name ≡ None) now.hooks → RuleFits now rule → RuleHasNames rule → IsInOrder rule →
      Idle from total now (rule_symbols now rule ++ left) → Idle from total (with_rule now rule) left
  rule_get rule left own fits has order i =
      let names = rule.vars in
      let other = i.other in
      let short : All BoneIsShort rule.bones = λ k one inside. bone_short (get_or rule.bones k one) (has.short k one inside) (order.few_branches k one inside) in
      let parts = appears 0 (length names) rule.terms (rule.inputs ++ (bones_vars (length rule.bones) rule.bones ++ rule.outputs)) order.appear in
      let second = appears parts.0 (length names) rule.inputs (bones_vars (length rule.bones) rule.bones ++ rule.outputs) parts.2 in
      let last = appears second.0 (length names) (bones_vars (length rule.bones) rule.bones) rule.outputs second.2 in
      let most : second.0 ≤ length names = omega (arith, appears_more last.0 (length names) rule.outputs last.2, appears_more second.0 last.0 (bones_vars (length rule.bones) rule.bones) last.1) in
      let P : List Symbol → Type 0 = λ symbols. Gets from total (expected.Item ∷ []) (idle now other) symbols in
      let head = head_get other rule _ fits.hook_declared fits.con_declared (subst P (rule_grouped now rule left) i.gets) in
      let base = headed now other rule head.begun in
      let listed = lists_get names has.names fits.few_variables base parts.0 second.0 rule.terms rule.inputs has.few_terms has.few_inputs parts.1 second.1 most head.gets in
      let body = body_get names has.names fits.few_variables (record base { terms = rule.terms; rule_inputs = rule.inputs }) hook_names (hook_own now.hooks own) second.0 last.0 rule.bones rule.outputs fits.bones_fit short fits.few_bones has.few_outputs last.1 last.2 listed in
      let done = closes body.gets (idle (with_rule now (with_names rule (take (length names) names))) (after_rule other rule head.begun body.marks body.closing)) []
      (rule_finishes now other rule names head.begun body.marks body.target body.closing) in
      let Q : List (List ℕ) → Type 0 = λ vars. Gets from total (expected.Item ∷ []) (idle (with_rule now (with_names rule vars)) (after_rule other rule head.begun body.marks body.closing)) left in
      record { other = after_rule other rule head.begun body.marks body.closing; gets = subst Q (take-length names) done }

-- the rules in the order of the canonical text
module _ {from : Answer} {total : ℕ} (d : Def) (h : HasText d) where
  rules_get : (done todo : List Rule) (left : List Symbol) → d.rules ≡ done ++ todo → Idle from total (record { sorts = d.sorts; cons = d.cons; hooks = d.hooks; rules = done }) (flat_map (rule_symbols d) todo ++ left) → Idle from total d left
  rules_get done [] left e i =
      let P : List Rule → Type 0 = λ rules. Idle from total (record { sorts = d.sorts; cons = d.cons; hooks = d.hooks; rules = rules }) left in
      subst P (sym (e ∙ append-nil done)) i
  rules_get done (rule ∷ todo) left e i =
      let now : Def = record { sorts = d.sorts; cons = d.cons; hooks = d.hooks; rules = done } in
      let others = flat_map (rule_symbols d) todo in
      let P : List Symbol → Type 0 = λ symbols. Idle from total now symbols in
      let fits = member (RuleFits d) d.rules done todo rule e h.fits.rules_fit in
      let fits_now : RuleFits now rule = record {
        hook_declared = fits.hook_declared;
        con_declared = fits.con_declared;
        few_variables = fits.few_variables;
        terms_below = fits.terms_below;
        inputs_below = fits.inputs_below;
        outputs_below = fits.outputs_below;
        few_bones = fits.few_bones;
        bones_fit = fits.bones_fit;
      } in
      rules_get (done ++ rule ∷ []) todo left (shift d.rules done todo rule e)
      (rule_get now h.named.hooks h.named.cons rule (others ++ left) h.named.own_hooks fits_now (member RuleHasNames d.rules done todo rule e h.named.rules) (member IsInOrder d.rules done todo rule e h.in_order)
      (subst P (append_assoc (rule_symbols d rule) others left) i))

-- Nothing was read at first.

skel_turn : (at : ℕ) → step nothing expected.Skel at (Named (codes "skel")) ≡ met nothing []
unfolding step skel
skel_turn at = refl

version_turn : (at : ℕ) → step nothing expected.Version at (Plain (Number (pos 1))) ≡ met nothing []
unfolding step version
version_turn at = refl

-- what was read of these symbols
pub record ReadsAs (ss : List Symbol) (d : Def) : Type 0 where
  pub other : Draft
  pub is : read_symbols ss ≡ Ok (idle d other)

all_taken : (at : ℕ) (draft : Draft) (total : ℕ) → at + 0 ≡ total → ended definition_rules total (Ok (draft, at)) ≡ Ok draft
all_taken at draft total e =
    let same : (at == total) ≡ true = grind (arith, nat_tests) in
    ap (λ b. if b then Ok draft else Err (Unexpected, at)) same

-- what was read of a definition whose items are read, after the words that begin it
pub items_read : (d : Def) (items : List Symbol) → ((from : Answer) (total : ℕ) → Idle from total no_declaration items → Idle from total d []) → ReadsAs (Named (codes "skel") ∷ Plain (Number (pos 1)) ∷ items) d
unfolding read_symbols
items_read d items lead =
    let ss = Named (codes "skel") ∷ Plain (Number (pos 1)) ∷ items in
    let from : Answer = run definition_rules 0 0 (expected.Skel ∷ expected.Version ∷ expected.Item ∷ []) nothing ss in
    let start : Gets from (length ss) (expected.Skel ∷ expected.Version ∷ expected.Item ∷ []) nothing ss = record { at = 0; is = refl; place = omega arith } in
    let named = turn start nothing [] (skel_turn 0) in
    let versioned = turn named nothing [] (version_turn named.at) in
    let whole = lead from (length ss) (record { other = nothing; gets = versioned }) in
    record {
      other = whole.other;
      is = ap (ended definition_rules (length ss)) whole.gets.is ∙ all_taken whole.gets.at (idle d whole.other) (length ss) whole.gets.place;
    }

pub symbols_read : (d : Def) → HasText d → ReadsAs (definition_symbols d) d
symbols_read d h = items_read d (flat_map sort_symbols d.sorts ++ (flat_map (con_symbols d.sorts) d.cons ++ (flat_map (hook_symbols d.sorts) d.hooks ++ flat_map (rule_symbols d) d.rules))) lead where
  lead : (from : Answer) (total : ℕ) → Idle from total no_declaration (flat_map sort_symbols d.sorts ++ (flat_map (con_symbols d.sorts) d.cons ++ (flat_map (hook_symbols d.sorts) d.hooks ++ flat_map (rule_symbols d) d.rules))) → Idle from total d []
  lead from total i =
      let rules = flat_map (rule_symbols d) d.rules in
      let P : List Symbol → Type 0 = λ rules. Idle from total no_declaration (flat_map sort_symbols d.sorts ++ (flat_map (con_symbols d.sorts) d.cons ++ (flat_map (hook_symbols d.sorts) d.hooks ++ rules))) in
      let sorts = sorts_get d h [] d.sorts (flat_map (con_symbols d.sorts) d.cons ++ (flat_map (hook_symbols d.sorts) d.hooks ++ (rules ++ []))) refl (subst P (sym (append-nil rules)) i) in
      let cons = cons_get d h [] d.cons (flat_map (hook_symbols d.sorts) d.hooks ++ (rules ++ [])) refl sorts in
      let hooks = hooks_get d h [] d.hooks (rules ++ []) refl cons in
      rules_get d h [] d.rules [] refl hooks

-- a text of symbols that read so says this definition
pub text_read : (text : List ℕ) (d : Def) (tokens : List Token) (ss : List Symbol) → tokens_of text ≡ Ok tokens → symbols text tokens ≡ ss → ReadsAs ss d → Says text d
unfolding read_definition
text_read text d tokens ss t s r =
    let read = ap read_symbols s ∙ r.is in
    record {
      places = (source_of text tokens (idle d r.other)).places;
      is = ap (λ r. lexed text r >>= λ tokens. located text tokens (read_symbols (symbols text tokens))) t ∙ ap (located text tokens) read;
    }

-- the canonical text of a definition that has a text says this definition
pub canonical_says : (d : Def) → HasText d → Says (definition_text d) d
canonical_says d h =
    let spelled = written_spells (definition_text d) (definition_symbols d) (definition_writes d h) in
    let tokens = text_tokens (definition_text d) (definition_symbols d) spelled in
    text_read (definition_text d) d tokens.tokens (definition_symbols d) tokens.are (text_symbols (definition_text d) (definition_symbols d) tokens.tokens spelled tokens.are) (symbols_read d h)
