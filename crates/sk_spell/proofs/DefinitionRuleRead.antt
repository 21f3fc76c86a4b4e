-- A rule that was read: what it took is what the rule spells.
use Rattle.std.proofs.Common.{◌≡◌, ℕ, ◌≤◌, Bool, true, false, if◌then◌else◌, List, [], ◌∷◌, ◌++◌, length, map, refl, sym, ap, subst, ◌∙◌, arith, append_assoc, length-append, Option, Some, None, Ok, Err}
use Rattle.std.specs.Prelude.{codes, option_map}
use Rattle.sk_lex.specs.Run.{Turn, IsFrontOf}
use Rattle.sk_lex.specs.Symbols.{Symbol, Named, Plain, is_arrow}
use Rattle.sk_lex.specs.declared.token.TokenKind.TheVariants as token
use Rattle.sk_def.specs.Fits.{RuleFits}
use Rattle.sk_def.specs.Named.{place_of_con, place_of_hook}
use Rattle.sk_def.specs.declared.ids.HookId.{HookId}
use Rattle.sk_def.specs.declared.ids.ConId.{ConId}
use Rattle.sk_def.specs.declared.ids.Var.{Var}
use Rattle.sk_def.specs.declared.bone.Bone.{Bone}
use Rattle.sk_def.specs.declared.bone.Target.{Target}
use Rattle.sk_def.specs.declared.bone.Target.TheVariants.{Own}
use Rattle.sk_def.specs.declared.def.Con.{Con}
use Rattle.sk_def.specs.declared.def.Hook.{Hook}
use Rattle.sk_def.specs.declared.def.Rule.{Rule}
use Rattle.sk_def.specs.declared.def.Def.{Def}
use Rattle.sk_deftext.specs.Bodies as spec
use Rattle.sk_deftext.specs.Bodies.{rule_hook, rule_con, closing_brace}
use Rattle.sk_deftext.specs.Canonical.{hook_word, con_word, var_word}
use Rattle.sk_deftext.specs.Met.{Met, met}
use Rattle.sk_deftext.specs.Reading.{step, closed, rule_form}
use Rattle.sk_deftext.specs.Spelling.{with_rule, list_symbols, bones_symbols, rule_symbols}
use Rattle.sk_deftext.specs.declared.draft.Draft.{Draft}
use Rattle.sk_deftext.specs.declared.expected.Body.TheVariants as body_of
use Rattle.sk_deftext.specs.declared.expected.Expected.{Expected}
use Rattle.sk_deftext.specs.declared.expected.Expected.TheVariants as expected
use Rattle.sk_deftext.specs.declared.expected.Listed.TheVariants as listed
use Rattle.sk_deftext.specs.declared.fault.DefError.TheVariants.{Unexpected}
use Rattle.sk_deftext.proofs.Found.{con_place, hook_place}
use Rattle.sk_deftext.proofs.Items.{idle, member}
use Rattle.sk_deftext.proofs.Said.{hook_word_is, con_word_is}
use Rattle.sk_deftext.proofs.Steps.{terms_of_vars, inputs_of_vars, outputs_of_vars}
use Rattle.sk_spell.proofs.DefinitionRuns.{Final, Reads, Took, took, goes_on, Ended, ends_so, VarsRead}
use Rattle.sk_spell.proofs.SymbolForms.{arrow_is}
use Rattle.sk_spell.proofs.DefinitionSymbols.{left_brace_taken}
use Rattle.sk_spell.proofs.DefinitionVars.{front_of_itself, front_of_longer, found_word, mark_taken, word_taken, vars_read}
use Rattle.sk_spell.proofs.DefinitionBones.{between, BonesRead, BonesAreRead}
use Rattle.sk_spell.proofs.DefinitionRule.{RuleRead, RulesAreRead}

-- What names name.

-- the hook that a word names has this word, and the constructor
pub hook_found : (hooks : List Hook) (word : List ℕ) (place : ℕ) → place_of_hook hooks word ≡ Some place → hook_word hooks (record { 0 = place }) ≡ word
hook_found hooks word place e = hook_word_is hooks (record { 0 = place }) ∙ found_word (map (λ (hook : Hook). hook.name) hooks) word place (sym (hook_place hooks word) ∙ e)

pub con_found : (cons : List Con) (word : List ℕ) (place : ℕ) → place_of_con cons word ≡ Some place → con_word cons (record { 0 = place }) ≡ word
con_found cons word place e = con_word_is cons (record { 0 = place }) ∙ found_word (map (λ (con : Con). con.name) cons) word place (sym (con_place cons word) ∙ e)

-- Steps of a rule.

record HookMet (draft : Draft) (at : ℕ) (symbol : Symbol) : Type 0 where
  id : HookId
  symbol_is : symbol ≡ Named (hook_word draft.def.hooks id)
  met_so : step draft expected.RuleHook at symbol ≡ met (record draft { hook = Some id }) []

hook_met : (draft : Draft) (at : ℕ) (symbol : Symbol) (turn : Turn Expected Draft) → step draft expected.RuleHook at symbol ≡ Ok turn → HookMet draft at symbol
unfolding step rule_hook
hook_met draft at (Plain kind) turn e = absurd (cc e)
hook_met draft at (Named word) turn e = by (place_of_hook draft.def.hooks word) refl e where
  by : (o : Option ℕ) → place_of_hook draft.def.hooks word ≡ o → spec.with_hook draft (option_map (λ place. record { 0 = place }) o) ≡ Ok turn → HookMet draft at (Named word)
  by None p e = absurd (cc e)
  by (Some place) p e = record {
    id = record { 0 = place };
    symbol_is = ap Named (sym (hook_found draft.def.hooks word place p));
    met_so = ap (λ o. spec.with_hook draft (option_map (λ place. record { 0 = place }) o)) p;
  }

record ConMet (draft : Draft) (at : ℕ) (symbol : Symbol) : Type 0 where
  id : ConId
  symbol_is : symbol ≡ Named (con_word draft.def.cons id)
  met_so : step draft expected.RuleCon at symbol ≡ met (record draft { con = Some id }) []

con_met : (draft : Draft) (at : ℕ) (symbol : Symbol) (turn : Turn Expected Draft) → step draft expected.RuleCon at symbol ≡ Ok turn → ConMet draft at symbol
unfolding step rule_con
con_met draft at (Plain kind) turn e = absurd (cc e)
con_met draft at (Named word) turn e = by (place_of_con draft.def.cons word) refl e where
  by : (o : Option ℕ) → place_of_con draft.def.cons word ≡ o → spec.with_con draft (option_map (λ place. record { 0 = place }) o) ≡ Ok turn → ConMet draft at (Named word)
  by None p e = absurd (cc e)
  by (Some place) p e = record {
    id = record { 0 = place };
    symbol_is = ap Named (sym (con_found draft.def.cons word place p));
    met_so = ap (λ o. spec.with_con draft (option_map (λ place. record { 0 = place }) o)) p;
  }

-- the `->` after the bones
arrow_met : (draft : Draft) (at : ℕ) (symbol : Symbol) (turn : Turn Expected Draft) → step draft expected.Closing at symbol ≡ Ok turn →
    (symbol ≡ Plain token.Arrow) × (step draft expected.Closing at symbol ≡ met (record draft { closing = at }) [])
unfolding step
arrow_met draft at symbol turn e = by (is_arrow symbol) refl e where
  so : Bool → Met
  so b = if b then met (record draft { closing = at }) [] else Err Unexpected

  by : (b : Bool) → is_arrow symbol ≡ b → so b ≡ Ok turn → (symbol ≡ Plain token.Arrow) × (so (is_arrow symbol) ≡ met (record draft { closing = at }) [])
  by true o e = (arrow_is symbol o, ap so o)
  by false o e = absurd (cc e)

body_closes : (draft : Draft) (at : ℕ) (symbol : Symbol) → symbol ≡ Plain token.RightBrace → step draft (expected.Bones body_of.Rule) at symbol ≡ met draft []
unfolding step closing_brace
body_closes draft at symbol e = ap (λ s. step draft (expected.Bones body_of.Rule) at s) e

terms_close : (draft : Draft) → closed draft listed.Terms ≡ met (spec.listed_terms draft) []
unfolding closed
terms_close draft = refl

inputs_close : (draft : Draft) → closed draft listed.RuleInputs ≡ met (spec.listed_inputs draft) []
unfolding closed
inputs_close draft = refl

-- The hook and the constructor.

-- a draft whose rule has its hook and its constructor
abbrev headed : Def → Draft → ℕ → HookId → ConId → Draft
headed now other begun hook con = record (idle now other) { begun = begun; hook = Some hook; con = Some con }

-- what is expected after the bones of a rule, and before them
abbrev rule_end : List Expected
rule_end = expected.Closing ∷ expected.Open ∷ expected.First listed.RuleOutputs ∷ expected.Item ∷ []

abbrev rule_rest : List Expected
rule_rest = expected.Open ∷ expected.First listed.Terms ∷ expected.Open ∷ expected.First listed.RuleInputs ∷ expected.LeftBrace ∷ expected.Bones body_of.Rule ∷ rule_end

record HeadRead (final : Final) (now : Def) (other : Draft) (begun : ℕ) (symbols : List Symbol) : Type 0 where
  hook : HookId
  con : ConId
  left : List Symbol
  symbols_are : symbols ≡ Named (hook_word now.hooks hook) ∷ Named (con_word now.cons con) ∷ left
  reads : Reads final rule_rest (headed now other begun hook con) left

head_with : {final : Final} (now : Def) (other : Draft) (begun : ℕ) {symbols : List Symbol} (hook : HookId) (t : Took final expected.RuleHook (expected.RuleCon ∷ rule_rest) (record (idle now other) { begun = begun }) symbols) →
    t.symbol ≡ Named (hook_word now.hooks hook) → Reads final (expected.RuleCon ∷ rule_rest) (record (idle now other) { begun = begun; hook = Some hook }) t.left → HeadRead final now other begun symbols
head_with now other begun hook t e r =
    let draft = record (idle now other) { begun = begun; hook = Some hook } in
    let u = took refl r in
    let m = con_met draft u.at u.symbol u.turn u.met_is in
    record {
      hook = hook;
      con = m.id;
      left = u.left;
      symbols_are = word_taken (hook_word now.hooks hook) (hook_word now.hooks hook) t.symbols_are e refl (word_taken (con_word now.cons m.id) (con_word now.cons m.id) u.symbols_are m.symbol_is refl refl);
      reads = goes_on u (headed now other begun hook m.id) [] m.met_so;
    }

head_read : {final : Final} (now : Def) (other : Draft) (begun : ℕ) {symbols : List Symbol} → Reads final rule_form (record (idle now other) { begun = begun }) symbols → HeadRead final now other begun symbols
head_read now other begun r =
    let draft = record (idle now other) { begun = begun } in
    let t = took refl r in
    let m = hook_met draft t.at t.symbol t.turn t.met_is in
    head_with now other begun m.id t m.symbol_is (goes_on t (record draft { hook = Some m.id }) [] m.met_so)

-- The terms, the inputs and the `{`.

record StartRead (final : Final) (below : List Expected) (base : Draft) (symbols : List Symbol) : Type 0 where
  vars : List (List ℕ)
  terms : List Var
  inputs : List Var
  left : List Symbol
  symbols_are : (names : List (List ℕ)) → IsFrontOf vars names → symbols ≡ list_symbols (var_word names) terms ++ (list_symbols (var_word names) inputs ++ Plain token.LeftBrace ∷ left)
  reads : Reads final below (record base { vars = vars; terms = terms; rule_inputs = inputs; listed = [] }) left

start_with : {final : Final} {below : List Expected} {base : Draft} {symbols : List Symbol} (v : VarsRead final listed.Terms (expected.Open ∷ expected.First listed.RuleInputs ∷ expected.LeftBrace ∷ below) base symbols)
    (w : VarsRead final listed.RuleInputs (expected.LeftBrace ∷ below) (record base { vars = v.vars; terms = v.listed; listed = [] }) v.left) → StartRead final below base symbols
start_with {base = base} v w =
    let draft = record base { vars = w.vars; terms = v.listed; rule_inputs = w.listed; listed = [] } in
    let r = ends_so w.ended draft [] (inputs_close (record base { vars = w.vars; terms = v.listed; listed = w.listed })) in
    let opened = left_brace_taken r in
    record {
      vars = w.vars;
      terms = v.listed;
      inputs = w.listed;
      left = opened.0;
      symbols_are = λ names f.
          v.symbols_are names (front_of_longer w.grown f) ∙ ap (λ rest. list_symbols (var_word names) v.listed ++ rest)
          (w.symbols_are names f ∙ ap (λ rest. list_symbols (var_word names) w.listed ++ rest) opened.1);
      reads = opened.2;
    }

start_read : {final : Final} {below : List Expected} {base : Draft} {symbols : List Symbol} → base.listed ≡ [] →
    Reads final (expected.Open ∷ expected.First listed.Terms ∷ expected.Open ∷ expected.First listed.RuleInputs ∷ expected.LeftBrace ∷ below) base symbols → StartRead final below base symbols
start_read {base = base} none r =
    let v = vars_read terms_of_vars none r in
    start_with v (vars_read inputs_of_vars refl (ends_so v.ended (record base { vars = v.vars; terms = v.listed; listed = [] }) [] (terms_close (record base { vars = v.vars; listed = v.listed }))))

-- The `}`, the `->` and the outputs.

record EndRead (final : Final) (below : List Expected) (base : Draft) (symbols : List Symbol) : Type 0 where
  vars : List (List ℕ)
  outputs : List Var
  closing : ℕ
  left : List Symbol
  grown : IsFrontOf base.vars vars
  symbols_are : symbols ≡ Plain token.Arrow ∷ (list_symbols (var_word vars) outputs ++ left)
  ended : Ended final listed.RuleOutputs below (record base { vars = vars; closing = closing; listed = outputs }) left

end_with : {final : Final} {below : List Expected} {base : Draft} {symbols : List Symbol} → base.listed ≡ [] → Reads final (expected.Closing ∷ expected.Open ∷ expected.First listed.RuleOutputs ∷ below) base symbols → EndRead final below base symbols
end_with {base = base} none r =
    let t = took refl r in
    let m = arrow_met base t.at t.symbol t.turn t.met_is in
    let o = vars_read outputs_of_vars none (goes_on t (record base { closing = t.at }) [] m.1) in
    record {
      vars = o.vars;
      outputs = o.listed;
      closing = t.at;
      left = o.left;
      grown = o.grown;
      symbols_are = mark_taken token.Arrow t.symbols_are m.0 (o.symbols_are o.vars (front_of_itself o.vars));
      ended = o.ended;
    }

end_read : {final : Final} {below : List Expected} {base : Draft} {symbols : List Symbol} → base.listed ≡ [] →
    Reads final (expected.Bones body_of.Rule ∷ expected.Closing ∷ expected.Open ∷ expected.First listed.RuleOutputs ∷ below) base (Plain token.RightBrace ∷ symbols) → EndRead final below base symbols
end_read {final = final} {below = below} {base = base} {symbols = symbols} none r =
    let t = took refl r in
    let e : t.symbol ≡ Plain token.RightBrace = cc t.symbols_are in
    let f : t.left ≡ symbols = cc t.symbols_are in
    let P : List Symbol → Type 0 = λ rest. Reads final (expected.Closing ∷ expected.Open ∷ expected.First listed.RuleOutputs ∷ below) base rest in
    end_with none (subst P f (goes_on t base [] (body_closes base t.at t.symbol e)))

-- The whole.

abbrev whole : HookId → ConId → List (List ℕ) → List Var → List Var → List Bone → List Var → Rule
whole hook con vars terms inputs bones outputs = record { hook = hook; con = con; vars = vars; terms = terms; inputs = inputs; bones = bones; outputs = outputs }

abbrev after_rule : Draft → ℕ → HookId → ConId → List ℕ → ℕ → Draft
after_rule other begun hook con marks closing = record other {
  begun = begun;
  hook = Some hook;
  con = Some con;
  closing = closing;
  rules = other.rules ++ (begun ∷ (marks ++ closing ∷ [])) ∷ [];
}

-- a draft before the bones of a rule
abbrev opened : Def → Draft → ℕ → HookId → ConId → List (List ℕ) → List Var → List Var → Draft
opened now other begun hook con vars terms inputs = record (headed now other begun hook con) { vars = vars; terms = terms; rule_inputs = inputs; listed = [] }

rule_finishes : (now : Def) (other : Draft) (begun : ℕ) (hook : HookId) (con : ConId) (vars names : List (List ℕ)) (terms inputs : List Var) (marks : List ℕ) (bones : List Bone) (target : Target) (closing : ℕ) (outputs : List Var) →
    closed (record (between (opened now other begun hook con vars terms inputs) vars marks bones [] target) { vars = names; closing = closing; listed = outputs }) listed.RuleOutputs
    ≡ met (idle (with_rule now (whole hook con names terms inputs bones outputs)) (after_rule other begun hook con marks closing)) []
unfolding closed
rule_finishes now other begun hook con vars names terms inputs marks bones target closing outputs = refl

rule_grouped : (d : Def) (rule : Rule) (left : List Symbol) → rule_symbols d rule ++ left
    ≡ Named (codes "rule") ∷ Named (hook_word d.hooks rule.hook) ∷ Named (con_word d.cons rule.con) ∷ (list_symbols (var_word rule.vars) rule.terms ++ (list_symbols (var_word rule.vars) rule.inputs
    ++ (Plain token.LeftBrace ∷ (bones_symbols d.hooks rule.vars (length rule.bones) rule.bones ++ (Plain token.RightBrace ∷ Plain token.Arrow ∷ (list_symbols (var_word rule.vars) rule.outputs ++ left))))))
rule_grouped d rule left =
    let terms = list_symbols (var_word rule.vars) rule.terms in
    let ins = list_symbols (var_word rule.vars) rule.inputs in
    let outs = list_symbols (var_word rule.vars) rule.outputs in
    let bones = bones_symbols d.hooks rule.vars (length rule.bones) rule.bones in
    ap (λ symbols. Named (codes "rule") ∷ Named (hook_word d.hooks rule.hook) ∷ Named (con_word d.cons rule.con) ∷ symbols)
    (append_assoc terms (ins ++ (Plain token.LeftBrace ∷ (bones ++ (Plain token.RightBrace ∷ Plain token.Arrow ∷ outs)))) left
    ∙ ap (λ symbols. terms ++ symbols) (append_assoc ins (Plain token.LeftBrace ∷ (bones ++ (Plain token.RightBrace ∷ Plain token.Arrow ∷ outs))) left
    ∙ ap (λ symbols. ins ++ (Plain token.LeftBrace ∷ symbols)) (append_assoc bones (Plain token.RightBrace ∷ Plain token.Arrow ∷ outs) left)))

fits_before : (now : Def) (rule : Rule) → RuleFits (with_rule now rule) rule → RuleFits now rule
fits_before now rule fits = record {
  hook_declared = fits.hook_declared;
  con_declared = fits.con_declared;
  few_variables = fits.few_variables;
  terms_below = fits.terms_below;
  inputs_below = fits.inputs_below;
  outputs_below = fits.outputs_below;
  few_bones = fits.few_bones;
  bones_fit = fits.bones_fit;
}

last_of : (symbols terms inputs bones outputs left : List Symbol) →
    symbols ≡ terms ++ (inputs ++ (Plain token.LeftBrace ∷ (bones ++ (Plain token.RightBrace ∷ Plain token.Arrow ∷ (outputs ++ left))))) → length left ≤ length symbols
last_of symbols terms inputs bones outputs left e =
    let after_bones = Plain token.RightBrace ∷ Plain token.Arrow ∷ (outputs ++ left) in
    let after_inputs = Plain token.LeftBrace ∷ (bones ++ after_bones) in
    omega (arith, ap length e, length-append terms (inputs ++ after_inputs), length-append inputs after_inputs, length-append bones after_bones, length-append outputs left)

-- what the parts of a rule took, and what is left of it
module _ {final : Final} (now : Def) (other : Draft) (begun : ℕ) {symbols : List Symbol} (h : HeadRead final now other begun symbols) (s : StartRead final (expected.Bones body_of.Rule ∷ rule_end) (headed now other begun h.hook h.con) h.left)
    (b : BonesRead final body_of.Rule rule_end (opened now other begun h.hook h.con s.vars s.terms s.inputs) s.vars [] [] s.left)
    (e : EndRead final (expected.Item ∷ []) (between (opened now other begun h.hook h.con s.vars s.terms s.inputs) b.vars b.marks b.bones [] b.target) b.after) where
  abbrev rule : Rule
  rule = whole h.hook h.con e.vars s.terms s.inputs b.bones e.outputs

  rest_is : h.left ≡ list_symbols (var_word e.vars) s.terms ++ (list_symbols (var_word e.vars) s.inputs
      ++ (Plain token.LeftBrace ∷ (bones_symbols now.hooks e.vars (length b.bones) b.bones ++ (Plain token.RightBrace ∷ Plain token.Arrow ∷ (list_symbols (var_word e.vars) e.outputs ++ e.left)))))
  rest_is =
      s.symbols_are e.vars (front_of_longer b.grown e.grown)
      ∙ ap (λ rest. list_symbols (var_word e.vars) s.terms ++ (list_symbols (var_word e.vars) s.inputs ++ (Plain token.LeftBrace ∷ rest)))
      (b.symbols_are e.vars e.grown (length b.bones) (omega arith) ∙ ap (λ rest. bones_symbols now.hooks e.vars (length b.bones) b.bones ++ (Plain token.RightBrace ∷ rest)) e.symbols_are)

  left_is_less : length e.left ≤ length h.left
  left_is_less =
      let terms = list_symbols (var_word e.vars) s.terms in
      let ins = list_symbols (var_word e.vars) s.inputs in
      let outs = list_symbols (var_word e.vars) e.outputs in
      last_of h.left terms ins (bones_symbols now.hooks e.vars (length b.bones) b.bones) outs e.left rest_is

  rule_with : RuleRead final now symbols
  rule_with =
      let reads = ends_so e.ended (idle (with_rule now rule) (after_rule other begun h.hook h.con b.marks e.closing)) []
      (rule_finishes now other begun h.hook h.con b.vars e.vars s.terms s.inputs b.marks b.bones b.target e.closing e.outputs) in
      record {
        rule = rule;
        left = e.left;
        other = after_rule other begun h.hook h.con b.marks e.closing;
        symbols_are = ap (λ rest. Named (codes "rule") ∷ rest) (h.symbols_are ∙ ap (λ rest. Named (hook_word now.hooks h.hook) ∷ Named (con_word now.cons h.con) ∷ rest) rest_is) ∙ sym (rule_grouped now rule e.left);
        fits = fits_before now rule (member (RuleFits (with_rule now rule)) (now.rules ++ rule ∷ []) now.rules [] rule refl reads.stands.definition.rules_fit);
        reads = reads;
        less = omega (arith, ap length h.symbols_are, left_is_less);
      }

rule_of : BonesAreRead → (final : Final) (now : Def) (other : Draft) (begun : ℕ) {symbols : List Symbol} (h : HeadRead final now other begun symbols) → RuleRead final now symbols
rule_of bones_are_read final now other begun h =
    let s = start_read refl h.reads in
    let b = bones_are_read final body_of.Rule rule_end (opened now other begun h.hook h.con s.vars s.terms s.inputs) s.vars [] [] [] Own s.left s.reads in
    rule_with now other begun h s b (end_read refl b.reads)

-- where bones are read as they are spelled, rules are
pub rules_are_read : BonesAreRead → RulesAreRead
rules_are_read bones_are_read final now other begun symbols r = rule_of bones_are_read final now other begun (head_read now other begun r)
