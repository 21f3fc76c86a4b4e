-- The symbols of what was read as a definition are the definition's.
use Rattle.std.proofs.Common.{◌≡◌, ◌==◌, ℕ, zero, suc, ◌≤◌, Bool, true, false, if◌then◌else◌, ℤ, List, [], ◌∷◌, length, refl, sym, ap, subst, ◌∙◌, arith, Option, Some, None, Result, Ok, Err, pos}
use Rattle.std.specs.Prelude.{codes}
use Rattle.std.specs.Str.{bytes_eq}
use Rattle.std.specs.Ordering.{int_eq}
use Rattle.std.proofs.lemmas.Bool.Decides.{Decides-int_eq}
use Rattle.std.proofs.lemmas.Slice.Eq.{bytes_eq-Decides}
use Rattle.sk_lex.specs.Run.{Turn, run, ended}
use Rattle.sk_lex.specs.Symbols.{Symbol, Named, Plain, word_of, number_of}
use Rattle.sk_lex.specs.declared.token.TokenKind.TheVariants as token
use Rattle.sk_def.specs.declared.def.Def.{Def}
use Rattle.sk_deftext.specs.Met.{met}
use Rattle.sk_deftext.specs.Words.{keyword_in}
use Rattle.sk_deftext.specs.Reading.{definition_rules, step, skel, version, item, rule_form, nothing, read_symbols}
use Rattle.sk_deftext.specs.Spelling.{no_declaration, with_sort, with_con, with_hook, with_rule}
use Rattle.sk_deftext.specs.declared.draft.Draft.{Draft}
use Rattle.sk_deftext.specs.declared.expected.Expected.{Expected}
use Rattle.sk_deftext.specs.declared.expected.Expected.TheVariants as expected
use Rattle.sk_deftext.specs.declared.fault.DefError.{DefError}
use Rattle.sk_deftext.specs.declared.word.Keyword.{Keyword}
use Rattle.sk_deftext.specs.declared.word.Keyword.TheVariants as keyword
use Rattle.sk_deftext.proofs.Fulfilled.{at_first}
use Rattle.sk_deftext.proofs.Items.{idle}
use Rattle.sk_spell.specs.DefinitionSpelling.{ItemsLead, DefinitionIs, no_item, sort_item, con_item, hook_item, rule_item}
use Rattle.sk_spell.proofs.DefinitionRuns.{Final, Reads, Took, took, took_next, goes_on}
use Rattle.sk_spell.proofs.SymbolForms.{number_is}
use Rattle.sk_spell.proofs.DefinitionSymbols.{keyword_is, asked_is}
use Rattle.sk_spell.proofs.DefinitionLists.{first_so, others_so}
use Rattle.sk_spell.proofs.DefinitionItems.{sort_form, con_form, hook_form, sort_read, con_read, hook_read}
use Rattle.sk_spell.proofs.DefinitionRule.{RulesAreRead}

-- The first word of an item.

item_is : (draft : Draft) (at : ℕ) (symbol : Symbol) (key : Option Keyword) → keyword_in (word_of symbol) ≡ key → step draft expected.Item at symbol ≡ item draft at key
unfolding step
item_is draft at symbol key e = ap (item draft at) e

sort_begins : (draft : Draft) (at : ℕ) → item draft at (Some keyword.Sort) ≡ met draft sort_form
unfolding item
sort_begins draft at = refl

con_begins : (draft : Draft) (at : ℕ) → item draft at (Some keyword.Con) ≡ met draft con_form
unfolding item
con_begins draft at = refl

hook_begins : (draft : Draft) (at : ℕ) → item draft at (Some keyword.Hook) ≡ met (record draft { begun = at }) hook_form
unfolding item
hook_begins draft at = refl

rule_begins : (draft : Draft) (at : ℕ) → item draft at (Some keyword.Rule) ≡ met (record draft { begun = at }) rule_form
unfolding item
rule_begins draft at = refl

-- the words that begin an item
IsFirst : Option Keyword → Type 0
IsFirst (Some keyword.Sort) = Unit {0}
IsFirst (Some keyword.Con) = Unit {0}
IsFirst (Some keyword.Hook) = Unit {0}
IsFirst (Some keyword.Rule) = Unit {0}
IsFirst other = ⊥

no_other : (draft : Draft) (at : ℕ) (key : Option Keyword) (turn : Turn Expected Draft) → item draft at key ≡ Ok turn → IsFirst key
unfolding item IsFirst
no_other draft at (Some keyword.Sort) turn h = tt
no_other draft at (Some keyword.Con) turn h = tt
no_other draft at (Some keyword.Hook) turn h = tt
no_other draft at (Some keyword.Rule) turn h = tt
no_other draft at other turn h = absurd (cc h)

-- what a reading that ends here answers
abbrev answer : Draft → ℕ → Result Final (DefError × ℕ)
answer draft at = Ok (draft, at)

ended_at : (draft : Draft) (at : ℕ) (final : Final) → answer draft at ≡ Ok final → draft ≡ final.0
ended_at draft at final h = let same : (draft, at) ≡ final = cc h in ap (λ (f : Final). f.0) same

-- items lead on from symbols whose first word and others are known
led : {d now : Def} {symbols left spelled : List Symbol} {symbol first : Symbol} → symbols ≡ symbol ∷ left → symbol ≡ first → first ∷ left ≡ spelled →
    ItemsLead d now spelled → ItemsLead d now symbols
led {d = d} {now = now} e f g lead = subst (ItemsLead d now) (sym (first_so e f ∙ g)) lead

-- Items one after the other.

module _ (rules : RulesAreRead) (final : Final) where
  lead_by : (count : ℕ) (now : Def) (other : Draft) (symbols : List Symbol) → length symbols ≤ suc count →
      ((next : Def) (draft : Draft) (left : List Symbol) → length left ≤ count → Reads final (expected.Item ∷ []) (idle next draft) left → ItemsLead final.0.def next left) →
      (t : Took final expected.Item [] (idle now other) symbols) (key : Option Keyword) → keyword_in (word_of t.symbol) ≡ key → ItemsLead final.0.def now symbols
  unfolding IsFirst
  lead_by count now other symbols few later t (Some keyword.Sort) e =
      let r = goes_on t (idle now other) sort_form (item_is (idle now other) t.at t.symbol (Some keyword.Sort) e ∙ sort_begins (idle now other) t.at) in
      let one = sort_read now other r in
      let fewer : length one.left ≤ count = omega (arith, few, ap length t.symbols_are, one.less) in
      led t.symbols_are (keyword_is t.symbol keyword.Sort e) one.symbols_are (sort_item one.name (later (with_sort now one.name) one.other one.left fewer one.reads))
  lead_by count now other symbols few later t (Some keyword.Con) e =
      let r = goes_on t (idle now other) con_form (item_is (idle now other) t.at t.symbol (Some keyword.Con) e ∙ con_begins (idle now other) t.at) in
      let one = con_read now other r in
      let fewer : length one.left ≤ count = omega (arith, few, ap length t.symbols_are, one.less) in
      led t.symbols_are (keyword_is t.symbol keyword.Con e) one.symbols_are (con_item one.con one.fits (later (with_con now one.con) one.other one.left fewer one.reads))
  lead_by count now other symbols few later t (Some keyword.Hook) e =
      let r = goes_on t (record (idle now other) { begun = t.at }) hook_form (item_is (idle now other) t.at t.symbol (Some keyword.Hook) e ∙ hook_begins (idle now other) t.at) in
      let one = hook_read now other t.at r in
      let fewer : length one.left ≤ count = omega (arith, few, ap length t.symbols_are, one.less) in
      led t.symbols_are (keyword_is t.symbol keyword.Hook e) one.symbols_are (hook_item one.hook one.fits (later (with_hook now one.hook) one.other one.left fewer one.reads))
  lead_by count now other symbols few later t (Some keyword.Rule) e =
      let r = goes_on t (record (idle now other) { begun = t.at }) rule_form (item_is (idle now other) t.at t.symbol (Some keyword.Rule) e ∙ rule_begins (idle now other) t.at) in
      let one = rules final now other t.at t.left r in
      let fewer : length one.left ≤ count = omega (arith, few, ap length t.symbols_are, one.less) in
      led t.symbols_are (keyword_is t.symbol keyword.Rule e) one.symbols_are (rule_item one.rule one.fits (later (with_rule now one.rule) one.other one.left fewer one.reads))
  lead_by count now other symbols few later t key e = absurd (no_other (idle now other) t.at key t.turn (sym (item_is (idle now other) t.at t.symbol key e) ∙ t.met_is))

  -- where an item was expected, the symbols that are left lead to what was read at last
  items_lead : (count : ℕ) (now : Def) (other : Draft) (symbols : List Symbol) → length symbols ≤ count → Reads final (expected.Item ∷ []) (idle now other) symbols →
      ItemsLead final.0.def now symbols
  items_lead count now other [] few r = subst (λ (draft : Draft). ItemsLead draft.def now []) (ended_at (idle now other) r.at final r.is) no_item
  items_lead zero now other (symbol ∷ left) few r = absurd (omega (arith, few))
  items_lead (suc count) now other (symbol ∷ left) few r = let t = took_next r in lead_by count now other (symbol ∷ left) few (items_lead count) t (keyword_in (word_of t.symbol)) refl

-- The words that begin a definition.

skel_word : (draft : Draft) (symbol : Symbol) (turn : Turn Expected Draft) → skel draft (word_of symbol) ≡ Ok turn → symbol ≡ Named (codes "skel")
unfolding skel
skel_word draft (Named word) turn h = ap Named ((bytes_eq-Decides word (codes "skel")).0 (asked_is draft (bytes_eq word (codes "skel")) turn h))
skel_word draft (Plain kind) turn h = absurd (cc h)

skel_met : (draft : Draft) (at : ℕ) (symbol : Symbol) (turn : Turn Expected Draft) → step draft expected.Skel at symbol ≡ Ok turn → symbol ≡ Named (codes "skel")
unfolding step
skel_met draft at symbol turn h = skel_word draft symbol turn h

skel_step : (draft : Draft) (at : ℕ) → step draft expected.Skel at (Named (codes "skel")) ≡ met draft []
unfolding step skel
skel_step draft at = refl

version_number : (draft : Draft) (symbol : Symbol) (value : Option ℤ) (turn : Turn Expected Draft) → number_of symbol ≡ value → version draft value ≡ Ok turn →
    symbol ≡ Plain (token.Number (pos 1))
unfolding version
version_number draft symbol None turn e h = absurd (cc h)
version_number draft symbol (Some value) turn e h =
    number_is symbol value e ∙ ap (λ z. Plain (token.Number z)) ((Decides-int_eq value (pos 1)).0 (asked_is draft (int_eq value (pos 1)) turn h))

version_met : (draft : Draft) (at : ℕ) (symbol : Symbol) (turn : Turn Expected Draft) → step draft expected.Version at symbol ≡ Ok turn → symbol ≡ Plain (token.Number (pos 1))
unfolding step
version_met draft at symbol turn h = version_number draft symbol (number_of symbol) turn refl h

version_step : (draft : Draft) (at : ℕ) → step draft expected.Version at (Plain (token.Number (pos 1))) ≡ met draft []
unfolding step version
version_step draft at = refl

-- a reading of all symbols that ended well
ended_well : (count : ℕ) (result : Result Final (DefError × ℕ)) (draft : Draft) → ended definition_rules count result ≡ Ok draft → (at : ℕ) × (result ≡ answer draft at)
ended_well count (Ok (state, at)) draft h = by (at == count) h where
  taken : Bool → Result Draft (DefError × ℕ)
  taken b = if b then Ok state else Err (definition_rules.unexpected, at)

  by : (b : Bool) → taken b ≡ Ok draft → (place : ℕ) × (answer state at ≡ answer draft place)
  by true h = let same : state ≡ draft = cc h in (at, ap (λ (draft : Draft). answer draft at) same)
  by false h = absurd (cc h)
ended_well count (Err bad) draft h = absurd (cc h)

began : (symbols : List Symbol) (draft : Draft) → read_symbols symbols ≡ Ok draft →
    (final : Final) × (final.0 ≡ draft) × Reads final (expected.Skel ∷ expected.Version ∷ expected.Item ∷ []) nothing symbols
unfolding read_symbols
began symbols draft h =
    let well = ended_well (length symbols) (run definition_rules 0 0 (expected.Skel ∷ expected.Version ∷ expected.Item ∷ []) nothing symbols) draft h in
    ((draft, well.0), refl, record { at = 0; is = well.1; stands = at_first })

-- what is read as a definition is spelled so, given that this holds of its rules
pub only_definitions : RulesAreRead → (symbols : List Symbol) (draft : Draft) → read_symbols symbols ≡ Ok draft → DefinitionIs draft.def symbols
only_definitions rules symbols draft h =
    let start = began symbols draft h in
    let final = start.0 in
    let t = took refl start.2 in
    let named = skel_met nothing t.at t.symbol t.turn t.met_is in
    let u = took refl (goes_on t nothing [] (ap (step nothing expected.Skel t.at) named ∙ skel_step nothing t.at)) in
    let versioned = version_met nothing u.at u.symbol u.turn u.met_is in
    let r = goes_on u nothing [] (ap (step nothing expected.Version u.at) versioned ∙ version_step nothing u.at) in
    record {
      items = u.left;
      symbols_are = others_so (first_so t.symbols_are named) (first_so u.symbols_are versioned);
      lead = subst (λ (read : Draft). ItemsLead read.def no_declaration u.left) start.1 (items_lead rules final (length u.left) no_declaration nothing u.left (omega arith) r);
    }
