-- A definition that some text says has a text.
use Rattle.std.proofs.Common.{◌≡◌, ℕ, List, get_or, refl, sym, ap, subst, Result, Ok, Err}
use Rattle.std.specs.Prelude.{All}
use Rattle.sk_base.specs.Answer.{◌>>=◌}
use Rattle.sk_lex.specs.Symbols.{symbols}
use Rattle.sk_lex.specs.Tokens.{tokens_of}
use Rattle.sk_lex.specs.declared.token.Token.{Token}
use Rattle.sk_lex.specs.declared.token.LexError.{LexError}
use Rattle.sk_def.specs.Fits.{RuleIsShort, DefinitionFits}
use Rattle.sk_def.specs.declared.def.Def.{Def}
use Rattle.sk_def.specs.declared.def.Rule.{Rule}
use Rattle.sk_deftext.specs.Canonical.{definition_text}
use Rattle.sk_deftext.specs.Reading.{read_symbols}
use Rattle.sk_deftext.specs.Texts.{lexed, located, read_definition}
use Rattle.sk_deftext.specs.Written.{RuleHasNames, IsInOrder, HasText, Says}
use Rattle.sk_deftext.specs.declared.draft.Draft.{Draft}
use Rattle.sk_deftext.specs.declared.fault.DefError.{DefError}
use Rattle.sk_deftext.specs.declared.fault.DefFault.{DefFault}
use Rattle.sk_deftext.specs.declared.source.Places.{Places}
use Rattle.sk_deftext.specs.declared.source.Source.{Source}
use Rattle.sk_deftext.proofs.Fulfilled.{read_stands}
use Rattle.sk_deftext.proofs.InOrder.{symbols_in_order}
use Rattle.sk_deftext.proofs.Items.{canonical_says}
use Rattle.sk_deftext.proofs.Naming.{text_has_names}
use Rattle.sk_deftext.proofs.Standing.{DefinitionStands}

rule_short : (rule : Rule) → RuleHasNames rule → IsInOrder rule → RuleIsShort rule
rule_short rule has order = record {
  few_terms = has.few_terms;
  few_inputs = has.few_inputs;
  few_outputs = has.few_outputs;
  lists_short = has.short;
  few_branches = order.few_branches;
}

-- what stands fits where its lists of variables are short and its branches few
stands_fits : (d : Def) → DefinitionStands d → All RuleHasNames d.rules → All IsInOrder d.rules → DefinitionFits d
stands_fits d s has order = record {
  few_sorts = s.few_sorts;
  few_constructors = s.few_constructors;
  few_hooks = s.few_hooks;
  constructors_fit = s.constructors_fit;
  hooks_fit = s.hooks_fit;
  rules_fit = s.rules_fit;
  rules_short = λ k x inside. rule_short (get_or d.rules k x) (has k x inside) (order k x inside);
}

draft_has_text : (text : List ℕ) (ts : List Token) (draft : Draft) → tokens_of text ≡ Ok ts → read_symbols (symbols text ts) ≡ Ok draft → HasText draft.def
draft_has_text text ts draft t e =
    let stands = read_stands (symbols text ts) draft e in
    let names = text_has_names text ts draft t e in
    let order = symbols_in_order (symbols text ts) draft e in
    record { fits = stands_fits draft.def stands.definition names.rules order; named = names; in_order = order }

pub read_has_text : (text : List ℕ) (ts : List Token) (draft : Draft) (d : Def) → d ≡ draft.def → tokens_of text ≡ Ok ts → read_symbols (symbols text ts) ≡ Ok draft → HasText d
read_has_text text ts draft d s t e = subst HasText (sym s) (draft_has_text text ts draft t e)

abbrev def_in : Def → Result Source DefFault → Def
def_in other (Ok source) = source.def
def_in other (Err fault) = other

abbrev said : Def → Places → Result Source DefFault
said d places = Ok (record { def = d; places = places })

-- what a text that says a definition was read as
pub record IsRead (text : List ℕ) (d : Def) : Type 0 where
  pub tokens : List Token
  pub are : tokens_of text ≡ Ok tokens
  pub draft : Draft
  pub is : read_symbols (symbols text tokens) ≡ Ok draft
  pub def_is : d ≡ draft.def

drafted : (text : List ℕ) (d : Def) (places : Places) (ts : List Token) → tokens_of text ≡ Ok ts → (r : Result Draft (DefError × ℕ)) → read_symbols (symbols text ts) ≡ r →
    located text ts r ≡ said d places → IsRead text d
drafted text d places ts t (Ok draft) m e =
    let same : draft.def ≡ d = ap (def_in d) e in
    record { tokens = ts; are = t; draft = draft; is = m; def_is = sym same }
drafted text d places ts t (Err (error, number)) m e = absurd (cc e)

lexed_so : (text : List ℕ) (d : Def) (places : Places) (r : Result (List Token) (LexError × ℕ)) → tokens_of text ≡ r →
    (lexed text r >>= λ tokens. located text tokens (read_symbols (symbols text tokens))) ≡ said d places → IsRead text d
lexed_so text d places (Ok ts) t e = drafted text d places ts t (read_symbols (symbols text ts)) refl e
lexed_so text d places (Err (error, at)) t e = absurd (cc e)

pub said_is_read : (text : List ℕ) (d : Def) → Says text d → IsRead text d
unfolding read_definition
said_is_read text d s = lexed_so text d s.places (tokens_of text) refl s.is

-- a definition that some text says has a text
pub said_has_text : (text : List ℕ) (d : Def) → Says text d → HasText d
said_has_text text d s =
    let r = said_is_read text d s in
    read_has_text text r.tokens r.draft d r.def_is r.are r.is

-- what some text says, the canonical text says
pub said_again : (text : List ℕ) (d : Def) → Says text d → Says (definition_text d) d
said_again text d s = canonical_says d (said_has_text text d s)
