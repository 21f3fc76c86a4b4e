-- The names of a definition that was read.
use Rattle.std.proofs.Common.{◌≡◌, ℕ, zero, suc, ◌+◌, ◌<◌, ◌≤◌, eqb, nat_lt, Bool, true, false, cond, not, ◌||◌, if◌then◌else◌, List, [], ◌∷◌, ◌++◌, length, map, refl, sym, ap, subst, ◌∙◌, arith, length-append, Option, Some, None, Ok, Err, inl, inr, ℤ, pos}
use Rattle.std.specs.Prelude.{codes, position, All, IfSome, is_some, option_map}
use Rattle.std.specs.List.{position_or_len, AllByRecursion}
use Rattle.std.specs.Str.{bytes_eq}
use Rattle.std.specs.Ordering.{int_eq}
use Rattle.std.proofs.lemmas.Bool.{lt-ltb, ltb-true, or_parts, ne_eqb, cases_lt}
use Rattle.std.proofs.lemmas.Bool.Decides.{nat_tests}
use Rattle.std.proofs.lemmas.Cmp.{nat_list_eq_equiv}
use Rattle.std.proofs.lemmas.List.{map-append}
use Rattle.std.proofs.lemmas.List.Elements.{All-nil, All-push, All-append, All-cons}
use Rattle.std.proofs.lemmas.List.Folds.{position_or_len_push}
use Rattle.sk_base.specs.Names.{place_of_name, with_name}
use Rattle.sk_base.specs.declared.flow.FlowSort.{FlowSort}
use Rattle.sk_lex.specs.Run.{Turn}
use Rattle.sk_lex.specs.Symbols.{Symbol, Named, Plain, symbols, word_of, number_of, is_open, is_close, is_comma, is_colon, is_arrow, is_left_brace, is_right_brace}
use Rattle.sk_lex.specs.Tokens.{tokens_of}
use Rattle.sk_lex.specs.declared.token.Token.{Token}
use Rattle.sk_def.specs.Filters.{filter_named}
use Rattle.sk_def.specs.Fits.{ListsAreShort}
use Rattle.sk_def.specs.Named.{place_of_con, place_of_hook}
use Rattle.sk_def.specs.declared.ids.SortId.{SortId}
use Rattle.sk_def.specs.declared.ids.HookId.{HookId}
use Rattle.sk_def.specs.declared.ids.ConId.{ConId}
use Rattle.sk_def.specs.declared.ids.Var.{Var}
use Rattle.sk_def.specs.declared.sorts.ArgSort.{ArgSort}
use Rattle.sk_def.specs.declared.bone.Target.{Target}
use Rattle.sk_def.specs.declared.bone.Target.TheVariants.{Sub}
use Rattle.sk_def.specs.declared.bone.Bone.{Bone}
use Rattle.sk_def.specs.declared.bone.Bone.TheVariants.{Either}
use Rattle.sk_def.specs.declared.def.Con.{Con}
use Rattle.sk_def.specs.declared.def.Hook.{Hook}
use Rattle.sk_def.specs.declared.def.Rule.{Rule}
use Rattle.sk_def.specs.declared.def.Def.{Def}
use Rattle.sk_deftext.specs.Canonical.{name_at}
use Rattle.sk_deftext.specs.Words.{keyword_of, keyword_in, plain_word, unless_keyword, flow_sort_of, is_reserved}
use Rattle.sk_deftext.specs.Met.{Met, met, asked, one_more}
use Rattle.sk_deftext.specs.Bodies as spec
use Rattle.sk_deftext.specs.Bodies.{rule_hook, rule_con, variable, opening_of, bone, target, closing_brace, or_first, or_more, bone_of}
use Rattle.sk_deftext.specs.Reading as read
use Rattle.sk_deftext.specs.Reading.{definition_rules, at_symbol, skel, version, item, sort_name, con_name, hook_name, sort_used, argument, input, output, entry, closed, first, more, step, nothing, read_symbols}
use Rattle.sk_deftext.specs.Written.{IsWord, IsName, AreNames, RuleHasNames, HasNames}
use Rattle.sk_deftext.specs.declared.draft.Draft.{Draft}
use Rattle.sk_deftext.specs.declared.draft.OpenBone.{OpenBone}
use Rattle.sk_deftext.specs.declared.draft.BoneHead.{BoneHead}
use Rattle.sk_deftext.specs.declared.draft.BoneHead.TheVariants as head
use Rattle.sk_deftext.specs.declared.expected.Expected.{Expected}
use Rattle.sk_deftext.specs.declared.expected.Expected.TheVariants as expected
use Rattle.sk_deftext.specs.declared.expected.Listed.{Listed}
use Rattle.sk_deftext.specs.declared.expected.Listed.TheVariants as listed
use Rattle.sk_deftext.specs.declared.expected.Body.{Body}
use Rattle.sk_deftext.specs.declared.expected.Body.TheVariants as body_of
use Rattle.sk_deftext.specs.declared.fault.DefError.{DefError}
use Rattle.sk_deftext.specs.declared.fault.DefError.TheVariants.{Unexpected, Unknown, Duplicate, TooMany}
use Rattle.sk_deftext.specs.declared.fault.Which.TheVariants as which
use Rattle.sk_deftext.specs.declared.bone.Opening.{Opening}
use Rattle.sk_deftext.specs.declared.bone.Opening.TheVariants as opening
use Rattle.sk_deftext.specs.declared.word.Keyword.{Keyword}
use Rattle.sk_deftext.specs.declared.word.Keyword.TheVariants as keyword
use Rattle.sk_deftext.proofs.Found.{con_place, hook_place, found_parts}
use Rattle.sk_deftext.proofs.Reruns.{symbols_keep}
use Rattle.sk_deftext.proofs.WordsOf.{WordSymbol, text_words}

-- One name more.

few_first : {A : Type 0} (p : A → Bool) (xs : List A) → position_or_len p xs ≤ length xs
few_first p [] = omega arith
few_first p (x ∷ xs) = by (p x) (few_first p xs) where
  by : (b : Bool) → position_or_len p xs ≤ length xs → cond (not b) (1 + position_or_len p xs) 0 ≤ length (x ∷ xs)
  by true h = omega arith
  by false h = omega (arith, h)

nowhere : (b : Bool) (k : ℕ) → cond b (Some k) None ≡ None → b ≡ false
nowhere true k e = absurd (cc)
nowhere false k e = refl

not_found : {A : Type 0} (p : A → Bool) (xs : List A) → position p xs ≡ None → position_or_len p xs ≡ length xs
not_found p xs e =
    let past : nat_lt (position_or_len p xs) (length xs) ≡ false = nowhere (nat_lt (position_or_len p xs) (length xs)) (position_or_len p xs) e in
    let few = few_first p xs in
    grind (arith, nat_tests)

found_so : {A : Type 0} (p : A → Bool) (xs : List A) (i : ℕ) → position_or_len p xs ≡ i → i < length xs → position p xs ≡ Some i
found_so p xs i e h =
    ap (λ b. cond b (Some (position_or_len p xs)) None) (lt-ltb (position_or_len p xs) (length xs) (omega (arith, e, h))) ∙ ap (λ k. Some k) e

found_push : {A : Type 0} (p : A → Bool) (xs : List A) (y : A) (i : ℕ) → position p xs ≡ Some i → position p (xs ++ y ∷ []) ≡ Some i
found_push p xs y i e =
    let at = found_parts p xs i e in
    let other : eqb (position_or_len p xs) (length xs) ≡ false = ne_eqb (position_or_len p xs) (length xs) (omega (arith, at.0, at.1)) in
    found_so p (xs ++ y ∷ []) i
    (position_or_len_push p xs y ∙ ap (λ b. cond b (length xs + cond (p y) 0 1) (position_or_len p xs)) other ∙ at.0)
    (omega (arith, at.1, length-append xs (y ∷ [])))

found_last : {A : Type 0} (p : A → Bool) (xs : List A) (y : A) → position p xs ≡ None → p y ≡ true → position p (xs ++ y ∷ []) ≡ Some (length xs)
found_last p xs y e h =
    let at = not_found p xs e in
    let same : eqb (position_or_len p xs) (length xs) ≡ true = grind (arith, nat_tests) in
    found_so p (xs ++ y ∷ []) (length xs)
    (position_or_len_push p xs y ∙ ap (λ b. cond b (length xs + cond (p y) 0 1) (position_or_len p xs)) same ∙ ap (λ b. length xs + cond b 0 1) h ∙ omega arith)
    (omega (arith, length-append xs (y ∷ [])))

name_push : (names : List (List ℕ)) (name : List ℕ) (place : ℕ) → place < length names → name_at (names ++ name ∷ []) place ≡ name_at names place
name_push [] name place h = absurd (omega (arith, h))
name_push (x ∷ names) name zero h = refl
name_push (x ∷ names) name (suc place) h = name_push names name place (omega (arith, h))

name_last : (names : List (List ℕ)) (name : List ℕ) → name_at (names ++ name ∷ []) (length names) ≡ name
name_last [] name = refl
name_last (x ∷ names) name = name_last names name

pub names_push : (names : List (List ℕ)) (name : List ℕ) → AreNames names → IsName name → place_of_name names name ≡ None → AreNames (names ++ name ∷ [])
names_push names name h n new = record {
  each = All-push IsName names name h.each n;
  found = λ (place : ℕ) (within : place < length (names ++ name ∷ [])). elim (cases_lt place (length names)) [
    | inl old ↦ ap (place_of_name (names ++ name ∷ [])) (name_push names name place old)
        ∙ found_push (λ entry. bytes_eq (name_at names place) entry) names name place (h.found place old)
    | inr late ↦ let last : place ≡ length names = omega (arith, late, within, length-append names (name ∷ [])) in
        ap (λ k. place_of_name (names ++ name ∷ []) (name_at (names ++ name ∷ []) k)) last ∙ ap (place_of_name (names ++ name ∷ [])) (name_last names name)
        ∙ found_last (λ entry. bytes_eq name entry) names name new (nat_list_eq_equiv.refl name) ∙ ap (λ k. Some k) (sym last)
  ];
}

no_names : AreNames []
no_names = record { each = All-nil IsName; found = λ place within. absurd (omega (arith, within)) }

abbrev NamesAfter : Option (ℕ × List (List ℕ)) → Type 0
NamesAfter o = IfSome o (λ r. AreNames r.1)

names_with : (names : List (List ℕ)) (name : List ℕ) → AreNames names → IsName name → NamesAfter (with_name names name)
names_with names name h n = by (place_of_name names name) refl where
  grown : (b : Bool) → place_of_name names name ≡ None → NamesAfter (if b then Some (length names, names ++ name ∷ []) else None)
  grown true e = names_push names name h n e
  grown false e = tt

  by : (o : Option ℕ) → place_of_name names name ≡ o → NamesAfter (with_name names name)
  by (Some place) e = rw e h
  by None e = rw e (grown (nat_lt (length names) 64) e)

-- What holds of a draft at each token.

abbrev con_names : List Con → List (List ℕ)
con_names cons = map (λ (con : Con). con.name) cons

abbrev hook_names : List Hook → List (List ℕ)
hook_names hooks = map (λ (hook : Hook). hook.name) hooks

abbrev NewCon : Def → List ℕ → Type 0
NewCon d name = IsName name × (place_of_name (con_names d.cons) name ≡ None)

abbrev NewHook : Def → List ℕ → Type 0
NewHook d name = IsName name × (filter_named name ≡ None) × (place_of_name (hook_names d.hooks) name ≡ None)

abbrev UnclosedShort : List OpenBone → Type 0
UnclosedShort [] = Unit {0}
UnclosedShort (one ∷ outer) = All ListsAreShort one.before × All ListsAreShort one.inside × UnclosedShort outer

record NamingOf (d : Def) (con_name hook_name : Option (List ℕ)) (vars : List (List ℕ)) (terms inputs args listed : List Var) (bones : List Bone) (unclosed : List OpenBone) : Type 0 where
  named : HasNames d
  con_new : IfSome con_name (NewCon d)
  hook_new : IfSome hook_name (NewHook d)
  vars_named : AreNames vars
  few_terms : length terms ≤ 8
  few_inputs : length inputs ≤ 8
  few_args : length args ≤ 8
  few_listed : length listed ≤ 8
  short : All ListsAreShort bones
  unclosed_short : UnclosedShort unclosed

abbrev Naming : Draft → Type 0
Naming draft = NamingOf draft.def draft.con_name draft.hook_name draft.vars draft.terms draft.rule_inputs draft.bone_args draft.listed draft.bones draft.unclosed

abbrev KeptBy : Met → Type 0
KeptBy (Ok turn) = Naming turn.state
KeptBy (Err error) = Unit {0}

record Kept (turn : Met) : Type 0 where
  is : KeptBy turn

bad : (error : DefError) → Kept (Err error)
bad error = record { is = tt }

kept : (draft : Draft) (next : List Expected) → Naming draft → Kept (met draft next)
kept draft next s = record { is = s }

either_way : (b : Bool) {x y : Met} → (b ≡ true → Kept x) → (b ≡ false → Kept y) → Kept (if b then x else y)
either_way true h k = h refl
either_way false h k = k refl

absent : (o : Option ℕ) → is_some o ≡ false → o ≡ None
absent None e = refl
absent (Some k) e = absurd (cc)

no_filter : {A : Type 0} (o : Option A) → is_some o ≡ false → o ≡ None
no_filter None e = refl
no_filter (Some k) e = absurd (cc)

-- a word that is no keyword is a name
plain_name : (symbol : Symbol) → WordSymbol symbol → IfSome (plain_word (word_of symbol)) IsName
plain_name (Plain kind) w = tt
plain_name (Named word) w = by (keyword_of word) refl where
  by : (key : Option Keyword) → keyword_of word ≡ key → IfSome (unless_keyword word key) IsName
  by None e = record { word = w; plain = e }
  by (Some key) e = tt

module _ (draft : Draft) (s : Naming draft) where
  asked_keeps : (b : Bool) → Kept (asked draft b)
  asked_keeps b = either_way b (λ _. kept draft [] s) (λ _. bad Unexpected)

  skel_keeps : (word : Option (List ℕ)) → Kept (skel draft word)
  unfolding skel
  skel_keeps None = bad Unexpected
  skel_keeps (Some word) = asked_keeps (bytes_eq word (codes "skel"))

  version_keeps : (value : Option ℤ) → Kept (version draft value)
  unfolding version
  version_keeps None = bad Unexpected
  version_keeps (Some value) = asked_keeps (int_eq value (pos 1))

  item_keeps : (at : ℕ) (key : Option Keyword) → Kept (item draft at key)
  unfolding item
  item_keeps at None = bad Unexpected
  item_keeps at (Some keyword.Sort) = kept draft _ s
  item_keeps at (Some keyword.Con) = kept draft _ s
  item_keeps at (Some keyword.Hook) = kept _ _ s
  item_keeps at (Some keyword.Rule) = kept _ _ s
  item_keeps at (Some other) = bad Unexpected

  -- the draft with another definition that has names, in which the names begun are as new
  sort_keeps : (word : Option (List ℕ)) → IfSome word IsName → Kept (sort_name draft word)
  unfolding sort_name
  sort_keeps None n = bad Unexpected
  sort_keeps (Some word) n =
      either_way (nat_lt (length draft.def.sorts) 16)
      (λ few. either_way (is_reserved word || read.has_name draft.def.sorts word) (λ _. bad Duplicate)
      (λ new.
      let parts = or_parts (is_reserved word) (read.has_name draft.def.sorts word) new in
      kept _ [] (record {
        named = record {
          sorts = names_push draft.def.sorts word s.named.sorts n (absent (place_of_name draft.def.sorts word) parts.1);
          own_sorts = All-push (λ (name : List ℕ). is_reserved name ≡ false) draft.def.sorts word s.named.own_sorts parts.0;
          cons = s.named.cons;
          hooks = s.named.hooks;
          own_hooks = s.named.own_hooks;
          rules = s.named.rules;
        };
        con_new = s.con_new;
        hook_new = s.hook_new;
        vars_named = s.vars_named;
        few_terms = s.few_terms;
        few_inputs = s.few_inputs;
        few_args = s.few_args;
        few_listed = s.few_listed;
        short = s.short;
        unclosed_short = s.unclosed_short;
      })))
      (λ _. bad (TooMany which.Sorts))

  with_new : (con hook : Option (List ℕ)) → IfSome con (NewCon draft.def) → IfSome hook (NewHook draft.def) → Naming (record draft { con_name = con; hook_name = hook })
  with_new con hook p q = record {
    named = s.named;
    con_new = p;
    hook_new = q;
    vars_named = s.vars_named;
    few_terms = s.few_terms;
    few_inputs = s.few_inputs;
    few_args = s.few_args;
    few_listed = s.few_listed;
    short = s.short;
    unclosed_short = s.unclosed_short;
  }

  con_keeps : (word : Option (List ℕ)) → IfSome word IsName → Kept (con_name draft word)
  unfolding con_name
  con_keeps None n = bad Unexpected
  con_keeps (Some word) n =
      either_way (nat_lt (length draft.def.cons) 128)
      (λ few. either_way (is_some (place_of_con draft.def.cons word)) (λ _. bad Duplicate)
      (λ new. kept _ [] (with_new (Some word) draft.hook_name (n, sym (con_place draft.def.cons word) ∙ absent (place_of_con draft.def.cons word) new) s.hook_new)))
      (λ _. bad (TooMany which.Constructors))

  hook_keeps : (word : Option (List ℕ)) → IfSome word IsName → Kept (hook_name draft word)
  unfolding hook_name
  hook_keeps None n = bad Unexpected
  hook_keeps (Some word) n =
      either_way (nat_lt (length draft.def.hooks) 8)
      (λ few. either_way (is_some (filter_named word) || is_some (place_of_hook draft.def.hooks word)) (λ _. bad Duplicate)
      (λ new.
      let parts = or_parts (is_some (filter_named word)) (is_some (place_of_hook draft.def.hooks word)) new in
      kept _ [] (with_new draft.con_name (Some word) s.con_new (n, no_filter (filter_named word) parts.0, sym (hook_place draft.def.hooks word) ∙ absent (place_of_hook draft.def.hooks word) parts.1))))
      (λ _. bad (TooMany which.Hooks))

  sort_used_keeps : (word : Option (List ℕ)) → Kept (sort_used draft word)
  unfolding sort_used
  sort_used_keeps None = bad Unexpected
  sort_used_keeps (Some word) = by (place_of_name draft.def.sorts word) where
    by : (place : Option ℕ) → Kept (read.with_sort draft (option_map (λ place. record { 0 = place }) place))
    by None = bad Unknown
    by (Some place) = kept _ [] s

  more_keeps_one : {A : Type 0} (count most : ℕ) (too_many : DefError) (o : Option A) (turn : A → Met) → ((x : A) → Kept (turn x)) → Kept (one_more count most too_many o turn)
  more_keeps_one count most too_many None turn h = either_way (nat_lt count most) (λ _. bad Unknown) (λ _. bad too_many)
  more_keeps_one count most too_many (Some x) turn h = either_way (nat_lt count most) (λ _. h x) (λ _. bad too_many)

  argument_keeps : (word : Option (List ℕ)) → Kept (argument draft word)
  unfolding argument
  argument_keeps None = bad Unexpected
  argument_keeps (Some word) =
      more_keeps_one (length draft.args) 8 (TooMany which.Arguments) (read.arg_sort_named draft.def.sorts word) (λ sort. met (record draft { args = draft.args ++ sort ∷ [] }) (expected.More listed.Arguments ∷ []))
      (λ (sort : ArgSort). kept (record draft { args = draft.args ++ sort ∷ [] }) (expected.More listed.Arguments ∷ []) s)

  input_keeps : (word : Option (List ℕ)) → Kept (input draft word)
  unfolding input
  input_keeps None = bad Unexpected
  input_keeps (Some word) =
      more_keeps_one (length draft.inputs) 4 (TooMany which.Flows) (flow_sort_of word) (λ sort. met (record draft { inputs = draft.inputs ++ sort ∷ [] }) (expected.More listed.Inputs ∷ []))
      (λ (sort : FlowSort). kept (record draft { inputs = draft.inputs ++ sort ∷ [] }) (expected.More listed.Inputs ∷ []) s)

  output_keeps : (word : Option (List ℕ)) → Kept (output draft word)
  unfolding output
  output_keeps None = bad Unexpected
  output_keeps (Some word) =
      more_keeps_one (length draft.outputs) 4 (TooMany which.Flows) (flow_sort_of word) (λ sort. met (record draft { outputs = draft.outputs ++ sort ∷ [] }) (expected.More listed.Outputs ∷ []))
      (λ (sort : FlowSort). kept (record draft { outputs = draft.outputs ++ sort ∷ [] }) (expected.More listed.Outputs ∷ []) s)

  -- the ends of a constructor and of a hook
  con_ends : (con : Option (List ℕ)) (sort : Option SortId) → draft.con_name ≡ con → Kept (read.finished_con draft con sort)
  con_ends None sort e = bad Unexpected
  con_ends (Some name) None e = bad Unexpected
  con_ends (Some name) (Some sort) e =
      let P : Option (List ℕ) → Type 0 = λ o. IfSome o (NewCon draft.def) in
      let new : NewCon draft.def name = subst P e s.con_new in
      let con : Con = record { name = name; sort = sort; args = draft.args } in
      let Q : List (List ℕ) → Type 0 = AreNames in
      kept _ [] (record {
        named = record {
          sorts = s.named.sorts;
          own_sorts = s.named.own_sorts;
          cons = subst Q (sym (map-append (λ (con : Con). con.name) draft.def.cons (con ∷ []))) (names_push (con_names draft.def.cons) name s.named.cons new.0 new.1);
          hooks = s.named.hooks;
          own_hooks = s.named.own_hooks;
          rules = s.named.rules;
        };
        con_new = tt;
        hook_new = s.hook_new;
        vars_named = s.vars_named;
        few_terms = s.few_terms;
        few_inputs = s.few_inputs;
        few_args = s.few_args;
        few_listed = s.few_listed;
        short = s.short;
        unclosed_short = s.unclosed_short;
      })

  hook_ends : (hook : Option (List ℕ)) (sort : Option SortId) → draft.hook_name ≡ hook → Kept (read.finished_hook draft hook sort)
  hook_ends None sort e = bad Unexpected
  hook_ends (Some name) None e = bad Unexpected
  hook_ends (Some name) (Some sort) e =
      let P : Option (List ℕ) → Type 0 = λ o. IfSome o (NewHook draft.def) in
      let new : NewHook draft.def name = subst P e s.hook_new in
      let hook : Hook = record { name = name; inputs = draft.inputs; sort = sort; outputs = draft.outputs } in
      let Q : List (List ℕ) → Type 0 = AreNames in
      kept _ [] (record {
        named = record {
          sorts = s.named.sorts;
          own_sorts = s.named.own_sorts;
          cons = s.named.cons;
          hooks = subst Q (sym (map-append (λ (hook : Hook). hook.name) draft.def.hooks (hook ∷ []))) (names_push (hook_names draft.def.hooks) name s.named.hooks new.0 new.2);
          own_hooks = All-push (λ (hook : Hook). filter_named hook.name ≡ None) draft.def.hooks hook s.named.own_hooks new.1;
          rules = s.named.rules;
        };
        con_new = s.con_new;
        hook_new = tt;
        vars_named = s.vars_named;
        few_terms = s.few_terms;
        few_inputs = s.few_inputs;
        few_args = s.few_args;
        few_listed = s.few_listed;
        short = s.short;
        unclosed_short = s.unclosed_short;
      })

  rule_hook_keeps : (word : Option (List ℕ)) → Kept (rule_hook draft word)
  unfolding rule_hook
  rule_hook_keeps None = bad Unexpected
  rule_hook_keeps (Some word) = by (spec.hook_named draft.def.hooks word) where
    by : (o : Option HookId) → Kept (spec.with_hook draft o)
    by None = bad Unknown
    by (Some hook) = kept _ [] s

  rule_con_keeps : (word : Option (List ℕ)) → Kept (rule_con draft word)
  unfolding rule_con
  rule_con_keeps None = bad Unexpected
  rule_con_keeps (Some word) = by (spec.con_named draft.def.cons word) where
    by : (o : Option ConId) → Kept (spec.with_con draft o)
    by None = bad Unknown
    by (Some con) = kept _ [] s

  -- the draft with other variables and lists
  with_lists : (vars : List (List ℕ)) (terms inputs args list : List Var) (t : Target) → AreNames vars → length terms ≤ 8 → length inputs ≤ 8 → length args ≤ 8 → length list ≤ 8 →
      Naming (record draft { vars = vars; terms = terms; rule_inputs = inputs; bone_args = args; listed = list; target = t })
  with_lists vars terms inputs args list t v a b c d = record {
    named = s.named;
    con_new = s.con_new;
    hook_new = s.hook_new;
    vars_named = v;
    few_terms = a;
    few_inputs = b;
    few_args = c;
    few_listed = d;
    short = s.short;
    unclosed_short = s.unclosed_short;
  }

  variable_keeps : (list : Listed) (word : Option (List ℕ)) → IfSome word IsName → Kept (variable draft list word)
  unfolding variable
  variable_keeps list None n = bad Unexpected
  variable_keeps list (Some word) n =
      either_way (nat_lt (length draft.listed) 8) (λ few. by (ltb-true (length draft.listed) 8 few) (with_name draft.vars word) (names_with draft.vars word s.vars_named n)) (λ _. bad (TooMany which.Arguments)) where
        by : length draft.listed < 8 → (o : Option (ℕ × List (List ℕ))) → NamesAfter o → Kept (spec.with_variable draft list o)
        by few None h = bad (TooMany which.Variables)
        by few (Some (place, vars)) h =
            kept _ _ (with_lists vars draft.terms draft.rule_inputs draft.bone_args (draft.listed ++ record { 0 = place } ∷ []) draft.target h s.few_terms s.few_inputs s.few_args
            (omega (arith, few, length-append draft.listed (record { 0 = place } ∷ []))))

  target_keeps : (word : Option (List ℕ)) → IfSome word IsWord → Kept (target draft word)
  unfolding target
  target_keeps None w = bad Unexpected
  target_keeps (Some word) w = by (keyword_of word) refl where
    named : (o : Option (ℕ × List (List ℕ))) → NamesAfter o → Kept (spec.with_target draft o)
    named None h = bad (TooMany which.Variables)
    named (Some (place, vars)) h = kept _ [] (with_lists vars draft.terms draft.rule_inputs draft.bone_args draft.listed (Sub (record { 0 = place })) h s.few_terms s.few_inputs s.few_args s.few_listed)

    by : (key : Option Keyword) → keyword_of word ≡ key → Kept (spec.target_word draft word key)
    by None e = named (with_name draft.vars word) (names_with draft.vars word s.vars_named (record { word = w; plain = e }))
    by (Some keyword.Own) e = kept draft [] s
    by (Some other) e = bad Unexpected

  -- the draft with other bones
  with_bones : (bones : List Bone) (unclosed : List OpenBone) (args list : List Var) (opened : Option BoneHead) (marks : List ℕ) → All ListsAreShort bones → UnclosedShort unclosed → length args ≤ 8 → length list ≤ 8 →
      Naming (record draft { bones = bones; unclosed = unclosed; bone_args = args; listed = list; opened = opened; marks = marks })
  with_bones bones unclosed args list opened marks a b c d = record {
    named = s.named;
    con_new = s.con_new;
    hook_new = s.hook_new;
    vars_named = s.vars_named;
    few_terms = s.few_terms;
    few_inputs = s.few_inputs;
    few_args = c;
    few_listed = d;
    short = a;
    unclosed_short = b;
  }

  begun_keeps : (body : Body) (at : ℕ) (o : Opening) → Kept (spec.begun draft body at o)
  begun_keeps body at opening.Keyword = bad Unexpected
  begun_keeps body at opening.Unknown = bad Unknown
  begun_keeps body at (opening.Filter filter) = kept _ _ s
  begun_keeps body at (opening.Hook hook) = kept _ _ s
  begun_keeps body at opening.Branches =
      either_way (nat_lt (length draft.unclosed) 8)
      (λ _. kept _ _ (with_bones [] (record { before = draft.bones; counts = []; inside = [] } ∷ draft.unclosed) draft.bone_args draft.listed draft.opened (draft.marks ++ at ∷ [])
      (All-nil ListsAreShort) (s.short, All-nil ListsAreShort, s.unclosed_short) s.few_args s.few_listed))
      (λ _. bad (TooMany which.Nesting))

  bone_keeps : (body : Body) (at : ℕ) (word : Option (List ℕ)) → Kept (bone draft body at word)
  unfolding bone
  bone_keeps body at None = bad Unexpected
  bone_keeps body at (Some word) =
      either_way (spec.may_begin (opening_of draft.def.hooks word) (nat_lt (length draft.marks) 64)) (λ _. begun_keeps body at (opening_of draft.def.hooks word)) (λ _. bad (TooMany which.Bones))

  branch_begun_keeps : (unclosed : List OpenBone) → Kept (spec.branch_begun draft unclosed)
  branch_begun_keeps [] = bad Unexpected
  branch_begun_keeps (one ∷ outer) = either_way (nat_lt (length one.counts) 8) (λ _. kept draft [] s) (λ _. bad (TooMany which.Branches))

  branch_ended_keeps : (unclosed : List OpenBone) → draft.unclosed ≡ unclosed → Kept (spec.branch_ended draft unclosed)
  branch_ended_keeps [] e = bad Unexpected
  branch_ended_keeps (one ∷ outer) e =
      let u : UnclosedShort (one ∷ outer) = subst UnclosedShort e s.unclosed_short in
      kept _ [] (with_bones [] (record { before = one.before; counts = one.counts ++ length draft.bones ∷ []; inside = one.inside ++ draft.bones } ∷ outer) draft.bone_args draft.listed draft.opened draft.marks
      (All-nil ListsAreShort) (u.0, All-append ListsAreShort one.inside draft.bones u.1 s.short, u.2) s.few_args s.few_listed)

  closing_brace_keeps : (body : Body) → Kept (closing_brace draft body)
  unfolding closing_brace
  closing_brace_keeps body_of.Rule = kept draft [] s
  closing_brace_keeps body_of.Branch = branch_ended_keeps draft.unclosed refl

  or_first_keeps : (key : Option Keyword) → Kept (or_first draft key)
  unfolding or_first
  or_first_keeps None = bad Unexpected
  or_first_keeps (Some keyword.Or) = kept draft [] s
  or_first_keeps (Some other) = bad Unexpected

  or_more_keeps : (key : Option Keyword) → Kept (or_more draft key)
  unfolding or_more
  or_more_keeps None = bad Unexpected
  or_more_keeps (Some keyword.Or) = kept draft _ s
  or_more_keeps (Some keyword.With) = kept draft _ s
  or_more_keeps (Some other) = bad Unexpected

  one_short : (first : BoneHead) → ListsAreShort (bone_of first draft.bone_args draft.target draft.listed)
  one_short (head.Filter f) = (s.few_args, s.few_listed)
  one_short (head.Hook id) = (s.few_args, s.few_listed)

  bone_ends : (opened : Option BoneHead) → Kept (spec.finished_bone draft opened)
  bone_ends None = bad Unexpected
  bone_ends (Some first) =
      kept _ [] (with_bones (draft.bones ++ bone_of first draft.bone_args draft.target draft.listed ∷ []) draft.unclosed [] [] None draft.marks
      (All-push ListsAreShort draft.bones (bone_of first draft.bone_args draft.target draft.listed) s.short (one_short first)) s.unclosed_short (omega arith) (omega arith))

  branches_end : (unclosed : List OpenBone) → draft.unclosed ≡ unclosed → Kept (spec.finished_branches draft unclosed)
  branches_end [] e = bad Unexpected
  branches_end (one ∷ outer) e =
      let u : UnclosedShort (one ∷ outer) = subst UnclosedShort e s.unclosed_short in
      either_way (nat_lt (length one.counts) 2) (λ _. bad Unexpected)
      (λ _. kept _ [] (with_bones (one.before ++ Either one.counts draft.listed ∷ one.inside) outer draft.bone_args [] draft.opened draft.marks
      (All-append ListsAreShort one.before (Either one.counts draft.listed ∷ one.inside) u.0 (All-cons ListsAreShort (Either one.counts draft.listed) one.inside s.few_listed u.1)) u.2 s.few_args (omega arith)))

  rule_ends : (hook : Option HookId) (con : Option ConId) → Kept (spec.finished_rule draft hook con)
  rule_ends None con = bad Unexpected
  rule_ends (Some hook) None = bad Unexpected
  rule_ends (Some hook) (Some con) =
      let rule : Rule = record { hook = hook; con = con; vars = draft.vars; terms = draft.terms; inputs = draft.rule_inputs; bones = draft.bones; outputs = draft.listed } in
      kept _ [] (record {
        named = record {
          sorts = s.named.sorts;
          own_sorts = s.named.own_sorts;
          cons = s.named.cons;
          hooks = s.named.hooks;
          own_hooks = s.named.own_hooks;
          rules = All-push RuleHasNames draft.def.rules rule s.named.rules
              (record { names = s.vars_named; few_terms = s.few_terms; few_inputs = s.few_inputs; few_outputs = s.few_listed; short = s.short });
        };
        con_new = s.con_new;
        hook_new = s.hook_new;
        vars_named = no_names;
        few_terms = omega arith;
        few_inputs = omega arith;
        few_args = omega arith;
        few_listed = omega arith;
        short = All-nil ListsAreShort;
        unclosed_short = tt;
      })

  closed_keeps : (list : Listed) → Kept (closed draft list)
  unfolding closed
  closed_keeps listed.Arguments = con_ends draft.con_name draft.sort refl
  closed_keeps listed.Inputs = kept draft [] s
  closed_keeps listed.Outputs = hook_ends draft.hook_name draft.sort refl
  closed_keeps listed.Terms = kept _ [] (with_lists draft.vars draft.listed draft.rule_inputs draft.bone_args [] draft.target s.vars_named s.few_listed s.few_inputs s.few_args (omega arith))
  closed_keeps listed.RuleInputs = kept _ [] (with_lists draft.vars draft.terms draft.listed draft.bone_args [] draft.target s.vars_named s.few_terms s.few_listed s.few_args (omega arith))
  closed_keeps listed.BoneArgs = kept _ [] (with_lists draft.vars draft.terms draft.rule_inputs draft.listed [] draft.target s.vars_named s.few_terms s.few_inputs s.few_listed (omega arith))
  closed_keeps listed.BoneOuts = bone_ends draft.opened
  closed_keeps listed.Exports = branches_end draft.unclosed refl
  closed_keeps listed.RuleOutputs = rule_ends draft.hook draft.con

  entry_keeps : (list : Listed) (symbol : Symbol) → WordSymbol symbol → Kept (entry draft list symbol)
  unfolding entry
  entry_keeps listed.Arguments symbol w = argument_keeps (word_of symbol)
  entry_keeps listed.Inputs symbol w = input_keeps (word_of symbol)
  entry_keeps listed.Outputs symbol w = output_keeps (word_of symbol)
  entry_keeps other symbol w = variable_keeps other (plain_word (word_of symbol)) (plain_name symbol w)

  first_keeps : (list : Listed) (symbol : Symbol) → WordSymbol symbol → Kept (first draft list symbol)
  unfolding first
  first_keeps list symbol w = either_way (is_close symbol) (λ _. closed_keeps list) (λ _. entry_keeps list symbol w)

  more_keeps : (list : Listed) (symbol : Symbol) → Kept (more draft list symbol)
  unfolding more
  more_keeps list symbol = either_way (is_close symbol) (λ _. closed_keeps list) (λ _. either_way (is_comma symbol) (λ _. kept draft _ s) (λ _. bad Unexpected))

  word_is_word : (symbol : Symbol) → WordSymbol symbol → IfSome (word_of symbol) IsWord
  word_is_word (Named word) w = w
  word_is_word (Plain kind) w = tt

  step_keeps : (one : Expected) (at : ℕ) (symbol : Symbol) → WordSymbol symbol → Kept (step draft one at symbol)
  unfolding step
  step_keeps expected.Skel at symbol w = skel_keeps (word_of symbol)
  step_keeps expected.Version at symbol w = version_keeps (number_of symbol)
  step_keeps expected.Item at symbol w = item_keeps at (keyword_in (word_of symbol))
  step_keeps expected.SortName at symbol w = sort_keeps (plain_word (word_of symbol)) (plain_name symbol w)
  step_keeps expected.ConName at symbol w = con_keeps (plain_word (word_of symbol)) (plain_name symbol w)
  step_keeps expected.HookName at symbol w = hook_keeps (plain_word (word_of symbol)) (plain_name symbol w)
  step_keeps expected.Colon at symbol w = asked_keeps (is_colon symbol)
  step_keeps expected.Arrow at symbol w = asked_keeps (is_arrow symbol)
  step_keeps expected.Open at symbol w = asked_keeps (is_open symbol)
  step_keeps expected.SortUsed at symbol w = sort_used_keeps (word_of symbol)
  step_keeps (expected.First list) at symbol w = first_keeps list symbol w
  step_keeps (expected.More list) at symbol w = more_keeps list symbol
  step_keeps (expected.Next list) at symbol w = entry_keeps list symbol w
  step_keeps expected.RuleHook at symbol w = rule_hook_keeps (word_of symbol)
  step_keeps expected.RuleCon at symbol w = rule_con_keeps (word_of symbol)
  step_keeps expected.LeftBrace at symbol w = asked_keeps (is_left_brace symbol)
  step_keeps (expected.Bones body) at symbol w = either_way (is_right_brace symbol) (λ _. closing_brace_keeps body) (λ _. bone_keeps body at (word_of symbol))
  step_keeps expected.BoneTarget at symbol w = target_keeps (word_of symbol) (word_is_word symbol w)
  step_keeps expected.BranchOpen at symbol w = either_way (is_left_brace symbol) (λ _. branch_begun_keeps draft.unclosed) (λ _. bad Unexpected)
  step_keeps expected.OrFirst at symbol w = or_first_keeps (keyword_in (word_of symbol))
  step_keeps expected.OrMore at symbol w = or_more_keeps (keyword_in (word_of symbol))
  step_keeps expected.Closing at symbol w = either_way (is_arrow symbol) (λ _. kept _ [] s) (λ _. bad Unexpected)

-- What is read of words has names.

kept_turn : (met : Met) (turn : Turn Expected Draft) → Kept met → met ≡ Ok turn → Naming turn.state
kept_turn (Ok first) turn k e = let same : first ≡ turn = cc e in subst (λ (t : Turn Expected Draft). Naming t.state) same k.is
kept_turn (Err error) turn k e = absurd (cc e)

at_first : Naming nothing
at_first = record {
  named = record {
    sorts = no_names;
    own_sorts = All-nil (λ (name : List ℕ). is_reserved name ≡ false);
    cons = no_names;
    hooks = no_names;
    own_hooks = All-nil (λ (hook : Hook). filter_named hook.name ≡ None);
    rules = All-nil RuleHasNames;
  };
  con_new = tt;
  hook_new = tt;
  vars_named = no_names;
  few_terms = omega arith;
  few_inputs = omega arith;
  few_args = omega arith;
  few_listed = omega arith;
  short = All-nil ListsAreShort;
  unclosed_short = tt;
}

symbols_have_names : (ss : List Symbol) (draft : Draft) → AllByRecursion WordSymbol ss → read_symbols ss ≡ Ok draft → HasNames draft.def
symbols_have_names ss draft w e =
    symbols_keep WordSymbol (λ (awaited : List Expected) (d : Draft). Naming d) (λ (d : Draft). HasNames d.def) (λ (awaited : List Expected) (d : Draft) (s : Naming d). s.named)
    (λ (one : Expected) (awaited : List Expected) (d : Draft) (at : ℕ) (symbol : Symbol) (turn : Turn Expected Draft) (word : WordSymbol symbol) (s : Naming d) (m : step d one at symbol ≡ Ok turn).
    kept_turn (step d one at symbol) turn (step_keeps d s one at symbol word) m)
    ss draft w at_first e

pub text_has_names : (text : List ℕ) (ts : List Token) (draft : Draft) → tokens_of text ≡ Ok ts → read_symbols (symbols text ts) ≡ Ok draft → HasNames draft.def
text_has_names text ts draft t e = symbols_have_names (symbols text ts) draft (text_words text ts t) e
