-- What each turn of reading keeps.
use Rattle.std.proofs.Common.{◌≡◌, ◌⊎◌, inl, inr, ℕ, ◌+◌, ◌<◌, ◌≤◌, nat_lt, Bool, true, false, ◌||◌, if◌then◌else◌, List, [], ◌∷◌, ◌++◌, length, refl, arith, length-append, Option, Some, None, Ok, Err, ℤ, pos}
use Rattle.std.specs.Prelude.{is_some, codes, option_map}
use Rattle.std.specs.Str.{bytes_eq}
use Rattle.std.specs.Ordering.{int_eq}
use Rattle.std.proofs.lemmas.Bool.{ltb-false}
use Rattle.std.proofs.lemmas.List.Elements.{All-weaker, All-push, All-nil}
use Rattle.sk_base.specs.Names.{place_of_name, with_name}
use Rattle.sk_base.specs.declared.flow.FlowSort.{FlowSort}
use Rattle.sk_lex.specs.Symbols.{Symbol, word_of, number_of, is_open, is_close, is_comma, is_colon, is_arrow, is_left_brace, is_right_brace}
use Rattle.sk_def.specs.Fits.{ArgumentFits, ConstructorFits, HookFits, RuleFits}
use Rattle.sk_def.specs.Filters.{filter_named}
use Rattle.sk_def.specs.declared.def.Con.{Con}
use Rattle.sk_def.specs.declared.def.Hook.{Hook}
use Rattle.sk_def.specs.declared.def.Rule.{Rule}
use Rattle.sk_def.specs.declared.ids.SortId.{SortId}
use Rattle.sk_def.specs.declared.ids.HookId.{HookId}
use Rattle.sk_def.specs.declared.ids.ConId.{ConId}
use Rattle.sk_def.specs.declared.ids.Var.{Var}
use Rattle.sk_def.specs.declared.sorts.ArgSort.{ArgSort}
use Rattle.sk_def.specs.declared.sorts.ArgSort.TheVariants as arg
use Rattle.sk_def.specs.declared.filter.Filter.{Filter}
use Rattle.sk_def.specs.declared.bone.Bone.TheVariants.{Either}
use Rattle.sk_def.specs.declared.bone.Target.{Target}
use Rattle.sk_def.specs.declared.bone.Target.TheVariants.{Own, Sub}
use Rattle.sk_deftext.specs.Met.{Met, met, asked, one_more}
use Rattle.sk_deftext.specs.Words.{keyword_of, keyword_in, plain_word, flow_sort_of, is_reserved}
use Rattle.sk_deftext.specs.Bodies as spec
use Rattle.sk_def.specs.Named.{place_of_con, place_of_hook}
use Rattle.sk_deftext.specs.Bodies.{rule_hook, rule_con, variable, opening_of, bone, target, closing_brace, or_first, or_more, hook_named, bone_of}
use Rattle.sk_deftext.specs.Reading as read
use Rattle.sk_deftext.specs.Reading.{skel, version, item, sort_name, con_name, hook_name, sort_used, argument, input, output, entry, closed, first, more, step}
use Rattle.sk_deftext.specs.Meets.{held, count_of}
use Rattle.sk_deftext.specs.declared.draft.Draft.{Draft}
use Rattle.sk_deftext.specs.declared.draft.OpenBone.{OpenBone}
use Rattle.sk_deftext.specs.declared.draft.BoneHead.{BoneHead}
use Rattle.sk_deftext.specs.declared.draft.BoneHead.TheVariants as head
use Rattle.sk_deftext.specs.declared.expected.Expected.{Expected}
use Rattle.sk_deftext.specs.declared.expected.Expected.TheVariants as expected
use Rattle.sk_deftext.specs.declared.expected.Listed.{Listed}
use Rattle.sk_deftext.specs.declared.expected.Listed.TheVariants as listed
use Rattle.sk_deftext.specs.declared.expected.Body.{Body}
use Rattle.sk_deftext.specs.declared.expected.Body.TheVariants as body_of
use Rattle.sk_deftext.specs.declared.fault.DefError.{DefError}
use Rattle.sk_deftext.specs.declared.fault.DefError.TheVariants.{Unexpected, Unknown, Duplicate, TooMany}
use Rattle.sk_deftext.specs.declared.fault.Which.TheVariants as which
use Rattle.sk_deftext.specs.declared.bone.Opening.{Opening}
use Rattle.sk_deftext.specs.declared.bone.Opening.TheVariants as opening
use Rattle.sk_deftext.specs.declared.word.Keyword.{Keyword}
use Rattle.sk_deftext.specs.declared.word.Keyword.TheVariants as keyword
use Rattle.sk_deftext.proofs.Standing.{Standing, Named, Heads, RuleHeads, HeadFits, Variables, Bodies}
use Rattle.sk_def.specs.Layout.{no_bone}
use Rattle.sk_deftext.proofs.Bones.{bones_wider}
use Rattle.sk_deftext.proofs.Moves as moves
use Rattle.sk_deftext.proofs.Moves.{fewer, position_below, NamesGrow, names_grow}

abbrev pub KeptBy : Met → Type 0
KeptBy (Ok turn) = Standing turn.state
KeptBy (Err error) = Unit {0}

-- a turn leaves what holds of the draft. A record, so that lemmas find the turn
pub record Kept (turn : Met) : Type 0 where
  pub is : KeptBy turn

bad : (error : DefError) → Kept (Err error)
bad error = record { is = tt }

kept : (draft : Draft) (next : List Expected) → Standing draft → Kept (met draft next)
kept draft next s = record { is = s }

either_way : (b : Bool) {x y : Met} → (b ≡ true → Kept x) → (b ≡ false → Kept y) → Kept (if b then x else y)
either_way true h k = h refl
either_way false h k = k refl

module _ (draft : Draft) (s : Standing draft) where
  asked_keeps : (b : Bool) → Kept (asked draft b)
  asked_keeps b = either_way b (λ _. kept draft [] s) (λ _. bad Unexpected)

  at_word : (at : ℕ) → Standing (record draft { begun = at })
  at_word at = record { definition = s.definition; named = s.named; heads = s.heads; rule_heads = s.rule_heads; variables = s.variables; bodies = s.bodies; counted = s.counted; placed = s.placed }

  at_closing : (at : ℕ) → Standing (record draft { closing = at })
  at_closing at = record { definition = s.definition; named = s.named; heads = s.heads; rule_heads = s.rule_heads; variables = s.variables; bodies = s.bodies; counted = s.counted; placed = s.placed }

  skel_keeps : (word : Option (List ℕ)) → Kept (skel draft word)
  unfolding skel
  skel_keeps None = bad Unexpected
  skel_keeps (Some word) = asked_keeps (bytes_eq word (codes "skel"))

  version_keeps : (value : Option ℤ) → Kept (version draft value)
  unfolding version
  version_keeps None = bad Unexpected
  version_keeps (Some value) = asked_keeps (int_eq value (pos 1))

  item_keeps : (at : ℕ) (key : Option Keyword) → Kept (item draft at key)
  unfolding item
  item_keeps at None = bad Unexpected
  item_keeps at (Some keyword.Sort) = kept draft _ s
  item_keeps at (Some keyword.Con) = kept draft _ s
  item_keeps at (Some keyword.Hook) = kept _ _ (at_word at)
  item_keeps at (Some keyword.Rule) = kept _ _ (at_word at)
  item_keeps at (Some other) = bad Unexpected

  -- one sort more
  sorts_grow : (word : List ℕ) → length draft.def.sorts < 16 → Standing (record draft { def = record draft.def { sorts = draft.def.sorts ++ word ∷ [] } })
  sorts_grow word few =
      let more : length draft.def.sorts ≤ length (draft.def.sorts ++ word ∷ []) = omega (arith, moves.one_more draft.def.sorts word) in
      let now = record draft.def { sorts = draft.def.sorts ++ word ∷ [] } in
      record {
        definition = record {
          few_sorts = omega (arith, moves.one_more draft.def.sorts word, few);
          few_constructors = s.definition.few_constructors;
          few_hooks = s.definition.few_hooks;
          constructors_fit = All-weaker (ConstructorFits (length draft.def.sorts)) (ConstructorFits (length (draft.def.sorts ++ word ∷ []))) (moves.con_wider _ _ more) draft.def.cons s.definition.constructors_fit;
          hooks_fit = All-weaker (HookFits (length draft.def.sorts)) (HookFits (length (draft.def.sorts ++ word ∷ []))) (moves.hook_wider _ _ more) draft.def.hooks s.definition.hooks_fit;
          rules_fit = All-weaker (RuleFits draft.def) (RuleFits now) (moves.rule_wider draft.def now (omega arith) (omega arith)) draft.def.rules s.definition.rules_fit;
        };
        named = s.named;
        heads = moves.heads_wider _ _ draft.sort draft.args draft.inputs draft.outputs more s.heads;
        rule_heads = s.rule_heads;
        variables = s.variables;
        bodies = s.bodies;
        counted = s.counted;
        placed = s.placed;
      }

  sort_name_keeps : (word : Option (List ℕ)) → Kept (sort_name draft word)
  unfolding sort_name
  sort_name_keeps None = bad Unexpected
  sort_name_keeps (Some word) =
      either_way (nat_lt (length draft.def.sorts) 16)
      (λ few. either_way (is_reserved word || read.has_name draft.def.sorts word) (λ _. bad Duplicate) (λ _. kept _ [] (sorts_grow word (fewer _ _ few))))
      (λ _. bad (TooMany which.Sorts))

  with_names : (con_word hook_word : Option (List ℕ)) → Named (length draft.def.cons) (length draft.def.hooks) con_word hook_word → Standing (record draft { con_name = con_word; hook_name = hook_word })
  with_names con_word hook_word named = record {
    definition = s.definition;
    named = named;
    heads = s.heads;
    rule_heads = s.rule_heads;
    variables = s.variables;
    bodies = s.bodies;
    counted = s.counted;
    placed = s.placed;
  }

  con_name_keeps : (word : Option (List ℕ)) → Kept (con_name draft word)
  unfolding con_name
  con_name_keeps None = bad Unexpected
  con_name_keeps (Some word) =
      either_way (nat_lt (length draft.def.cons) 128)
      (λ few. either_way (is_some (place_of_con draft.def.cons word)) (λ _. bad Duplicate)
      (λ _. kept _ [] (with_names (Some word) draft.hook_name (record { con_room = fewer _ _ few; hook_room = s.named.hook_room }))))
      (λ _. bad (TooMany which.Constructors))

  hook_name_keeps : (word : Option (List ℕ)) → Kept (hook_name draft word)
  unfolding hook_name
  hook_name_keeps None = bad Unexpected
  hook_name_keeps (Some word) =
      either_way (nat_lt (length draft.def.hooks) 8)
      (λ few. either_way (is_some (filter_named word) || is_some (place_of_hook draft.def.hooks word)) (λ _. bad Duplicate)
      (λ _. kept _ [] (with_names draft.con_name (Some word) (record { con_room = s.named.con_room; hook_room = fewer _ _ few }))))
      (λ _. bad (TooMany which.Hooks))

  -- the draft with other parts of a constructor or a hook
  with_heads : (sort : Option SortId) (args : List ArgSort) (inputs outputs : List FlowSort) → Heads (length draft.def.sorts) sort args inputs outputs →
      Standing (record draft { sort = sort; args = args; inputs = inputs; outputs = outputs })
  with_heads sort args inputs outputs heads = record {
    definition = s.definition;
    named = s.named;
    heads = heads;
    rule_heads = s.rule_heads;
    variables = s.variables;
    bodies = s.bodies;
    counted = s.counted;
    placed = s.placed;
  }

  sort_used_keeps : (word : Option (List ℕ)) → Kept (sort_used draft word)
  unfolding sort_used
  sort_used_keeps None = bad Unexpected
  sort_used_keeps (Some word) = by (place_of_name draft.def.sorts word) refl where
    by : (place : Option ℕ) → place_of_name draft.def.sorts word ≡ place → Kept (read.with_sort draft (option_map (λ place. record { 0 = place }) place))
    by None e = bad Unknown
    by (Some place) e =
        kept _ [] (with_heads (Some (record { 0 = place })) draft.args draft.inputs draft.outputs (record {
          sort_declared = position_below _ draft.def.sorts place e;
          few_args = s.heads.few_args;
          args_declared = s.heads.args_declared;
          few_inputs = s.heads.few_inputs;
          few_outputs = s.heads.few_outputs;
        }))

  -- a sort that an argument names is declared
  argument_fits : (word : List ℕ) (sort : ArgSort) → read.arg_sort_named draft.def.sorts word ≡ Some sort → ArgumentFits (length draft.def.sorts) sort
  argument_fits word arg.Number e = tt
  argument_fits word arg.Name e = tt
  argument_fits word (arg.Term id) e = by (bytes_eq word (codes "number")) (bytes_eq word (codes "name")) (place_of_name draft.def.sorts word) refl e where
    by : (a b : Bool) (place : Option ℕ) → place_of_name draft.def.sorts word ≡ place →
        (if a then Some arg.Number else (if b then Some arg.Name else option_map arg.Term (option_map (λ place. record { 0 = place }) place))) ≡ Some (arg.Term id) → id.0 < length draft.def.sorts
    by true b place p q = absurd (cc q)
    by false true place p q = absurd (cc q)
    by false false None p q = absurd (cc q)
    by false false (Some place) p q =
        let found : place < length draft.def.sorts = position_below _ draft.def.sorts place p in
        let same : place ≡ id.0 = cc q in
        omega (arith, found, same)

  argument_keeps : (word : Option (List ℕ)) → Kept (argument draft word)
  unfolding argument
  argument_keeps None = bad Unexpected
  argument_keeps (Some word) = by (read.arg_sort_named draft.def.sorts word) refl where
    by : (o : Option ArgSort) → read.arg_sort_named draft.def.sorts word ≡ o →
        Kept (one_more (length draft.args) 8 (TooMany which.Arguments) o (λ sort. met (record draft { args = draft.args ++ sort ∷ [] }) (expected.More listed.Arguments ∷ [])))
    by None e = either_way (nat_lt (length draft.args) 8) (λ _. bad Unknown) (λ _. bad (TooMany which.Arguments))
    by (Some sort) e =
        either_way (nat_lt (length draft.args) 8)
        (λ few. kept _ _ (with_heads draft.sort (draft.args ++ sort ∷ []) draft.inputs draft.outputs (record {
          sort_declared = s.heads.sort_declared;
          few_args = omega (arith, moves.one_more draft.args sort, fewer _ _ few);
          args_declared = All-push (ArgumentFits (length draft.def.sorts)) draft.args sort s.heads.args_declared (argument_fits word sort e);
          few_inputs = s.heads.few_inputs;
          few_outputs = s.heads.few_outputs;
        })))
        (λ _. bad (TooMany which.Arguments))

  input_keeps : (word : Option (List ℕ)) → Kept (input draft word)
  unfolding input
  input_keeps None = bad Unexpected
  input_keeps (Some word) = by (flow_sort_of word) where
    by : (o : Option FlowSort) → Kept (one_more (length draft.inputs) 4 (TooMany which.Flows) o (λ sort. met (record draft { inputs = draft.inputs ++ sort ∷ [] }) (expected.More listed.Inputs ∷ [])))
    by None = either_way (nat_lt (length draft.inputs) 4) (λ _. bad Unknown) (λ _. bad (TooMany which.Flows))
    by (Some sort) =
        either_way (nat_lt (length draft.inputs) 4)
        (λ few. kept _ _ (with_heads draft.sort draft.args (draft.inputs ++ sort ∷ []) draft.outputs (record {
          sort_declared = s.heads.sort_declared;
          few_args = s.heads.few_args;
          args_declared = s.heads.args_declared;
          few_inputs = omega (arith, moves.one_more draft.inputs sort, fewer _ _ few);
          few_outputs = s.heads.few_outputs;
        })))
        (λ _. bad (TooMany which.Flows))

  output_keeps : (word : Option (List ℕ)) → Kept (output draft word)
  unfolding output
  output_keeps None = bad Unexpected
  output_keeps (Some word) = by (flow_sort_of word) where
    by : (o : Option FlowSort) → Kept (one_more (length draft.outputs) 4 (TooMany which.Flows) o (λ sort. met (record draft { outputs = draft.outputs ++ sort ∷ [] }) (expected.More listed.Outputs ∷ [])))
    by None = either_way (nat_lt (length draft.outputs) 4) (λ _. bad Unknown) (λ _. bad (TooMany which.Flows))
    by (Some sort) =
        either_way (nat_lt (length draft.outputs) 4)
        (λ few. kept _ _ (with_heads draft.sort draft.args draft.inputs (draft.outputs ++ sort ∷ []) (record {
          sort_declared = s.heads.sort_declared;
          few_args = s.heads.few_args;
          args_declared = s.heads.args_declared;
          few_inputs = s.heads.few_inputs;
          few_outputs = omega (arith, moves.one_more draft.outputs sort, fewer _ _ few);
        })))
        (λ _. bad (TooMany which.Flows))

  -- the ends of a constructor and of a hook
  con_ends : (name : List ℕ) (sort : SortId) → length draft.def.cons < 128 → sort.0 < length draft.def.sorts →
      Standing (record draft { def = record draft.def { cons = draft.def.cons ++ record { name = name; sort = sort; args = draft.args } ∷ [] }; con_name = None; args = [] })
  con_ends name sort few declared =
      let con : Con = record { name = name; sort = sort; args = draft.args } in
      let now = record draft.def { cons = draft.def.cons ++ con ∷ [] } in
      let more : length draft.def.cons ≤ length (draft.def.cons ++ con ∷ []) = omega (arith, moves.one_more draft.def.cons con) in
      record {
        definition = record {
          few_sorts = s.definition.few_sorts;
          few_constructors = omega (arith, moves.one_more draft.def.cons con, few);
          few_hooks = s.definition.few_hooks;
          constructors_fit = All-push (ConstructorFits (length draft.def.sorts)) draft.def.cons con s.definition.constructors_fit
              (record { sort_declared = declared; few_arguments = s.heads.few_args; arguments_declared = s.heads.args_declared });
          hooks_fit = s.definition.hooks_fit;
          rules_fit = All-weaker (RuleFits draft.def) (RuleFits now) (moves.rule_wider draft.def now (omega arith) more) draft.def.rules s.definition.rules_fit;
        };
        named = record { con_room = tt; hook_room = s.named.hook_room };
        heads = record { sort_declared = s.heads.sort_declared; few_args = omega arith; args_declared = All-nil (ArgumentFits (length draft.def.sorts)); few_inputs = s.heads.few_inputs; few_outputs = s.heads.few_outputs };
        rule_heads = moves.rule_heads_wider _ _ _ _ draft.hook draft.con (omega arith) more s.rule_heads;
        variables = s.variables;
        bodies = s.bodies;
        counted = s.counted;
        placed = s.placed;
      }

  hook_ends : (name : List ℕ) (sort : SortId) → length draft.def.hooks < 8 → sort.0 < length draft.def.sorts →
      Standing (record draft {
        def = record draft.def { hooks = draft.def.hooks ++ record { name = name; inputs = draft.inputs; sort = sort; outputs = draft.outputs } ∷ [] };
        hooks = draft.hooks ++ draft.begun ∷ [];
        hook_name = None;
        inputs = [];
        outputs = [];
      })
  hook_ends name sort few declared =
      let hook : Hook = record { name = name; inputs = draft.inputs; sort = sort; outputs = draft.outputs } in
      let now = record draft.def { hooks = draft.def.hooks ++ hook ∷ [] } in
      let more : length draft.def.hooks ≤ length (draft.def.hooks ++ hook ∷ []) = omega (arith, moves.one_more draft.def.hooks hook) in
      record {
        definition = record {
          few_sorts = s.definition.few_sorts;
          few_constructors = s.definition.few_constructors;
          few_hooks = omega (arith, moves.one_more draft.def.hooks hook, few);
          constructors_fit = s.definition.constructors_fit;
          hooks_fit = All-push (HookFits (length draft.def.sorts)) draft.def.hooks hook s.definition.hooks_fit
              (record { sort_declared = declared; few_inputs = s.heads.few_inputs; few_outputs = s.heads.few_outputs });
          rules_fit = All-weaker (RuleFits draft.def) (RuleFits now) (moves.rule_wider draft.def now more (omega arith)) draft.def.rules s.definition.rules_fit;
        };
        named = record { con_room = s.named.con_room; hook_room = tt };
        heads = record { sort_declared = s.heads.sort_declared; few_args = s.heads.few_args; args_declared = s.heads.args_declared; few_inputs = omega arith; few_outputs = omega arith };
        rule_heads = moves.rule_heads_wider _ _ _ _ draft.hook draft.con more (omega arith) s.rule_heads;
        variables = moves.variables_wider _ _ _ _ draft.terms draft.rule_inputs draft.bone_args draft.listed draft.target draft.opened more (omega arith) s.variables.few s.variables;
        bodies = moves.bodies_wider _ _ _ _ draft.bones draft.unclosed more (omega arith) s.bodies;
        counted = s.counted;
        placed = record {
          hooks_placed = omega (arith, moves.one_more draft.def.hooks hook, moves.one_more draft.hooks draft.begun, s.placed.hooks_placed);
          rules_placed = s.placed.rules_placed;
        };
      }

  con_ends_keeps : (name : Option (List ℕ)) (sort : Option SortId) → draft.con_name ≡ name → draft.sort ≡ sort → Kept (read.finished_con draft name sort)
  con_ends_keeps None sort e f = bad Unexpected
  con_ends_keeps (Some name) None e f = bad Unexpected
  con_ends_keeps (Some name) (Some sort) e f =
      let room : length draft.def.cons < 128 = rw e at s.named.con_room in
      let declared : sort.0 < length draft.def.sorts = rw f at s.heads.sort_declared in
      kept _ [] (con_ends name sort room declared)

  hook_ends_keeps : (name : Option (List ℕ)) (sort : Option SortId) → draft.hook_name ≡ name → draft.sort ≡ sort → Kept (read.finished_hook draft name sort)
  hook_ends_keeps None sort e f = bad Unexpected
  hook_ends_keeps (Some name) None e f = bad Unexpected
  hook_ends_keeps (Some name) (Some sort) e f =
      let room : length draft.def.hooks < 8 = rw e at s.named.hook_room in
      let declared : sort.0 < length draft.def.sorts = rw f at s.heads.sort_declared in
      kept _ [] (hook_ends name sort room declared)

  -- the hook and the constructor of a rule
  with_rule : (hook : Option HookId) (con : Option ConId) → RuleHeads (length draft.def.hooks) (length draft.def.cons) hook con → Standing (record draft { hook = hook; con = con })
  with_rule hook con heads = record {
    definition = s.definition;
    named = s.named;
    heads = s.heads;
    rule_heads = heads;
    variables = s.variables;
    bodies = s.bodies;
    counted = s.counted;
    placed = s.placed;
  }

  rule_hook_keeps : (word : Option (List ℕ)) → Kept (rule_hook draft word)
  unfolding rule_hook
  rule_hook_keeps None = bad Unexpected
  rule_hook_keeps (Some word) = by (place_of_hook draft.def.hooks word) refl where
    by : (place : Option ℕ) → place_of_hook draft.def.hooks word ≡ place → Kept (spec.with_hook draft (option_map (λ place. record { 0 = place }) place))
    by None e = bad Unknown
    by (Some place) e = kept _ [] (with_rule (Some (record { 0 = place })) draft.con (record { hook_declared = position_below _ draft.def.hooks place e; con_declared = s.rule_heads.con_declared }))

  rule_con_keeps : (word : Option (List ℕ)) → Kept (rule_con draft word)
  unfolding rule_con
  rule_con_keeps None = bad Unexpected
  rule_con_keeps (Some word) = by (place_of_con draft.def.cons word) refl where
    by : (place : Option ℕ) → place_of_con draft.def.cons word ≡ place → Kept (spec.with_con draft (option_map (λ place. record { 0 = place }) place))
    by None e = bad Unknown
    by (Some place) e = kept _ [] (with_rule draft.hook (Some (record { 0 = place })) (record { hook_declared = s.rule_heads.hook_declared; con_declared = position_below _ draft.def.cons place e }))

  -- other variables
  with_variables : (vars : List (List ℕ)) (terms inputs args list : List Var) (aim : Target) → length draft.vars ≤ length vars →
      Variables (length draft.def.hooks) (length vars) terms inputs args list aim draft.opened →
      Standing (record draft { vars = vars; terms = terms; rule_inputs = inputs; bone_args = args; listed = list; target = aim })
  with_variables vars terms inputs args list aim more variables = record {
    definition = s.definition;
    named = s.named;
    heads = s.heads;
    rule_heads = s.rule_heads;
    variables = variables;
    bodies = moves.bodies_wider _ _ _ _ draft.bones draft.unclosed (omega arith) more s.bodies;
    counted = s.counted;
    placed = s.placed;
  }

  grown_variables : (vars : List (List ℕ)) → length draft.vars ≤ length vars → length vars ≤ 64 →
      Variables (length draft.def.hooks) (length vars) draft.terms draft.rule_inputs draft.bone_args draft.listed draft.target draft.opened
  grown_variables vars more few = moves.variables_wider _ _ _ _ draft.terms draft.rule_inputs draft.bone_args draft.listed draft.target draft.opened (omega arith) more few s.variables

  variable_keeps : (list : Listed) (word : Option (List ℕ)) → Kept (variable draft list word)
  unfolding variable
  variable_keeps list None = bad Unexpected
  variable_keeps list (Some word) =
      either_way (nat_lt (length draft.listed) 8) (λ _. by (with_name draft.vars word) (names_grow draft.vars word s.variables.few)) (λ _. bad (TooMany which.Arguments)) where
        by : (o : Option (ℕ × List (List ℕ))) → NamesGrow draft.vars o → Kept (spec.with_variable draft list o)
        by None h = bad (TooMany which.Variables)
        by (Some (place, vars)) h =
            let now = grown_variables vars h.1 h.2 in
            kept _ (expected.More list ∷ []) (with_variables vars draft.terms draft.rule_inputs draft.bone_args (draft.listed ++ record { 0 = place } ∷ []) draft.target h.1 (record {
              few = now.few;
              terms_below = now.terms_below;
              inputs_below = now.inputs_below;
              args_below = now.args_below;
              listed_below = All-push (λ (v : Var). v.0 < length vars) draft.listed (record { 0 = place }) now.listed_below h.0;
              target_below = now.target_below;
              opened_fits = now.opened_fits;
            }))

  target_keeps : (word : Option (List ℕ)) → Kept (target draft word)
  unfolding target
  target_keeps None = bad Unexpected
  target_keeps (Some word) = at_key (keyword_of word) where
    by : (o : Option (ℕ × List (List ℕ))) → NamesGrow draft.vars o → Kept (spec.with_target draft o)
    by None h = bad (TooMany which.Variables)
    by (Some (place, vars)) h =
        let now = grown_variables vars h.1 h.2 in
        kept _ [] (with_variables vars draft.terms draft.rule_inputs draft.bone_args draft.listed (Sub (record { 0 = place })) h.1 (record {
          few = now.few;
          terms_below = now.terms_below;
          inputs_below = now.inputs_below;
          args_below = now.args_below;
          listed_below = now.listed_below;
          target_below = h.0;
          opened_fits = now.opened_fits;
        }))

    at_key : (key : Option Keyword) → Kept (spec.target_word draft word key)
    at_key None = by (with_name draft.vars word) (names_grow draft.vars word s.variables.few)
    at_key (Some keyword.Own) = kept draft [] s
    at_key (Some other) = bad Unexpected

  -- a bone begins
  bone_begins : (at : ℕ) (first : BoneHead) → HeadFits (length draft.def.hooks) first → length draft.marks < 64 → Standing (record draft { opened = Some first; marks = draft.marks ++ at ∷ []; target = Own })
  bone_begins at first fits few =
      record {
        definition = s.definition;
        named = s.named;
        heads = s.heads;
        rule_heads = s.rule_heads;
        variables = record {
          few = s.variables.few;
          terms_below = s.variables.terms_below;
          inputs_below = s.variables.inputs_below;
          args_below = s.variables.args_below;
          listed_below = s.variables.listed_below;
          target_below = tt;
          opened_fits = fits;
        };
        bodies = s.bodies;
        counted = record {
          few = omega (arith, moves.one_more draft.marks at, few);
          counted = omega (arith, moves.one_more draft.marks at, s.counted.counted);
        };
        placed = s.placed;
      }

  branches_begin : (at : ℕ) → length draft.unclosed < 8 → length draft.marks < 64 →
      Standing (record draft { unclosed = record { before = draft.bones; counts = []; inside = [] } ∷ draft.unclosed; bones = []; marks = draft.marks ++ at ∷ [] })
  branches_begin at nesting few = record {
    definition = s.definition;
    named = s.named;
    heads = s.heads;
    rule_heads = s.rule_heads;
    variables = s.variables;
    bodies = moves.bodies_branches _ _ draft.bones draft.unclosed nesting s.bodies;
    counted = record {
      few = omega (arith, moves.one_more draft.marks at, few);
      counted = omega (arith, moves.one_more draft.marks at, s.counted.counted);
    };
    placed = s.placed;
  }

  begun_keeps : (body : Body) (at : ℕ) (o : Opening) → (o ≡ opening.Keyword ⊎ length draft.marks < 64) → ((id : HookId) → o ≡ opening.Hook id → id.0 < length draft.def.hooks) → Kept (spec.begun draft body at o)
  begun_keeps body at opening.Keyword few hook = bad Unexpected
  begun_keeps body at opening.Unknown few hook = bad Unknown
  begun_keeps body at (opening.Filter filter) (inl e) hook = absurd (cc e)
  begun_keeps body at (opening.Filter filter) (inr few) hook = kept _ _ (bone_begins at (head.Filter filter) tt few)
  begun_keeps body at (opening.Hook id) (inl e) hook = absurd (cc e)
  begun_keeps body at (opening.Hook id) (inr few) hook = kept _ _ (bone_begins at (head.Hook id) (hook id refl) few)
  begun_keeps body at opening.Branches (inl e) hook = absurd (cc e)
  begun_keeps body at opening.Branches (inr few) hook = either_way (nat_lt (length draft.unclosed) 8) (λ nesting. kept _ _ (branches_begin at (fewer _ _ nesting) few)) (λ _. bad (TooMany which.Nesting))

  -- the hook that a bone begins with is declared
  hook_opens : (word : List ℕ) (id : HookId) → opening_of draft.def.hooks word ≡ opening.Hook id → id.0 < length draft.def.hooks
  unfolding opening_of
  hook_opens word id e = by (filter_named word) (keyword_of word) (place_of_hook draft.def.hooks word) refl e where
    by : (filter : Option Filter) (key : Option Keyword) (place : Option ℕ) → place_of_hook draft.def.hooks word ≡ place →
        spec.opened_by filter key (option_map (λ place. record { 0 = place }) place) ≡ opening.Hook id → id.0 < length draft.def.hooks
    by (Some filter) key place p q = absurd (cc q)
    by None (Some keyword.Either) place p q = absurd (cc q)
    by None (Some other) place p q = absurd (cc q)
    by None None None p q = absurd (cc q)
    by None None (Some place) p q =
        let found : place < length draft.def.hooks = position_below _ draft.def.hooks place p in
        let same : place ≡ id.0 = cc q in
        omega (arith, found, same)

  may_begin_means : (o : Opening) (b : Bool) → spec.may_begin o b ≡ true → (o ≡ opening.Keyword) ⊎ (b ≡ true)
  may_begin_means opening.Keyword b e = inl refl
  may_begin_means opening.Unknown b e = inr e
  may_begin_means (opening.Filter filter) b e = inr e
  may_begin_means (opening.Hook id) b e = inr e
  may_begin_means opening.Branches b e = inr e

  room_for : (o : Opening) → (o ≡ opening.Keyword) ⊎ (nat_lt (length draft.marks) 64 ≡ true) → (o ≡ opening.Keyword ⊎ length draft.marks < 64)
  room_for o (inl e) = inl e
  room_for o (inr e) = inr (fewer _ _ e)

  bone_keeps : (body : Body) (at : ℕ) (word : Option (List ℕ)) → Kept (bone draft body at word)
  unfolding bone
  bone_keeps body at None = bad Unexpected
  bone_keeps body at (Some word) =
      either_way (spec.may_begin (opening_of draft.def.hooks word) (nat_lt (length draft.marks) 64))
      (λ may. begun_keeps body at (opening_of draft.def.hooks word) (room_for _ (may_begin_means _ _ may)) (λ id e. hook_opens word id e))
      (λ _. bad (TooMany which.Bones))

  -- branches
  branch_begun_keeps : (unclosed : List OpenBone) → Kept (spec.branch_begun draft unclosed)
  branch_begun_keeps [] = bad Unexpected
  branch_begun_keeps (one ∷ outer) = either_way (nat_lt (length one.counts) 8) (λ _. kept draft [] s) (λ _. bad (TooMany which.Branches))

  branch_ended_keeps : (unclosed : List OpenBone) → draft.unclosed ≡ unclosed → Kept (spec.branch_ended draft unclosed)
  branch_ended_keeps [] e = bad Unexpected
  branch_ended_keeps (one ∷ outer) e =
      let bodies : Bodies (length draft.def.hooks) (length draft.vars) draft.bones (one ∷ outer) = rw e at s.bodies in
      let counted : held (one ∷ outer) + length draft.bones + count_of draft.opened ≤ length draft.marks = rw e at s.counted.counted in
      kept _ [] (record {
        definition = s.definition;
        named = s.named;
        heads = s.heads;
        rule_heads = s.rule_heads;
        variables = s.variables;
        bodies = moves.bodies_branch _ _ draft.bones one outer bodies;
        counted = record { few = s.counted.few; counted = omega (arith, counted, length-append one.inside draft.bones) };
        placed = s.placed;
      })

  closing_brace_keeps : (body : Body) → Kept (closing_brace draft body)
  unfolding closing_brace
  closing_brace_keeps body_of.Rule = kept draft [] s
  closing_brace_keeps body_of.Branch = branch_ended_keeps draft.unclosed refl

  or_first_keeps : (key : Option Keyword) → Kept (or_first draft key)
  unfolding or_first
  or_first_keeps None = bad Unexpected
  or_first_keeps (Some keyword.Or) = kept draft [] s
  or_first_keeps (Some other) = bad Unexpected

  or_more_keeps : (key : Option Keyword) → Kept (or_more draft key)
  unfolding or_more
  or_more_keeps None = bad Unexpected
  or_more_keeps (Some keyword.Or) = kept draft _ s
  or_more_keeps (Some keyword.With) = kept draft _ s
  or_more_keeps (Some other) = bad Unexpected

  -- the ends of bones
  bone_ends : (opened : Option BoneHead) → draft.opened ≡ opened → Kept (spec.finished_bone draft opened)
  bone_ends None e = bad Unexpected
  bone_ends (Some first) e =
      let none = All-nil (λ (v : Var). v.0 < length draft.vars) in
      let fits : HeadFits (length draft.def.hooks) first = rw e at s.variables.opened_fits in
      let counted : held draft.unclosed + length draft.bones + count_of (Some first) ≤ length draft.marks = rw e at s.counted.counted in
      kept _ [] (record {
        definition = s.definition;
        named = s.named;
        heads = s.heads;
        rule_heads = s.rule_heads;
        variables = record {
          few = s.variables.few;
          terms_below = s.variables.terms_below;
          inputs_below = s.variables.inputs_below;
          args_below = none;
          listed_below = none;
          target_below = s.variables.target_below;
          opened_fits = tt;
        };
        bodies = moves.bodies_one _ _ draft.bones draft.unclosed first draft.bone_args draft.target draft.listed s.bodies (record {
          few = s.variables.few;
          terms_below = none;
          inputs_below = none;
          args_below = s.variables.args_below;
          listed_below = s.variables.listed_below;
          target_below = s.variables.target_below;
          opened_fits = fits;
        });
        counted = record { few = s.counted.few; counted = omega (arith, counted, moves.one_more draft.bones (bone_of first draft.bone_args draft.target draft.listed)) };
        placed = s.placed;
      })

  branches_end : (unclosed : List OpenBone) → draft.unclosed ≡ unclosed → Kept (spec.finished_branches draft unclosed)
  branches_end [] e = bad Unexpected
  branches_end (one ∷ outer) e =
      let bodies : Bodies (length draft.def.hooks) (length draft.vars) draft.bones (one ∷ outer) = rw e at s.bodies in
      let counted : held (one ∷ outer) + length draft.bones + count_of draft.opened ≤ length draft.marks = rw e at s.counted.counted in
      either_way (nat_lt (length one.counts) 2) (λ _. bad Unexpected)
      (λ two. kept _ [] (record {
        definition = s.definition;
        named = s.named;
        heads = s.heads;
        rule_heads = s.rule_heads;
        variables = record {
          few = s.variables.few;
          terms_below = s.variables.terms_below;
          inputs_below = s.variables.inputs_below;
          args_below = s.variables.args_below;
          listed_below = All-nil (λ (v : Var). v.0 < length draft.vars);
          target_below = s.variables.target_below;
          opened_fits = s.variables.opened_fits;
        };
        bodies = moves.bodies_ended _ _ draft.bones one outer draft.listed (ltb-false _ _ two) s.variables.listed_below bodies;
        counted = record { few = s.counted.few; counted = omega (arith, counted, length-append one.before (Either one.counts draft.listed ∷ one.inside)) };
        placed = s.placed;
      }))

  -- the end of a rule
  rule_ends : (hook : HookId) (con : ConId) → hook.0 < length draft.def.hooks → con.0 < length draft.def.cons → Kept (spec.finished_rule draft (Some hook) (Some con))
  rule_ends hook con hook_declared con_declared =
      let rule : Rule = record { hook = hook; con = con; vars = draft.vars; terms = draft.terms; inputs = draft.rule_inputs; bones = draft.bones; outputs = draft.listed } in
      let now = record draft.def { rules = draft.def.rules ++ rule ∷ [] } in
      let last = draft.begun ∷ (draft.marks ++ draft.closing ∷ []) in
      let few_bones : length draft.bones ≤ length draft.marks = omega (arith, s.counted.counted) in
      kept _ [] (record {
        definition = record {
          few_sorts = s.definition.few_sorts;
          few_constructors = s.definition.few_constructors;
          few_hooks = s.definition.few_hooks;
          constructors_fit = s.definition.constructors_fit;
          hooks_fit = s.definition.hooks_fit;
          rules_fit = All-push (RuleFits now) draft.def.rules rule
              (All-weaker (RuleFits draft.def) (RuleFits now) (moves.rule_wider draft.def now (omega arith) (omega arith)) draft.def.rules s.definition.rules_fit)
              (record {
                hook_declared = hook_declared;
                con_declared = con_declared;
                few_variables = s.variables.few;
                terms_below = s.variables.terms_below;
                inputs_below = s.variables.inputs_below;
                outputs_below = s.variables.listed_below;
                few_bones = omega (arith, few_bones, s.counted.few);
                bones_fit = bones_wider (omega arith) (omega arith) 8 (omega arith) s.bodies.bones_fit;
              });
        };
        named = s.named;
        heads = s.heads;
        rule_heads = s.rule_heads;
        variables = record {
          few = omega arith;
          terms_below = All-nil (λ (v : Var). v.0 < 0);
          inputs_below = All-nil (λ (v : Var). v.0 < 0);
          args_below = All-nil (λ (v : Var). v.0 < 0);
          listed_below = All-nil (λ (v : Var). v.0 < 0);
          target_below = tt;
          opened_fits = tt;
        };
        bodies = record { nesting = omega arith; bones_fit = no_bone; unclosed_fit = tt };
        counted = record { few = omega arith; counted = omega arith };
        placed = record {
          hooks_placed = s.placed.hooks_placed;
          rules_placed = moves.placed_more draft.rules draft.def.rules last rule s.placed.rules_placed (omega (arith, few_bones, moves.one_more draft.marks draft.closing));
        };
      })

  rule_ends_keeps : (hook : Option HookId) (con : Option ConId) → draft.hook ≡ hook → draft.con ≡ con → Kept (spec.finished_rule draft hook con)
  rule_ends_keeps None con e f = bad Unexpected
  rule_ends_keeps (Some hook) None e f = bad Unexpected
  rule_ends_keeps (Some hook) (Some con) e f =
      let hook_declared : hook.0 < length draft.def.hooks = rw e at s.rule_heads.hook_declared in
      let con_declared : con.0 < length draft.def.cons = rw f at s.rule_heads.con_declared in
      rule_ends hook con hook_declared con_declared

  -- a list of variables moves to its place
  lists_move : (terms inputs args list : List Var) → Variables (length draft.def.hooks) (length draft.vars) terms inputs args list draft.target draft.opened →
      Standing (record draft { terms = terms; rule_inputs = inputs; bone_args = args; listed = list })
  lists_move terms inputs args list variables = with_variables draft.vars terms inputs args list draft.target (omega arith) variables

  no_variables : Variables (length draft.def.hooks) (length draft.vars) draft.terms draft.rule_inputs draft.bone_args [] draft.target draft.opened
  no_variables = record {
    few = s.variables.few;
    terms_below = s.variables.terms_below;
    inputs_below = s.variables.inputs_below;
    args_below = s.variables.args_below;
    listed_below = All-nil (λ (v : Var). v.0 < length draft.vars);
    target_below = s.variables.target_below;
    opened_fits = s.variables.opened_fits;
  }

  closed_keeps : (list : Listed) → Kept (closed draft list)
  unfolding closed
  closed_keeps listed.Arguments = con_ends_keeps draft.con_name draft.sort refl refl
  closed_keeps listed.Inputs = kept draft [] s
  closed_keeps listed.Outputs = hook_ends_keeps draft.hook_name draft.sort refl refl
  closed_keeps listed.Terms =
      let v = no_variables in
      kept _ [] (lists_move draft.listed draft.rule_inputs draft.bone_args []
      (record { few = v.few; terms_below = s.variables.listed_below; inputs_below = v.inputs_below; args_below = v.args_below; listed_below = v.listed_below; target_below = v.target_below; opened_fits = v.opened_fits }))
  closed_keeps listed.RuleInputs =
      let v = no_variables in
      kept _ [] (lists_move draft.terms draft.listed draft.bone_args []
      (record { few = v.few; terms_below = v.terms_below; inputs_below = s.variables.listed_below; args_below = v.args_below; listed_below = v.listed_below; target_below = v.target_below; opened_fits = v.opened_fits }))
  closed_keeps listed.BoneArgs =
      let v = no_variables in
      kept _ [] (lists_move draft.terms draft.rule_inputs draft.listed []
      (record { few = v.few; terms_below = v.terms_below; inputs_below = v.inputs_below; args_below = s.variables.listed_below; listed_below = v.listed_below; target_below = v.target_below; opened_fits = v.opened_fits }))
  closed_keeps listed.BoneOuts = bone_ends draft.opened refl
  closed_keeps listed.Exports = branches_end draft.unclosed refl
  closed_keeps listed.RuleOutputs = rule_ends_keeps draft.hook draft.con refl refl

  entry_keeps : (list : Listed) (symbol : Symbol) → Kept (entry draft list symbol)
  unfolding entry
  entry_keeps listed.Arguments symbol = argument_keeps (word_of symbol)
  entry_keeps listed.Inputs symbol = input_keeps (word_of symbol)
  entry_keeps listed.Outputs symbol = output_keeps (word_of symbol)
  entry_keeps other symbol = variable_keeps other (plain_word (word_of symbol))

  first_keeps : (list : Listed) (symbol : Symbol) → Kept (first draft list symbol)
  unfolding first
  first_keeps list symbol = either_way (is_close symbol) (λ _. closed_keeps list) (λ _. entry_keeps list symbol)

  more_keeps : (list : Listed) (symbol : Symbol) → Kept (more draft list symbol)
  unfolding more
  more_keeps list symbol =
      either_way (is_close symbol) (λ _. closed_keeps list) (λ _. either_way (is_comma symbol) (λ _. kept draft _ s) (λ _. bad Unexpected))

  -- each turn keeps what holds
  pub step_keeps : (one : Expected) (at : ℕ) (symbol : Symbol) → Kept (step draft one at symbol)
  unfolding step
  step_keeps expected.Skel at symbol = skel_keeps (word_of symbol)
  step_keeps expected.Version at symbol = version_keeps (number_of symbol)
  step_keeps expected.Item at symbol = item_keeps at (keyword_in (word_of symbol))
  step_keeps expected.SortName at symbol = sort_name_keeps (plain_word (word_of symbol))
  step_keeps expected.ConName at symbol = con_name_keeps (plain_word (word_of symbol))
  step_keeps expected.HookName at symbol = hook_name_keeps (plain_word (word_of symbol))
  step_keeps expected.Colon at symbol = asked_keeps (is_colon symbol)
  step_keeps expected.Arrow at symbol = asked_keeps (is_arrow symbol)
  step_keeps expected.Open at symbol = asked_keeps (is_open symbol)
  step_keeps expected.SortUsed at symbol = sort_used_keeps (word_of symbol)
  step_keeps (expected.First list) at symbol = first_keeps list symbol
  step_keeps (expected.More list) at symbol = more_keeps list symbol
  step_keeps (expected.Next list) at symbol = entry_keeps list symbol
  step_keeps expected.RuleHook at symbol = rule_hook_keeps (word_of symbol)
  step_keeps expected.RuleCon at symbol = rule_con_keeps (word_of symbol)
  step_keeps expected.LeftBrace at symbol = asked_keeps (is_left_brace symbol)
  step_keeps (expected.Bones body) at symbol = either_way (is_right_brace symbol) (λ _. closing_brace_keeps body) (λ _. bone_keeps body at (word_of symbol))
  step_keeps expected.BoneTarget at symbol = target_keeps (word_of symbol)
  step_keeps expected.BranchOpen at symbol = either_way (is_left_brace symbol) (λ _. branch_begun_keeps draft.unclosed) (λ _. bad Unexpected)
  step_keeps expected.OrFirst at symbol = or_first_keeps (keyword_in (word_of symbol))
  step_keeps expected.OrMore at symbol = or_more_keeps (keyword_in (word_of symbol))
  step_keeps expected.Closing at symbol = either_way (is_arrow symbol) (λ _. kept _ [] (at_closing at)) (λ _. bad Unexpected)
