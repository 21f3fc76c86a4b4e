-- Each turn of reading keeps the variables in order, and leads from one phase to the next.
use Rattle.std.proofs.Common.{◌≡◌, ℕ, suc, ◌<◌, nat_lt, Bool, true, false, ◌||◌, if◌then◌else◌, List, [], ◌∷◌, ◌++◌, length, refl, sym, ap, subst, ◌∙◌, arith, length-append, Option, Some, None, Ok, Err, ℤ, pos}
use Rattle.std.specs.Prelude.{codes, All, is_some, option_map}
use Rattle.std.specs.Str.{bytes_eq}
use Rattle.std.specs.Ordering.{int_eq}
use Rattle.std.proofs.lemmas.Bool.{ltb-true}
use Rattle.std.proofs.lemmas.List.Elements.{All-nil, All-push, All-append, All-cons, All-head, All-tail}
use Rattle.sk_base.specs.Names.{place_of_name, with_name}
use Rattle.sk_base.specs.declared.flow.FlowSort.{FlowSort}
use Rattle.sk_lex.specs.Symbols.{Symbol, word_of, number_of, is_open, is_close, is_comma, is_colon, is_arrow, is_left_brace, is_right_brace}
use Rattle.sk_def.specs.Filters.{filter_named}
use Rattle.sk_def.specs.Fits.{HasFewBranches}
use Rattle.sk_def.specs.Named.{place_of_con, place_of_hook}
use Rattle.sk_def.specs.declared.ids.SortId.{SortId}
use Rattle.sk_def.specs.declared.ids.HookId.{HookId}
use Rattle.sk_def.specs.declared.ids.ConId.{ConId}
use Rattle.sk_def.specs.declared.ids.Var.{Var}
use Rattle.sk_def.specs.declared.sorts.ArgSort.{ArgSort}
use Rattle.sk_def.specs.declared.bone.Bone.TheVariants.{Either}
use Rattle.sk_def.specs.declared.bone.Target.{Target}
use Rattle.sk_def.specs.declared.bone.Target.TheVariants.{Own}
use Rattle.sk_def.specs.declared.def.Rule.{Rule}
use Rattle.sk_deftext.specs.Words.{keyword_of, keyword_in, plain_word, flow_sort_of, is_reserved}
use Rattle.sk_deftext.specs.Met.{Met, met, asked, one_more}
use Rattle.sk_deftext.specs.Bodies as spec
use Rattle.sk_deftext.specs.Bodies.{rule_hook, rule_con, variable, opening_of, bone, target, closing_brace, or_first, or_more, bone_of}
use Rattle.sk_deftext.specs.Reading as read
use Rattle.sk_deftext.specs.Reading.{skel, version, item, sort_name, con_name, hook_name, sort_used, argument, input, output, entry, closed, first, more, step}
use Rattle.sk_deftext.specs.Written.{IsInOrder, Appear}
use Rattle.sk_deftext.specs.declared.draft.Draft.{Draft}
use Rattle.sk_deftext.specs.declared.draft.OpenBone.{OpenBone}
use Rattle.sk_deftext.specs.declared.draft.BoneHead.{BoneHead}
use Rattle.sk_deftext.specs.declared.draft.BoneHead.TheVariants as head
use Rattle.sk_deftext.specs.declared.expected.Expected.{Expected}
use Rattle.sk_deftext.specs.declared.expected.Expected.TheVariants as expected
use Rattle.sk_deftext.specs.declared.expected.Listed.{Listed}
use Rattle.sk_deftext.specs.declared.expected.Listed.TheVariants as listed
use Rattle.sk_deftext.specs.declared.expected.Body.{Body}
use Rattle.sk_deftext.specs.declared.expected.Body.TheVariants as body_of
use Rattle.sk_deftext.specs.declared.fault.DefError.{DefError}
use Rattle.sk_deftext.specs.declared.fault.DefError.TheVariants.{Unexpected, Unknown, Duplicate, TooMany}
use Rattle.sk_deftext.specs.declared.fault.Which.TheVariants as which
use Rattle.sk_deftext.specs.declared.bone.Opening.{Opening}
use Rattle.sk_deftext.specs.declared.bone.Opening.TheVariants as opening
use Rattle.sk_deftext.specs.declared.word.Keyword.{Keyword}
use Rattle.sk_deftext.specs.declared.word.Keyword.TheVariants as keyword
use Rattle.sk_deftext.proofs.Standing.{Standing, Bodies}
use Rattle.sk_deftext.proofs.Phases as phase
use Rattle.sk_deftext.proofs.Phases.{Phase, idle, termed, among, between, begun, argued, aimed, Lists, Takes, Path, here, onto, HasRoom, OuterHaveRoom, In, UnclosedFew, OrderedOf, Ordered, trace, came}
use Rattle.sk_deftext.proofs.Appearing.{appear_push, NameComes, name_comes}
use Rattle.sk_deftext.proofs.Found.{Comes}
use Rattle.sk_deftext.proofs.Appearing as appearing

abbrev GoesBy : Met → Phase → Type 0
GoesBy (Ok turn) q = (p : Phase) × In p turn.state × Path p turn.expected q × Ordered turn.state
GoesBy (Err error) q = Unit {0}

-- where a turn is met, what it expects leads from the draft's phase to this one
pub record Goes (turn : Met) (q : Phase) : Type 0 where
  pub is : GoesBy turn q

bad : {q : Phase} (error : DefError) → Goes (Err error) q
bad error = record { is = tt }

goes : {q : Phase} (draft : Draft) (next : List Expected) (p : Phase) → In p draft → Path p next q → Ordered draft → Goes (met draft next) q
goes draft next p i path o = record { is = (p, i, path, o) }

either_way : (b : Bool) {x y : Met} {q : Phase} → (b ≡ true → Goes x q) → (b ≡ false → Goes y q) → Goes (if b then x else y) q
either_way true h k = h refl
either_way false h k = k refl

-- so many variables came
abbrev Came : ℕ → List Var → Type 0
Came n vs = Appear 0 vs n

module _ (draft : Draft) (s : Standing draft) (o : Ordered draft) where
  asked_goes : (q : Phase) → In q draft → (b : Bool) → Goes (asked draft b) q
  asked_goes q i b = either_way b (λ _. goes draft [] q i here o) (λ _. bad Unexpected)

  skel_goes : (q : Phase) → In q draft → (word : Option (List ℕ)) → Goes (skel draft word) q
  unfolding skel
  skel_goes q i None = bad Unexpected
  skel_goes q i (Some word) = asked_goes q i (bytes_eq word (codes "skel"))

  version_goes : (q : Phase) → In q draft → (value : Option ℤ) → Goes (version draft value) q
  unfolding version
  version_goes q i None = bad Unexpected
  version_goes q i (Some value) = asked_goes q i (int_eq value (pos 1))

  -- the words of the items
  sort_path : Path idle (expected.SortName ∷ expected.Item ∷ []) idle
  sort_path = onto phase.at_sort_name (onto phase.at_item here)

  con_path : Path idle (expected.ConName ∷ expected.Colon ∷ expected.SortUsed ∷ expected.Open ∷ expected.First listed.Arguments ∷ expected.Item ∷ []) idle
  con_path = onto phase.at_con_name (onto phase.at_colon (onto phase.at_sort_used (onto phase.at_open (onto (phase.at_first phase.for_arguments) (onto phase.at_item here)))))

  hook_path : Path idle (expected.HookName ∷ expected.Open ∷ expected.First listed.Inputs ∷ expected.SortUsed ∷ expected.Arrow ∷ expected.Open ∷ expected.First listed.Outputs ∷ expected.Item ∷ []) idle
  hook_path =
      onto phase.at_hook_name (onto phase.at_open (onto (phase.at_first phase.for_inputs) (onto phase.at_sort_used (onto phase.at_arrow (onto phase.at_open (onto (phase.at_first phase.for_outputs) (onto phase.at_item here)))))))

  rule_path : Path idle read.rule_form idle
  rule_path =
      onto phase.at_rule_hook (onto phase.at_rule_con (onto phase.at_open (onto (phase.at_first phase.for_terms) (onto phase.at_open (onto (phase.at_first phase.for_rule_inputs) (onto phase.at_left_brace
      (onto phase.at_rule_bones (onto phase.at_closing (onto phase.at_open (onto (phase.at_first phase.for_rule_outputs) (onto phase.at_item here)))))))))))

  item_goes : In idle draft → (at : ℕ) (key : Option Keyword) → Goes (item draft at key) idle
  unfolding item
  item_goes i at None = bad Unexpected
  item_goes i at (Some keyword.Sort) = goes draft _ idle i sort_path o
  item_goes i at (Some keyword.Con) = goes draft _ idle i con_path o
  item_goes i at (Some keyword.Hook) = goes (record draft { begun = at }) _ idle i hook_path o
  item_goes i at (Some keyword.Rule) = goes (record draft { begun = at }) _ idle i rule_path o
  item_goes i at (Some other) = bad Unexpected

  -- names and sorts
  sort_goes : (q : Phase) → In q draft → (word : Option (List ℕ)) → Goes (sort_name draft word) q
  unfolding sort_name
  sort_goes q i None = bad Unexpected
  sort_goes q i (Some word) =
      either_way (nat_lt (length draft.def.sorts) 16)
      (λ _. either_way (is_reserved word || read.has_name draft.def.sorts word) (λ _. bad Duplicate) (λ _. goes _ [] q i here o))
      (λ _. bad (TooMany which.Sorts))

  con_goes : (q : Phase) → In q draft → (word : Option (List ℕ)) → Goes (con_name draft word) q
  unfolding con_name
  con_goes q i None = bad Unexpected
  con_goes q i (Some word) =
      either_way (nat_lt (length draft.def.cons) 128)
      (λ _. either_way (is_some (place_of_con draft.def.cons word)) (λ _. bad Duplicate) (λ _. goes _ [] q i here o))
      (λ _. bad (TooMany which.Constructors))

  hook_goes : (q : Phase) → In q draft → (word : Option (List ℕ)) → Goes (hook_name draft word) q
  unfolding hook_name
  hook_goes q i None = bad Unexpected
  hook_goes q i (Some word) =
      either_way (nat_lt (length draft.def.hooks) 8)
      (λ _. either_way (is_some (filter_named word) || is_some (place_of_hook draft.def.hooks word)) (λ _. bad Duplicate) (λ _. goes _ [] q i here o))
      (λ _. bad (TooMany which.Hooks))

  sort_used_goes : (q : Phase) → In q draft → (word : Option (List ℕ)) → Goes (sort_used draft word) q
  unfolding sort_used
  sort_used_goes q i None = bad Unexpected
  sort_used_goes q i (Some word) = by (place_of_name draft.def.sorts word) where
    by : (place : Option ℕ) → Goes (read.with_sort draft (option_map (λ place. record { 0 = place }) place)) q
    by None = bad Unknown
    by (Some place) = goes _ [] q i here o

  one_goes : {A : Type 0} {q : Phase} (count most : ℕ) (too_many : DefError) (entry : Option A) (turn : A → Met) → ((x : A) → Goes (turn x) q) → Goes (one_more count most too_many entry turn) q
  one_goes count most too_many None turn h = either_way (nat_lt count most) (λ _. bad Unknown) (λ _. bad too_many)
  one_goes count most too_many (Some x) turn h = either_way (nat_lt count most) (λ _. h x) (λ _. bad too_many)

  argument_goes : (q : Phase) → In q draft → (word : Option (List ℕ)) → Goes (argument draft word) q
  unfolding argument
  argument_goes q i None = bad Unexpected
  argument_goes q i (Some word) =
      one_goes (length draft.args) 8 (TooMany which.Arguments) (read.arg_sort_named draft.def.sorts word) (λ sort. met (record draft { args = draft.args ++ sort ∷ [] }) (expected.More listed.Arguments ∷ []))
      (λ (sort : ArgSort). goes (record draft { args = draft.args ++ sort ∷ [] }) (expected.More listed.Arguments ∷ []) q i (onto (phase.at_more phase.for_arguments) here) o)

  input_goes : (q : Phase) → In q draft → (word : Option (List ℕ)) → Goes (input draft word) q
  unfolding input
  input_goes q i None = bad Unexpected
  input_goes q i (Some word) =
      one_goes (length draft.inputs) 4 (TooMany which.Flows) (flow_sort_of word) (λ sort. met (record draft { inputs = draft.inputs ++ sort ∷ [] }) (expected.More listed.Inputs ∷ []))
      (λ (sort : FlowSort). goes (record draft { inputs = draft.inputs ++ sort ∷ [] }) (expected.More listed.Inputs ∷ []) q i (onto (phase.at_more phase.for_inputs) here) o)

  output_goes : (q : Phase) → In q draft → (word : Option (List ℕ)) → Goes (output draft word) q
  unfolding output
  output_goes q i None = bad Unexpected
  output_goes q i (Some word) =
      one_goes (length draft.outputs) 4 (TooMany which.Flows) (flow_sort_of word) (λ sort. met (record draft { outputs = draft.outputs ++ sort ∷ [] }) (expected.More listed.Outputs ∷ []))
      (λ (sort : FlowSort). goes (record draft { outputs = draft.outputs ++ sort ∷ [] }) (expected.More listed.Outputs ∷ []) q i (onto (phase.at_more phase.for_outputs) here) o)

  con_ends : (q : Phase) → In q draft → (con : Option (List ℕ)) (sort : Option SortId) → Goes (read.finished_con draft con sort) q
  con_ends q i None sort = bad Unexpected
  con_ends q i (Some name) None = bad Unexpected
  con_ends q i (Some name) (Some sort) = goes _ [] q i here o

  hook_ends : (q : Phase) → In q draft → (hook : Option (List ℕ)) (sort : Option SortId) → Goes (read.finished_hook draft hook sort) q
  hook_ends q i None sort = bad Unexpected
  hook_ends q i (Some name) None = bad Unexpected
  hook_ends q i (Some name) (Some sort) = goes _ [] q i here o

  rule_hook_goes : (q : Phase) → In q draft → (word : Option (List ℕ)) → Goes (rule_hook draft word) q
  unfolding rule_hook
  rule_hook_goes q i None = bad Unexpected
  rule_hook_goes q i (Some word) = by (spec.hook_named draft.def.hooks word) where
    by : (hook : Option HookId) → Goes (spec.with_hook draft hook) q
    by None = bad Unknown
    by (Some hook) = goes _ [] q i here o

  rule_con_goes : (q : Phase) → In q draft → (word : Option (List ℕ)) → Goes (rule_con draft word) q
  unfolding rule_con
  rule_con_goes q i None = bad Unexpected
  rule_con_goes q i (Some word) = by (spec.con_named draft.def.cons word) where
    by : (con : Option ConId) → Goes (spec.with_con draft con) q
    by None = bad Unknown
    by (Some con) = goes _ [] q i here o

  -- what came, as other lists, and with a variable more; the order where lists change beside the bones
  moved : {vs : List Var} → came draft ≡ vs → Came (length draft.vars) vs
  moved e = subst (Came (length draft.vars)) e o.appear

  pushed : (vars : ℕ) (v : Var) {vs : List Var} → came draft ++ v ∷ [] ≡ vs → Comes (length draft.vars) v vars → Came vars vs
  pushed vars v e c = subst (Came vars) e (appear_push 0 (length draft.vars) vars (came draft) v o.appear c)

  same_bones : {vars : ℕ} {terms inputs args list : List Var} {opened : Option BoneHead} {aim : Target} → Came vars (trace terms inputs draft.unclosed draft.bones args opened aim list) →
      OrderedOf draft.def.rules vars terms inputs draft.unclosed draft.bones args opened aim list
  same_bones appear = record { in_order = o.in_order; appear = appear; few = o.few; unclosed_few = o.unclosed_few }

  -- variables
  variable_goes : (p q : Phase) (list : Listed) → Lists list p q → ((entries : List Var) → In p (record draft { listed = entries })) → (word : Option (List ℕ)) → Goes (variable draft list word) q
  unfolding variable
  variable_goes p q list l free None = bad Unexpected
  variable_goes p q list l free (Some word) =
      either_way (nat_lt (length draft.listed) 8) (λ _. by (with_name draft.vars word) (name_comes draft.vars word)) (λ _. bad (TooMany which.Arguments)) where
        by : (o : Option (ℕ × List (List ℕ))) → NameComes (length draft.vars) o → Goes (spec.with_variable draft list o) q
        by None c = bad (TooMany which.Variables)
        by (Some (place, vars)) c =
            goes _ _ p (free (draft.listed ++ record { 0 = place } ∷ [])) (onto (phase.at_more l) here) (same_bones (pushed (length vars) (record { 0 = place }) (appearing.with_entry draft (record { 0 = place })) c))

  target_goes : {n : ℕ} → In (argued true n) draft → (word : Option (List ℕ)) → Goes (target draft word) (aimed n)
  unfolding target
  target_goes {n} i None = bad Unexpected
  target_goes {n} i (Some word) = by (keyword_of word) where
    named : (name : Option (ℕ × List (List ℕ))) → NameComes (length draft.vars) name → Goes (spec.with_target draft name) (aimed n)
    named None c = bad (TooMany which.Variables)
    named (Some (place, vars)) c =
        goes _ [] (aimed n) i.0 here (same_bones (pushed (length vars) (record { 0 = place }) (appearing.with_aim draft (record { 0 = place }) i.1 i.2 i.3) c))

    by : (key : Option Keyword) → Goes (spec.target_word draft word key) (aimed n)
    by None = named (with_name draft.vars word) (name_comes draft.vars word)
    by (Some keyword.Own) = goes draft [] (aimed n) i.0 here o
    by (Some other) = bad Unexpected

  -- a bone begins
  filter_path : {n : ℕ} {q : Phase} (body : Body) → Takes (expected.Bones body) (among n) q →
      Path (begun false n) (expected.Open ∷ expected.First listed.BoneArgs ∷ expected.Arrow ∷ expected.Open ∷ expected.First listed.BoneOuts ∷ expected.Bones body ∷ []) q
  filter_path body t = onto phase.at_open (onto (phase.at_first phase.for_args) (onto phase.at_last_arrow (onto phase.at_open (onto (phase.at_first phase.for_outs) (onto t here)))))

  call_path : {n : ℕ} {q : Phase} (body : Body) → Takes (expected.Bones body) (among n) q →
      Path (begun true n) (expected.Open ∷ expected.First listed.BoneArgs ∷ expected.BoneTarget ∷ expected.Arrow ∷ expected.Open ∷ expected.First listed.BoneOuts ∷ expected.Bones body ∷ []) q
  call_path body t = onto phase.at_open (onto (phase.at_first phase.for_args) (onto phase.at_bone_target (onto phase.at_arrow (onto phase.at_open (onto (phase.at_first phase.for_outs) (onto t here))))))

  branches_path : {n : ℕ} {q : Phase} (body : Body) → Takes (expected.Bones body) (among n) q →
      Path (between (suc n))
      (expected.BranchOpen ∷ expected.Bones body_of.Branch ∷ expected.OrFirst ∷ expected.BranchOpen ∷ expected.Bones body_of.Branch ∷ expected.OrMore ∷ expected.Bones body ∷ []) q
  branches_path body t = onto phase.at_branch_open (onto phase.at_branch_bones (onto phase.at_or_first (onto phase.at_branch_open (onto phase.at_branch_bones (onto phase.at_or_more (onto t here))))))

  with_head : (word : BoneHead) → draft.opened ≡ None → Ordered (record draft { opened = Some word; target = Own })
  with_head word e = same_bones (moved (appearing.with_head draft (Some word) e))

  begun_goes : {n : ℕ} {q : Phase} (body : Body) → Takes (expected.Bones body) (among n) q → In (among n) draft → (at : ℕ) (form : Opening) → Goes (spec.begun draft body at form) q
  begun_goes body t i at opening.Keyword = bad Unexpected
  begun_goes body t i at opening.Unknown = bad Unknown
  begun_goes {n} body t i at (opening.Filter filter) = goes _ _ (begun false n) (i.0, i.1, refl, refl) (filter_path body t) (with_head (head.Filter filter) i.2)
  begun_goes {n} body t i at (opening.Hook hook) = goes _ _ (begun true n) (i.0, i.1, refl, refl) (call_path body t) (with_head (head.Hook hook) i.2)
  begun_goes {n} body t i at opening.Branches =
      either_way (nat_lt (length draft.unclosed) 8)
      (λ _. goes _ _ (between (suc n)) (record { depth = ap (λ k. suc k) i.0.depth; room = (omega arith, i.0.room) }, refl, i.1, i.2) (branches_path body t) (record {
        in_order = o.in_order;
        appear = moved (appearing.branches_begin draft);
        few = All-nil HasFewBranches;
        unclosed_few = (o.few, All-nil HasFewBranches, o.unclosed_few);
      }))
      (λ _. bad (TooMany which.Nesting))

  bone_goes : {n : ℕ} {q : Phase} (body : Body) → Takes (expected.Bones body) (among n) q → In (among n) draft → (at : ℕ) (word : Option (List ℕ)) → Goes (bone draft body at word) q
  unfolding bone
  bone_goes body t i at None = bad Unexpected
  bone_goes body t i at (Some word) =
      either_way (spec.may_begin (opening_of draft.def.hooks word) (nat_lt (length draft.marks) 64)) (λ _. begun_goes body t i at (opening_of draft.def.hooks word)) (λ _. bad (TooMany which.Bones))

  -- branches
  branch_begun_goes : {n : ℕ} → In (between n) draft → (unclosed : List OpenBone) → draft.unclosed ≡ unclosed → Goes (spec.branch_begun draft unclosed) (among n)
  branch_begun_goes {n} i [] e = bad Unexpected
  branch_begun_goes {n} i (one ∷ outer) e =
      let room : OuterHaveRoom (one ∷ outer) = subst OuterHaveRoom e i.0.room in
      either_way (nat_lt (length one.counts) 8)
      (λ few. goes draft [] (among n)
      (record { depth = i.0.depth; room = subst (All HasRoom) (sym e) (All-cons HasRoom one outer (ltb-true (length one.counts) 8 few) room.1) }, i.2, i.3) here o)
      (λ _. bad (TooMany which.Branches))

  branch_ended_goes : {n : ℕ} → In (among n) draft → (unclosed : List OpenBone) → draft.unclosed ≡ unclosed → Goes (spec.branch_ended draft unclosed) (between n)
  branch_ended_goes {n} i [] e = bad Unexpected
  branch_ended_goes {n} i (one ∷ outer) e =
      let room : All HasRoom (one ∷ outer) = subst (All HasRoom) e i.0.room in
      let bodies : Bodies (length draft.def.hooks) (length draft.vars) draft.bones (one ∷ outer) = subst (Bodies (length draft.def.hooks) (length draft.vars) draft.bones) e s.bodies in
      let few : UnclosedFew (one ∷ outer) = subst UnclosedFew e o.unclosed_few in
      let here_room : length one.counts < 8 = All-head HasRoom one outer room in
      goes _ [] (between n)
      (record { depth = ap length (sym e) ∙ i.0.depth; room = (omega (arith, here_room, length-append one.counts (length draft.bones ∷ [])), All-tail HasRoom one outer room) }, refl, i.1, i.2) here (record {
        in_order = o.in_order;
        appear = moved (appearing.branch_ends draft one outer e bodies.unclosed_fit.0.counts_are);
        few = All-nil HasFewBranches;
        unclosed_few = (few.0, All-append HasFewBranches one.inside draft.bones few.1 o.few, few.2);
      })

  closing_brace_goes : {n : ℕ} {q : Phase} (body : Body) → Takes (expected.Bones body) (among n) q → In (among n) draft → Goes (closing_brace draft body) q
  unfolding closing_brace
  closing_brace_goes {n} body_of.Rule phase.at_rule_bones i = goes draft [] (among n) i here o
  closing_brace_goes {n} body_of.Branch phase.at_branch_bones i = branch_ended_goes i draft.unclosed refl

  bones_goes : {n : ℕ} {q : Phase} (body : Body) → Takes (expected.Bones body) (among n) q → In (among n) draft → (at : ℕ) (symbol : Symbol) → Goes (read.bones draft body at symbol) q
  bones_goes body t i at symbol = either_way (is_right_brace symbol) (λ _. closing_brace_goes body t i) (λ _. bone_goes body t i at (word_of symbol))

  or_first_goes : (q : Phase) → In q draft → (key : Option Keyword) → Goes (or_first draft key) q
  unfolding or_first
  or_first_goes q i None = bad Unexpected
  or_first_goes q i (Some keyword.Or) = goes draft [] q i here o
  or_first_goes q i (Some other) = bad Unexpected

  or_more_goes : {n : ℕ} → In (between (suc n)) draft → (key : Option Keyword) → Goes (or_more draft key) (among n)
  unfolding or_more
  or_more_goes i None = bad Unexpected
  or_more_goes {n} i (Some keyword.Or) = goes draft _ (between (suc n)) i (onto phase.at_branch_open (onto phase.at_branch_bones (onto phase.at_or_more here))) o
  or_more_goes {n} i (Some keyword.With) = goes draft _ (between (suc n)) i (onto phase.at_open (onto (phase.at_first phase.for_exports) here)) o
  or_more_goes i (Some other) = bad Unexpected

  -- lists end
  few_one : (word : BoneHead) → HasFewBranches (bone_of word draft.bone_args draft.target draft.listed)
  few_one (head.Filter filter) = tt
  few_one (head.Hook hook) = tt

  bone_ends : {n : ℕ} → In (aimed n) draft → (opened : Option BoneHead) → draft.opened ≡ opened → Goes (spec.finished_bone draft opened) (among n)
  bone_ends {n} i None e = bad Unexpected
  bone_ends {n} i (Some word) e =
      goes _ [] (among n) (i, refl, refl) here (record {
        in_order = o.in_order;
        appear = moved (appearing.bone_ends draft word s.bodies.bones_fit e);
        few = All-push HasFewBranches draft.bones (bone_of word draft.bone_args draft.target draft.listed) o.few (few_one word);
        unclosed_few = o.unclosed_few;
      })

  branches_end : {n : ℕ} → In (between (suc n)) draft → (unclosed : List OpenBone) → draft.unclosed ≡ unclosed → Goes (spec.finished_branches draft unclosed) (among n)
  branches_end {n} i [] e = bad Unexpected
  branches_end {n} i (one ∷ outer) e =
      let room : OuterHaveRoom (one ∷ outer) = subst OuterHaveRoom e i.0.room in
      let bodies : Bodies (length draft.def.hooks) (length draft.vars) draft.bones (one ∷ outer) = subst (Bodies (length draft.def.hooks) (length draft.vars) draft.bones) e s.bodies in
      let few : UnclosedFew (one ∷ outer) = subst UnclosedFew e o.unclosed_few in
      let depth : length outer ≡ n = omega (arith, i.0.depth, ap length e) in
      either_way (nat_lt (length one.counts) 2) (λ _. bad Unexpected)
      (λ _. goes _ [] (among n) (record { depth = depth; room = room.1 }, i.2, i.3) here (record {
        in_order = o.in_order;
        appear = moved (appearing.branches_end draft one outer e bodies.unclosed_fit.0.before_fits bodies.unclosed_fit.0.counts_are i.1 i.2 i.3);
        few = All-append HasFewBranches one.before (Either one.counts draft.listed ∷ one.inside) few.0 (All-cons HasFewBranches (Either one.counts draft.listed) one.inside room.0 few.1);
        unclosed_few = few.2;
      }))

  none_unclosed : (unclosed : List OpenBone) → length unclosed ≡ 0 → unclosed ≡ []
  none_unclosed [] e = refl
  none_unclosed (one ∷ outer) e = absurd (omega (arith, e))

  rule_ends : In (among 0) draft → (hook : Option HookId) (con : Option ConId) → Goes (spec.finished_rule draft hook con) idle
  rule_ends i None con = bad Unexpected
  rule_ends i (Some hook) None = bad Unexpected
  rule_ends i (Some hook) (Some con) =
      let rule : Rule = record { hook = hook; con = con; vars = draft.vars; terms = draft.terms; inputs = draft.rule_inputs; bones = draft.bones; outputs = draft.listed } in
      goes _ [] idle (refl, refl, refl, refl, refl, refl) here (record {
        in_order = All-push IsInOrder draft.def.rules rule o.in_order (record {
          few_branches = o.few;
          appear = moved (appearing.rule_ends draft (none_unclosed draft.unclosed i.0.depth) i.1 i.2);
        });
        appear = refl;
        few = All-nil HasFewBranches;
        unclosed_few = tt;
      })

  closed_goes : {p q : Phase} (list : Listed) → Lists list p q → In p draft → Goes (closed draft list) q
  unfolding closed
  closed_goes {p} listed.Arguments phase.for_arguments i = con_ends p i draft.con_name draft.sort
  closed_goes {p} listed.Inputs phase.for_inputs i = goes draft [] p i here o
  closed_goes {p} listed.Outputs phase.for_outputs i = hook_ends p i draft.hook_name draft.sort
  closed_goes listed.Terms phase.for_terms i =
      goes _ [] termed (i.1, i.2, i.3, i.4, i.5) here (same_bones (moved (appearing.as_terms draft i.0 i.1 i.2 i.3 i.4 i.5)))
  closed_goes listed.RuleInputs phase.for_rule_inputs i =
      goes _ [] (among 0) (record { depth = ap length i.1; room = subst (All HasRoom) (sym i.1) (All-nil HasRoom) }, i.3, i.4) here (same_bones (moved (appearing.as_inputs draft i.0 i.1 i.2 i.3 i.4)))
  closed_goes listed.BoneArgs (phase.for_args {b = b} {n = n}) i =
      goes _ [] (argued b n) (i.0, i.2, refl, i.3) here (same_bones (moved (appearing.as_args draft i.1 i.2)))
  closed_goes listed.BoneOuts phase.for_outs i = bone_ends i draft.opened refl
  closed_goes listed.Exports phase.for_exports i = branches_end i draft.unclosed refl
  closed_goes listed.RuleOutputs phase.for_rule_outputs i = rule_ends i draft.hook draft.con

  entry_goes : {p q : Phase} (list : Listed) → Lists list p q → In p draft → (symbol : Symbol) → Goes (entry draft list symbol) q
  unfolding entry
  entry_goes {p} listed.Arguments phase.for_arguments i symbol = argument_goes p i (word_of symbol)
  entry_goes {p} listed.Inputs phase.for_inputs i symbol = input_goes p i (word_of symbol)
  entry_goes {p} listed.Outputs phase.for_outputs i symbol = output_goes p i (word_of symbol)
  entry_goes listed.Terms phase.for_terms i symbol = variable_goes idle termed listed.Terms phase.for_terms (λ entries. i) (plain_word (word_of symbol))
  entry_goes listed.RuleInputs phase.for_rule_inputs i symbol = variable_goes termed (among 0) listed.RuleInputs phase.for_rule_inputs (λ entries. i) (plain_word (word_of symbol))
  entry_goes listed.BoneArgs (phase.for_args {b = b} {n = n}) i symbol = variable_goes (begun b n) (argued b n) listed.BoneArgs phase.for_args (λ entries. i) (plain_word (word_of symbol))
  entry_goes listed.BoneOuts (phase.for_outs {n = n}) i symbol = variable_goes (aimed n) (among n) listed.BoneOuts phase.for_outs (λ entries. i) (plain_word (word_of symbol))
  entry_goes listed.Exports (phase.for_exports {n = n}) i symbol = variable_goes (between (suc n)) (among n) listed.Exports phase.for_exports (λ entries. i) (plain_word (word_of symbol))
  entry_goes listed.RuleOutputs phase.for_rule_outputs i symbol = variable_goes (among 0) idle listed.RuleOutputs phase.for_rule_outputs (λ entries. i) (plain_word (word_of symbol))

  first_goes : {p q : Phase} (list : Listed) → Lists list p q → In p draft → (symbol : Symbol) → Goes (first draft list symbol) q
  unfolding first
  first_goes list l i symbol = either_way (is_close symbol) (λ _. closed_goes list l i) (λ _. entry_goes list l i symbol)

  more_goes : {p q : Phase} (list : Listed) → Lists list p q → In p draft → (symbol : Symbol) → Goes (more draft list symbol) q
  unfolding more
  more_goes {p} list l i symbol =
      either_way (is_close symbol) (λ _. closed_goes list l i)
      (λ _. either_way (is_comma symbol) (λ _. goes draft (expected.Next list ∷ []) p i (onto (phase.at_next l) here) o) (λ _. bad Unexpected))

  -- each turn leads on
  pub step_goes : {p q : Phase} (one : Expected) → Takes one p q → In p draft → (at : ℕ) (symbol : Symbol) → Goes (step draft one at symbol) q
  unfolding step
  step_goes {p} expected.Skel phase.at_skel i at symbol = skel_goes p i (word_of symbol)
  step_goes {p} expected.Version phase.at_version i at symbol = version_goes p i (number_of symbol)
  step_goes expected.Item phase.at_item i at symbol = item_goes i at (keyword_in (word_of symbol))
  step_goes {p} expected.SortName phase.at_sort_name i at symbol = sort_goes p i (plain_word (word_of symbol))
  step_goes {p} expected.ConName phase.at_con_name i at symbol = con_goes p i (plain_word (word_of symbol))
  step_goes {p} expected.HookName phase.at_hook_name i at symbol = hook_goes p i (plain_word (word_of symbol))
  step_goes {p} expected.Colon phase.at_colon i at symbol = asked_goes p i (is_colon symbol)
  step_goes {p} expected.Arrow phase.at_arrow i at symbol = asked_goes p i (is_arrow symbol)
  step_goes expected.Arrow (phase.at_last_arrow {n = n}) i at symbol = asked_goes (aimed n) i.0 (is_arrow symbol)
  step_goes {p} expected.Open phase.at_open i at symbol = asked_goes p i (is_open symbol)
  step_goes {p} expected.SortUsed phase.at_sort_used i at symbol = sort_used_goes p i (word_of symbol)
  step_goes (expected.First list) (phase.at_first l) i at symbol = first_goes list l i symbol
  step_goes (expected.More list) (phase.at_more l) i at symbol = more_goes list l i symbol
  step_goes (expected.Next list) (phase.at_next l) i at symbol = entry_goes list l i symbol
  step_goes {p} expected.RuleHook phase.at_rule_hook i at symbol = rule_hook_goes p i (word_of symbol)
  step_goes {p} expected.RuleCon phase.at_rule_con i at symbol = rule_con_goes p i (word_of symbol)
  step_goes {p} expected.LeftBrace phase.at_left_brace i at symbol = asked_goes p i (is_left_brace symbol)
  step_goes (expected.Bones body_of.Rule) (phase.at_rule_bones {n = n}) i at symbol = bones_goes body_of.Rule (phase.at_rule_bones {n = n}) i at symbol
  step_goes (expected.Bones body_of.Branch) (phase.at_branch_bones {n = n}) i at symbol = bones_goes body_of.Branch (phase.at_branch_bones {n = n}) i at symbol
  step_goes expected.BoneTarget phase.at_bone_target i at symbol = target_goes i (word_of symbol)
  step_goes expected.BranchOpen phase.at_branch_open i at symbol = either_way (is_left_brace symbol) (λ _. branch_begun_goes i draft.unclosed refl) (λ _. bad Unexpected)
  step_goes {p} expected.OrFirst phase.at_or_first i at symbol = or_first_goes p i (keyword_in (word_of symbol))
  step_goes expected.OrMore phase.at_or_more i at symbol = or_more_goes i (keyword_in (word_of symbol))
  step_goes {p} expected.Closing phase.at_closing i at symbol = either_way (is_arrow symbol) (λ _. goes _ [] p i here o) (λ _. bad Unexpected)
