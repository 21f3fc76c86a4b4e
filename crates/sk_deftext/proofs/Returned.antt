-- The symbols of bones read as these bones.
use Rattle.std.proofs.Common.{◌≡◌, inl, inr, ℕ, zero, suc, ◌+◌, ◌<◌, ◌≤◌, nat_lt, true, if◌then◌else◌, List, [], ◌∷◌, ◌++◌, length, map, take, drop, refl, sym, ap, subst, ◌∙◌, arith, append_assoc, length-append, length-take, length-drop, Some, None, Err}
use Rattle.std.specs.Prelude.{codes, All, option_map, flat_map, sum}
use Rattle.std.specs.List.{join_by}
use Rattle.std.proofs.lemmas.Bool.{lt-ltb, le-ltb}
use Rattle.std.proofs.lemmas.List.{append-nil, length-map, take-append-drop}
use Rattle.std.proofs.Math.Seq.{take-add}
use Rattle.std.proofs.lemmas.List.Elements.{All-head, All-tail, All-cons, All-nil, All-take, All-drop}
use Rattle.std.proofs.lemmas.List.Sums.{sum_by-cons}
use Rattle.sk_base.specs.Names.{with_name}
use Rattle.sk_lex.specs.Symbols.{Symbol, Named, Plain}
use Rattle.sk_lex.specs.declared.token.TokenKind.TheVariants.{LeftBrace, RightBrace, Arrow as Points}
use Rattle.sk_def.specs.Filters.{filter_word, filter_named}
use Rattle.sk_def.specs.Fits.{ListsAreShort, HasFewBranches}
use Rattle.sk_def.specs.Layout.{BonesFit, filter_bone, hook_bone, branch_bone, after_branches}
use Rattle.sk_def.specs.Named.{place_of_hook}
use Rattle.sk_def.specs.declared.filter.Filter.{Filter}
use Rattle.sk_def.specs.declared.ids.Var.{Var}
use Rattle.sk_def.specs.declared.ids.HookId.{HookId}
use Rattle.sk_def.specs.declared.def.Hook.{Hook}
use Rattle.sk_def.specs.declared.bone.Target.{Target}
use Rattle.sk_def.specs.declared.bone.Target.TheVariants.{Own, Sub}
use Rattle.sk_def.specs.declared.bone.Bone.{Bone}
use Rattle.sk_def.specs.declared.bone.Bone.TheVariants.{Apply, Call, Either}
use Rattle.sk_deftext.specs.Canonical.{name_at, hook_word, var_word, target_word, branches}
use Rattle.sk_deftext.specs.Words.{keyword_of}
use Rattle.sk_deftext.specs.Met.{met}
use Rattle.sk_deftext.specs.Bodies as spec
use Rattle.sk_deftext.specs.Bodies.{bone, opening_of, target, closing_brace, or_first, or_more}
use Rattle.sk_deftext.specs.Reading.{step, closed}
use Rattle.sk_deftext.specs.Written.{AreNames, Appear, target_vars, bones_vars}
use Rattle.sk_deftext.specs.declared.draft.Draft.{Draft}
use Rattle.sk_deftext.specs.declared.draft.OpenBone.{OpenBone}
use Rattle.sk_deftext.specs.declared.draft.BoneHead.TheVariants as head
use Rattle.sk_deftext.specs.declared.expected.Expected.{Expected}
use Rattle.sk_deftext.specs.declared.expected.Expected.TheVariants as expected
use Rattle.sk_deftext.specs.declared.expected.Listed.TheVariants as listed
use Rattle.sk_deftext.specs.declared.expected.Body.{Body}
use Rattle.sk_deftext.specs.declared.expected.Body.TheVariants as body_of
use Rattle.sk_deftext.specs.declared.bone.Opening.{Opening}
use Rattle.sk_deftext.specs.declared.bone.Opening.TheVariants as opening
use Rattle.sk_deftext.specs.declared.fault.DefError.TheVariants.{Unexpected, TooMany}
use Rattle.sk_deftext.specs.declared.fault.Which.TheVariants as which
use Rattle.sk_deftext.specs.Spelling.{list_symbols, bones_symbols}
use Rattle.sk_deftext.proofs.Said.{name_at_word, hook_word_is, filter_facts, branches_fit, branches_few}
use Rattle.sk_deftext.proofs.Found.{hook_place, appears, appears_more, first_comes, Comes, variable_comes}
use Rattle.sk_deftext.proofs.Steps.{Answer, Gets, turn, closes, arrow_step, with_vars, args_of_vars, outs_of_vars, exports_of_vars, vars_get}

-- What words open.

opens_filter : (hooks : List Hook) (f : Filter) → opening_of hooks (filter_word f) ≡ opening.Filter f
unfolding opening_of
opens_filter hooks f = ap (λ o. spec.opened_by o (keyword_of (filter_word f)) (spec.hook_named hooks (filter_word f))) (filter_facts f).1

opens_hook : (hooks : List Hook) (id : HookId) (word : List ℕ) → filter_named word ≡ None → keyword_of word ≡ None → place_of_hook hooks word ≡ Some id.0 → opening_of hooks word ≡ opening.Hook id
unfolding opening_of
opens_hook hooks id word f k p =
    ap (λ o. spec.opened_by o (keyword_of word) (spec.hook_named hooks word)) f
    ∙ ap (λ o. spec.opened_by None o (spec.hook_named hooks word)) k
    ∙ ap (λ o. spec.opened_by None None (option_map (λ place. record { 0 = place }) o)) p

opens_branches : (hooks : List Hook) → opening_of hooks (codes "either") ≡ opening.Branches
unfolding opening_of
opens_branches hooks = refl

begins : (draft : Draft) (body : Body) (at : ℕ) (word : List ℕ) (o : Opening) → opening_of draft.def.hooks word ≡ o → spec.may_begin o true ≡ true → length draft.marks < 64 →
    step draft (expected.Bones body) at (Named word) ≡ spec.begun draft body at o
unfolding step bone
begins draft body at word o e may few =
    ap (λ p. if spec.may_begin p (nat_lt (length draft.marks) 64) then spec.begun draft body at p else Err (TooMany which.Bones)) e
    ∙ ap (λ b. if spec.may_begin o b then spec.begun draft body at o else Err (TooMany which.Bones)) (lt-ltb (length draft.marks) 64 few)
    ∙ ap (λ b. if b then spec.begun draft body at o else Err (TooMany which.Bones)) may

branches_begin : (draft : Draft) (at : ℕ) (form : List Expected) → length draft.unclosed < 8 →
    spec.with_branches draft at form ≡ met (record draft { unclosed = record { before = draft.bones; counts = []; inside = [] } ∷ draft.unclosed; bones = []; marks = draft.marks ++ at ∷ [] }) form
branches_begin draft at form few =
    ap (λ b. if b then met (record draft { unclosed = record { before = draft.bones; counts = []; inside = [] } ∷ draft.unclosed; bones = []; marks = draft.marks ++ at ∷ [] }) form else Err (TooMany which.Nesting)) (lt-ltb (length draft.unclosed) 8 few)

branch_opens : (draft : Draft) (at : ℕ) (one : OpenBone) (outer : List OpenBone) → draft.unclosed ≡ one ∷ outer → length one.counts < 8 → step draft expected.BranchOpen at (Plain LeftBrace) ≡ met draft []
unfolding step
branch_opens draft at one outer e few =
    ap (spec.branch_begun draft) e ∙ ap (λ b. if b then met draft [] else Err (TooMany which.Branches)) (lt-ltb (length one.counts) 8 few)

branch_closes : (draft : Draft) (at : ℕ) → step draft (expected.Bones body_of.Branch) at (Plain RightBrace) ≡ spec.branch_ended draft draft.unclosed
unfolding step closing_brace
branch_closes draft at = refl

first_or : (draft : Draft) (at : ℕ) → step draft expected.OrFirst at (Named (codes "or")) ≡ met draft []
unfolding step or_first
first_or draft at = refl

more_or : (draft : Draft) (at : ℕ) → step draft expected.OrMore at (Named (codes "or")) ≡ met draft (expected.BranchOpen ∷ expected.Bones body_of.Branch ∷ expected.OrMore ∷ [])
unfolding step or_more
more_or draft at = refl

more_with : (draft : Draft) (at : ℕ) → step draft expected.OrMore at (Named (codes "with")) ≡ met draft (expected.Open ∷ expected.First listed.Exports ∷ [])
unfolding step or_more
more_with draft at = refl

args_close : (draft : Draft) → closed draft listed.BoneArgs ≡ met (spec.with_args draft) []
unfolding closed
args_close draft = refl

outs_close : (draft : Draft) → closed draft listed.BoneOuts ≡ spec.finished_bone draft draft.opened
unfolding closed
outs_close draft = refl

exports_close : (draft : Draft) (one : OpenBone) (outer : List OpenBone) → draft.unclosed ≡ one ∷ outer → 2 ≤ length one.counts →
    closed draft listed.Exports ≡ met (record draft { bones = one.before ++ Either one.counts draft.listed ∷ one.inside; unclosed = outer; listed = [] }) []
unfolding closed
exports_close draft one outer e two =
    ap (spec.finished_branches draft) e
    ∙ ap (λ b. if b then Err Unexpected else met (record draft { bones = one.before ++ Either one.counts draft.listed ∷ one.inside; unclosed = outer; listed = [] }) []) (le-ltb (length one.counts) 2 two)

own_target : (draft : Draft) (at : ℕ) → step draft expected.BoneTarget at (Named (codes "self")) ≡ met draft []
unfolding step target
own_target draft at = refl

sub_target : (draft : Draft) (at : ℕ) (word : List ℕ) (place : ℕ) (vars : List (List ℕ)) → keyword_of word ≡ None → with_name draft.vars word ≡ Some (place, vars) →
    step draft expected.BoneTarget at (Named word) ≡ met (record draft { vars = vars; target = Sub (record { 0 = place }) }) []
unfolding step target
sub_target draft at word place vars k w = ap (spec.target_word draft word) k ∙ ap (spec.with_target draft) w

left_is : {from : Answer} {total : ℕ} {one : List Expected} {draft : Draft} {left after : List Symbol} → Gets from total one draft left → left ≡ after → Gets from total one draft after
left_is {from} {total} {one} {draft} g e = subst (λ (left : List Symbol). Gets from total one draft left) e g

-- the lists of a bone are within their limits
abbrev pub BoneIsShort : Bone → Type 0
BoneIsShort (Apply filter args outs) = (length args ≤ 8) × (length outs ≤ 8)
BoneIsShort (Call hook args target outs) = (length args ≤ 8) × (length outs ≤ 8)
BoneIsShort (Either counts exports) = (length counts ≤ 8) × (length exports ≤ 8)

pub bone_short : (one : Bone) → ListsAreShort one → HasFewBranches one → BoneIsShort one
bone_short (Apply filter args outs) h k = h
bone_short (Call hook args target outs) h k = h
bone_short (Either counts exports) h k = (k, h)

-- a draft between the bones of a rule
abbrev pub in_body : List (List ℕ) → Draft → ℕ → List ℕ → List Bone → List OpenBone → Target → Draft
in_body names base n marks bones unclosed target = record base {
  vars = take n names;
  marks = marks;
  bones = bones;
  unclosed = unclosed;
  opened = None;
  bone_args = [];
  target = target;
  listed = [];
}

-- a reading comes to these bones where this is expected, with so many of the rule's bones begun
pub record ComesTo (names : List (List ℕ)) (base : Draft) (from : Answer) (total : ℕ) (awaited : List Expected) (n count : ℕ) (bones : List Bone) (unclosed : List OpenBone) (left : List Symbol) : Type 0 where
  pub marks : List ℕ
  pub target : Target
  pub counted : length marks ≡ count
  pub gets : Gets from total awaited (in_body names base n marks bones unclosed target) left

abbrev pub Bones : List (List ℕ) → Draft → Answer → ℕ → Body → List Expected → ℕ → ℕ → List Bone → List OpenBone → List Symbol → Type 0
Bones names base from total body below n count bones unclosed left = ComesTo names base from total (expected.Bones body ∷ below) n count bones unclosed left

-- a branch bone whose branch has ended, and several
abbrev pub ended : OpenBone → List Bone → OpenBone
ended one bones = record { before = one.before; counts = one.counts ++ length bones ∷ []; inside = one.inside ++ bones }

abbrev pub all_ended : OpenBone → List (List Bone) → OpenBone
all_ended one [] = one
all_ended one (bones ∷ others) = all_ended (ended one bones) others

abbrev pub many : List (List Bone) → ℕ
many [] = 0
many (bones ∷ others) = length bones + many others

ended_before : (one : OpenBone) (bs : List (List Bone)) → (all_ended one bs).before ≡ one.before
ended_before one [] = refl
ended_before one (b ∷ bs) = ended_before (ended one b) bs

-- the branches among the bones that follow a branch bone: their sizes and their bones
ended_counts : (one : OpenBone) (counts : List ℕ) (bones : List Bone) → sum counts ≤ length bones → (all_ended one (branches counts bones)).counts ≡ one.counts ++ counts
ended_counts one [] bones h = sym (append-nil one.counts)
ended_counts one (count ∷ counts) bones h =
    let total : sum (count ∷ counts) ≡ count + sum counts = sum_by-cons (λ (n : ℕ). n) count counts in
    let size : length (take count bones) ≡ count = omega (arith, length-take count bones, h, total) in
    ended_counts (ended one (take count bones)) counts (drop count bones) (omega (arith, length-drop count bones, h, total))
    ∙ ap (λ n. (one.counts ++ n ∷ []) ++ counts) size ∙ append_assoc one.counts (count ∷ []) counts

ended_inside : (one : OpenBone) (counts : List ℕ) (bones : List Bone) → (all_ended one (branches counts bones)).inside ≡ one.inside ++ take (sum counts) bones
ended_inside one [] bones = sym (append-nil one.inside)
ended_inside one (count ∷ counts) bones =
    let total : sum (count ∷ counts) ≡ count + sum counts = sum_by-cons (λ (n : ℕ). n) count counts in
    ended_inside (ended one (take count bones)) counts (drop count bones)
    ∙ append_assoc one.inside (take count bones) (take (sum counts) (drop count bones))
    ∙ ap (λ bs. one.inside ++ bs) (sym (take-add count (sum counts) bones) ∙ ap (λ n. take n bones) (sym total))

many_counts : (counts : List ℕ) (bones : List Bone) → sum counts ≤ length bones → many (branches counts bones) ≡ sum counts
many_counts [] bones h = refl
many_counts (count ∷ counts) bones h =
    let total : sum (count ∷ counts) ≡ count + sum counts = sum_by-cons (λ (n : ℕ). n) count counts in
    omega (arith, total, length-take count bones, h, many_counts counts (drop count bones) (omega (arith, length-drop count bones, h, total)))

branch_count : (counts : List ℕ) (bones : List Bone) → length (branches counts bones) ≡ length counts
branch_count [] bones = refl
branch_count (count ∷ counts) bones = ap suc (branch_count counts (drop count bones))

branches_short : (counts : List ℕ) (bones : List Bone) → All BoneIsShort bones → All (λ branch. All BoneIsShort branch) (branches counts bones)
branches_short [] bones h = All-nil (λ (branch : List Bone). All BoneIsShort branch)
branches_short (count ∷ counts) bones h =
    All-cons (λ branch. All BoneIsShort branch) (take count bones) (branches counts (drop count bones)) (All-take BoneIsShort count bones h)
    (branches_short counts (drop count bones) (All-drop BoneIsShort count bones h))

abbrev or_symbols : List Symbol
or_symbols = Plain RightBrace ∷ Named (codes "or") ∷ Plain LeftBrace ∷ []

module _ (names : List (List ℕ)) (are : AreNames names) (most : length names ≤ 64) (base : Draft)
    (hook_names : AreNames (map (λ (hook : Hook). hook.name) base.def.hooks))
    (own_names : (place : ℕ) → place < length base.def.hooks → filter_named (name_at (map (λ (hook : Hook). hook.name) base.def.hooks) place) ≡ None) where
  module _ {from : Answer} {total : ℕ} (body : Body) (below : List Expected) (left : List Symbol) (marks : List ℕ) (bones : List Bone) (unclosed : List OpenBone) (before : Target) (few : length marks < 64) where
    one_filter : (n j m : ℕ) (f : Filter) (args outs : List Var) → length args ≤ 8 → length outs ≤ 8 → Appear n args j → Appear j outs m → m ≤ length names →
        Gets from total (expected.Bones body ∷ below) (in_body names base n marks bones unclosed before)
        (Named (filter_word f) ∷ (list_symbols (var_word names) args ++ (Plain Points ∷ (list_symbols (var_word names) outs ++ left)))) →
        Bones names base from total body below m (length marks + 1) (bones ++ Apply f args outs ∷ []) unclosed left
    one_filter n j m f args outs few_args few_outs a b within g =
        let start = in_body names base n marks bones unclosed before in
        let first = record start { opened = Some (head.Filter f); marks = marks ++ g.at ∷ []; target = Own } in
        let least : j ≤ length names = omega (arith, appears_more j m outs b, within) in
        let begun = turn g first _ (begins start body g.at (filter_word f) (opening.Filter f) (opens_filter base.def.hooks f) refl few) in
        let args_in = vars_get names are most first listed.BoneArgs args_of_vars n j args few_args a least begun in
        let second = record first { vars = take j names; bone_args = args } in
        let pointed = closes args_in second [] (args_close (with_vars names first j args)) in
        let opened = turn pointed second [] (arrow_step second pointed.at) in
        let outs_in = vars_get names are most second listed.BoneOuts outs_of_vars j m outs few_outs b within opened in
        record {
          marks = marks ++ g.at ∷ [];
          target = Own;
          counted = length-append marks (g.at ∷ []);
          gets = closes outs_in (in_body names base m (marks ++ g.at ∷ []) (bones ++ Apply f args outs ∷ []) unclosed Own) [] (outs_close (with_vars names second m outs));
        }

    target_read : (first : Draft) (n m : ℕ) (t : Target) {more : List Expected} {rest : List Symbol} → Appear n (target_vars t) m → m ≤ length names →
        Gets from total (expected.BoneTarget ∷ more) (with_vars names (record first { target = Own }) n []) (Named (target_word names t) ∷ rest) →
        Gets from total more (with_vars names (record first { target = t }) m []) rest
    target_read first n m Own {more = more} {rest = rest} a within g =
        let P : ℕ → Type 0 = λ k. Gets from total more (with_vars names (record first { target = Own }) k []) rest in
        subst P a (turn g (with_vars names (record first { target = Own }) n []) [] (own_target (with_vars names (record first { target = Own }) n []) g.at))
    target_read first n m (Sub v) {more = more} {rest = rest} a within g =
        let comes = first_comes n m v [] a in
        let least : comes.0 ≤ length names = omega (arith, comes.2, within) in
        let P : ℕ → Type 0 = λ k. Gets from total more (with_vars names (record first { target = Sub v }) k []) rest in
        let start = with_vars names (record first { target = Own }) n [] in
        subst P comes.2
        (turn g (with_vars names (record first { target = Sub v }) comes.0 []) []
        (sub_target start g.at (var_word names v) v.0 (take comes.0 names) (name_at_word names v.0 are.each (below_all comes.0 comes.1 least)).plain (variable_comes names are most n comes.0 v comes.1 least))) where
          below_all : (k : ℕ) → Comes n v k → k ≤ length names → v.0 < length names
          below_all k (inl c) h = omega (arith, c.0, c.1, h)
          below_all k (inr c) h = omega (arith, c.0, c.1, h)

    one_call : (n i j m : ℕ) (id : HookId) (args : List Var) (t : Target) (outs : List Var) → id.0 < length base.def.hooks → length args ≤ 8 → length outs ≤ 8 →
        Appear n args i → Appear i (target_vars t) j → Appear j outs m → m ≤ length names →
        Gets from total (expected.Bones body ∷ below) (in_body names base n marks bones unclosed before)
        (Named (hook_word base.def.hooks id) ∷ (list_symbols (var_word names) args ++ (Named (target_word names t) ∷ Plain Points ∷ (list_symbols (var_word names) outs ++ left)))) →
        Bones names base from total body below m (length marks + 1) (bones ++ Call id args t outs ∷ []) unclosed left
    one_call n i j m id args t outs declared few_args few_outs a b c within g =
        let hooks = base.def.hooks in
        let word = hook_word hooks id in
        let is : word ≡ name_at (map (λ (hook : Hook). hook.name) hooks) id.0 = hook_word_is hooks id in
        let inside : id.0 < length (map (λ (hook : Hook). hook.name) hooks) = omega (arith, declared, length-map hooks (λ (hook : Hook). hook.name)) in
        let plain : keyword_of word ≡ None = ap keyword_of is ∙ (name_at_word (map (λ (hook : Hook). hook.name) hooks) id.0 hook_names.each inside).plain in
        let no_filter : filter_named word ≡ None = ap filter_named is ∙ own_names id.0 declared in
        let found : place_of_hook hooks word ≡ Some id.0 = ap (place_of_hook hooks) is ∙ hook_place hooks (name_at (map (λ (hook : Hook). hook.name) hooks) id.0) ∙ hook_names.found id.0 inside in
        let start = in_body names base n marks bones unclosed before in
        let first = record start { opened = Some (head.Hook id); marks = marks ++ g.at ∷ []; target = Own } in
        let least : j ≤ length names = omega (arith, appears_more j m outs c, within) in
        let less : i ≤ length names = omega (arith, appears_more i j (target_vars t) b, least) in
        let begun = turn g first _ (begins start body g.at word (opening.Hook id) (opens_hook hooks id word no_filter plain found) refl few) in
        let args_in = vars_get names are most first listed.BoneArgs args_of_vars n i args few_args a less begun in
        let second = record first { vars = take i names; bone_args = args } in
        let aimed = closes args_in second [] (args_close (with_vars names first i args)) in
        let pointed = target_read second i j t b least aimed in
        let third = record second { vars = take j names; target = t } in
        let opened = turn pointed third [] (arrow_step third pointed.at) in
        let outs_in = vars_get names are most third listed.BoneOuts outs_of_vars j m outs few_outs c within opened in
        record {
          marks = marks ++ g.at ∷ [];
          target = t;
          counted = length-append marks (g.at ∷ []);
          gets = closes outs_in (in_body names base m (marks ++ g.at ∷ []) (bones ++ Call id args t outs ∷ []) unclosed t) [] (outs_close (with_vars names third m outs));
        }

  abbrev text_of : ℕ → List Bone → List Symbol
  text_of size bones = bones_symbols base.def.hooks names size bones

  -- The branches of a branch bone, each of which reads as itself.
  module _ {from : Answer} {total : ℕ} (size : ℕ) (Good : List Bone → Type 0) (outer : List OpenBone) (below : List Expected)
      (inner : (branch : List Bone) → Good branch → (k m : ℕ) → Appear k (bones_vars size branch) m → m ≤ length names → (count : ℕ) → count + length branch ≤ 64 →
      (after : List Expected) (rest : List Symbol) (one : OpenBone) →
      Bones names base from total body_of.Branch after k count [] (one ∷ outer) (text_of size branch ++ rest) →
      Bones names base from total body_of.Branch after m (count + length branch) branch (one ∷ outer) rest) where
    end_branch : {e : Expected} {after : List Expected} {left : List Symbol} (one : OpenBone) (k count : ℕ) (current : List Bone) →
        Bones names base from total body_of.Branch (e ∷ after) k count current (one ∷ outer) (Plain RightBrace ∷ left) →
        ComesTo names base from total (e ∷ after) k count [] (ended one current ∷ outer) left
    end_branch one k count current b = record {
      marks = b.marks;
      target = b.target;
      counted = b.counted;
      gets = turn b.gets (in_body names base k b.marks [] (ended one current ∷ outer) b.target) [] (branch_closes (in_body names base k b.marks current (one ∷ outer) b.target) b.gets.at);
    }

    open_branch : {after : List Expected} {left : List Symbol} (one : OpenBone) (k count : ℕ) → length one.counts < 8 →
        ComesTo names base from total (expected.BranchOpen ∷ after) k count [] (one ∷ outer) (Plain LeftBrace ∷ left) →
        ComesTo names base from total after k count [] (one ∷ outer) left
    open_branch one k count few b = record {
      marks = b.marks;
      target = b.target;
      counted = b.counted;
      gets = turn b.gets (in_body names base k b.marks [] (one ∷ outer) b.target) [] (branch_opens (in_body names base k b.marks [] (one ∷ outer) b.target) b.gets.at one outer refl few);
    }

    rest_branches : (bs : List (List Bone)) → All Good bs → (k m count : ℕ) (current : List Bone) (one : OpenBone) {left : List Symbol} →
        Appear k (flat_map (bones_vars size) bs) m → m ≤ length names → count + many bs ≤ 64 → length one.counts + 1 + length bs ≤ 8 →
        Bones names base from total body_of.Branch (expected.OrMore ∷ below) k count current (one ∷ outer)
        (flat_map (λ branch. or_symbols ++ text_of size branch) bs ++ (Plain RightBrace ∷ Named (codes "with") ∷ left)) →
        ComesTo names base from total (expected.Open ∷ expected.First listed.Exports ∷ below) m (count + many bs) [] (all_ended one (current ∷ bs) ∷ outer) left
    rest_branches [] good k m count current one {left = left} appear within few_bones few b =
        let e = end_branch one k count current b in
        let here = in_body names base k e.marks [] (ended one current ∷ outer) e.target in
        let P : ℕ → Type 0 = λ n. ComesTo names base from total (expected.Open ∷ expected.First listed.Exports ∷ below) n (count + 0) [] (ended one current ∷ outer) left in
        subst P appear (record {
          marks = e.marks;
          target = e.target;
          counted = omega (arith, e.counted);
          gets = turn e.gets here (expected.Open ∷ expected.First listed.Exports ∷ []) (more_with here e.gets.at);
        })
    rest_branches (branch ∷ bs) good k m count current one {left = left} appear within few_bones few b =
        let flat = flat_map (λ branch. or_symbols ++ text_of size branch) bs in
        let end = Plain RightBrace ∷ Named (codes "with") ∷ left in
        let parts = appears k m (bones_vars size branch) (flat_map (bones_vars size) bs) appear in
        let least : parts.0 ≤ length names = omega (arith, appears_more parts.0 m (flat_map (bones_vars size) bs) parts.2, within) in
        let P : List Symbol → Type 0 = λ symbols. Bones names base from total body_of.Branch (expected.OrMore ∷ below) k count current (one ∷ outer) (Plain RightBrace ∷ Named (codes "or") ∷ Plain LeftBrace ∷ symbols) in
        let e = end_branch one k count current (subst P (append_assoc (text_of size branch) flat end) b) in
        let here = in_body names base k e.marks [] (ended one current ∷ outer) e.target in
        let gone : ComesTo names base from total (expected.BranchOpen ∷ expected.Bones body_of.Branch ∷ expected.OrMore ∷ below) k count [] (ended one current ∷ outer) (Plain LeftBrace ∷ (text_of size branch ++ (flat ++ end))) = record {
          marks = e.marks;
          target = e.target;
          counted = e.counted;
          gets = turn e.gets here (expected.BranchOpen ∷ expected.Bones body_of.Branch ∷ expected.OrMore ∷ []) (more_or here e.gets.at);
        } in
        let opened = open_branch (ended one current) k count (omega (arith, length-append one.counts (length current ∷ []), few)) gone in
        let read = inner branch (All-head Good branch bs good) k parts.0 parts.1 least count (omega (arith, few_bones)) (expected.OrMore ∷ below) (flat ++ end) (ended one current) opened in
        let Q : ℕ → Type 0 = λ n. ComesTo names base from total (expected.Open ∷ expected.First listed.Exports ∷ below) m n [] (all_ended one (current ∷ branch ∷ bs) ∷ outer) left in
        subst Q (omega arith)
        (rest_branches bs (All-tail Good branch bs good) parts.0 m (count + length branch) branch (ended one current) parts.2 within (omega (arith, few_bones)) (omega (arith, length-append one.counts (length current ∷ []), few)) read)

    all_branches : (bs : List (List Bone)) → 2 ≤ length bs → All Good bs → (k m count : ℕ) (one : OpenBone) {left : List Symbol} →
        Appear k (flat_map (bones_vars size) bs) m → m ≤ length names → count + many bs ≤ 64 → length one.counts + length bs ≤ 8 →
        ComesTo names base from total (expected.BranchOpen ∷ expected.Bones body_of.Branch ∷ expected.OrFirst ∷ expected.BranchOpen ∷ expected.Bones body_of.Branch ∷ expected.OrMore ∷ below) k count [] (one ∷ outer)
        (Plain LeftBrace ∷ (join_by (text_of size) or_symbols bs ++ (Plain RightBrace ∷ Named (codes "with") ∷ left))) →
        ComesTo names base from total (expected.Open ∷ expected.First listed.Exports ∷ below) m (count + many bs) [] (all_ended one bs ∷ outer) left
    all_branches [] two good k m count one appear within few_bones few b = absurd (omega (arith, two))
    all_branches (branch ∷ []) two good k m count one appear within few_bones few b = absurd (omega (arith, two))
    all_branches (branch ∷ second ∷ bs) two good k m count one {left = left} appear within few_bones few b =
        let flat = flat_map (λ branch. or_symbols ++ text_of size branch) bs in
        let end = Plain RightBrace ∷ Named (codes "with") ∷ left in
        let parts = appears k m (bones_vars size branch) (flat_map (bones_vars size) (second ∷ bs)) appear in
        let least : parts.0 ≤ length names = omega (arith, appears_more parts.0 m (flat_map (bones_vars size) (second ∷ bs)) parts.2, within) in
        let more = appears parts.0 m (bones_vars size second) (flat_map (bones_vars size) bs) parts.2 in
        let lesser : more.0 ≤ length names = omega (arith, appears_more more.0 m (flat_map (bones_vars size) bs) more.2, within) in
        let awaited = expected.Bones body_of.Branch ∷ expected.OrFirst ∷ expected.BranchOpen ∷ expected.Bones body_of.Branch ∷ expected.OrMore ∷ below in
        let P : List Symbol → Type 0 = λ symbols. ComesTo names base from total (expected.BranchOpen ∷ awaited) k count [] (one ∷ outer) (Plain LeftBrace ∷ symbols) in
        let group : (text_of size branch ++ ((or_symbols ++ text_of size second) ++ flat)) ++ end ≡ text_of size branch ++ (Plain RightBrace ∷ Named (codes "or") ∷ Plain LeftBrace ∷ (text_of size second ++ (flat ++ end))) =
        append_assoc (text_of size branch) ((or_symbols ++ text_of size second) ++ flat) end
        ∙ ap (λ symbols. text_of size branch ++ (Plain RightBrace ∷ Named (codes "or") ∷ Plain LeftBrace ∷ symbols)) (append_assoc (text_of size second) flat end) in
        let opened = open_branch one k count (omega (arith, few)) (subst P group b) in
        let read = inner branch (All-head Good branch (second ∷ bs) good) k parts.0 parts.1 least count (omega (arith, few_bones)) _
        (Plain RightBrace ∷ Named (codes "or") ∷ Plain LeftBrace ∷ (text_of size second ++ (flat ++ end))) one opened in
        let e = end_branch one parts.0 (count + length branch) branch read in
        let here = in_body names base parts.0 e.marks [] (ended one branch ∷ outer) e.target in
        let gone : ComesTo names base from total (expected.BranchOpen ∷ expected.Bones body_of.Branch ∷ expected.OrMore ∷ below) parts.0 (count + length branch) [] (ended one branch ∷ outer) (Plain LeftBrace ∷ (text_of size second ++ (flat ++ end))) = record {
          marks = e.marks;
          target = e.target;
          counted = e.counted;
          gets = turn e.gets here [] (first_or here e.gets.at);
        } in
        let again = open_branch (ended one branch) parts.0 (count + length branch) (omega (arith, length-append one.counts (length branch ∷ []), few)) gone in
        let tail = All-tail Good branch (second ∷ bs) good in
        let next = inner second (All-head Good second bs tail) parts.0 more.0 more.1 lesser (count + length branch) (omega (arith, few_bones)) (expected.OrMore ∷ below) (flat ++ end) (ended one branch) again in
        let Q : ℕ → Type 0 = λ n. ComesTo names base from total (expected.Open ∷ expected.First listed.Exports ∷ below) m n [] (all_ended one (branch ∷ second ∷ bs) ∷ outer) left in
        subst Q (omega arith)
        (rest_branches bs (All-tail Good second bs tail) more.0 m (count + length branch + length second) second (ended one branch) more.2 within (omega (arith, few_bones)) (omega (arith, length-append one.counts (length branch ∷ []), few)) next)

  -- what holds of each branch
  abbrev BranchGood : ℕ → ℕ → List Bone → Type 0
  BranchGood size nest branch = (length branch ≤ size) × BonesFit (length base.def.hooks) (length names) nest branch × All BoneIsShort branch

  module _ {from : Answer} {total : ℕ} where
    -- the bones so far and one more, and then the others
    again : (m count : ℕ) (body : Body) (below : List Expected) (left : List Symbol) (unclosed : List OpenBone) (bone : Bone) (bones done : List Bone) →
        Bones names base from total body below m (count + 1 + length bones) ((done ++ bone ∷ []) ++ bones) unclosed left →
        Bones names base from total body below m (count + length (bone ∷ bones)) (done ++ bone ∷ bones) unclosed left
    again m count body below left unclosed bone bones done b =
        let P : List Bone → Type 0 = λ bs. Bones names base from total body below m (count + 1 + length bones) bs unclosed left in
        let Q : ℕ → Type 0 = λ n. Bones names base from total body below m n (done ++ bone ∷ bones) unclosed left in
        let all : count + 1 + length bones ≡ count + length (bone ∷ bones) = omega arith in
        subst Q all (subst P (append_assoc done (bone ∷ []) bones) b)

    pub bones_get : (size nest : ℕ) (bones : List Bone) → length bones ≤ size → BonesFit (length base.def.hooks) (length names) nest bones → All BoneIsShort bones →
        (k m : ℕ) → Appear k (bones_vars size bones) m → m ≤ length names → (body : Body) (below : List Expected) (left : List Symbol) (done : List Bone) (unclosed : List OpenBone) (count : ℕ) →
        count + length bones ≤ 64 → length unclosed + nest ≤ 8 →
        Bones names base from total body below k count done unclosed (text_of size bones ++ left) →
        Bones names base from total body below m (count + length bones) (done ++ bones) unclosed left
    bones_get size nest [] few fits short k m appear within body below left done unclosed count most_bones deep b =
        let P : ℕ → Type 0 = λ n. Bones names base from total body below n (count + 0) (done ++ []) unclosed left in
        let Q : List Bone → Type 0 = λ bones. Bones names base from total body below k (count + 0) bones unclosed left in
        let R : ℕ → Type 0 = λ n. Bones names base from total body below k n done unclosed left in
        let none : count ≡ count + 0 = omega arith in
        subst P appear (subst Q (sym (append-nil done)) (subst R none b))
    bones_get zero nest (one ∷ bones) few fits short k m appear within body below left done unclosed count most_bones deep b = absurd (omega (arith, few))
    bones_get (suc size) nest (Apply f args outs ∷ bones) few (filter_bone p q r) short k m appear within body below left done unclosed count most_bones deep b =
        let here = All-head BoneIsShort (Apply f args outs) bones short in
        let first = appears k m args (outs ++ bones_vars size bones) appear in
        let second = appears first.0 m outs (bones_vars size bones) first.2 in
        let least : second.0 ≤ length names = omega (arith, appears_more second.0 m (bones_vars size bones) second.2, within) in
        let args_text = list_symbols (var_word names) args in
        let outs_text = list_symbols (var_word names) outs in
        let rest = text_of size bones in
        let group : (args_text ++ (Plain Points ∷ (outs_text ++ rest))) ++ left ≡ args_text ++ (Plain Points ∷ (outs_text ++ (rest ++ left))) =
        append_assoc args_text (Plain Points ∷ (outs_text ++ rest)) left ∙ ap (λ symbols. args_text ++ (Plain Points ∷ symbols)) (append_assoc outs_text rest left) in
        let one = one_filter body below (rest ++ left) b.marks done unclosed b.target (omega (arith, b.counted, most_bones)) k first.0 second.0 f args outs here.0 here.1 first.1 second.1 least
        (left_is b.gets (ap (λ symbols. Named (filter_word f) ∷ symbols) group)) in
        let P : ℕ → Type 0 = λ n. Bones names base from total body below second.0 n (done ++ Apply f args outs ∷ []) unclosed (rest ++ left) in
        let more = bones_get size nest bones (omega (arith, few)) r (All-tail BoneIsShort (Apply f args outs) bones short) second.0 m second.2 within body below left
        (done ++ Apply f args outs ∷ []) unclosed (count + 1) (omega (arith, most_bones)) deep (subst P (ap (λ n. n + 1) b.counted) one) in
        again m count body below left unclosed (Apply f args outs) bones done more
    bones_get (suc size) nest (Call id args t outs ∷ bones) few (hook_bone d p t_below q r) short k m appear within body below left done unclosed count most_bones deep b =
        let here = All-head BoneIsShort (Call id args t outs) bones short in
        let first = appears k m args (target_vars t ++ (outs ++ bones_vars size bones)) appear in
        let aimed = appears first.0 m (target_vars t) (outs ++ bones_vars size bones) first.2 in
        let second = appears aimed.0 m outs (bones_vars size bones) aimed.2 in
        let least : second.0 ≤ length names = omega (arith, appears_more second.0 m (bones_vars size bones) second.2, within) in
        let args_text = list_symbols (var_word names) args in
        let outs_text = list_symbols (var_word names) outs in
        let rest = text_of size bones in
        let group : (args_text ++ (Named (target_word names t) ∷ Plain Points ∷ (outs_text ++ rest))) ++ left ≡ args_text ++ (Named (target_word names t) ∷ Plain Points ∷ (outs_text ++ (rest ++ left))) =
        append_assoc args_text (Named (target_word names t) ∷ Plain Points ∷ (outs_text ++ rest)) left
        ∙ ap (λ symbols. args_text ++ (Named (target_word names t) ∷ Plain Points ∷ symbols)) (append_assoc outs_text rest left) in
        let one = one_call body below (rest ++ left) b.marks done unclosed b.target (omega (arith, b.counted, most_bones)) k first.0 aimed.0 second.0 id args t outs d here.0 here.1 first.1 aimed.1 second.1 least
        (left_is b.gets (ap (λ symbols. Named (hook_word base.def.hooks id) ∷ symbols) group)) in
        let P : ℕ → Type 0 = λ n. Bones names base from total body below second.0 n (done ++ Call id args t outs ∷ []) unclosed (rest ++ left) in
        let more = bones_get size nest bones (omega (arith, few)) r (All-tail BoneIsShort (Call id args t outs) bones short) second.0 m second.2 within body below left
        (done ++ Call id args t outs ∷ []) unclosed (count + 1) (omega (arith, most_bones)) deep (subst P (ap (λ n. n + 1) b.counted) one) in
        again m count body below left unclosed (Call id args t outs) bones done more
    bones_get (suc size) zero (Either counts exports ∷ bones) few fits short k m appear within body below left done unclosed count most_bones deep b = elim fits [ ]
    bones_get (suc size) (suc nest) (Either counts exports ∷ bones) few (branch_bone two enough p inside r) short k m appear within body below left done unclosed count most_bones deep b =
        let here = All-head BoneIsShort (Either counts exports) bones short in
        let shorter = All-tail BoneIsShort (Either counts exports) bones short in
        let bs = branches counts bones in
        let later = after_branches counts bones in
        let fewer : length bones ≤ size = omega (arith, few) in
        let first = appears k m (flat_map (bones_vars size) bs) (exports ++ bones_vars size later) appear in
        let second = appears first.0 m exports (bones_vars size later) first.2 in
        let least : second.0 ≤ length names = omega (arith, appears_more second.0 m (bones_vars size later) second.2, within) in
        let lesser : first.0 ≤ length names = omega (arith, appears_more first.0 second.0 exports second.1, least) in
        let exports_text = list_symbols (var_word names) exports in
        let rest = text_of size later in
        let joined = join_by (text_of size) or_symbols bs in
        let end = Plain RightBrace ∷ Named (codes "with") ∷ (exports_text ++ (rest ++ left)) in
        let group : (joined ++ (Plain RightBrace ∷ Named (codes "with") ∷ (exports_text ++ rest))) ++ left ≡ joined ++ end =
        append_assoc joined (Plain RightBrace ∷ Named (codes "with") ∷ (exports_text ++ rest)) left
        ∙ ap (λ symbols. joined ++ (Plain RightBrace ∷ Named (codes "with") ∷ symbols)) (append_assoc exports_text rest left) in
        let start = in_body names base k b.marks done unclosed b.target in
        let g : Gets from total (expected.Bones body ∷ below) start (Named (codes "either") ∷ Plain LeftBrace ∷ (joined ++ end)) =
        left_is b.gets (ap (λ symbols. Named (codes "either") ∷ Plain LeftBrace ∷ symbols) group) in
        let marked = b.marks ++ g.at ∷ [] in
        let opened : OpenBone = record { before = done; counts = []; inside = [] } in
        let below_branches = expected.BranchOpen ∷ expected.Bones body_of.Branch ∷ expected.OrFirst ∷ expected.BranchOpen ∷ expected.Bones body_of.Branch ∷ expected.OrMore ∷ expected.Bones body ∷ [] in
        let begun : ComesTo names base from total (below_branches ++ below) k (count + 1) [] (opened ∷ unclosed) (Plain LeftBrace ∷ (joined ++ end)) = record {
          marks = marked;
          target = b.target;
          counted = omega (arith, length-append b.marks (g.at ∷ []), b.counted);
          gets = turn g (in_body names base k marked [] (opened ∷ unclosed) b.target) below_branches
              (begins start body g.at (codes "either") opening.Branches (opens_branches base.def.hooks) refl (omega (arith, b.counted, most_bones)) ∙ branches_begin start g.at below_branches (omega (arith, deep)));
        } in
        let sizes : many bs ≡ sum counts = many_counts counts bones enough in
        let good : All (BranchGood size nest) bs = λ i d within. (branches_few counts bones size fewer i d within, branches_fit counts bones inside i d within, branches_short counts bones shorter i d within) in
        let read = all_branches size (BranchGood size nest) unclosed (expected.Bones body ∷ below)
        (λ (branch : List Bone) (g : BranchGood size nest branch) (k m : ℕ) (a : Appear k (bones_vars size branch) m) (w : m ≤ length names) (count : ℕ) (c : count + length branch ≤ 64) (after : List Expected) (rest : List Symbol) (one : OpenBone)
        (start : Bones names base from total body_of.Branch after k count [] (one ∷ unclosed) (text_of size branch ++ rest)).
        bones_get size nest branch g.0 g.1 g.2 k m a w body_of.Branch after rest [] (one ∷ unclosed) count c (omega (arith, deep)) start)
        bs (omega (arith, branch_count counts bones, two)) good k first.0 (count + 1) opened first.1 lesser (omega (arith, sizes, enough, most_bones)) (omega (arith, branch_count counts bones, here.0)) begun in
        let one = all_ended opened bs in
        let exports_in = vars_get names are most (in_body names base first.0 read.marks [] (one ∷ unclosed) read.target) listed.Exports exports_of_vars first.0 second.0 exports here.1 second.1 least read.gets in
        let closed_one = closes exports_in (in_body names base second.0 read.marks (one.before ++ Either one.counts exports ∷ one.inside) unclosed read.target) []
        (exports_close (with_vars names (in_body names base first.0 read.marks [] (one ∷ unclosed) read.target) second.0 exports) one unclosed refl
        (omega (arith, ap length (ended_counts opened counts bones enough), two))) in
        let whole : one.before ++ Either one.counts exports ∷ one.inside ≡ done ++ Either counts exports ∷ take (sum counts) bones =
        ap (λ bs. bs ++ Either one.counts exports ∷ one.inside) (ended_before opened bs)
        ∙ ap (λ (cs : List ℕ). done ++ Either cs exports ∷ one.inside) (ended_counts opened counts bones enough)
        ∙ ap (λ inside. done ++ Either counts exports ∷ inside) (ended_inside opened counts bones) in
        let P : List Bone → Type 0 = λ bones. Gets from total (expected.Bones body ∷ below) (in_body names base second.0 read.marks bones unclosed read.target) (rest ++ left) in
        let read_bone : Bones names base from total body below second.0 (count + 1 + sum counts) (done ++ Either counts exports ∷ take (sum counts) bones) unclosed (rest ++ left) = record {
          marks = read.marks;
          target = read.target;
          counted = omega (arith, read.counted, sizes);
          gets = subst P whole closed_one;
        } in
        let more = bones_get size (suc nest) later (omega (arith, length-drop (sum counts) bones, fewer)) r (All-drop BoneIsShort (sum counts) bones shorter) second.0 m second.2 within body below left
        (done ++ Either counts exports ∷ take (sum counts) bones) unclosed (count + 1 + sum counts) (omega (arith, length-drop (sum counts) bones, enough, most_bones)) deep read_bone in
        let all : (done ++ Either counts exports ∷ take (sum counts) bones) ++ later ≡ done ++ Either counts exports ∷ bones =
        append_assoc done (Either counts exports ∷ take (sum counts) bones) later ∙ ap (λ bs. done ++ Either counts exports ∷ bs) (take-append-drop (sum counts) bones) in
        let Q : List Bone → Type 0 = λ bs. Bones names base from total body below m (count + 1 + sum counts + length later) bs unclosed left in
        let R : ℕ → Type 0 = λ n. Bones names base from total body below m n (done ++ Either counts exports ∷ bones) unclosed left in
        subst R (omega (arith, length-drop (sum counts) bones, enough)) (subst Q all more)
