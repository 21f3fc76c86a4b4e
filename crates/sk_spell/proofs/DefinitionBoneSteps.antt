-- What the steps of a reading at bones tell of their symbols.
use Rattle.std.proofs.Common.{◌≡◌, ◌⊎◌, inl, inr, ℕ, nat_lt, Bool, true, false, cond, if◌then◌else◌, List, [], ◌∷◌, ◌++◌, length, map, refl, sym, ap, subst, ◌∙◌, Option, Some, None, Ok, Err}
use Rattle.std.specs.Prelude.{codes, find, option_map}
use Rattle.std.specs.Str.{bytes_eq}
use Rattle.std.proofs.lemmas.Option.{same_Some}
use Rattle.std.proofs.lemmas.Slice.Eq.{bytes_eq-Decides}
use Rattle.sk_base.specs.Names.{with_name}
use Rattle.sk_lex.specs.Run.{Turn, IsFrontOf}
use Rattle.sk_lex.specs.Symbols.{Symbol, Named, Plain, word_of, is_left_brace, is_right_brace}
use Rattle.sk_lex.specs.declared.token.TokenKind.TheVariants as token
use Rattle.sk_def.specs.Filters.{filter_word, filter_named, all_filters}
use Rattle.sk_def.specs.Named.{place_of_hook}
use Rattle.sk_def.specs.declared.filter.Filter.{Filter}
use Rattle.sk_def.specs.declared.def.Hook.{Hook}
use Rattle.sk_def.specs.declared.bone.Target.{Target}
use Rattle.sk_def.specs.declared.bone.Target.TheVariants.{Own, Sub}
use Rattle.sk_def.specs.declared.bone.Bone.TheVariants.{Either}
use Rattle.sk_deftext.specs.Bodies as spec
use Rattle.sk_deftext.specs.Bodies.{bone, opening_of, target, closing_brace, or_first, or_more}
use Rattle.sk_deftext.specs.Canonical.{hook_word, target_word}
use Rattle.sk_deftext.specs.Met.{met}
use Rattle.sk_deftext.specs.Reading.{step, closed}
use Rattle.sk_deftext.specs.Words.{keyword_of, keyword_in}
use Rattle.sk_deftext.specs.declared.bone.Opening.{Opening}
use Rattle.sk_deftext.specs.declared.bone.Opening.TheVariants as opening
use Rattle.sk_deftext.specs.declared.draft.Draft.{Draft}
use Rattle.sk_deftext.specs.declared.draft.OpenBone.{OpenBone}
use Rattle.sk_deftext.specs.declared.expected.Body.{Body}
use Rattle.sk_deftext.specs.declared.expected.Body.TheVariants as body_of
use Rattle.sk_deftext.specs.declared.expected.Expected.{Expected}
use Rattle.sk_deftext.specs.declared.expected.Expected.TheVariants as expected
use Rattle.sk_deftext.specs.declared.expected.Listed.TheVariants as listed
use Rattle.sk_deftext.specs.declared.fault.DefError.TheVariants.{Unexpected, TooMany}
use Rattle.sk_deftext.specs.declared.fault.Which.TheVariants as which
use Rattle.sk_deftext.specs.declared.word.Keyword.{Keyword}
use Rattle.sk_deftext.specs.declared.word.Keyword.TheVariants as keyword
use Rattle.sk_deftext.proofs.Found.{hook_place}
use Rattle.sk_deftext.proofs.Said.{hook_word_is}
use Rattle.sk_spell.proofs.SymbolForms.{left_brace_is}
use Rattle.sk_spell.proofs.DefinitionSymbols.{keyword_word_is, keyword_is}
use Rattle.sk_spell.proofs.DefinitionVars.{front_of_itself, found_word, name_added}

-- Words.

found_holds : {A : Type 0} (p : A → Bool) (xs : List A) (x : A) → find p xs ≡ Some x → p x ≡ true
found_holds p [] x e = absurd (cc e)
found_holds p (y ∷ ys) x e = by (p y) refl e (found_holds p ys x) where
  by : (b : Bool) → p y ≡ b → cond b (Some y) (find p ys) ≡ Some x → (find p ys ≡ Some x → p x ≡ true) → p x ≡ true
  by true h e again = subst (λ z. p z ≡ true) (same_Some y x e) h
  by false h e again = again e

filter_is : (word : List ℕ) (f : Filter) → filter_named word ≡ Some f → word ≡ filter_word f
filter_is word f e = sym ((bytes_eq-Decides (filter_word f) word).0 (found_holds (λ f. bytes_eq (filter_word f) word) all_filters f e))

hook_is : (hooks : List Hook) (word : List ℕ) (place : ℕ) → place_of_hook hooks word ≡ Some place → word ≡ hook_word hooks (record { 0 = place })
hook_is hooks word place e =
    sym (hook_word_is hooks (record { 0 = place }) ∙ found_word (map (λ (hook : Hook). hook.name) hooks) word place (sym (hook_place hooks word) ∙ e))

-- what a word is that opens so
abbrev pub Opens : List Hook → List ℕ → Opening → Type 0
Opens hooks word (opening.Filter f) = word ≡ filter_word f
Opens hooks word (opening.Hook id) = word ≡ hook_word hooks id
Opens hooks word opening.Branches = word ≡ codes "either"
Opens hooks word opening.Keyword = Unit {0}
Opens hooks word opening.Unknown = Unit {0}

-- a word is what it opens
pub opens : (hooks : List Hook) (word : List ℕ) → Opens hooks word (opening_of hooks word)
unfolding opening_of
opens hooks word = by (filter_named word) (keyword_of word) (place_of_hook hooks word) refl refl refl where
  by : (f : Option Filter) (k : Option Keyword) (p : Option ℕ) → filter_named word ≡ f → keyword_of word ≡ k → place_of_hook hooks word ≡ p →
      Opens hooks word (spec.opened_by f k (option_map (λ place. record { 0 = place }) p))
  by (Some f) k p e g h = filter_is word f e
  by None (Some keyword.Either) p e g h = keyword_word_is word keyword.Either g
  by None (Some other) p e g h = tt
  by None None (Some place) e g h = hook_is hooks word place h
  by None None None e g h = tt

-- Steps.

-- a bone begins with a word
pub record BoneBegins (draft : Draft) (body : Body) (at : ℕ) (symbol : Symbol) : Type 0 where
  pub word : List ℕ
  pub symbol_is : symbol ≡ Named word
  pub met_so : step draft (expected.Bones body) at symbol ≡ spec.begun draft body at (opening_of draft.def.hooks word)

-- where the bones don't end, one begins
pub bone_begins : (draft : Draft) (body : Body) (at : ℕ) (symbol : Symbol) (turn : Turn Expected Draft) → is_right_brace symbol ≡ false → step draft (expected.Bones body) at symbol ≡ Ok turn →
    BoneBegins draft body at symbol
unfolding step bone
bone_begins draft body at (Plain kind) turn e h = absurd (cc (sym (ap (λ b. if b then closing_brace draft body else Err Unexpected) e) ∙ h))
bone_begins draft body at (Named word) turn e h = by (spec.may_begin (opening_of draft.def.hooks word) (nat_lt (length draft.marks) 64)) refl where
  so : step draft (expected.Bones body) at (Named word)
      ≡ (if spec.may_begin (opening_of draft.def.hooks word) (nat_lt (length draft.marks) 64) then spec.begun draft body at (opening_of draft.def.hooks word) else Err (TooMany which.Bones))
  so = refl

  by : (b : Bool) → spec.may_begin (opening_of draft.def.hooks word) (nat_lt (length draft.marks) 64) ≡ b → BoneBegins draft body at (Named word)
  by true m = record {
    word = word;
    symbol_is = refl;
    met_so = so ∙ ap (λ b. if b then spec.begun draft body at (opening_of draft.def.hooks word) else Err (TooMany which.Bones)) m;
  }
  by false m = absurd (cc (sym (so ∙ ap (λ b. if b then spec.begun draft body at (opening_of draft.def.hooks word) else Err (TooMany which.Bones)) m) ∙ h))

-- the branches of a branch bone begin
pub branches_begin : (draft : Draft) (at : ℕ) (form : List Expected) (turn : Turn Expected Draft) → spec.with_branches draft at form ≡ Ok turn →
    spec.with_branches draft at form ≡ met (record draft { unclosed = record { before = draft.bones; counts = []; inside = [] } ∷ draft.unclosed; bones = []; marks = draft.marks ++ at ∷ [] }) form
branches_begin draft at form turn h = by (nat_lt (length draft.unclosed) 8) refl where
  after : Draft
  after = record draft { unclosed = record { before = draft.bones; counts = []; inside = [] } ∷ draft.unclosed; bones = []; marks = draft.marks ++ at ∷ [] }

  by : (b : Bool) → nat_lt (length draft.unclosed) 8 ≡ b → spec.with_branches draft at form ≡ met after form
  by true m = ap (λ b. if b then met after form else Err (TooMany which.Nesting)) m
  by false m = absurd (cc (sym (ap (λ b. if b then met after form else Err (TooMany which.Nesting)) m) ∙ h))

-- a branch begins at a left brace
pub branch_begins : (draft : Draft) (one : OpenBone) (outer : List OpenBone) (at : ℕ) (symbol : Symbol) (turn : Turn Expected Draft) → draft.unclosed ≡ one ∷ outer →
    step draft expected.BranchOpen at symbol ≡ Ok turn →
    (symbol ≡ Plain token.LeftBrace) × (step draft expected.BranchOpen at symbol ≡ met draft [])
unfolding step
branch_begins draft one outer at symbol turn u h = by (is_left_brace symbol) (nat_lt (length one.counts) 8) refl refl where
  so : step draft expected.BranchOpen at symbol ≡ (if is_left_brace symbol then (if nat_lt (length one.counts) 8 then met draft [] else Err (TooMany which.Branches)) else Err Unexpected)
  so = ap (λ unclosed. if is_left_brace symbol then spec.branch_begun draft unclosed else Err Unexpected) u

  by : (b c : Bool) → is_left_brace symbol ≡ b → nat_lt (length one.counts) 8 ≡ c → (symbol ≡ Plain token.LeftBrace) × (step draft expected.BranchOpen at symbol ≡ met draft [])
  by true true e f = (left_brace_is symbol e, so ∙ rw (e, f) refl)
  by true false e f = absurd (cc (e, f, so, h))
  by false c e f = absurd (cc (e, so, h))

-- a branch ends at its right brace
pub branch_ends : (draft : Draft) (at : ℕ) → step draft (expected.Bones body_of.Branch) at (Plain token.RightBrace) ≡ spec.branch_ended draft draft.unclosed
unfolding step closing_brace
branch_ends draft at = refl

-- `or` after the first branch
pub first_or_met : (draft : Draft) (at : ℕ) (symbol : Symbol) (turn : Turn Expected Draft) → step draft expected.OrFirst at symbol ≡ Ok turn →
    (symbol ≡ Named (codes "or")) × (step draft expected.OrFirst at symbol ≡ met draft [])
unfolding step or_first
first_or_met draft at symbol turn h = by (keyword_in (word_of symbol)) refl h where
  by : (k : Option Keyword) → keyword_in (word_of symbol) ≡ k → or_first draft k ≡ Ok turn → (symbol ≡ Named (codes "or")) × (or_first draft (keyword_in (word_of symbol)) ≡ met draft [])
  by (Some keyword.Or) e h = (keyword_is symbol keyword.Or e, ap (or_first draft) e)
  by other e h = absurd (cc h)

-- `or` or `with` after a later branch
pub more_or_met : (draft : Draft) (at : ℕ) (symbol : Symbol) (turn : Turn Expected Draft) → step draft expected.OrMore at symbol ≡ Ok turn →
    ((symbol ≡ Named (codes "or")) × (step draft expected.OrMore at symbol ≡ met draft (expected.BranchOpen ∷ expected.Bones body_of.Branch ∷ expected.OrMore ∷ [])))
    ⊎ ((symbol ≡ Named (codes "with")) × (step draft expected.OrMore at symbol ≡ met draft (expected.Open ∷ expected.First listed.Exports ∷ [])))
unfolding step or_more
more_or_met draft at symbol turn h = by (keyword_in (word_of symbol)) refl h where
  by : (k : Option Keyword) → keyword_in (word_of symbol) ≡ k → or_more draft k ≡ Ok turn →
      ((symbol ≡ Named (codes "or")) × (or_more draft (keyword_in (word_of symbol)) ≡ met draft (expected.BranchOpen ∷ expected.Bones body_of.Branch ∷ expected.OrMore ∷ [])))
      ⊎ ((symbol ≡ Named (codes "with")) × (or_more draft (keyword_in (word_of symbol)) ≡ met draft (expected.Open ∷ expected.First listed.Exports ∷ [])))
  by (Some keyword.Or) e h = inl (keyword_is symbol keyword.Or e, ap (or_more draft) e)
  by (Some keyword.With) e h = inr (keyword_is symbol keyword.With e, ap (or_more draft) e)
  by other e h = absurd (cc h)

-- The term that a hook bone evaluates was met: `self`, or a variable that is among the names now.
pub record TargetMet (draft : Draft) (at : ℕ) (symbol : Symbol) : Type 0 where
  pub target : Target
  pub vars : List (List ℕ)
  pub grown : IsFrontOf draft.vars vars
  pub symbol_is : (names : List (List ℕ)) → IsFrontOf vars names → symbol ≡ Named (target_word names target)
  pub met_so : step (record draft { target = Own }) expected.BoneTarget at symbol ≡ met (record draft { vars = vars; target = target }) []

target_added : (draft : Draft) (at : ℕ) (word : List ℕ) (turn : Turn Expected Draft) (o : Option (ℕ × List (List ℕ))) → with_name draft.vars word ≡ o →
    step (record draft { target = Own }) expected.BoneTarget at (Named word) ≡ spec.with_target (record draft { target = Own }) o →
    step (record draft { target = Own }) expected.BoneTarget at (Named word) ≡ Ok turn →
    TargetMet draft at (Named word)
target_added draft at word turn None w e h = absurd (cc (sym e ∙ h))
target_added draft at word turn (Some (place, vars)) w e h =
    let added = name_added draft.vars word place vars w in
    record {
      target = Sub (record { 0 = place });
      vars = vars;
      grown = added.grown;
      symbol_is = λ names f. ap Named (sym (added.word_is names f));
      met_so = e;
    }

target_by : (draft : Draft) (at : ℕ) (word : List ℕ) (turn : Turn Expected Draft) (k : Option Keyword) → keyword_of word ≡ k →
    step (record draft { target = Own }) expected.BoneTarget at (Named word) ≡ spec.target_word (record draft { target = Own }) word k →
    step (record draft { target = Own }) expected.BoneTarget at (Named word) ≡ Ok turn →
    TargetMet draft at (Named word)
target_by draft at word turn None k e h = target_added draft at word turn (with_name draft.vars word) refl e h
target_by draft at word turn (Some keyword.Own) k e h = record {
  target = Own;
  vars = draft.vars;
  grown = front_of_itself draft.vars;
  symbol_is = λ names f. ap Named (keyword_word_is word keyword.Own k);
  met_so = e;
}
target_by draft at word turn (Some other) k e h = absurd (cc (sym e ∙ h))

-- the term of a hook bone was met
pub target_met : (draft : Draft) (at : ℕ) (symbol : Symbol) (turn : Turn Expected Draft) → step (record draft { target = Own }) expected.BoneTarget at symbol ≡ Ok turn → TargetMet draft at symbol
unfolding step target
target_met draft at (Named word) turn h = target_by draft at word turn (keyword_of word) refl refl h
target_met draft at (Plain kind) turn h = absurd (cc h)

-- the arguments of a filter or hook bone end
pub args_end : (draft : Draft) → closed draft listed.BoneArgs ≡ met (spec.with_args draft) []
unfolding closed
args_end draft = refl

-- its results end, and the bone with them
pub outs_end : (draft : Draft) → closed draft listed.BoneOuts ≡ spec.finished_bone draft draft.opened
unfolding closed
outs_end draft = refl

-- the exports of a branch bone end, and the bone with them
pub exports_end : (draft : Draft) (one : OpenBone) (outer : List OpenBone) (turn : Turn Expected Draft) → draft.unclosed ≡ one ∷ outer → closed draft listed.Exports ≡ Ok turn →
    closed draft listed.Exports ≡ met (record draft { bones = one.before ++ Either one.counts draft.listed ∷ one.inside; unclosed = outer; listed = [] }) []
unfolding closed
exports_end draft one outer turn u h = by (nat_lt (length one.counts) 2) refl where
  after : Draft
  after = record draft { bones = one.before ++ Either one.counts draft.listed ∷ one.inside; unclosed = outer; listed = [] }

  by : (b : Bool) → nat_lt (length one.counts) 2 ≡ b → closed draft listed.Exports ≡ met after []
  by true m = absurd (cc (sym (ap (spec.finished_branches draft) u ∙ ap (λ b. if b then Err Unexpected else met after []) m) ∙ h))
  by false m = ap (spec.finished_branches draft) u ∙ ap (λ b. if b then Err Unexpected else met after []) m
