-- A filter or hook bone that was read: what it took is what the bone spells.
use Rattle.std.proofs.Common.{◌≡◌, ℕ, suc, ◌<◌, ◌≤◌, List, [], ◌∷◌, ◌++◌, length, refl, sym, ap, ◌∙◌, arith, append_assoc, length-append, Some}
use Rattle.sk_lex.specs.Run.{IsFrontOf}
use Rattle.sk_lex.specs.Symbols.{Symbol, Named, Plain}
use Rattle.sk_lex.specs.declared.token.TokenKind.TheVariants.{Arrow as Points}
use Rattle.sk_def.specs.Filters.{filter_word}
use Rattle.sk_def.specs.declared.filter.Filter.{Filter}
use Rattle.sk_def.specs.declared.ids.Var.{Var}
use Rattle.sk_def.specs.declared.ids.HookId.{HookId}
use Rattle.sk_def.specs.declared.bone.Bone.{Bone}
use Rattle.sk_def.specs.declared.bone.Bone.TheVariants.{Apply, Call}
use Rattle.sk_def.specs.declared.bone.Target.{Target}
use Rattle.sk_def.specs.declared.bone.Target.TheVariants.{Own}
use Rattle.sk_deftext.specs.Bodies as spec
use Rattle.sk_deftext.specs.Canonical.{var_word, target_word, hook_word}
use Rattle.sk_deftext.specs.Spelling.{list_symbols, bones_symbols}
use Rattle.sk_deftext.specs.declared.draft.Draft.{Draft}
use Rattle.sk_deftext.specs.declared.draft.OpenBone.{OpenBone}
use Rattle.sk_deftext.specs.declared.draft.BoneHead.{BoneHead}
use Rattle.sk_deftext.specs.declared.draft.BoneHead.TheVariants as head
use Rattle.sk_deftext.specs.declared.expected.Body.{Body}
use Rattle.sk_deftext.specs.declared.expected.Expected.{Expected}
use Rattle.sk_deftext.specs.declared.expected.Expected.TheVariants as expected
use Rattle.sk_deftext.specs.declared.expected.Listed.TheVariants as listed
use Rattle.sk_deftext.proofs.Steps.{args_of_vars, outs_of_vars}
use Rattle.sk_spell.proofs.DefinitionRuns.{Final, Reads, Took, took, goes_on, ends_so, VarsRead}
use Rattle.sk_spell.proofs.DefinitionVars.{front_of_itself, front_of_longer, vars_read}
use Rattle.sk_spell.proofs.DefinitionSymbols.{arrow_taken}
use Rattle.sk_spell.proofs.DefinitionBones.{between}
use Rattle.sk_spell.proofs.DefinitionBoneSteps.{TargetMet, target_met, args_end, outs_end}

-- a draft in a filter or hook bone, whose arguments and term are these
abbrev pub in_bone : Draft → List (List ℕ) → List ℕ → List Bone → List OpenBone → BoneHead → List Var → Target → Draft
in_bone base vars marks bones unclosed first args target = record base {
  vars = vars;
  marks = marks;
  bones = bones;
  unclosed = unclosed;
  opened = Some first;
  bone_args = args;
  target = target;
  listed = [];
}

-- what is expected after a bone's arguments and its term
abbrev outs_form : Body → List Expected → List Expected
outs_form body below = expected.Arrow ∷ expected.Open ∷ expected.First listed.BoneOuts ∷ expected.Bones body ∷ below

-- The bone after those before was read, with the bones of its branches: its symbols are its own, where the bones after it
-- are spelled by the rest.
pub record OneRead (final : Final) (body : Body) (below : List Expected) (base : Draft) (vars_before : List (List ℕ))
    (before : List Bone) (unclosed : List OpenBone) (symbols : List Symbol) : Type 0 where
  pub bone : Bone
  pub inside : List Bone
  pub vars : List (List ℕ)
  pub marks : List ℕ
  pub target : Target
  pub left : List Symbol
  pub grown : IsFrontOf vars_before vars
  pub symbols_are : (names : List (List ℕ)) → IsFrontOf vars names → (size : ℕ) (later : List Bone) (after : List Symbol) → length inside ≤ size →
      left ≡ bones_symbols base.def.hooks names size later ++ after →
      symbols ≡ bones_symbols base.def.hooks names (suc size) (bone ∷ (inside ++ later)) ++ after
  pub fewer : length left < length symbols
  pub reads : Reads final (expected.Bones body ∷ below) (between base vars marks (before ++ bone ∷ inside) unclosed target) left

module _ (final : Final) (body : Body) (below : List Expected) (base : Draft) (marks : List ℕ) (before : List Bone) (unclosed : List OpenBone) (first : BoneHead) where
  -- the arguments of a filter or hook bone were read
  record ArgsRead (vars_before : List (List ℕ)) (more : List Expected) (symbols : List Symbol) : Type 0 where
    args : List Var
    vars : List (List ℕ)
    left : List Symbol
    grown : IsFrontOf vars_before vars
    symbols_are : (names : List (List ℕ)) → IsFrontOf vars names → symbols ≡ list_symbols (var_word names) args ++ left
    reads : Reads final more (in_bone base vars marks before unclosed first args Own) left

  args_from : (vars : List (List ℕ)) (more : List Expected) (symbols : List Symbol) →
      VarsRead final listed.BoneArgs more (in_bone base vars marks before unclosed first [] Own) symbols → ArgsRead vars more symbols
  args_from vars more symbols v = record {
    args = v.listed;
    vars = v.vars;
    left = v.left;
    grown = v.grown;
    symbols_are = v.symbols_are;
    reads = ends_so v.ended (in_bone base v.vars marks before unclosed first v.listed Own) [] (args_end (record (in_bone base v.vars marks before unclosed first [] Own) { listed = v.listed }));
  }

  args_read : (vars : List (List ℕ)) (more : List Expected) (symbols : List Symbol) →
      Reads final (expected.Open ∷ expected.First listed.BoneArgs ∷ more) (in_bone base vars marks before unclosed first [] Own) symbols → ArgsRead vars more symbols
  args_read vars more symbols r = args_from vars more symbols (vars_read args_of_vars refl r)

  -- the arrow and the results, after which the bone stands among the others
  record OutsRead (args : List Var) (target : Target) (vars_before : List (List ℕ)) (symbols : List Symbol) : Type 0 where
    outs : List Var
    vars : List (List ℕ)
    left : List Symbol
    grown : IsFrontOf vars_before vars
    symbols_are : (names : List (List ℕ)) → IsFrontOf vars names → symbols ≡ Plain Points ∷ (list_symbols (var_word names) outs ++ left)
    reads : Reads final (expected.Bones body ∷ below) (between base vars marks (before ++ spec.bone_of first args target outs ∷ []) unclosed target) left

  outs_from : (args : List Var) (target : Target) (vars : List (List ℕ)) (symbols pointed : List Symbol) → symbols ≡ Plain Points ∷ pointed →
      VarsRead final listed.BoneOuts (expected.Bones body ∷ below) (in_bone base vars marks before unclosed first args target) pointed → OutsRead args target vars symbols
  outs_from args target vars symbols pointed e v = record {
    outs = v.listed;
    vars = v.vars;
    left = v.left;
    grown = v.grown;
    symbols_are = λ names f. e ∙ ap (λ rest. Plain Points ∷ rest) (v.symbols_are names f);
    reads = ends_so v.ended (between base v.vars marks (before ++ spec.bone_of first args target v.listed ∷ []) unclosed target) []
        (outs_end (record (in_bone base v.vars marks before unclosed first args target) { listed = v.listed }));
  }

  outs_read : (args : List Var) (target : Target) (vars : List (List ℕ)) (symbols : List Symbol) →
      Reads final (outs_form body below) (in_bone base vars marks before unclosed first args target) symbols → OutsRead args target vars symbols
  outs_read args target vars symbols r =
      let t = arrow_taken r in
      outs_from args target vars symbols t.0 t.1 (vars_read outs_of_vars refl t.2)

  -- the term of a hook bone was read
  record TargetRead (args : List Var) (vars_before : List (List ℕ)) (more : List Expected) (symbols : List Symbol) : Type 0 where
    target : Target
    vars : List (List ℕ)
    left : List Symbol
    grown : IsFrontOf vars_before vars
    symbols_are : (names : List (List ℕ)) → IsFrontOf vars names → symbols ≡ Named (target_word names target) ∷ left
    reads : Reads final more (in_bone base vars marks before unclosed first args target) left

  target_from : (args : List Var) (vars : List (List ℕ)) (more : List Expected) (symbols : List Symbol)
      (t : Took final expected.BoneTarget more (in_bone base vars marks before unclosed first args Own) symbols) →
      TargetMet (in_bone base vars marks before unclosed first args Own) t.at t.symbol → TargetRead args vars more symbols
  target_from args vars more symbols t m = record {
    target = m.target;
    vars = m.vars;
    left = t.left;
    grown = m.grown;
    symbols_are = λ names f. t.symbols_are ∙ ap (λ symbol. symbol ∷ t.left) (m.symbol_is names f);
    reads = goes_on t (in_bone base m.vars marks before unclosed first args m.target) [] m.met_so;
  }

  target_read : (args : List Var) (vars : List (List ℕ)) (more : List Expected) (symbols : List Symbol) →
      Reads final (expected.BoneTarget ∷ more) (in_bone base vars marks before unclosed first args Own) symbols → TargetRead args vars more symbols
  target_read args vars more symbols r =
      let t = took refl r in
      target_from args vars more symbols t (target_met (in_bone base vars marks before unclosed first args Own) t.at t.symbol t.turn t.met_is)

module _ (final : Final) (body : Body) (below : List Expected) (base : Draft) (marks : List ℕ) (before : List Bone) (unclosed : List OpenBone) where
  filter_from : (f : Filter) (vars : List (List ℕ)) (symbols rest : List Symbol) → symbols ≡ Named (filter_word f) ∷ rest →
      (a : ArgsRead final body below base marks before unclosed (head.Filter f) vars (outs_form body below) rest) →
      OutsRead final body below base marks before unclosed (head.Filter f) a.args Own a.vars a.left → OneRead final body below base vars before unclosed symbols
  filter_from f vars symbols rest e a o = record {
    bone = Apply f a.args o.outs;
    inside = [];
    vars = o.vars;
    marks = marks;
    target = Own;
    left = o.left;
    grown = front_of_longer a.grown o.grown;
    symbols_are = λ names g size later after room l.
        let args = list_symbols (var_word names) a.args in
        let outs = list_symbols (var_word names) o.outs in
        let rest = bones_symbols base.def.hooks names size later in
        e ∙ ap (λ rest. Named (filter_word f) ∷ rest)
        (a.symbols_are names (front_of_longer o.grown g)
        ∙ ap (λ rest. args ++ rest) (o.symbols_are names g ∙ ap (λ rest. Plain Points ∷ (outs ++ rest)) l)
        ∙ sym (append_assoc args (Plain Points ∷ (outs ++ rest)) after ∙ ap (λ rest. args ++ (Plain Points ∷ rest)) (append_assoc outs rest after)));
    fewer =
        omega (
          arith,
          ap length e,
          ap length (a.symbols_are o.vars o.grown),
          length-append (list_symbols (var_word o.vars) a.args) a.left,
          ap length (o.symbols_are o.vars (front_of_itself o.vars)),
          length-append (list_symbols (var_word o.vars) o.outs) o.left,
        );
    reads = o.reads;
  }

  -- a filter bone was read, after its word
  pub filter_read : (f : Filter) (vars : List (List ℕ)) (symbols rest : List Symbol) → symbols ≡ Named (filter_word f) ∷ rest →
      Reads final (expected.Open ∷ expected.First listed.BoneArgs ∷ outs_form body below) (in_bone base vars marks before unclosed (head.Filter f) [] Own) rest →
      OneRead final body below base vars before unclosed symbols
  filter_read f vars symbols rest e r =
      let a = args_read final body below base marks before unclosed (head.Filter f) vars (outs_form body below) rest r in
      filter_from f vars symbols rest e a (outs_read final body below base marks before unclosed (head.Filter f) a.args Own a.vars a.left a.reads)

  call_from : (id : HookId) (vars : List (List ℕ)) (symbols rest : List Symbol) → symbols ≡ Named (hook_word base.def.hooks id) ∷ rest →
      (a : ArgsRead final body below base marks before unclosed (head.Hook id) vars (expected.BoneTarget ∷ outs_form body below) rest) →
      (t : TargetRead final body below base marks before unclosed (head.Hook id) a.args a.vars (outs_form body below) a.left) →
      OutsRead final body below base marks before unclosed (head.Hook id) a.args t.target t.vars t.left → OneRead final body below base vars before unclosed symbols
  call_from id vars symbols rest e a t o = record {
    bone = Call id a.args t.target o.outs;
    inside = [];
    vars = o.vars;
    marks = marks;
    target = t.target;
    left = o.left;
    grown = front_of_longer a.grown (front_of_longer t.grown o.grown);
    symbols_are = λ names g size later after room l.
        let args = list_symbols (var_word names) a.args in
        let outs = list_symbols (var_word names) o.outs in
        let rest = bones_symbols base.def.hooks names size later in
        e ∙ ap (λ rest. Named (hook_word base.def.hooks id) ∷ rest)
        (a.symbols_are names (front_of_longer t.grown (front_of_longer o.grown g))
        ∙ ap (λ rest. args ++ rest) (t.symbols_are names (front_of_longer o.grown g)
        ∙ ap (λ rest. Named (target_word names t.target) ∷ rest) (o.symbols_are names g ∙ ap (λ rest. Plain Points ∷ (outs ++ rest)) l))
        ∙ sym (append_assoc args (Named (target_word names t.target) ∷ Plain Points ∷ (outs ++ rest)) after
        ∙ ap (λ rest. args ++ (Named (target_word names t.target) ∷ Plain Points ∷ rest)) (append_assoc outs rest after)));
    fewer =
        omega (
          arith,
          ap length e,
          ap length (a.symbols_are o.vars (front_of_longer t.grown o.grown)),
          length-append (list_symbols (var_word o.vars) a.args) a.left,
          ap length (t.symbols_are o.vars o.grown),
          ap length (o.symbols_are o.vars (front_of_itself o.vars)),
          length-append (list_symbols (var_word o.vars) o.outs) o.left,
        );
    reads = o.reads;
  }

  -- a hook bone was read, after its word
  pub call_read : (id : HookId) (vars : List (List ℕ)) (symbols rest : List Symbol) → symbols ≡ Named (hook_word base.def.hooks id) ∷ rest →
      Reads final (expected.Open ∷ expected.First listed.BoneArgs ∷ expected.BoneTarget ∷ outs_form body below)
      (in_bone base vars marks before unclosed (head.Hook id) [] Own) rest → OneRead final body below base vars before unclosed symbols
  call_read id vars symbols rest e r =
      let a = args_read final body below base marks before unclosed (head.Hook id) vars (expected.BoneTarget ∷ outs_form body below) rest r in
      let t = target_read final body below base marks before unclosed (head.Hook id) a.args a.vars (outs_form body below) a.left a.reads in
      call_from id vars symbols rest e a t (outs_read final body below base marks before unclosed (head.Hook id) a.args t.target t.vars t.left t.reads)
