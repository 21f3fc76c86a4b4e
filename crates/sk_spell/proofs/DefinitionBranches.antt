-- The branches of a branch bone that were read.
use Rattle.std.proofs.Common.{◌≡◌, ◌⊎◌, inl, inr, ℕ, zero, suc, ◌+◌, ◌<◌, ◌≤◌, false, List, [], ◌∷◌, ◌++◌, length, take, drop, refl, sym, ap, subst, ◌∙◌, arith, append_assoc, length-append}
use Rattle.std.specs.Prelude.{codes, flat_map, sum}
use Rattle.std.specs.List.{join_by}
use Rattle.std.proofs.Math.Seq.{take-append_seam, drop-append_seam}
use Rattle.std.proofs.lemmas.List.{append-nil}
use Rattle.std.proofs.lemmas.List.Sums.{sum_by-cons}
use Rattle.sk_lex.specs.Run.{IsFrontOf}
use Rattle.sk_lex.specs.Symbols.{Symbol, Named, Plain}
use Rattle.sk_lex.specs.declared.token.TokenKind.TheVariants.{LeftBrace, RightBrace}
use Rattle.sk_def.specs.Layout.{after_branches}
use Rattle.sk_def.specs.declared.ids.Var.{Var}
use Rattle.sk_def.specs.declared.bone.Bone.{Bone}
use Rattle.sk_def.specs.declared.bone.Bone.TheVariants.{Either}
use Rattle.sk_def.specs.declared.bone.Target.{Target}
use Rattle.sk_deftext.specs.Canonical.{var_word, branches}
use Rattle.sk_deftext.specs.Met.{met}
use Rattle.sk_deftext.specs.Reading.{step, may_end}
use Rattle.sk_deftext.specs.Spelling.{list_symbols, bones_symbols}
use Rattle.sk_deftext.specs.declared.draft.Draft.{Draft}
use Rattle.sk_deftext.specs.declared.draft.OpenBone.{OpenBone}
use Rattle.sk_deftext.specs.declared.expected.Body.{Body}
use Rattle.sk_deftext.specs.declared.expected.Body.TheVariants as body_of
use Rattle.sk_deftext.specs.declared.expected.Expected.{Expected}
use Rattle.sk_deftext.specs.declared.expected.Expected.TheVariants as expected
use Rattle.sk_deftext.specs.declared.expected.Listed.TheVariants as listed
use Rattle.sk_deftext.proofs.Returned.{ended, all_ended, many}
use Rattle.sk_deftext.proofs.Steps.{exports_of_vars}
use Rattle.sk_spell.proofs.DefinitionRuns.{Final, Reads, Took, took, goes_on, ends_so, VarsRead}
use Rattle.sk_spell.proofs.DefinitionVars.{front_of_itself, front_of_longer, vars_read}
use Rattle.sk_spell.proofs.DefinitionBones.{between, BonesRead}
use Rattle.sk_spell.proofs.DefinitionOneBone.{OneRead}
use Rattle.sk_spell.proofs.DefinitionBoneSteps.{branch_begins, branch_ends, first_or_met, more_or_met, exports_end}

-- Branches among the bones of a list.

-- how many bones each branch has, and all of them one after the other
abbrev sizes : List (List Bone) → List ℕ
sizes [] = []
sizes (bones ∷ others) = length bones ∷ sizes others

abbrev together : List (List Bone) → List Bone
together [] = []
together (bones ∷ others) = bones ++ together others

many_together : (bs : List (List Bone)) → length (together bs) ≡ many bs
many_together [] = refl
many_together (bones ∷ bs) = length-append bones (together bs) ∙ ap (λ n. length bones + n) (many_together bs)

branches_together : (bs : List (List Bone)) (later : List Bone) → branches (sizes bs) (together bs ++ later) ≡ bs
branches_together [] later = refl
branches_together (bones ∷ bs) later =
    ap (λ all. take (length bones) all ∷ branches (sizes bs) (drop (length bones) all)) (append_assoc bones (together bs) later)
    ∙ ap (λ one. one ∷ branches (sizes bs) (drop (length bones) (bones ++ (together bs ++ later)))) (take-append_seam bones (together bs ++ later))
    ∙ ap (λ all. bones ∷ branches (sizes bs) all) (drop-append_seam bones (together bs ++ later))
    ∙ ap (λ others. bones ∷ others) (branches_together bs later)

total_size : (bs : List (List Bone)) → sum (sizes bs) ≡ length (together bs)
total_size [] = refl
total_size (bones ∷ bs) =
    let total : sum (sizes (bones ∷ bs)) ≡ length bones + sum (sizes bs) = sum_by-cons (λ (n : ℕ). n) (length bones) (sizes bs) in
    omega (arith, total, total_size bs, length-append bones (together bs))

after_together : (bs : List (List Bone)) (later : List Bone) → after_branches (sizes bs) (together bs ++ later) ≡ later
after_together bs later = ap (λ n. drop n (together bs ++ later)) (total_size bs) ∙ drop-append_seam (together bs) later

all_before : (one : OpenBone) (bs : List (List Bone)) → (all_ended one bs).before ≡ one.before
all_before one [] = refl
all_before one (bones ∷ bs) = all_before (ended one bones) bs

all_counts : (one : OpenBone) (bs : List (List Bone)) → (all_ended one bs).counts ≡ one.counts ++ sizes bs
all_counts one [] = sym (append-nil one.counts)
all_counts one (bones ∷ bs) = all_counts (ended one bones) bs ∙ append_assoc one.counts (length bones ∷ []) (sizes bs)

all_inside : (one : OpenBone) (bs : List (List Bone)) → (all_ended one bs).inside ≡ one.inside ++ together bs
all_inside one [] = sym (append-nil one.inside)
all_inside one (bones ∷ bs) = all_inside (ended one bones) bs ∙ append_assoc one.inside bones (together bs)

-- a branch bone that ended its branches
abbrev closed_bone : OpenBone → List Var → List Bone
closed_bone one exports = one.before ++ Either one.counts exports ∷ one.inside

abbrev begun_bone : List Bone → OpenBone
begun_bone before = record { before = before; counts = []; inside = [] }

bone_closed : (before : List Bone) (bs : List (List Bone)) (exports : List Var) → closed_bone (all_ended (begun_bone before) bs) exports ≡ before ++ Either (sizes bs) exports ∷ together bs
bone_closed before bs exports =
    let one = all_ended (begun_bone before) bs in
    ap (λ front. front ++ Either one.counts exports ∷ one.inside) (all_before (begun_bone before) bs)
    ∙ ap (λ counts. before ++ Either counts exports ∷ one.inside) (all_counts (begun_bone before) bs)
    ∙ ap (λ inside. before ++ Either (sizes bs) exports ∷ inside) (all_inside (begun_bone before) bs)

-- Readings.

-- a reading goes on after a symbol that stands there
passes : {final : Final} {one : Expected} {below : List Expected} {draft : Draft} {symbol : Symbol} {left : List Symbol} → may_end one ≡ false → Reads final (one ∷ below) draft (symbol ∷ left) →
    (after : Draft) (next : List Expected) →
    ((at : ℕ) → step draft one at symbol ≡ met after next) → Reads final (next ++ below) after left
passes {final = final} {one = one} {below = below} {draft = draft} {symbol = symbol} {left = left} e r after next so =
    let t = took e r in
    let symbol_is : symbol ≡ t.symbol = cc t.symbols_are in
    let left_is : left ≡ t.left = cc t.symbols_are in
    let P : List Symbol → Type 0 = λ left. Reads final (next ++ below) after left in
    subst P (sym left_is) (goes_on t after next (ap (step draft one t.at) (sym symbol_is) ∙ so t.at))

-- bones of fewer symbols were read
abbrev pub BonesReadBelow : Final → ℕ → Type 0
BonesReadBelow final n =
    (body : Body) (below : List Expected) (base : Draft) (vars : List (List ℕ)) (marks : List ℕ)
    (before : List Bone) (unclosed : List OpenBone) (target : Target) (symbols : List Symbol) → length symbols < n →
    Reads final (expected.Bones body ∷ below) (between base vars marks before unclosed target) symbols → BonesRead final body below base vars before unclosed symbols

-- a branch was read, from its `{` to its `}`
record BranchRead (final : Final) (below : List Expected) (base : Draft) (vars_before : List (List ℕ)) (one : OpenBone) (outer : List OpenBone) (symbols : List Symbol) : Type 0 where
  bones : List Bone
  vars : List (List ℕ)
  marks : List ℕ
  target : Target
  left : List Symbol
  grown : IsFrontOf vars_before vars
  symbols_are : (names : List (List ℕ)) → IsFrontOf vars names → (size : ℕ) → length bones ≤ size →
      symbols ≡ Plain LeftBrace ∷ (bones_symbols base.def.hooks names size bones ++ Plain RightBrace ∷ left)
  fewer : length left < length symbols
  reads : Reads final below (between base vars marks [] (ended one bones ∷ outer) target) left

-- what is expected after the first branch
abbrev pub or_form : List Expected → List Expected
or_form below = expected.OrFirst ∷ expected.BranchOpen ∷ expected.Bones body_of.Branch ∷ expected.OrMore ∷ below

abbrev or_symbols : List Symbol
or_symbols = Plain RightBrace ∷ Named (codes "or") ∷ Plain LeftBrace ∷ []

-- the other branches were read, and the `with` after them
record RestRead (final : Final) (below : List Expected) (base : Draft) (vars_before : List (List ℕ)) (one : OpenBone) (outer : List OpenBone) (symbols : List Symbol) : Type 0 where
  bs : List (List Bone)
  vars : List (List ℕ)
  marks : List ℕ
  target : Target
  left : List Symbol
  grown : IsFrontOf vars_before vars
  symbols_are : (names : List (List ℕ)) → IsFrontOf vars names → (size : ℕ) → many bs ≤ size →
      Plain RightBrace ∷ symbols ≡ flat_map (λ branch. or_symbols ++ bones_symbols base.def.hooks names size branch) bs ++ (Plain RightBrace ∷ Named (codes "with") ∷ left)
  fewer : length left < length symbols
  reads : Reads final (expected.Open ∷ expected.First listed.Exports ∷ below) (between base vars marks [] (all_ended one bs ∷ outer) target) left

-- all branches were read
record BranchesRead (final : Final) (below : List Expected) (base : Draft) (vars_before : List (List ℕ)) (one : OpenBone) (outer : List OpenBone) (symbols : List Symbol) : Type 0 where
  bs : List (List Bone)
  vars : List (List ℕ)
  marks : List ℕ
  target : Target
  left : List Symbol
  grown : IsFrontOf vars_before vars
  symbols_are : (names : List (List ℕ)) → IsFrontOf vars names → (size : ℕ) → many bs ≤ size →
      symbols ≡ Plain LeftBrace ∷ (join_by (bones_symbols base.def.hooks names size) or_symbols bs ++ (Plain RightBrace ∷ Named (codes "with") ∷ left))
  fewer : length left < length symbols
  reads : Reads final (expected.Open ∷ expected.First listed.Exports ∷ below) (between base vars marks [] (all_ended one bs ∷ outer) target) left

module _ (final : Final) (n : ℕ) (shorter : BonesReadBelow final n) (base : Draft) (outer : List OpenBone) where
  branch_from : (below : List Expected) (vars : List (List ℕ)) (one : OpenBone) (symbols rest : List Symbol) → symbols ≡ Plain LeftBrace ∷ rest →
      BonesRead final body_of.Branch below base vars [] (one ∷ outer) rest → BranchRead final below base vars one outer symbols
  branch_from below vars one symbols rest e b = record {
    bones = b.bones;
    vars = b.vars;
    marks = b.marks;
    target = b.target;
    left = b.after;
    grown = b.grown;
    symbols_are = λ names f size room. e ∙ ap (λ rest. Plain LeftBrace ∷ rest) (b.symbols_are names f size room);
    fewer =
        omega (
          arith,
          ap length e,
          ap length (b.symbols_are b.vars (front_of_itself b.vars) (length b.bones) (omega arith)),
          length-append (bones_symbols base.def.hooks b.vars (length b.bones) b.bones) (Plain RightBrace ∷ b.after),
        );
    reads = passes refl b.reads (between base b.vars b.marks [] (ended one b.bones ∷ outer) b.target) [] (λ at. branch_ends (between base b.vars b.marks b.bones (one ∷ outer) b.target) at);
  }

  branch_read : (below : List Expected) (vars : List (List ℕ)) (marks : List ℕ) (one : OpenBone) (target : Target) (symbols : List Symbol) → length symbols ≤ n →
      Reads final (expected.BranchOpen ∷ expected.Bones body_of.Branch ∷ below) (between base vars marks [] (one ∷ outer) target) symbols → BranchRead final below base vars one outer symbols
  branch_read below vars marks one target symbols few r =
      let draft = between base vars marks [] (one ∷ outer) target in
      let t = took refl r in
      let so = branch_begins draft one outer t.at t.symbol t.turn refl t.met_is in
      branch_from below vars one symbols t.left (t.symbols_are ∙ ap (λ symbol. symbol ∷ t.left) so.0)
      (shorter body_of.Branch below base vars marks [] (one ∷ outer) target t.left (omega (arith, few, ap length t.symbols_are)) (goes_on t draft [] so.1))

  rest_from : (below : List Expected) (vars : List (List ℕ)) (one : OpenBone) (symbols rest : List Symbol) → symbols ≡ Named (codes "or") ∷ rest →
      (b : BranchRead final (expected.OrMore ∷ below) base vars one outer rest) → RestRead final below base b.vars (ended one b.bones) outer b.left → RestRead final below base vars one outer symbols
  rest_from below vars one symbols rest e b later = record {
    bs = b.bones ∷ later.bs;
    vars = later.vars;
    marks = later.marks;
    target = later.target;
    left = later.left;
    grown = front_of_longer b.grown later.grown;
    symbols_are = λ names f size room.
        let text = bones_symbols base.def.hooks names size in
        ap (λ symbols. Plain RightBrace ∷ symbols) e
        ∙ ap (λ rest. Plain RightBrace ∷ Named (codes "or") ∷ rest) (b.symbols_are names (front_of_longer later.grown f) size (omega (arith, room)))
        ∙ ap (λ rest. Plain RightBrace ∷ Named (codes "or") ∷ Plain LeftBrace ∷ (text b.bones ++ rest)) (later.symbols_are names f size (omega (arith, room)))
        ∙ ap (λ rest. Plain RightBrace ∷ Named (codes "or") ∷ Plain LeftBrace ∷ rest)
        (sym (append_assoc (text b.bones) (flat_map (λ branch. or_symbols ++ text branch) later.bs) (Plain RightBrace ∷ Named (codes "with") ∷ later.left)));
    fewer = omega (arith, ap length e, b.fewer, later.fewer);
    reads = later.reads;
  }

  rest_read : (below : List Expected) (m : ℕ) (vars : List (List ℕ)) (marks : List ℕ) (one : OpenBone) (target : Target) (symbols : List Symbol) → length symbols < m → length symbols ≤ n →
      Reads final (expected.OrMore ∷ below) (between base vars marks [] (one ∷ outer) target) symbols → RestRead final below base vars one outer symbols
  rest_read below zero vars marks one target symbols less few r = absurd (omega (arith, less))
  rest_read below (suc m) vars marks one target symbols less few r = by (more_or_met draft t.at t.symbol t.turn t.met_is) (rest_read below m) where
    draft : Draft
    draft = between base vars marks [] (one ∷ outer) target

    t : Took final expected.OrMore below draft symbols
    t = took refl r

    by : ((t.symbol ≡ Named (codes "or")) × (step draft expected.OrMore t.at t.symbol ≡ met draft (expected.BranchOpen ∷ expected.Bones body_of.Branch ∷ expected.OrMore ∷ [])))
        ⊎ ((t.symbol ≡ Named (codes "with")) × (step draft expected.OrMore t.at t.symbol ≡ met draft (expected.Open ∷ expected.First listed.Exports ∷ []))) →
        ((vars : List (List ℕ)) (marks : List ℕ) (one : OpenBone) (target : Target) (symbols : List Symbol) → length symbols < m → length symbols ≤ n →
        Reads final (expected.OrMore ∷ below) (between base vars marks [] (one ∷ outer) target) symbols → RestRead final below base vars one outer symbols) →
        RestRead final below base vars one outer symbols
    by (inl so) again =
        let b = branch_read (expected.OrMore ∷ below) vars marks one target t.left (omega (arith, few, ap length t.symbols_are))
        (goes_on t draft (expected.BranchOpen ∷ expected.Bones body_of.Branch ∷ expected.OrMore ∷ []) so.1) in
        rest_from below vars one symbols t.left (t.symbols_are ∙ ap (λ symbol. symbol ∷ t.left) so.0) b
        (again b.vars b.marks (ended one b.bones) b.target b.left (omega (arith, b.fewer, less, ap length t.symbols_are)) (omega (arith, b.fewer, few, ap length t.symbols_are)) b.reads)
    by (inr so) again = record {
      bs = [];
      vars = vars;
      marks = marks;
      target = target;
      left = t.left;
      grown = front_of_itself vars;
      symbols_are = λ names f size room. ap (λ symbols. Plain RightBrace ∷ symbols) (t.symbols_are ∙ ap (λ symbol. symbol ∷ t.left) so.0);
      fewer = omega (arith, ap length t.symbols_are);
      reads = goes_on t draft (expected.Open ∷ expected.First listed.Exports ∷ []) so.1;
    }

  branches_from : (below : List Expected) (vars : List (List ℕ)) (one : OpenBone) (symbols rest : List Symbol)
      (a : BranchRead final (or_form below) base vars one outer symbols) → a.left ≡ Named (codes "or") ∷ rest →
      (b : BranchRead final (expected.OrMore ∷ below) base a.vars (ended one a.bones) outer rest) → RestRead final below base b.vars (ended (ended one a.bones) b.bones) outer b.left →
      BranchesRead final below base vars one outer symbols
  branches_from below vars one symbols rest a e b later = record {
    bs = a.bones ∷ b.bones ∷ later.bs;
    vars = later.vars;
    marks = later.marks;
    target = later.target;
    left = later.left;
    grown = front_of_longer a.grown (front_of_longer b.grown later.grown);
    symbols_are = λ names f size room.
        let text = bones_symbols base.def.hooks names size in
        let flat = flat_map (λ branch. or_symbols ++ text branch) later.bs in
        let end = Plain RightBrace ∷ Named (codes "with") ∷ later.left in
        a.symbols_are names (front_of_longer b.grown (front_of_longer later.grown f)) size (omega (arith, room))
        ∙ ap (λ rest. Plain LeftBrace ∷ (text a.bones ++ Plain RightBrace ∷ rest))
        (e ∙ ap (λ rest. Named (codes "or") ∷ rest) (b.symbols_are names (front_of_longer later.grown f) size (omega (arith, room))))
        ∙ ap (λ rest. Plain LeftBrace ∷ (text a.bones ++ (Plain RightBrace ∷ Named (codes "or") ∷ Plain LeftBrace ∷ (text b.bones ++ rest)))) (later.symbols_are names f size (omega (arith, room)))
        ∙ ap (λ rest. Plain LeftBrace ∷ rest) (sym (append_assoc (text a.bones) ((or_symbols ++ text b.bones) ++ flat) end
        ∙ ap (λ symbols. text a.bones ++ (Plain RightBrace ∷ Named (codes "or") ∷ Plain LeftBrace ∷ symbols)) (append_assoc (text b.bones) flat end)));
    fewer = omega (arith, ap length e, a.fewer, b.fewer, later.fewer);
    reads = later.reads;
  }

  branches_read : (below : List Expected) (vars : List (List ℕ)) (marks : List ℕ) (one : OpenBone) (target : Target) (symbols : List Symbol) → length symbols ≤ n →
      Reads final (expected.BranchOpen ∷ expected.Bones body_of.Branch ∷ or_form below) (between base vars marks [] (one ∷ outer) target) symbols →
      BranchesRead final below base vars one outer symbols
  branches_read below vars marks one target symbols few r =
      let a = branch_read (or_form below) vars marks one target symbols few r in
      let draft = between base a.vars a.marks [] (ended one a.bones ∷ outer) a.target in
      let t = took refl a.reads in
      let so = first_or_met draft t.at t.symbol t.turn t.met_is in
      let b = branch_read (expected.OrMore ∷ below) a.vars a.marks (ended one a.bones) a.target t.left (omega (arith, few, a.fewer, ap length t.symbols_are)) (goes_on t draft [] so.1) in
      branches_from below vars one symbols t.left a (t.symbols_are ∙ ap (λ symbol. symbol ∷ t.left) so.0) b
      (rest_read below (suc (length b.left)) b.vars b.marks (ended (ended one a.bones) b.bones) b.target b.left (omega arith) (omega (arith, few, a.fewer, ap length t.symbols_are, b.fewer)) b.reads)

  either_from : (body : Body) (below : List Expected) (before : List Bone) (vars : List (List ℕ)) (symbols rest : List Symbol) → symbols ≡ Named (codes "either") ∷ rest →
      (b : BranchesRead final (expected.Bones body ∷ below) base vars (begun_bone before) outer rest) →
      VarsRead final listed.Exports (expected.Bones body ∷ below) (between base b.vars b.marks [] (all_ended (begun_bone before) b.bs ∷ outer) b.target) b.left →
      OneRead final body below base vars before outer symbols
  either_from body below before vars symbols rest e b v =
      let one = all_ended (begun_bone before) b.bs in
      let draft = record (between base b.vars b.marks [] (one ∷ outer) b.target) { vars = v.vars; listed = v.listed } in
      let after_all = between base v.vars b.marks (closed_bone one v.listed) outer b.target in
      let P : List Bone → Type 0 = λ bones. Reads final (expected.Bones body ∷ below) (between base v.vars b.marks bones outer b.target) v.left in
      record {
        bone = Either (sizes b.bs) v.listed;
        inside = together b.bs;
        vars = v.vars;
        marks = b.marks;
        target = b.target;
        left = v.left;
        grown = front_of_longer b.grown v.grown;
        symbols_are = λ names f size later after room l.
            let text = bones_symbols base.def.hooks names size in
            let exports = list_symbols (var_word names) v.listed in
            let joined = join_by text or_symbols (branches (sizes b.bs) (together b.bs ++ later)) in
            e ∙ ap (λ rest. Named (codes "either") ∷ rest) (b.symbols_are names (front_of_longer v.grown f) size (omega (arith, room, many_together b.bs)))
            ∙ ap (λ rest. Named (codes "either") ∷ Plain LeftBrace ∷ (join_by text or_symbols b.bs ++ (Plain RightBrace ∷ Named (codes "with") ∷ rest)))
            (v.symbols_are names f ∙ ap (λ rest. exports ++ rest) l)
            ∙ ap (λ rest. Named (codes "either") ∷ Plain LeftBrace ∷ rest)
            (sym (append_assoc (join_by text or_symbols b.bs) (Plain RightBrace ∷ Named (codes "with") ∷ (exports ++ text later)) after
            ∙ ap (λ rest. join_by text or_symbols b.bs ++ (Plain RightBrace ∷ Named (codes "with") ∷ rest)) (append_assoc exports (text later) after)))
            ∙ ap (λ bs. Named (codes "either") ∷ Plain LeftBrace ∷ ((join_by text or_symbols bs ++ (Plain RightBrace ∷ Named (codes "with") ∷ (exports ++ text later))) ++ after))
            (sym (branches_together b.bs later))
            ∙ ap (λ bones. Named (codes "either") ∷ Plain LeftBrace ∷ ((joined ++ (Plain RightBrace ∷ Named (codes "with") ∷ (exports ++ text bones))) ++ after))
            (sym (after_together b.bs later));
        fewer =
            omega (arith, ap length e, b.fewer, ap length (v.symbols_are v.vars (front_of_itself v.vars)), length-append (list_symbols (var_word v.vars) v.listed) v.left);
        reads = subst P (bone_closed before b.bs v.listed) (ends_so v.ended after_all [] (exports_end draft one outer v.ended.turn refl v.ended.met_is));
      }

  -- a branch bone was read, after its word
  pub either_read : (body : Body) (below : List Expected) (before : List Bone) (vars : List (List ℕ)) (marks : List ℕ) (target : Target) (symbols rest : List Symbol) →
      symbols ≡ Named (codes "either") ∷ rest → length rest ≤ n →
      Reads final (expected.BranchOpen ∷ expected.Bones body_of.Branch ∷ or_form (expected.Bones body ∷ below))
      (between base vars marks [] (begun_bone before ∷ outer) target) rest → OneRead final body below base vars before outer symbols
  either_read body below before vars marks target symbols rest e few r =
      let b = branches_read (expected.Bones body ∷ below) vars marks (begun_bone before) target rest few r in
      either_from body below before vars symbols rest e b (vars_read exports_of_vars refl b.reads)
