-- Bones that were read are spelled so: by induction on the number of symbols.
use Rattle.std.proofs.Common.{◌≡◌, ℕ, zero, suc, ◌≤◌, Bool, true, false, List, [], ◌∷◌, ◌++◌, length, refl, sym, ap, subst, ◌∙◌, arith, append_assoc, length-append}
use Rattle.std.proofs.lemmas.List.{append-nil}
use Rattle.sk_lex.specs.Run.{IsFrontOf}
use Rattle.sk_lex.specs.Symbols.{Symbol, Named, Plain, is_right_brace}
use Rattle.sk_lex.specs.declared.token.TokenKind.TheVariants.{RightBrace}
use Rattle.sk_def.specs.declared.bone.Bone.{Bone}
use Rattle.sk_def.specs.declared.bone.Target.{Target}
use Rattle.sk_def.specs.declared.bone.Target.TheVariants.{Own}
use Rattle.sk_deftext.specs.Bodies as spec
use Rattle.sk_deftext.specs.Bodies.{opening_of}
use Rattle.sk_deftext.specs.Reading.{step}
use Rattle.sk_deftext.specs.Spelling.{bones_symbols}
use Rattle.sk_deftext.specs.declared.bone.Opening.{Opening}
use Rattle.sk_deftext.specs.declared.bone.Opening.TheVariants as opening
use Rattle.sk_deftext.specs.declared.draft.Draft.{Draft}
use Rattle.sk_deftext.specs.declared.draft.OpenBone.{OpenBone}
use Rattle.sk_deftext.specs.declared.draft.BoneHead.TheVariants as head
use Rattle.sk_deftext.specs.declared.expected.Body.{Body}
use Rattle.sk_deftext.specs.declared.expected.Body.TheVariants as body_of
use Rattle.sk_deftext.specs.declared.expected.Expected.{Expected}
use Rattle.sk_deftext.specs.declared.expected.Expected.TheVariants as expected
use Rattle.sk_deftext.specs.declared.expected.Listed.TheVariants as listed
use Rattle.sk_spell.proofs.DefinitionRuns.{Final, Reads, Took, took, goes_on}
use Rattle.sk_spell.proofs.DefinitionVars.{front_of_itself, front_of_longer}
use Rattle.sk_spell.proofs.SymbolForms.{right_brace_is}
use Rattle.sk_spell.proofs.DefinitionBones.{between, BonesRead, BonesAreRead}
use Rattle.sk_spell.proofs.DefinitionBoneSteps.{Opens, opens, BoneBegins, bone_begins, branches_begin}
use Rattle.sk_spell.proofs.DefinitionOneBone.{in_bone, OneRead, filter_read, call_read}
use Rattle.sk_spell.proofs.DefinitionBranches.{BonesReadBelow, or_form, either_read}

module _ (final : Final) (body : Body) (below : List Expected) (base : Draft) (vars : List (List ℕ)) (marks : List ℕ)
    (before : List Bone) (unclosed : List OpenBone) (target : Target) (symbols : List Symbol) where
  abbrev here : Draft
  here = between base vars marks before unclosed target

  -- a bone and those after it
  and_others : (one : OneRead final body below base vars before unclosed symbols) → BonesRead final body below base one.vars (before ++ one.bone ∷ one.inside) unclosed one.left →
      BonesRead final body below base vars before unclosed symbols
  and_others one later =
      let P : List Bone → Type 0 = λ bones. Reads final (expected.Bones body ∷ below) (between base later.vars later.marks bones unclosed later.target) (Plain RightBrace ∷ later.after) in
      record {
        bones = one.bone ∷ (one.inside ++ later.bones);
        vars = later.vars;
        marks = later.marks;
        target = later.target;
        after = later.after;
        grown = front_of_longer one.grown later.grown;
        symbols_are = λ names f size room. by names f size room;
        reads = subst P (append_assoc before (one.bone ∷ one.inside) later.bones) later.reads;
      } where
        by : (names : List (List ℕ)) → IsFrontOf later.vars names → (size : ℕ) → length (one.bone ∷ (one.inside ++ later.bones)) ≤ size →
            symbols ≡ bones_symbols base.def.hooks names size (one.bone ∷ (one.inside ++ later.bones)) ++ Plain RightBrace ∷ later.after
        by names f zero room = absurd (omega (arith, room))
        by names f (suc size) room =
            one.symbols_are names (front_of_longer later.grown f) size later.bones (Plain RightBrace ∷ later.after) (omega (arith, room, length-append one.inside later.bones))
            (later.symbols_are names f size (omega (arith, room, length-append one.inside later.bones)))

  -- no bone is left before the brace
  none_left : (rest : List Symbol) → symbols ≡ Plain RightBrace ∷ rest → Reads final (expected.Bones body ∷ below) here symbols → BonesRead final body below base vars before unclosed symbols
  none_left rest e r =
      let P : List Symbol → Type 0 = λ symbols. Reads final (expected.Bones body ∷ below) here symbols in
      let Q : List Bone → Type 0 = λ bones. Reads final (expected.Bones body ∷ below) (between base vars marks bones unclosed target) (Plain RightBrace ∷ rest) in
      record {
        bones = [];
        vars = vars;
        marks = marks;
        target = target;
        after = rest;
        grown = front_of_itself vars;
        symbols_are = λ names f size room. e;
        reads = subst Q (sym (append-nil before)) (subst P e r);
      }

  module _ (n : ℕ) (shorter : BonesReadBelow final n) where
    -- a bone by its word
    one_opened : (t : Took final (expected.Bones body) below here symbols) → length symbols ≤ suc n → (b : BoneBegins here body t.at t.symbol) → (o : Opening) → Opens base.def.hooks b.word o →
        step here (expected.Bones body) t.at t.symbol ≡ spec.begun here body t.at o → OneRead final body below base vars before unclosed symbols
    one_opened t few b (opening.Filter f) is e =
        filter_read final body below base (marks ++ t.at ∷ []) before unclosed f vars symbols t.left (t.symbols_are ∙ ap (λ symbol. symbol ∷ t.left) (b.symbol_is ∙ ap Named is))
        (goes_on t (in_bone base vars (marks ++ t.at ∷ []) before unclosed (head.Filter f) [] Own)
        (expected.Open ∷ expected.First listed.BoneArgs ∷ expected.Arrow ∷ expected.Open ∷ expected.First listed.BoneOuts ∷ expected.Bones body ∷ []) e)
    one_opened t few b (opening.Hook id) is e =
        call_read final body below base (marks ++ t.at ∷ []) before unclosed id vars symbols t.left (t.symbols_are ∙ ap (λ symbol. symbol ∷ t.left) (b.symbol_is ∙ ap Named is))
        (goes_on t (in_bone base vars (marks ++ t.at ∷ []) before unclosed (head.Hook id) [] Own)
        (expected.Open ∷ expected.First listed.BoneArgs ∷ expected.BoneTarget ∷ expected.Arrow ∷ expected.Open ∷ expected.First listed.BoneOuts ∷ expected.Bones body ∷ []) e)
    one_opened t few b opening.Branches is e =
        let form : List Expected = expected.BranchOpen ∷ expected.Bones body_of.Branch ∷ or_form (expected.Bones body ∷ []) in
        either_read final n shorter base unclosed body below before vars (marks ++ t.at ∷ []) target symbols t.left (t.symbols_are ∙ ap (λ symbol. symbol ∷ t.left) (b.symbol_is ∙ ap Named is))
        (omega (arith, few, ap length t.symbols_are))
        (goes_on t (between base vars (marks ++ t.at ∷ []) [] (record { before = before; counts = []; inside = [] } ∷ unclosed) target) form
        (e ∙ branches_begin here t.at form t.turn (sym e ∙ t.met_is)))
    one_opened t few b opening.Keyword is e = absurd (cc (sym e ∙ t.met_is))
    one_opened t few b opening.Unknown is e = absurd (cc (sym e ∙ t.met_is))

    one_begun : (t : Took final (expected.Bones body) below here symbols) → length symbols ≤ suc n → BoneBegins here body t.at t.symbol → OneRead final body below base vars before unclosed symbols
    one_begun t few b = one_opened t few b (opening_of base.def.hooks b.word) (opens base.def.hooks b.word) b.met_so

bones_below : (final : Final) (n : ℕ) → BonesReadBelow final n
bones_below final zero body below base vars marks before unclosed target symbols less r = absurd (omega (arith, less))
bones_below final (suc n) body below base vars marks before unclosed target symbols less r = by (is_right_brace t.symbol) refl (bones_below final n) where
  draft : Draft
  draft = between base vars marks before unclosed target

  t : Took final (expected.Bones body) below draft symbols
  t = took refl r

  by : (b : Bool) → is_right_brace t.symbol ≡ b → BonesReadBelow final n → BonesRead final body below base vars before unclosed symbols
  by true e shorter = none_left final body below base vars marks before unclosed target symbols t.left (t.symbols_are ∙ ap (λ symbol. symbol ∷ t.left) (right_brace_is t.symbol e)) r
  by false e shorter =
      let one = one_begun final body below base vars marks before unclosed target symbols n shorter t (omega (arith, less)) (bone_begins draft body t.at t.symbol t.turn e t.met_is) in
      and_others final body below base vars marks before unclosed target symbols one
      (shorter body below base one.vars one.marks (before ++ one.bone ∷ one.inside) unclosed one.target one.left (omega (arith, less, one.fewer)) one.reads)

-- bones that were read are spelled so
pub bones_are_read : BonesAreRead
bones_are_read final body below base vars marks before unclosed target symbols r = bones_below final (suc (length symbols)) body below base vars marks before unclosed target symbols (omega arith) r
