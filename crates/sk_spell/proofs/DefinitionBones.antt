-- A list of bones that was read: what it took is what the bones spell.
use Rattle.std.specs.Prelude.{◌≡◌, ℕ, ◌≤◌, List, [], ◌∷◌, ◌++◌, length, None}
use Rattle.sk_lex.specs.Run.{IsFrontOf}
use Rattle.sk_lex.specs.Symbols.{Symbol, Plain}
use Rattle.sk_lex.specs.declared.token.TokenKind.TheVariants.{RightBrace}
use Rattle.sk_def.specs.declared.bone.Bone.{Bone}
use Rattle.sk_def.specs.declared.bone.Target.{Target}
use Rattle.sk_deftext.specs.Spelling.{bones_symbols}
use Rattle.sk_deftext.specs.declared.draft.Draft.{Draft}
use Rattle.sk_deftext.specs.declared.draft.OpenBone.{OpenBone}
use Rattle.sk_deftext.specs.declared.expected.Body.{Body}
use Rattle.sk_deftext.specs.declared.expected.Expected.{Expected}
use Rattle.sk_deftext.specs.declared.expected.Expected.TheVariants.{Bones}
use Rattle.sk_spell.proofs.DefinitionRuns.{Final, Reads}

-- a draft between the bones of a rule: these names and marks have come, and these bones of the list that is being read
abbrev pub between : Draft → List (List ℕ) → List ℕ → List Bone → List OpenBone → Target → Draft
between base vars marks bones unclosed target = record base {
  vars = vars;
  marks = marks;
  bones = bones;
  unclosed = unclosed;
  opened = None;
  bone_args = [];
  target = target;
  listed = [];
}

-- The bones after those before, up to the `}` that ends their list: the names grew by those that are new, and the symbols
-- are the bones' by the words of all names that go on from these, at each size that has room for them.
pub record BonesRead (final : Final) (body : Body) (below : List Expected) (base : Draft) (vars_before : List (List ℕ))
    (before : List Bone) (unclosed : List OpenBone) (symbols : List Symbol) : Type 0 where
  pub bones : List Bone
  pub vars : List (List ℕ)
  pub marks : List ℕ
  pub target : Target
  pub after : List Symbol
  pub grown : IsFrontOf vars_before vars
  pub symbols_are : (names : List (List ℕ)) → IsFrontOf vars names → (size : ℕ) → length bones ≤ size → symbols ≡ bones_symbols base.def.hooks names size bones ++ Plain RightBrace ∷ after
  pub reads : Reads final (Bones body ∷ below) (between base vars marks (before ++ bones) unclosed target) (Plain RightBrace ∷ after)

-- where a reading that ends well stands at bones, these were read
abbrev pub BonesAreRead : Type 0
BonesAreRead =
    (final : Final) (body : Body) (below : List Expected) (base : Draft) (vars : List (List ℕ)) (marks : List ℕ)
    (before : List Bone) (unclosed : List OpenBone) (target : Target) (symbols : List Symbol) →
    Reads final (Bones body ∷ below) (between base vars marks before unclosed target) symbols → BonesRead final body below base vars before unclosed symbols
