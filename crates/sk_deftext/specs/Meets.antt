-- What the code of a step means.
use Rattle.std.specs.Prelude.{ℕ, ◌+◌, ◌≤◌, ◌<◌, List, [], ◌∷◌, length, IfSome, Option, Some, None}
use Rattle.sk_deftext.specs.declared.draft.Draft.{Draft}
use Rattle.sk_deftext.specs.declared.draft.OpenBone.{OpenBone}
use Rattle.sk_deftext.specs.declared.draft.BoneHead.{BoneHead}
use Rattle.sk_deftext.specs.declared.fault.DefError.{DefError}
use Rattle.sk_deftext.specs.declared.fault.Refusal.{Refusal}
use Rattle.sk_deftext.specs.declared.fault.Refusal.TheVariants.{Bad, NoMemory}

abbrev pub error_of : Refusal → Option DefError
error_of (Bad error) = Some error
error_of NoMemory = None

-- how many bones stand in and before the branch bones that are being read, these counted
abbrev pub held : List OpenBone → ℕ
held [] = 0
held (one ∷ outer) = length one.before + length one.inside + 1 + held outer

abbrev pub count_of : Option BoneHead → ℕ
count_of None = 0
count_of (Some head) = 1

-- no more was read than a definition may hold, and each bone was counted at its first token
pub record IsWithin (draft : Draft) : Type 0 where
  pub sorts : length draft.def.sorts ≤ 16
  pub cons : length draft.def.cons ≤ 128
  pub con_room : IfSome draft.con_name (λ _. length draft.def.cons < 128)
  pub hooks : length draft.def.hooks ≤ 8
  pub hook_room : IfSome draft.hook_name (λ _. length draft.def.hooks < 8)
  pub few : length draft.marks ≤ 64
  pub counted : held draft.unclosed + length draft.bones + count_of draft.opened ≤ length draft.marks
