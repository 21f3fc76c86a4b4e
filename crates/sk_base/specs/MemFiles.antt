-- What the files in memory tell, and which of their calls fail.
use Rattle.std.specs.Prelude.{◌≡◌, ◌++◌, ℕ, ◌==◌, Bool, true, false, ◌&&◌, List, [], ◌∷◌, drop, Option, is_some, option_map, option_and_then, slice_get, position, nat_eq, string_bytes}
use Rattle.std.specs.List.{list_any}
use lib.Pointwise.{pointwise}
use Rattle.sk_base.specs.Files.{Folder}
use Rattle.sk_base.specs.declared.mem_files.HeldFile.{HeldFile}

-- where the file of this name is held
abbrev pub place_held : List HeldFile → List ℕ → Option ℕ
place_held held name = position (λ file. pointwise nat_eq (string_bytes file.name) name) held

-- the bytes of the file that is held there
abbrev pub bytes_held : List HeldFile → Option ℕ → Option (List ℕ)
bytes_held held place = option_map (λ file. file.bytes.items) (option_and_then (λ i. slice_get held i) place)

-- no call is to fail
abbrev pub is_reliable : List ℕ → Bool
is_reliable [] = true
is_reliable (_ ∷ _) = false

-- the call of this number is to fail
abbrev pub is_to_fail : List ℕ → ℕ → Bool
is_to_fail failing call = list_any (λ other. other == call) failing

-- the files as a program sees them: just those that are held are told, and steady where no call is to fail
abbrev pub folder_of : List HeldFile → List ℕ → Folder
folder_of held failing = record {
  told = λ name. bytes_held held (place_held held name);
  steady = λ name. is_reliable failing && is_some (place_held held name);
}

-- what is left of the selected file
abbrev pub bytes_left : List HeldFile → Option ℕ → ℕ → Option (List ℕ)
bytes_left held place taken = option_map (λ bytes. drop taken bytes) (bytes_held held place)

-- one more file is held, with this name and these bytes
pub record IsHeldToo (old : List HeldFile) (name bytes : List ℕ) (new : List HeldFile) : Type 0 where
  pub file : HeldFile
  pub name_is : string_bytes file.name ≡ name
  pub bytes_is : file.bytes.items ≡ bytes
  pub last : new ≡ old ++ file ∷ []
