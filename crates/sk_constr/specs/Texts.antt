-- The text of the list of constraints.
use Rattle.std.specs.Prelude.{ℕ, List, [], ◌++◌, codes, decimal, slice_get, unwrap_or}
use Rattle.std.specs.Fmt.{signed_decimal}
use Rattle.std.specs.List.{flat_map, join_by}
use Rattle.sk_def.specs.declared.ids.HookId.{HookId}
use Rattle.sk_def.specs.declared.def.Def.{Def}
use Rattle.sk_def.specs.Filters.{filter_word}
use Rattle.sk_def.specs.Named.{hook_name}
use Rattle.sk_lattice.specs.Domain.{Domain}
use Rattle.sk_lattice.specs.DomainTexts.{DomainTexts}
use Rattle.sk_lattice.specs.Texts.{tuple_text}
use Rattle.sk_table.specs.declared.triple.Cover.{Cover}
use Rattle.sk_constr.specs.declared.line.Operand.{Operand}
use Rattle.sk_constr.specs.declared.line.Part.{Part}
use Rattle.sk_constr.specs.declared.line.Line.{Line}
use Rattle.sk_constr.specs.declared.line.KeyLines.{KeyLines}
use Rattle.sk_constr.specs.declared.constraint_list.ConstraintList.{ConstraintList}

-- a leaf as it is written, or an entry of a position
abbrev pub operand_text : List (List ℕ) → Operand → List ℕ
operand_text names (Operand.Number z) = signed_decimal z
operand_text names (Operand.Name n) = unwrap_or (slice_get names n) []
operand_text names (Operand.At position entry) = decimal position ++ codes "." ++ decimal entry

abbrev pub operands_text : List (List ℕ) → List Operand → List ℕ
operands_text names operands = codes "(" ++ join_by (operand_text names) (codes ", ") operands ++ codes ")"

-- a hook with its point
abbrev pub key_name : Def → HookId → ℕ → List ℕ
key_name d hook point = hook_name d hook ++ codes " " ++ decimal point

-- what a line asks for, after its arrow
abbrev pub part_text : Def → List (List ℕ) → Part → List ℕ
part_text d names (Part.Filter to filter args) = decimal to ++ codes " filter " ++ filter_word filter ++ codes " " ++ operands_text names args
part_text d names (Part.Call to hook point args) = decimal to ++ codes " call " ++ key_name d hook point ++ codes " " ++ operands_text names args
part_text d names (Part.Join to vars) = decimal to ++ codes " join " ++ operands_text names vars
part_text d names (Part.End vars) = codes "out " ++ operands_text names vars

abbrev pub line_text : Def → List (List ℕ) → Line → List ℕ
line_text d names line = decimal line.from ++ codes " -> " ++ part_text d names line.part ++ codes "\n"

-- the line of a key, and then its lines
abbrev pub key_text : Def → List (List ℕ) → KeyLines → List ℕ
key_text d names key = codes "key " ++ key_name d key.hook key.point ++ codes "\n" ++ flat_map (line_text d names) key.lines

module _ {D : Type 0} (domain : Domain D) (texts : DomainTexts D) where
  abbrev pub cover_text : Def → List (List ℕ) → Cover D → List ℕ
  cover_text d names cover = codes "cover " ++ key_name d cover.hook cover.point ++ codes " " ++ tuple_text domain texts names cover.ins ++ codes "\n"

  -- the domain, the cover lines, and the keys
  abbrev pub constraints_text : Def → List (List ℕ) → ConstraintList D → List ℕ
  constraints_text d names list =
      codes "constraints 1 " ++ texts.word ++ codes "\n" ++ flat_map (cover_text d names) list.covers ++ flat_map (key_text d names) list.keys
