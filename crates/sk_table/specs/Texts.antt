-- The text of a table: one triple on each line.
use Rattle.std.specs.Prelude.{ℕ, List, ◌++◌, codes, decimal, Option, Some, None}
use Rattle.std.specs.List.{flat_map}
use Rattle.sk_def.specs.Named.{hook_name}
use Rattle.sk_def.specs.declared.def.Def.{Def}
use Rattle.sk_lattice.specs.Domain.{Domain}
use Rattle.sk_lattice.specs.DomainTexts.{DomainTexts}
use Rattle.sk_lattice.specs.Texts.{tuple_text}
use Rattle.sk_lattice.specs.declared.flow.AbsFlow.{AbsFlow}
use Rattle.sk_table.specs.declared.triple.Triple.{Triple}

abbrev pub outs_text : {D : Type 0} → Domain D → DomainTexts D → List (List ℕ) → Option (List (AbsFlow D)) → List ℕ
outs_text d t names None = codes "none"
outs_text d t names (Some tuple) = tuple_text d t names tuple

-- the line of a triple
abbrev pub triple_text : {D : Type 0} → Domain D → DomainTexts D → Def → List (List ℕ) → Triple D → List ℕ
triple_text d t def names triple =
    hook_name def triple.hook ++ codes " " ++ decimal triple.point ++ codes " " ++ tuple_text d t names triple.ins ++ codes " -> " ++ outs_text d t names triple.outs ++ codes "\n"

abbrev pub first_line : {D : Type 0} → DomainTexts D → List ℕ
first_line t = codes "table 1 " ++ t.word ++ codes "\n"

abbrev pub triples_text : {D : Type 0} → Domain D → DomainTexts D → Def → List (List ℕ) → List (Triple D) → List ℕ
triples_text d t def names table = flat_map (triple_text d t def names) table

-- the whole text
abbrev pub table_text : {D : Type 0} → Domain D → DomainTexts D → Def → List (List ℕ) → List (Triple D) → List ℕ
table_text d t def names table = first_line t ++ triples_text d t def names table
