-- The table of an assignment.
use Rattle.std.specs.Prelude.{List, Option}
use Rattle.std.specs.Option.{option_map}
use Rattle.std.specs.List.{filter_map}
use Rattle.sk_absfilter.specs.Abstract.{Outcome}
use Rattle.sk_table.specs.declared.triple.Triple.{Triple}
use Rattle.sk_solve.specs.declared.assignment.Solved.{Solved}
use Rattle.sk_solve.specs.Solves.{value_at}

-- what position 0 of a key has
abbrev pub inputs_of : {D : Type 0} → Solved D → Outcome D
inputs_of s = value_at s.positions 0

-- the triple of a key whose inputs aren't none
abbrev pub triple_of : {D : Type 0} → Solved D → Option (Triple D)
triple_of s = option_map (λ ins. record { hook = s.hook; point = s.point; ins = ins; outs = s.outs }) (inputs_of s)

-- those of all such keys, in their order
abbrev pub table_of : {D : Type 0} → List (Solved D) → List (Triple D)
table_of assignment = filter_map triple_of assignment
