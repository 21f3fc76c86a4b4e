-- Abstract environments of which no part is empty.
use Rattle.std.specs.Prelude.{◌≡◌, Bool, true, Option, Some, None}
use Rattle.std.specs.List.{list_all}
use Rattle.sk_deriv.specs.declared.entry.Entry.{Entry}
use Rattle.sk_deriv.specs.Env.{Env}
use Rattle.sk_lattice.specs.declared.flow.AbsFlow.{AbsFlow}
use Rattle.sk_lattice.specs.Domain.{Domain}
use Rattle.sk_lattice.specs.Empty.{flow_is_proper}

-- whether no part of what a variable stands for is empty
abbrev pub entry_is_proper : {D : Type 0} → Domain D → Option (Entry (AbsFlow D)) → Bool
entry_is_proper d None = true
entry_is_proper d (Some (Entry.Number z)) = true
entry_is_proper d (Some (Entry.Name n)) = true
entry_is_proper d (Some (Entry.Flow a)) = flow_is_proper d a
entry_is_proper d (Some (Entry.Point p)) = true

-- no part of what the variables stand for is empty
abbrev pub IsProperEnv : {D : Type 0} → Domain D → Env (AbsFlow D) → Type 0
IsProperEnv d env = list_all (entry_is_proper d) env ≡ true
