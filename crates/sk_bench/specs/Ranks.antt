-- How great the rank of an element may be.
use Rattle.std.specs.Prelude.{◌^◌, ◌≤◌, ℤ, List}
use Rattle.sk_lattice.specs.Domain.{Domain}
use Rattle.sk_lattice.specs.Thresholds.{IsThresholds}

-- no rank at the thresholds of a program is greater than this
abbrev pub RanksAreSmall : {D : Type 0} → Domain D → Type 0
RanksAreSmall domain = (marks : List ℤ) → IsThresholds marks → domain.rank domain.empty marks ≤ 2 ^ 34
