-- What the rounds see of abstract tuples over a domain.
use Rattle.std.specs.Prelude.{◌≡◌, ◌≤◌, ℕ, ◌+◌, ◌*◌, max, ℤ, Bool, true, false, ◌&&◌, List, length, Option, Some, None}
use Rattle.sk_base.specs.declared.flow.FlowSort.{FlowSort}
use Rattle.sk_lattice.specs.declared.flow.AbsFlow.{AbsFlow}
use Rattle.sk_lattice.specs.Domain.{Domain}
use Rattle.sk_lattice.specs.Empty.{is_proper}
use Rattle.sk_lattice.specs.Merge.{Join, Widen, tuple_merge}
use Rattle.sk_lattice.specs.Order.{tuple_leq}
use Rattle.sk_lattice.specs.Ranks.{tuple_rank}
use Rattle.sk_lattice.specs.Shapes.{has_sorts}
use Rattle.sk_rounds.specs.Walks.{Side, Call, Walks}

-- whether a tuple has the sorts of a side, if it is one, and no empty part
abbrev pub tuple_fits : {D : Type 0} → Domain D → ℕ → Option (List FlowSort) → List (AbsFlow D) → Bool
tuple_fits d names None t = false
tuple_fits d names (Some sorts) t = has_sorts names sorts t && is_proper d t

-- what a definition, a program and a job add to a domain; a pair that is no key of the program has no sorts
pub record Reading (K D : Type 0) : Type 0 where
  pub names : ℕ
  pub keys : List K
  pub same : K → K → Bool
  pub sorts : K → Side → Option (List FlowSort)
  pub covers : List (Call K (List (AbsFlow D)))
  pub gives : (K → Option (List (AbsFlow D))) → K → List (AbsFlow D) → Option (List (AbsFlow D))
  pub calls : (K → Option (List (AbsFlow D))) → K → List (AbsFlow D) → List (Call K (List (AbsFlow D)))

-- more than every rank of a tuple of at most four flows over so many names
abbrev pub rank_cap : {D : Type 0} → Domain D → List ℤ → ℕ → ℕ
rank_cap d marks names = 1 + 4 * max names 1 * (d.rank d.empty marks + 3)

-- its walks over the domain, with widenings at these thresholds
abbrev pub walks_over : {K D : Type 0} → Domain D → Bool → List ℤ → Reading K D → Walks K (List (AbsFlow D))
walks_over d finite marks r =
    record {
      keys = r.keys;
      same = r.same;
      covers = r.covers;
      gives = r.gives;
      calls = r.calls;
      fits = λ k side. tuple_fits d r.names (r.sorts k side);
      leq = tuple_leq d;
      join = tuple_merge d Join;
      widen = tuple_merge d (Widen marks);
      is_finite = finite;
      rank = tuple_rank d marks;
      cap = rank_cap d marks r.names;
    }

-- keys are told apart, and sides have at most four flows
pub record ReadingLaws {K D : Type 0} (r : Reading K D) : Type 0 where
  pub same_refl : (k : K) → r.same k k ≡ true
  pub same_only : (j k : K) → r.same j k ≡ true → j ≡ k
  pub few_sorts : (k : K) (side : Side) (sorts : List FlowSort) → r.sorts k side ≡ Some sorts → length sorts ≤ 4
