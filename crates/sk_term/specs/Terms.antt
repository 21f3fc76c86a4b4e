-- Programs: terms of constructors and leaves, and their nodes by point.
use Rattle.std.specs.Prelude.{◌≡◌, Some, length, ℕ, ◌+◌, ◌<◌, ◌==◌, Bool, false, ℤ, List, [], ◌∷◌, ◌++◌, Option, filter, map, option_map, slice_get}
use Rattle.std.specs.List.{flat_map, enumerate_from}
use Rattle.std.specs.Option.{option_map_or}
use Rattle.sk_def.specs.declared.ids.ConId.{ConId}
use Rattle.sk_def.specs.declared.ids.HookId.{HookId}
use Rattle.sk_def.specs.declared.ids.SortId.{SortId}
use Rattle.sk_def.specs.declared.sorts.ArgSort.{ArgSort}
use Rattle.sk_def.specs.declared.sorts.ArgSort.TheVariants as sort
use Rattle.sk_def.specs.declared.def.Con.{Con}
use Rattle.sk_def.specs.declared.def.Hook.{Hook}
use Rattle.sk_def.specs.declared.def.Def.{Def}
use Rattle.sk_term.specs.declared.node.Child.{Child}
use Rattle.sk_term.specs.declared.node.Child.TheVariants.{Number, Name, Point}
use Rattle.sk_term.specs.declared.node.TermNode.{TermNode}

mutual
  -- a program is a constructor with its arguments
  pub data Term : Type 0 where
    con : ConId → Args → Term

  -- the arguments of a constructor: numbers, names and terms
  pub data Args : Type 0 where
    none : Args
    number : ℤ → Args → Args
    name : ℕ → Args → Args
    term : Term → Args → Args

abbrev mutual
  -- how many nodes a term has
  pub node_count : Term → ℕ
  node_count (con c args) = 1 + node_count_of_args args

  pub node_count_of_args : Args → ℕ
  node_count_of_args none = 0
  node_count_of_args (number z rest) = node_count_of_args rest
  node_count_of_args (name n rest) = node_count_of_args rest
  node_count_of_args (term t rest) = node_count t + node_count_of_args rest

-- the entries of a node whose first subterm has this point
abbrev pub children_from : ℕ → Args → List Child
children_from point none = []
children_from point (number z rest) = Number z ∷ children_from point rest
children_from point (name n rest) = Name n ∷ children_from point rest
children_from point (term t rest) = Point point ∷ children_from (point + node_count t) rest

abbrev mutual
  -- the nodes of a term in preorder, the first of which has this point
  pub nodes_from : ℕ → Term → List TermNode
  nodes_from point (con c args) =
      record { con = c; children = children_from (point + 1) args } ∷ nodes_of_args (point + 1) args

  pub nodes_of_args : ℕ → Args → List TermNode
  nodes_of_args point none = []
  nodes_of_args point (number z rest) = nodes_of_args point rest
  nodes_of_args point (name n rest) = nodes_of_args point rest
  nodes_of_args point (term t rest) = nodes_from point t ++ nodes_of_args (point + node_count t) rest

-- the nodes of a program, by point
abbrev pub nodes : Term → List TermNode
nodes t = nodes_from 0 t

abbrev mutual
  -- the number leaves of a term in preorder
  pub literals : Term → List ℤ
  literals (con c args) = literals_of_args args

  pub literals_of_args : Args → List ℤ
  literals_of_args none = []
  literals_of_args (number z rest) = z ∷ literals_of_args rest
  literals_of_args (name n rest) = literals_of_args rest
  literals_of_args (term t rest) = literals t ++ literals_of_args rest

-- the sort of a constructor, if there is such a one
abbrev pub sort_of_con : Def → ConId → Option SortId
sort_of_con d c = option_map (λ (entry : Con). entry.sort) (slice_get d.cons c.0)

-- the sort of a node
abbrev pub sort_of_node : Def → TermNode → Option SortId
sort_of_node d node = sort_of_con d node.con

abbrev pub sort_of_term : Def → Term → Option SortId
sort_of_term d (con c args) = sort_of_con d c

-- the sorts of a constructor's arguments
abbrev pub arguments_of : Def → ConId → List ArgSort
arguments_of d c = option_map_or (λ (entry : Con). entry.args) (slice_get d.cons c.0) []

abbrev mutual
  -- each constructor of a term is declared, and its arguments have their sorts
  pub IsWellSorted : Def → Term → Type 0
  IsWellSorted d (con c args) = (c.0 < length d.cons) × HaveSorts d args (arguments_of d c)

  pub HaveSorts : Def → Args → List ArgSort → Type 0
  HaveSorts d none [] = Unit {0}
  HaveSorts d (number z rest) (sort.Number ∷ sorts) = HaveSorts d rest sorts
  HaveSorts d (name n rest) (sort.Name ∷ sorts) = HaveSorts d rest sorts
  HaveSorts d (term t rest) (sort.Term s ∷ sorts) = (sort_of_term d t ≡ Some s) × IsWellSorted d t × HaveSorts d rest sorts
  HaveSorts d _ _ = ⊥

abbrev mutual
  -- each name leaf of a term lies below a number of names
  pub NamesAreBelow : ℕ → Term → Type 0
  NamesAreBelow names (con c args) = NamesOfArgsAreBelow names args

  pub NamesOfArgsAreBelow : ℕ → Args → Type 0
  NamesOfArgsAreBelow names none = Unit {0}
  NamesOfArgsAreBelow names (number z rest) = NamesOfArgsAreBelow names rest
  NamesOfArgsAreBelow names (name n rest) = (n < names) × NamesOfArgsAreBelow names rest
  NamesOfArgsAreBelow names (term t rest) = NamesAreBelow names t × NamesOfArgsAreBelow names rest

-- whether a hook evaluates nodes of this sort
abbrev pub takes_node : Def → TermNode → Hook → Bool
takes_node d node hook = option_map_or (λ (found : SortId). found.0 == hook.sort.0) (sort_of_node d node) false

-- the hooks from this place on that evaluate a point's node, as keys
abbrev pub keys_at : Def → TermNode → ℕ → ℕ → List Hook → List (HookId × ℕ)
keys_at d node point place hooks = map (λ h. (record { 0 = h.0 }, point)) (filter (λ h. takes_node d node h.1) (enumerate_from place hooks))

-- the keys of a program: each point with each hook of its sort, by point and then by the hook's place
abbrev pub keys : Def → List TermNode → List (HookId × ℕ)
keys d ns = flat_map (λ at. keys_at d at.1 at.0 0 d.hooks) (enumerate_from 0 ns)
