-- What callers see of a program.
use Rattle.std.specs.Prelude.{◌≡◌, ◌<◌, ◌≤◌, ℕ, ℤ, List, [], ◌∷◌, ◌++◌, length, map, Some, Option, option_map, slice_get}
use Rattle.std.specs.Option.{option_map_or}
use Rattle.sk_def.specs.declared.ids.SortId.{SortId}
use Rattle.sk_def.specs.declared.ids.ConId.{ConId}
use Rattle.sk_def.specs.declared.sorts.ArgSort.{ArgSort}
use Rattle.sk_def.specs.declared.sorts.ArgSort.TheVariants as sort
use Rattle.sk_def.specs.declared.def.Def.{Def}
use Rattle.sk_term.specs.declared.node.Child.{Child}
use Rattle.sk_term.specs.declared.node.Child.TheVariants.{Number, Name, Point}
use Rattle.sk_term.specs.declared.node.TermNode.{TermNode}
use Rattle.sk_term.specs.Terms.{Term, nodes, literals, IsWellSorted, NamesAreBelow, sort_of_node}

-- the nodes of a program by point, their sorts, and the number of names that it is over
pub record Program : Type 0 where
  pub nodes : List TermNode
  pub sorts : List SortId
  pub names : ℕ

-- the nodes are those of a term with these number leaves, at most 4,096, whose name leaves lie below a number
pub record AreOfTerm (list : List TermNode) (leaves : List ℤ) (names : ℕ) : Type 0 where
  pub whole : Term
  pub nodes_are : list ≡ nodes whole
  pub leaves_are : leaves ≡ literals whole
  pub few : length list ≤ 4096
  pub names_below : NamesAreBelow names whole

-- a well-sorted one of a definition
pub record AreOfSortedTerm (d : Def) (list : List TermNode) (leaves : List ℤ) (names : ℕ) : Type 0 where
  pub whole : Term
  pub nodes_are : list ≡ nodes whole
  pub leaves_are : leaves ≡ literals whole
  pub few : length list ≤ 4096
  pub names_below : NamesAreBelow names whole
  pub well_sorted : IsWellSorted d whole

-- a program is a well-sorted term of a definition, within the limits, and its sorts are those of its constructors
pub record IsProgramOf (d : Def) (program : Program) : Type 0 where
  pub whole : Term
  pub nodes_are : program.nodes ≡ nodes whole
  pub well_sorted : IsWellSorted d whole
  pub few : length program.nodes ≤ 4096
  pub names_below : NamesAreBelow program.names whole
  pub sorts_are : map Some program.sorts ≡ map (sort_of_node d) program.nodes

-- the constructor of a point, and its entries
abbrev pub con_of_point : List TermNode → ℕ → Option ConId
con_of_point list point = option_map (λ (node : TermNode). node.con) (slice_get list point)

abbrev pub children_of_point : List TermNode → ℕ → List Child
children_of_point list point = option_map_or (λ (node : TermNode). node.children) (slice_get list point) []

-- a sort is that of a point's constructor
abbrev pub IsSortOfPoint : Def → List TermNode → ℕ → SortId → Type 0
IsSortOfPoint d list point found = option_map (sort_of_node d) (slice_get list point) ≡ Some (Some found)

-- An entry has the sort of its argument: a name of the program's, or a point of the term sort.
abbrev pub ChildFits : Def → List TermNode → ℕ → Child → ArgSort → Type 0
ChildFits d list names (Number z) sort.Number = Unit {0}
ChildFits d list names (Name n) sort.Name = n < names
ChildFits d list names (Point point) (sort.Term wanted) = IsSortOfPoint d list point wanted
ChildFits d list names _ _ = ⊥

abbrev pub ChildrenFit : Def → List TermNode → ℕ → List Child → List ArgSort → Type 0
ChildrenFit d list names [] [] = Unit {0}
ChildrenFit d list names (child ∷ children) (wanted ∷ sorts) = ChildFits d list names child wanted × ChildrenFit d list names children sorts
ChildrenFit d list names _ _ = ⊥

-- what was gathered, with more leaves before it
abbrev pub with_front : List ℤ → List ℤ × List (List ℤ) → List ℤ × List (List ℤ)
with_front front gathered = (front ++ gathered.0, gathered.1)

-- the number leaves below these entries, where those of the terms that follow are given one list each; and what is
-- left of these lists
abbrev pub gathered : List Child → List (List ℤ) → List ℤ × List (List ℤ)
gathered [] terms = ([], terms)
gathered (Number z ∷ children) terms = with_front (z ∷ []) (gathered children terms)
gathered (Name n ∷ children) terms = gathered children terms
gathered (Point p ∷ children) [] = gathered children []
gathered (Point p ∷ children) (first ∷ terms) = with_front first (gathered children terms)

-- the number leaves of the terms that nodes in preorder have, one list each
abbrev pub leaves_by_term : List TermNode → List (List ℤ)
leaves_by_term [] = []
leaves_by_term (node ∷ later) = joined (gathered node.children (leaves_by_term later)) where
  joined : List ℤ × List (List ℤ) → List (List ℤ)
  joined pair = pair.0 ∷ pair.1

-- the number leaves of the first of these terms, in preorder
abbrev pub number_leaves : List TermNode → List ℤ
number_leaves list = front (leaves_by_term list) where
  front : List (List ℤ) → List ℤ
  front [] = []
  front (first ∷ terms) = first

-- they are those of the term that the nodes are of, from left to right
abbrev pub LeavesAreLiterals : Type 0
LeavesAreLiterals = (whole : Term) → number_leaves (nodes whole) ≡ literals whole
