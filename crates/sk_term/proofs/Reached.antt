-- What was read so far is the beginning of a well-sorted term.
use Rattle.std.proofs.Common.{◌≡◌, ℕ, ◌+◌, ◌<◌, ◌≤◌, ℤ, List, [], ◌∷◌, ◌++◌, length, sym, ap, ◌∙◌, arith, length-append, append_assoc, map, Option, Some}
use Rattle.sk_def.specs.declared.ids.ConId.{ConId}
use Rattle.sk_def.specs.declared.ids.SortId.{SortId}
use Rattle.sk_def.specs.declared.sorts.ArgSort.{ArgSort}
use Rattle.sk_def.specs.declared.sorts.ArgSort.TheVariants as sort
use Rattle.sk_def.specs.declared.def.Def.{Def}
use Rattle.sk_term.specs.declared.expected.Expected.{Expected}
use Rattle.sk_term.specs.declared.expected.Expected.TheVariants.{Root, Open, First, After, Next}
use Rattle.sk_term.specs.declared.expected.OpenTerm.{OpenTerm}
use Rattle.sk_term.specs.declared.node.Child.TheVariants.{Point}
use Rattle.sk_term.specs.declared.node.TermNode.{TermNode}
use Rattle.sk_term.specs.Terms.{Args, node_count_of_args, children_from, nodes_of_args, literals_of_args, HaveSorts, NamesOfArgsAreBelow, sort_of_con, arguments_of}
use Rattle.sk_term.specs.Program.{AreOfSortedTerm}
use Rattle.sk_term.specs.Reading.{Reading, node_begun}
use Rattle.sk_term.proofs.Nodes.{joined, nodes-joined, literals-joined, names-joined, sorts-joined, length-nodes_of_args, more_names_of_args}

-- A term is open at a point: after the nodes and leaves above it come its node and those of the arguments that it has,
-- and its other arguments have the rest of the sorts.
pub record IsOpen (d : Def) (names point : ℕ) (c : ConId) (above : List TermNode) (leaves_above : List ℤ) (here : List TermNode) (leaves : List ℤ) (args : Args) (rest : List ArgSort) : Type 0 where
  pub place : point ≡ length above
  pub declared : c.0 < length d.cons
  pub nodes_are : here ≡ above ++ node_begun c ∷ nodes_of_args (point + 1) args
  pub leaves_are : leaves ≡ leaves_above ++ literals_of_args args
  pub front : List ArgSort
  pub arguments : arguments_of d c ≡ front ++ rest
  pub sorted : HaveSorts d args front
  pub below : NamesOfArgsAreBelow names args

-- an open term waits for a subterm of a sort after these nodes and leaves, and above it others wait
pub record Waiting (d : Def) (names : ℕ) (o : OpenTerm) (Above : List TermNode → List ℤ → Option SortId → Type 0) (here : List TermNode) (leaves : List ℤ) (found : Option SortId) : Type 0 where
  pub args : Args
  pub above : List TermNode
  pub leaves_above : List ℤ
  pub wanted : SortId
  pub rest : List ArgSort
  pub is_open : IsOpen d names o.point o.node.con above leaves_above here leaves args (sort.Term wanted ∷ rest)
  pub children : o.node.children ≡ children_from (o.point + 1) args ++ Point (length here) ∷ []
  pub fits : found ≡ Some wanted
  pub outside : Above above leaves_above (sort_of_con d o.node.con)

abbrev pub Wait : Def → ℕ → List OpenTerm → List TermNode → List ℤ → Option SortId → Type 0
Wait d names [] here leaves found = (here ≡ []) × (leaves ≡ [])
Wait d names (o ∷ outer) here leaves found = Waiting d names o (Wait d names outer) here leaves found

-- the innermost term is open after so many names, these nodes and leaves, and the others wait for it
pub record IsInside (d : Def) (names : ℕ) (here : List TermNode) (leaves : List ℤ) (o : OpenTerm) (outer : List OpenTerm) (rest : List ArgSort) : Type 0 where
  pub args : Args
  pub above : List TermNode
  pub leaves_above : List ℤ
  pub is_open : IsOpen d names o.point o.node.con above leaves_above here leaves args rest
  pub children : o.node.children ≡ children_from (o.point + 1) args
  pub outside : Wait d names outer above leaves_above (sort_of_con d o.node.con)
  pub few : length here ≤ 4096

-- so it is where this is expected after the innermost term
abbrev pub afters : List OpenTerm → List Expected
afters outer = map (λ o. After) outer

pub record HasBegun (expected : List Expected) (state : Reading) : Type 0 where
  pub innermost : OpenTerm
  pub outer : List OpenTerm
  pub rest : List ArgSort
  pub unclosed : state.unclosed ≡ innermost ∷ outer
  pub expected_is : expected ≡ afters outer
  pub inside : IsInside state.def (length state.names) state.nodes state.literals innermost outer rest

pub record Nothing (state : Reading) : Type 0 where
  pub nodes : state.nodes ≡ []
  pub literals : state.literals ≡ []
  pub unclosed : state.unclosed ≡ []

-- what was read, by what is expected
abbrev pub Reached : List Expected → Reading → Type 0
Reached [] state = AreOfSortedTerm state.def state.nodes state.literals (length state.names)
Reached (Root ∷ es) state = (es ≡ []) × Nothing state
Reached (Open ∷ First ∷ es) state = HasBegun es state
Reached (Open ∷ es) state = ⊥
Reached (First ∷ es) state = HasBegun es state
Reached (After ∷ es) state = HasBegun es state
Reached (Next ∷ es) state = HasBegun es state

-- an open term gets one argument more
pub opened_more : {d : Def} {names point : ℕ} {c : ConId} {above : List TermNode} {leaves_above : List ℤ} {here : List TermNode} {leaves : List ℤ} {args : Args} {s : ArgSort} {rest : List ArgSort} →
    IsOpen d names point c above leaves_above here leaves args (s ∷ rest) → (more : Args) → HaveSorts d more (s ∷ []) → NamesOfArgsAreBelow names more →
    IsOpen d names point c above leaves_above (here ++ nodes_of_args (point + 1 + node_count_of_args args) more) (leaves ++ literals_of_args more) (joined args more) rest
opened_more {d = d} {names = names} {point = point} {c = c} {above = above} {leaves_above = leaves_above} {args = args} {s = s} {rest = rest} o more sorted below = record {
  place = o.place;
  declared = o.declared;
  nodes_are = ap (λ ns. ns ++ nodes_of_args (point + 1 + node_count_of_args args) more) o.nodes_are
      ∙ append_assoc above (node_begun c ∷ nodes_of_args (point + 1) args) (nodes_of_args (point + 1 + node_count_of_args args) more)
      ∙ ap (λ ns. above ++ node_begun c ∷ ns) (sym (nodes-joined (point + 1) args more));
  leaves_are = ap (λ zs. zs ++ literals_of_args more) o.leaves_are ∙ append_assoc leaves_above (literals_of_args args) (literals_of_args more)
      ∙ ap (λ zs. leaves_above ++ zs) (sym (literals-joined args more));
  front = o.front ++ s ∷ [];
  arguments = o.arguments ∙ sym (append_assoc o.front (s ∷ []) rest);
  sorted = sorts-joined d args more o.front (s ∷ []) o.sorted sorted;
  below = names-joined names args more o.below below;
}

-- the point after what an open term has
pub next_point : {d : Def} {names point : ℕ} {c : ConId} {above : List TermNode} {leaves_above : List ℤ} {here : List TermNode} {leaves : List ℤ} {args : Args} {rest : List ArgSort} →
    IsOpen d names point c above leaves_above here leaves args rest → point + 1 + node_count_of_args args ≡ length here
next_point {point = point} {c = c} {above = above} {args = args} o =
    omega (arith, o.place, ap length o.nodes_are, length-append above (node_begun c ∷ nodes_of_args (point + 1) args), length-nodes_of_args (point + 1) args)

-- more names may stand
pub open_by_more : {d : Def} {names point : ℕ} {c : ConId} {above : List TermNode} {leaves_above : List ℤ} {here : List TermNode} {leaves : List ℤ} {args : Args} {rest : List ArgSort} (more : ℕ) → names ≤ more →
    IsOpen d names point c above leaves_above here leaves args rest → IsOpen d more point c above leaves_above here leaves args rest
open_by_more {names = names} {args = args} more h o = record {
  place = o.place;
  declared = o.declared;
  nodes_are = o.nodes_are;
  leaves_are = o.leaves_are;
  front = o.front;
  arguments = o.arguments;
  sorted = o.sorted;
  below = more_names_of_args names more args h o.below;
}

pub wait_by_more : (d : Def) (names more : ℕ) (outer : List OpenTerm) (here : List TermNode) (leaves : List ℤ) (found : Option SortId) → names ≤ more →
    Wait d names outer here leaves found → Wait d more outer here leaves found
wait_by_more d names more [] here leaves found h w = w
wait_by_more d names more (o ∷ outer) here leaves found h w = record {
  args = w.args;
  above = w.above;
  leaves_above = w.leaves_above;
  wanted = w.wanted;
  rest = w.rest;
  is_open = open_by_more more h w.is_open;
  children = w.children;
  fits = w.fits;
  outside = wait_by_more d names more outer w.above w.leaves_above (sort_of_con d o.node.con) h w.outside;
}

-- the same nodes and leaves
pub open_here : {d : Def} {names point : ℕ} {c : ConId} {above : List TermNode} {leaves_above : List ℤ} {here now : List TermNode} {leaves leaves_now : List ℤ} {args : Args} {rest : List ArgSort} → now ≡ here → leaves_now ≡ leaves →
    IsOpen d names point c above leaves_above here leaves args rest → IsOpen d names point c above leaves_above now leaves_now args rest
open_here e l o = record {
  place = o.place;
  declared = o.declared;
  nodes_are = e ∙ o.nodes_are;
  leaves_are = l ∙ o.leaves_are;
  front = o.front;
  arguments = o.arguments;
  sorted = o.sorted;
  below = o.below;
}
