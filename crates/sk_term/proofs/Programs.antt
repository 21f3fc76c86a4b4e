-- Programs by their nodes, leaves and sorts.
use Rattle.std.proofs.Common.{◌≡◌, ℕ, ◌+◌, ◌<◌, ◌≤◌, ℤ, List, [], ◌∷◌, length, sym, ap, subst, ◌∙◌, Option, Some}
use Rattle.std.specs.Prelude.{All, slice_get, option_map}
use Rattle.std.proofs.lemmas.List.{append-nil}
use Rattle.std.proofs.lemmas.List.Elements.{All-append, All-cons, All-nil}
use Rattle.std.proofs.lemmas.Option.{slice_get-map}
use Rattle.sk_def.specs.declared.ids.SortId.{SortId}
use Rattle.sk_def.specs.declared.sorts.ArgSort.{ArgSort}
use Rattle.sk_def.specs.declared.sorts.ArgSort.TheVariants as sort
use Rattle.sk_def.specs.declared.def.Def.{Def}
use Rattle.sk_term.specs.declared.node.TermNode.{TermNode}
use Rattle.sk_term.specs.Terms.{Term, con, Args, none, number, name, term, node_count, nodes, nodes_from, nodes_of_args, literals, IsWellSorted, HaveSorts, sort_of_node, arguments_of}
use Rattle.sk_term.specs.Program.{Program, IsProgramOf, IsSortOfPoint, AreOfTerm, AreOfSortedTerm, number_leaves}
use Rattle.sk_term.proofs.Nodes.{more_names, leaves_of_term}

-- the constructors of a well-sorted term are declared
abbrev pub IsDeclared : Def → TermNode → Type 0
IsDeclared d node = node.con.0 < length d.cons

mutual
  pub are_declared : (d : Def) (p : ℕ) (t : Term) → IsWellSorted d t → All (IsDeclared d) (nodes_from p t)
  are_declared d p (con c args) w = All-cons (IsDeclared d) _ (nodes_of_args (p + 1) args) w.0 (args_are_declared d (p + 1) args (arguments_of d c) w.1)

  pub args_are_declared : (d : Def) (p : ℕ) (args : Args) (sorts : List ArgSort) → HaveSorts d args sorts → All (IsDeclared d) (nodes_of_args p args)
  args_are_declared d p none sorts h = All-nil (IsDeclared d)
  args_are_declared d p (number z rest) (sort.Number ∷ sorts) h = args_are_declared d p rest sorts h
  args_are_declared d p (name n rest) (sort.Name ∷ sorts) h = args_are_declared d p rest sorts h
  args_are_declared d p (term t rest) (sort.Term s ∷ sorts) h =
      All-append (IsDeclared d) (nodes_from p t) (nodes_of_args (p + node_count t) rest) (are_declared d p t h.1) (args_are_declared d (p + node_count t) rest sorts h.2)
  args_are_declared d p (number z rest) [] h = absurd h
  args_are_declared d p (number z rest) (sort.Name ∷ sorts) h = absurd h
  args_are_declared d p (number z rest) (sort.Term s ∷ sorts) h = absurd h
  args_are_declared d p (name n rest) [] h = absurd h
  args_are_declared d p (name n rest) (sort.Number ∷ sorts) h = absurd h
  args_are_declared d p (name n rest) (sort.Term s ∷ sorts) h = absurd h
  args_are_declared d p (term t rest) [] h = absurd h
  args_are_declared d p (term t rest) (sort.Number ∷ sorts) h = absurd h
  args_are_declared d p (term t rest) (sort.Name ∷ sorts) h = absurd h

pub nodes_are_declared : {d : Def} {list : List TermNode} {leaves : List ℤ} {names : ℕ} → AreOfSortedTerm d list leaves names → All (IsDeclared d) list
nodes_are_declared {d = d} a = let P : List TermNode → Type 0 = λ ns. All (IsDeclared d) ns in subst P (sym a.nodes_are) (are_declared d 0 a.whole a.well_sorted)

-- what nodes tell of the number leaves are those of their term
pub leaves_are_literals : (whole : Term) → number_leaves (nodes whole) ≡ literals whole
leaves_are_literals whole = ap number_leaves (sym (append-nil (nodes whole))) ∙ ap (λ terms. front_of terms) (leaves_of_term 0 whole []) where
  front_of : List (List ℤ) → List ℤ
  front_of [] = []
  front_of (first ∷ terms) = first

-- the leaves that are kept are those of the nodes
pub leaves_are_kept : {list : List TermNode} {leaves : List ℤ} {names : ℕ} → AreOfTerm list leaves names → leaves ≡ number_leaves list
leaves_are_kept a = a.leaves_are ∙ sym (ap number_leaves a.nodes_are ∙ leaves_are_literals a.whole)

pub by_more_names : {list : List TermNode} {leaves : List ℤ} {names : ℕ} (more : ℕ) → names ≤ more → AreOfTerm list leaves names → AreOfTerm list leaves more
by_more_names {names = names} more h a = record {
  whole = a.whole;
  nodes_are = a.nodes_are;
  leaves_are = a.leaves_are;
  few = a.few;
  names_below = more_names names more a.whole h a.names_below;
}

pub program_by_more_names : (d : Def) (program : Program) (more : ℕ) → program.names ≤ more → IsProgramOf d program → IsProgramOf d (record program { names = more })
program_by_more_names d program more h a = record {
  whole = a.whole;
  nodes_are = a.nodes_are;
  well_sorted = a.well_sorted;
  few = a.few;
  names_below = more_names program.names more a.whole h a.names_below;
  sorts_are = a.sorts_are;
}

pub sort_is_declared : (d : Def) (program : Program) (point : ℕ) (found : SortId) → IsProgramOf d program → slice_get program.sorts point ≡ Some found → IsSortOfPoint d program.nodes point found
sort_is_declared d program point found a h =
    sym (slice_get-map (sort_of_node d) program.nodes point) ∙ ap (λ (list : List (Option SortId)). slice_get list point) (sym a.sorts_are)
    ∙ slice_get-map Some program.sorts point ∙ ap (option_map Some) h
