-- The entries of a program's nodes have the sorts of their constructors' arguments.
use Rattle.std.proofs.Common.{◌≡◌, ℕ, ◌+◌, List, [], ◌∷◌, ◌++◌, length, refl, sym, ap, subst, ◌∙◌, arith, length-append, append_assoc, Some}
use Rattle.std.specs.Prelude.{All, slice_get, option_map}
use Rattle.std.specs.Option.{option_map_or}
use Rattle.std.proofs.lemmas.List.{append-nil}
use Rattle.std.proofs.lemmas.List.Elements.{All-append, All-cons, All-nil}
use Rattle.std.proofs.lemmas.Option.{slice_get_within, get_or_from_slice_get}
use Rattle.sk_def.specs.declared.ids.ConId.{ConId}
use Rattle.sk_def.specs.declared.ids.SortId.{SortId}
use Rattle.sk_def.specs.declared.sorts.ArgSort.{ArgSort}
use Rattle.sk_def.specs.declared.sorts.ArgSort.TheVariants as sort
use Rattle.sk_def.specs.declared.def.Def.{Def}
use Rattle.sk_term.specs.declared.node.Child.{Child}
use Rattle.sk_term.specs.declared.node.TermNode.{TermNode}
use Rattle.sk_term.specs.Terms.{Term, con, Args, none, number, name, term, node_count, children_from, nodes, nodes_from, nodes_of_args, IsWellSorted, HaveSorts, NamesAreBelow, NamesOfArgsAreBelow, sort_of_node, sort_of_term, arguments_of}
use Rattle.sk_term.specs.Program.{Program, IsProgramOf, IsSortOfPoint, ChildrenFit, children_of_point}
use Rattle.sk_term.proofs.Nodes.{length-nodes}

-- a node's entries have the sorts of its constructor's arguments
abbrev pub NodeFits : Def → List TermNode → ℕ → TermNode → Type 0
NodeFits d all names node = ChildrenFit d all names node.children (arguments_of d node.con)

at_seam : (before : List TermNode) (node : TermNode) (later : List TermNode) → slice_get (before ++ node ∷ later) (length before) ≡ Some node
at_seam [] node later = refl
at_seam (x ∷ before) node later = at_seam before node later

-- the part of a program that begins at a point
record Part (all before here : List TermNode) (point : ℕ) (later : List TermNode) : Type 0 where
  place : point ≡ length before
  is : all ≡ before ++ (here ++ later)

sort_at_seam : (d : Def) (all before : List TermNode) (node : TermNode) (more : List TermNode) (point : ℕ) (later : List TermNode) (wanted : SortId) → Part all before (node ∷ more) point later → sort_of_node d node ≡ Some wanted →
    IsSortOfPoint d all point wanted
sort_at_seam d all before node more point later wanted p s =
    ap (λ list. option_map (sort_of_node d) (slice_get list point)) p.is
    ∙ ap (λ at. option_map (sort_of_node d) (slice_get (before ++ node ∷ (more ++ later)) at)) p.place
    ∙ ap (option_map (sort_of_node d)) (at_seam before node (more ++ later)) ∙ ap (λ found. Some found) s

point_of_term : (d : Def) (all before : List TermNode) (point : ℕ) (t : Term) (later : List TermNode) (wanted : SortId) → Part all before (nodes_from point t) point later → sort_of_term d t ≡ Some wanted → IsSortOfPoint d all point wanted
point_of_term d all before point (con c args) later wanted p s =
    sort_at_seam d all before (record { con = c; children = children_from (point + 1) args }) (nodes_of_args (point + 1) args) point later wanted p s

-- the first subterm, and what follows it
first_part : (all before : List TermNode) (point : ℕ) (t : Term) (rest : Args) (later : List TermNode) → Part all before (nodes_from point t ++ nodes_of_args (point + node_count t) rest) point later →
    Part all before (nodes_from point t) point (nodes_of_args (point + node_count t) rest ++ later)
first_part all before point t rest later p = record {
  place = p.place;
  is = p.is ∙ ap (λ list. before ++ list) (append_assoc (nodes_from point t) (nodes_of_args (point + node_count t) rest) later);
}

rest_part : (all before : List TermNode) (point : ℕ) (t : Term) (rest : Args) (later : List TermNode) → Part all before (nodes_from point t ++ nodes_of_args (point + node_count t) rest) point later →
    Part all (before ++ nodes_from point t) (nodes_of_args (point + node_count t) rest) (point + node_count t) later
rest_part all before point t rest later p = record {
  place = omega (arith, p.place, length-append before (nodes_from point t), length-nodes point t);
  is = (first_part all before point t rest later p).is ∙ sym (append_assoc before (nodes_from point t) (nodes_of_args (point + node_count t) rest ++ later));
}

args_part : (all before : List TermNode) (point : ℕ) (c : ConId) (args : Args) (later : List TermNode) → Part all before (nodes_from point (con c args)) point later →
    Part all (before ++ record { con = c; children = children_from (point + 1) args } ∷ []) (nodes_of_args (point + 1) args) (point + 1) later
args_part all before point c args later p =
    let node : TermNode = record { con = c; children = children_from (point + 1) args } in
    record {
      place = omega (arith, p.place, length-append before (node ∷ []));
      is = p.is ∙ sym (append_assoc before (node ∷ []) (nodes_of_args (point + 1) args ++ later));
    }

mutual
  term_fits : (d : Def) (all before : List TermNode) (point : ℕ) (t : Term) (later : List TermNode) (names : ℕ) → Part all before (nodes_from point t) point later → IsWellSorted d t → NamesAreBelow names t →
      All (NodeFits d all names) (nodes_from point t)
  term_fits d all before point (con c args) later names p w b =
      All-cons (NodeFits d all names) (record { con = c; children = children_from (point + 1) args }) (nodes_of_args (point + 1) args)
      (children_fit d all (before ++ record { con = c; children = children_from (point + 1) args } ∷ []) (point + 1) args (arguments_of d c) later names (args_part all before point c args later p) w.1 b)
      (args_fit d all (before ++ record { con = c; children = children_from (point + 1) args } ∷ []) (point + 1) args (arguments_of d c) later names (args_part all before point c args later p) w.1 b)

  children_fit : (d : Def) (all before : List TermNode) (point : ℕ) (args : Args) (sorts : List ArgSort) (later : List TermNode) (names : ℕ) → Part all before (nodes_of_args point args) point later → HaveSorts d args sorts → NamesOfArgsAreBelow names args →
      ChildrenFit d all names (children_from point args) sorts
  children_fit d all before point none [] later names p h b = tt
  children_fit d all before point (number z rest) (sort.Number ∷ sorts) later names p h b = (tt, children_fit d all before point rest sorts later names p h b)
  children_fit d all before point (name n rest) (sort.Name ∷ sorts) later names p h b = (b.0, children_fit d all before point rest sorts later names p h b.1)
  children_fit d all before point (term t rest) (sort.Term s ∷ sorts) later names p h b = (
    point_of_term d all before point t (nodes_of_args (point + node_count t) rest ++ later) s (first_part all before point t rest later p) h.0,
    children_fit d all (before ++ nodes_from point t) (point + node_count t) rest sorts later names (rest_part all before point t rest later p) h.2 b.1,
  )
  children_fit d all before point none (s ∷ sorts) later names p h b = absurd h
  children_fit d all before point (number z rest) [] later names p h b = absurd h
  children_fit d all before point (number z rest) (sort.Name ∷ sorts) later names p h b = absurd h
  children_fit d all before point (number z rest) (sort.Term s ∷ sorts) later names p h b = absurd h
  children_fit d all before point (name n rest) [] later names p h b = absurd h
  children_fit d all before point (name n rest) (sort.Number ∷ sorts) later names p h b = absurd h
  children_fit d all before point (name n rest) (sort.Term s ∷ sorts) later names p h b = absurd h
  children_fit d all before point (term t rest) [] later names p h b = absurd h
  children_fit d all before point (term t rest) (sort.Number ∷ sorts) later names p h b = absurd h
  children_fit d all before point (term t rest) (sort.Name ∷ sorts) later names p h b = absurd h

  args_fit : (d : Def) (all before : List TermNode) (point : ℕ) (args : Args) (sorts : List ArgSort) (later : List TermNode) (names : ℕ) → Part all before (nodes_of_args point args) point later → HaveSorts d args sorts → NamesOfArgsAreBelow names args →
      All (NodeFits d all names) (nodes_of_args point args)
  args_fit d all before point none sorts later names p h b = All-nil (NodeFits d all names)
  args_fit d all before point (number z rest) (sort.Number ∷ sorts) later names p h b = args_fit d all before point rest sorts later names p h b
  args_fit d all before point (name n rest) (sort.Name ∷ sorts) later names p h b = args_fit d all before point rest sorts later names p h b.1
  args_fit d all before point (term t rest) (sort.Term s ∷ sorts) later names p h b =
      All-append (NodeFits d all names) (nodes_from point t) (nodes_of_args (point + node_count t) rest)
      (term_fits d all before point t (nodes_of_args (point + node_count t) rest ++ later) names (first_part all before point t rest later p) h.1 b.0)
      (args_fit d all (before ++ nodes_from point t) (point + node_count t) rest sorts later names (rest_part all before point t rest later p) h.2 b.1)
  args_fit d all before point (number z rest) [] later names p h b = absurd h
  args_fit d all before point (number z rest) (sort.Name ∷ sorts) later names p h b = absurd h
  args_fit d all before point (number z rest) (sort.Term s ∷ sorts) later names p h b = absurd h
  args_fit d all before point (name n rest) [] later names p h b = absurd h
  args_fit d all before point (name n rest) (sort.Number ∷ sorts) later names p h b = absurd h
  args_fit d all before point (name n rest) (sort.Term s ∷ sorts) later names p h b = absurd h
  args_fit d all before point (term t rest) [] later names p h b = absurd h
  args_fit d all before point (term t rest) (sort.Number ∷ sorts) later names p h b = absurd h
  args_fit d all before point (term t rest) (sort.Name ∷ sorts) later names p h b = absurd h

nodes_fit : (d : Def) (program : Program) → IsProgramOf d program → All (NodeFits d program.nodes program.names) program.nodes
nodes_fit d program a =
    let P : List TermNode → Type 0 = λ list. All (NodeFits d program.nodes program.names) list in
    subst P (sym a.nodes_are)
    (term_fits d program.nodes [] 0 a.whole [] program.names (record { place = refl; is = a.nodes_are ∙ sym (append-nil (nodes a.whole)) }) a.well_sorted a.names_below)

pub entries_fit : (d : Def) (program : Program) (point : ℕ) (node : TermNode) → IsProgramOf d program → slice_get program.nodes point ≡ Some node →
    ChildrenFit d program.nodes program.names (children_of_point program.nodes point) (arguments_of d node.con)
entries_fit d program point node a e =
    let P : TermNode → Type 0 = λ n. NodeFits d program.nodes program.names n in
    let Q : List Child → Type 0 = λ children. ChildrenFit d program.nodes program.names children (arguments_of d node.con) in
    subst Q (sym (ap (λ found. option_map_or (λ (n : TermNode). n.children) found []) e))
    (subst P (get_or_from_slice_get program.nodes point node node e) (nodes_fit d program a point node (slice_get_within program.nodes point node e)))

as_many : (d : Def) (all : List TermNode) (names : ℕ) (children : List Child) (sorts : List ArgSort) → ChildrenFit d all names children sorts → length children ≡ length sorts
as_many d all names [] [] f = refl
as_many d all names (child ∷ children) (wanted ∷ sorts) f = omega (arith, as_many d all names children sorts f.1)
as_many d all names [] (wanted ∷ sorts) f = absurd f
as_many d all names (child ∷ children) [] f = absurd f

pub as_many_entries : (d : Def) (program : Program) (point : ℕ) (node : TermNode) → IsProgramOf d program → slice_get program.nodes point ≡ Some node →
    length (children_of_point program.nodes point) ≡ length (arguments_of d node.con)
as_many_entries d program point node a e = as_many d program.nodes program.names _ _ (entries_fit d program point node a e)
