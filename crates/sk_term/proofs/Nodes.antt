-- The nodes of terms, and of arguments put after one another.
use Rattle.std.proofs.Common.{◌≡◌, ℕ, ◌+◌, ◌≤◌, List, [], ◌∷◌, ◌++◌, length, refl, sym, ap, ◌∙◌, arith, length-append, append_assoc}
use Rattle.sk_def.specs.declared.def.Def.{Def}
use Rattle.sk_def.specs.declared.sorts.ArgSort.{ArgSort}
use Rattle.sk_def.specs.declared.sorts.ArgSort.TheVariants as sort
use Rattle.sk_term.specs.declared.node.Child.TheVariants.{Number, Name, Point}
use Rattle.sk_term.specs.declared.node.TermNode.{TermNode}
use Rattle.sk_term.specs.Terms.{Term, con, Args, none, number, name, term, node_count, node_count_of_args, children_from, nodes_from, nodes_of_args, literals, literals_of_args, HaveSorts, NamesAreBelow, NamesOfArgsAreBelow}
use Rattle.sk_term.specs.Program.{gathered, with_front, leaves_by_term}

mutual
  -- as many nodes as are counted
  pub length-nodes : (p : ℕ) (t : Term) → length (nodes_from p t) ≡ node_count t
  length-nodes p (con c args) = omega (arith, length-nodes_of_args (p + 1) args)

  pub length-nodes_of_args : (p : ℕ) (args : Args) → length (nodes_of_args p args) ≡ node_count_of_args args
  length-nodes_of_args p none = refl
  length-nodes_of_args p (number z rest) = length-nodes_of_args p rest
  length-nodes_of_args p (name n rest) = length-nodes_of_args p rest
  length-nodes_of_args p (term t rest) =
      omega (arith, length-append (nodes_from p t) (nodes_of_args (p + node_count t) rest), length-nodes p t, length-nodes_of_args (p + node_count t) rest)

mutual
  -- more names may stand
  pub more_names : (names more : ℕ) (t : Term) → names ≤ more → NamesAreBelow names t → NamesAreBelow more t
  more_names names more (con c args) h b = more_names_of_args names more args h b

  pub more_names_of_args : (names more : ℕ) (args : Args) → names ≤ more → NamesOfArgsAreBelow names args → NamesOfArgsAreBelow more args
  more_names_of_args names more none h b = tt
  more_names_of_args names more (number z rest) h b = more_names_of_args names more rest h b
  more_names_of_args names more (name n rest) h b = (omega (arith, b.0), more_names_of_args names more rest h b.1)
  more_names_of_args names more (term t rest) h b = (more_names names more t h b.0, more_names_of_args names more rest h b.1)

mutual
  -- the number leaves that nodes in preorder have are those of the terms
  pub leaves_of_term : (p : ℕ) (t : Term) (later : List TermNode) → leaves_by_term (nodes_from p t ++ later) ≡ literals t ∷ leaves_by_term later
  leaves_of_term p (con c args) later = ap (λ pair. pair.0 ∷ pair.1) (leaves_of_args (p + 1) args later)

  pub leaves_of_args : (p : ℕ) (args : Args) (later : List TermNode) →
      gathered (children_from p args) (leaves_by_term (nodes_of_args p args ++ later)) ≡ (literals_of_args args, leaves_by_term later)
  leaves_of_args p none later = refl
  leaves_of_args p (number z rest) later = ap (with_front (z ∷ [])) (leaves_of_args p rest later)
  leaves_of_args p (name n rest) later = leaves_of_args p rest later
  leaves_of_args p (term t rest) later =
      ap (λ ns. gathered (Point p ∷ children_from (p + node_count t) rest) (leaves_by_term ns)) (append_assoc (nodes_from p t) (nodes_of_args (p + node_count t) rest) later)
      ∙ ap (gathered (Point p ∷ children_from (p + node_count t) rest)) (leaves_of_term p t (nodes_of_args (p + node_count t) rest ++ later))
      ∙ ap (with_front (literals t)) (leaves_of_args (p + node_count t) rest later)

-- arguments, and then others
abbrev pub joined : Args → Args → Args
joined none more = more
joined (number z rest) more = number z (joined rest more)
joined (name n rest) more = name n (joined rest more)
joined (term t rest) more = term t (joined rest more)

pub count-joined : (args more : Args) → node_count_of_args (joined args more) ≡ node_count_of_args args + node_count_of_args more
count-joined none more = omega arith
count-joined (number z rest) more = count-joined rest more
count-joined (name n rest) more = count-joined rest more
count-joined (term t rest) more = omega (arith, count-joined rest more)

pub children-joined : (p : ℕ) (args more : Args) → children_from p (joined args more) ≡ children_from p args ++ children_from (p + node_count_of_args args) more
children-joined p none more = ap (λ n. children_from n more) (omega arith)
children-joined p (number z rest) more = ap (λ cs. Number z ∷ cs) (children-joined p rest more)
children-joined p (name n rest) more = ap (λ cs. Name n ∷ cs) (children-joined p rest more)
children-joined p (term t rest) more =
    ap (λ cs. Point p ∷ cs) (children-joined (p + node_count t) rest more
    ∙ ap (λ n. children_from (p + node_count t) rest ++ children_from n more) (omega arith))

pub nodes-joined : (p : ℕ) (args more : Args) → nodes_of_args p (joined args more) ≡ nodes_of_args p args ++ nodes_of_args (p + node_count_of_args args) more
nodes-joined p none more = ap (λ n. nodes_of_args n more) (omega arith)
nodes-joined p (number z rest) more = nodes-joined p rest more
nodes-joined p (name n rest) more = nodes-joined p rest more
nodes-joined p (term t rest) more =
    ap (λ ns. nodes_from p t ++ ns) (nodes-joined (p + node_count t) rest more
    ∙ ap (λ n. nodes_of_args (p + node_count t) rest ++ nodes_of_args n more) (omega arith))
    ∙ sym (append_assoc (nodes_from p t) (nodes_of_args (p + node_count t) rest) (nodes_of_args (p + (node_count t + node_count_of_args rest)) more))

pub literals-joined : (args more : Args) → literals_of_args (joined args more) ≡ literals_of_args args ++ literals_of_args more
literals-joined none more = refl
literals-joined (number z rest) more = ap (λ zs. z ∷ zs) (literals-joined rest more)
literals-joined (name n rest) more = literals-joined rest more
literals-joined (term t rest) more = ap (λ zs. literals t ++ zs) (literals-joined rest more) ∙ sym (append_assoc (literals t) (literals_of_args rest) (literals_of_args more))

pub names-joined : (names : ℕ) (args more : Args) → NamesOfArgsAreBelow names args → NamesOfArgsAreBelow names more → NamesOfArgsAreBelow names (joined args more)
names-joined names none more b m = m
names-joined names (number z rest) more b m = names-joined names rest more b m
names-joined names (name n rest) more b m = (b.0, names-joined names rest more b.1 m)
names-joined names (term t rest) more b m = (b.0, names-joined names rest more b.1 m)

pub sorts-joined : (d : Def) (args more : Args) (front back : List ArgSort) → HaveSorts d args front → HaveSorts d more back → HaveSorts d (joined args more) (front ++ back)
sorts-joined d none more [] back h k = k
sorts-joined d (number z rest) more (sort.Number ∷ front) back h k = sorts-joined d rest more front back h k
sorts-joined d (name n rest) more (sort.Name ∷ front) back h k = sorts-joined d rest more front back h k
sorts-joined d (term t rest) more (sort.Term s ∷ front) back h k = (h.0, h.1, sorts-joined d rest more front back h.2 k)
sorts-joined d none more (s ∷ front) back h k = absurd h
sorts-joined d (number z rest) more [] back h k = absurd h
sorts-joined d (number z rest) more (sort.Name ∷ front) back h k = absurd h
sorts-joined d (number z rest) more (sort.Term s ∷ front) back h k = absurd h
sorts-joined d (name n rest) more [] back h k = absurd h
sorts-joined d (name n rest) more (sort.Number ∷ front) back h k = absurd h
sorts-joined d (name n rest) more (sort.Term s ∷ front) back h k = absurd h
sorts-joined d (term t rest) more [] back h k = absurd h
sorts-joined d (term t rest) more (sort.Number ∷ front) back h k = absurd h
sorts-joined d (term t rest) more (sort.Name ∷ front) back h k = absurd h

-- as many entries as sorts
pub as_many_children : (d : Def) (p : ℕ) (args : Args) (sorts : List ArgSort) → HaveSorts d args sorts → length (children_from p args) ≡ length sorts
as_many_children d p none [] h = refl
as_many_children d p (number z rest) (sort.Number ∷ sorts) h = omega (arith, as_many_children d p rest sorts h)
as_many_children d p (name n rest) (sort.Name ∷ sorts) h = omega (arith, as_many_children d p rest sorts h)
as_many_children d p (term t rest) (sort.Term s ∷ sorts) h = omega (arith, as_many_children d (p + node_count t) rest sorts h.2)
as_many_children d p none (s ∷ sorts) h = absurd h
as_many_children d p (number z rest) [] h = absurd h
as_many_children d p (number z rest) (sort.Name ∷ sorts) h = absurd h
as_many_children d p (number z rest) (sort.Term s ∷ sorts) h = absurd h
as_many_children d p (name n rest) [] h = absurd h
as_many_children d p (name n rest) (sort.Number ∷ sorts) h = absurd h
as_many_children d p (name n rest) (sort.Term s ∷ sorts) h = absurd h
as_many_children d p (term t rest) [] h = absurd h
as_many_children d p (term t rest) (sort.Number ∷ sorts) h = absurd h
as_many_children d p (term t rest) (sort.Name ∷ sorts) h = absurd h
