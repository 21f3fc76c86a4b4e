-- Each turn of reading leads on from the beginning of a well-sorted term.
use Rattle.std.proofs.Common.{◌≡◌, ℕ, ◌+◌, ◌<◌, ◌≤◌, ℤ, List, [], ◌∷◌, ◌++◌, length, refl, sym, ap, subst, ◌∙◌, arith, length-append, Option, Some, None}
use Rattle.std.specs.Prelude.{slice_get, slice_set}
use Rattle.std.proofs.lemmas.List.{append-nil, length-set}
use Rattle.std.proofs.Math.Seq.{set-append_seam}
use Rattle.sk_def.specs.declared.ids.ConId.{ConId}
use Rattle.sk_def.specs.declared.ids.SortId.{SortId}
use Rattle.sk_def.specs.declared.sorts.ArgSort.{ArgSort}
use Rattle.sk_def.specs.declared.sorts.ArgSort.TheVariants as sort
use Rattle.sk_def.specs.declared.def.Def.{Def}
use Rattle.sk_term.specs.declared.expected.OpenTerm.{OpenTerm}
use Rattle.sk_term.specs.declared.node.Child.{Child}
use Rattle.sk_term.specs.declared.node.Child.TheVariants.{Point}
use Rattle.sk_term.specs.declared.node.TermNode.{TermNode}
use Rattle.sk_term.specs.Terms.{con, Args, none, term, node_count_of_args, children_from, nodes_from, nodes_of_args, literals_of_args, IsWellSorted, HaveSorts, NamesOfArgsAreBelow, sort_of_con, arguments_of}
use Rattle.sk_term.specs.Program.{AreOfSortedTerm}
use Rattle.sk_term.specs.Reading.{node_begun, next_sort}
use Rattle.sk_term.proofs.Nodes.{joined, children-joined, as_many_children}
use Rattle.sk_term.proofs.Reached.{Wait, IsInside, opened_more, open_by_more, open_here, wait_by_more, next_point}

-- a term with one entry more
abbrev pub grown : OpenTerm → Child → OpenTerm
grown o child = record { point = o.point; node = record { con = o.node.con; children = o.node.children ++ child ∷ [] } }

-- the innermost term gets a leaf
pub given : {d : Def} {names : ℕ} {here : List TermNode} {leaves : List ℤ} {o : OpenTerm} {outer : List OpenTerm} {s : ArgSort} {rest : List ArgSort} → IsInside d names here leaves o outer (s ∷ rest) →
    (more_names : ℕ) (leaf : Args) (child : Child) (leaves_now : List ℤ) → names ≤ more_names → HaveSorts d leaf (s ∷ []) → NamesOfArgsAreBelow more_names leaf →
    ((p : ℕ) → children_from p leaf ≡ child ∷ []) → ((p : ℕ) → nodes_of_args p leaf ≡ []) → leaves_now ≡ leaves ++ literals_of_args leaf →
    IsInside d more_names here leaves_now (grown o child) outer rest
given {d = d} {names = names} {here = here} {o = o} {outer = outer} i more_names leaf child leaves_now h sorted below is_leaf no_nodes l =
    let at = o.point + 1 + node_count_of_args i.args in
    record {
      args = joined i.args leaf;
      above = i.above;
      leaves_above = i.leaves_above;
      is_open = open_here (sym (ap (λ ns. here ++ ns) (no_nodes at) ∙ append-nil here)) l (opened_more (open_by_more more_names h i.is_open) leaf sorted below);
      children = ap (λ cs. cs ++ child ∷ []) i.children ∙ ap (λ cs. children_from (o.point + 1) i.args ++ cs) (sym (is_leaf at)) ∙ sym (children-joined (o.point + 1) i.args leaf);
      outside = wait_by_more d names more_names outer i.above i.leaves_above (sort_of_con d o.node.con) h i.outside;
      few = i.few;
    }

-- a term that begins
abbrev pub opened : List TermNode → ConId → OpenTerm
opened here c = record { point = length here; node = node_begun c }

pub begins : (d : Def) (names : ℕ) (here : List TermNode) (leaves : List ℤ) (c : ConId) (outer : List OpenTerm) → Wait d names outer here leaves (sort_of_con d c) → c.0 < length d.cons → length here < 4096 →
    IsInside d names (here ++ node_begun c ∷ []) leaves (opened here c) outer (arguments_of d c)
begins d names here leaves c outer w declared few = record {
  args = none;
  above = here;
  leaves_above = leaves;
  is_open = record {
    place = refl;
    declared = declared;
    nodes_are = refl;
    leaves_are = sym (append-nil leaves);
    front = [];
    arguments = refl;
    sorted = tt;
    below = tt;
  };
  children = refl;
  outside = w;
  few = omega (arith, length-append here (node_begun c ∷ []));
}

-- the innermost term waits for a subterm
pub waits : {d : Def} {names : ℕ} {here : List TermNode} {leaves : List ℤ} {o : OpenTerm} {outer : List OpenTerm} {wanted : SortId} {rest : List ArgSort} → IsInside d names here leaves o outer (sort.Term wanted ∷ rest) →
    (found : Option SortId) → found ≡ Some wanted → Wait d names (grown o (Point (length here)) ∷ outer) here leaves found
waits {here = here} {wanted = wanted} {rest = rest} i found fits = record {
  args = i.args;
  above = i.above;
  leaves_above = i.leaves_above;
  wanted = wanted;
  rest = rest;
  is_open = i.is_open;
  children = ap (λ cs. cs ++ Point (length here) ∷ []) i.children;
  fits = fits;
  outside = i.outside;
}

-- the innermost term ends
whole_is : {d : Def} {names : ℕ} {here : List TermNode} {leaves : List ℤ} {o : OpenTerm} {outer : List OpenTerm} {rest : List ArgSort} → (i : IsInside d names here leaves o outer rest) →
    slice_set here o.point o.node ≡ i.above ++ nodes_from o.point (con o.node.con i.args)
whole_is {here = here} {o = o} i =
    ap (λ ns. slice_set ns o.point o.node) i.is_open.nodes_are
    ∙ ap (λ p. slice_set (i.above ++ node_begun o.node.con ∷ nodes_of_args (o.point + 1) i.args) p o.node) i.is_open.place
    ∙ set-append_seam i.above (node_begun o.node.con) (nodes_of_args (o.point + 1) i.args) o.node
    ∙ ap (λ cs. i.above ++ record { con = o.node.con; children = cs } ∷ nodes_of_args (o.point + 1) i.args) i.children

is_sorted : {d : Def} {names : ℕ} {here : List TermNode} {leaves : List ℤ} {o : OpenTerm} {outer : List OpenTerm} → (i : IsInside d names here leaves o outer []) → IsWellSorted d (con o.node.con i.args)
is_sorted {d = d} i =
    let P : List ArgSort → Type 0 = λ sorts. HaveSorts d i.args sorts in
    (i.is_open.declared, subst P (sym (i.is_open.arguments ∙ append-nil i.is_open.front)) i.is_open.sorted)

few_still : (here : List TermNode) (point : ℕ) (node : TermNode) → length here ≤ 4096 → length (slice_set here point node) ≤ 4096
few_still here point node h = omega (arith, length-set here point node)

pub ends : (d : Def) (names : ℕ) (here : List TermNode) (leaves : List ℤ) (o : OpenTerm) → IsInside d names here leaves o [] [] → AreOfSortedTerm d (slice_set here o.point o.node) leaves names
ends d names here leaves o i =
    let whole = con o.node.con i.args in
    record {
      whole = whole;
      nodes_are = whole_is i ∙ ap (λ ns. ns ++ nodes_from o.point whole) i.outside.0 ∙ ap (λ p. nodes_from p whole) (i.is_open.place ∙ ap length i.outside.0);
      leaves_are = i.is_open.leaves_are ∙ ap (λ zs. zs ++ literals_of_args i.args) i.outside.1;
      few = few_still here o.point o.node i.few;
      names_below = i.is_open.below;
      well_sorted = is_sorted i;
    }

pub ends_inside : (d : Def) (names : ℕ) (here : List TermNode) (leaves : List ℤ) (o next : OpenTerm) (outer : List OpenTerm) → (i : IsInside d names here leaves o (next ∷ outer) []) →
    IsInside d names (slice_set here o.point o.node) leaves next outer i.outside.rest
ends_inside d names here leaves o next outer i =
    let whole = con o.node.con i.args in
    let w = i.outside in
    let at : next.point + 1 + node_count_of_args w.args ≡ length i.above = next_point w.is_open in
    record {
      args = joined w.args (term whole none);
      above = w.above;
      leaves_above = w.leaves_above;
      is_open = open_here
          (whole_is i ∙ ap (λ p. i.above ++ nodes_from p whole) (i.is_open.place ∙ sym at) ∙ ap (λ ns. i.above ++ ns) (sym (append-nil (nodes_from (next.point + 1 + node_count_of_args w.args) whole))))
          (i.is_open.leaves_are ∙ ap (λ zs. i.leaves_above ++ zs) (sym (append-nil (literals_of_args i.args))))
          (opened_more w.is_open (term whole none) (w.fits, is_sorted i, tt) (i.is_open.below, tt));
      children = w.children ∙ ap (λ p. children_from (next.point + 1) w.args ++ Point p ∷ []) (sym at) ∙ sym (children-joined (next.point + 1) w.args (term whole none));
      outside = w.outside;
      few = few_still here o.point o.node i.few;
    }

-- the sort of the next argument
abbrev pub head_of : List ArgSort → Option ArgSort
head_of [] = None
head_of (s ∷ rest) = Some s

after_front : (front rest : List ArgSort) → slice_get (front ++ rest) (length front) ≡ head_of rest
after_front [] [] = refl
after_front [] (s ∷ rest) = refl
after_front (s ∷ front) rest = after_front front rest

pub next_is : {d : Def} {names : ℕ} {here : List TermNode} {leaves : List ℤ} {o : OpenTerm} {outer : List OpenTerm} {rest : List ArgSort} → (unclosed : List OpenTerm) → unclosed ≡ o ∷ outer → IsInside d names here leaves o outer rest →
    next_sort d unclosed ≡ head_of rest
next_is {d = d} {o = o} {rest = rest} unclosed e i =
    ap (next_sort d) e ∙ ap (λ sorts. slice_get sorts (length o.node.children)) i.is_open.arguments
    ∙ ap (slice_get (i.is_open.front ++ rest)) (ap length i.children ∙ as_many_children d (o.point + 1) i.args i.is_open.front i.is_open.sorted)
    ∙ after_front i.is_open.front rest
