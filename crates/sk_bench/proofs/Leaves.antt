-- A program has few number leaves.
use Rattle.std.proofs.Common.{◌≡◌, ◌+◌, ◌*◌, ◌^◌, ◌<◌, ◌≤◌, suc, ℕ, ℤ, List, [], ◌∷◌, ◌++◌, length, Option, Some, None, refl, sym, ap, subst, ◌∙◌, arith}
use Rattle.std.specs.Prelude.{slice_get, All}
use Rattle.std.specs.List.{sum_by}
use Rattle.std.specs.Option.{option_map_or}
use Rattle.std.proofs.lemmas.List.{length-append}
use Rattle.std.proofs.lemmas.List.Sums.{sum_by-cons}
use Rattle.std.proofs.lemmas.Option.{slice_get_within, get_or_from_slice_get}
use Rattle.sk_def.specs.declared.def.Def.{Def}
use Rattle.sk_def.specs.declared.def.Con.{Con}
use Rattle.sk_def.specs.Fits.{DefinitionFits, ConstructorFits}
use Rattle.sk_term.specs.declared.node.Child.{Child}
use Rattle.sk_term.specs.declared.node.Child.TheVariants.{Number, Name, Point}
use Rattle.sk_term.specs.declared.node.TermNode.{TermNode}
use Rattle.sk_term.specs.Program.{Program, IsProgramOf, children_of_point, gathered, leaves_by_term, number_leaves}
use Rattle.sk_term.specs.Terms.{arguments_of}
use Rattle.sk_term.proofs.Entries.{as_many_entries}

abbrev total : List (List ℤ) → ℕ
total terms = sum_by (λ (t : List ℤ). length t) terms

gathered_few : (children : List Child) (terms : List (List ℤ)) → length (gathered children terms).0 + total (gathered children terms).1 ≤ length children + total terms
gathered_few [] terms = omega arith
gathered_few (Number z ∷ children) terms = omega (arith, gathered_few children terms)
gathered_few (Name n ∷ children) terms = omega (arith, gathered_few children terms)
gathered_few (Point p ∷ children) [] = omega (arith, gathered_few children [])
gathered_few (Point p ∷ children) (first ∷ terms) =
    let joined : length (gathered (Point p ∷ children) (first ∷ terms)).0 ≡ length first + length (gathered children terms).0 = length-append first (gathered children terms).0 in
    let whole : total (first ∷ terms) ≡ length first + total terms = sum_by-cons (λ (t : List ℤ). length t) first terms in
    omega (arith, gathered_few children terms, joined, whole)

-- every node has at most eight entries
abbrev AreNarrow : List TermNode → Type 0
AreNarrow list = (point : ℕ) (node : TermNode) → slice_get list point ≡ Some node → length node.children ≤ 8

all_few : (list : List TermNode) → AreNarrow list → total (leaves_by_term list) ≤ 8 * length list
all_few [] h = omega arith
all_few (node ∷ later) h =
    let pair = gathered node.children (leaves_by_term later) in
    let whole : total (leaves_by_term (node ∷ later)) ≡ length pair.0 + total pair.1 = sum_by-cons (λ (t : List ℤ). length t) pair.0 pair.1 in
    omega (arith, whole, gathered_few node.children (leaves_by_term later), h 0 node refl, all_few later (λ point other e. h (suc point) other e))

leaves_few : (list : List TermNode) → AreNarrow list → length (number_leaves list) ≤ 8 * length list
leaves_few [] h = omega arith
leaves_few (node ∷ later) h = omega (arith, gathered_few node.children (leaves_by_term later), h 0 node refl, all_few later (λ point other e. h (suc point) other e))

few_arguments : (d : Def) → DefinitionFits d → (place : ℕ) (con : Option Con) → slice_get d.cons place ≡ con → length (option_map_or (λ (c : Con). c.args) con []) ≤ 8
few_arguments d fits place None e = omega arith
few_arguments d fits place (Some con) e =
    let fit : ConstructorFits (length d.sorts) con = subst (ConstructorFits (length d.sorts)) (get_or_from_slice_get d.cons place con con e) (fits.constructors_fit place con (slice_get_within d.cons place con e)) in
    fit.few_arguments

narrow : (d : Def) (program : Program) → DefinitionFits d → IsProgramOf d program → AreNarrow program.nodes
narrow d program fits is point node e =
    let same : length (children_of_point program.nodes point) ≡ length (arguments_of d node.con) = as_many_entries d program point node is e in
    let own : children_of_point program.nodes point ≡ node.children = ap (λ (found : Option TermNode). option_map_or (λ (n : TermNode). n.children) found []) e in
    omega (arith, same, ap (λ (cs : List Child). length cs) own, few_arguments d fits node.con.0 (slice_get d.cons node.con.0) refl)

pub few_literals : (d : Def) (program : Program) → DefinitionFits d → IsProgramOf d program → length (number_leaves program.nodes) < 2 ^ 30
few_literals d program fits is = omega (arith, leaves_few program.nodes (narrow d program fits is), is.few)
