-- The texts of abstract values: truth sets by a word, vals part by part, stores with the names that may be set.
use Rattle.std.specs.Prelude.{ℕ, Bool, true, false, not, if◌then◌else◌, List, [], ◌++◌, codes}
use Rattle.std.specs.List.{zip, filter, join_by}
use Rattle.sk_lattice.specs.declared.truth.AbsBool.{AbsBool}
use Rattle.sk_lattice.specs.declared.value.AbsVal.{AbsVal}
use Rattle.sk_lattice.specs.declared.cell.AbsCell.{AbsCell}
use Rattle.sk_lattice.specs.declared.store.AbsStore.{AbsStore}
use Rattle.sk_lattice.specs.declared.store.AbsStore.TheVariants.{Empty, Cells}
use Rattle.sk_lattice.specs.declared.flow.AbsFlow.{AbsFlow}
use Rattle.sk_lattice.specs.declared.flow.AbsFlow.TheVariants as flow
use Rattle.sk_lattice.specs.Domain.{Domain}
use Rattle.sk_lattice.specs.DomainTexts.{DomainTexts}
use Rattle.sk_lattice.specs.Empty.{val_is_empty}

abbrev pub truths_text : Bool → Bool → List ℕ
truths_text false false = codes "none"
truths_text true false = codes "true"
truths_text false true = codes "false"
truths_text true true = codes "any"

abbrev pub bool_text : AbsBool → List ℕ
bool_text a = truths_text a.has_true a.has_false

abbrev pub val_text : {D : Type 0} → DomainTexts D → AbsVal D → List ℕ
val_text t a = t.text a.num ++ codes "/" ++ bool_text a.truth

-- the mark of a name that may be unset
abbrev pub mark_text : Bool → List ℕ
mark_text true = codes "?"
mark_text false = []

-- a name with its cell
abbrev pub entry_text : {D : Type 0} → DomainTexts D → List ℕ × AbsCell D → List ℕ
entry_text t entry = entry.0 ++ codes "=" ++ val_text t entry.1.val ++ mark_text entry.1.unset

-- the names that may be set, with their cells, in the order of the names
abbrev pub entries : {D : Type 0} → Domain D → List (List ℕ) → List (AbsCell D) → List (List ℕ × AbsCell D)
entries d names cells = filter (λ entry. not (val_is_empty d entry.1.val)) (zip names cells)

abbrev pub cells_text : {D : Type 0} → Domain D → DomainTexts D → List (List ℕ) → List (AbsCell D) → List ℕ
cells_text d t names cells = codes "{" ++ join_by (entry_text t) (codes ", ") (entries d names cells) ++ codes "}"

abbrev pub store_text : {D : Type 0} → Domain D → DomainTexts D → List (List ℕ) → AbsStore D → List ℕ
store_text d t names Empty = codes "none"
store_text d t names (Cells cells) = cells_text d t names cells

abbrev pub flow_text : {D : Type 0} → Domain D → DomainTexts D → List (List ℕ) → AbsFlow D → List ℕ
flow_text d t names (flow.Int a) = t.text a
flow_text d t names (flow.Bool a) = bool_text a
flow_text d t names (flow.Val a) = val_text t a
flow_text d t names (flow.Store s) = store_text d t names s

abbrev pub tuple_text : {D : Type 0} → Domain D → DomainTexts D → List (List ℕ) → List (AbsFlow D) → List ℕ
tuple_text d t names tuple = codes "(" ++ join_by (flow_text d t names) (codes ", ") tuple ++ codes ")"
