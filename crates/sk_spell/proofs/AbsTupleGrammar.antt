-- What may stand next in a tuple, and what comes of each symbol there. Names of what may stand next are the reader's own.
use Rattle.std.proofs.Common.{◌≡◌, ℕ, Bool, true, false, cond, List, [], ◌∷◌, refl, ap, ◌∙◌, Option, Some, None, Ok}
use Rattle.sk_base.specs.declared.flow.FlowSort.{FlowSort}
use Rattle.sk_base.specs.declared.flow.FlowSort.TheVariants as sort
use Rattle.sk_lex.specs.Run.{Rules, run}
use Rattle.sk_lex.specs.Symbols.{Symbol, word_of, is_open, is_close, is_comma, is_equals, is_slash, is_question, is_left_brace, is_right_brace}
use Rattle.sk_lattice.specs.Domain.{Domain}
use Rattle.sk_lattice.specs.DomainTexts.{DomainTexts}
use Rattle.sk_lattice.specs.declared.truth.AbsBool.{AbsBool}
use Rattle.sk_lattice.specs.declared.flow.AbsFlow.TheVariants as flow
use Rattle.sk_lattice.specs.declared.store.AbsStore.TheVariants as store
use Rattle.sk_table.specs.declared.fault.TableError.TheVariants as error
use Rattle.sk_table.specs.Tuples as spec
use Rattle.sk_table.specs.Tuples.{Reading, Met, met, refused, element_at, with_element, with_flow, with_num, truths_of, is_none_word, begun, value, item, after, val_truth, cell_truth, closing, ended, is_listed, with_cell, place_for, named, first_name, after_name, mark, alone, step, tuple_rules, nothing, read_symbols}

abbrev pub ExpectedOf : {E S C : Type 0} → Rules E S C → Type 0
ExpectedOf {E} rules = E

abbrev pub Expected : {D : Type 0} → Domain D → DomainTexts D → Type 0
Expected d t = ExpectedOf (tuple_rules d t)

-- what comes of a set of truth values, and of a symbol that is none
abbrev pub truth_met : {D : Type 0} (d : Domain D) (t : DomainTexts D) → (AbsBool → Reading D) → List (Expected d t) → ℕ → Option AbsBool → Met D
truth_met d t state next at None = refused error.Unexpected at
truth_met d t state next at (Some set) = met (state set) next

abbrev pub with_bool : {D : Type 0} → Reading D → AbsBool → Reading D
with_bool s set = with_flow s (flow.Bool set)

abbrev pub with_val : {D : Type 0} → Reading D → AbsBool → Reading D
with_val s set = with_flow s (flow.Val (record { num = s.num; truth = set }))

abbrev pub with_truth : {D : Type 0} → Reading D → AbsBool → Reading D
with_truth s set = record s { truth = set }

abbrev pub with_name : {D : Type 0} → Reading D → ℕ → List (List ℕ) → Reading D
with_name s place next = record s { name = place; names = next }

-- the first of three where the first test is passed, else the second where the second is
abbrev pub three : {A : Type 0} → Bool → A → Bool → A → A → A
three a x b y z = cond a x (cond b y z)

pub then_is : {A : Type 0} (x y : A) {a : Bool} → a ≡ true → cond a x y ≡ x
then_is x y e = ap (λ b. cond b x y) e

pub else_is : {A : Type 0} (x y : A) {a : Bool} → a ≡ false → cond a x y ≡ y
else_is x y e = ap (λ b. cond b x y) e

pub first_is : {A : Type 0} (x y z : A) (b : Bool) {a : Bool} → a ≡ true → three a x b y z ≡ x
first_is x y z b e = then_is x (cond b y z) e

pub second_is : {A : Type 0} (x y z : A) {a b : Bool} → a ≡ false → b ≡ true → three a x b y z ≡ y
second_is x y z {b = b} e f = else_is x (cond b y z) e ∙ then_is y z f

pub third_is : {A : Type 0} (x y z : A) {a b : Bool} → a ≡ false → b ≡ false → three a x b y z ≡ z
third_is x y z {b = b} e f = else_is x (cond b y z) e ∙ else_is y z f

-- what comes of each symbol where this is expected, and of one that begins a value of a sort
abbrev pub IsStep : {D : Type 0} (d : Domain D) (t : DomainTexts D) → Expected d t → (Reading D → ℕ → Symbol → List Symbol → Met D) → Type 0
IsStep {D} d t one comes = (s : Reading D) (at : ℕ) (symbol : Symbol) (left : List Symbol) → step d t s one at symbol left ≡ comes s at symbol left

abbrev pub IsValue : {D : Type 0} → DomainTexts D → FlowSort → (Reading D → ℕ → Symbol → List Symbol → Met D) → Type 0
IsValue {D} t wanted comes = (s : Reading D) (at : ℕ) (symbol : Symbol) (left : List Symbol) → value t s wanted at symbol left ≡ comes s at symbol left

-- the same where no flow is wanted, and where one of a sort is
abbrev pub IsLast : {D : Type 0} (d : Domain D) (t : DomainTexts D) → Expected d t → (Reading D → ℕ → Symbol → List Symbol → Met D) → Type 0
IsLast {D} d t one comes = (s : Reading D) (at : ℕ) (symbol : Symbol) (left : List Symbol) → spec.next_sort s ≡ None → step d t s one at symbol left ≡ comes s at symbol left

abbrev pub IsWanted : {D : Type 0} (d : Domain D) (t : DomainTexts D) → Expected d t → (FlowSort → Reading D → ℕ → Symbol → List Symbol → Met D) → Type 0
IsWanted {D} d t one comes =
    (s : Reading D) (wanted : FlowSort) (at : ℕ) (symbol : Symbol) (left : List Symbol) → spec.next_sort s ≡ Some wanted → step d t s one at symbol left ≡ comes wanted s at symbol left

-- what may stand next, and the steps of the grammar
pub record Grammar {D : Type 0} (d : Domain D) (t : DomainTexts D) : Type 0 where
  pub at_open : Expected d t
  pub at_item : Expected d t
  pub at_after : Expected d t
  pub at_slash : Expected d t
  pub at_truth : Expected d t
  pub at_first_name : Expected d t
  pub at_next_name : Expected d t
  pub at_equals : Expected d t
  pub at_number : Expected d t
  pub at_cell_truth : Expected d t
  pub at_mark : Expected d t
  pub at_after_name : Expected d t
  pub begins : (known : Bool) (sorts : List FlowSort) (names : List (List ℕ)) (at : ℕ) (symbols : List Symbol) →
      read_symbols d t known sorts names at symbols ≡ run (tuple_rules d t) 0 at (at_open ∷ at_item ∷ []) (nothing d known sorts names) symbols
  pub opens : IsStep d t at_open (λ s at symbol left. alone s at (is_open symbol))
  pub no_item : IsLast d t at_item (λ s at symbol left. closing s at symbol)
  pub some_item : IsWanted d t at_item (λ wanted s at symbol left. cond (is_close symbol) (refused error.WrongCount at) (value t s wanted at symbol left))
  pub int_value : IsValue t sort.Int (λ s at symbol left. with_element (λ element. with_flow s (flow.Int element)) (at_after ∷ []) (element_at t at (symbol ∷ left)))
  pub bool_value : IsValue t sort.Bool (λ s at symbol left. truth_met d t (with_bool s) (at_after ∷ []) at (truths_of symbol))
  pub val_value : IsValue t sort.Val (λ s at symbol left. with_element (with_num s) (at_slash ∷ at_truth ∷ at_after ∷ []) (element_at t at (symbol ∷ left)))
  pub store_value : IsValue t sort.Store (λ s at symbol left.
      three (is_left_brace symbol) (met s (at_first_name ∷ at_after ∷ [])) (is_none_word symbol) (met (with_flow s (flow.Store store.Empty)) (at_after ∷ [])) (refused error.Unexpected at))
  pub none_after : IsLast d t at_after (λ s at symbol left. closing s at symbol)
  pub some_after : IsWanted d t at_after (λ wanted s at symbol left. three (is_comma symbol) (met s (at_item ∷ [])) (is_close symbol) (refused error.WrongCount at) (refused error.Unexpected at))
  pub slashes : IsStep d t at_slash (λ s at symbol left. alone s at (is_slash symbol))
  pub truth_parts : IsStep d t at_truth (λ s at symbol left. truth_met d t (with_val s) [] at (truths_of symbol))
  pub named_value : (s : Reading D) (place : ℕ) (next : List (List ℕ)) (at : ℕ) →
      named s at (Ok (place, next)) ≡ cond (is_listed s.cells place) (refused error.Duplicate at) (met (with_name s place next) (at_equals ∷ at_number ∷ at_slash ∷ at_cell_truth ∷ at_mark ∷ []))
  pub no_name : (s : Reading D) (at : ℕ) → spec.name s at None ≡ refused error.Unexpected at
  pub some_name : (s : Reading D) (at : ℕ) (word : List ℕ) → spec.name s at (Some word) ≡ named s at (place_for s.known s.names word)
  pub first_names : IsStep d t at_first_name (λ s at symbol left. cond (is_right_brace symbol) (met (ended d s) []) (spec.name s at (word_of symbol)))
  pub next_names : IsStep d t at_next_name (λ s at symbol left. spec.name s at (word_of symbol))
  pub equals : IsStep d t at_equals (λ s at symbol left. alone s at (is_equals symbol))
  pub numbers : IsStep d t at_number (λ s at symbol left. with_element (with_num s) [] (element_at t at (symbol ∷ left)))
  pub cell_truths : IsStep d t at_cell_truth (λ s at symbol left. truth_met d t (with_truth s) [] at (truths_of symbol))
  pub marks : IsStep d t at_mark (λ s at symbol left. cond (is_question symbol) (met (with_cell s true) (at_after_name ∷ [])) (step d t (with_cell s false) at_after_name at symbol left))
  pub after_names : IsStep d t at_after_name (λ s at symbol left. three (is_comma symbol) (met s (at_next_name ∷ [])) (is_right_brace symbol) (met (ended d s) []) (refused error.Unexpected at))

module _ {D : Type 0} (d : Domain D) (t : DomainTexts D) where
  flow_truths : (next : Expected d t) → ((s : Reading D) (at : ℕ) (set : AbsBool) → spec.truths s at (Some set) ≡ met (with_bool s set) (next ∷ [])) →
      (s : Reading D) (at : ℕ) (found : Option AbsBool) →
      spec.truths s at found ≡ truth_met d t (with_bool s) (next ∷ []) at found
  flow_truths next h s at None = refl
  flow_truths next h s at (Some set) = h s at set

  val_truths : (s : Reading D) (at : ℕ) (found : Option AbsBool) → val_truth s at found ≡ truth_met d t (with_val s) [] at found
  unfolding val_truth
  val_truths s at None = refl
  val_truths s at (Some set) = refl

  cell_truths_are : (s : Reading D) (at : ℕ) (found : Option AbsBool) → cell_truth s at found ≡ truth_met d t (with_truth s) [] at found
  unfolding cell_truth
  cell_truths_are s at None = refl
  cell_truths_are s at (Some set) = refl

  pub grammar : Grammar d t
  unfolding step item value begun after mark first_name after_name spec.name read_symbols
  grammar = record {
    at_open = _;
    at_item = _;
    at_after = _;
    at_slash = _;
    at_truth = _;
    at_first_name = _;
    at_next_name = _;
    at_equals = _;
    at_number = _;
    at_cell_truth = _;
    at_mark = _;
    at_after_name = _;
    begins = λ known sorts names at symbols. refl;
    opens = λ s at symbol left. refl;
    no_item = λ s at symbol left n. ap (λ w. item t s w at symbol left) n;
    some_item = λ s wanted at symbol left n. ap (λ w. item t s w at symbol left) n;
    int_value = λ s at symbol left. refl;
    bool_value = λ s at symbol left. flow_truths _ (λ s at set. refl) s at (truths_of symbol);
    val_value = λ s at symbol left. refl;
    store_value = λ s at symbol left. refl;
    none_after = λ s at symbol left n. ap (λ w. after s w at symbol) n;
    some_after = λ s wanted at symbol left n. ap (λ w. after s w at symbol) n;
    slashes = λ s at symbol left. refl;
    truth_parts = λ s at symbol left. val_truths s at (truths_of symbol);
    named_value = λ s place next at. refl;
    no_name = λ s at. refl;
    some_name = λ s at word. refl;
    first_names = λ s at symbol left. refl;
    next_names = λ s at symbol left. refl;
    equals = λ s at symbol left. refl;
    numbers = λ s at symbol left. refl;
    cell_truths = λ s at symbol left. cell_truths_are s at (truths_of symbol);
    marks = λ s at symbol left. refl;
    after_names = λ s at symbol left. refl;
  }
