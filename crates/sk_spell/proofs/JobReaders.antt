-- What a reader's answer tells of the symbols that it took.
use Rattle.std.proofs.Common.{◌≡◌, ℕ, zero, suc, ◌+◌, ◌-◌, ◌≤◌, Bool, true, false, cond, List, [], ◌∷◌, ◌++◌, length, map, take, drop, refl, sym, ap, subst, arith, Result, Ok, Err}
use Rattle.std.specs.List.{list_all}
use Rattle.std.proofs.lemmas.List.{take-append-drop, length-take-le}
use Rattle.sk_base.specs.Answer.{◌>>=◌}
use Rattle.sk_base.specs.declared.flow.FlowSort.{FlowSort}
use Rattle.sk_lex.specs.Run.{Turn, Rules, run}
use Rattle.sk_lex.specs.Symbols.{Symbol}
use Rattle.sk_def.specs.declared.def.Def.{Def}
use Rattle.sk_term.specs.Reading as term
use Rattle.sk_value.specs.Padding.{padded_flow}
use Rattle.sk_deriv.specs.Reading as tuple
use Rattle.sk_lattice.specs.Domain.{Domain}
use Rattle.sk_lattice.specs.DomainTexts.{DomainTexts}
use Rattle.sk_table.specs.Tuples as abstract
use Rattle.sk_spell.proofs.JobFound.{Border, Between}

pub bound_so : {A B E : Type 0} (r : Result A E) (f : A → Result B E) (y : B) → (r >>= f) ≡ Ok y → (x : A) × (r ≡ Ok x) × (f x ≡ Ok y)
bound_so (Ok x) f y h = (x, refl, h)
bound_so (Err e) f y h = absurd (cc h)

-- a value and the place after it, which lies no further than the symbols
abbrev pub Within : ℕ → List Symbol → ℕ → Type 0
Within at symbols place = (at ≤ place) × (place ≤ at + length symbols)

module _ {E S C : Type 0} (rules : Rules E S C) where
  abbrev Answer : Type 0
  Answer = Result (S × ℕ) (C × ℕ)

  abbrev answer : S → ℕ → Answer
  answer state place = Ok (state, place)

  abbrev place_in : ℕ → Answer → ℕ
  place_in other (Ok (state, place)) = place
  place_in other (Err bad) = other

  here : (state end : S) (at place : ℕ) (symbols : List Symbol) → answer state at ≡ answer end place → Within at symbols place
  here state end at place symbols h = let e : at ≡ place = ap (place_in at) h in (omega (arith, e), omega (arith, e))

  ends_here : (b : Bool) (state end : S) (at place : ℕ) → cond {A = Answer} b (answer state at) (Err (rules.unexpected, at)) ≡ answer end place → Within at [] place
  ends_here true state end at place h = here state end at place [] h
  ends_here false state end at place h = absurd (cc h)

  -- the place after a reading
  pub run_within : (skip at : ℕ) (expected : List E) (state : S) (symbols : List Symbol) (end : S) (place : ℕ) → run rules skip at expected state symbols ≡ Ok (end, place) → Within at symbols place
  run_within (suc skip) at expected state [] end place h = here state end at place [] h
  run_within (suc skip) at expected state (symbol ∷ left) end place h =
      let w = run_within skip (at + 1) expected state left end place h in
      (omega (arith, w.0), omega (arith, w.1))
  run_within zero at [] state symbols end place h = here state end at place symbols h
  run_within zero at (one ∷ expected) state [] end place h = ends_here (list_all rules.may_end (one ∷ expected)) state end at place h
  run_within zero at (one ∷ expected) state (symbol ∷ left) end place h =
      let b = bound_so (rules.meets one state at symbol left) (λ (turn : Turn E S). run rules turn.more (at + 1) (turn.expected ++ expected) turn.state left) (end, place) h in
      let w = run_within b.0.more (at + 1) (b.0.expected ++ expected) b.0.state left end place b.2 in
      (omega (arith, w.0), omega (arith, w.1))

  -- the symbols of a part are passed over
  pub run_past : (more at place : ℕ) (expected : List E) (state : S) (front left : List Symbol) → more ≡ length front → place ≡ at + length front →
      run rules more at expected state (front ++ left) ≡ run rules 0 place expected state left
  run_past zero at place expected state [] left m p = ap (λ n. run rules 0 n expected state left) (omega (arith, p))
  run_past (suc more) at place expected state [] left m p = absurd (omega (arith, m))
  run_past zero at place expected state (symbol ∷ front) left m p = absurd (omega (arith, m))
  run_past (suc more) at place expected state (symbol ∷ front) left m p = run_past more (at + 1) place expected state front left (omega (arith, m)) (omega (arith, p))

-- The grammars below.

abbrev place_of : {A E : Type 0} → ℕ → Result (A × ℕ) E → ℕ
place_of other (Ok (value, place)) = place
place_of other (Err bad) = other

abbrev found : {A E : Type 0} → A → ℕ → Result (A × ℕ) E
found value place = Ok (value, place)

same_end : {A E : Type 0} (x y : A) (m n : ℕ) → found {A = A} {E = E} x m ≡ found y n → m ≡ n
same_end x y m n h = ap (place_of m) h

-- what is made of a reading ends where that ends
made_within : {S T A E : Type 0} (at : ℕ) (symbols : List Symbol) (r : Result (S × ℕ) E) (g : S → Result T E) (f : S → T → A) (value : A) (end : ℕ) →
    ((state : S) (place : ℕ) → r ≡ Ok (state, place) → Within at symbols place) → (r >>= λ read. g read.0 >>= λ t. found {A = A} {E = E} (f read.0 t) read.1) ≡ found value end → Within at symbols end
made_within {T = T} {A = A} {E = E} at symbols (Ok (state, place)) g f value end w h = by (g state) h where
  by : (made : Result T E) → (made >>= λ t. found {A = A} {E = E} (f state t) place) ≡ found value end → Within at symbols end
  by (Ok t) h = subst (Within at symbols) (same_end {E = E} (f state t) value place end h) (w state place refl)
  by (Err bad) h = absurd (cc h)
made_within at symbols (Err bad) g f value end w h = absurd (cc h)

pub term_within : (d : Def) (names : List (List ℕ)) (at : ℕ) (symbols : List Symbol) (read : term.ReadTerm) (end : ℕ) → term.read_term d names at symbols ≡ Ok (read, end) → Within at symbols end
unfolding term.read_term term.read_symbols
term_within d names at symbols read end h =
    made_within at symbols (term.read_symbols d names at symbols) (λ state. Ok state) (λ state same. record { nodes = state.nodes; names = state.names }) read end
    (λ state place e. run_within term.term_rules 0 at (_ ∷ []) (term.nothing d names) symbols state place e) h

pub tuple_within : (sorts : List FlowSort) (names : List (List ℕ)) (at : ℕ) (symbols : List Symbol) (read : tuple.ReadTuple) (end : ℕ) → tuple.read_tuple sorts names at symbols ≡ Ok (read, end) → Within at symbols end
unfolding tuple.read_tuple tuple.read_symbols
tuple_within sorts names at symbols read end h =
    made_within at symbols (tuple.read_symbols sorts names at symbols) (λ state. Ok state) (λ state same. record { tuple = map (padded_flow (length state.names)) state.flows; names = state.names }) read end
    (λ state place e. run_within tuple.tuple_rules 0 at (_ ∷ _ ∷ []) (tuple.nothing sorts names) symbols state place e) h

pub abstract_within : {D : Type 0} (domain : Domain D) (texts : DomainTexts D) (known : Bool) (sorts : List FlowSort) (names : List (List ℕ)) (at : ℕ) (symbols : List Symbol) (read : abstract.ReadTuple D) (end : ℕ) →
    abstract.read_tuple domain texts known sorts names at symbols ≡ Ok (read, end) → Within at symbols end
unfolding abstract.read_tuple abstract.read_symbols
abstract_within domain texts known sorts names at symbols read end h =
    made_within at symbols (abstract.read_symbols domain texts known sorts names at symbols) (λ state. abstract.whole domain (length state.names) at state.flows) (λ state tuple. record { tuple = tuple; names = state.names }) read end
    (λ state place e. run_within (abstract.tuple_rules domain texts) 0 at (_ ∷ _ ∷ []) (abstract.nothing domain known sorts names) symbols state place e) h

-- a place further on
abbrev pub further : Border → ℕ → List (List ℕ) → Border
further from end names = record { names = names; at = end; left = drop (end - from.at) from.left }

-- what was taken stands between where it begins and the place after it
pub between : {A E : Type 0} (found : Result (A × ℕ) E) (value : A) (from : Border) (end : ℕ) (names : List (List ℕ)) → found ≡ Ok (value, end) → Within from.at from.left end →
    Between found value from (further from end names)
between found value from end names h w =
    let few : end - from.at ≤ length from.left = omega (arith, w.0, w.1) in
    record {
      own = take (end - from.at) from.left;
      symbols_are = sym (take-append-drop (end - from.at) from.left);
      place_is = omega (arith, w.0, length-take-le (end - from.at) from.left few);
      found_is = h;
    }
