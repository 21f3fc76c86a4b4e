-- Calls: a hook, a point and inputs that a lower grammar reads.
use Rattle.std.proofs.Common.{◌≡◌, ℕ, ◌+◌, ◌-◌, ◌<◌, pos, false, List, [], ◌∷◌, ◌++◌, length, refl, sym, ap, subst, ◌∙◌, arith, length-append, Result, Ok, Err}
use Rattle.sk_base.specs.Answer.{◌>>=◌}
use Rattle.sk_base.specs.declared.flow.FlowSort.{FlowSort}
use Rattle.sk_lex.specs.Run.{Rules, run}
use Rattle.sk_lex.specs.Symbols.{Symbol, Plain}
use Rattle.sk_lex.specs.declared.token.TokenKind.TheVariants as token
use Rattle.sk_def.specs.declared.ids.HookId.{HookId}
use Rattle.sk_def.specs.declared.def.Def.{Def}
use Rattle.sk_term.specs.declared.node.TermNode.{TermNode}
use Rattle.sk_value.specs.declared.flow.Flow.{Flow}
use Rattle.sk_deriv.specs.Reading as concrete
use Rattle.sk_deriv.specs.declared.fault.TupleError.{TupleError}
use Rattle.sk_lattice.specs.Domain.{Domain}
use Rattle.sk_lattice.specs.DomainTexts.{DomainTexts}
use Rattle.sk_lattice.specs.declared.flow.AbsFlow.{AbsFlow}
use Rattle.sk_table.specs.Tuples as abstract
use Rattle.sk_table.specs.declared.fault.TableError.{TableError}
use Rattle.sk_bench.specs.declared.job.JobError.{JobError}
use Rattle.sk_bench.specs.Jobs.{Met, ReadCall, ReadCover, abstract_tupled, call_of, cover_of, inputs_of, read_call, read_inputs, read_cover, read_cover_inputs, tupled}
use Rattle.sk_spell.proofs.JobFound.{AbstractStands, Between, Border, CallStands, TupleStands, past}
use Rattle.sk_spell.proofs.JobMarks.{Heads, headed, heads_are, heads_so, inputs_are}
use Rattle.sk_spell.proofs.JobReaders.{Within, abstract_within, between, bound_so, further, run_past, tuple_within}

abbrev pub border : List (List ℕ) → ℕ → List Symbol → Border
border names at left = record { names = names; at = at; left = left }

abbrev pub given : {A E : Type 0} → A → ℕ → Result (A × ℕ) E
given value place = Ok (value, place)

abbrev pair_in : {A E : Type 0} → A × ℕ → Result (A × ℕ) E → A × ℕ
pair_in other (Ok pair) = pair
pair_in other (Err bad) = other

abbrev after_first : List Symbol → List Symbol
after_first [] = []
after_first (one ∷ left) = left

-- The inputs are what a reader gives after the hook and the point.
module _ {X A E : Type 0} (reads : List FlowSort → List (List ℕ) → ℕ → List Symbol → Result (A × ℕ) (E × ℕ)) (made : List X → List (List ℕ) → A)
    (within : (sorts : List FlowSort) (names : List (List ℕ)) (at : ℕ) (symbols : List Symbol) (read : A) (end : ℕ) → reads sorts names at symbols ≡ Ok (read, end) → Within at symbols end)
    (d : Def) (nodes : List TermNode) where
  abbrev pub Inputs : List FlowSort → Border → List X → Border → Type 0
  Inputs sorts from ins to = Between (reads sorts from.names from.at from.left) (made ins to.names) from to

  pub call_stands : (from : Border) (hook : HookId) (point : ℕ) (h : Heads d nodes from.left hook point) (ins : List X) (names : List (List ℕ)) (end : ℕ) →
      reads (inputs_of d hook) from.names (from.at + 2) h.inside ≡ Ok (made ins names, end) → CallStands Inputs d nodes from hook point ins (further (past from 2 h.inside) end names)
  call_stands from hook point h ins names end e =
      let sorts = inputs_are d nodes hook h.declared h.call.called in
      let there : reads h.declared.inputs from.names (from.at + 2) h.inside ≡ Ok (made ins names, end) = ap (λ s. reads s from.names (from.at + 2) h.inside) (sym sorts) ∙ e in
      record {
        declared = h.declared;
        inside = h.inside;
        call = h.call;
        inputs_are = between (reads h.declared.inputs from.names (from.at + 2) h.inside) (made ins names) (past from 2 h.inside) end names there
            (within h.declared.inputs from.names (from.at + 2) h.inside (made ins names) end there);
      }

  module _ (from : Border) (hook : HookId) (point : ℕ) (ins : List X) (to : Border) (c : CallStands Inputs d nodes from hook point ins to) where
    abbrev pub heads : Heads d nodes from.left hook point
    heads = record { declared = c.declared; inside = c.inside; call = c.call }

    pub inputs_found : reads (inputs_of d hook) from.names (from.at + 2) c.inside ≡ Ok (made ins to.names, to.at)
    inputs_found = ap (λ s. reads s from.names (from.at + 2) c.inside) (inputs_are d nodes hook c.declared c.call.called) ∙ c.inputs_are.found_is

    -- what is left after the call is shorter, and reading goes on there
    pub left_is : (one : Symbol) (left : List Symbol) → from.left ≡ one ∷ left → left ≡ (Plain (token.Number (pos point)) ∷ c.inputs_are.own) ++ to.left
    left_is one left e = let same : left ≡ Plain (token.Number (pos point)) ∷ c.inside = ap after_first (sym e ∙ c.call.symbols_are) in same ∙ ap (λ s. Plain (token.Number (pos point)) ∷ s) c.inputs_are.symbols_are

    pub shorter : (one : Symbol) (left : List Symbol) → from.left ≡ one ∷ left → length to.left < length left
    shorter one left e = omega (arith, ap length (left_is one left e), length-append c.inputs_are.own to.left)

    -- nothing lies between the places but the call's own symbols
    pub call_place : to.at + length to.left ≡ from.at + length from.left
    call_place =
        let i = c.inputs_are in
        omega (arith, i.place_is, ap length i.symbols_are, length-append i.own to.left, ap length c.call.symbols_are)

    pub call_past : {S T C : Type 0} (rules : Rules S T C) (expected : List S) (state : T) (one : Symbol) (left : List Symbol) → from.left ≡ one ∷ left →
        run rules (to.at - (from.at + 1)) (from.at + 1) expected state left ≡ run rules 0 to.at expected state to.left
    call_past rules expected state one left e =
        ap (run rules (to.at - (from.at + 1)) (from.at + 1) expected state) (left_is one left e)
        ∙ run_past rules (to.at - (from.at + 1)) (from.at + 1) to.at expected state (Plain (token.Number (pos point)) ∷ c.inputs_are.own) to.left (omega (arith, c.inputs_are.place_is)) (omega (arith, c.inputs_are.place_is))

abbrev pub made_tuple : List Flow → List (List ℕ) → concrete.ReadTuple
made_tuple tuple names = record { tuple = tuple; names = names }

abbrev pub made_abstract : {D : Type 0} → List (AbsFlow D) → List (List ℕ) → abstract.ReadTuple D
made_abstract tuple names = record { tuple = tuple; names = names }

abbrev pub reads_abstract : {D : Type 0} → Domain D → DomainTexts D → List FlowSort → List (List ℕ) → ℕ → List Symbol → Result (abstract.ReadTuple D × ℕ) (TableError × ℕ)
reads_abstract domain texts sorts names at symbols = abstract.read_tuple domain texts false sorts names at symbols

-- Start lines.

module _ (d : Def) (nodes : List TermNode) (names : List (List ℕ)) (at : ℕ) where
  -- what is made of a hook, a point and the symbols of the inputs
  abbrev start_inside : HookId → ℕ → List Symbol → Met (ReadCall × ℕ)
  start_inside hook point inside = tupled (concrete.read_tuple (inputs_of d hook) names (at + 2) inside) >>= λ read. given (call_of hook point read.0) read.1

  start_form : (symbols : List Symbol) → read_call d nodes names at symbols ≡ headed d nodes at start_inside symbols
  unfolding read_call read_inputs
  start_form symbols = refl

  tupled_so : (r : Result (concrete.ReadTuple × ℕ) (TupleError × ℕ)) (x : concrete.ReadTuple × ℕ) → tupled r ≡ Ok x → r ≡ Ok x
  tupled_so (Ok y) x h = let same : y ≡ x = cc h in ap (λ v. Ok v) same
  tupled_so (Err (error, place)) x h = absurd (cc h)

  -- a call that was read up to a place
  pub record StartFound (symbols : List Symbol) (read : ReadCall × ℕ) : Type 0 where
    pub to : Border
    pub call : CallStands TupleStands d nodes (border names at symbols) read.0.start.hook read.0.start.point read.0.start.ins to
    pub names_are : to.names ≡ read.0.names
    pub place_is : to.at ≡ read.1

  start_parts : (symbols : List Symbol) (hook : HookId) (point : ℕ) (h : Heads d nodes symbols hook point) (t : concrete.ReadTuple × ℕ) (read : ReadCall × ℕ) →
      concrete.read_tuple (inputs_of d hook) names (at + 2) h.inside ≡ Ok t → given {E = JobError × ℕ} (call_of hook point t.0) t.1 ≡ Ok read → StartFound symbols read
  start_parts symbols hook point h t read is e =
      let made : (call_of hook point t.0, t.1) ≡ read = ap (pair_in read) e in
      let s = call_stands concrete.read_tuple made_tuple tuple_within d nodes (border names at symbols) hook point h t.0.tuple t.0.names t.1 is in
      let own : StartFound symbols (call_of hook point t.0, t.1) = record { to = further (past (border names at symbols) 2 h.inside) t.1 t.0.names; call = s; names_are = refl; place_is = refl } in
      subst (StartFound symbols) made own

  pub start_so : (symbols : List Symbol) (read : ReadCall × ℕ) → read_call d nodes names at symbols ≡ Ok read → StartFound symbols read
  start_so symbols read e =
      let h = heads_so d nodes at start_inside symbols read (sym (start_form symbols) ∙ e) in
      let b = bound_so (tupled (concrete.read_tuple (inputs_of d h.0) names (at + 2) h.2.inside)) (λ (t : concrete.ReadTuple × ℕ). given {E = JobError × ℕ} (call_of h.0 h.1 t.0) t.1) read h.3 in
      start_parts symbols h.0 h.1 h.2 b.0 read (tupled_so (concrete.read_tuple (inputs_of d h.0) names (at + 2) h.2.inside) b.0 b.1) b.2

  pub start_is : (symbols : List Symbol) (hook : HookId) (point : ℕ) (ins : List Flow) (to : Border) → CallStands TupleStands d nodes (border names at symbols) hook point ins to →
      read_call d nodes names at symbols ≡ Ok (record { start = record { hook = hook; point = point; ins = ins }; names = to.names }, to.at)
  start_is symbols hook point ins to c =
      let from = border names at symbols in
      let h = heads concrete.read_tuple made_tuple tuple_within d nodes from hook point ins to c in
      start_form symbols ∙ heads_are d nodes at start_inside symbols hook point h
      ∙ ap (λ r. tupled r >>= λ read. given (call_of hook point read.0) read.1) (inputs_found concrete.read_tuple made_tuple tuple_within d nodes from hook point ins to c)

-- Cover lines.

module _ {D : Type 0} (domain : Domain D) (texts : DomainTexts D) (d : Def) (nodes : List TermNode) (names : List (List ℕ)) (at : ℕ) where
  abbrev cover_inside : HookId → ℕ → List Symbol → Met (ReadCover D × ℕ)
  cover_inside hook point inside = abstract_tupled (reads_abstract domain texts (inputs_of d hook) names (at + 2) inside) >>= λ read. given (cover_of hook point read.0) read.1

  cover_form : (symbols : List Symbol) → read_cover domain texts d nodes names at symbols ≡ headed d nodes at cover_inside symbols
  unfolding read_cover read_cover_inputs
  cover_form symbols = refl

  abstract_so : (r : Result (abstract.ReadTuple D × ℕ) (TableError × ℕ)) (x : abstract.ReadTuple D × ℕ) → abstract_tupled r ≡ Ok x → r ≡ Ok x
  abstract_so (Ok y) x h = let same : y ≡ x = cc h in ap (λ v. Ok v) same
  abstract_so (Err (error, place)) x h = absurd (cc h)

  pub record CoverFound (symbols : List Symbol) (read : ReadCover D × ℕ) : Type 0 where
    pub to : Border
    pub call : CallStands (AbstractStands domain texts) d nodes (border names at symbols) read.0.cover.hook read.0.cover.point read.0.cover.ins to
    pub names_are : to.names ≡ read.0.names
    pub place_is : to.at ≡ read.1

  cover_parts : (symbols : List Symbol) (hook : HookId) (point : ℕ) (h : Heads d nodes symbols hook point) (t : abstract.ReadTuple D × ℕ) (read : ReadCover D × ℕ) →
      reads_abstract domain texts (inputs_of d hook) names (at + 2) h.inside ≡ Ok t → given {E = JobError × ℕ} (cover_of hook point t.0) t.1 ≡ Ok read → CoverFound symbols read
  cover_parts symbols hook point h t read is e =
      let made : (cover_of hook point t.0, t.1) ≡ read = ap (pair_in read) e in
      let s = call_stands (reads_abstract domain texts) made_abstract (abstract_within domain texts false) d nodes (border names at symbols) hook point h t.0.tuple t.0.names t.1 is in
      let own : CoverFound symbols (cover_of hook point t.0, t.1) = record { to = further (past (border names at symbols) 2 h.inside) t.1 t.0.names; call = s; names_are = refl; place_is = refl } in
      subst (CoverFound symbols) made own

  pub cover_so : (symbols : List Symbol) (read : ReadCover D × ℕ) → read_cover domain texts d nodes names at symbols ≡ Ok read → CoverFound symbols read
  cover_so symbols read e =
      let h = heads_so d nodes at cover_inside symbols read (sym (cover_form symbols) ∙ e) in
      let b = bound_so (abstract_tupled (reads_abstract domain texts (inputs_of d h.0) names (at + 2) h.2.inside)) (λ (t : abstract.ReadTuple D × ℕ). given {E = JobError × ℕ} (cover_of h.0 h.1 t.0) t.1) read h.3 in
      cover_parts symbols h.0 h.1 h.2 b.0 read (abstract_so (reads_abstract domain texts (inputs_of d h.0) names (at + 2) h.2.inside) b.0 b.1) b.2

  pub cover_is : (symbols : List Symbol) (hook : HookId) (point : ℕ) (ins : List (AbsFlow D)) (to : Border) → CallStands (AbstractStands domain texts) d nodes (border names at symbols) hook point ins to →
      read_cover domain texts d nodes names at symbols ≡ Ok (record { cover = record { hook = hook; point = point; ins = ins }; names = to.names }, to.at)
  cover_is symbols hook point ins to c =
      let from = border names at symbols in
      let h = heads (reads_abstract domain texts) made_abstract (abstract_within domain texts false) d nodes from hook point ins to c in
      cover_form symbols ∙ heads_are d nodes at cover_inside symbols hook point h
      ∙ ap (λ r. abstract_tupled r >>= λ read. given (cover_of hook point read.0) read.1) (inputs_found (reads_abstract domain texts) made_abstract (abstract_within domain texts false) d nodes from hook point ins to c)
