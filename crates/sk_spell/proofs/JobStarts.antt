-- The start line, and the first line of a job without one.
use Rattle.std.proofs.Common.{◌≡◌, ℕ, ◌+◌, ◌-◌, pos, Bool, true, false, cond, List, [], ◌∷◌, ◌++◌, refl, sym, ap, subst, ◌∙◌, Option, Some, None, Result, Ok, Err}
use Rattle.std.specs.Prelude.{codes}
use Rattle.std.specs.Option.{option_or}
use Rattle.sk_base.specs.Answer.{◌>>=◌}
use Rattle.sk_lex.specs.Run.{Turn, run}
use Rattle.sk_lex.specs.Symbols.{Symbol, Named, Plain}
use Rattle.sk_lex.specs.declared.token.TokenKind.TheVariants as token
use Rattle.sk_deriv.specs.Reading.{read_tuple}
use Rattle.sk_bench.specs.declared.job.JobError.{JobError}
use Rattle.sk_bench.specs.declared.job.Start.{Start}
use Rattle.sk_bench.specs.Jobs.{Lines, Met, ReadCall, alone, cover_line, is_word, line_rules, meets, read_call, started}
use Rattle.sk_spell.proofs.JobFound.{Border, CallStands, CoverLine, LinesStand, OfInterval, OfSign, StartStands, TupleStands}
use Rattle.sk_spell.proofs.JobCalls.{StartFound, border, call_past, made_tuple, start_is, start_so}
use Rattle.sk_spell.proofs.JobLines.{Expected, at_call, at_first, at_line, go, turn_in}
use Rattle.sk_spell.proofs.JobMarks.{word_so}
use Rattle.sk_spell.proofs.JobReaders.{bound_so, tuple_within}

-- what was read with a start line
abbrev pub with_start : Lines → Option Start → List (List ℕ) → Lines
with_start state start names = record state { names = names; start = option_or start state.start }

-- Reading.

-- a start line or none stands there, and the cover lines come after it
pub record FirstRead (state : Lines) (at : ℕ) (symbols : List Symbol) (answer : Lines × ℕ) : Type 0 where
  pub start : Option Start
  pub to : Border
  pub stands : StartStands state.def state.nodes (border state.names at symbols) start to
  pub goes : go to.at at_line (with_start state start to.names) to.left ≡ Ok answer

record CallRead (state : Lines) (at : ℕ) (symbols : List Symbol) (turn : Turn Expected Lines) : Type 0 where
  read : ReadCall × ℕ
  found : read_call state.def state.nodes state.names at symbols ≡ Ok read
  turn_is : turn ≡ record { expected = []; state = record state { names = read.0.names; start = Some read.0.start }; more = read.1 - (at + 1) }

call_so : (state : Lines) (at : ℕ) (symbols : List Symbol) (m : Met (ReadCall × ℕ)) (turn : Turn Expected Lines) → read_call state.def state.nodes state.names at symbols ≡ m → started state at m ≡ Ok turn → CallRead state at symbols turn
call_so state at symbols (Ok (read, end)) turn e h = record { read = (read, end); found = e; turn_is = sym (ap (turn_in turn) h) }
call_so state at symbols (Err bad) turn e h = absurd (cc h)

call_parts : (state : Lines) (at : ℕ) (symbols : List Symbol) (one : Symbol) (rest : List Symbol) (read : ReadCall × ℕ) (answer : Lines × ℕ) → symbols ≡ Named (codes "start") ∷ one ∷ rest →
    StartFound state.def state.nodes state.names (at + 1) (one ∷ rest) read → (turn : Turn Expected Lines) → turn ≡ record { expected = []; state = record state { names = read.0.names; start = Some read.0.start }; more = read.1 - (at + 1 + 1) } →
    run line_rules turn.more (at + 1 + 1) (turn.expected ++ at_line) turn.state rest ≡ Ok answer → FirstRead state at symbols answer
call_parts state at symbols one rest read answer e c turn t h =
    let reached = record state { names = read.0.names; start = Some read.0.start } in
    let from = border state.names (at + 1) (one ∷ rest) in
    let on : run line_rules (read.1 - (at + 1 + 1)) (at + 1 + 1) at_line reached rest ≡ Ok answer =
    subst (λ (u : Turn Expected Lines). run line_rules u.more (at + 1 + 1) (u.expected ++ at_line) u.state rest ≡ Ok answer) t h in
    let over = call_past read_tuple made_tuple tuple_within state.def state.nodes from read.0.start.hook read.0.start.point read.0.start.ins c.to c.call line_rules at_line reached one rest refl in
    record {
      start = Some read.0.start;
      to = c.to;
      stands = record { call = one ∷ rest; symbols_are = e; call_is = c.call };
      goes = ap (λ (ns : List (List ℕ)). go c.to.at at_line (record state { names = ns; start = Some read.0.start }) c.to.left) c.names_are ∙ sym over
          ∙ ap (λ n. run line_rules (n - (at + 1 + 1)) (at + 1 + 1) at_line reached rest) c.place_is ∙ on;
    }

start_line : (state : Lines) (at : ℕ) (symbols left : List Symbol) (answer : Lines × ℕ) → symbols ≡ Named (codes "start") ∷ left → go (at + 1) at_call state left ≡ Ok answer → FirstRead state at symbols answer
unfolding meets
start_line state at symbols [] answer e h = absurd (cc h)
start_line state at symbols (one ∷ rest) answer e h =
    let m = read_call state.def state.nodes state.names (at + 1) (one ∷ rest) in
    let b = bound_so (started state (at + 1) m) (λ (turn : Turn Expected Lines). run line_rules turn.more (at + 1 + 1) (turn.expected ++ at_line) turn.state rest) answer h in
    let r = call_so state (at + 1) (one ∷ rest) m b.0 refl b.1 in
    call_parts state at symbols one rest r.read answer e (start_so state.def state.nodes state.names (at + 1) (one ∷ rest) r.read r.found) b.0 r.turn_is b.2

-- where there is no start line the first line is read as the others
as_others : (state : Lines) (at : ℕ) (one : Symbol) (left : List Symbol) → is_word (codes "start") one ≡ false → go at at_first state (one ∷ left) ≡ go at at_line state (one ∷ left)
unfolding meets
as_others state at one left e =
    ap (λ b. alone state at (cond {A = Result (List Expected) JobError} b (Ok at_call) (cover_line one)) >>= λ (turn : Turn Expected Lines). run line_rules turn.more (at + 1) (turn.expected ++ []) turn.state left) e

as_start : (state : Lines) (at : ℕ) (left : List Symbol) → go at at_first state (Named (codes "start") ∷ left) ≡ go (at + 1) at_call state left
unfolding meets
as_start state at left = refl

pub first_so : (state : Lines) (at : ℕ) (symbols : List Symbol) (answer : Lines × ℕ) → go at at_first state symbols ≡ Ok answer → FirstRead state at symbols answer
first_so state at [] answer h = record { start = None; to = border state.names at []; stands = refl; goes = h }
first_so state at (one ∷ left) answer h = by (is_word (codes "start") one) refl where
  by : (b : Bool) → is_word (codes "start") one ≡ b → FirstRead state at (one ∷ left) answer
  by true e =
      let same = word_so (codes "start") one e in
      start_line state at (one ∷ left) left answer (ap (λ s. s ∷ left) same) (sym (as_start state at left) ∙ ap (λ s. go at at_first state (s ∷ left)) (sym same) ∙ h)
  by false e = record { start = None; to = border state.names at (one ∷ left); stands = refl; goes = sym (as_others state at one left e) ∙ h }

-- Spelling.

turn_start : (state : Lines) (at : ℕ) (one : Symbol) (left : List Symbol) (start : Start) (names : List (List ℕ)) (end : ℕ) →
    read_call state.def state.nodes state.names at (one ∷ left) ≡ Ok (record { start = start; names = names }, end) →
    go at at_call state (one ∷ left) ≡ run line_rules (end - (at + 1)) (at + 1) at_line (record state { names = names; start = Some start }) left
unfolding meets
turn_start state at one left start names end e = ap (λ m. started state at m >>= λ turn. run line_rules turn.more (at + 1) (turn.expected ++ at_line) turn.state left) e

-- cover lines begin with their word, or there are none
others_first : (state : Lines) (at : ℕ) (nodes : Lines) (from : Border) (lines : List CoverLine) (end : Border) → LinesStand nodes.def nodes.nodes from lines end → end.left ≡ [] →
    go at at_first state from.left ≡ go at at_line state from.left
others_first state at own from [] end s e =
    let nothing : from.left ≡ [] = ap (λ (b : Border). b.left) (sym s) ∙ e in
    ap (go at at_first state) nothing ∙ ap (go at at_line state) (sym nothing)
others_first state at own from (OfSign cover ∷ lines) end s e =
    let l = s.1 in
    ap (go at at_first state) l.symbols_are ∙ as_others state at (Named (codes "cover")) (Named (codes "sign") ∷ l.call) refl ∙ ap (go at at_line state) (sym l.symbols_are)
others_first state at own from (OfInterval cover ∷ lines) end s e =
    let l = s.1 in
    ap (go at at_first state) l.symbols_are ∙ as_others state at (Named (codes "cover")) (Named (codes "interval") ∷ l.call) refl ∙ ap (go at at_line state) (sym l.symbols_are)

pub first_are : (state : Lines) (from : Border) (start : Option Start) (to : Border) (lines : List CoverLine) (end : Border) → from.names ≡ state.names → StartStands state.def state.nodes from start to →
    LinesStand state.def state.nodes to lines end → end.left ≡ [] → go from.at at_first state from.left ≡ go to.at at_line (with_start state start to.names) to.left
first_are state from None to lines end n s l e =
    let names : to.names ≡ state.names = ap (λ (b : Border). b.names) s ∙ n in
    ap (λ (b : Border). go b.at at_first state b.left) (sym s) ∙ others_first state to.at state to lines end l e ∙ ap (λ (ns : List (List ℕ)). go to.at at_line (record state { names = ns }) to.left) (sym names)
first_are state from (Some start) to lines end n s l e =
    let call = subst (λ names. CallStands TupleStands state.def state.nodes (border names (from.at + 1) s.call) start.hook start.point start.ins to) n s.call_is in
    let one = Named call.declared.name in
    let rest = Plain (token.Number (pos start.point)) ∷ call.inside in
    let reached = record state { names = to.names; start = Some start } in
    let is = ap (read_call state.def state.nodes state.names (from.at + 1)) (sym call.call.symbols_are) ∙ start_is state.def state.nodes state.names (from.at + 1) s.call start.hook start.point start.ins to call in
    ap (go from.at at_first state) s.symbols_are ∙ as_start state from.at s.call ∙ ap (go (from.at + 1) at_call state) call.call.symbols_are
    ∙ turn_start state (from.at + 1) one rest start to.names to.at is
    ∙ call_past read_tuple made_tuple tuple_within state.def state.nodes (border state.names (from.at + 1) s.call) start.hook start.point start.ins to call line_rules at_line reached one rest call.call.symbols_are
