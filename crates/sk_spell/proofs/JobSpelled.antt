-- Cover lines that stand there are read.
use Rattle.std.proofs.Common.{◌≡◌, ℕ, ◌+◌, ◌-◌, pos, false, List, [], ◌∷◌, ◌++◌, refl, sym, ap, subst, ◌∙◌, arith, Ok}
use Rattle.std.specs.Prelude.{codes}
use Rattle.sk_base.specs.Answer.{◌>>=◌}
use Rattle.sk_lex.specs.Run.{run}
use Rattle.sk_lex.specs.Symbols.{Symbol, Named, Plain}
use Rattle.sk_lex.specs.declared.token.TokenKind.TheVariants as token
use Rattle.sk_lattice.specs.Domain.{Domain}
use Rattle.sk_lattice.specs.DomainTexts.{DomainTexts}
use Rattle.sk_sign.specs.Signs.{sign_domain}
use Rattle.sk_sign.specs.Texts.{sign_texts}
use Rattle.sk_sign.specs.declared.sign.Sign.{Sign}
use Rattle.sk_interval.specs.Intervals.{interval_domain}
use Rattle.sk_interval.specs.Texts.{interval_texts}
use Rattle.sk_interval.specs.declared.bounds.Interval.{Interval}
use Rattle.sk_table.specs.declared.triple.Cover.{Cover}
use Rattle.sk_bench.specs.Jobs.{Lines, Met, interval_covered, line_rules, meets, read_cover, sign_covered}
use Rattle.sk_spell.proofs.JobFound.{AbstractStands, Border, CallStands, CoverLine, LineStands, LinesStand, OfInterval, OfSign}
use Rattle.sk_spell.proofs.JobCalls.{border, call_past, cover_is, made_abstract, reads_abstract}
use Rattle.sk_spell.proofs.JobLines.{added_more, at_interval, at_line, at_sign, go, interval_added, nothing_added, sign_added, with_lines}
use Rattle.sk_spell.proofs.JobReaders.{abstract_within}

-- The call of a cover line, its first symbol set apart.

module _ {D : Type 0} (domain : Domain D) (texts : DomainTexts D) (state : Lines) (at : ℕ) (left : List Symbol) (cover : Cover D) (to : Border)
    (call : CallStands (AbstractStands domain texts) state.def state.nodes (border state.names (at + 2) left) cover.hook cover.point cover.ins to) where
  abbrev pub first : Symbol
  first = Named call.declared.name

  abbrev pub others : List Symbol
  others = Plain (token.Number (pos cover.point)) ∷ call.inside

  pub is_read : read_cover domain texts state.def state.nodes state.names (at + 2) (first ∷ others) ≡ Ok (record { cover = cover; names = to.names }, to.at)
  is_read = ap (read_cover domain texts state.def state.nodes state.names (at + 2)) (sym call.call.symbols_are) ∙ cover_is domain texts state.def state.nodes state.names (at + 2) left cover.hook cover.point cover.ins to call

  pub goes_on : (reached : Lines) → run line_rules (to.at - (at + 2 + 1)) (at + 2 + 1) at_line reached others ≡ go to.at at_line reached to.left
  goes_on reached =
      call_past (reads_abstract domain texts) made_abstract (abstract_within domain texts false) state.def state.nodes (border state.names (at + 2) left) cover.hook cover.point cover.ins to call line_rules at_line reached first others call.call.symbols_are

-- One line.

to_sign : (state : Lines) (at : ℕ) (left : List Symbol) → go at at_line state (Named (codes "cover") ∷ Named (codes "sign") ∷ left) ≡ go (at + 1 + 1) (at_sign ++ at_line) state left
unfolding meets
to_sign state at left = refl

to_interval : (state : Lines) (at : ℕ) (left : List Symbol) → go at at_line state (Named (codes "cover") ∷ Named (codes "interval") ∷ left) ≡ go (at + 1 + 1) (at_interval ++ at_line) state left
unfolding meets
to_interval state at left = refl

turn_sign : (state : Lines) (at : ℕ) (one : Symbol) (left : List Symbol) (cover : Cover Sign) (names : List (List ℕ)) (end : ℕ) →
    read_cover sign_domain sign_texts state.def state.nodes state.names at (one ∷ left) ≡ Ok (record { cover = cover; names = names }, end) →
    go at (at_sign ++ at_line) state (one ∷ left) ≡ run line_rules (end - (at + 1)) (at + 1) at_line (record state { names = names; sign = state.sign ++ cover ∷ [] }) left
unfolding meets
turn_sign state at one left cover names end e = ap (λ m. sign_covered state at m >>= λ turn. run line_rules turn.more (at + 1) (turn.expected ++ at_line) turn.state left) e

turn_interval : (state : Lines) (at : ℕ) (one : Symbol) (left : List Symbol) (cover : Cover Interval) (names : List (List ℕ)) (end : ℕ) →
    read_cover interval_domain interval_texts state.def state.nodes state.names at (one ∷ left) ≡ Ok (record { cover = cover; names = names }, end) →
    go at (at_interval ++ at_line) state (one ∷ left) ≡ run line_rules (end - (at + 1)) (at + 1) at_line (record state { names = names; interval = state.interval ++ cover ∷ [] }) left
unfolding meets
turn_interval state at one left cover names end e = ap (λ m. interval_covered state at m >>= λ turn. run line_rules turn.more (at + 1) (turn.expected ++ at_line) turn.state left) e

two : (at : ℕ) → at + 1 + 1 ≡ at + 2
two at = omega arith

line_is : (state : Lines) (from : Border) (line : CoverLine) (to : Border) → from.names ≡ state.names → LineStands state.def state.nodes from line to → go from.at at_line state from.left ≡ go to.at at_line (with_lines state (line ∷ []) to.names) to.left
line_is state from (OfSign cover) to n s =
    let call = subst (λ names. CallStands (AbstractStands sign_domain sign_texts) state.def state.nodes (border names (from.at + 2) s.call) cover.hook cover.point cover.ins to) n s.call_is in
    let one = first sign_domain sign_texts state from.at s.call cover to call in
    let rest = others sign_domain sign_texts state from.at s.call cover to call in
    let reached = record state { names = to.names; sign = state.sign ++ cover ∷ [] } in
    ap (go from.at at_line state) s.symbols_are ∙ to_sign state from.at s.call ∙ ap (λ at. go at (at_sign ++ at_line) state s.call) (two from.at)
    ∙ ap (go (from.at + 2) (at_sign ++ at_line) state) call.call.symbols_are
    ∙ turn_sign state (from.at + 2) one rest cover to.names to.at (is_read sign_domain sign_texts state from.at s.call cover to call)
    ∙ goes_on sign_domain sign_texts state from.at s.call cover to call reached ∙ ap (λ r. go to.at at_line r to.left) (sym (sign_added state cover to.names))
line_is state from (OfInterval cover) to n s =
    let call = subst (λ names. CallStands (AbstractStands interval_domain interval_texts) state.def state.nodes (border names (from.at + 2) s.call) cover.hook cover.point cover.ins to) n s.call_is in
    let one = first interval_domain interval_texts state from.at s.call cover to call in
    let rest = others interval_domain interval_texts state from.at s.call cover to call in
    let reached = record state { names = to.names; interval = state.interval ++ cover ∷ [] } in
    ap (go from.at at_line state) s.symbols_are ∙ to_interval state from.at s.call ∙ ap (λ at. go at (at_interval ++ at_line) state s.call) (two from.at)
    ∙ ap (go (from.at + 2) (at_interval ++ at_line) state) call.call.symbols_are
    ∙ turn_interval state (from.at + 2) one rest cover to.names to.at (is_read interval_domain interval_texts state from.at s.call cover to call)
    ∙ goes_on interval_domain interval_texts state from.at s.call cover to call reached ∙ ap (λ r. go to.at at_line r to.left) (sym (interval_added state cover to.names))

-- All of them.

abbrev ended_at : Lines → ℕ → Met (Lines × ℕ)
ended_at state at = Ok (state, at)

pub lines_are : (state : Lines) (from : Border) (lines : List CoverLine) (end : Border) → from.names ≡ state.names → LinesStand state.def state.nodes from lines end → end.left ≡ [] →
    go from.at at_line state from.left ≡ ended_at (with_lines state lines end.names) end.at
lines_are state from [] end n s e =
    let nothing : from.left ≡ [] = ap (λ (b : Border). b.left) (sym s) ∙ e in
    let names : end.names ≡ state.names = ap (λ (b : Border). b.names) s ∙ n in
    let place : from.at ≡ end.at = ap (λ (b : Border). b.at) (sym s) in
    ap (go from.at at_line state) nothing ∙ ap (λ r. ended_at r from.at) (sym (nothing_added state)) ∙ ap (λ ns. ended_at (with_lines state [] ns) from.at) (sym names)
    ∙ ap (λ at. ended_at (with_lines state [] end.names) at) place
lines_are state from (line ∷ lines) end n s e =
    let next = s.0 in
    line_is state from line next n s.1 ∙ lines_are (with_lines state (line ∷ []) next.names) next lines end refl s.2 e ∙ ap (λ r. ended_at r end.at) (added_more state line lines next.names end.names)
