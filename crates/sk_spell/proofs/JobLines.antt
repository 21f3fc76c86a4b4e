-- Cover lines that are read stand there.
use Rattle.std.proofs.Common.{◌≡◌, ℕ, zero, suc, ◌+◌, ◌-◌, ◌<◌, ◌≤◌, Bool, true, false, cond, List, [], ◌∷◌, ◌++◌, length, drop, refl, sym, ap, subst, ◌∙◌, arith, append_assoc, Result, Ok, Err}
use Rattle.std.specs.Prelude.{codes}
use Rattle.std.specs.List.{filter_map}
use Rattle.std.proofs.lemmas.List.{append-nil}
use Rattle.std.proofs.lemmas.List.Elements.{filter_map-append}
use Rattle.sk_lex.specs.Run.{Turn, ended, run}
use Rattle.sk_lex.specs.Symbols.{Symbol, Named}
use Rattle.sk_def.specs.declared.def.Def.{Def}
use Rattle.sk_term.specs.Reading.{ReadTerm}
use Rattle.sk_lattice.specs.Domain.{Domain}
use Rattle.sk_lattice.specs.DomainTexts.{DomainTexts}
use Rattle.sk_sign.specs.Signs.{sign_domain}
use Rattle.sk_sign.specs.Texts.{sign_texts}
use Rattle.sk_sign.specs.declared.sign.Sign.{Sign}
use Rattle.sk_interval.specs.Intervals.{interval_domain}
use Rattle.sk_interval.specs.Texts.{interval_texts}
use Rattle.sk_interval.specs.declared.bounds.Interval.{Interval}
use Rattle.sk_table.specs.declared.triple.Cover.{Cover}
use Rattle.sk_bench.specs.declared.job.JobError.{JobError}
use Rattle.sk_bench.specs.declared.job.JobError.TheVariants.{Unexpected}
use Rattle.sk_bench.specs.Jobs.{Lines, Met, ReadCover, alone, cover_line, domain, first_line, interval_covered, is_word, line_rules, meets, no_lines, read_cover, read_lines, sign_covered, turn_to}
use Rattle.sk_spell.proofs.JobFound.{AbstractStands, Border, CallStands, CoverLine, CoverStands, LineStands, LinesStand, OfInterval, OfSign, interval_cover, sign_cover}
use Rattle.sk_spell.proofs.JobCalls.{CoverFound, border, call_past, cover_so, made_abstract, reads_abstract, shorter}
use Rattle.sk_spell.proofs.JobMarks.{true_so, word_so}
use Rattle.sk_spell.proofs.JobReaders.{abstract_within, bound_so}

-- What the reader of lines expects, named by the symbols after which it does.

abbrev EntryOf : {A E : Type 0} → Result (List A) E → Type 0
EntryOf {A = A} r = A

abbrev pub Expected : Type 0
Expected = EntryOf (cover_line (Named []))

abbrev all_of : {A E : Type 0} → Result (List A) E → List A
all_of (Ok xs) = xs
all_of (Err e) = []

abbrev rest_of : {A : Type 0} → List A → List A
rest_of [] = []
rest_of (x ∷ xs) = xs

-- after `cover`, and after each line
abbrev pub at_domain : List Expected
at_domain = all_of (cover_line (Named (codes "cover")))

abbrev pub at_line : List Expected
at_line = rest_of at_domain

-- after each domain's word
abbrev pub at_sign : List Expected
at_sign = all_of (domain (Named (codes "sign")))

abbrev pub at_interval : List Expected
at_interval = all_of (domain (Named (codes "interval")))

-- before all lines
abbrev pub first_is : (one : Expected) × ((d : Def) (symbols : List Symbol) (program : ReadTerm × ℕ) →
    read_lines d symbols program ≡ ended line_rules (length symbols) (run line_rules 0 program.1 (one ∷ []) (no_lines d program.0) (drop program.1 symbols)))
first_is = (_, λ d symbols program. refl)

abbrev pub at_first : List Expected
at_first = first_is.0 ∷ []

-- after `start`
abbrev pub at_call : List Expected
at_call = all_of (first_line (Named (codes "start")))

-- reading on from a place
abbrev pub go : ℕ → List Expected → Lines → List Symbol → Met (Lines × ℕ)
go at expected state left = run line_rules 0 at expected state left

-- what was read with more cover lines, and more names
abbrev pub with_lines : Lines → List CoverLine → List (List ℕ) → Lines
with_lines state lines names = record state { names = names; sign = state.sign ++ filter_map sign_cover lines; interval = state.interval ++ filter_map interval_cover lines }

pub nothing_added : (state : Lines) → with_lines state [] state.names ≡ state
nothing_added state = λ i. record state { sign = append-nil state.sign i; interval = append-nil state.interval i }

pub added_more : (state : Lines) (line : CoverLine) (lines : List CoverLine) (names more : List (List ℕ)) → with_lines (with_lines state (line ∷ []) names) lines more ≡ with_lines state (line ∷ lines) more
added_more state line lines names more =
    let signs : (state.sign ++ filter_map sign_cover (line ∷ [])) ++ filter_map sign_cover lines ≡ state.sign ++ filter_map sign_cover (line ∷ lines) =
    append_assoc state.sign (filter_map sign_cover (line ∷ [])) (filter_map sign_cover lines) ∙ ap (λ s. state.sign ++ s) (sym (filter_map-append sign_cover (line ∷ []) lines)) in
    let intervals : (state.interval ++ filter_map interval_cover (line ∷ [])) ++ filter_map interval_cover lines ≡ state.interval ++ filter_map interval_cover (line ∷ lines) =
    append_assoc state.interval (filter_map interval_cover (line ∷ [])) (filter_map interval_cover lines) ∙ ap (λ s. state.interval ++ s) (sym (filter_map-append interval_cover (line ∷ []) lines)) in
    λ i. record state { names = more; sign = signs i; interval = intervals i }

pub sign_added : (state : Lines) (cover : Cover Sign) (names : List (List ℕ)) → with_lines state (OfSign cover ∷ []) names ≡ record state { names = names; sign = state.sign ++ cover ∷ [] }
sign_added state cover names = λ i. record state { names = names; sign = state.sign ++ cover ∷ []; interval = append-nil state.interval i }

pub interval_added : (state : Lines) (cover : Cover Interval) (names : List (List ℕ)) → with_lines state (OfInterval cover ∷ []) names ≡ record state { names = names; interval = state.interval ++ cover ∷ [] }
interval_added state cover names = λ i. record state { names = names; sign = append-nil state.sign i; interval = state.interval ++ cover ∷ [] }

-- What a turn tells.

abbrev pub turn_in : {A E : Type 0} → A → Result A E → A
turn_in other (Ok x) = x
turn_in other (Err e) = other

pub alone_so : (state : Lines) (at : ℕ) (r : Result (List Expected) JobError) (turn : Turn Expected Lines) → alone state at r ≡ Ok turn → (expected : List Expected) × (r ≡ Ok expected) × (turn_to state expected ≡ turn)
alone_so state at (Ok expected) turn h = (expected, refl, cc h)
alone_so state at (Err error) turn h = absurd (cc h)

cover_word_so : (symbol : Symbol) (expected : List Expected) → cover_line symbol ≡ Ok expected → (symbol ≡ Named (codes "cover")) × (at_domain ≡ expected)
cover_word_so symbol expected h = let t = true_so (is_word (codes "cover") symbol) at_domain expected Unexpected h in (word_so (codes "cover") symbol t.0, t.1)

data WordIs (symbol : Symbol) (expected : List Expected) : Type 0 where
  IsSign : symbol ≡ Named (codes "sign") → at_sign ≡ expected → WordIs symbol expected
  IsInterval : symbol ≡ Named (codes "interval") → at_interval ≡ expected → WordIs symbol expected

domain_so : (symbol : Symbol) (expected : List Expected) → domain symbol ≡ Ok expected → WordIs symbol expected
domain_so symbol expected h = by (is_word (codes "sign") symbol) refl h where
  by : (b : Bool) → is_word (codes "sign") symbol ≡ b → cond b (Ok at_sign) (cond (is_word (codes "interval") symbol) (Ok at_interval) (Err Unexpected)) ≡ Ok expected → WordIs symbol expected
  by true e k = IsSign (word_so (codes "sign") symbol e) (cc k)
  by false e k = let t = true_so (is_word (codes "interval") symbol) at_interval expected Unexpected k in IsInterval (word_so (codes "interval") symbol t.0) t.1

-- One cover line.

-- a cover line stands there, and reading goes on after it
record LineRead (state : Lines) (at : ℕ) (symbols : List Symbol) (answer : Lines × ℕ) : Type 0 where
  line : CoverLine
  to : Border
  stands : LineStands state.def state.nodes (border state.names at symbols) line to
  less : length to.left < length symbols
  goes : go to.at at_line (with_lines state (line ∷ []) to.names) to.left ≡ Ok answer

module _ {D : Type 0} (own_domain : Domain D) (texts : DomainTexts D) (state : Lines) (at : ℕ) (left : List Symbol) where
  abbrev CallRead : Cover D → Border → Type 0
  CallRead cover to = CallStands (AbstractStands own_domain texts) state.def state.nodes (border state.names (at + 1 + 1) left) cover.hook cover.point cover.ins to

  -- the whole line, of which `cover` and the domain's word come first
  line_stands : (symbols : List Symbol) (cover : Cover D) (to : Border) → symbols ≡ Named (codes "cover") ∷ Named texts.word ∷ left → CallRead cover to →
      CoverStands own_domain texts state.def state.nodes (border state.names at symbols) cover to
  line_stands symbols cover to e call =
      let two : at + 1 + 1 ≡ at + 2 = omega arith in
      record {
        call = left;
        symbols_are = e;
        call_is = subst (λ n. CallStands (AbstractStands own_domain texts) state.def state.nodes (border state.names n left) cover.hook cover.point cover.ins to) two call;
      }

  goes_on : (one : Symbol) (rest : List Symbol) (cover : Cover D) (to : Border) (place : ℕ) (end : ℕ) (expected : List Expected) (reached : Lines) → place ≡ at + 1 + 1 → left ≡ one ∷ rest → to.at ≡ end → CallRead cover to →
      run line_rules (end - (place + 1)) (place + 1) expected reached rest ≡ go to.at expected reached to.left
  goes_on one rest cover to place end expected reached p e q call =
      ap (λ n. run line_rules (end - (n + 1)) (n + 1) expected reached rest) p ∙ ap (λ n. run line_rules (n - (at + 1 + 1 + 1)) (at + 1 + 1 + 1) expected reached rest) (sym q)
      ∙ call_past (reads_abstract own_domain texts) made_abstract (abstract_within own_domain texts false) state.def state.nodes (border state.names (at + 1 + 1) left) cover.hook cover.point cover.ins to call line_rules expected reached one rest e

  is_less : (one : Symbol) (rest : List Symbol) (cover : Cover D) (to : Border) → left ≡ one ∷ rest → CallRead cover to → length to.left < length left
  is_less one rest cover to e call =
      let s = shorter (reads_abstract own_domain texts) made_abstract (abstract_within own_domain texts false) state.def state.nodes (border state.names (at + 1 + 1) left) cover.hook cover.point cover.ins to call one rest e in
      omega (arith, s, ap length e)

  -- the line, from what its call was found to be
  line_parts : (make : Cover D → CoverLine) (symbols : List Symbol) (one : Symbol) (rest : List Symbol) (read : ReadCover D × ℕ) (reached : Lines) (answer : Lines × ℕ) →
      ((cover : Cover D) (to : Border) → CoverStands own_domain texts state.def state.nodes (border state.names at symbols) cover to → LineStands state.def state.nodes (border state.names at symbols) (make cover) to) →
      symbols ≡ Named (codes "cover") ∷ Named texts.word ∷ left → left ≡ one ∷ rest → (c : CoverFound own_domain texts state.def state.nodes state.names (at + 1 + 1) left read) → with_lines state (make read.0.cover ∷ []) read.0.names ≡ reached →
      (turn : Turn Expected Lines) → turn ≡ record { expected = []; state = reached; more = read.1 - (at + 1 + 1 + 1) } → run line_rules turn.more (at + 1 + 1 + 1) (turn.expected ++ at_line) turn.state rest ≡ Ok answer →
      LineRead state at symbols answer
  line_parts make symbols one rest read reached answer lift e f c same turn t h =
      let on : run line_rules (read.1 - (at + 1 + 1 + 1)) (at + 1 + 1 + 1) at_line reached rest ≡ Ok answer =
      subst (λ (u : Turn Expected Lines). run line_rules u.more (at + 1 + 1 + 1) (u.expected ++ at_line) u.state rest ≡ Ok answer) t h in
      let there : go c.to.at at_line reached c.to.left ≡ Ok answer = sym (goes_on one rest read.0.cover c.to (at + 1 + 1) read.1 at_line reached refl f c.place_is c.call) ∙ on in
      let known : with_lines state (make read.0.cover ∷ []) c.to.names ≡ reached = ap (λ (ns : List (List ℕ)). with_lines state (make read.0.cover ∷ []) ns) c.names_are ∙ same in
      record {
        line = make read.0.cover;
        to = c.to;
        stands = lift read.0.cover c.to (line_stands symbols read.0.cover c.to e c.call);
        less = omega (arith, is_less one rest read.0.cover c.to f c.call, ap length e);
        goes = ap (λ s. go c.to.at at_line s c.to.left) known ∙ there;
      }

-- a turn that took a call
record SignRead (state : Lines) (at : ℕ) (symbols : List Symbol) (turn : Turn Expected Lines) : Type 0 where
  read : ReadCover Sign × ℕ
  found : read_cover sign_domain sign_texts state.def state.nodes state.names at symbols ≡ Ok read
  turn_is : turn ≡ record { expected = []; state = record state { names = read.0.names; sign = state.sign ++ read.0.cover ∷ [] }; more = read.1 - (at + 1) }

sign_so : (state : Lines) (at : ℕ) (symbols : List Symbol) (m : Met (ReadCover Sign × ℕ)) (turn : Turn Expected Lines) → read_cover sign_domain sign_texts state.def state.nodes state.names at symbols ≡ m →
    sign_covered state at m ≡ Ok turn → SignRead state at symbols turn
sign_so state at symbols (Ok (read, end)) turn e h = record { read = (read, end); found = e; turn_is = sym (ap (turn_in turn) h) }
sign_so state at symbols (Err bad) turn e h = absurd (cc h)

record IntervalRead (state : Lines) (at : ℕ) (symbols : List Symbol) (turn : Turn Expected Lines) : Type 0 where
  read : ReadCover Interval × ℕ
  found : read_cover interval_domain interval_texts state.def state.nodes state.names at symbols ≡ Ok read
  turn_is : turn ≡ record { expected = []; state = record state { names = read.0.names; interval = state.interval ++ read.0.cover ∷ [] }; more = read.1 - (at + 1) }

interval_so : (state : Lines) (at : ℕ) (symbols : List Symbol) (m : Met (ReadCover Interval × ℕ)) (turn : Turn Expected Lines) → read_cover interval_domain interval_texts state.def state.nodes state.names at symbols ≡ m →
    interval_covered state at m ≡ Ok turn → IntervalRead state at symbols turn
interval_so state at symbols (Ok (read, end)) turn e h = record { read = (read, end); found = e; turn_is = sym (ap (turn_in turn) h) }
interval_so state at symbols (Err bad) turn e h = absurd (cc h)

-- where an answer comes of a turn
abbrev Comes : Turn Expected Lines → ℕ → List Expected → List Symbol → Lines × ℕ → Type 0
Comes turn at below left answer = run line_rules turn.more at (turn.expected ++ below) turn.state left ≡ Ok answer

sign_line : (state : Lines) (at : ℕ) (symbols left : List Symbol) (answer : Lines × ℕ) → symbols ≡ Named (codes "cover") ∷ Named (codes "sign") ∷ left → go (at + 1 + 1) (at_sign ++ at_line) state left ≡ Ok answer →
    LineRead state at symbols answer
unfolding meets
sign_line state at symbols [] answer e h = absurd (cc h)
sign_line state at symbols (one ∷ rest) answer e h =
    let place = at + 1 + 1 in
    let m = read_cover sign_domain sign_texts state.def state.nodes state.names place (one ∷ rest) in
    let b = bound_so (sign_covered state place m) (λ (turn : Turn Expected Lines). run line_rules turn.more (place + 1) (turn.expected ++ at_line) turn.state rest) answer h in
    let r = sign_so state place (one ∷ rest) m b.0 refl b.1 in
    let c = cover_so sign_domain sign_texts state.def state.nodes state.names place (one ∷ rest) r.read r.found in
    let reached = record state { names = r.read.0.names; sign = state.sign ++ r.read.0.cover ∷ [] } in
    line_parts sign_domain sign_texts state at (one ∷ rest) OfSign symbols one rest r.read reached answer (λ cover to s. s) e refl c (sign_added state r.read.0.cover r.read.0.names) b.0 r.turn_is b.2

interval_line : (state : Lines) (at : ℕ) (symbols left : List Symbol) (answer : Lines × ℕ) → symbols ≡ Named (codes "cover") ∷ Named (codes "interval") ∷ left → go (at + 1 + 1) (at_interval ++ at_line) state left ≡ Ok answer →
    LineRead state at symbols answer
unfolding meets
interval_line state at symbols [] answer e h = absurd (cc h)
interval_line state at symbols (one ∷ rest) answer e h =
    let place = at + 1 + 1 in
    let m = read_cover interval_domain interval_texts state.def state.nodes state.names place (one ∷ rest) in
    let b = bound_so (interval_covered state place m) (λ (turn : Turn Expected Lines). run line_rules turn.more (place + 1) (turn.expected ++ at_line) turn.state rest) answer h in
    let r = interval_so state place (one ∷ rest) m b.0 refl b.1 in
    let c = cover_so interval_domain interval_texts state.def state.nodes state.names place (one ∷ rest) r.read r.found in
    let reached = record state { names = r.read.0.names; interval = state.interval ++ r.read.0.cover ∷ [] } in
    line_parts interval_domain interval_texts state at (one ∷ rest) OfInterval symbols one rest r.read reached answer (λ cover to s. s) e refl c (interval_added state r.read.0.cover r.read.0.names) b.0 r.turn_is b.2

-- after `cover`
domain_line : (state : Lines) (at : ℕ) (symbols left : List Symbol) (answer : Lines × ℕ) → symbols ≡ Named (codes "cover") ∷ left → go (at + 1) at_domain state left ≡ Ok answer → LineRead state at symbols answer
unfolding meets
domain_line state at symbols [] answer e h = absurd (cc h)
domain_line state at symbols (word ∷ left) answer e h =
    let b = bound_so (alone state (at + 1) (domain word)) (λ (turn : Turn Expected Lines). run line_rules turn.more (at + 1 + 1) (turn.expected ++ at_line) turn.state left) answer h in
    let a = alone_so state (at + 1) (domain word) b.0 b.1 in
    let on : go (at + 1 + 1) (a.0 ++ at_line) state left ≡ Ok answer = subst (λ turn. Comes turn (at + 1 + 1) at_line left answer) (sym a.2) b.2 in
    by (domain_so word a.0 a.1) on where
      by : {expected : List Expected} → WordIs word expected → go (at + 1 + 1) (expected ++ at_line) state left ≡ Ok answer → LineRead state at symbols answer
      by (IsSign w x) k = sign_line state at symbols left answer (e ∙ ap (λ s. Named (codes "cover") ∷ s ∷ left) w) (subst (λ es. go (at + 1 + 1) (es ++ at_line) state left ≡ Ok answer) (sym x) k)
      by (IsInterval w x) k = interval_line state at symbols left answer (e ∙ ap (λ s. Named (codes "cover") ∷ s ∷ left) w) (subst (λ es. go (at + 1 + 1) (es ++ at_line) state left ≡ Ok answer) (sym x) k)

line_so : (state : Lines) (at : ℕ) (one : Symbol) (left : List Symbol) (answer : Lines × ℕ) → go at at_line state (one ∷ left) ≡ Ok answer → LineRead state at (one ∷ left) answer
unfolding meets
line_so state at one left answer h =
    let b = bound_so (alone state at (cover_line one)) (λ (turn : Turn Expected Lines). run line_rules turn.more (at + 1) (turn.expected ++ []) turn.state left) answer h in
    let a = alone_so state at (cover_line one) b.0 b.1 in
    let w = cover_word_so one a.0 a.1 in
    let on : go (at + 1) (a.0 ++ []) state left ≡ Ok answer = subst (λ turn. Comes turn (at + 1) [] left answer) (sym a.2) b.2 in
    domain_line state at (one ∷ left) left answer (ap (λ s. s ∷ left) w.0) (subst (λ es. go (at + 1) (es ++ []) state left ≡ Ok answer) (sym w.1) on)

-- All cover lines.

-- cover lines up to the end of the symbols
pub record LinesRead (state : Lines) (at : ℕ) (symbols : List Symbol) (answer : Lines × ℕ) : Type 0 where
  pub lines : List CoverLine
  pub end : Border
  pub stand : LinesStand state.def state.nodes (border state.names at symbols) lines end
  pub nothing_more : end.left ≡ []
  pub state_is : answer.0 ≡ with_lines state lines end.names

abbrev state_in : Lines → Met (Lines × ℕ) → Lines
state_in other (Ok (state, place)) = state
state_in other (Err bad) = other

pub lines_so : (most : ℕ) (state : Lines) (at : ℕ) (symbols : List Symbol) (answer : Lines × ℕ) → length symbols ≤ most → go at at_line state symbols ≡ Ok answer → LinesRead state at symbols answer
lines_so most state at [] answer few h =
    let same : state ≡ answer.0 = ap (state_in state) h in
    record { lines = []; end = border state.names at []; stand = refl; nothing_more = refl; state_is = sym same ∙ sym (nothing_added state) }
lines_so zero state at (one ∷ left) answer few h = absurd (omega (arith, few))
lines_so (suc most) state at (one ∷ left) answer few h =
    let r = line_so state at one left answer h in
    let less = r.less in
    let later = lines_so most (with_lines state (r.line ∷ []) r.to.names) r.to.at r.to.left answer (omega (arith, few, less)) r.goes in
    record {
      lines = r.line ∷ later.lines;
      end = later.end;
      stand = (r.to, r.stands, later.stand);
      nothing_more = later.nothing_more;
      state_is = later.state_is ∙ added_more state r.line later.lines r.to.names later.end.names;
    }
