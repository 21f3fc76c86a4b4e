-- Jobs: what is read is spelled so, and what is spelled so is read.
use Rattle.std.proofs.Common.{◌≡◌, ℕ, ◌+◌, ◌-◌, pos, Bool, true, false, cond, List, [], ◌∷◌, drop, length, refl, sym, ap, subst, ◌∙◌, arith, length-append, Option, Some, None, Result, Ok, Err}
use Rattle.std.specs.Prelude.{codes, ◌==◌}
use Rattle.std.specs.Option.{option_map, option_or}
use Rattle.std.proofs.lemmas.Bool.{eq-eqb}
use Rattle.std.proofs.lemmas.List.{drop-drop}
use Rattle.std.proofs.Math.Seq.{drop-append_seam}
use Rattle.sk_base.specs.Answer.{◌>>=◌}
use Rattle.sk_lex.specs.Run.{Rules, ended}
use Rattle.sk_lex.specs.Symbols.{Symbol, Named, Plain, number_of}
use Rattle.sk_lex.specs.declared.token.TokenKind.TheVariants as token
use Rattle.sk_def.specs.declared.def.Def.{Def}
use Rattle.sk_term.specs.Reading.{ReadTerm, read_term}
use Rattle.sk_term.specs.declared.fault.TermError.{TermError}
use Rattle.sk_term.specs.declared.node.TermNode.{TermNode}
use Rattle.sk_deriv.specs.Reading.{read_tuple}
use Rattle.sk_lattice.specs.Domain.{Domain}
use Rattle.sk_lattice.specs.DomainTexts.{DomainTexts}
use Rattle.sk_sign.specs.Signs.{sign_domain}
use Rattle.sk_sign.specs.Texts.{sign_texts}
use Rattle.sk_interval.specs.Intervals.{interval_domain}
use Rattle.sk_interval.specs.Texts.{interval_texts}
use Rattle.sk_table.specs.declared.triple.Cover.{Cover}
use Rattle.sk_bench.specs.declared.job.Start.{Start}
use Rattle.sk_bench.specs.Jobs.{Lines, Met, ReadJob, heading, is_one, is_word, job_of, line_rules, mark, no_lines, one_at, padded_start, read_lines, read_symbols, termed, word_at}
use Rattle.sk_spell.proofs.JobFound.{Border, CoverLine, CoverStands, JobIsSpelled, LinesStand, OfInterval, OfSign, StartStands, TermStands, past}
use Rattle.sk_spell.proofs.JobCalls.{border, call_place, given, made_abstract, made_tuple, reads_abstract}
use Rattle.sk_spell.proofs.JobLines.{LinesRead, at_first, first_is, go, lines_so, with_lines}
use Rattle.sk_spell.proofs.JobMarks.{mark_so, one_so, placed_so, word_so}
use Rattle.sk_spell.proofs.JobReaders.{abstract_within, between, bound_so, term_within, tuple_within}
use Rattle.sk_spell.proofs.JobSpelled.{lines_are}
use Rattle.sk_spell.proofs.JobStarts.{FirstRead, first_are, first_so, with_start}

-- The heading.

abbrev headed_by : List Symbol → List Symbol
headed_by program = Named (codes "job") ∷ Plain (token.Number (pos 1)) ∷ Named (codes "program") ∷ program

heading_so : (symbols : List Symbol) → heading symbols ≡ Ok tt → (program : List Symbol) × (symbols ≡ headed_by program)
unfolding heading
heading_so [] h = absurd (cc h)
heading_so (one ∷ []) h =
    let b = bound_so (word_at 0 (codes "job") (one ∷ [])) (λ job. one_at 1 [] >>= λ number. word_at 2 (codes "program") []) tt h in
    absurd (cc b.2)
heading_so (one ∷ two ∷ []) h =
    let b = bound_so (word_at 0 (codes "job") (one ∷ two ∷ [])) (λ job. one_at 1 (two ∷ []) >>= λ number. word_at 2 (codes "program") []) tt h in
    let c = bound_so (one_at 1 (two ∷ [])) (λ number. word_at 2 (codes "program") []) tt b.2 in
    absurd (cc c.2)
heading_so (one ∷ two ∷ three ∷ program) h =
    let b = bound_so (word_at 0 (codes "job") (one ∷ two ∷ three ∷ program)) (λ job. one_at 1 (two ∷ three ∷ program) >>= λ number. word_at 2 (codes "program") (three ∷ program)) tt h in
    let c = bound_so (one_at 1 (two ∷ three ∷ program)) (λ number. word_at 2 (codes "program") (three ∷ program)) tt b.2 in
    let first = word_so (codes "job") one (mark_so (is_word (codes "job") one) (placed_so 0 (mark (is_word (codes "job") one)) tt b.1)) in
    let second = one_so two (mark_so (is_one (number_of two)) (placed_so 1 (mark (is_one (number_of two))) tt c.1)) in
    let third = word_so (codes "program") three (mark_so (is_word (codes "program") three) (placed_so 2 (mark (is_word (codes "program") three)) tt c.2)) in
    (program, ap (λ s. s ∷ two ∷ three ∷ program) first ∙ ap (λ s. Named (codes "job") ∷ s ∷ three ∷ program) second ∙ ap (λ s. Named (codes "job") ∷ Plain (token.Number (pos 1)) ∷ s ∷ program) third)

heading_is : (program : List Symbol) → heading (headed_by program) ≡ Ok tt
unfolding heading is_one
heading_is program = refl

-- The program's term.

termed_so : (r : Result (ReadTerm × ℕ) (TermError × ℕ)) (x : ReadTerm × ℕ) → termed r ≡ Ok x → r ≡ Ok x
termed_so (Ok y) x h = let same : y ≡ x = cc h in ap (λ v. Ok v) same
termed_so (Err (error, place)) x h = absurd (cc h)

term_stands : (d : Def) (symbols program : List Symbol) (term : ReadTerm × ℕ) → symbols ≡ headed_by program → read_term d [] 3 (drop 3 symbols) ≡ Ok term →
    TermStands d (border [] 3 program) term.0.nodes (border term.0.names term.1 (drop term.1 symbols))
term_stands d symbols program term e h =
    let rest : drop 3 symbols ≡ program = ap (drop 3) e in
    let there : read_term d [] 3 program ≡ Ok term = ap (read_term d [] 3) (sym rest) ∙ h in
    let within = term_within d [] 3 program term.0 term.1 there in
    let place : 3 + (term.1 - 3) ≡ term.1 = omega (arith, within.0) in
    let same : drop (term.1 - 3) program ≡ drop term.1 symbols = ap (drop (term.1 - 3)) (sym rest) ∙ drop-drop (term.1 - 3) 3 symbols ∙ ap (λ n. drop n symbols) place in
    subst (λ left. TermStands d (border [] 3 program) term.0.nodes (border term.0.names term.1 left)) same (between (read_term d [] 3 program) term.0 (border [] 3 program) term.1 term.0.names there within)

-- The whole.

ended_so : {E S C : Type 0} (rules : Rules E S C) (count : ℕ) (r : Result (S × ℕ) (C × ℕ)) (end : S) → ended rules count r ≡ Ok end → (place : ℕ) × (r ≡ Ok (end, place))
ended_so {S = S} {C = C} rules count (Ok (state, place)) end h = by (place == count) h where
  by : (b : Bool) → cond {A = Result S (C × ℕ)} b (Ok state) (Err (rules.unexpected, place)) ≡ Ok end → (at : ℕ) × (given {A = S} {E = C × ℕ} state place ≡ given end at)
  by true k = let same : state ≡ end = cc k in (place, ap (λ (s : S). given {A = S} {E = C × ℕ} s place) same)
  by false k = absurd (cc k)
ended_so rules count (Err bad) end h = absurd (cc h)

or_none : (start : Option Start) → option_or start None ≡ start
or_none None = refl
or_none (Some start) = refl

abbrev read_all : Def → ReadTerm → Option Start → List (List ℕ) → List CoverLine → List (List ℕ) → Lines
read_all d term start names lines more = with_lines (with_start (no_lines d term) start names) lines more

job_spelled : (d : Def) (symbols program : List Symbol) (term : ReadTerm) (after_program after_start end : Border) (start : Option Start) (lines : List CoverLine) →
    symbols ≡ headed_by program → TermStands d (border [] 3 program) term.nodes after_program → StartStands d term.nodes after_program start after_start → LinesStand d term.nodes after_start lines end → end.left ≡ [] →
    JobIsSpelled d symbols (job_of (read_all d term start after_start.names lines end.names))
job_spelled d symbols program term after_program after_start end start lines e t s l n = record {
  program = program;
  start = start;
  covers = lines;
  after_program = after_program;
  after_start = after_start;
  end = end;
  symbols_are = e;
  program_stands = t;
  start_stands = s;
  covers_stand = l;
  nothing_more = n;
  names_are = refl;
  start_is = ap (option_map (padded_start (length end.names))) (or_none start);
  sign_is = refl;
  interval_is = refl;
}

abbrev job_in : ReadJob → Met ReadJob → ReadJob
job_in other (Ok job) = job
job_in other (Err bad) = other

-- what was read is the job of these lines
same_job : (d : Def) (symbols : List Symbol) (state read : Lines) (job : ReadJob) → JobIsSpelled d symbols (job_of read) → state ≡ read → job_of state ≡ job → JobIsSpelled d symbols job
same_job d symbols state read job s e j = subst (JobIsSpelled d symbols) (ap job_of (sym e) ∙ j) s

lines_found : (d : Def) (symbols program : List Symbol) (term : ReadTerm × ℕ) (answer : Lines × ℕ) (job : ReadJob) → symbols ≡ headed_by program → read_term d [] 3 (drop 3 symbols) ≡ Ok term →
    (f : FirstRead (no_lines d term.0) term.1 (drop term.1 symbols) answer) → LinesRead (with_start (no_lines d term.0) f.start f.to.names) f.to.at f.to.left answer → job_of answer.0 ≡ job → JobIsSpelled d symbols job
lines_found d symbols program term answer job e t f c j =
    let spelled = job_spelled d symbols program term.0 (border term.0.names term.1 (drop term.1 symbols)) f.to c.end f.start c.lines e (term_stands d symbols program term e t) f.stands c.stand c.nothing_more in
    same_job d symbols answer.0 (read_all d term.0 f.start f.to.names c.lines c.end.names) job spelled c.state_is j

first_found : (d : Def) (symbols program : List Symbol) (term : ReadTerm × ℕ) (answer : Lines × ℕ) (job : ReadJob) → symbols ≡ headed_by program → read_term d [] 3 (drop 3 symbols) ≡ Ok term →
    FirstRead (no_lines d term.0) term.1 (drop term.1 symbols) answer → job_of answer.0 ≡ job → JobIsSpelled d symbols job
first_found d symbols program term answer job e t f j =
    lines_found d symbols program term answer job e t f (lines_so (length f.to.left) (with_start (no_lines d term.0) f.start f.to.names) f.to.at f.to.left answer (omega arith) f.goes) j

rest_so : (d : Def) (symbols program : List Symbol) (term : ReadTerm × ℕ) (state : Lines) (job : ReadJob) → symbols ≡ headed_by program → read_term d [] 3 (drop 3 symbols) ≡ Ok term → read_lines d symbols term ≡ Ok state →
    job_of state ≡ job → JobIsSpelled d symbols job
rest_so d symbols program term state job e t l j =
    let r = ended_so line_rules (length symbols) (go term.1 at_first (no_lines d term.0) (drop term.1 symbols)) state (sym (first_is.1 d symbols term) ∙ l) in
    first_found d symbols program term (state, r.0) job e t (first_so (no_lines d term.0) term.1 (drop term.1 symbols) (state, r.0) r.1) j

pub job_so : (d : Def) (symbols : List Symbol) (job : ReadJob) → read_symbols d symbols ≡ Ok job → JobIsSpelled d symbols job
unfolding read_symbols
job_so d symbols job h =
    let a = bound_so (heading symbols) (λ head. termed (read_term d [] 3 (drop 3 symbols)) >>= λ term. read_lines d symbols term >>= λ state. Ok (job_of state)) job h in
    let b = bound_so (termed (read_term d [] 3 (drop 3 symbols))) (λ term. read_lines d symbols term >>= λ state. Ok (job_of state)) job a.2 in
    let c = bound_so (read_lines d symbols b.0) (λ state. Ok (job_of state)) job b.2 in
    let head = heading_so symbols a.1 in
    rest_so d symbols head.0 b.0 c.0 job head.1 (termed_so (read_term d [] 3 (drop 3 symbols)) b.0 b.1) c.1 (ap (job_in job) c.2)

-- Places.

cover_place : {D : Type 0} (domain : Domain D) (texts : DomainTexts D) (d : Def) (nodes : List TermNode) (from : Border) (cover : Cover D) (to : Border) → CoverStands domain texts d nodes from cover to →
    to.at + length to.left ≡ from.at + length from.left
cover_place domain texts d nodes from cover to s =
    omega (arith, ap length s.symbols_are, call_place (reads_abstract domain texts) made_abstract (abstract_within domain texts false) d nodes (past from 2 s.call) cover.hook cover.point cover.ins to s.call_is)

start_place : (d : Def) (nodes : List TermNode) (from : Border) (start : Option Start) (to : Border) → StartStands d nodes from start to → to.at + length to.left ≡ from.at + length from.left
start_place d nodes from None to s = ap (λ (b : Border). b.at + length b.left) s
start_place d nodes from (Some start) to s =
    omega (arith, ap length s.symbols_are, call_place read_tuple made_tuple tuple_within d nodes (past from 1 s.call) start.hook start.point start.ins to s.call_is)

lines_place : (d : Def) (nodes : List TermNode) (from : Border) (lines : List CoverLine) (to : Border) → LinesStand d nodes from lines to → to.at + length to.left ≡ from.at + length from.left
lines_place d nodes from [] to s = ap (λ (b : Border). b.at + length b.left) s
lines_place d nodes from (OfSign cover ∷ lines) to s = lines_place d nodes s.0 lines to s.2 ∙ cover_place sign_domain sign_texts d nodes from cover s.0 s.1
lines_place d nodes from (OfInterval cover ∷ lines) to s = lines_place d nodes s.0 lines to s.2 ∙ cover_place interval_domain interval_texts d nodes from cover s.0 s.1

-- Spelled jobs are read.

module _ (d : Def) (symbols : List Symbol) (job : ReadJob) (s : JobIsSpelled d symbols job) where
  abbrev term : ReadTerm
  term = record { nodes = job.nodes; names = s.after_program.names }

  abbrev state : Lines
  state = read_all d term s.start s.after_start.names s.covers s.end.names

  job_is : job_of state ≡ job
  job_is =
      let start : option_map (padded_start (length s.end.names)) (option_or s.start None) ≡ job.start = ap (option_map (padded_start (length s.end.names))) (or_none s.start) ∙ sym s.start_is in
      let names = sym s.names_are in
      let sign = sym s.sign_is in
      let interval = sym s.interval_is in
      λ i. record { nodes = job.nodes; names = names i; start = start i; sign = sign i; interval = interval i }

  program_is : drop 3 symbols ≡ s.program
  program_is = ap (drop 3) s.symbols_are

  term_is : read_term d [] 3 (drop 3 symbols) ≡ Ok (term, s.after_program.at)
  term_is = ap (read_term d [] 3) program_is ∙ s.program_stands.found_is

  left_is : drop s.after_program.at symbols ≡ s.after_program.left
  left_is =
      let own = s.program_stands.own in
      let place : s.after_program.at ≡ 3 + length own = s.program_stands.place_is in
      ap (λ n. drop n symbols) place ∙ sym (drop-drop (length own) 3 symbols) ∙ ap (drop (length own)) (program_is ∙ s.program_stands.symbols_are) ∙ drop-append_seam own s.after_program.left

  place_is : s.end.at ≡ length symbols
  place_is =
      let p = s.program_stands in
      omega (
        arith,
        lines_place d job.nodes s.after_start s.covers s.end s.covers_stand,
        start_place d job.nodes s.after_program s.start s.after_start s.start_stands,
        p.place_is,
        ap length p.symbols_are,
        length-append p.own s.after_program.left,
        ap length s.symbols_are,
        ap length s.nothing_more,
      )

  whole : (at count : ℕ) → at ≡ count → ended line_rules count (Ok (state, at)) ≡ Ok state
  whole at count e = ap (λ b. cond {A = Met Lines} b (Ok state) (Err (line_rules.unexpected, at))) (eq-eqb at count e)

  lines_is : read_lines d symbols (term, s.after_program.at) ≡ Ok state
  lines_is =
      let begin = no_lines d term in
      first_is.1 d symbols (term, s.after_program.at)
      ∙ ap (λ left. ended line_rules (length symbols) (go s.after_program.at at_first begin left)) left_is
      ∙ ap (ended line_rules (length symbols)) (first_are begin s.after_program s.start s.after_start s.covers s.end refl s.start_stands s.covers_stand s.nothing_more)
      ∙ ap (ended line_rules (length symbols)) (lines_are (with_start begin s.start s.after_start.names) s.after_start s.covers s.end refl s.covers_stand s.nothing_more)
      ∙ whole s.end.at (length symbols) place_is

  pub job_are : read_symbols d symbols ≡ Ok job
  unfolding read_symbols
  job_are =
      let head : heading symbols ≡ Ok tt = ap heading s.symbols_are ∙ heading_is s.program in
      ap (λ r. r >>= λ one. termed (read_term d [] 3 (drop 3 symbols)) >>= λ term. read_lines d symbols term >>= λ state. Ok (job_of state)) head
      ∙ ap (λ r. termed r >>= λ term. read_lines d symbols term >>= λ state. Ok (job_of state)) term_is
      ∙ ap (λ r. r >>= λ state. Ok (job_of state)) lines_is ∙ ap (λ j. Ok j) job_is
