-- What the readers of the lower grammars find is what is spelled there, so jobs are read exactly where they are spelled.
use Rattle.std.proofs.Common.{ℕ, false, List, [], ◌∷◌, ◌++◌, length, sym, ap, subst, ◌∙◌, arith, length-append, Option, Some, None}
use Rattle.std.specs.List.{IsDistinct}
use Rattle.std.specs.Str.{bytes_eq}
use Rattle.sk_base.specs.declared.flow.FlowSort.{FlowSort}
use Rattle.sk_lex.specs.Symbols.{Symbol}
use Rattle.sk_def.specs.declared.def.Def.{Def}
use Rattle.sk_def.specs.declared.ids.HookId.{HookId}
use Rattle.sk_term.specs.Spelling.{ConstructorsAreFound, OnlyTermsAreRead, TermsAreReadExactly}
use Rattle.sk_term.specs.Spelling as term
use Rattle.sk_term.specs.declared.node.TermNode.{TermNode}
use Rattle.sk_term.proofs.Words.{words_differ}
use Rattle.sk_value.specs.declared.flow.Flow.{Flow}
use Rattle.sk_lattice.specs.Domain.{Domain}
use Rattle.sk_lattice.specs.DomainTexts.{DomainTexts}
use Rattle.sk_lattice.specs.declared.flow.AbsFlow.{AbsFlow}
use Rattle.sk_sign.specs.Signs.{sign_domain}
use Rattle.sk_sign.specs.Texts.{sign_texts}
use Rattle.sk_interval.specs.Intervals.{interval_domain}
use Rattle.sk_interval.specs.Texts.{interval_texts}
use Rattle.sk_table.specs.declared.triple.Cover.{Cover}
use Rattle.sk_bench.specs.declared.job.Start.{Start}
use Rattle.sk_bench.specs.Jobs.{ReadJob}
use Rattle.sk_spell.specs.AbsTupleSpelling.{AbsTuplesAreReadExactly}
use Rattle.sk_spell.specs.JobSpelling.{AbstractStands, Border, CallStands, CoverLine, CoverStands, JobIsSpelled, JobsAreReadExactly, LinesStand, OfInterval, OfSign, OnlyJobsAreRead, StartStands, TermStands, TupleStands, past}
use Rattle.sk_spell.specs.TupleSpelling.{TuplesAreReadExactly}
use Rattle.sk_spell.specs.TupleSpelling as tuple
use Rattle.sk_spell.proofs.JobFound as found
use Rattle.sk_spell.proofs.JobSuffix.{same_left, tuple_ends}
use Rattle.sk_spell.proofs.JobWhole.{job_are, job_so}

-- the names that stand there are different words
abbrev Different : Border → Type 0
Different from = IsDistinct bytes_eq from.names

-- Terms.

module _ (d : Def) (from : Border) (nodes : List TermNode) (to : Border) where
  term_spelled : OnlyTermsAreRead → found.TermStands d from nodes to → TermStands d from nodes to
  term_spelled only f =
      let b = only d from.names from.at from.left (record { nodes = nodes; names = to.names }) to.at f.found_is in
      let own = term.spelling d to.names b.whole in (
        b,
        same_left f.own own to.left b.left (sym f.symbols_are ∙ b.symbols_are)
            (omega (arith, f.place_is, b.end_is, ap length f.symbols_are, ap length b.symbols_are, length-append f.own to.left, length-append own b.left)),
      )

  term_found : TermsAreReadExactly → ConstructorsAreFound d → Different from → TermStands d from nodes to → found.TermStands d from nodes to
  term_found exactly constructors different s =
      let b = s.0 in
      let own = term.spelling d to.names b.whole in
      record {
        own = own;
        symbols_are = b.symbols_are ∙ ap (λ left. own ++ left) (sym s.1);
        place_is = b.end_is;
        found_is = (exactly d from.names from.at from.left (record { nodes = nodes; names = to.names }) to.at constructors different).1 b;
      }

  term_differ : Different from → TermStands d from nodes to → Different to
  term_differ different s = words_differ from.names (term.words to.names s.0.whole) to.names s.0.names_are different

-- Tuples of values.

module _ (exactly : TuplesAreReadExactly) (sorts : List FlowSort) (from : Border) (ins : List Flow) (to : Border) (different : Different from) where
  tuple_spelled : found.TupleStands sorts from ins to → TupleStands sorts from ins to
  tuple_spelled f =
      let b = (exactly sorts from.names from.at from.left (record { tuple = ins; names = to.names }) to.at different).0 f.found_is in
      let own = tuple.spelling b.values in (
        b,
        same_left f.own own to.left b.left (sym f.symbols_are ∙ b.symbols_are)
            (omega (arith, f.place_is, b.end_is, ap length f.symbols_are, ap length b.symbols_are, length-append f.own to.left, length-append own b.left)),
      )

  tuple_found : TupleStands sorts from ins to → found.TupleStands sorts from ins to
  tuple_found s =
      let b = s.0 in
      let own = tuple.spelling b.values in
      record {
        own = own;
        symbols_are = b.symbols_are ∙ ap (λ left. own ++ left) (sym s.1);
        place_is = b.end_is;
        found_is = (exactly sorts from.names from.at from.left (record { tuple = ins; names = to.names }) to.at different).1 b;
      }

  tuple_differ : TupleStands sorts from ins to → Different to
  tuple_differ s = words_differ from.names _ to.names s.0.names_are different

-- Abstract tuples.

module _ {D : Type 0} (domain : Domain D) (texts : DomainTexts D) (exactly : AbsTuplesAreReadExactly domain texts) (sorts : List FlowSort) (from : Border) (ins : List (AbsFlow D)) (to : Border) (different : Different from) where
  abstract_spelled : found.AbstractStands domain texts sorts from ins to → AbstractStands domain texts sorts from ins to
  abstract_spelled f =
      let b = (exactly false sorts from.names from.at from.left (record { tuple = ins; names = to.names }) to.at different).0 f.found_is in
      let e = tuple_ends texts domain false sorts from.names (record { tuple = ins; names = to.names }) from.left b.left b.spells in
      (b, same_left f.own e.0 to.left b.left (sym f.symbols_are ∙ e.1) (omega (arith, f.place_is, b.end_is, ap length f.symbols_are, length-append f.own to.left)))

  abstract_found : AbstractStands domain texts sorts from ins to → found.AbstractStands domain texts sorts from ins to
  abstract_found s =
      let b = s.0 in
      let e = tuple_ends texts domain false sorts from.names (record { tuple = ins; names = to.names }) from.left b.left b.spells in
      record {
        own = e.0;
        symbols_are = e.1 ∙ ap (λ left. e.0 ++ left) (sym s.1);
        place_is = omega (arith, b.end_is, ap length e.1, length-append e.0 b.left);
        found_is = (exactly false sorts from.names from.at from.left (record { tuple = ins; names = to.names }) to.at different).1 b;
      }

  abstract_differ : AbstractStands domain texts sorts from ins to → Different to
  abstract_differ s = words_differ from.names _ to.names s.0.spells.names_are different

-- Calls.

call_as : {X : Type 0} (I J : List FlowSort → Border → List X → Border → Type 0) (d : Def) (nodes : List TermNode) (from : Border) (hook : HookId) (point : ℕ) (ins : List X) (to : Border) (c : CallStands I d nodes from hook point ins to) →
    J c.declared.inputs (past from 2 c.inside) ins to → CallStands J d nodes from hook point ins to
call_as I J d nodes from hook point ins to c j = record {
  declared = c.declared;
  inside = c.inside;
  call = c.call;
  inputs_are = j;
}

-- Lines.

module _ (d : Def) (nodes : List TermNode) (tuples : TuplesAreReadExactly) where
  start_spelled : (from : Border) (start : Option Start) (to : Border) → Different from → found.StartStands d nodes from start to → StartStands d nodes from start to
  start_spelled from None to different s = s
  start_spelled from (Some start) to different s =
      let c = s.call_is in
      let i = tuple_spelled tuples c.declared.inputs (past (past from 1 s.call) 2 c.inside) start.ins to different c.inputs_are in
      record { call = s.call; symbols_are = s.symbols_are; call_is = call_as found.TupleStands TupleStands d nodes (past from 1 s.call) start.hook start.point start.ins to c i }

  start_found : (from : Border) (start : Option Start) (to : Border) → Different from → StartStands d nodes from start to → found.StartStands d nodes from start to
  start_found from None to different s = s
  start_found from (Some start) to different s =
      let c = s.call_is in
      let i = tuple_found tuples c.declared.inputs (past (past from 1 s.call) 2 c.inside) start.ins to different c.inputs_are in
      record { call = s.call; symbols_are = s.symbols_are; call_is = call_as TupleStands found.TupleStands d nodes (past from 1 s.call) start.hook start.point start.ins to c i }

  start_differ : (from : Border) (start : Option Start) (to : Border) → Different from → StartStands d nodes from start to → Different to
  start_differ from None to different s = subst Different (sym s) different
  start_differ from (Some start) to different s =
      let c = s.call_is in
      tuple_differ tuples c.declared.inputs (past (past from 1 s.call) 2 c.inside) start.ins to different c.inputs_are

module _ {D : Type 0} (domain : Domain D) (texts : DomainTexts D) (exactly : AbsTuplesAreReadExactly domain texts) (d : Def) (nodes : List TermNode) (from : Border) (cover : Cover D) (to : Border) (different : Different from) where
  cover_spelled : found.CoverStands domain texts d nodes from cover to → CoverStands domain texts d nodes from cover to
  cover_spelled s =
      let c = s.call_is in
      let i = abstract_spelled domain texts exactly c.declared.inputs (past (past from 2 s.call) 2 c.inside) cover.ins to different c.inputs_are in
      record { call = s.call; symbols_are = s.symbols_are; call_is = call_as (found.AbstractStands domain texts) (AbstractStands domain texts) d nodes (past from 2 s.call) cover.hook cover.point cover.ins to c i }

  cover_found : CoverStands domain texts d nodes from cover to → found.CoverStands domain texts d nodes from cover to
  cover_found s =
      let c = s.call_is in
      let i = abstract_found domain texts exactly c.declared.inputs (past (past from 2 s.call) 2 c.inside) cover.ins to different c.inputs_are in
      record { call = s.call; symbols_are = s.symbols_are; call_is = call_as (AbstractStands domain texts) (found.AbstractStands domain texts) d nodes (past from 2 s.call) cover.hook cover.point cover.ins to c i }

  cover_differ : CoverStands domain texts d nodes from cover to → Different to
  cover_differ s =
      let c = s.call_is in
      abstract_differ domain texts exactly c.declared.inputs (past (past from 2 s.call) 2 c.inside) cover.ins to different c.inputs_are

module _ (d : Def) (nodes : List TermNode) (signs : AbsTuplesAreReadExactly sign_domain sign_texts) (intervals : AbsTuplesAreReadExactly interval_domain interval_texts) where
  lines_spelled : (from : Border) (lines : List CoverLine) (to : Border) → Different from → found.LinesStand d nodes from lines to → LinesStand d nodes from lines to
  lines_spelled from [] to different s = s
  lines_spelled from (OfSign cover ∷ lines) to different s =
      let line = cover_spelled sign_domain sign_texts signs d nodes from cover s.0 different s.1 in
      (s.0, line, lines_spelled s.0 lines to (cover_differ sign_domain sign_texts signs d nodes from cover s.0 different line) s.2)
  lines_spelled from (OfInterval cover ∷ lines) to different s =
      let line = cover_spelled interval_domain interval_texts intervals d nodes from cover s.0 different s.1 in
      (s.0, line, lines_spelled s.0 lines to (cover_differ interval_domain interval_texts intervals d nodes from cover s.0 different line) s.2)

  lines_found : (from : Border) (lines : List CoverLine) (to : Border) → Different from → LinesStand d nodes from lines to → found.LinesStand d nodes from lines to
  lines_found from [] to different s = s
  lines_found from (OfSign cover ∷ lines) to different s =
      let line = cover_found sign_domain sign_texts signs d nodes from cover s.0 different s.1 in
      (s.0, line, lines_found s.0 lines to (cover_differ sign_domain sign_texts signs d nodes from cover s.0 different s.1) s.2)
  lines_found from (OfInterval cover ∷ lines) to different s =
      let line = cover_found interval_domain interval_texts intervals d nodes from cover s.0 different s.1 in
      (s.0, line, lines_found s.0 lines to (cover_differ interval_domain interval_texts intervals d nodes from cover s.0 different s.1) s.2)

-- Jobs.

no_names : IsDistinct bytes_eq []
unfolding IsDistinct
no_names = tt

module _ (only : OnlyTermsAreRead) (tuples : TuplesAreReadExactly) (signs : AbsTuplesAreReadExactly sign_domain sign_texts) (intervals : AbsTuplesAreReadExactly interval_domain interval_texts) where
  spelled_from : (d : Def) (symbols : List Symbol) (job : ReadJob) → found.JobIsSpelled d symbols job → JobIsSpelled d symbols job
  spelled_from d symbols job f =
      let begin : Border = record { names = []; at = 3; left = f.program } in
      let program = term_spelled d begin job.nodes f.after_program only f.program_stands in
      let program_differ = term_differ d begin job.nodes f.after_program no_names program in
      let start = start_spelled d job.nodes tuples f.after_program f.start f.after_start program_differ f.start_stands in
      let start_differ = start_differ d job.nodes tuples f.after_program f.start f.after_start program_differ start in
      record {
        program = f.program;
        start = f.start;
        covers = f.covers;
        after_program = f.after_program;
        after_start = f.after_start;
        end = f.end;
        symbols_are = f.symbols_are;
        program_stands = program;
        start_stands = start;
        covers_stand = lines_spelled d job.nodes signs intervals f.after_start f.covers f.end start_differ f.covers_stand;
        nothing_more = f.nothing_more;
        names_are = f.names_are;
        start_is = f.start_is;
        sign_is = f.sign_is;
        interval_is = f.interval_is;
      }

  found_from : TermsAreReadExactly → (d : Def) (symbols : List Symbol) (job : ReadJob) → ConstructorsAreFound d → JobIsSpelled d symbols job → found.JobIsSpelled d symbols job
  found_from terms d symbols job constructors s =
      let begin : Border = record { names = []; at = 3; left = s.program } in
      let program_differ = term_differ d begin job.nodes s.after_program no_names s.program_stands in
      let start_differ = start_differ d job.nodes tuples s.after_program s.start s.after_start program_differ s.start_stands in
      record {
        program = s.program;
        start = s.start;
        covers = s.covers;
        after_program = s.after_program;
        after_start = s.after_start;
        end = s.end;
        symbols_are = s.symbols_are;
        program_stands = term_found d begin job.nodes s.after_program terms constructors no_names s.program_stands;
        start_stands = start_found d job.nodes tuples s.after_program s.start s.after_start program_differ s.start_stands;
        covers_stand = lines_found d job.nodes signs intervals s.after_start s.covers s.end start_differ s.covers_stand;
        nothing_more = s.nothing_more;
        names_are = s.names_are;
        start_is = s.start_is;
        sign_is = s.sign_is;
        interval_is = s.interval_is;
      }

  pub only_jobs : OnlyJobsAreRead
  only_jobs d symbols job h = spelled_from d symbols job (job_so d symbols job h)

  pub jobs_exactly : TermsAreReadExactly → JobsAreReadExactly
  jobs_exactly terms d symbols job constructors = (only_jobs d symbols job, λ s. job_are d symbols job (found_from terms d symbols job constructors s))
