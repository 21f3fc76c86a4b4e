-- Jobs by what the readers of the grammars below find: the same as their spelling, with a reader's answer in the place of each
-- lower part's spelling.
use Rattle.std.specs.Prelude.{◌≡◌, ℕ, ◌+◌, pos, false, List, [], ◌∷◌, ◌++◌, length, map, codes, Option, Some, None, Result, Ok}
use Rattle.std.specs.List.{filter_map}
use Rattle.std.specs.Option.{option_map}
use Rattle.sk_base.specs.declared.flow.FlowSort.{FlowSort}
use Rattle.sk_lex.specs.Symbols.{Symbol, Named, Plain}
use Rattle.sk_lex.specs.declared.token.TokenKind.TheVariants as token
use Rattle.sk_def.specs.declared.def.Def.{Def}
use Rattle.sk_term.specs.Reading.{read_term}
use Rattle.sk_term.specs.declared.node.TermNode.{TermNode}
use Rattle.sk_value.specs.declared.flow.Flow.{Flow}
use Rattle.sk_deriv.specs.Reading.{read_tuple}
use Rattle.sk_lattice.specs.Domain.{Domain}
use Rattle.sk_lattice.specs.DomainTexts.{DomainTexts}
use Rattle.sk_lattice.specs.declared.flow.AbsFlow.{AbsFlow}
use Rattle.sk_sign.specs.Signs.{sign_domain}
use Rattle.sk_sign.specs.Texts.{sign_texts}
use Rattle.sk_interval.specs.Intervals.{interval_domain}
use Rattle.sk_interval.specs.Texts.{interval_texts}
use Rattle.sk_table.specs.Tuples as abstract
use Rattle.sk_table.specs.declared.triple.Cover.{Cover}
use Rattle.sk_bench.specs.declared.job.Start.{Start}
use Rattle.sk_bench.specs.Jobs.{ReadJob, padded_start, padded_cover}
pub use Rattle.sk_spell.specs.JobSpelling.{Border, CallStands, CoverLine, OfInterval, OfSign, interval_cover, past, sign_cover}

-- The symbols between two places are just those in which a reader of the grammar below finds a value.
pub record Between {A E : Type 0} (found : Result (A × ℕ) E) (value : A) (from to : Border) : Type 0 where
  pub own : List Symbol
  pub symbols_are : from.left ≡ own ++ to.left
  pub place_is : to.at ≡ from.at + length own
  pub found_is : found ≡ Ok (value, to.at)

-- the symbols of a term with these nodes
abbrev pub TermStands : Def → Border → List TermNode → Border → Type 0
TermStands d from nodes to = Between (read_term d from.names from.at from.left) (record { nodes = nodes; names = to.names }) from to

-- those of a tuple of values of these sorts
abbrev pub TupleStands : List FlowSort → Border → List Flow → Border → Type 0
TupleStands sorts from tuple to = Between (read_tuple sorts from.names from.at from.left) (record { tuple = tuple; names = to.names }) from to

-- those of an abstract tuple of these sorts
abbrev pub AbstractStands : {D : Type 0} → Domain D → DomainTexts D → List FlowSort → Border → List (AbsFlow D) → Border → Type 0
AbstractStands domain texts sorts from tuple to =
    Between (abstract.read_tuple domain texts false sorts from.names from.at from.left) (record { tuple = tuple; names = to.names }) from to

-- The start line: `start` and a call.
pub record StartLine (d : Def) (nodes : List TermNode) (from : Border) (start : Start) (to : Border) : Type 0 where
  pub call : List Symbol
  pub symbols_are : from.left ≡ Named (codes "start") ∷ call
  pub call_is : CallStands TupleStands d nodes (past from 1 call) start.hook start.point start.ins to

-- at most one start line
abbrev pub StartStands : Def → List TermNode → Border → Option Start → Border → Type 0
StartStands d nodes from None to = to ≡ from
StartStands d nodes from (Some start) to = StartLine d nodes from start to

-- A cover line of a domain: `cover`, the domain's word and a call with abstract inputs.
pub record CoverStands {D : Type 0} (domain : Domain D) (texts : DomainTexts D) (d : Def) (nodes : List TermNode) (from : Border) (cover : Cover D) (to : Border) : Type 0 where
  pub call : List Symbol
  pub symbols_are : from.left ≡ Named (codes "cover") ∷ Named texts.word ∷ call
  pub call_is : CallStands (AbstractStands domain texts) d nodes (past from 2 call) cover.hook cover.point cover.ins to

abbrev pub LineStands : Def → List TermNode → Border → CoverLine → Border → Type 0
LineStands d nodes from (OfSign cover) to = CoverStands sign_domain sign_texts d nodes from cover to
LineStands d nodes from (OfInterval cover) to = CoverStands interval_domain interval_texts d nodes from cover to

-- cover lines, one after the other
abbrev pub LinesStand : Def → List TermNode → Border → List CoverLine → Border → Type 0
LinesStand d nodes from [] to = to ≡ from
LinesStand d nodes from (line ∷ lines) to = (next : Border) × LineStands d nodes from line next × LinesStand d nodes next lines to

-- Symbols are those of a job: `job 1 program`, the program's term, at most one start line, cover lines of both domains, and
-- none after them. No names stand before the program; those at the end are the job's, and its stores are over all of them.
pub record JobIsSpelled (d : Def) (symbols : List Symbol) (job : ReadJob) : Type 0 where
  pub program : List Symbol
  pub start : Option Start
  pub covers : List CoverLine
  pub after_program : Border
  pub after_start : Border
  pub end : Border
  pub symbols_are : symbols ≡ Named (codes "job") ∷ Plain (token.Number (pos 1)) ∷ Named (codes "program") ∷ program
  pub program_stands : TermStands d (record { names = []; at = 3; left = program }) job.nodes after_program
  pub start_stands : StartStands d job.nodes after_program start after_start
  pub covers_stand : LinesStand d job.nodes after_start covers end
  pub nothing_more : end.left ≡ []
  pub names_are : job.names ≡ end.names
  pub start_is : job.start ≡ option_map (padded_start (length end.names)) start
  pub sign_is : job.sign ≡ map (padded_cover sign_domain (length end.names)) (filter_map sign_cover covers)
  pub interval_is : job.interval ≡ map (padded_cover interval_domain (length end.names)) (filter_map interval_cover covers)
