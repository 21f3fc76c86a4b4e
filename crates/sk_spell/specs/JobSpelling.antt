-- How jobs are written: which symbols a job has, part after part.
use Rattle.std.specs.Prelude.{◌≡◌, ◌↔◌, ℕ, ◌+◌, pos, false, List, [], ◌∷◌, length, map, codes, Option, Some, None, Ok}
use Rattle.std.specs.List.{filter_map}
use Rattle.std.specs.Option.{option_map}
use Rattle.sk_base.specs.declared.flow.FlowSort.{FlowSort}
use Rattle.sk_lex.specs.Symbols.{Symbol, Named, Plain}
use Rattle.sk_lex.specs.declared.token.TokenKind.TheVariants as token
use Rattle.sk_def.specs.declared.ids.HookId.{HookId}
use Rattle.sk_def.specs.declared.def.Hook.{Hook}
use Rattle.sk_def.specs.declared.def.Def.{Def}
use Rattle.sk_term.specs.Spelling.{BeginWithTerm, ConstructorsAreFound}
use Rattle.sk_term.specs.declared.node.TermNode.{TermNode}
use Rattle.sk_value.specs.declared.flow.Flow.{Flow}
use Rattle.sk_lattice.specs.Domain.{Domain}
use Rattle.sk_lattice.specs.DomainTexts.{DomainTexts}
use Rattle.sk_lattice.specs.declared.flow.AbsFlow.{AbsFlow}
use Rattle.sk_sign.specs.Signs.{sign_domain}
use Rattle.sk_sign.specs.Texts.{sign_texts}
use Rattle.sk_sign.specs.declared.sign.Sign.{Sign}
use Rattle.sk_interval.specs.Intervals.{interval_domain}
use Rattle.sk_interval.specs.Texts.{interval_texts}
use Rattle.sk_interval.specs.declared.bounds.Interval.{Interval}
use Rattle.sk_table.specs.declared.triple.Cover.{Cover}
use Rattle.sk_bench.specs.declared.job.Start.{Start}
use Rattle.sk_bench.specs.Jobs.{ReadJob, padded_start, padded_cover, read_symbols}
use Rattle.sk_spell.specs.Calls.{IsNodeOf, CallAt}
use Rattle.sk_spell.specs.TupleSpelling.{BeginWithTuple}
use Rattle.sk_spell.specs.AbsTupleSpelling.{BeginWithAbsTuple}

-- where a part of a job begins or ends: the names that stand there, and the symbols that are left, with the place of the first
pub record Border : Type 0 where
  pub names : List (List ℕ)
  pub at : ℕ
  pub left : List Symbol

-- the border so many symbols further on: these are left, and no name is new
abbrev pub past : Border → ℕ → List Symbol → Border
past from count left = record from { at = from.at + count; left = left }

-- the symbols of a term with these nodes
abbrev pub TermStands : Def → Border → List TermNode → Border → Type 0
TermStands d from nodes to = (term : BeginWithTerm d from.names from.at from.left (record { nodes = nodes; names = to.names }) to.at) × (to.left ≡ term.left)

-- those of a tuple of values of these sorts
abbrev pub TupleStands : List FlowSort → Border → List Flow → Border → Type 0
TupleStands sorts from tuple to = (values : BeginWithTuple sorts from.names from.at from.left (record { tuple = tuple; names = to.names }) to.at) × (to.left ≡ values.left)

-- those of an abstract tuple of these sorts
abbrev pub AbstractStands : {D : Type 0} → Domain D → DomainTexts D → List FlowSort → Border → List (AbsFlow D) → Border → Type 0
AbstractStands domain texts sorts from tuple to =
    (flows : BeginWithAbsTuple domain texts false sorts from.names from.at from.left (record { tuple = tuple; names = to.names }) to.at) × (to.left ≡ flows.left)

-- A call: the name of a hook, the number of a node that has the hook's sort, and inputs of the hook's sorts.
pub record CallStands {X : Type 0} (inputs : List FlowSort → Border → List X → Border → Type 0) (d : Def) (nodes : List TermNode)
    (from : Border) (hook : HookId) (point : ℕ) (ins : List X) (to : Border) : Type 0 where
  pub declared : Hook
  pub inside : List Symbol
  pub call : CallAt d (IsNodeOf d nodes) hook declared point from.left inside
  pub inputs_are : inputs declared.inputs (past from 2 inside) ins to

-- The start line: `start` and a call.
pub record StartLine (d : Def) (nodes : List TermNode) (from : Border) (start : Start) (to : Border) : Type 0 where
  pub call : List Symbol
  pub symbols_are : from.left ≡ Named (codes "start") ∷ call
  pub call_is : CallStands TupleStands d nodes (past from 1 call) start.hook start.point start.ins to

-- at most one start line
abbrev pub StartStands : Def → List TermNode → Border → Option Start → Border → Type 0
StartStands d nodes from None to = to ≡ from
StartStands d nodes from (Some start) to = StartLine d nodes from start to

-- A cover line of a domain: `cover`, the domain's word and a call with abstract inputs.
pub record CoverStands {D : Type 0} (domain : Domain D) (texts : DomainTexts D) (d : Def) (nodes : List TermNode)
    (from : Border) (cover : Cover D) (to : Border) : Type 0 where
  pub call : List Symbol
  pub symbols_are : from.left ≡ Named (codes "cover") ∷ Named texts.word ∷ call
  pub call_is : CallStands (AbstractStands domain texts) d nodes (past from 2 call) cover.hook cover.point cover.ins to

-- a cover line of either domain
pub data CoverLine : Type 0 where
  OfSign : Cover Sign → CoverLine
  OfInterval : Cover Interval → CoverLine

-- its symbols
abbrev pub LineStands : Def → List TermNode → Border → CoverLine → Border → Type 0
LineStands d nodes from (OfSign cover) to = CoverStands sign_domain sign_texts d nodes from cover to
LineStands d nodes from (OfInterval cover) to = CoverStands interval_domain interval_texts d nodes from cover to

-- cover lines, one after the other
abbrev pub LinesStand : Def → List TermNode → Border → List CoverLine → Border → Type 0
LinesStand d nodes from [] to = to ≡ from
LinesStand d nodes from (line ∷ lines) to = (next : Border) × LineStands d nodes from line next × LinesStand d nodes next lines to

-- the cover lines of a domain among them, in their order
abbrev pub sign_cover : CoverLine → Option (Cover Sign)
sign_cover (OfSign cover) = Some cover
sign_cover (OfInterval cover) = None

abbrev pub interval_cover : CoverLine → Option (Cover Interval)
interval_cover (OfSign cover) = None
interval_cover (OfInterval cover) = Some cover

-- Symbols are those of a job: `job 1 program`, the program's term, at most one start line, cover lines of both domains, and
-- none after them. No names stand before the program; those at the end are the job's, and its stores are over all of them.
pub record JobIsSpelled (d : Def) (symbols : List Symbol) (job : ReadJob) : Type 0 where
  pub program : List Symbol
  pub start : Option Start
  pub covers : List CoverLine
  pub after_program : Border
  pub after_start : Border
  pub end : Border
  pub symbols_are : symbols ≡ Named (codes "job") ∷ Plain (token.Number (pos 1)) ∷ Named (codes "program") ∷ program
  pub program_stands : TermStands d (record { names = []; at = 3; left = program }) job.nodes after_program
  pub start_stands : StartStands d job.nodes after_program start after_start
  pub covers_stand : LinesStand d job.nodes after_start covers end
  pub nothing_more : end.left ≡ []
  pub names_are : job.names ≡ end.names
  pub start_is : job.start ≡ option_map (padded_start (length end.names)) start
  pub sign_is : job.sign ≡ map (padded_cover sign_domain (length end.names)) (filter_map sign_cover covers)
  pub interval_is : job.interval ≡ map (padded_cover interval_domain (length end.names)) (filter_map interval_cover covers)

-- A job is read exactly where the symbols are its own, given that each constructor is found by its own name.
abbrev pub JobsAreReadExactly : Type 0
JobsAreReadExactly = (d : Def) (symbols : List Symbol) (job : ReadJob) → ConstructorsAreFound d → read_symbols d symbols ≡ Ok job ↔ JobIsSpelled d symbols job

-- Only jobs are read, whatever the definition.
abbrev pub OnlyJobsAreRead : Type 0
OnlyJobsAreRead = (d : Def) (symbols : List Symbol) (job : ReadJob) → read_symbols d symbols ≡ Ok job → JobIsSpelled d symbols job
