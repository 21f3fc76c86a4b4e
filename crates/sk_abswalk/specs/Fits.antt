-- Calls, answers and tables that fit a definition and a program, and walks that keep so.
use Rattle.std.specs.Prelude.{◌≡◌, true, List, Some, None, slice_get, All}
use Rattle.sk_def.specs.declared.ids.HookId.{HookId}
use Rattle.sk_def.specs.declared.def.Hook.{Hook}
use Rattle.sk_def.specs.declared.def.Def.{Def}
use Rattle.sk_def.specs.Sorts.{outputs_of}
use Rattle.sk_sort.specs.Definition.{IsWellSorted}
use Rattle.sk_term.specs.Program.{Program, IsProgramOf, IsSortOfPoint}
use Rattle.sk_deriv.specs.Moves.{Setting, setting_of}
use Rattle.sk_lattice.specs.Domain.{Domain}
use Rattle.sk_lattice.specs.Shapes.{has_sorts}
use Rattle.sk_absfilter.specs.Abstract.{Outcome}
use Rattle.sk_table.specs.declared.triple.Triple.{Triple}
use Rattle.sk_table.specs.declared.triple.Cover.{Cover}
use Rattle.sk_abswalk.specs.Walk.{Flows, Ends, uncovered, ill, with, Walk, Answers, abstract_walk}
use Rattle.sk_abswalk.specs.Tables.{call_of, table_answer}

-- a call's hook is declared, its point has the hook's sort, and its inputs have the sorts of the hook's
pub record CallFits {D : Type 0} (s : Setting) (c : Cover D) : Type 0 where
  pub hook : Hook
  pub declared : slice_get s.def.hooks c.hook.0 ≡ Some hook
  pub point_fits : IsSortOfPoint s.def s.nodes c.point hook.sort
  pub ins_fit : has_sorts s.names hook.inputs c.ins ≡ true

-- outputs have the sorts of the hook's
abbrev pub OutcomeFits : {D : Type 0} → Setting → HookId → Outcome D → Type 0
OutcomeFits s hook None = Unit {0}
OutcomeFits s hook (Some outs) = has_sorts s.names (outputs_of s.def hook) outs ≡ true

-- the answers to calls that fit do so too
abbrev pub AnswersFit : {D : Type 0} → Setting → Answers D → Type 0
AnswersFit {D} s answers = (c : Cover D) → CallFits s c → (o : Outcome D) → answers c ≡ Some o → OutcomeFits s c.hook o

-- the inputs and outputs of a triple fit
pub record TripleFits {D : Type 0} (s : Setting) (triple : Triple D) : Type 0 where
  pub call_fits : CallFits s (call_of triple)
  pub outs_fit : OutcomeFits s triple.hook triple.outs

abbrev pub TableFits : {D : Type 0} → Setting → List (Triple D) → Type 0
TableFits s table = All (TripleFits s) table

-- an end that is an uncovered call or an outcome that fits: no bone was ill
abbrev pub EndsFit : {D : Type 0} → Setting → HookId → Ends D (Flows D) → Type 0
EndsFit s hook (uncovered c) = Unit {0}
EndsFit s hook ill = ⊥
EndsFit s hook (with o) = OutcomeFits s hook o

-- a walk of a call ends so, and all calls that it asks fit
pub record WalkFits {D : Type 0} (s : Setting) (c : Cover D) (w : Walk D (Flows D)) : Type 0 where
  pub ends : EndsFit s c.hook w.ends
  pub calls : All (CallFits s) w.asked

-- the law of sorts: in a well-sorted definition, a walk of a call that fits, with answers that fit, meets no ill bone
abbrev pub WalksFit : {D : Type 0} → Domain D → Type 0
WalksFit {D} d =
    (def : Def) (program : Program) → IsWellSorted def → IsProgramOf def program → (answers : Answers D) → AnswersFit (setting_of def program) answers →
    (c : Cover D) → CallFits (setting_of def program) c → WalkFits (setting_of def program) c (abstract_walk d answers (setting_of def program) c)

-- the law of answers: those of a table that fits do so
abbrev pub AnswersOfTablesFit : {D : Type 0} → Domain D → Type 0
AnswersOfTablesFit {D} d = (s : Setting) (table : List (Triple D)) → TableFits s table → AnswersFit s (table_answer d table)
