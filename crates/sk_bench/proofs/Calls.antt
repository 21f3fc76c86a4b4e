-- Hooks and their inputs.
use Rattle.std.proofs.Common.{◌≡◌, ℕ, ◌+◌, ◌≤◌, false, List, Ok, drop, length, Some, refl, subst}
use Rattle.std.specs.Prelude.{slice_get}
use Rattle.std.proofs.lemmas.List.{drop-drop}
use Rattle.std.proofs.lemmas.Option.{slice_get_within, get_or_from_slice_get}
use Rattle.sk_base.specs.Answer.{◌>>=◌}
use Rattle.sk_lex.specs.Symbols.{Symbol, number_of}
use Rattle.sk_def.specs.Fits.{DefinitionFits}
use Rattle.sk_def.specs.declared.ids.HookId.{HookId}
use Rattle.sk_def.specs.declared.def.Def.{Def}
use Rattle.sk_def.specs.declared.def.Hook.{Hook}
use Rattle.sk_term.specs.declared.node.TermNode.{TermNode}
use Rattle.sk_deriv.specs.Reading.{read_tuple}
use Rattle.sk_lattice.specs.Domain.{Domain}
use Rattle.sk_lattice.specs.DomainTexts.{DomainTexts}
use Rattle.sk_table.specs.Tuples as abstract
use Rattle.sk_bench.specs.Jobs.{abstract_tupled, at_front, call_of, cover_of, inputs_of, point_of, read_cover_inputs, read_inputs, tupled}

-- the point and the inputs stand one and two places after the hook
pub inputs_from : (d : Def) (nodes : List TermNode) (names : List (List ℕ)) (hook : HookId) (at : ℕ) (symbols : List Symbol)
    → read_inputs d nodes names hook at (drop at symbols)
    ≡ (at_front (at + 1) (λ symbol. point_of d nodes hook (number_of symbol)) (drop (at + 1) symbols) >>= λ point.
    tupled (read_tuple (inputs_of d hook) names (at + 2) (drop (at + 2) symbols)) >>= λ read. Ok (call_of hook point read.0, read.1))
unfolding read_inputs
inputs_from d nodes names hook at symbols = rw (drop-drop 1 at symbols, drop-drop 2 at symbols) refl

pub cover_inputs_from : {D : Type 0} (domain : Domain D) (texts : DomainTexts D) (d : Def) (nodes : List TermNode) (names : List (List ℕ)) (hook : HookId) (at : ℕ) (symbols : List Symbol)
    → read_cover_inputs domain texts d nodes names hook at (drop at symbols)
    ≡ (at_front (at + 1) (λ symbol. point_of d nodes hook (number_of symbol)) (drop (at + 1) symbols) >>= λ point.
    abstract_tupled (abstract.read_tuple domain texts false (inputs_of d hook) names (at + 2) (drop (at + 2) symbols)) >>= λ read. Ok (cover_of hook point read.0, read.1))
unfolding read_cover_inputs
cover_inputs_from domain texts d nodes names hook at symbols = rw (drop-drop 1 at symbols, drop-drop 2 at symbols) refl

-- a hook has at most 4 inputs
pub few_inputs : (d : Def) (hook : ℕ) (entry : Hook) → DefinitionFits d → slice_get d.hooks hook ≡ Some entry → length entry.inputs ≤ 4
few_inputs d hook entry fits is =
    let fit = fits.hooks_fit hook entry (slice_get_within d.hooks hook entry is) in
    subst (λ (h : Hook). length h.inputs ≤ 4) (get_or_from_slice_get d.hooks hook entry entry is) fit.few_inputs
