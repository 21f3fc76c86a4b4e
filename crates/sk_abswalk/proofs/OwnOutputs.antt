-- What a table gives keys, and walks that are answered by keys.
use Rattle.std.proofs.Common.{◌≡◌, ℕ, List, [], ◌∷◌, Some, Err, sym, subst}
use Rattle.std.specs.Prelude.{find}
use Rattle.std.specs.List.{AllByRecursion}
use Rattle.std.specs.Option.{option_and_then}
use Rattle.std.proofs.lemmas.Bool.{and_parts, eqb-true, cond_both}
use Rattle.std.proofs.lemmas.List.Elements.{recursion_from_All}
use Rattle.std.proofs.lemmas.Option.{none-some, same_Some}
use Rattle.sk_def.specs.declared.ids.HookId.{HookId}
use Rattle.sk_def.specs.declared.def.Def.{Def}
use Rattle.sk_sort.specs.Definition.{IsWellSorted}
use Rattle.sk_term.specs.Program.{Program, IsProgramOf}
use Rattle.sk_deriv.specs.Moves.{Setting, setting_of}
use Rattle.sk_lattice.specs.Domain.{Domain}
use Rattle.sk_lattice.specs.Shapes.{ShapeLaws}
use Rattle.sk_absfilter.specs.Abstract.{Outcome}
use Rattle.sk_table.specs.declared.triple.Triple.{Triple}
use Rattle.sk_table.specs.declared.triple.Cover.{Cover}
use Rattle.sk_abswalk.specs.declared.stop.Stop.{Stop}
use Rattle.sk_abswalk.specs.declared.stop.Stop.TheVariants.{Uncovered, Ill}
use Rattle.sk_abswalk.specs.Collect.{Tells}
use Rattle.sk_abswalk.specs.Walk.{Flows, uncovered, ill, Walk, abstract_walk}
use Rattle.sk_abswalk.specs.Keys.{Key, same_key, key_of, key_of_triple, by_key, own_outputs}
use Rattle.sk_abswalk.specs.Fits.{CallFits, OutcomeFits, AnswersFit, TripleFits, TableFits, EndsFit}
use Rattle.sk_abswalk.proofs.Settled.{Settles, walk_settled}
use Rattle.sk_abswalk.proofs.RulesFit.{walks_fit}

own_fit : {D : Type 0} (s : Setting) (table : List (Triple D)) (k : Key) → AllByRecursion (TripleFits s) table → OutcomeFits s k.0 (own_outputs table k)
own_fit s [] k h = tt
own_fit s (triple ∷ table) k h =
    cond_both (same_key (key_of_triple triple) k) (Some triple) (find (λ other. same_key (key_of_triple other) k) table) (λ o. OutcomeFits s k.0 (option_and_then (λ t. t.outs) o))
    (λ same. subst (λ (i : ℕ). OutcomeFits s (record { 0 = i }) triple.outs) (eqb-true _ _ (and_parts _ _ same).0) h.0.outs_fit)
    (λ _. own_fit s table k h.1)

pub own_outputs_fit : {D : Type 0} (s : Setting) (table : List (Triple D)) → TableFits s table → AnswersFit s (by_key (own_outputs table))
own_outputs_fit s table fits c h o e = subst (OutcomeFits s c.hook) (same_Some (own_outputs table (key_of c)) o e) (own_fit s table (key_of c) (recursion_from_All (TripleFits s) table fits))

module _ (D : Type 0) (d : Domain D) (shapes : ShapeLaws d) (def : Def) (program : Program) (sorted : IsWellSorted def) (is_program : IsProgramOf def program) (answers : Key → Outcome D) (fit : AnswersFit (setting_of def program) (by_key answers)) (c : Cover D) (call : CallFits (setting_of def program) c) where
  abbrev this : Walk D (Flows D)
  this = abstract_walk d (by_key answers) (setting_of def program) c

  -- a walk that is answered by keys meets no ill bone, and no call without an answer
  pub never_ill : this.ends ≡ ill → ⊥
  never_ill e = subst (EndsFit (setting_of def program) c.hook) e (walks_fit D d shapes def program sorted is_program (by_key answers) fit c call).ends

  pub never_uncovered : (u : Cover D) → this.ends ≡ uncovered u → ⊥
  never_uncovered u e = none-some (answers (key_of u)) (sym (subst (Settles (by_key answers) this.asked) e (walk_settled D (by_key answers) d (setting_of def program) c)))

  pub ill_never : (stop : Stop D) → stop ≡ Ill → Tells this (Err stop) → ⊥
  ill_never stop e t = never_ill (subst (λ (x : Stop D). Tells this (Err x)) e t)

  pub uncovered_never : (stop : Stop D) (hook : HookId) (point : ℕ) (args : Flows D) → stop ≡ Uncovered hook point args → Tells this (Err stop) → ⊥
  uncovered_never stop hook point args e t = never_uncovered (record { hook = hook; point = point; ins = args }) (subst (λ (x : Stop D). Tells this (Err x)) e t)
