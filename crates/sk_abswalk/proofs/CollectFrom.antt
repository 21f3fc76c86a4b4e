-- The walk of a call by the interpretation that gathers calls.
use Rattle.std.proofs.Common.{◌≡◌, ℕ, List, [], ◌++◌, length, Option, Some, None, Result, Ok, Err, refl, sym, ◌∙◌, ap, subst, append-nil, arith}
use Rattle.std.specs.Option.{option_map_or}
use Rattle.sk_def.specs.declared.ids.HookId.{HookId}
use Rattle.sk_def.specs.declared.def.Rule.{Rule}
use Rattle.sk_def.specs.declared.def.Hook.{Hook}
use Rattle.sk_def.specs.declared.def.Con.{Con}
use Rattle.sk_walk.specs.Walks.{Walks}
use Rattle.sk_term.specs.declared.node.TermNode.{TermNode}
use Rattle.sk_term.specs.Program.{Program}
use Rattle.sk_deriv.specs.Env.{values_at, start_of}
use Rattle.sk_deriv.specs.Moves.{setting_of}
use Rattle.sk_lattice.specs.Domain.{Domain}
use Rattle.sk_absfilter.specs.Abstract.{Outcome}
use Rattle.sk_table.specs.declared.triple.Cover.{Cover}
use Rattle.sk_abswalk.specs.declared.collect.Collect.{Collect}
use Rattle.sk_abswalk.specs.declared.world.World.{World}
use Rattle.sk_abswalk.specs.declared.stop.Stop.{Stop}
use Rattle.sk_abswalk.specs.declared.stop.Stop.TheVariants.{Uncovered, Ill, NoMemory}
use Rattle.sk_abswalk.specs.Walk.{AbsEnv, Flows, Ends, ill, with, Walk, quiet, in_world, after_world, there, walk_of, abstract_walk}
use Rattle.sk_abswalk.specs.Keys.{Key, by_key}
use Rattle.sk_abswalk.specs.Meaning.{Does, seen, bones_walk}
use Rattle.sk_abswalk.specs.FromTable.{Gives, stop_of}
use Rattle.sk_abswalk.specs.Branches.{env_of}
use Rattle.sk_abswalk.specs.Collect.{collect_reader, collect_meaning, Gathers, Tells}
use Rattle.sk_abswalk.specs.RuleAt.{RuleFor, start_at}
use Rattle.sk_abswalk.proofs.Sound.{rule_there}
use Rattle.sk_abswalk.proofs.RulesFit.{children_are}
use Rattle.sk_abswalk.proofs.Walker.{walker_law}

module _ (D : Type 0) where
  -- a last part that asks nothing
  closes : (before asked calls : List (Cover D)) (last : Walk D (Flows D)) (result : Result (Option (Flows D)) (Stop D)) → calls ≡ before ++ asked → last.asked ≡ [] → Gives last.ends result → Gathers (record { asked = asked ++ last.asked; ends = last.ends }) before calls result
  closes before asked calls last result e n g = by result g
    where
      same : calls ≡ before ++ (asked ++ last.asked)
      same = e ∙ ap (λ a. before ++ a) (sym (append-nil asked) ∙ ap (λ l. asked ++ l) (sym n))

      by : (result : Result (Option (Flows D)) (Stop D)) → Gives last.ends result → Gathers (record { asked = asked ++ last.asked; ends = last.ends }) before calls result
      by (Ok o) g = (same, g)
      by (Err (Uncovered hook point args)) g = (same, g)
      by (Err Ill) g = (same, g)
      by (Err NoMemory) g = tt

  -- a rule's own walk that ends, and its closing; and one that stops
  goes : (first : Walk D (AbsEnv D)) (next : AbsEnv D → Walk D (Flows D)) (o : Option (AbsEnv D)) (before calls : List (Cover D)) (result : Result (Option (Flows D)) (Stop D)) → first.ends ≡ with o → calls ≡ before ++ first.asked →
      (in_world next o).asked ≡ [] → Gives (in_world next o).ends result → Gathers (after_world first next) before calls result
  goes first next o before calls result e f n g = subst (λ (w : Walk D (AbsEnv D)). Gathers (after_world w next) before calls result) whole (closes before first.asked calls (in_world next o) result f n g)
    where
      whole : record { asked = first.asked; ends = with o } ≡ first
      whole = λ i. record { asked = first.asked; ends = sym e i }

  stops : (first : Walk D (AbsEnv D)) (next : AbsEnv D → Walk D (Flows D)) (before calls : List (Cover D)) (stop : Stop D) → Gathers first before calls (Err stop) → Gathers (after_world first next) before calls (Err stop)
  stops first next before calls (Uncovered hook point args) g = subst (λ e. Gathers (after_world (record { asked = first.asked; ends = e }) next) before calls (Err (Uncovered hook point args))) (sym g.1) (g.0, refl)
  stops first next before calls Ill g = subst (λ e. Gathers (after_world (record { asked = first.asked; ends = e }) next) before calls (Err Ill)) (sym g.1) (g.0, refl)
  stops first next before calls NoMemory g = tt

  closing_asks : (ends : AbsEnv D → Ends D (Flows D)) (o : Option (AbsEnv D)) → (in_world (λ env. quiet (ends env)) o).asked ≡ []
  closing_asks ends None = refl
  closing_asks ends (Some env) = refl

  module _ (T : Type 0) (d : Domain D) (by : T → Key → Outcome D) (s : Collect D T) (program : Program) (id : HookId) (rule : Rule) (hook : Hook) (con : Con) (f : RuleFor s.checked.now program id s.point rule hook con) (names_are : s.names ≡ program.names) (ins : Flows D) where
    abbrev call : Cover D
    call = record { hook = id; point = s.point; ins = ins }

    abbrev closing : AbsEnv D → Walk D (Flows D)
    closing env = quiet (there (values_at env rule.outputs))

    abbrev first : Walk D (AbsEnv D)
    first = bones_walk d ((collect_reader by).reads s) (length rule.bones) rule.bones (start_at program.nodes rule s.point ins)

    abbrev Whole : List (Cover D) → Result (Option (Flows D)) (Stop D) → Type 0
    Whole calls result = Gathers (abstract_walk d (by_key (by s.outputs.now)) (setting_of s.checked.now program) call) s.calls calls result

    whole_is : (calls : List (Cover D)) (result : Result (Option (Flows D)) (Stop D)) → Gathers (after_world first closing) s.calls calls result → Whole calls result
    whole_is calls result g =
        subst (λ (o : Option (TermNode × Rule)). Gathers (option_map_or (walk_of d (by_key (by s.outputs.now)) program.names s.point ins) o (quiet ill)) s.calls calls result)
        (sym (rule_there (setting_of s.checked.now program) id s.point f.node rule f.node_is f.rule_is))
        (subst (λ (n : ℕ). Gathers (walk_of d (by_key (by s.outputs.now)) n s.point ins (f.node, rule)) s.calls calls result) names_are
        (subst (λ children. Gathers (after_world (bones_walk d ((collect_reader by).reads s) (length rule.bones) rule.bones (start_of rule (record { con = f.node.con; children = children }) ins)) closing) s.calls calls result) (children_are program.nodes s.point f.node f.node_is) g))

    -- what the walker did from the rule's start
    first_does : (start : World D) (t : Collect D T) (answer : Result (World D) (Stop D)) → start.env ≡ Some (start_at program.nodes rule s.point ins) → Walks (collect_meaning d by) 1 rule.bones s start t answer →
        Does (collect_reader by) s first t (seen (collect_reader by) env_of stop_of answer)
    first_does start t answer e k =
        subst (λ o. Does (collect_reader by) s (in_world (bones_walk d ((collect_reader by).reads s) (length rule.bones) rule.bones) o) t (seen (collect_reader by) env_of stop_of answer)) e
        (walker_law d (collect_reader by) env_of stop_of 1 (length rule.bones) rule.bones s t start answer (omega arith) k)

    -- the walk of the bones got to a world, or stopped
    pub walk_goes : (start w : World D) (t : Collect D T) (result : Result (Option (Flows D)) (Stop D)) → start.env ≡ Some (start_at program.nodes rule s.point ins) → Walks (collect_meaning d by) 1 rule.bones s start t (Ok w) → Gives (in_world closing w.env).ends result → Whole t.calls result
    walk_goes start w t result e k g =
        let h = first_does start t (Ok w) e k in
        whole_is t.calls result (goes first closing w.env s.calls t.calls result h.1 (ap (λ (u : Collect D T). u.calls) h.0) (closing_asks (λ env. there (values_at env rule.outputs)) w.env) g)

    pub walk_stops : (start : World D) (t : Collect D T) (stop : Stop D) → start.env ≡ Some (start_at program.nodes rule s.point ins) → Walks (collect_meaning d by) 1 rule.bones s start t (Err stop) → Whole t.calls (Err stop)
    walk_stops start t (Uncovered h p a) e k =
        let g = first_does start t (Err (Uncovered h p a)) e k in
        whole_is t.calls (Err (Uncovered h p a)) (stops first closing s.calls t.calls (Uncovered h p a) (ap (λ (u : Collect D T). u.calls) g.0, g.1))
    walk_stops start t Ill e k =
        let g = first_does start t (Err Ill) e k in
        whole_is t.calls (Err Ill) (stops first closing s.calls t.calls Ill (ap (λ (u : Collect D T). u.calls) g.0, g.1))
    walk_stops start t NoMemory e k = tt

-- what was gathered from nothing is told
pub told_ok : {D : Type 0} (w : Walk D (Flows D)) (calls : List (Cover D)) (o : Outcome D) → Gathers w [] calls (Ok o) → Tells w (Ok (o, calls))
told_ok w calls o g = λ i. record { asked = sym g.0 i; ends = g.1 i }

pub told_err : {D : Type 0} (w : Walk D (Flows D)) (calls : List (Cover D)) (stop : Stop D) → Gathers w [] calls (Err stop) → Tells w (Err stop)
told_err w calls (Uncovered hook point args) g = g.1
told_err w calls Ill g = g.1
told_err w calls NoMemory g = tt
