-- The walk of a call by the interpretation that answers from a table.
use Rattle.std.proofs.Common.{◌≡◌, ℕ, length, Option, Some, Result, Ok, Err, refl, sym, subst, arith}
use Rattle.std.specs.Option.{option_map_or}
use Rattle.sk_def.specs.declared.ids.HookId.{HookId}
use Rattle.sk_def.specs.declared.def.Rule.{Rule}
use Rattle.sk_def.specs.declared.def.Hook.{Hook}
use Rattle.sk_def.specs.declared.def.Con.{Con}
use Rattle.sk_walk.specs.Walks.{Walks}
use Rattle.sk_term.specs.declared.node.TermNode.{TermNode}
use Rattle.sk_term.specs.Program.{Program}
use Rattle.sk_deriv.specs.Env.{values_at, start_of}
use Rattle.sk_deriv.specs.Moves.{setting_of}
use Rattle.sk_lattice.specs.Domain.{Domain}
use Rattle.sk_table.specs.declared.triple.Cover.{Cover}
use Rattle.sk_abswalk.specs.declared.from_table.FromTable.{FromTable}
use Rattle.sk_abswalk.specs.declared.world.World.{World}
use Rattle.sk_abswalk.specs.declared.stop.Stop.{Stop}
use Rattle.sk_abswalk.specs.declared.stop.Stop.TheVariants.{Uncovered, Ill, NoMemory}
use Rattle.sk_abswalk.specs.Walk.{AbsEnv, Flows, ill, with, Walk, quiet, in_world, after_world, there, walk_of, abstract_outputs}
use Rattle.sk_abswalk.specs.Tables.{table_answer}
use Rattle.sk_abswalk.specs.Meaning.{bones_walk}
use Rattle.sk_abswalk.specs.FromTable.{Gives, stop_of}
use Rattle.sk_abswalk.specs.Branches.{env_of}
use Rattle.sk_abswalk.specs.TableReader.{table_reader, table_meaning}
use Rattle.sk_abswalk.specs.RuleAt.{RuleFor, start_at}
use Rattle.sk_abswalk.proofs.Sound.{rule_there}
use Rattle.sk_abswalk.proofs.RulesFit.{children_are}
use Rattle.sk_abswalk.proofs.Walker.{walker_law}

module _ (D : Type 0) (d : Domain D) where
  -- a rule's own walk that ends, and its closing; and one that stops
  goes : (first : Walk D (AbsEnv D)) (next : AbsEnv D → Walk D (Flows D)) (o : Option (AbsEnv D)) (result : Result (Option (Flows D)) (Stop D)) → first.ends ≡ with o → Gives (in_world next o).ends result → Gives (after_world first next).ends result
  goes first next o result e g = subst (λ (w : Walk D (AbsEnv D)). Gives (after_world w next).ends result) whole g
    where
      whole : record { asked = first.asked; ends = with o } ≡ first
      whole = λ i. record { asked = first.asked; ends = sym e i }

  stops : (first : Walk D (AbsEnv D)) (next : AbsEnv D → Walk D (Flows D)) (stop : Stop D) → Gives first.ends (Err stop) → Gives (after_world first next).ends (Err stop)
  stops first next (Uncovered hook point args) g = subst (λ e. Gives (after_world (record { asked = first.asked; ends = e }) next).ends (Err (Uncovered hook point args))) (sym g) refl
  stops first next Ill g = subst (λ e. Gives (after_world (record { asked = first.asked; ends = e }) next).ends (Err Ill)) (sym g) refl
  stops first next NoMemory g = tt

  module _ (s : FromTable D) (program : Program) (id : HookId) (rule : Rule) (hook : Hook) (con : Con) (f : RuleFor s.checked.now program id s.point rule hook con) (names_are : s.names ≡ program.names) (ins : Flows D) where
    abbrev call : Cover D
    call = record { hook = id; point = s.point; ins = ins }

    abbrev closing : AbsEnv D → Walk D (Flows D)
    closing env = quiet (there (values_at env rule.outputs))

    abbrev first : Walk D (AbsEnv D)
    first = bones_walk d ((table_reader d).reads s) (length rule.bones) rule.bones (start_at program.nodes rule s.point ins)

    whole_is : (result : Result (Option (Flows D)) (Stop D)) → Gives (after_world first closing).ends result → Gives (abstract_outputs d (table_answer d s.table.now) (setting_of s.checked.now program) call) result
    whole_is result g =
        subst (λ (o : Option (TermNode × Rule)). Gives (option_map_or (walk_of d (table_answer d s.table.now) program.names s.point ins) o (quiet ill)).ends result)
        (sym (rule_there (setting_of s.checked.now program) id s.point f.node rule f.node_is f.rule_is))
        (subst (λ (n : ℕ). Gives (walk_of d (table_answer d s.table.now) n s.point ins (f.node, rule)).ends result) names_are
        (subst (λ children. Gives (after_world (bones_walk d ((table_reader d).reads s) (length rule.bones) rule.bones (start_of rule (record { con = f.node.con; children = children }) ins)) closing).ends result) (children_are program.nodes s.point f.node f.node_is) g))

    -- the walk of the bones got to a world, or stopped
    pub walk_goes : (start w : World D) (t : FromTable D) (result : Result (Option (Flows D)) (Stop D)) → start.env ≡ Some (start_at program.nodes rule s.point ins) → Walks (table_meaning d) 1 rule.bones s start t (Ok w) → Gives (in_world closing w.env).ends result → Gives (abstract_outputs d (table_answer d s.table.now) (setting_of s.checked.now program) call) result
    walk_goes start w t result e k g =
        let h = walker_law d (table_reader d) env_of stop_of 1 (length rule.bones) rule.bones s t start (Ok w) (omega arith) k in
        whole_is result (goes first closing w.env result (subst (λ o. (in_world (bones_walk d ((table_reader d).reads s) (length rule.bones) rule.bones) o).ends ≡ with w.env) e h.1) g)

    pub walk_stops : (start : World D) (t : FromTable D) (stop : Stop D) → start.env ≡ Some (start_at program.nodes rule s.point ins) → Walks (table_meaning d) 1 rule.bones s start t (Err stop) → Gives (abstract_outputs d (table_answer d s.table.now) (setting_of s.checked.now program) call) (Err stop)
    walk_stops start t (Uncovered h p a) e k =
        let g = walker_law d (table_reader d) env_of stop_of 1 (length rule.bones) rule.bones s t start (Err (Uncovered h p a)) (omega arith) k in
        whole_is (Err (Uncovered h p a)) (stops first closing (Uncovered h p a) (subst (λ o. Gives (in_world (bones_walk d ((table_reader d).reads s) (length rule.bones) rule.bones) o).ends (Err (Uncovered h p a))) e g.1))
    walk_stops start t Ill e k =
        let g = walker_law d (table_reader d) env_of stop_of 1 (length rule.bones) rule.bones s t start (Err Ill) (omega arith) k in
        whole_is (Err Ill) (stops first closing Ill (subst (λ o. Gives (in_world (bones_walk d ((table_reader d).reads s) (length rule.bones) rule.bones) o).ends (Err Ill)) e g.1))
    walk_stops start t NoMemory e k = tt
