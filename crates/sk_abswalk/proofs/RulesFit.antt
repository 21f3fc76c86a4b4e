-- Walks through the rules of a well-sorted definition fit, and what tables answer.
use Rattle.std.proofs.Common.{◌≡◌, ℕ, true, List, [], ◌∷◌, length, map, Option, Some, None, refl, sym, ap, subst, arith, Err, ◌<◌}
use Rattle.std.specs.Prelude.{slice_get, filter}
use Rattle.std.specs.List.{AllByRecursion}
use Rattle.std.specs.Option.{option_map, option_map_or}
use Rattle.std.proofs.lemmas.Bool.{and_parts, eqb-true, cond_both}
use Rattle.std.proofs.lemmas.List.Elements.{All-from_recursion, recursion_from_All}
use Rattle.sk_def.specs.declared.ids.HookId.{HookId}
use Rattle.sk_def.specs.declared.ids.SortId.{SortId}
use Rattle.sk_def.specs.declared.ids.ConId.{ConId}
use Rattle.sk_def.specs.declared.sorts.VarSort.TheVariants as variable
use Rattle.sk_def.specs.declared.def.Rule.{Rule}
use Rattle.sk_def.specs.declared.def.Hook.{Hook}
use Rattle.sk_def.specs.declared.def.Con.{Con}
use Rattle.sk_def.specs.declared.def.Def.{Def}
use Rattle.sk_def.specs.Sorts.{outputs_of}
use Rattle.sk_sort.specs.Rules.{RuleIsSorted, header_sorts}
use Rattle.sk_sort.specs.Definition.{IsWellSorted, RuleFound}
use Rattle.sk_sort.proofs.RuleFound.{rule_found}
use Rattle.sk_sort.proofs.RulesSorted.{rules_sorted}
use Rattle.sk_term.specs.declared.node.TermNode.{TermNode}
use Rattle.sk_term.specs.Terms.{sort_of_node, arguments_of}
use Rattle.sk_term.specs.Program.{Program, IsProgramOf, IsSortOfPoint, ChildrenFit, children_of_point}
use Rattle.sk_term.proofs.Entries.{entries_fit}
use Rattle.sk_deriv.specs.Env.{values_at, start_of}
use Rattle.sk_deriv.specs.Moves.{Setting, setting_of}
use Rattle.sk_lattice.specs.Domain.{Domain}
use Rattle.sk_lattice.specs.Order.{tuples_fit}
use Rattle.sk_lattice.specs.Merge.{tuple_meet}
use Rattle.sk_lattice.specs.Shapes.{has_sorts, ShapeLaws}
use Rattle.sk_absfilter.specs.Abstract.{Outcome}
use Rattle.sk_table.specs.declared.triple.Triple.{Triple}
use Rattle.sk_table.specs.declared.triple.Cover.{Cover}
use Rattle.sk_abswalk.specs.Walk.{AbsEnv, Flows, Ends, uncovered, ill, with, Walk, quiet, there, Answers, abstract_world, walk_of, abstract_walk, abstract_outputs}
use Rattle.std.proofs.lemmas.Option.{slice_get_within}
use Rattle.sk_abswalk.specs.declared.stop.Stop.{Stop}
use Rattle.sk_abswalk.specs.declared.stop.Stop.TheVariants.{Ill}
use Rattle.sk_abswalk.specs.FromTable.{Gives}
use Rattle.sk_abswalk.specs.Tables.{is_above, outcome_meet, meet_from, table_answer}
use Rattle.sk_abswalk.specs.Fits.{CallFits, OutcomeFits, AnswersFit, TripleFits, EndsFit, WalkFits, WalksFit, AnswersOfTablesFit, TableFits}
use Rattle.sk_abswalk.proofs.Relations.{Has}
use Rattle.sk_abswalk.proofs.Sound.{rule_there}
use Rattle.sk_abswalk.proofs.FilterSorts.{FlowsFit}
use Rattle.sk_abswalk.proofs.EnvSorts.{EnvFits, start_fits, values_there, all_flows, sorts_from_fit}
use Rattle.sk_abswalk.proofs.Fitting.{Fine, FineWalk, world_fine, there_fine, bones_fine, outputs_are}

-- The node, the constructor and the rule of a call that fits.

pub record NodeOf (def : Def) (nodes : List TermNode) (point : ℕ) (sort : SortId) : Type 0 where
  pub node : TermNode
  pub node_is : slice_get nodes point ≡ Some node
  pub con : Con
  pub con_is : slice_get def.cons node.con.0 ≡ Some con
  pub sort_is : con.sort ≡ sort

node_of : (def : Def) (nodes : List TermNode) (point : ℕ) (sort : SortId) → IsSortOfPoint def nodes point sort → NodeOf def nodes point sort
node_of def nodes point sort h = by (slice_get nodes point) refl h
  where
    con_of : (node : TermNode) → slice_get nodes point ≡ Some node → (o : Option Con) → slice_get def.cons node.con.0 ≡ o → ◌≡◌ {A = Option (Option SortId)} (Some (option_map (λ (c : Con). c.sort) o)) (Some (Some sort)) → NodeOf def nodes point sort
    con_of node e None k h = absurd cc
    con_of node e (Some con) k h = record { node = node; node_is = e; con = con; con_is = k; sort_is = cc }

    by : (o : Option TermNode) → slice_get nodes point ≡ o → option_map (sort_of_node def) o ≡ Some (Some sort) → NodeOf def nodes point sort
    by None e h = absurd cc
    by (Some node) e h = con_of node e (slice_get def.cons node.con.0) refl h

-- entries of equal records
same_con : (a b : Con) (def : Def) (id : ConId) → slice_get def.cons id.0 ≡ Some a → slice_get def.cons id.0 ≡ Some b → a ≡ b
same_con a b def id e k = cc

same_hook : (a b : Hook) (def : Def) (id : HookId) → slice_get def.hooks id.0 ≡ Some a → slice_get def.hooks id.0 ≡ Some b → a ≡ b
same_hook a b def id e k = cc

pub children_are : (nodes : List TermNode) (point : ℕ) (node : TermNode) → slice_get nodes point ≡ Some node → children_of_point nodes point ≡ node.children
children_are nodes point node e = rw e refl

arguments_are : (def : Def) (id : ConId) (con : Con) → slice_get def.cons id.0 ≡ Some con → arguments_of def id ≡ con.args
arguments_are def id con e = rw e refl

module _ (D : Type 0) (d : Domain D) (shapes : ShapeLaws d) (def : Def) (program : Program) (sorted : IsWellSorted def) (is_program : IsProgramOf def program) (answers : Answers D) (answers_fit : AnswersFit (setting_of def program) answers) where
  abbrev s : Setting
  s = setting_of def program

  -- the walk through a rule from a node and inputs that fit
  walk_of_fine : (point : ℕ) (ins : Flows D) (node : TermNode) (rule : Rule) (hook : Hook) (con : Con) → IsSortOfPoint def program.nodes point con.sort → ChildrenFit def program.nodes program.names node.children con.args → has_sorts program.names hook.inputs ins ≡ true →
      (r : RuleIsSorted def rule) → r.hook ≡ hook → r.con ≡ con → FineWalk s (λ a. has_sorts program.names hook.outputs a ≡ true) (walk_of d answers program.names point ins (node, rule))
  walk_of_fine point ins node rule hook con own children fit r same_h same_c =
      let own_is : IsSortOfPoint def program.nodes point r.con.sort = subst (λ (c : Con). IsSortOfPoint def program.nodes point c.sort) (sym same_c) own in
      let start : EnvFits s (header_sorts rule r.hook r.con) (start_of rule node ins) =
      start_fits D s rule r.hook r.con node ins (subst (λ (c : Con). ChildrenFit def program.nodes program.names node.children c.args) (sym same_c) children) (subst (λ (h : Hook). has_sorts program.names h.inputs ins ≡ true) (sym same_h) fit) in
      let first : Walk D (AbsEnv D) = abstract_world d answers program.names point (length rule.bones) rule.bones (start_of rule node ins) in
      world_fine s (EnvFits s r.after) (λ a. has_sorts program.names hook.outputs a ≡ true) first (λ env. quiet (there (values_at env rule.outputs)))
      (bones_fine D d shapes s answers answers_fit r.con.sort point own_is (length rule.bones) (start_of rule node ins) (omega arith) start r.bones)
      (λ env e. there_fine s (λ a. has_sorts program.names hook.outputs a ≡ true) (values_at env rule.outputs)
      (subst (λ (h : Hook). Has (λ a. has_sorts program.names h.outputs a ≡ true) (values_at env rule.outputs)) same_h
      (outputs_have (values_at env rule.outputs) r.hook (values_there D s r.after env e rule.outputs (map variable.Flow r.hook.outputs) (all_flows r.hook.outputs) r.outputs))))
    where
      outputs_have : (o : Option (Flows D)) (h : Hook) → Has (FlowsFit program.names (map variable.Flow h.outputs)) o → Has (λ a. has_sorts program.names h.outputs a ≡ true) o
      outputs_have None h k = absurd k
      outputs_have (Some a) h k = sorts_from_fit D s h.outputs a k

  ends_fit : (c : Cover D) (hook : Hook) → slice_get def.hooks c.hook.0 ≡ Some hook → (ends : Ends D (Flows D)) → Fine (λ a. has_sorts program.names hook.outputs a ≡ true) ends → EndsFit s c.hook ends
  ends_fit c hook e (uncovered x) h = tt
  ends_fit c hook e ill h = absurd h
  ends_fit c hook e (with None) h = tt
  ends_fit c hook e (with (Some a)) h = subst (λ sorts. has_sorts program.names sorts a ≡ true) (sym (outputs_are def c.hook hook e)) h

  walk_fits : (c : Cover D) → CallFits s c → WalkFits s c (abstract_walk d answers s c)
  walk_fits c h =
      let n = node_of def program.nodes c.point h.hook.sort h.point_fits in
      let found : RuleFound def c.hook n.node.con =
      rule_found def (record { well_sorted = sorted; rules_sorted = rules_sorted def sorted }) c.hook n.node.con h.hook n.con h.declared n.con_is (ap (λ (i : SortId). i.0) n.sort_is) in
      let children : ChildrenFit def program.nodes program.names n.node.children n.con.args =
      subst (λ l. ChildrenFit def program.nodes program.names n.node.children l) (arguments_are def n.node.con n.con n.con_is)
      (subst (λ l. ChildrenFit def program.nodes program.names l (arguments_of def n.node.con)) (children_are program.nodes c.point n.node n.node_is) (entries_fit def program c.point n.node is_program n.node_is)) in
      let hook_is : slice_get def.hooks c.hook.0 ≡ Some found.sorted.hook = subst (λ (i : ℕ). slice_get def.hooks i ≡ Some found.sorted.hook) found.of_hook found.sorted.hook_is in
      let con_is : slice_get def.cons n.node.con.0 ≡ Some found.sorted.con = subst (λ (i : ℕ). slice_get def.cons i ≡ Some found.sorted.con) found.of_con found.sorted.con_is in
      let fine = walk_of_fine c.point c.ins n.node found.rule h.hook n.con
      (subst (IsSortOfPoint def program.nodes c.point) (sym n.sort_is) h.point_fits) children h.ins_fit found.sorted (same_hook _ _ def c.hook hook_is h.declared) (same_con _ _ def n.node.con con_is n.con_is) in
      let whole : FineWalk s (λ a. has_sorts program.names h.hook.outputs a ≡ true) (abstract_walk d answers s c) =
      subst (λ (o : Option (TermNode × Rule)). FineWalk s (λ a. has_sorts program.names h.hook.outputs a ≡ true) (option_map_or (walk_of d answers program.names c.point c.ins) o (quiet ill)))
      (sym (rule_there s c.hook c.point n.node found.rule n.node_is found.is_first)) fine in
      record { ends = ends_fit c h.hook h.declared (abstract_walk d answers s c).ends whole.ends; calls = All-from_recursion (CallFits s) (abstract_walk d answers s c).asked whole.calls }

pub walks_fit : (D : Type 0) (d : Domain D) → ShapeLaws d → WalksFit d
walks_fit D d shapes def program sorted is_program answers answers_fit c h = walk_fits D d shapes def program sorted is_program answers answers_fit c h

-- What a table answers.
module _ (D : Type 0) (d : Domain D) (shapes : ShapeLaws d) (s : Setting) where
  meet_fits : (hook : HookId) (a b : Outcome D) → OutcomeFits s hook a → OutcomeFits s hook b → OutcomeFits s hook (outcome_meet d a b)
  meet_fits hook None b h k = tt
  meet_fits hook (Some a) None h k = tt
  meet_fits hook (Some a) (Some b) h k =
      cond_both (tuples_fit a b) (tuple_meet d a b) None (OutcomeFits s hook) (λ _. met (tuple_meet d a b) refl) (λ _. tt)
    where
      met : (o : Outcome D) → tuple_meet d a b ≡ o → OutcomeFits s hook o
      met None e = tt
      met (Some m) e = shapes.meet_sorts s.names (outputs_of s.def hook) a b m h k e

  all_met_fit : (hook : HookId) (os : List (Outcome D)) → AllByRecursion (OutcomeFits s hook) os → (met : Option (Outcome D)) → ((m : Outcome D) → met ≡ Some m → OutcomeFits s hook m) → (o : Outcome D) → meet_from d met os ≡ Some o → OutcomeFits s hook o
  all_met_fit hook [] all met h o e = h o e
  all_met_fit hook (x ∷ os) all None h o e = all_met_fit hook os all.1 (Some x) (λ m same. let is : x ≡ m = cc in subst (OutcomeFits s hook) is all.0) o e
  all_met_fit hook (x ∷ os) all (Some m) h o e =
      all_met_fit hook os all.1 (Some (outcome_meet d m x)) (λ n same. let is : outcome_meet d m x ≡ n = cc in subst (OutcomeFits s hook) is (meet_fits hook m x (h m refl) all.0)) o e

  above_fit : (c : Cover D) (table : List (Triple D)) → AllByRecursion (TripleFits s) table → AllByRecursion (OutcomeFits s c.hook) (map (λ triple. triple.outs) (filter (is_above d c) table))
  above_fit c [] h = tt
  above_fit c (triple ∷ table) h =
      cond_both (is_above d c triple) (triple ∷ filter (is_above d c) table) (filter (is_above d c) table) (λ l. AllByRecursion (OutcomeFits s c.hook) (map (λ triple. triple.outs) l))
      (λ above. let p = and_parts _ _ above in (subst (λ (i : ℕ). OutcomeFits s (record { 0 = i }) triple.outs) (eqb-true _ _ p.0) h.0.outs_fit, above_fit c table h.1))
      (λ _. above_fit c table h.1)

pub answers_of_tables_fit : (D : Type 0) (d : Domain D) → ShapeLaws d → AnswersOfTablesFit d
answers_of_tables_fit D d shapes s table fits c h o e =
    all_met_fit D d shapes s c.hook (map (λ triple. triple.outs) (filter (is_above d c) table)) (above_fit D d shapes s c table (recursion_from_All (TripleFits s) table fits)) None (λ m same. absurd cc) o e

-- a point with a sort is one of the program
pub point_within : (def : Def) (nodes : List TermNode) (point : ℕ) (sort : SortId) → IsSortOfPoint def nodes point sort → point < length nodes
point_within def nodes point sort h = let n = node_of def nodes point sort h in slice_get_within nodes point n.node n.node_is

-- a call that fits, answered from a table that fits, meets no ill bone
pub never_ill : (D : Type 0) (d : Domain D) → ShapeLaws d → (def : Def) (program : Program) → IsWellSorted def → IsProgramOf def program → (table : List (Triple D)) → TableFits (setting_of def program) table → (c : Cover D) → CallFits (setting_of def program) c → (stop : Stop D) → stop ≡ Ill →
    Gives (abstract_outputs d (table_answer d table) (setting_of def program) c) (Err stop) → ⊥
never_ill D d shapes def program sorted is_program table fits c h stop e g =
    let w = walks_fit D d shapes def program sorted is_program (table_answer d table) (answers_of_tables_fit D d shapes (setting_of def program) table fits) c h in
    let is : abstract_outputs d (table_answer d table) (setting_of def program) c ≡ ill = subst (λ (st : Stop D). Gives (abstract_outputs d (table_answer d table) (setting_of def program) c) (Err st)) e g in
    subst (EndsFit (setting_of def program) c.hook) is w.ends
