-- The walk of a call's rule.
use Rattle.std.proofs.Common.{◌≡◌, List, [], ◌∷◌, ◌++◌, length, map, Result, Ok, Err, ap, sym, subst, ◌∙◌, arith, append-nil}
use Rattle.sk_def.specs.declared.def.Rule.{Rule}
use Rattle.sk_walk.specs.Walks.{Walks}
use Rattle.sk_deriv.specs.declared.call.Call.{Call}
use Rattle.sk_deriv.specs.declared.forest.Node.{Node}
use Rattle.sk_deriv.specs.Tree.{Derivation, done}
use Rattle.sk_deriv.specs.Moves.{Setting}
use Rattle.sk_concrete.specs.declared.worlds.Worlds.{Worlds}
use Rattle.sk_concrete.specs.declared.world.Answer.{Answer}
use Rattle.sk_concrete.specs.declared.concrete.Concrete.{Concrete}
use Rattle.sk_concrete.specs.declared.concrete.ConcreteStop.{ConcreteStop}
use Rattle.sk_concrete.specs.declared.concrete.ConcreteStop.TheVariants.{Unanswered, NoMemory}
use Rattle.sk_concrete.specs.Meaning.{concrete_meaning}
use Rattle.sk_concrete.specs.Rules.{start_at, world_of}
use Rattle.sk_concrete.specs.Trees.{AreThere}
use Rattle.sk_concrete.specs.Calls.{Path, paths, along, spread_all, calls, Agrees, IsNext, rule_calls, rule_trails, RuleWalks}
use Rattle.sk_concrete.proofs.There.{All-none}
use Rattle.sk_concrete.proofs.Walked.{Goes, walked}

-- a reading of a call's rule with these answers, from the one world that the rule starts from
pub record Begins (s : Setting) (c : Call) (rule : Rule) (handed : List Answer) (r : Concrete) (w : Worlds) : Type 0 where
  pub names_are : r.names ≡ s.names
  pub point_is : r.point ≡ c.point
  pub handed_are : r.handed.now ≡ handed
  pub one : w.list ≡ world_of (start_at s.nodes rule c) ∷ []

module _ (s : Setting) (c : Call) (rule : Rule) (handed : List Answer) (r t : Concrete) (w : Worlds) (begins : Begins s c rule handed r w) where
  abbrev start : List Path
  start = (0, (done, start_at s.nodes rule c)) ∷ []

  paths_start : (nodes : List Node) → paths nodes w.list ≡ start
  paths_start nodes = ap (paths nodes) begins.one

  module _ (nodes : List Node) (known : Call → List Derivation) (agrees : Agrees nodes known handed (rule_calls s known c rule)) where
    abbrev expected : List Path → List Path
    expected vs = spread_all s.names c.point known (length rule.bones) rule.bones vs

    abbrev asked : List Path → List Call
    asked vs = calls s.names c.point known (length rule.bones) rule.bones vs

    agrees_at : Agrees nodes known r.handed.now (asked (paths nodes w.list) ++ [])
    agrees_at =
        subst (λ h. Agrees nodes known h (asked (paths nodes w.list) ++ [])) (sym begins.handed_are)
        (subst (λ vs. Agrees nodes known handed (asked vs ++ [])) (sym (paths_start nodes))
        (subst (Agrees nodes known handed) (sym (append-nil (asked start))) agrees))

    went : (answer : Result Worlds ConcreteStop) → Walks concrete_meaning 1 rule.bones r w t answer → Goes nodes s.names c.point known r t w (expected start) (asked start) [] answer
    went answer p =
        subst (λ vs. Goes nodes s.names c.point known r t w (expected vs) (asked vs) [] answer) (paths_start nodes)
        (walked nodes s.names c.point known (length rule.bones) (omega arith) (begins.names_are, begins.point_is) [] agrees_at p)

  pub rule_walked : (v : Worlds) → Walks concrete_meaning 1 rule.bones r w t (Ok v) → RuleWalks s c rule handed (Ok v)
  rule_walked v p nodes known agrees =
      let g = went nodes known agrees (Ok v) p in (
        g.took.paths_are ∙ append-nil (map (along (0, (done, start_at s.nodes rule c))) (rule_trails s known c rule)),
        g.took.there (subst (AreThere (length nodes)) (sym begins.one) (All-none _, tt)),
      )

  pub rule_stopped : (stop : ConcreteStop) → Walks concrete_meaning 1 rule.bones r w t (Err stop) → RuleWalks s c rule handed (Err stop)
  rule_stopped (Unanswered d) p = λ nodes known agrees.
      subst (λ h. IsNext (rule_calls s known c rule) h d) begins.handed_are (went nodes known agrees (Err (Unanswered d)) p)
  rule_stopped NoMemory p = tt
