-- The turns in which the calls of a rule are answered.
use Rattle.std.proofs.Common.{◌≡◌, true, ℕ, zero, suc, ◌-◌, ◌<◌, ◌≤◌, List, [], ◌∷◌, ◌++◌, length, map, Ok, Err, inl, inr, refl, ap, sym, subst, ◌∙◌, arith, append_assoc, append-nil, length-append}
use Rattle.std.specs.List.{filter_map, list_all}
use Rattle.std.proofs.lemmas.Bool.{cases_lt, and_from}
use Rattle.std.proofs.lemmas.Simd.{map-map}
use Rattle.sk_def.specs.declared.ids.HookId.{HookId}
use Rattle.sk_def.specs.declared.def.Rule.{Rule}
use Rattle.sk_def.specs.declared.def.Hook.{Hook}
use Rattle.sk_def.specs.declared.def.Con.{Con}
use Rattle.sk_def.specs.Sorts.{outputs_of}
use Rattle.sk_deriv.specs.declared.call.Call.{Call}
use Rattle.sk_deriv.specs.declared.forest.Node.{Node}
use Rattle.sk_deriv.specs.Forest.{tree_at}
use Rattle.sk_deriv.specs.Tree.{Derivation, height}
use Rattle.sk_deriv.specs.Moves.{Setting, IsValid}
use Rattle.sk_deriv.specs.Listing.{Trail, closed, derivations}
use Rattle.sk_deriv.proofs.ForestLemmas.{tree_at-append}
use Rattle.sk_deriv.proofs.Sorted.{member_from_contains}
use Rattle.sk_deriv.proofs.Derivations.{exact}
use Rattle.sk_concrete.specs.declared.world.World.{World}
use Rattle.sk_concrete.specs.declared.worlds.Worlds.{Worlds}
use Rattle.sk_concrete.specs.declared.world.Tree.{Tree}
use Rattle.sk_concrete.specs.declared.world.Answer.{Answer}
use Rattle.sk_concrete.specs.declared.concrete.ConcreteStop.TheVariants.{Unanswered}
use Rattle.sk_concrete.specs.Rules.{RuleFor}
use Rattle.sk_concrete.specs.Found.{NodesDerive}
use Rattle.sk_concrete.specs.Trees.{AreThere, Stand, Closes, Derives, trails_in}
use Rattle.sk_concrete.specs.Calls.{Path, path_of, paths, Agrees, IsNext, rule_calls, rule_trails, RuleWalks}
use Rattle.sk_concrete.specs.Fitting.{has_values, trees_fit, answer_fits, answers_fit}
use Rattle.sk_concrete.proofs.WorldsFit.{all_join, closed_fit, outputs_are}
use Rattle.sk_concrete.proofs.Forests.{stand_more}
use Rattle.sk_concrete.proofs.Lists.{map-same}

module _ (known : Call → List Derivation) where
  agrees_more : (nodes more : List Node) (handed : List Answer) (cs : List Call) → Agrees nodes known handed cs → Agrees (nodes ++ more) known handed cs
  agrees_more nodes more [] cs h = tt
  agrees_more nodes more (answer ∷ later) [] h = tt
  agrees_more nodes more (answer ∷ later) (c ∷ cs) h = ((h.0.0, stand_more nodes more answer.trees (known c) h.0.1), agrees_more nodes more later cs h.1)

  agrees_next : (nodes : List Node) (handed : List Answer) (answer : Answer) (before : List Call) (d : Call) (after : List Call) → length before ≡ length handed →
      Agrees nodes known handed (before ++ d ∷ after) → answer.hook.0 ≡ d.hook.0 → Stand nodes answer.trees (known d) → Agrees nodes known (handed ++ answer ∷ []) (before ++ d ∷ after)
  agrees_next nodes [] answer [] d after l h e s = ((e, s), tt)
  agrees_next nodes [] answer (b ∷ before) d after l h e s = absurd (omega (arith, l))
  agrees_next nodes (x ∷ handed) answer [] d after l h e s = absurd (omega (arith, l))
  agrees_next nodes (x ∷ handed) answer (b ∷ before) d after l h e s = (h.0, agrees_next nodes handed answer before d after (omega (arith, l)) h.1 e s)

module _ (s : Setting) (n : ℕ) (c : Call) (rule : Rule) where
  abbrev pub asked : List Call
  asked = rule_calls s (derivations s n) c rule

  -- the first calls of the rule are answered, and the forest has grown by derivations of height at most n
  pub record Turned (before now : List Node) (handed : List Answer) : Type 0 where
    pub more : List Node
    pub grown : now ≡ before ++ more
    pub agrees : Agrees now (derivations s n) handed asked
    pub nodes_derive : (m : ℕ) → n ≤ m → NodesDerive s m before → NodesDerive s m now
    pub fit : answers_fit s.def handed ≡ true

  pub turned_none : (nodes : List Node) → Turned nodes nodes []
  turned_none nodes = record { more = []; grown = sym (append-nil nodes); agrees = tt; nodes_derive = λ m l h. h; fit = refl }

  -- fewer calls are answered than there are
  pub fewer : (handed : List Answer) (d : Call) → IsNext asked handed d → length handed < length asked
  fewer handed d next = omega (arith, next.counted, ap length next.whole, length-append next.before (d ∷ next.after))

  pub turned_next : (before now now' : List Node) (handed handed' : List Answer) (d : Call) (answer : Answer) → Turned before now handed → IsNext asked handed d →
      answer.hook ≡ d.hook → Derives s n d now now' answer.trees → handed' ≡ handed ++ answer ∷ [] → Turned before now' handed'
  turned_next before now now' handed handed' d answer turned next of_hook found made = record {
    more = turned.more ++ found.more;
    grown = found.grown ∙ ap (λ ns. ns ++ found.more) turned.grown ∙ append_assoc before turned.more found.more;
    agrees =
        let old : Agrees now' (derivations s n) handed asked = subst (λ ns. Agrees ns (derivations s n) handed asked) (sym found.grown) (agrees_more (derivations s n) now found.more handed asked turned.agrees) in
        subst (λ h. Agrees now' (derivations s n) h asked) (sym made)
        (subst (Agrees now' (derivations s n) (handed ++ answer ∷ [])) (sym next.whole)
        (agrees_next (derivations s n) now' handed answer next.before d next.after next.counted (subst (Agrees now' (derivations s n) handed) next.whole old) (ap (λ (h : HookId). h.0) of_hook) found.stand));
    nodes_derive = λ m l h. found.nodes_derive m l (turned.nodes_derive m l h);
    fit = subst (λ answers. answers_fit s.def answers ≡ true) (sym made)
        (all_join (answer_fits s.def) handed (answer ∷ []) turned.fit
        (and_from _ _ (subst (λ (h : HookId). trees_fit (outputs_of s.def h) answer.trees ≡ true) (sym of_hook) found.fit) refl));
  }

  -- the derivations of the call, by its rule
  module _ (hook : Hook) (con : Con) (for_call : RuleFor s c rule hook con) where
    listed : derivations s (suc n) c ≡ filter_map (closed c rule) (rule_trails s (derivations s n) c rule)
    listed = rw (for_call.ins_fit, for_call.node_is, for_call.rule_is) refl

  trails_of : (nodes : List Node) (ws : List World) → trails_in nodes ws ≡ map (λ (v : Path). v.1) (paths nodes ws)
  trails_of nodes ws = sym (map-map (λ (v : Path). v.1) (path_of nodes) ws)

  trails_are : (nodes : List Node) (ws : List World) (ts : List Trail) → paths nodes ws ≡ map (λ p. (0, p)) ts → trails_in nodes ws ≡ ts
  trails_are nodes ws ts e =
      trails_of nodes ws ∙ ap (map (λ (v : Path). v.1)) e ∙ map-map (λ (v : Path). v.1) (λ (p : Trail). let r : Path = (0, p) in r) ts ∙ map-same (λ p. p) (λ p. refl) ts

  pub turned_all : (before now after : List Node) (handed : List Answer) (hook : Hook) (con : Con) (ws : List World) (trees : List Tree) → RuleFor s c rule hook con → Turned before now handed → list_all (has_values hook.outputs rule.outputs) ws ≡ true →
      paths now ws ≡ map (λ p. (0, p)) (rule_trails s (derivations s n) c rule) → Closes now after trees (filter_map (closed c rule) (trails_in now ws)) → Derives s (suc n) c before after trees
  turned_all before now after handed hook con ws trees for_call turned there e closes =
      let ts = derivations s (suc n) c in
      let are : filter_map (closed c rule) (trails_in now ws) ≡ ts = ap (filter_map (closed c rule)) (trails_are now ws (rule_trails s (derivations s n) c rule) e) ∙ sym (listed hook con for_call) in
      let closed_all : Closes now after trees ts = subst (Closes now after trees) are closes in
      record {
        more = turned.more ++ closed_all.more;
        grown = closed_all.grown ∙ ap (λ ns. ns ++ closed_all.more) turned.grown ∙ append_assoc before turned.more closed_all.more;
        stand = closed_all.stand;
        nodes_derive = λ m l h k within. elim (cases_lt k (length now)) [
          | inl old ↦
              subst (λ t. IsValid s t × (height t ≤ m)) (sym (ap (λ ns. tree_at ns k) closed_all.grown ∙ tree_at-append now closed_all.more k old))
              (turned.nodes_derive m (omega (arith, l)) h k old)
          | inr later ↦ (
              let d = (exact s (suc n)).sound_at c (tree_at after k) (member_from_contains ts (tree_at after k) (closed_all.are_new k (omega (arith, later)) within)) in
              (d.derives.valid, omega (arith, d.low, l)))
        ];
        fit = subst (λ sorts. trees_fit sorts trees ≡ true) (sym (outputs_are s.def c.hook hook for_call.hook_is)) (closed_fit after now c rule hook.outputs ws trees there closes.stand);
      }

less_one : (n : ℕ) → (n ≡ 0 → ⊥) → suc (n - 1) ≡ n
less_one zero h = absurd (h refl)
less_one (suc n) h = omega arith

module _ (s : Setting) (depth : ℕ) (c : Call) (rule : Rule) (deep : depth ≡ 0 → ⊥) (before now : List Node) (handed handed' : List Answer) (same : handed' ≡ handed)
    (turned : Turned s (depth - 1) c rule before now handed) where
  agrees_now : Agrees now (derivations s (depth - 1)) handed' (asked s (depth - 1) c rule)
  agrees_now = subst (λ h. Agrees now (derivations s (depth - 1)) h (asked s (depth - 1) c rule)) (sym same) turned.agrees

  -- the walk ended, and its worlds are closed
  pub call_derived : (after : List Node) (hook : Hook) (con : Con) (v : Worlds) (ws : List World) (trees : List Tree) → RuleFor s c rule hook con → RuleWalks s c rule handed' (Ok v) → list_all (has_values hook.outputs rule.outputs) v.list ≡ true → ws ≡ v.list →
      Closes now after trees (filter_map (closed c rule) (trails_in now ws)) → Derives s depth c before after trees
  call_derived after hook con v ws trees for_call walks there are closes =
      let w = walks now (derivations s (depth - 1)) agrees_now in
      subst (λ m. Derives s m c before after trees) (less_one depth deep)
      (turned_all s (depth - 1) c rule before now after handed hook con ws trees for_call turned (subst (λ us. list_all (has_values hook.outputs rule.outputs) us ≡ true) (sym are) there) (ap (paths now) are ∙ w.0) closes)

  -- the walk's worlds are there
  pub worlds_there : (v : Worlds) (ws : List World) → RuleWalks s c rule handed' (Ok v) → ws ≡ v.list → AreThere (length now) ws
  worlds_there v ws walks are = subst (AreThere (length now)) (sym are) (walks now (derivations s (depth - 1)) agrees_now).1

  -- the walk stopped at a call
  pub stopped_at : (d : Call) → RuleWalks s c rule handed' (Err (Unanswered d)) → IsNext (asked s (depth - 1) c rule) handed d
  stopped_at d walks = subst (λ h. IsNext (asked s (depth - 1) c rule) h d) same (walks now (derivations s (depth - 1)) agrees_now)

-- a call that has no derivation
pub derives_none : (s : Setting) (n : ℕ) (c : Call) (nodes : List Node) → derivations s n c ≡ [] → Derives s n c nodes nodes []
derives_none s n c nodes e = record { more = []; grown = sym (append-nil nodes); stand = subst (Stand nodes []) (sym e) tt; nodes_derive = λ m l h. h; fit = refl }
