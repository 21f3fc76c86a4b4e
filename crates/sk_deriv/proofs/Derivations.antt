-- The listing of derivations has exactly the derivations of a call to a depth, in the order of their words.
use Rattle.std.proofs.Common.{◌≡◌, ℕ, zero, suc, ◌<◌, ◌≤◌, Bool, true, false, cond, List, [], length, Option, Some, None, refl, ap, sym, subst, ◌∙◌, arith}
use Rattle.std.specs.List.{filter_map, slice_get}
use Rattle.std.specs.Option.{option_map, option_and_then, option_map_or}
use Rattle.sk_def.specs.declared.ids.HookId.{HookId}
use Rattle.sk_def.specs.declared.def.Rule.{Rule}
use Rattle.sk_def.specs.Rules.{rule_of}
use Rattle.sk_term.specs.declared.node.TermNode.{TermNode}
use Rattle.sk_filter.specs.Arguments.{Values}
use Rattle.sk_deriv.specs.Tree.{Derivation, derivation, Steps, done, pick, sub, height, greatest_height}
use Rattle.sk_deriv.specs.Env.{values_at, start_of}
use Rattle.sk_deriv.specs.Moves.{Moves, Setting, IsValid, AllValid, Replays, fit_hook}
use Rattle.sk_deriv.specs.declared.call.Call.{Call}
use Rattle.sk_deriv.specs.Results.{DerivesWithin}
use Rattle.sk_deriv.specs.Listing.{Trail, trails, closed, rule_at, derivations}
use Rattle.sk_deriv.proofs.Induction.{EachSub, valid_from_EachSub}
use Rattle.sk_deriv.proofs.Sorted.{Member}
use Rattle.sk_deriv.proofs.Members.{InOrder, InOrder-filter_map, member_filter_map, source_of_filter_map}
use Rattle.sk_deriv.proofs.TrailLemmas.{IsOf, sound, complete, followed_by_done}
use Rattle.sk_deriv.proofs.TrailOrder.{TreeBefore, TrailBefore, ordered}

record Closed (c : Call) (rule : Rule) (p : Trail) (t : Derivation) : Type 0 where
  outs : Values
  outs_are : values_at p.1 rule.outputs ≡ Some outs
  tree_is : t ≡ derivation c.hook c.point c.ins p.0 outs

closed_by : (c : Call) (rule : Rule) (p : Trail) (t : Derivation) (o : Option Values) → values_at p.1 rule.outputs ≡ o → option_map (derivation c.hook c.point c.ins p.0) o ≡ Some t → Closed c rule p t
closed_by c rule p t None e h = absurd (cc)
closed_by c rule p t (Some outs) e h = record { outs = outs; outs_are = e; tree_is = let f : derivation c.hook c.point c.ins p.0 outs ≡ t = cc in sym f }

record RuleAt (s : Setting) (c : Call) (r : TermNode × Rule) : Type 0 where
  node_is : slice_get s.nodes c.point ≡ Some r.0
  rule_is : rule_of s.def c.hook r.0.con ≡ Some r.1

rule_at_node : (s : Setting) (c : Call) (r : TermNode × Rule) (node : TermNode) (q : Option Rule) → slice_get s.nodes c.point ≡ Some node → rule_of s.def c.hook node.con ≡ q → option_map (λ (rule : Rule). let x : TermNode × Rule = (node, rule) in x) q ≡ Some r → RuleAt s c r
rule_at_node s c r node None e f h = absurd (cc)
rule_at_node s c r node (Some rule) e f h =
    let x : TermNode × Rule = (node, rule) in
    let same : x ≡ r = cc in
    subst (λ (w : TermNode × Rule). RuleAt s c w) same (record { node_is = e; rule_is = f })

rule_at_is : (s : Setting) (c : Call) (r : TermNode × Rule) (o : Option TermNode) → slice_get s.nodes c.point ≡ o → option_and_then (λ node. option_map (λ rule. (node, rule)) (rule_of s.def c.hook node.con)) o ≡ Some r → RuleAt s c r
rule_at_is s c r None e h = absurd (cc)
rule_at_is s c r (Some node) e h = rule_at_node s c r node (rule_of s.def c.hook node.con) e refl h

EachSub-weaker : (P Q : Derivation → Type 0) → ((t : Derivation) → P t → Q t) → (steps : Steps) → EachSub P steps → EachSub Q steps
EachSub-weaker P Q f done h = tt
EachSub-weaker P Q f (pick k rest) h = EachSub-weaker P Q f rest h
EachSub-weaker P Q f (sub t rest) h = (f t h.0, EachSub-weaker P Q f rest h.1)

module _ (s : Setting) where
  abbrev pub Low : ℕ → Derivation → Type 0
  Low n t = IsValid s t × (height t ≤ n)

  height_low : (n : ℕ) (steps : Steps) → EachSub (Low n) steps → greatest_height steps ≤ n
  height_low n done h = omega arith
  height_low n (pick k rest) h = height_low n rest h
  height_low n (sub t rest) h = omega (arith, h.0.1, height_low n rest h.1)

  low_from_height : (n : ℕ) (steps : Steps) → AllValid s steps → greatest_height steps ≤ n → EachSub (Low n) steps
  low_from_height n done h l = tt
  low_from_height n (pick k rest) h l = low_from_height n rest h l
  low_from_height n (sub t rest) h l = ((h.0, omega arith), low_from_height n rest h.1 (omega arith))

  pub record Exact (n : ℕ) : Type 0 where
    pub sound_at : (c : Call) (t : Derivation) → Member t (derivations s n c) → DerivesWithin s c n t
    pub complete_at : (c : Call) (t : Derivation) → DerivesWithin s c n t → Member t (derivations s n c)
    pub ordered_at : (c : Call) → InOrder TreeBefore (derivations s n c)

  is_of : (n : ℕ) (ih : Exact n) (c : Call) (t : Derivation) → Member t (derivations s n c) → IsOf c t
  is_of n ih c t m = let d = (ih.sound_at c t m).derives in record { same_hook = d.same_hook; same_point = d.same_point; same_ins = d.same_ins }

  is_low : (n : ℕ) (ih : Exact n) (c : Call) (t : Derivation) → Member t (derivations s n c) → Low n t
  is_low n ih c t m = let d = ih.sound_at c t m in (d.derives.valid, d.low)

  is_listed : (n : ℕ) (ih : Exact n) (c : Call) (t : Derivation) → IsOf c t → Low n t → Member t (derivations s n c)
  is_listed n ih c t i l = ih.complete_at c t (record { derives = record { valid = l.0; same_hook = i.same_hook; same_point = i.same_point; same_ins = i.same_ins }; low = l.1 })

  -- all trails of a rule at a node
  abbrev rule_trails : ℕ → Call → TermNode × Rule → List Trail
  rule_trails n c r = trails s.names c.point (derivations s n) (length r.1.bones) r.1.bones (start_of r.1 r.0 c.ins)

  sound_rule : (n : ℕ) (ih : Exact n) (c : Call) (r : TermNode × Rule) (t : Derivation) → fit_hook s c.hook c.ins ≡ true → RuleAt s c r → Member t (filter_map (closed c r.1) (rule_trails n c r)) → DerivesWithin s c (suc n) t
  sound_rule n ih c r t fit at m =
      let a = source_of_filter_map (closed c r.1) (rule_trails n c r) t m in
      let p = a.0 in
      let k = closed_by c r.1 p t (values_at p.1 r.1.outputs) refl a.2 in
      let l = sound s.names c.point (derivations s n) (Low n) (is_of n ih) (is_low n ih) (length r.1.bones) r.1.bones (start_of r.1 r.0 c.ins) p a.1 in
      let replays : Replays s c.hook c.point c.ins p.0 k.outs = record {
        ins_fit = fit;
        node = r.0;
        node_is = at.node_is;
        rule = r.1;
        rule_is = at.rule_is;
        ends = p.1;
        moves = subst (λ w. Moves s.names c.point r.1.bones (start_of r.1 r.0 c.ins) w p.1 done) (followed_by_done p.0) (l.moves done);
        outs_are = k.outs_are;
      } in
      let valid : AllValid s p.0 = valid_from_EachSub s p.0 (EachSub-weaker (Low n) (IsValid s) (λ u h. h.0) p.0 l.each_sub) in
      let whole : DerivesWithin s c (suc n) (derivation c.hook c.point c.ins p.0 k.outs) = record {
        derives = record { valid = (replays, valid); same_hook = refl; same_point = refl; same_ins = refl };
        low = omega (arith, height_low n p.0 l.each_sub);
      } in
      subst (DerivesWithin s c (suc n)) (sym k.tree_is) whole

  sound_rules : (n : ℕ) (ih : Exact n) (c : Call) (o : Option (TermNode × Rule)) (t : Derivation) → fit_hook s c.hook c.ins ≡ true → rule_at s c ≡ o → Member t (option_map_or (λ r. filter_map (closed c r.1) (rule_trails n c r)) o []) → DerivesWithin s c (suc n) t
  sound_rules n ih c None t fit e m = absurd m
  sound_rules n ih c (Some r) t fit e m = sound_rule n ih c r t fit (rule_at_is s c r (slice_get s.nodes c.point) refl e) m

  sound_fit : (n : ℕ) (ih : Exact n) (c : Call) (b : Bool) (t : Derivation) → fit_hook s c.hook c.ins ≡ b → Member t (cond b (option_map_or (λ r. filter_map (closed c r.1) (rule_trails n c r)) (rule_at s c) []) []) → DerivesWithin s c (suc n) t
  sound_fit n ih c true t e m = sound_rules n ih c (rule_at s c) t e refl m
  sound_fit n ih c false t e m = absurd m

  complete_node : (n : ℕ) (ih : Exact n) (hook : HookId) (point : ℕ) (ins : Values) (steps : Steps) (outs : Values) → Replays s hook point ins steps outs → AllValid s steps → greatest_height steps ≤ n →
      Member (derivation hook point ins steps outs) (derivations s (suc n) (record { hook = hook; point = point; ins = ins }))
  complete_node n ih hook point ins steps outs v a l =
      let c : Call = record { hook = hook; point = point; ins = ins } in
      let r : TermNode × Rule = (v.node, v.rule) in
      let g = complete s.names point (derivations s n) (Low n) (is_listed n ih) v.moves (length v.rule.bones) (omega arith) (low_from_height n steps a l) in
      let at : rule_at s c ≡ Some r = rw v.node_is (rw v.rule_is refl) in
      let ends : values_at g.trail.1 v.rule.outputs ≡ Some outs = ap (λ w. values_at w v.rule.outputs) (sym g.ends_are) ∙ v.outs_are in
      let steps_same : g.trail.0 ≡ steps = sym (followed_by_done g.trail.0) ∙ sym g.steps_are in
      let close : closed c v.rule g.trail ≡ Some (derivation hook point ins steps outs) = ap (λ o. option_map (derivation hook point ins g.trail.0) o) ends ∙ ap (λ w. Some (derivation hook point ins w outs)) steps_same in
      let m : Member (derivation hook point ins steps outs) (filter_map (closed c v.rule) (rule_trails n c r)) = member_filter_map (closed c v.rule) (rule_trails n c r) g.trail (derivation hook point ins steps outs) g.of_list close in
      rw (v.ins_fit, at) m

  complete_tree : (n : ℕ) (ih : Exact n) (c : Call) (t : Derivation) → DerivesWithin s c (suc n) t → Member t (derivations s (suc n) c)
  complete_tree n ih c (derivation hook point ins steps outs) d =
      let e : (let w : Call = record { hook = hook; point = point; ins = ins } in w) ≡ c =
      λ i. record { hook = d.derives.same_hook i; point = d.derives.same_point i; ins = d.derives.same_ins i } in
      subst (λ w. Member (derivation hook point ins steps outs) (derivations s (suc n) w)) e
      (complete_node n ih hook point ins steps outs d.derives.valid.0 d.derives.valid.1 (omega (arith, d.low)))

  close_in_order : (c : Call) (rule : Rule) (p q : Trail) (t u : Derivation) → TrailBefore p q → closed c rule p ≡ Some t → closed c rule q ≡ Some u → TreeBefore t u
  close_in_order c rule p q t u h e f =
      let a = closed_by c rule p t (values_at p.1 rule.outputs) refl e in
      let b = closed_by c rule q u (values_at q.1 rule.outputs) refl f in
      subst (λ w. TreeBefore w u) (sym a.tree_is) (subst (λ w. TreeBefore (derivation c.hook c.point c.ins p.0 a.outs) w) (sym b.tree_is) h)

  ordered_rules : (n : ℕ) (ih : Exact n) (c : Call) (o : Option (TermNode × Rule)) → InOrder TreeBefore (option_map_or (λ r. filter_map (closed c r.1) (rule_trails n c r)) o [])
  ordered_rules n ih c None = tt
  ordered_rules n ih c (Some r) =
      InOrder-filter_map TrailBefore TreeBefore (closed c r.1) (close_in_order c r.1) (rule_trails n c r)
      (ordered s.names c.point (derivations s n) ih.ordered_at (length r.1.bones) r.1.bones (start_of r.1 r.0 c.ins))

  ordered_fit : (b : Bool) (xs : List Derivation) → InOrder TreeBefore xs → InOrder TreeBefore (cond b xs [])
  ordered_fit true xs h = h
  ordered_fit false xs h = tt

  some_height : (t : Derivation) → 0 < height t
  some_height (derivation hook point ins steps outs) = omega arith

  exact_zero : Exact 0
  exact_zero = record {
    sound_at = λ c t m. absurd m;
    complete_at = λ c t d. absurd (omega (arith, d.low, some_height t));
    ordered_at = λ c. tt;
  }

  -- the listing is exact
  pub exact : (n : ℕ) → Exact n
  exact zero = exact_zero
  exact (suc n) =
      let ih = exact n in
      record {
        sound_at = λ c t m. sound_fit n ih c (fit_hook s c.hook c.ins) t refl m;
        complete_at = complete_tree n ih;
        ordered_at = λ c. ordered_fit (fit_hook s c.hook c.ins) _ (ordered_rules n ih c (rule_at s c));
      }
