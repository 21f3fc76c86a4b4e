-- What an accepted table says of derivations is so.
use Rattle.std.proofs.Common.{◌≡◌, ℕ, Bool, true, false, List, [], ◌∷◌, length, map, Option, Some, None, refl, sym, ◌∙◌, subst}
use Rattle.std.specs.Prelude.{All, if◌then◌else◌, filter, slice_get, ◌||◌}
use Rattle.std.specs.List.{AllByRecursion, AllZip, list_any}
use Rattle.std.specs.Option.{option_map_or}
use Rattle.std.proofs.lemmas.Bool.{and_parts, and_from, eqb-true, eq-eqb, cond_both}
use lib.Pointwise.{pointwise_long}
use Rattle.std.proofs.lemmas.List.Elements.{All-from_recursion, recursion_from_All}
use Rattle.sk_def.specs.declared.ids.HookId.{HookId}
use Rattle.sk_def.specs.declared.def.Rule.{Rule}
use Rattle.sk_def.specs.Rules.{rule_of}
use Rattle.sk_term.specs.declared.node.TermNode.{TermNode}
use Rattle.sk_filter.specs.Arguments.{Values}
use Rattle.sk_deriv.specs.Env.{values_at, start_of}
use Rattle.sk_deriv.specs.Tree.{Derivation, derivation, Steps, done, pick, sub, hook_of, point_of, ins_of, outs_of}
use Rattle.sk_deriv.specs.Moves.{Setting, Replays, IsValid, AllValid}
use Rattle.sk_deriv.proofs.Induction.{EachSub, induction}
use Rattle.sk_lattice.specs.Domain.{Domain}
use Rattle.sk_value.specs.declared.value.Value.{Value}
use Rattle.sk_value.specs.declared.flow.Flow.{Flow}
use Rattle.sk_value.specs.declared.flow.Flow.TheVariants as concrete
use Rattle.sk_lattice.specs.declared.store.AbsStore.{AbsStore}
use Rattle.sk_lattice.specs.declared.store.AbsStore.TheVariants.{Empty, Cells}
use Rattle.sk_lattice.specs.declared.flow.AbsFlow.{AbsFlow}
use Rattle.sk_lattice.specs.declared.flow.AbsFlow.TheVariants as flow
use Rattle.sk_lattice.specs.Order.{stores_fit, flows_fit, tuples_fit}
use Rattle.sk_lattice.specs.Merge.{tuple_meet}
use Rattle.sk_lattice.specs.Covers.{cell_covers, store_covers, flow_covers, tuple_covers}
use Rattle.sk_lattice.specs.Laws.{TupleLaws}
use Rattle.sk_absfilter.specs.Abstract.{Outcome}
use Rattle.sk_absfilter.specs.Laws.{outcome_covers, outcome_leq, FiltersAreSound}
use Rattle.sk_table.specs.declared.triple.Triple.{Triple}
use Rattle.sk_table.specs.declared.triple.Cover.{Cover}
use Rattle.sk_abswalk.specs.Walk.{AbsEnv, Flows, Ends, uncovered, ill, with, Walk, quiet, there, Answers, abstract_world, rule_at, walk_of, abstract_outputs}
use Rattle.sk_abswalk.specs.Tables.{is_above, outcome_meet, meet_from, table_answer, lies_below, call_of, is_justified, is_covered, IsCovered, Bounds, IsBounded, IsSound, AcceptedAreSound}
use Rattle.sk_abswalk.proofs.Relations.{Matches, Holds, Has, holds_after_world, each_more, test_from_zip, zip_from_test}
use Rattle.sk_abswalk.proofs.Environments.{values_related, start_related}
use Rattle.sk_abswalk.proofs.Bones.{FlowCovers, EnvCovers, has_covers, bones_covered, IsAnswered}

-- tuples that cover one tuple are of its sorts
module _ (D : Type 0) (d : Domain D) where
  stores_fit_covering : (a b : AbsStore D) (t : List (Option Value)) → store_covers d a t ≡ true → store_covers d b t ≡ true → stores_fit a b ≡ true
  stores_fit_covering (Cells a) (Cells b) t h k = eq-eqb (length a) (length b) (pointwise_long (cell_covers d) a t h ∙ sym (pointwise_long (cell_covers d) b t k))
  stores_fit_covering Empty b t h k = refl
  stores_fit_covering (Cells a) Empty t h k = refl

  flows_fit_covering : (v : Flow) (a b : AbsFlow D) → flow_covers d a v ≡ true → flow_covers d b v ≡ true → flows_fit a b ≡ true
  flows_fit_covering (concrete.Int n) (flow.Int a) (flow.Int b) h k = refl
  flows_fit_covering (concrete.Bool n) (flow.Bool a) (flow.Bool b) h k = refl
  flows_fit_covering (concrete.Val n) (flow.Val a) (flow.Val b) h k = refl
  flows_fit_covering (concrete.Store t) (flow.Store a) (flow.Store b) h k = stores_fit_covering a b t h k
  flows_fit_covering _ _ _ h k = absurd cc

  covering_fit : (t : Values) (a b : Flows D) → tuple_covers d a t ≡ true → tuple_covers d b t ≡ true → tuples_fit a b ≡ true
  covering_fit [] [] [] h k = refl
  covering_fit (v ∷ t) (x ∷ a) (y ∷ b) h k =
      let p = and_parts _ _ h in
      let q = and_parts _ _ k in
      and_from _ _ (flows_fit_covering v x y p.0 q.0) (covering_fit t a b p.1 q.1)
  covering_fit _ _ _ h k = absurd cc

module _ (D : Type 0) (d : Domain D) (tuples : TupleLaws d) where
  -- what all outcomes cover their meet covers
  meet_two : (a b : Outcome D) (t : Values) → outcome_covers d a t ≡ true → outcome_covers d b t ≡ true → outcome_covers d (outcome_meet d a b) t ≡ true
  meet_two None b t h k = absurd cc
  meet_two (Some a) None t h k = absurd cc
  meet_two (Some a) (Some b) t h k =
      let m = tuples.meet_covers a b t h k in
      subst (λ fit. outcome_covers d (if fit then tuple_meet d a b else None) t ≡ true) (sym (covering_fit D d t a b h k)) (subst (λ o. outcome_covers d o t ≡ true) (sym m.is) m.covers)

  meet_all : (os : List (Outcome D)) (t : Values) → AllByRecursion (λ o. outcome_covers d o t ≡ true) os → (met : Option (Outcome D)) → ((m : Outcome D) → met ≡ Some m → outcome_covers d m t ≡ true) → (o : Outcome D) → meet_from d met os ≡ Some o → outcome_covers d o t ≡ true
  meet_all [] t all met h o e = h o e
  meet_all (x ∷ os) t all None h o e =
      meet_all os t all.1 (Some x) (λ m same. let s : x ≡ m = cc in subst (λ o. outcome_covers d o t ≡ true) s all.0) o e
  meet_all (x ∷ os) t all (Some m) h o e =
      meet_all os t all.1 (Some (outcome_meet d m x)) (λ n same. let s : outcome_meet d m x ≡ n = cc in subst (λ o. outcome_covers d o t ≡ true) s (meet_two m x t (h m refl) all.0)) o e

  -- what lies above covers more
  outcome_more : (a b : Outcome D) (t : Values) → outcome_leq d a b ≡ true → outcome_covers d a t ≡ true → outcome_covers d b t ≡ true
  outcome_more None b t low h = absurd cc
  outcome_more (Some a) None t low h = absurd cc
  outcome_more (Some a) (Some b) t low h = tuples.covers_more a b t low h

  below_covers : (ends : Ends D (Flows D)) (outs : Outcome D) (t : Values) → lies_below d ends outs ≡ true → Holds (Has (λ a. tuple_covers d a t ≡ true)) ends → outcome_covers d outs t ≡ true
  below_covers (uncovered c) outs t low h = absurd cc
  below_covers ill outs t low h = absurd cc
  below_covers (with o) outs t low h = outcome_more o outs t low (has_covers D d o t h)

  there_covers : (flows : Option (Flows D)) (t : Values) → Matches (AllZip (FlowCovers D d)) flows (Some t) → Holds {D = D} (Has (λ a. tuple_covers d a t ≡ true)) (there flows)
  there_covers None t h = tt
  there_covers (Some f) t h = test_from_zip (flow_covers d) f t h

  -- nothing is covered by none
  bounds_from : (s : Setting) (c : Cover D) (outs : Outcome D) → ((t : Derivation) → IsCovered d s c t → outcome_covers d outs (outs_of t) ≡ true) → Bounds d s c outs
  bounds_from s c None h = record { covers = h; none = λ _ t k. let no = h t k in absurd cc }
  bounds_from s c (Some a) h = record { covers = h; none = λ e. absurd cc }

pub rule_there : (s : Setting) (hook : HookId) (point : ℕ) (node : TermNode) (rule : Rule) → slice_get s.nodes point ≡ Some node → rule_of s.def hook node.con ≡ Some rule → rule_at s hook point ≡ Some (node, rule)
rule_there s hook point node rule e k = rw (e, k) refl

same_id : (a b : HookId) → a.0 ≡ b.0 → a ≡ b
same_id a b e = λ i. record { 0 = e i }

module _ (D : Type 0) (d : Domain D) (tuples : TupleLaws d) (filters : FiltersAreSound d) (s : Setting) where
  -- the walk through the rule that a derivation replays covers its outputs
  rule_holds : (answers : Answers D) (c : Cover D) (ins : Values) (steps : Steps) (outs : Values) → Replays s c.hook c.point ins steps outs → tuple_covers d c.ins ins ≡ true → EachSub (IsAnswered D d answers) steps → Holds (Has (λ a. tuple_covers d a outs ≡ true)) (abstract_outputs d answers s c)
  rule_holds answers c ins steps outs r h known =
      let first : Walk D (AbsEnv D) = abstract_world d answers s.names c.point (length r.rule.bones) r.rule.bones (start_of r.rule r.node c.ins) in
      subst
      (λ (o : Option (TermNode × Rule)). Holds (Has (λ a. tuple_covers d a outs ≡ true)) (option_map_or (walk_of d answers s.names c.point c.ins) o (quiet ill)).ends)
      (sym (rule_there s c.hook c.point r.node r.rule r.node_is r.rule_is))
      (holds_after_world (λ a. EnvCovers D d a r.ends) (Has (λ a. tuple_covers d a outs ≡ true)) first.asked first.ends (λ env. quiet (there (values_at env r.rule.outputs)))
      (bones_covered D d tuples filters answers s.names c.point (length r.rule.bones) (start_of r.rule r.node c.ins)
      (start_related (FlowCovers D d) r.rule r.node c.ins ins (zip_from_test (flow_covers d) c.ins ins h)) r.moves known)
      (λ env e. there_covers D d tuples (values_at env r.rule.outputs) outs
      (subst (Matches (AllZip (FlowCovers D d)) (values_at env r.rule.outputs)) r.outs_are (values_related (FlowCovers D d) env r.ends e r.rule.outputs))))

  -- the triple is sound for one derivation
  abbrev SoundFor : Derivation → Triple D → Type 0
  SoundFor t triple = hook_of t ≡ triple.hook → point_of t ≡ triple.point → tuple_covers d triple.ins (ins_of t) ≡ true → outcome_covers d triple.outs (outs_of t) ≡ true

  above_covers : (t : Derivation) (c : Cover D) (triple : Triple D) → c.hook ≡ hook_of t → c.point ≡ point_of t → tuple_covers d c.ins (ins_of t) ≡ true → is_above d c triple ≡ true → SoundFor t triple → outcome_covers d triple.outs (outs_of t) ≡ true
  above_covers t c triple hook point covers above sound =
      let p = and_parts _ _ above in
      let q = and_parts _ _ p.1 in
      sound (sym hook ∙ sym (same_id _ _ (eqb-true _ _ p.0))) (sym point ∙ sym (eqb-true _ _ q.0)) (tuples.covers_more c.ins triple.ins (ins_of t) q.1 covers)

  all_above : (t : Derivation) (c : Cover D) (table : List (Triple D)) → c.hook ≡ hook_of t → c.point ≡ point_of t → tuple_covers d c.ins (ins_of t) ≡ true → AllByRecursion (SoundFor t) table → AllByRecursion (λ o. outcome_covers d o (outs_of t) ≡ true) (map (λ triple. triple.outs) (filter (is_above d c) table))
  all_above t c [] hook point covers sound = tt
  all_above t c (triple ∷ table) hook point covers sound =
      cond_both (is_above d c triple) (triple ∷ filter (is_above d c) table) (filter (is_above d c) table) (λ l. AllByRecursion (λ o. outcome_covers d o (outs_of t) ≡ true) (map (λ triple. triple.outs) l))
      (λ above. (above_covers t c triple hook point covers above sound.0, all_above t c table hook point covers sound.1))
      (λ _. all_above t c table hook point covers sound.1)

  -- a table whose triples are sound for a derivation answers its call soundly
  answered : (table : List (Triple D)) (t : Derivation) → AllByRecursion (SoundFor t) table → IsAnswered D d (table_answer d table) t
  answered table t sound c hook point covers o e =
      meet_all D d tuples (map (λ triple. triple.outs) (filter (is_above d c) table)) (outs_of t) (all_above t c table hook point covers sound) None (λ m n. absurd cc) o e

  module _ (table : List (Triple D)) (justified : AllByRecursion (λ triple. is_justified d s table triple ≡ true) table) where
    -- all triples are sound for a valid derivation
    abbrev AllSound : Derivation → Type 0
    AllSound t = IsValid s t → AllByRecursion (SoundFor t) table

    subs_answered : (steps : Steps) → AllValid s steps → EachSub AllSound steps → EachSub (IsAnswered D d (table_answer d table)) steps
    subs_answered done valid h = tt
    subs_answered (pick k rest) valid h = subs_answered rest valid h
    subs_answered (sub t rest) valid h = (answered table t (h.0 valid.0), subs_answered rest valid.1 h.1)

    sound_step : (hook : HookId) (point : ℕ) (ins : Values) (steps : Steps) (outs : Values) → EachSub AllSound steps → AllSound (derivation hook point ins steps outs)
    sound_step hook point ins steps outs subs valid =
        each_more (λ triple. is_justified d s table triple ≡ true) (SoundFor (derivation hook point ins steps outs))
        (λ triple just h p covers.
        below_covers D d tuples (abstract_outputs d (table_answer d table) s (call_of triple)) triple.outs outs just
        (rule_holds (table_answer d table) (call_of triple) ins steps outs (subst (λ (q : ℕ). Replays s triple.hook q ins steps outs) p (subst (λ (k : HookId). Replays s k point ins steps outs) h valid.0)) covers (subs_answered steps valid.1 subs)))
        table justified

    -- by induction over derivations, of any height
    all_sound : (t : Derivation) → AllSound t
    all_sound = induction AllSound sound_step

    turned : (triples : List (Triple D)) → ((t : Derivation) → IsValid s t → AllByRecursion (SoundFor t) triples) → AllByRecursion (IsSound d s) triples
    turned [] h = tt
    turned (triple ∷ rest) h =
        (bounds_from D d tuples s (call_of triple) triple.outs (λ t k. (h t k.valid).0 k.same_hook k.same_point k.from_covered), turned rest (λ t valid. (h t valid).1))

    triples_sound : All (IsSound d s) table
    triples_sound = All-from_recursion (IsSound d s) table (turned table all_sound)

    bounded : (c : Cover D) (o : Outcome D) → table_answer d table c ≡ Some o → IsBounded d s table c
    bounded c o e =
        record {
          outs = o;
          is_answer = e;
          bounds = bounds_from D d tuples s c o (λ t k. answered table t (all_sound t k.valid) c (sym k.same_hook) (sym k.same_point) k.from_covered o e);
        }

-- there is an answer where a triple lies above the call
module _ (D : Type 0) (d : Domain D) where
  met_there : (m : Outcome D) (os : List (Outcome D)) → (o : Outcome D) × (meet_from d (Some m) os ≡ Some o)
  met_there m [] = (m, refl)
  met_there m (x ∷ os) = met_there (outcome_meet d m x) os

  answer_there : (c : Cover D) (table : List (Triple D)) → is_covered d table c ≡ true → (o : Outcome D) × (table_answer d table c ≡ Some o)
  answer_there c [] h = absurd cc
  answer_there c (triple ∷ table) h =
      cond_both (is_above d c triple) (triple ∷ filter (is_above d c) table) (filter (is_above d c) table) (λ l. (o : Outcome D) × (meet_from d None (map (λ triple. triple.outs) l) ≡ Some o))
      (λ _. met_there triple.outs (map (λ triple. triple.outs) (filter (is_above d c) table)))
      (λ below. answer_there c table (later (is_above d c triple) (list_any (is_above d c) table) below h))
    where
      later : (a b : Bool) → a ≡ false → (a || b) ≡ true → b ≡ true
      later true b e h = absurd cc
      later false b e h = h

pub accepted_are_sound : (D : Type 0) (d : Domain D) → TupleLaws d → FiltersAreSound d → AcceptedAreSound d
accepted_are_sound D d tuples filters s covers table accepted =
    let justified = recursion_from_All (λ triple. is_justified d s table triple ≡ true) table accepted.justified in (
      triples_sound D d tuples filters s table justified,
      All-from_recursion (IsBounded d s table) covers
          (each_more (λ line. is_covered d table line ≡ true) (IsBounded d s table)
          (λ line h. let a = answer_there D d line table h in bounded D d tuples filters s table justified line a.0 a.1) covers
          (recursion_from_All (λ line. is_covered d table line ≡ true) covers accepted.covered)),
    )
