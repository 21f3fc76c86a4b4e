-- The walk of bones reads them as the definition of the lines says.
use Rattle.std.proofs.Common.{◌≡◌, ℕ, zero, suc, ◌+◌, ◌≤◌, List, [], ◌∷◌, ◌++◌, length, map, sum, Ok, refl, ap, ap₂, sym, ◌∙◌, arith, append_assoc, append-nil}
use Rattle.std.specs.List.{flat_map, filter_map}
use Rattle.std.specs.Option.{option_map_or}
use Rattle.std.proofs.lemmas.Simd.{map-map}
use Rattle.std.proofs.lemmas.List.Folds.{flat_map-map}
use Rattle.sk_base.specs.declared.flow.FlowSort.{FlowSort}
use Rattle.sk_def.specs.declared.ids.HookId.{HookId}
use Rattle.sk_def.specs.declared.ids.Var.{Var}
use Rattle.sk_def.specs.declared.bone.Target.{Target}
use Rattle.sk_def.specs.declared.bone.Bone.{Bone}
use Rattle.sk_def.specs.declared.bone.Bone.TheVariants.{Apply, Call, Either}
use Rattle.sk_def.specs.declared.filter.Filter.{Filter}
use Rattle.sk_def.specs.declared.def.Def.{Def}
use Rattle.sk_def.specs.Signatures.{results}
use Rattle.sk_def.specs.Layout.{branch, branch_places, first_of_branch, after_branches}
use Rattle.sk_def.specs.Sorts.{Sorts, outputs_of, after_filter, after_hook, after_merge}
use Rattle.sk_walk.specs.Walks.{Walks, WalksBranches, no_bone, filter_goes, hook_goes, merge_goes, no_branch, branch_goes}
use Rattle.sk_sort.specs.DefinedBefore.{sorts_after}
use Rattle.sk_sort.proofs.Walked.{shorter-drop, shorter-branch}
use Rattle.sk_deriv.specs.Env.{target_at, gain}
use Rattle.sk_constr.specs.declared.line.Part.{Part}
use Rattle.sk_constr.specs.declared.line.Line.{Line}
use Rattle.sk_constr.specs.declared.world.GenWorld.{GenWorld}
use Rattle.sk_constr.specs.declared.interp.GenInterp.{GenInterp}
use Rattle.sk_constr.specs.Operands.{PlaceEnv, places, operands_at}
use Rattle.sk_constr.specs.Positions.{flow_sort, sorts_at_ends, branch_sorts, positions_of}
use Rattle.sk_constr.specs.Lines.{env_after, last_position, line_at, lines_of}
use Rattle.sk_constr.specs.Worlds.{filtered, called, forked, branch_lines, merged}
use Rattle.sk_constr.specs.Meaning.{constraint_meaning}

no_more : (n : ℕ) → n ≡ n + 0
no_more n = omega arith

same_world : (g : Sorts) (e e' : PlaceEnv) (f f' : ℕ) (l l' : List Line) (p p' : List (List FlowSort)) → e ≡ e' → f ≡ f' → l ≡ l' → p ≡ p' →
    ◌≡◌ {A = GenWorld} (record { sorts = g; env = e; from = f; lines = l; positions = p }) (record { sorts = g; env = e'; from = f'; lines = l'; positions = p' })
same_world g e e' f f' l l' p p' a b c d = rw (a, b, c, d) refl

-- what the definition says stands after a list of bones
abbrev pub after_bones : Def → (point size first : ℕ) → GenWorld → List Bone → GenWorld
after_bones d point size first w bones = record {
  sorts = sorts_after d size w.sorts bones;
  env = env_after size first w.env bones;
  from = last_position size first w.from bones;
  lines = w.lines ++ lines_of point size first w.from w.env bones;
  positions = w.positions ++ positions_of d size w.sorts bones;
}

module _ (d : Def) (point : ℕ) where
  no_bones : (n first : ℕ) (w : GenWorld) → w ≡ after_bones d point n first w []
  no_bones n first w = same_world w.sorts w.env w.env w.from w.from w.lines _ w.positions _ refl refl (sym (append-nil w.lines)) (sym (append-nil w.positions))

  filter_step : (n first : ℕ) (w : GenWorld) (filter : Filter) (args outs : List Var) (rest : List Bone) →
      after_bones d point n (first + 1) (filtered first filter args outs w) rest ≡ after_bones d point (suc n) first w (Apply filter args outs ∷ rest)
  filter_step n first w filter args outs rest =
      let env = gain w.env outs (places first outs) in
      same_world _ _ _ _ _ _ _ _ _
      (ap (λ k. env_after n k env rest) (no_more (first + 1)))
      (ap (λ k. last_position n k first rest) (no_more (first + 1)))
      (append_assoc w.lines (line_at w.from (Part.Filter first filter (operands_at w.env args)) ∷ []) (lines_of point n (first + 1) first env rest))
      (append_assoc w.positions (filter_map flow_sort (results filter) ∷ []) (positions_of d n (after_filter w.sorts filter outs) rest))

  hook_step : (n first : ℕ) (w : GenWorld) (hook : HookId) (args : List Var) (target : Target) (outs : List Var) (rest : List Bone) →
      after_bones d point n (first + 1) (called d point first hook target args outs w) rest ≡ after_bones d point (suc n) first w (Call hook args target outs ∷ rest)
  hook_step n first w hook args target outs rest =
      let env = gain w.env outs (places first outs) in
      same_world _ _ _ _ _ _ _ _ _
      (ap (λ k. env_after n k env rest) (no_more (first + 1)))
      (ap (λ k. last_position n k first rest) (no_more (first + 1)))
      (append_assoc w.lines (option_map_or (λ at. line_at w.from (Part.Call first hook at (operands_at w.env args)) ∷ []) (target_at point w.env target) []) (lines_of point n (first + 1) first env rest))
      (append_assoc w.positions (outputs_of d hook ∷ []) (positions_of d n (after_hook d w.sorts hook outs) rest))

  -- the world at the end of a branch
  abbrev end_of : (n bone : ℕ) → GenWorld → List ℕ → List Bone → ℕ → GenWorld
  end_of n bone w counts bones k = after_bones d point n (first_of_branch bone counts k) (forked w) (branch counts k bones)

  merge_step : (n first : ℕ) (w : GenWorld) (counts : List ℕ) (exports : List Var) (rest : List Bone) →
      after_bones d point n (first + 1 + sum counts) (merged first exports w (map (end_of n first w counts rest) (branch_places 0 counts))) (after_branches counts rest)
      ≡ after_bones d point (suc n) first w (Either counts exports ∷ rest)
  merge_step n first w counts exports rest =
      let ks = branch_places 0 counts in
      let ends = map (end_of n first w counts rest) ks in
      let sorts : map (λ (end : GenWorld). end.sorts) ends ≡ branch_sorts d n w.sorts counts rest = map-map (λ (end : GenWorld). end.sorts) (end_of n first w counts rest) ks in
      let lines : flat_map (branch_lines first exports) ends ≡ flat_map (λ k. branch_lines first exports (end_of n first w counts rest k)) ks = flat_map-map (branch_lines first exports) (end_of n first w counts rest) ks in
      let positions : flat_map (λ (end : GenWorld). end.positions) ends ≡ flat_map (λ k. positions_of d n w.sorts (branch counts k rest)) ks = flat_map-map (λ (end : GenWorld). end.positions) (end_of n first w counts rest) ks in
      let env = gain w.env exports (places first exports) in
      let later = lines_of point n (first + 1 + sum counts) first env (after_branches counts rest) in
      let g = after_merge w.sorts exports (branch_sorts d n w.sorts counts rest) in
      let made : List Sorts → List Line → List (List FlowSort) → GenWorld = λ gs ls ps. record {
        sorts = after_merge w.sorts exports gs;
        env = env;
        from = first;
        lines = w.lines ++ ls;
        positions = w.positions ++ sorts_at_ends exports gs ∷ ps;
      } in
      ap (λ gs. after_bones d point n (first + 1 + sum counts) (made gs (flat_map (branch_lines first exports) ends) (flat_map (λ (end : GenWorld). end.positions) ends)) (after_branches counts rest)) sorts
      ∙ ap₂ (λ ls ps. after_bones d point n (first + 1 + sum counts) (made (branch_sorts d n w.sorts counts rest) ls ps) (after_branches counts rest)) lines positions
      ∙ same_world _ _ _ _ _ _ _ _ _ refl refl
      (append_assoc w.lines (flat_map (λ k. branch_lines first exports (end_of n first w counts rest k)) ks) later)
      (append_assoc w.positions (sorts_at_ends exports (branch_sorts d n w.sorts counts rest) ∷ flat_map (λ k. positions_of d n w.sorts (branch counts k rest)) ks) (positions_of d n g (after_branches counts rest)))

mutual
  pub reads : {first : ℕ} {bones : List Bone} {s t : GenInterp} {w v : GenWorld} (n : ℕ) → length bones ≤ n →
      Walks constraint_meaning first bones s w t (Ok v) → (t ≡ s) × (v ≡ after_bones s.checked.now s.point n first w bones)
  reads n short (no_bone {first} {s} {w}) = (refl, no_bones s.checked.now s.point n first w)
  reads zero short (filter_goes p q) = absurd (omega (arith, short))
  reads zero short (hook_goes p q) = absurd (omega (arith, short))
  reads zero short (merge_goes b p q) = absurd (omega (arith, short))
  reads (suc n) short (filter_goes {first} {filter} {args} {outs} {rest} {s} {t} {u} {w} {v} p q) =
      let later = rw (p.0, p.1) at (reads n (omega (arith, short)) q) in
      (later.0, later.1 ∙ filter_step s.checked.now s.point n first w filter args outs rest)
  reads (suc n) short (hook_goes {first} {hook} {args} {target} {outs} {rest} {s} {t} {u} {w} {v} p q) =
      let later = rw (p.0, p.1) at (reads n (omega (arith, short)) q) in
      (later.0, later.1 ∙ hook_step s.checked.now s.point n first w hook args target outs rest)
  reads (suc n) short (merge_goes {first} {counts} {exports} {rest} {s} {t} {u} {w = w} {v} {ends} b p q) =
      let inside = reads_branches n (omega (arith, short)) b in
      let here = rw (inside.0, inside.1) at p in
      let later = rw (here.0, here.1) at (reads n (shorter-drop n (sum counts) rest (omega (arith, short))) q) in
      (later.0, later.1 ∙ merge_step s.checked.now s.point n first w counts exports rest)

  reads_branches : {bone : ℕ} {counts ks : List ℕ} {bones : List Bone} {s t : GenInterp} {w : GenWorld} {ends : List GenWorld} (n : ℕ) → length bones ≤ n →
      WalksBranches constraint_meaning bone counts bones ks w s t (Ok ends) → (t ≡ s) × (ends ≡ map (end_of s.checked.now s.point n bone w counts bones) ks)
  reads_branches n short no_branch = (refl, refl)
  reads_branches n short (branch_goes {bone} {k} {counts} {places = ks} {bones} {w} {v} {z} {s} {t} {u} {a} {ends} f p q) =
      let inside = rw (f.0, f.1) at (reads n (shorter-branch n k counts bones short) p) in
      let later = rw inside.0 at (reads_branches n short q) in
      (later.0, ap₂ (λ (z : GenWorld). λ (zs : List GenWorld). z ∷ zs) inside.1 later.1)
