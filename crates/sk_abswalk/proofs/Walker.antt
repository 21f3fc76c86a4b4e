-- What the walker walks by the abstract interpretation is the abstract walk.
use Rattle.std.proofs.Common.{◌≡◌, ℕ, zero, suc, ◌≤◌, List, [], ◌∷◌, length, map, Option, Some, None, Result, Ok, Err, refl, sym, ◌∙◌, ap, subst, arith}
use Rattle.std.specs.Option.{option_map}
use Rattle.std.proofs.lemmas.List.{append-nil}
use Rattle.sk_def.specs.declared.ids.Var.{Var}
use Rattle.sk_def.specs.declared.ids.HookId.{HookId}
use Rattle.sk_def.specs.declared.filter.Filter.{Filter}
use Rattle.sk_def.specs.declared.bone.Target.{Target}
use Rattle.sk_def.specs.declared.bone.Bone.{Bone}
use Rattle.sk_def.specs.Layout.{branch, branch_places, after_branches}
use Rattle.sk_walk.specs.Walks.{Walks, WalksBranches, no_bone, filter_stops, filter_goes, hook_stops, hook_goes, branches_stop, merge_stops, merge_goes, no_branch, fork_stops, branch_stops, later_stops, branch_goes}
use Rattle.sk_deriv.specs.Env.{args_at, values_at, target_at, gain}
use Rattle.sk_lattice.specs.Domain.{Domain}
use Rattle.sk_table.specs.declared.triple.Cover.{Cover}
use Rattle.sk_abswalk.specs.Walk.{AbsEnv, Flows, argument_in, Ends, uncovered, ill, with, Walk, quiet, go_on, after, in_world, after_world, call_at, ask, filtered, walk_branches, join_exports}
use Rattle.sk_abswalk.specs.Meaning.{Reads, Reader, Does, stopped, gaining, bones_walk, seen, abstract_meaning, WalkerWalks}
use Rattle.sk_abswalk.proofs.Bounds.{branch_short, after_short}

uncovered_apart : {D X : Type 0} (e : Ends D X) (c : Cover D) (o : Option X) → e ≡ uncovered c → e ≡ with o → ⊥
uncovered_apart e c o h k = absurd cc

ill_apart : {D X : Type 0} (e : Ends D X) (o : Option X) → e ≡ ill → e ≡ with o → ⊥
ill_apart e o h k = absurd cc

ill_uncovered : {D X : Type 0} (e : Ends D X) (c : Cover D) → e ≡ ill → e ≡ uncovered c → ⊥
ill_uncovered e c h k = absurd cc

with_same : {D X : Type 0} (o v : Option X) (e : Ends D X) → e ≡ with o → e ≡ with v → o ≡ v
with_same o v e h k = cc

uncovered_same : {D X : Type 0} (e c : Cover D) (a : Ends D X) → a ≡ uncovered e → a ≡ uncovered c → e ≡ c
uncovered_same e c a h k = cc

-- an end isn't a stop
stop_apart : {D X : Type 0} (e : Ends D X) (c : Option (Cover D)) (o : Option X) → e ≡ stopped c → e ≡ with o → ⊥
stop_apart e None o h k = ill_apart e o h k
stop_apart e (Some c) o h k = uncovered_apart e c o h k

-- a stop is the same whatever the walk would have given
stop_same : {D X Y : Type 0} (a b : Option (Cover D)) → ◌≡◌ {A = Ends D Y} (stopped a) (stopped b) → ◌≡◌ {A = Ends D X} (stopped a) (stopped b)
stop_same None None e = refl
stop_same None (Some c) e = absurd (ill_uncovered ill c refl e)
stop_same (Some c) None e = absurd (ill_uncovered ill c refl (sym e))
stop_same (Some a) (Some c) e = ap uncovered (uncovered_same a c (uncovered a) refl e)

module _ (S D : Type 0) (r : Reader S D) where
  -- a first walk that gets to an end goes on from there; one that stops doesn't
  goes_after : {X Y : Type 0} (s t u : S) (w : Walk D X) (o : Option X) (next : Option X → Walk D Y) (a : Option (Ends D Y)) → Does r s w t (Some (with o)) → Does r t (next o) u a → Does r s (after w next) u a
  goes_after s t u w o next None h g = tt
  goes_after s t u w o next (Some a) h g =
      subst (λ ends. Does r s (go_on w.asked ends next) u (Some a)) (sym h.1) (g.0 ∙ ap (λ x. r.add x (next o).asked) h.0 ∙ r.add_more s w.asked (next o).asked, g.1)

  stops_after : {X Y : Type 0} (s t : S) (w : Walk D X) (next : Option X → Walk D Y) (x : Option (Option (Cover D))) → Does r s w t (option_map stopped x) → Does r s (after w next) t (option_map stopped x)
  stops_after s t w next None h = tt
  stops_after s t w next (Some None) h = subst (λ ends. Does r s (go_on w.asked ends next) t (Some ill)) (sym h.1) (h.0, refl)
  stops_after s t w next (Some (Some c)) h = subst (λ ends. Does r s (go_on w.asked ends next) t (Some (uncovered c))) (sym h.1) (h.0, refl)

  -- where the first walk asks nothing
  from_same : {X : Type 0} (s t u : S) (w : Walk D X) (a : Option (Ends D X)) → t ≡ s → Does r t w u a → Does r s w u a
  from_same s t u w a e h = subst (λ s. Does r s w u a) e h

  -- what is read stays as it is
  still : {X Y : Type 0} (s t u : S) (w : Walk D X) (o : Option X) (next : Reads D → Walk D Y) (a : Option (Ends D Y)) → Does r s w t (Some (with o)) → Does r t (next (r.reads t)) u a → Does r t (next (r.reads s)) u a
  still s t u w o next a h g = subst (λ p. Does r t (next p) u a) (ap r.reads h.0 ∙ r.stays s w.asked) g

  gone_goes : {X Y : Type 0} (s t u : S) (v : Option X) (next : X → Walk D Y) (a : Option (Ends D Y)) → Does r s (quiet {X = X} (with None)) t (Some (with v)) → Does r t (in_world next v) u a → Does r s (quiet (with None)) u a
  gone_goes s t u v next a h g =
      from_same s t u (quiet (with None)) a (h.0 ∙ r.add_nothing s) (subst (λ v. Does r t (in_world next v) u a) (sym (with_same None v (with None) refl h.1)) g)

  -- a bone's walk that gains, and the walk of the other bones
  gain_goes : {X Y Z : Type 0} (s t u : S) (asked : List (Cover D)) (ends : Ends D X) (g : X → Y) (v : Option Y) (next : Y → Walk D Z) (a : Option (Ends D Z)) →
      Does r s (go_on asked ends (in_world (λ x. quiet (with (Some (g x)))))) t (Some (with v)) → Does r t (in_world next v) u a →
      Does r s (go_on asked ends (in_world (λ x. next (g x)))) u a
  gain_goes s t u asked (uncovered c) g v next a h l = absurd (uncovered_apart (uncovered c) c v refl h.1)
  gain_goes s t u asked ill g v next a h l = absurd (ill_apart ill v refl h.1)
  gain_goes s t u asked (with None) g v next a h l =
      goes_after s t u (record { asked = asked; ends = with None }) None (in_world (λ x. next (g x))) a (h.0 ∙ ap (λ c. r.add s c) (append-nil asked), refl)
      (subst (λ v. Does r t (in_world next v) u a) (sym (with_same None v (with None) refl h.1)) l)
  gain_goes s t u asked (with (Some x)) g v next a h l =
      goes_after s t u (record { asked = asked; ends = with (Some x) }) (Some x) (in_world (λ x. next (g x))) a (h.0 ∙ ap (λ c. r.add s c) (append-nil asked), refl)
      (subst (λ v. Does r t (in_world next v) u a) (sym (with_same (Some (g x)) v (with (Some (g x))) refl h.1)) l)

  gain_stops : {X Y Z : Type 0} (s t : S) (asked : List (Cover D)) (ends : Ends D X) (g : X → Y) (x : Option (Option (Cover D))) (next : Y → Walk D Z) →
      Does r s (go_on asked ends (in_world (λ x. quiet (with (Some (g x)))))) t (option_map stopped x) → Does r s (go_on asked ends (in_world (λ x. next (g x)))) t (option_map stopped x)
  gain_stops s t asked ends g None next h = tt
  gain_stops s t asked (uncovered e) g (Some c) next h = (h.0, stop_same (Some e) c h.1)
  gain_stops s t asked ill g (Some c) next h = (h.0, stop_same None c h.1)
  gain_stops s t asked (with None) g (Some c) next h = absurd (stop_apart (with None) c None h.1 refl)
  gain_stops s t asked (with (Some x)) g (Some c) next h = absurd (stop_apart (with (Some (g x))) c (Some (g x)) h.1 refl)

  -- the branches of a world that is gone ask nothing, and end
  gone_asked : (X : Type 0) (ks : List ℕ) → (walk_branches {D = D} {X = X} (λ b. quiet (with None)) ks).asked ≡ []
  gone_asked X [] = refl
  gone_asked X (b ∷ ks) = step (walk_branches {D = D} {X = X} (λ b. quiet (with None)) ks).asked (walk_branches {D = D} {X = X} (λ b. quiet (with None)) ks).ends (gone_asked X ks)
    where
      step : (asked : List (Cover D)) (ends : Ends D (List (Option X))) → asked ≡ [] → (go_on asked ends (in_world (λ os. quiet (with (Some (None ∷ os)))))).asked ≡ []
      step asked (uncovered c) e = e
      step asked ill e = e
      step asked (with None) e = append-nil asked ∙ e
      step asked (with (Some os)) e = append-nil asked ∙ e

  gone_ends : (X : Type 0) (ks : List ℕ) → (os : List (Option X)) × ((walk_branches {D = D} {X = X} (λ b. quiet (with None)) ks).ends ≡ with (Some os))
  gone_ends X [] = ([], refl)
  gone_ends X (b ∷ ks) =
      let h = gone_ends X ks in
      (None ∷ h.0, step (walk_branches {D = D} {X = X} (λ b. quiet (with None)) ks).asked (walk_branches {D = D} {X = X} (λ b. quiet (with None)) ks).ends h.0 h.1)
    where
      step : (asked : List (Cover D)) (ends : Ends D (List (Option X))) (os : List (Option X)) → ends ≡ with (Some os) → (go_on asked ends (in_world (λ os. quiet (with (Some (None ∷ os)))))).ends ≡ with (Some (None ∷ os))
      step asked ends os e = subst (λ ends. (go_on asked ends (in_world (λ os. quiet (with (Some (None ∷ os)))))).ends ≡ with (Some (None ∷ os))) (sym e) refl

  -- The same from a world: a bone's own walk, and then that of the bones after it.
  module _ (outs : List Var) (first : AbsEnv D → Walk D (Flows D)) (next : Reads D → AbsEnv D → Walk D (AbsEnv D)) where
    abbrev whole : Reads D → AbsEnv D → Walk D (AbsEnv D)
    whole p env = after_world (first env) (λ flows. next p (gain env outs flows))

    bone_goes : (s t u : S) (o v : Option (AbsEnv D)) (a : Option (Ends D (AbsEnv D))) →
        Does r s (in_world (λ env. gaining env outs (first env)) o) t (Some (with v)) → Does r t (in_world (next (r.reads t)) v) u a → Does r s (in_world (whole (r.reads s)) o) u a
    bone_goes s t u o v a h g = at o h (still s t u _ v (λ p. in_world (next p) v) a h g)
      where
        at : (o : Option (AbsEnv D)) → Does r s (in_world (λ env. gaining env outs (first env)) o) t (Some (with v)) → Does r t (in_world (next (r.reads s)) v) u a → Does r s (in_world (whole (r.reads s)) o) u a
        at None h g = gone_goes s t u v (next (r.reads s)) a h g
        at (Some env) h g = gain_goes s t u (first env).asked (first env).ends (gain env outs) v (next (r.reads s)) a h g

    bone_stops : (p : Reads D) (s t : S) (o : Option (AbsEnv D)) (x : Option (Option (Cover D))) →
        Does r s (in_world (λ env. gaining env outs (first env)) o) t (option_map stopped x) → Does r s (in_world (whole p) o) t (option_map stopped x)
    bone_stops p s t None None h = tt
    bone_stops p s t None (Some c) h = let gone : Ends D (AbsEnv D) = with None in absurd (stop_apart gone c None h.1 refl)
    bone_stops p s t (Some env) x h = gain_stops s t (first env).asked (first env).ends (gain env outs) x (next p) h

  module _ (inner : ℕ → AbsEnv D → Walk D (AbsEnv D)) (places : List ℕ) where
    abbrev all_from : Option (AbsEnv D) → Walk D (List (Option (AbsEnv D)))
    all_from o = walk_branches (λ b. in_world (inner b) o) places

    inside_stops : (later : AbsEnv D → List (Option (AbsEnv D)) → Walk D (AbsEnv D)) (s t : S) (o : Option (AbsEnv D)) (x : Option (Option (Cover D))) →
        Does r s (all_from o) t (option_map stopped x) → Does r s (in_world (λ env. after_world (walk_branches (λ b. inner b env) places) (later env)) o) t (option_map stopped x)
    inside_stops later s t o None h = tt
    inside_stops later s t None (Some c) h = absurd (stop_apart _ c (Some (gone_ends (AbsEnv D) places).0) h.1 (gone_ends (AbsEnv D) places).1)
    inside_stops later s t (Some env) (Some c) h = stops_after s t (walk_branches (λ b. inner b env) places) (in_world (later env)) (Some c) h

    inside_goes : (later : AbsEnv D → List (Option (AbsEnv D)) → Walk D (AbsEnv D)) (s t u : S) (o : Option (AbsEnv D)) (ends : List (Option (AbsEnv D))) (a : Option (Ends D (AbsEnv D))) →
        Does r s (all_from o) t (Some (with (Some ends))) → Does r t (in_world (λ env. later env ends) o) u a → Does r s (in_world (λ env. after_world (walk_branches (λ b. inner b env) places) (later env)) o) u a
    inside_goes later s t u None ends a h g = from_same s t u (quiet (with None)) a (h.0 ∙ ap (λ c. r.add s c) (gone_asked (AbsEnv D) places) ∙ r.add_nothing s) g
    inside_goes later s t u (Some env) ends a h g = goes_after s t u (walk_branches (λ b. inner b env) places) (Some ends) (in_world (later env)) a h g

module _ {S W X D : Type 0} (r : Reader S D) (world : W → Option (AbsEnv D)) (stop : X → Option (Option (Cover D))) (d : Domain D) where
  -- what the answer of branches says of the walk of them all
  abbrev seen_all : Result (List W) X → Option (Ends D (List (Option (AbsEnv D))))
  seen_all (Ok ends) = Some (with (Some (map world ends)))
  seen_all (Err x) = option_map stopped (stop x)

  abbrev Walked : ℕ → List Bone → S → W → S → Result W X → Type 0
  Walked = Walks (abstract_meaning r world stop d)

  abbrev filter_walk : Reads D → Filter → List Var → AbsEnv D → Walk D (Flows D)
  filter_walk p filter args env = quiet (filtered d filter p.names (args_at argument_in env args))

  abbrev hook_walk : Reads D → HookId → Target → List Var → AbsEnv D → Walk D (Flows D)
  hook_walk p hook target args env = ask p.answers (call_at hook (target_at p.point env target) (values_at env args))

  -- what a branch bone does with the ends of its branches, and then with the bones after it
  abbrev merging : Reads D → ℕ → List ℕ → List Var → List Bone → AbsEnv D → List (Option (AbsEnv D)) → Walk D (AbsEnv D)
  merging p bound counts exports rest env worlds =
      after_world (quiet (join_exports d exports None worlds)) (λ flows. bones_walk d p bound (after_branches counts rest) (gain env exports flows))

  forked : (s t u : S) (o v : Option (AbsEnv D)) (next : Reads D → AbsEnv D → Walk D (AbsEnv D)) (a : Option (Ends D (AbsEnv D))) →
      Does r s (quiet (with o)) t (Some (with v)) → Does r t (in_world (next (r.reads t)) v) u a → Does r s (in_world (next (r.reads s)) o) u a
  forked s t u o v next a h g =
      from_same S D r s t u (in_world (next (r.reads s)) o) a (h.0 ∙ r.add_nothing s)
      (subst (λ v. Does r t (in_world (next (r.reads s)) v) u a) (sym (with_same o v (with o) refl h.1)) (still S D r s t u (quiet (with o)) v (λ p. in_world (next p) v) a h g))

  never_stops : {Y : Type 0} (s t : S) (o : Option (AbsEnv D)) (x : Option (Option (Cover D))) (w : Walk D Y) → Does r s (quiet (with o)) t (option_map stopped x) → Does r s w t (option_map stopped x)
  never_stops s t o None w h = tt
  never_stops s t o (Some c) w h = absurd (stop_apart (with o) c o h.1 refl)

  -- by the walk of the walker; a bone's own walk goes on into that of the bones after it
  mutual
    walker_walks : (bound : ℕ) {first : ℕ} {bones : List Bone} {s t : S} {answer : Result W X} (w : W) → length bones ≤ bound → Walked first bones s w t answer → Does r s (in_world (bones_walk d (r.reads s) bound bones) (world w)) t (seen r world stop answer)
    walker_walks bound {s = s} w short no_bone = ended s (world w)
      where
        ended : (s : S) (o : Option (AbsEnv D)) → Does r s (in_world (bones_walk d (r.reads s) bound []) o) s (Some (with o))
        ended s None = (sym (r.add_nothing s), refl)
        ended s (Some env) = (sym (r.add_nothing s), refl)
    walker_walks zero w short (filter_stops h) = absurd (omega arith)
    walker_walks zero w short (filter_goes h g) = absurd (omega arith)
    walker_walks zero w short (hook_stops h) = absurd (omega arith)
    walker_walks zero w short (hook_goes h g) = absurd (omega arith)
    walker_walks zero w short (branches_stop b) = absurd (omega arith)
    walker_walks zero w short (merge_stops b h) = absurd (omega arith)
    walker_walks zero w short (merge_goes b h g) = absurd (omega arith)
    walker_walks (suc bound) w short (filter_stops {first} {filter} {args} {outs} {rest} {s} {t} {stop = x} h) =
        bone_stops S D r outs (filter_walk (r.reads s) filter args) (λ p. bones_walk d p bound rest) (r.reads s) s t (world w) (stop x) h
    walker_walks (suc bound) w short (filter_goes {first} {filter} {args} {outs} {rest} {s} {t} {u} {v = v} {answer} h g) =
        bone_goes S D r outs (filter_walk (r.reads s) filter args) (λ p. bones_walk d p bound rest) s t u (world w) (world v) (seen r world stop answer) h (walker_walks bound v (omega arith) g)
    walker_walks (suc bound) w short (hook_stops {first} {hook} {args} {target} {outs} {rest} {s} {t} {stop = x} h) =
        bone_stops S D r outs (hook_walk (r.reads s) hook target args) (λ p. bones_walk d p bound rest) (r.reads s) s t (world w) (stop x) h
    walker_walks (suc bound) w short (hook_goes {first} {hook} {args} {target} {outs} {rest} {s} {t} {u} {v = v} {answer} h g) =
        bone_goes S D r outs (hook_walk (r.reads s) hook target args) (λ p. bones_walk d p bound rest) s t u (world w) (world v) (seen r world stop answer) h (walker_walks bound v (omega arith) g)
    walker_walks (suc bound) w short (branches_stop {first} {counts} {exports} {rest} {s} {t} {stop = x} b) =
        inside_stops S D r (λ c. bones_walk d (r.reads s) bound (branch counts c rest)) (branch_places 0 counts) (merging (r.reads s) bound counts exports rest) s t (world w) (stop x) (branches_walk bound w (omega arith) b)
    walker_walks (suc bound) w short (merge_stops {first} {counts} {exports} {rest} {s} {t} {u} {ends = ends} {stop = x} b h) =
        let inside = branches_walk bound w (omega arith) b in
        inside_goes S D r (λ c. bones_walk d (r.reads s) bound (branch counts c rest)) (branch_places 0 counts) (merging (r.reads s) bound counts exports rest) s t u (world w) (map world ends) (option_map stopped (stop x)) inside
        (bone_stops S D r exports (λ env. quiet (join_exports d exports None (map world ends))) (λ p. bones_walk d p bound (after_branches counts rest)) (r.reads s) t u (world w) (stop x) h)
    walker_walks (suc bound) w short (merge_goes {first} {counts} {exports} {rest} {s} {t} {u} {z} {v = v} {ends = ends} {answer} b h g) =
        let inside = branches_walk bound w (omega arith) b in
        inside_goes S D r (λ c. bones_walk d (r.reads s) bound (branch counts c rest)) (branch_places 0 counts) (merging (r.reads s) bound counts exports rest) s t z (world w) (map world ends) (seen r world stop answer) inside
        (still S D r s t z _ (Some (map world ends)) (λ p. in_world (λ env. merging p bound counts exports rest env (map world ends)) (world w)) (seen r world stop answer) inside
        (bone_goes S D r exports (λ env. quiet (join_exports d exports None (map world ends))) (λ p. bones_walk d p bound (after_branches counts rest)) t u z (world w) (world v) (seen r world stop answer) h (walker_walks bound v (omega (arith, after_short counts rest)) g)))

    branches_walk : (bound : ℕ) {bone : ℕ} {counts places : List ℕ} {bones : List Bone} {s t : S} {answer : Result (List W) X} (w : W) → length bones ≤ bound → WalksBranches (abstract_meaning r world stop d) bone counts bones places w s t answer →
        Does r s (walk_branches (λ c. in_world (bones_walk d (r.reads s) bound (branch counts c bones)) (world w)) places) t (seen_all answer)
    branches_walk bound {s = s} w short no_branch = (sym (r.add_nothing s), refl)
    branches_walk bound w short (fork_stops {s = s} {t = t} {stop = x} h) = never_stops s t (world w) (stop x) _ h
    branches_walk bound w short (branch_stops {bone} {k = place} {counts} {places} {bones} {v = v} {s} {t} {u} {stop = x} h g) =
        stops_after S D r s u _ _ (stop x) (forked s t u (world w) (world v) (λ p. bones_walk d p bound (branch counts place bones)) (option_map stopped (stop x)) h (walker_walks bound v (omega (arith, branch_short counts place bones)) g))
    branches_walk bound w short (later_stops {bone} {k = place} {counts} {places} {bones} {v = v} {z = z} {s} {t} {u} {a} {stop = x} h g b) =
        let one = forked s t u (world w) (world v) (λ p. bones_walk d p bound (branch counts place bones)) (Some (with (world z))) h (walker_walks bound v (omega (arith, branch_short counts place bones)) g) in
        goes_after S D r s u a _ (world z) _ (option_map stopped (stop x)) one
        (stops_after S D r u a _ _ (stop x) (still S D r s u a _ (world z) (λ p. walk_branches (λ c. in_world (bones_walk d p bound (branch counts c bones)) (world w)) places) (option_map stopped (stop x)) one (branches_walk bound w short b)))
    branches_walk bound w short (branch_goes {bone} {k = place} {counts} {places} {bones} {v = v} {z = z} {s} {t} {u} {a} {ends} h g b) =
        let one = forked s t u (world w) (world v) (λ p. bones_walk d p bound (branch counts place bones)) (Some (with (world z))) h (walker_walks bound v (omega (arith, branch_short counts place bones)) g) in
        goes_after S D r s u a _ (world z) _ (Some (with (Some (world z ∷ map world ends)))) one
        (goes_after S D r u a a _ (Some (map world ends)) _ (Some (with (Some (world z ∷ map world ends))))
        (still S D r s u a _ (world z) (λ p. walk_branches (λ c. in_world (bones_walk d p bound (branch counts c bones)) (world w)) places) (Some (with (Some (map world ends)))) one (branches_walk bound w short b)) (sym (r.add_nothing a), refl))

pub walker_law : {S W X D : Type 0} (d : Domain D) (r : Reader S D) (world : W → Option (AbsEnv D)) (stop : X → Option (Option (Cover D))) → WalkerWalks r world stop d
walker_law d r world stop first bound bones s t w answer short h = walker_walks r world stop d bound w short h
