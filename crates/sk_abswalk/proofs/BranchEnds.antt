-- Joining exports one after another joins them all.
use Rattle.std.proofs.Common.{◌≡◌, Bool, true, false, ◌&&◌, ◌<◌, List, [], ◌∷◌, length, map, Option, Some, None, Result, Ok, Err, refl, sym, ◌∙◌, ap, subst, arith}
use Rattle.std.specs.Prelude.{slice_get, slice_set, if◌then◌else◌, is_none}
use Rattle.std.specs.List.{list_all}
use Rattle.std.specs.Option.{option_map, option_map_or, option_and_then}
use Rattle.sk_def.specs.declared.ids.Var.{Var}
use Rattle.sk_deriv.specs.declared.entry.Entry.{Entry}
use Rattle.sk_deriv.specs.Env.{entry_of, flow_in, values_at, gain}
use Rattle.sk_lattice.specs.declared.flow.AbsFlow.{AbsFlow}
use Rattle.sk_lattice.specs.Domain.{Domain}
use Rattle.sk_lattice.specs.Order.{flows_fit, tuples_fit}
use Rattle.sk_lattice.specs.Merge.{Join, flow_merge, tuple_merge}
use Rattle.sk_absfilter.specs.Abstract.{Outcome}
use Rattle.sk_table.specs.declared.triple.Cover.{Cover}
use Rattle.sk_abswalk.specs.declared.world.World.{World}
use Rattle.sk_abswalk.specs.declared.stop.Stop.{Stop}
use Rattle.sk_abswalk.specs.declared.stop.Stop.TheVariants.{Uncovered, Ill, NoMemory}
use Rattle.sk_abswalk.specs.Walk.{AbsEnv, Flows, Ends, uncovered, ill, with, quiet, in_world, join_to, join_exports}
use Rattle.sk_abswalk.specs.Meaning.{gaining}
use Rattle.sk_abswalk.specs.FromTable.{Gives, Gains}
use Rattle.sk_abswalk.specs.Branches.{env_of, is_gone}

-- the joins of one variable and of the others, put together
abbrev pub combine : {D : Type 0} → Ends D (Flows D) → Ends D (Flows D) → Ends D (Flows D)
combine (with (Some (x ∷ []))) (with (Some xs)) = with (Some (x ∷ xs))
combine _ _ = ill

-- a bone that doesn't fit, or a tuple; and a tuple of one
abbrev pub IsThere : {D : Type 0} → Ends D (Flows D) → Type 0
IsThere (uncovered c) = ⊥
IsThere ill = Unit {0}
IsThere (with None) = ⊥
IsThere (with (Some a)) = Unit {0}

abbrev pub IsSingle : {D : Type 0} → Ends D (Flows D) → Type 0
IsSingle (uncovered c) = ⊥
IsSingle ill = Unit {0}
IsSingle (with None) = ⊥
IsSingle (with (Some [])) = ⊥
IsSingle (with (Some (x ∷ []))) = Unit {0}
IsSingle (with (Some (x ∷ y ∷ more))) = ⊥

combine_ill : {D : Type 0} (e : Ends D (Flows D)) → combine e ill ≡ ill
combine_ill (uncovered c) = refl
combine_ill ill = refl
combine_ill (with None) = refl
combine_ill (with (Some [])) = refl
combine_ill (with (Some (x ∷ []))) = refl
combine_ill (with (Some (x ∷ y ∷ more))) = refl

module _ (D : Type 0) (d : Domain D) where
  abbrev joins : List Var → Outcome D → List (Option (AbsEnv D)) → Ends D (Flows D)
  joins = join_exports d

  -- a turn, where the flows of one variable fit and those of the others do
  turn : (v : Var) (vs : List Var) (ws : List (Option (AbsEnv D))) (m : AbsFlow D) (ms : Flows D) → joins (v ∷ vs) (Some (m ∷ ms)) ws ≡ combine (joins (v ∷ []) (Some (m ∷ [])) ws) (joins vs (Some ms) ws) → (p q : Bool) →
      option_map_or (λ more. joins (v ∷ vs) (Some more) ws) (if p && q then Some (m ∷ ms) else None) ill
      ≡ combine (option_map_or (λ more. joins (v ∷ []) (Some more) ws) (if p && true then Some (m ∷ []) else None) ill) (option_map_or (λ more. joins vs (Some more) ws) (if q then Some ms else None) ill)
  turn v vs ws m ms h true true = h
  turn v vs ws m ms h true false = sym (combine_ill (joins (v ∷ []) (Some (m ∷ [])) ws))
  turn v vs ws m ms h false q = refl

  split : (v : Var) (vs : List Var) (ws : List (Option (AbsEnv D))) (a : AbsFlow D) (rest : Flows D) → joins (v ∷ vs) (Some (a ∷ rest)) ws ≡ combine (joins (v ∷ []) (Some (a ∷ [])) ws) (joins vs (Some rest) ws)
  split v vs [] a rest = refl
  split v vs (None ∷ ws) a rest = split v vs ws a rest
  split v vs (Some env ∷ ws) a rest = at (option_and_then flow_in (entry_of env v)) (values_at env vs) (λ y ys. split v vs ws (flow_merge d Join a y) (tuple_merge d Join rest ys))
    where
      at : (o : Option (AbsFlow D)) (more : Option (Flows D)) → ((y : AbsFlow D) (ys : Flows D) → joins (v ∷ vs) (Some (flow_merge d Join a y ∷ tuple_merge d Join rest ys)) ws ≡ combine (joins (v ∷ []) (Some (flow_merge d Join a y ∷ [])) ws) (joins vs (Some (tuple_merge d Join rest ys)) ws)) →
          option_map_or (λ m. joins (v ∷ vs) (Some m) ws) (option_and_then (join_to d (Some (a ∷ rest))) (option_and_then (λ y. option_map (λ ys. y ∷ ys) more) o)) ill
          ≡ combine (option_map_or (λ m. joins (v ∷ []) (Some m) ws) (option_and_then (join_to d (Some (a ∷ []))) (option_and_then (λ y. Some (y ∷ [])) o)) ill) (option_map_or (λ m. joins vs (Some m) ws) (option_and_then (join_to d (Some rest)) more) ill)
      at None more h = refl
      at (Some y) None h = sym (combine_ill _)
      at (Some y) (Some ys) h = turn v vs ws (flow_merge d Join a y) (tuple_merge d Join rest ys) (h y ys) (flows_fit a y) (tuples_fit rest ys)

  single_on : (v : Var) (ws : List (Option (AbsEnv D))) (a : AbsFlow D) → IsSingle (joins (v ∷ []) (Some (a ∷ [])) ws)
  single_on v [] a = tt
  single_on v (None ∷ ws) a = single_on v ws a
  single_on v (Some env ∷ ws) a = at (option_and_then flow_in (entry_of env v)) (λ y. single_on v ws (flow_merge d Join a y))
    where
      fits : (y : AbsFlow D) → IsSingle (joins (v ∷ []) (Some (flow_merge d Join a y ∷ [])) ws) → (p : Bool) → IsSingle (option_map_or (λ m. joins (v ∷ []) (Some m) ws) (if p && true then Some (flow_merge d Join a y ∷ []) else None) ill)
      fits y h true = h
      fits y h false = tt

      at : (o : Option (AbsFlow D)) → ((y : AbsFlow D) → IsSingle (joins (v ∷ []) (Some (flow_merge d Join a y ∷ [])) ws)) → IsSingle (option_map_or (λ m. joins (v ∷ []) (Some m) ws) (option_and_then (join_to d (Some (a ∷ []))) (option_and_then (λ y. Some (y ∷ [])) o)) ill)
      at None h = tt
      at (Some y) h = fits y (h y) (flows_fit a y)

  there_on : (vs : List Var) (ws : List (Option (AbsEnv D))) (a : Flows D) → IsThere (joins vs (Some a) ws)
  there_on vs [] a = tt
  there_on vs (None ∷ ws) a = there_on vs ws a
  there_on vs (Some env ∷ ws) a = at (option_and_then (join_to d (Some a)) (values_at env vs)) (λ m. there_on vs ws m)
    where
      at : (o : Outcome D) → ((m : Flows D) → IsThere (joins vs (Some m) ws)) → IsThere (option_map_or (λ m. joins vs (Some m) ws) o ill)
      at None h = tt
      at (Some m) h = h m

  -- Where some end isn't gone.

  pub whole_is : (v : Var) (vs : List Var) (ends : List (World D)) → list_all is_gone ends ≡ false → joins (v ∷ vs) None (map env_of ends) ≡ combine (joins (v ∷ []) None (map env_of ends)) (joins vs None (map env_of ends))
  whole_is v vs [] h = absurd cc
  whole_is v vs (w ∷ ends) h = by w.env (λ k. whole_is v vs ends k) h
    where
      at : (o : Option (AbsFlow D)) (more : Option (Flows D)) →
          option_map_or (λ m. joins (v ∷ vs) (Some m) (map env_of ends)) (option_and_then (join_to d None) (option_and_then (λ y. option_map (λ ys. y ∷ ys) more) o)) ill
          ≡ combine (option_map_or (λ m. joins (v ∷ []) (Some m) (map env_of ends)) (option_and_then (join_to d None) (option_and_then (λ y. Some (y ∷ [])) o)) ill) (option_map_or (λ m. joins vs (Some m) (map env_of ends)) (option_and_then (join_to d None) more) ill)
      at None more = refl
      at (Some y) None = sym (combine_ill _)
      at (Some y) (Some ys) = split v vs (map env_of ends) y ys

      by : (o : Option (AbsEnv D)) → (list_all is_gone ends ≡ false → joins (v ∷ vs) None (map env_of ends) ≡ combine (joins (v ∷ []) None (map env_of ends)) (joins vs None (map env_of ends))) → (is_none o && list_all is_gone ends) ≡ false →
          joins (v ∷ vs) None (o ∷ map env_of ends) ≡ combine (joins (v ∷ []) None (o ∷ map env_of ends)) (joins vs None (o ∷ map env_of ends))
      by None ih k = ih k
      by (Some env) ih k = at (option_and_then flow_in (entry_of env v)) (values_at env vs)

  pub single : (v : Var) (ends : List (World D)) → list_all is_gone ends ≡ false → IsSingle (joins (v ∷ []) None (map env_of ends))
  single v [] h = absurd cc
  single v (w ∷ ends) h = by w.env (λ k. single v ends k) h
    where
      at : (o : Option (AbsFlow D)) → IsSingle (option_map_or (λ m. joins (v ∷ []) (Some m) (map env_of ends)) (option_and_then (join_to d None) (option_and_then (λ y. Some (y ∷ [])) o)) ill)
      at None = tt
      at (Some y) = single_on v (map env_of ends) y

      by : (o : Option (AbsEnv D)) → (list_all is_gone ends ≡ false → IsSingle (joins (v ∷ []) None (map env_of ends))) → (is_none o && list_all is_gone ends) ≡ false → IsSingle (joins (v ∷ []) None (o ∷ map env_of ends))
      by None ih k = ih k
      by (Some env) ih k = at (option_and_then flow_in (entry_of env v))

  pub some_there : (vs : List Var) (ends : List (World D)) → list_all is_gone ends ≡ false → IsThere (joins vs None (map env_of ends))
  some_there vs [] h = absurd cc
  some_there vs (w ∷ ends) h = by w.env (λ k. some_there vs ends k) h
    where
      at : (o : Outcome D) → IsThere (option_map_or (λ m. joins vs (Some m) (map env_of ends)) (option_and_then (join_to d None) o) ill)
      at None = tt
      at (Some m) = there_on vs (map env_of ends) m

      by : (o : Option (AbsEnv D)) → (list_all is_gone ends ≡ false → IsThere (joins vs None (map env_of ends))) → (is_none o && list_all is_gone ends) ≡ false → IsThere (joins vs None (o ∷ map env_of ends))
      by None ih k = ih k
      by (Some env) ih k = at (values_at env vs)

  empty_on : (ws : List (Option (AbsEnv D))) → joins [] (Some []) ws ≡ with (Some [])
  empty_on [] = refl
  empty_on (None ∷ ws) = empty_on ws
  empty_on (Some env ∷ ws) = empty_on ws

  pub no_exports : (ends : List (World D)) → list_all is_gone ends ≡ false → joins [] None (map env_of ends) ≡ with (Some [])
  no_exports [] h = absurd cc
  no_exports (w ∷ ends) h = by w.env (λ k. no_exports ends k) h
    where
      by : (o : Option (AbsEnv D)) → (list_all is_gone ends ≡ false → joins [] None (map env_of ends) ≡ with (Some [])) → (is_none o && list_all is_gone ends) ≡ false → joins [] None (o ∷ map env_of ends) ≡ with (Some [])
      by None ih k = ih k
      by (Some env) ih k = empty_on (map env_of ends)

  -- What the ends are where they are known.

  pub one_long : (e : Ends D (Flows D)) (t : Flows D) → IsSingle e → e ≡ with (Some t) → 0 < length t
  one_long e t h k = by t (subst IsSingle k h)
    where
      by : (t : Flows D) → IsSingle {D = D} (with (Some t)) → 0 < length t
      by [] h = absurd h
      by (x ∷ []) h = omega arith
      by (x ∷ y ∷ more) h = absurd h

  pub not_none : (e : Ends D (Flows D)) → IsThere e → e ≡ with None → ⊥
  not_none e h k = subst IsThere k h

  not_uncovered : (e : Ends D (Flows D)) (c : Cover D) → IsThere e → e ≡ uncovered c → ⊥
  not_uncovered e c h k = subst IsThere k h

  pub single_there : (e : Ends D (Flows D)) → IsSingle e → IsThere e
  single_there (uncovered c) h = absurd h
  single_there ill h = tt
  single_there (with None) h = absurd h
  single_there (with (Some a)) h = tt

  pub stops_whole : (one rest whole : Ends D (Flows D)) (vars : List Var) (env : AbsEnv D) (stop : Stop D) → whole ≡ combine one rest → IsSingle one → Gives one (Err stop) → Gains whole vars env env (Err stop)
  stops_whole one rest whole vars env (Uncovered h p a) e s g = absurd (not_uncovered one _ (single_there one s) g)
  stops_whole one rest whole vars env Ill e s g = e ∙ ap (λ o. combine o rest) g
  stops_whole one rest whole vars env NoMemory e s g = tt

  pub gains_whole : (one rest whole : Ends D (Flows D)) (v : Var) (vs : List Var) (env middle after : AbsEnv D) (tuple : Flows D) (a : AbsFlow D) (result : Result (Unit {0}) (Stop D)) →
      whole ≡ combine one rest → IsSingle one → IsThere rest → one ≡ with (Some tuple) → slice_get tuple 0 ≡ Some a → middle ≡ slice_set env v.0 (Some (Entry.Flow a)) → Gains rest vs middle after result → Gains whole (v ∷ vs) env after result
  gains_whole one rest whole v vs env middle after tuple a (Ok done) e s t k g m r =
      (a ∷ r.0, e ∙ ap (λ o. combine one o) r.1 ∙ ap (λ o. combine o (with (Some r.0))) (k ∙ shape tuple a (subst IsSingle k s) g), r.2 ∙ ap (λ x. gain x vs r.0) m)
    where
      shape : (tuple : Flows D) (a : AbsFlow D) → IsSingle {D = D} (with (Some tuple)) → slice_get tuple 0 ≡ Some a → ◌≡◌ {A = Ends D (Flows D)} (with (Some tuple)) (with (Some (a ∷ [])))
      shape [] a h g = absurd h
      shape (x ∷ []) a h g = let same : x ≡ a = cc in ap (λ z. with (Some (z ∷ []))) same
      shape (x ∷ y ∷ more) a h g = absurd h
  gains_whole one rest whole v vs env middle after tuple a (Err (Uncovered h p x)) e s t k g m r = absurd (not_uncovered rest _ t r)
  gains_whole one rest whole v vs env middle after tuple a (Err Ill) e s t k g m r = e ∙ ap (λ o. combine one o) r ∙ combine_ill one
  gains_whole one rest whole v vs env middle after tuple a (Err NoMemory) e s t k g m r = tt

  pub gains_nothing : (vars : List Var) (env : AbsEnv D) (ends : List (World D)) → length vars ≡ 0 → list_all is_gone ends ≡ false → Gains (joins vars None (map env_of ends)) vars env env (Ok tt)
  gains_nothing [] env ends e h = ([], no_exports ends h, refl)
  gains_nothing (v ∷ vars) env ends e h = absurd (omega (arith, e))

  all_gone : (exports : List Var) (ends : List (World D)) → list_all is_gone ends ≡ true → joins exports None (map env_of ends) ≡ with None
  all_gone exports [] h = refl
  all_gone exports (w ∷ ends) h = by w.env (λ k. all_gone exports ends k) h
    where
      by : (o : Option (AbsEnv D)) → (list_all is_gone ends ≡ true → joins exports None (map env_of ends) ≡ with None) → (is_none o && list_all is_gone ends) ≡ true → joins exports None (o ∷ map env_of ends) ≡ with None
      by None ih k = ih k
      by (Some env) ih k = absurd cc

  -- where all ends are gone, so is the world after the branches
  pub gone_merge : (exports : List Var) (env : Option (AbsEnv D)) (ends : List (World D)) → list_all is_gone ends ≡ true → (in_world (λ env. gaining env exports (quiet (joins exports None (map env_of ends)))) env).ends ≡ with None
  gone_merge exports None ends h = refl
  gone_merge exports (Some env) ends h = subst (λ e. (gaining env exports (quiet e)).ends ≡ with None) (sym (all_gone exports ends h)) refl
