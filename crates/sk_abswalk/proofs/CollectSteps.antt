-- The steps of the interpretation that gathers calls.
use Rattle.std.proofs.Common.{◌≡◌, List, [], map, Option, Some, None, Result, Ok, Err, refl, sym, ◌∙◌, ap}
use Rattle.std.specs.Option.{option_map}
use Rattle.sk_def.specs.declared.ids.Var.{Var}
use Rattle.sk_def.specs.declared.filter.Filter.{Filter}
use Rattle.sk_deriv.specs.Env.{args_at, gain}
use Rattle.sk_lattice.specs.Domain.{Domain}
use Rattle.sk_absfilter.specs.Abstract.{Outcome}
use Rattle.sk_table.specs.declared.triple.Cover.{Cover}
use Rattle.sk_abswalk.specs.declared.collect.Collect.{Collect}
use Rattle.sk_abswalk.specs.declared.stop.Stop.{Stop}
use Rattle.sk_abswalk.specs.declared.stop.Stop.TheVariants.{Uncovered, Ill, NoMemory}
use Rattle.sk_abswalk.specs.declared.world.World.{World}
use Rattle.sk_abswalk.specs.Branches.{env_of}
use Rattle.sk_abswalk.specs.Walk.{AbsEnv, Flows, argument_in, filtered, Ends, uncovered, ill, with, Walk, quiet, in_world, after_world, join_exports}
use Rattle.sk_abswalk.specs.Keys.{Key}
use Rattle.sk_abswalk.specs.Meaning.{Does, stopped, gaining}
use Rattle.sk_abswalk.specs.FromTable.{Gives, stop_of}
use Rattle.sk_abswalk.specs.Collect.{collect_reader, Gathers}

-- a bone that isn't a hook bone asks nothing
quiet_asks : {D X Y : Type 0} (ends : Ends D X) (g : X → Y) → (after_world (quiet ends) (λ x. quiet (with (Some (g x))))).asked ≡ []
quiet_asks (uncovered c) g = refl
quiet_asks ill g = refl
quiet_asks (with None) g = refl
quiet_asks (with (Some x)) g = refl

pub gaining_asks : {D : Type 0} (o : Option (AbsEnv D)) (vars : List Var) (e : AbsEnv D → Ends D (Flows D)) → (in_world (λ env. gaining env vars (quiet (e env))) o).asked ≡ []
gaining_asks None vars e = refl
gaining_asks (Some env) vars e = quiet_asks (e env) (gain env vars)

module _ (D T : Type 0) (by : T → Key → Outcome D) (s : Collect D T) (w : Walk D (AbsEnv D)) where
  -- what a step that asks nothing gives, as the relation of the interpretation
  same_state : w.asked ≡ [] → s ≡ (collect_reader by).add s w.asked
  same_state e = sym (ap (λ asked. (collect_reader by).add s asked) e ∙ (collect_reader by).add_nothing s)

  pub stops_seen : (stop : Stop D) → w.asked ≡ [] → Gives w.ends (Err stop) → Does (collect_reader by) s w s (option_map stopped (stop_of stop))
  stops_seen (Uncovered hook point args) e h = (same_state e, h)
  stops_seen Ill e h = (same_state e, h)
  stops_seen NoMemory e h = tt

  pub ends_seen : (o : Option (AbsEnv D)) → w.asked ≡ [] → Gives w.ends (Ok o) → Does (collect_reader by) s w s (Some (with o))
  ends_seen o e h = (same_state e, h)

  -- what a step that gathers gives
  pub stops_gathered : (calls : List (Cover D)) (stop : Stop D) → Gathers w s.calls calls (Err stop) → Does (collect_reader by) s w (record s { calls = calls }) (option_map stopped (stop_of stop))
  stops_gathered calls (Uncovered hook point args) h = (λ i. record s { calls = h.0 i }, h.1)
  stops_gathered calls Ill h = (λ i. record s { calls = h.0 i }, h.1)
  stops_gathered calls NoMemory h = tt

  pub ends_gathered : (calls : List (Cover D)) (o : Option (AbsEnv D)) → Gathers w s.calls calls (Ok o) → Does (collect_reader by) s w (record s { calls = calls }) (Some (with o))
  ends_gathered calls o h = (λ i. record s { calls = h.0 i }, h.1)

-- a merge that stops
pub merge_stops : (D T : Type 0) (d : Domain D) (by : T → Key → Outcome D) (s : Collect D T) (env : Option (AbsEnv D)) (exports vars : List Var) (ends worlds : List (World D)) (result : Result (Option (AbsEnv D)) (Stop D)) (stop : Stop D) →
    vars ≡ exports → worlds ≡ ends → result ≡ Err stop →
    Gives (in_world (λ env. gaining env vars (quiet (join_exports d vars None (map env_of worlds)))) env).ends result →
    Does (collect_reader by) s (in_world (λ env. gaining env exports (quiet (join_exports d exports None (map env_of ends)))) env) s (option_map stopped (stop_of stop))
merge_stops D T d by s env exports vars ends worlds result stop e f r h =
    stops_seen D T by s (in_world (λ env. gaining env exports (quiet (join_exports d exports None (map env_of ends)))) env) stop
    (gaining_asks env exports (λ env. join_exports d exports None (map env_of ends))) (rw (e, f, r) at h)

pub merge_ends : (D T : Type 0) (d : Domain D) (by : T → Key → Outcome D) (s : Collect D T) (env : Option (AbsEnv D)) (exports vars : List Var) (ends worlds : List (World D)) (result : Result (Option (AbsEnv D)) (Stop D)) (o : Option (AbsEnv D)) →
    vars ≡ exports → worlds ≡ ends → result ≡ Ok o →
    Gives (in_world (λ env. gaining env vars (quiet (join_exports d vars None (map env_of worlds)))) env).ends result →
    Does (collect_reader by) s (in_world (λ env. gaining env exports (quiet (join_exports d exports None (map env_of ends)))) env) s (Some (with o))
merge_ends D T d by s env exports vars ends worlds result o e f r h =
    ends_seen D T by s (in_world (λ env. gaining env exports (quiet (join_exports d exports None (map env_of ends)))) env) o
    (gaining_asks env exports (λ env. join_exports d exports None (map env_of ends))) (rw (e, f, r) at h)

-- a filter that stops, and one that doesn't
pub filter_stops : (D T : Type 0) (d : Domain D) (by : T → Key → Outcome D) (s : Collect D T) (env : Option (AbsEnv D)) (filter : Filter) (args given outs vars : List Var) (result : Result (Option (AbsEnv D)) (Stop D)) (stop : Stop D) →
    given ≡ args → vars ≡ outs → result ≡ Err stop →
    Gives (in_world (λ env. gaining env vars (quiet (filtered d filter s.names (args_at argument_in env given)))) env).ends result →
    Does (collect_reader by) s (in_world (λ env. gaining env outs (quiet (filtered d filter s.names (args_at argument_in env args)))) env) s (option_map stopped (stop_of stop))
filter_stops D T d by s env filter args given outs vars result stop e f r h =
    stops_seen D T by s (in_world (λ env. gaining env outs (quiet (filtered d filter s.names (args_at argument_in env args)))) env) stop
    (gaining_asks env outs (λ env. filtered d filter s.names (args_at argument_in env args))) (rw (e, f, r) at h)

pub filter_ends : (D T : Type 0) (d : Domain D) (by : T → Key → Outcome D) (s : Collect D T) (env : Option (AbsEnv D)) (filter : Filter) (args given outs vars : List Var) (result : Result (Option (AbsEnv D)) (Stop D)) (o : Option (AbsEnv D)) →
    given ≡ args → vars ≡ outs → result ≡ Ok o →
    Gives (in_world (λ env. gaining env vars (quiet (filtered d filter s.names (args_at argument_in env given)))) env).ends result →
    Does (collect_reader by) s (in_world (λ env. gaining env outs (quiet (filtered d filter s.names (args_at argument_in env args)))) env) s (Some (with o))
filter_ends D T d by s env filter args given outs vars result o e f r h =
    ends_seen D T by s (in_world (λ env. gaining env outs (quiet (filtered d filter s.names (args_at argument_in env args)))) env) o
    (gaining_asks env outs (λ env. filtered d filter s.names (args_at argument_in env args))) (rw (e, f, r) at h)
