-- The reading of a rule's bones as constraints.
use Rattle.std.specs.Prelude.{◌≡◌, IfOk}
use Rattle.sk_walk.specs.Walks.{Meaning}
use Rattle.sk_base.specs.declared.errors.NoMemory.{NoMemory}
use Rattle.sk_constr.specs.declared.interp.GenInterp.{GenInterp}
use Rattle.sk_constr.specs.declared.world.GenWorld.{GenWorld}
use Rattle.sk_constr.specs.Worlds.{filtered, called, forked, merged}

-- Each bone makes of the world before it the one after it; only want of memory stops.
abbrev pub constraint_meaning : Meaning GenInterp GenWorld NoMemory
constraint_meaning = record {
  filter = λ s bone filter args outs w t answer. (t ≡ s) × IfOk answer (λ v. v ≡ filtered bone filter args outs w);
  hook = λ s bone hook target args outs w t answer. (t ≡ s) × IfOk answer (λ v. v ≡ called s.checked.now s.point bone hook target args outs w);
  fork = λ s bone branch w t answer. (t ≡ s) × IfOk answer (λ v. v ≡ forked w);
  merge = λ s bone exports w ends t answer. (t ≡ s) × IfOk answer (λ v. v ≡ merged bone exports w ends);
}
