use Rattle.std.proofs.Common.{◌≡◌, drop, map}
use Rattle.serde_json.specs.View.{view}
use Rattle.jwt_validation.specs.OptionsFault.{shape, first_malformed}
use Rattle.jwt_validation.proofs.fault.first_unstrict.Given as goal

-- the options that are left decide
abbrev pub invariant-loop-name : goal.invariant-loop-name
invariant-loop-name l = first_malformed (view l.value) (map (λ s. shape s.0.now s.1) l.name-items)
    ≡ first_malformed (view l.value) (map (λ s. shape s.0.now s.1) (drop l.name-index l.name-items))
