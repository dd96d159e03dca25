-- What is sure of a plan's connections that share an end.
use Rattle.std.specs.Prelude.{◌≡◌, AllPairs}
use Rattle.mk_plan.specs.declared.Plan.{Plan}

-- connections of one source's attribute agree in whether it keeps its value
abbrev pub SourcesAgree : Plan → Type 0
SourcesAgree P = AllPairs (λ c d. c.from ≡ d.from → c.from_attr ≡ d.from_attr
    → c.persistent ≡ d.persistent) P.conns

-- connections to one target's attribute agree in whether it triggers
abbrev pub TargetsAgree : Plan → Type 0
TargetsAgree P = AllPairs (λ c d. c.to ≡ d.to → c.to_attr ≡ d.to_attr
    → c.triggering ≡ d.triggering) P.conns
