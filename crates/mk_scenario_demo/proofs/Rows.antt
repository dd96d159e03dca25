-- The file of the demo scenario, and that it is the scenario of size 1.
use Rattle.std.proofs.Common.{◌≡◌, ℕ, pos, true, List, [], ◌∷◌, codes, Ok, refl, Some}
use Rattle.toml.proofs.OnLiterals.{toml_on_literals}
use Rattle.mk_base.specs.declared.json.Json as j
use Rattle.mk_base.proofs.OnTrees.{trees_compute}
use Rattle.mk_scenario_toml.specs.Document.{table_of}
use Rattle.mk_scenario.specs.Blocks.{block_at}
use Rattle.mk_scenario.specs.References.{place_of}
use Rattle.mk_scenario.specs.Scenarios.{scenario_in}
use Rattle.mk_scenario_demo.specs.Demo.{demo_scenario}

-- the document of the file
abbrev pub document : j.Json
document = j.Object ((codes "connect", j.List (j.Object ((codes "attrs", j.List (j.List (j.Text (codes "out") ∷ j.Text (codes "in") ∷ []) ∷ [])) ∷ (codes "from", j.Text (codes "houses")) ∷ (codes "to", j.Text (codes "grid")) ∷ []) ∷ j.Object ((codes "attrs", j.List (j.List (j.Text (codes "out") ∷ j.Text (codes "in") ∷ []) ∷ [])) ∷ (codes "from", j.Text (codes "pv")) ∷ (codes "to", j.Text (codes "grid")) ∷ []) ∷ j.Object ((codes "attrs", j.List (j.List (j.Text (codes "out") ∷ j.Text (codes "in") ∷ []) ∷ [])) ∷ (codes "from", j.Text (codes "grid")) ∷ (codes "to", j.Text (codes "log")) ∷ []) ∷ j.Object ((codes "attrs", j.List (j.Text (codes "soc") ∷ [])) ∷ (codes "from", j.Text (codes "bat")) ∷ (codes "to", j.Text (codes "ctl")) ∷ []) ∷ j.Object ((codes "attrs", j.List (j.Text (codes "set") ∷ [])) ∷ (codes "from", j.Text (codes "ctl")) ∷ (codes "to", j.Text (codes "bat")) ∷ (codes "weak", j.Bool true) ∷ []) ∷ j.Object ((codes "attrs", j.List (j.List (j.Text (codes "soc") ∷ j.Text (codes "in") ∷ []) ∷ [])) ∷ (codes "from", j.Text (codes "bat")) ∷ (codes "to", j.Text (codes "log")) ∷ []) ∷ [])) ∷ (codes "entities", j.List (j.Object ((codes "id", j.Text (codes "houses")) ∷ (codes "model", j.Text (codes "Count")) ∷ (codes "num", j.Whole (pos 40)) ∷ (codes "params", j.Object ((codes "start", j.Whole (pos 1)) ∷ [])) ∷ (codes "sim", j.Text (codes "House-0")) ∷ []) ∷ j.Object ((codes "id", j.Text (codes "pv")) ∷ (codes "model", j.Text (codes "Source")) ∷ (codes "params", j.Object ((codes "value", j.Whole (pos 7)) ∷ [])) ∷ (codes "sim", j.Text (codes "Pv-0")) ∷ []) ∷ j.Object ((codes "id", j.Text (codes "grid")) ∷ (codes "model", j.Text (codes "Sum")) ∷ (codes "sim", j.Text (codes "Grid-0")) ∷ []) ∷ j.Object ((codes "id", j.Text (codes "bat")) ∷ (codes "model", j.Text (codes "Battery")) ∷ (codes "sim", j.Text (codes "Bat-0")) ∷ []) ∷ j.Object ((codes "id", j.Text (codes "ctl")) ∷ (codes "model", j.Text (codes "Control")) ∷ (codes "params", j.Object ((codes "goal", j.Whole (pos 3)) ∷ [])) ∷ (codes "sim", j.Text (codes "Ctl-0")) ∷ []) ∷ j.Object ((codes "id", j.Text (codes "log")) ∷ (codes "model", j.Text (codes "Sum")) ∷ (codes "sim", j.Text (codes "Log-0")) ∷ []) ∷ [])) ∷ (codes "sim", j.List (j.Object ((codes "local", j.Text (codes "counter")) ∷ (codes "name", j.Text (codes "House")) ∷ []) ∷ j.Object ((codes "local", j.Text (codes "constant")) ∷ (codes "name", j.Text (codes "Pv")) ∷ (codes "params", j.Object ((codes "step", j.Whole (pos 4)) ∷ [])) ∷ []) ∷ j.Object ((codes "local", j.Text (codes "sum")) ∷ (codes "name", j.Text (codes "Grid")) ∷ []) ∷ j.Object ((codes "local", j.Text (codes "battery")) ∷ (codes "name", j.Text (codes "Bat")) ∷ []) ∷ j.Object ((codes "local", j.Text (codes "controller")) ∷ (codes "name", j.Text (codes "Ctl")) ∷ []) ∷ j.Object ((codes "local", j.Text (codes "sum")) ∷ (codes "name", j.Text (codes "Log")) ∷ []) ∷ [])) ∷ (codes "until", j.Whole (pos 96)) ∷ [])

pub document_is_the_demo : scenario_in document ≡ Ok (demo_scenario 1)
unfolding trees_compute block_at place_of
document_is_the_demo = refl

abbrev file : List ℕ
file = codes "until = 96\n[[sim]]\nname = \"House\"\nlocal = \"counter\"\n[[sim]]\nname = \"Pv\"\nlocal = \"constant\"\nparams = { step = 4 }\n[[sim]]\nname = \"Grid\"\nlocal = \"sum\"\n[[sim]]\nname = \"Bat\"\nlocal = \"battery\"\n[[sim]]\nname = \"Ctl\"\nlocal = \"controller\"\n[[sim]]\nname = \"Log\"\nlocal = \"sum\"\n[[entities]]\nid = \"houses\"\nsim = \"House-0\"\nmodel = \"Count\"\nnum = 40\nparams = { start = 1 }\n[[entities]]\nid = \"pv\"\nsim = \"Pv-0\"\nmodel = \"Source\"\nparams = { value = 7 }\n[[entities]]\nid = \"grid\"\nsim = \"Grid-0\"\nmodel = \"Sum\"\n[[entities]]\nid = \"bat\"\nsim = \"Bat-0\"\nmodel = \"Battery\"\n[[entities]]\nid = \"ctl\"\nsim = \"Ctl-0\"\nmodel = \"Control\"\nparams = { goal = 3 }\n[[entities]]\nid = \"log\"\nsim = \"Log-0\"\nmodel = \"Sum\"\n[[connect]]\nfrom = \"houses\"\nto = \"grid\"\nattrs = [[\"out\", \"in\"]]\n[[connect]]\nfrom = \"pv\"\nto = \"grid\"\nattrs = [[\"out\", \"in\"]]\n[[connect]]\nfrom = \"grid\"\nto = \"log\"\nattrs = [[\"out\", \"in\"]]\n[[connect]]\nfrom = \"bat\"\nto = \"ctl\"\nattrs = [\"soc\"]\n[[connect]]\nfrom = \"ctl\"\nto = \"bat\"\nattrs = [\"set\"]\nweak = true\n[[connect]]\nfrom = \"bat\"\nto = \"log\"\nattrs = [[\"soc\", \"in\"]]\n"

pub file_has_the_document : table_of file ≡ Some document
unfolding toml_on_literals
file_has_the_document = refl
